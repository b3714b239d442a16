use Rattle.std.proofs.Common.{◌≡◌, ◌+◌, ◌≤◌, ◌++◌, length, Ok}
use Rattle.event_log.specs.{declared.messages.TheConstants.WORDS, Reading.{◌>>=◌}}
use Rattle.tracer.specs.Judging.{comma_parts, numbers_in}
use Rattle.tracer.proofs.words.words_in.Given as goal

abbrev pub invariant-loop-front : goal.invariant-loop-front
invariant-loop-front l = record {
  read : (numbers_in (comma_parts l.rest) >>= λ ns. Ok (l.words.items ++ ns)) ≡ numbers_in (comma_parts l.fn.piece);
  counted : length l.words.items + length (comma_parts l.rest) ≡ length (comma_parts l.fn.piece);
  few : length (comma_parts l.fn.piece) ≤ WORDS;
}

abbrev pub decreases-loop-front : goal.decreases-loop-front
decreases-loop-front l = length l.rest
