use Rattle.std.{proofs.Common.{◌≡◌, ◌+◌, ◌*◌, ◌≤◌, ◌++◌, length, drop}, specs.List.flat_map}
use Rattle.tracer.specs.{declared.writing.TheConstants.LINE, Pieces.behind_comma}
use Rattle.tracer.proofs.writing.add_words.Given as goal

abbrev pub invariant-loop-left : goal.invariant-loop-left
invariant-loop-left l = record {
  counted : l.left ≤ length l.words;
  room : 21 * l.left ≤ l.at;
  within : l.at ≤ LINE;
  near : l.end + 21 * l.left ≤ l.at + 21 * length l.words;
  line : drop l.at l.line ≡ flat_map behind_comma (drop l.left l.words) ++ drop l.end l.fn.line;
}

abbrev pub decreases-loop-left : goal.decreases-loop-left
decreases-loop-left l = l.left
