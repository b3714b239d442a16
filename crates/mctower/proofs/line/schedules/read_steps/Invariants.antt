use Rattle.std.{proofs.Common.{◌≡◌, ◌≤◌, ◌+◌, length, option_map}, specs.{List.slice_split, Option.option_map_or}}
use Rattle.mctower.{specs.{Schedule.{is_comma, schedule_pieces, steps_in}, declared.line.schedules.TheConstants.MOST_STEPS}, proofs.ScheduleLemmas.after}
use Rattle.mctower.proofs.line.schedules.read_steps.Given as goal

-- the steps so far are those of the items before the rest, and no more than a schedule may have
abbrev pub invariant-loop-rest : goal.invariant-loop-rest
invariant-loop-rest l = record {
  read : steps_in (slice_split is_comma l.fn.text) ≡ after l.steps.items (steps_in (schedule_pieces (option_map (λ t. t.now) l.rest)));
  few : length l.steps.items ≤ MOST_STEPS;
}

abbrev pub decreases-loop-rest : goal.decreases-loop-rest
decreases-loop-rest l = option_map_or (λ t. length t.now + 1) l.rest 0
