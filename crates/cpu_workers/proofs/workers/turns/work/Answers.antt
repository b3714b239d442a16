use Rattle.std.proofs.Common.{rules, ◌≤◌, arith, ap, ◌∙◌, Some}
use Rattle.cpu_workers.{specs.Reports.most, proofs.Turning.{has_run, ran_none, ran_through}}
use Rattle.cpu_workers.proofs.workers.turns.work.Goals as goal

pub loop-init : goal.loop-init
loop-init g c = record { ran = ran_none (g.G.Gate.MayAnswer c.args.gate.now) c.args.turns c.args.worker.now c.requires; coupled = omega arith }

pub returns-in-Some-before : goal.returns-in-Some-before
returns-in-Some-before g c =
    let before = c.before-in-loop.ensures in
    let stop = c.in-Some-before.stop in
    let is = c.in-Some-before.is in
    has_run c.loop.invariant.ran _ before.held before.kept (before.rests stop is) (before.stops stop is) (λ used. before.used (is ∙ ap Some used))

pub loop-preserved : goal.loop-preserved
loop-preserved g c =
    let before = c.before-in-loop.ensures in
    let small : c.args.turns ≤ most = omega arith in
    let all = c.at_once-open.ensures in
    let less = c.at_most-most.ensures.few in
    let few = c.turns-gone.ensures.few in
    rw (c.saturating_add-taken.ensures) (record {
      ran = ran_through c.loop.invariant.ran _ before.held before.kept small c.loop.invariant.coupled (before.passes (search rules))
          (before.may_take (search rules)) c.turns-gone.ensures.took (λ many. let free = all.free (omega (arith, many, few, less)) in record {
            free = free.0;
            below = (let below = free.1 in omega (arith, below, few, less));
            passes = λ k least short. rw (← c.number.ensures) (all.open (omega (arith, many, few, less)) k least (omega (arith, short, few, less)));
          });
      coupled = grind arith;
    })
