use Rattle.std.proofs.Common.{◌∙◌, ap, arith, zero-add}
use Rattle.{event_log.specs.Actions.phase, cpu_workers.{specs.declared.counting.TheConstants.NUMBER, proofs.CountMachines.gives_are_sections}}
use Rattle.mctower.proofs.locks.rounds.count_rounds.Goals as goal

pub rounds-requires-clause-ready : goal.rounds-requires-clause-ready
rounds-requires-clause-ready g c =
    rw c.as_mut_slice.ensures.value (c.in_ok-parts.ensures.ready c.in_ok-machine.machine
    (λ cpu below. c.in_ok-machine.ensures.owned cpu (omega arith)) (λ cpu below. c.in_ok-machine.ensures.outside cpu))

pub rounds-requires-clause-rests : goal.rounds-requires-clause-rests
rounds-requires-clause-rests g c cpu = ap (phase cpu) c.in_ok-machine.ensures.none

pub returns-clause-opening : goal.returns-clause-opening
returns-clause-opening g c = ap (λ blocks. blocks NUMBER) c.rounds.ensures.opening ∙ c.in_ok-machine.ensures.opening

pub returns-clause-counted : goal.returns-clause-counted
returns-clause-counted g c =
    let seen_is = g.met.L.Layer.seen_is c.requires.stepwise in
    rw (← gives_are_sections NUMBER (g.L.Layer.acts c.rounds.new.machine), ← seen_is c.rounds.new.machine, c.rounds.ensures.counted)
    (rw (seen_is c.in_ok-machine.machine, c.in_ok-machine.ensures.none, c.as_mut_slice.ensures.value, c.in_ok-parts.ensures.long) (zero-add _))

pub returns-clause-order : goal.returns-clause-order
returns-clause-order g c =
    rw (c.rounds.ensures.order, c.in_ok-machine.ensures.none, c.as_mut_slice.ensures.value, c.in_ok-parts.ensures.long)
