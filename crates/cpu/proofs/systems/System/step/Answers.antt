use Rattle.std.proofs.Common.{rules, ◌≡◌, ℕ, [], ◌∷◌, take, Some, None, ap, refl, sym, ◌∙◌, arith}
use Rattle.cpu.proofs.{WholeSystems.Moments.calls_stay, StepTable.{Schedules.{TookOne, took_one}, TableHalts.{halted_same, reasons_step}}}
use Rattle.cpu.{proofs.systems.System.step.{Given.Over, Goals.After-turn}, specs.Systems.reason_of}
use Rattle.cpu.proofs.systems.System.step.Goals as goal

pub returns-in-Some-clause-halts : goal.returns-in-Some-clause-halts
returns-in-Some-clause-halts g c = λ step r is_r.
    reasons_step c.args.cpu c.args.self.now c.requires (c.reason.ensures.table step) r
    (sym c.reason.ensures.is ∙ (c.in-Some.is ∙ ap Some (halted_same (c.in-Some.reason) r is_r)))

pub returns-in-Some-clause-calls : goal.returns-in-Some-clause-calls
returns-in-Some-clause-calls g c = calls_stay c.args.cpu _ _ refl refl

-- the step that it took
took : (g : Over) (c : After-turn g) → TookOne g.I.CallLayer.IsStepwise c.args.cpu c.args.self.now c.turn.new.self
took g c =
    let some = c.turn.ensures.some in
    let few = c.turn.ensures.few in
    let one : c.turn.result ≡ 1 = omega (arith, some, few) in
    let live : reason_of c.args.cpu c.args.self.now ≡ None = search rules in
    took_one g.I.CallLayer.IsStepwise c.args.cpu c.args.self.now c.turn.new.self (take c.turn.result (c.args.cpu ∷ []))
    (ap (λ (n : ℕ). take n (c.args.cpu ∷ [])) one) live c.turn.ensures.ran

pub returns-clause-counted : goal.returns-clause-counted
returns-clause-counted g c = λ stepped. (took g (goal.at.returns-clause-counted g c).After-turn).taken

pub returns-clause-calls : goal.returns-clause-calls
returns-clause-calls g c = (took g (goal.at.returns-clause-calls g c).After-turn).calls

pub returns-clause-steps : goal.returns-clause-steps
returns-clause-steps g c = λ step stepped. (took g (goal.at.returns-clause-steps g c).After-turn).step step
