use Rattle.std.proofs.Common.{rules, refl, ◌∙◌, sym, arith}
use Rattle.cpu.{specs.{Cpus.guests_rest, CpuSteps.SteppedAt}, proofs.{StepTable.TablePasses.halted_steps, CpuSteps.CpuRuns.one_step}}
use Rattle.cpu.proofs.{OverLayer.CpuOverLayer.{laws_of, layered, tabled_cpu, outset, left_alone, runs_within}, cpus.Cpu.act.{Given.Over, Goals.After-go}}
use Rattle.cpu.proofs.cpus.Cpu.act.Goals as goal

pub reason-requires : goal.reason-requires
reason-requires g c = runs_within (layered (laws_of g.met.I.CallLayer) c.args.m.now c.args.self.now c.requires.agrees)

pub returns-in-Some-clause-leaves : goal.returns-in-Some-clause-leaves
returns-in-Some-clause-leaves g c = left_alone g.I.CallLayer c.args.m.now c.args.self.now _ c.requires.agrees.number refl refl refl refl (guests_rest refl refl)

pub returns-in-Some-clause-steps : goal.returns-in-Some-clause-steps
returns-in-Some-clause-steps g c = λ step.
    let cpu = layered (laws_of g.met.I.CallLayer) c.args.m.now c.args.self.now c.requires.agrees in
    λ setup of. halted_steps (tabled_cpu cpu step) _ _ setup of (outset cpu step).inside c.in-Some.reason (outset cpu step).busy
    (sym (sym c.in-Some.is ∙ c.reason.ensures))

pub go-requires : goal.go-requires
go-requires g c =
    let room = c.requires.room in
    record { agrees = c.requires.agrees; some = omega arith; room = omega (arith, room); live = search rules }

-- the step that it took
went : (g : Over) (c : After-go g) → SteppedAt g.I.CallLayer c.args.m.now c.args.self.now c.go.new.m c.go.new.self
went g c = let some = c.go.ensures.some in let few = c.go.ensures.few in one_step c.go.ensures.ran (omega (arith, some, few))

pub returns-clause-coupled : goal.returns-clause-coupled
returns-clause-coupled g c = (went g (goal.at.returns-clause-coupled g c).After-go).agrees.coupled

pub returns-clause-is : goal.returns-clause-is
returns-clause-is g c = (went g (goal.at.returns-clause-is g c).After-go).agrees.is

pub returns-clause-leaves : goal.returns-clause-leaves
returns-clause-leaves g c = (went g (goal.at.returns-clause-leaves g c).After-go).leaves

pub returns-clause-table : goal.returns-clause-table
returns-clause-table g c = (went g (goal.at.returns-clause-table g c).After-go).agrees.table

pub returns-clause-steps : goal.returns-clause-steps
returns-clause-steps g c = (went g (goal.at.returns-clause-steps g c).After-go).steps
