use Rattle.{std.proofs.Common.{Ok, Err, refl}, mctower.{specs.{Output.between, Running.NoCondition}, proofs.Unguarded.{fault_told, runs_alike, state_of}}}
use Rattle.mctower.proofs.run.plan_runs.PlanRunOverTower.over.Goals as goal

pub returns-in_err-system : goal.returns-in_err-system
returns-in_err-system g c =
    let run = c.args.self.now in
    let fault = c.in_err-system.field-0.0 in
    let out = between g.O.Write.contents run.out.now c.run_boot.new.sink in
    let runs = runs_alike g.I.CallLayer.IsStepwise g.met.I.Stepwise.steps run.plan.now run.steps.now (Err fault) out c.in_err-system.ensures in
    (refl, fault_told (Ok run.plan.now) run.steps.now fault _ out runs c.from_residual.ensures.1)

pub returns : goal.returns
returns g c =
    let run = c.args.self.now in
    let stepwise = g.I.CallLayer.IsStepwise in
    let system = c.in_ok-system.system in
    let out = between g.O.Write.contents run.out.now c.run_boot.new.sink in
    let runs = runs_alike stepwise g.met.I.Stepwise.steps run.plan.now run.steps.now (Ok system) out c.in_ok-system.ensures in
    let told = state_of stepwise NoCondition (λ always. g.met.I.Stepwise.steps) system c.state_of.result c.state_of.ensures in
    (refl, record { answer = Ok system; runs = runs; tells = told })
