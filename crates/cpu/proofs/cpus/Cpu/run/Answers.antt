use Rattle.std.proofs.Common.{◌≡◌, ◌+◌, None, rules, arith}
use Rattle.{layer_traits.{specs.Layers.IpcLaw.ipc_plan, proofs.PollRunLemmas.looks_keep}, cpu.specs.CpuSteps.{RunsAt, stops_at}}
use Rattle.cpu.proofs.{CpuSteps.{CallRuns.looks_run, CpuRuns.{goes_later, runs_agree, runs_on, runs_room, some_taken}}, OverLayer.CpuOverLayer.laws_of}
use Rattle.cpu.proofs.{OverLayer.CpuOverLayer.{layered, runs_within}, cpus.Cpu.run.{Given.Over, Goals.{After-go, After-looks}}}
use Rattle.cpu.proofs.cpus.Cpu.run.Goals as goal

pub loop-most-init : goal.loop-most-init
loop-most-init g c = record { few = c.requires.some; live = c.requires.live; ran = RunsAt.no_steps }

pub looks-requires : goal.looks-requires
looks-requires g c =
    let so = c.loop-most.invariant in
    let wide = c.requires.room in
    let left = runs_room so.ran in
    record { coupled = (runs_agree c.requires.agrees so.ran).coupled; some = so.few; room = omega (arith, wide, left) }

-- the steps with the polls of a lock after them, after which the CPU is not halted
ran_looking : (g : Over) (c : After-looks g)
    → RunsAt g.I.CallLayer c.args.m.now c.args.self.now c.looks.new.taken c.looks.new.m (record c.loop-most.self { part = c.looks.new.self })
ran_looking g c =
    let laws = laws_of g.met.I.CallLayer in
    looks_run laws (layered laws c.args.m.now c.args.self.now c.requires.agrees) c.loop-most.invariant.ran c.looks.ensures.looked_on

live_looking : (g : Over) (c : After-looks g) → stops_at g.I.CallLayer (record c.loop-most.self { part = c.looks.new.self }) ≡ None
live_looking g c = let same = looks_keep g.I.CallLayer ipc_plan c.looks.ensures.looked_on in rw (same.0, same.1) c.loop-most.invariant.live

pub returns-then-looks : goal.returns-then-looks
returns-then-looks g c = record {
  some = some_taken _ _ _ c.requires.some (c.looks.ensures.ends c.if-looks.true);
  few = c.looks.ensures.few;
  ran = ran_looking g (goal.at.returns-then-looks g c).After-looks;
}

pub go-requires : goal.go-requires
go-requires g c =
    let at = (goal.at.go-requires g c).After-looks in
    goes_later c.requires (ran_looking g at) (c.looks.ensures.goes_on c.if-looks.false).0 (live_looking g at)

-- and those that followed
ran_going : (g : Over) (c : After-go g)
    → RunsAt g.I.CallLayer c.args.m.now c.args.self.now (c.looks.new.taken + c.go.result) c.go.new.m c.go.new.self
ran_going g c = runs_on (ran_looking g (goal.at-After-go g c).After-looks) c.go.ensures.ran

pub reason-requires : goal.reason-requires
reason-requires g c =
    let agrees = runs_agree c.requires.agrees (ran_going g (goal.at.reason-requires g c).After-go) in
    runs_within (layered (laws_of g.met.I.CallLayer) c.go.new.m c.go.new.self agrees)

pub returns-then-taken-most : goal.returns-then-taken-most
returns-then-taken-most g c =
    let looks = c.looks.ensures.few in
    let some = c.go.ensures.some in
    let few = c.go.ensures.few in
    record {
      some = omega (arith, some);
      few = omega (arith, looks, few);
      ran = ran_going g (goal.at.returns-then-taken-most g c).After-go;
    }

pub loop-most-preserved : goal.loop-most-preserved
loop-most-preserved g c =
    let looks = c.looks.ensures.few in
    record {
      few = grind (arith, looks, c.go.ensures.few, c.if-taken-most.false);
      live = search rules;
      ran = ran_going g (goal.at.loop-most-preserved g c).After-go;
    }
