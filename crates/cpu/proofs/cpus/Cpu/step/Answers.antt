use Rattle.std.proofs.Common.{refl, ap, sym, arith}
use Rattle.cpu.{specs.Cpus.step_answer, proofs.{CpuSteps.CallRuns.look_steps, OverLayer.CpuOverLayer.{laws_of, layered}}}
use Rattle.cpu.proofs.cpus.Cpu.step.Goals as goal

-- the poll of a lock that it did was a step
pub returns-then-look : goal.returns-then-look
returns-then-look g c =
    let laws = laws_of g.met.I.CallLayer in
    let p = c.args.self.now in
    let cpu = layered laws c.args.m.now p c.requires.agrees in
    let looked = look_steps laws c.args.m.now p cpu c.look.new.m (record p { part = c.look.new.self }) c.if-look.ensures refl refl refl refl (omega arith) in
    record {
      coupled = looked.agrees.coupled;
      is = looked.agrees.is;
      leaves = looked.leaves;
      answer = ap step_answer (sym looked.live);
      still = λ r halted. absurd (cc halted);
      table = looked.agrees.table;
      steps = looked.steps;
    }

pub act-requires-clause-agrees : goal.act-requires-clause-agrees
act-requires-clause-agrees g c = let still = c.if-look.ensures.still refl in rw (still.0, still.1) c.requires.agrees
