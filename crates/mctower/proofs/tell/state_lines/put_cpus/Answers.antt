use Rattle.{std.proofs.Common.{None, sym}, tracer.proofs.{SinkLemmas.all_out, LineLemmas.{numbered_out, numbered_failed}}}
use Rattle.mctower.specs.StateLines.{halted_pieces}
use Rattle.mctower.proofs.tell.state_lines.put_cpus.Goals as goal

pub loop-c-preserved : goal.loop-c-preserved
loop-c-preserved g c =
    let out = rw c.halted_word.ensures at c.in_ok-put_cpu.ensures.out in
    record {
      live = sym c.in_ok-put_cpu.ensures.failed;
      out = numbered_out halted_pieces c.args.halted.now c.loop-c.c None _ _ _ c.loop-c-test.true c.loop-c.invariant.out
          (all_out _ _ _ _ (sym c.in_ok-put_cpu.ensures.failed) out);
    }

pub returns-in_err-put_cpu-clause-out : goal.returns-in_err-put_cpu-clause-out
returns-in_err-put_cpu-clause-out g c =
    let out = rw c.halted_word.ensures at c.in_err-put_cpu.ensures.out in
    numbered_failed halted_pieces c.args.halted.now c.loop-c.c None _ _ _ _ c.loop-c-test.true c.loop-c.invariant.out (sym c.in_err-put_cpu.ensures.failed) out
