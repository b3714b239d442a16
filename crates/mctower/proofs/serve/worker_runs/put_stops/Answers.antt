use Rattle.{std.proofs.Common.sym, tracer.proofs.{SinkLemmas.all_out, LineLemmas.{numbered_out, numbered_failed}}}
use Rattle.{cpu_workers.specs.declared.workers.stops.Stop.TheVariants.AllEnded, mctower.specs.Threads.stop_pieces}
use Rattle.mctower.proofs.serve.worker_runs.put_stops.Goals as goal

pub loop-c-preserved : goal.loop-c-preserved
loop-c-preserved g c =
    let out = rw c.stop_word.ensures at c.in_ok-put_cpu.ensures.out in
    record {
      live = sym c.in_ok-put_cpu.ensures.failed;
      out = numbered_out stop_pieces c.args.stops.now c.loop-c.c AllEnded _ _ _ c.loop-c-test.true c.loop-c.invariant.out
          (all_out _ _ _ _ (sym c.in_ok-put_cpu.ensures.failed) out);
    }

pub returns-in_err-put_cpu-clause-out : goal.returns-in_err-put_cpu-clause-out
returns-in_err-put_cpu-clause-out g c =
    let out = rw c.stop_word.ensures at c.in_err-put_cpu.ensures.out in
    numbered_failed stop_pieces c.args.stops.now c.loop-c.c AllEnded _ _ _ _ c.loop-c-test.true c.loop-c.invariant.out (sym c.in_err-put_cpu.ensures.failed) out
