use Rattle.{std.proofs.Common.sym, layer_traits.specs.declared.calls.Place.TheVariants.Running, tracer.proofs.{SinkLemmas.all_out, LineLemmas.numbered_out}}
use Rattle.{tracer.proofs.LineLemmas.numbered_failed, mctower.specs.StateLines.thread_pieces}
use Rattle.mctower.proofs.tell.state_lines.put_threads.Goals as goal

pub loop-t-preserved : goal.loop-t-preserved
loop-t-preserved g c = record {
  live = sym c.in_ok-put_thread.ensures.failed;
  out = numbered_out thread_pieces c.args.places.now c.loop-t.t (Running (record { 0 = 0 })) _ _ _ c.loop-t-test.true c.loop-t.invariant.out
      (all_out _ _ _ _ (sym c.in_ok-put_thread.ensures.failed) c.in_ok-put_thread.ensures.out);
}

pub returns-in_err-put_thread-clause-out : goal.returns-in_err-put_thread-clause-out
returns-in_err-put_thread-clause-out g c =
    numbered_failed thread_pieces c.args.places.now c.loop-t.t (Running (record { 0 = 0 })) _ _ _ _ c.loop-t-test.true c.loop-t.invariant.out
    (sym c.in_err-put_thread.ensures.failed) c.in_err-put_thread.ensures.out
