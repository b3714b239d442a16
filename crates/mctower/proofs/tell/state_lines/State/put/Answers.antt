use Rattle.{std.proofs.Common.sym, tracer.proofs.SinkLemmas.{outs_before, outs_then, all_out}}
use Rattle.mctower.proofs.tell.state_lines.State.put.Goals as goal

pub returns-in_err-put_threads-clause-out : goal.returns-in_err-put_threads-clause-out
returns-in_err-put_threads-clause-out g c =
    let cpus = rw c.as_slice.ensures.value at c.in_ok-put_cpus.ensures.out in
    outs_then _ _ _ _ _ _ (all_out _ _ _ _ (sym c.in_ok-put_cpus.ensures.failed) cpus)
    (outs_before _ _ _ _ _ (sym c.in_err-put_threads.ensures.failed) c.in_err-put_threads.ensures.out)

pub returns-clause-out : goal.returns-clause-out
returns-clause-out g c =
    let cpus = rw c.as_slice.ensures.value at c.in_ok-put_cpus.ensures.out in
    outs_then _ _ _ _ _ _ (all_out _ _ _ _ (sym c.in_ok-put_cpus.ensures.failed) cpus)
    (outs_then _ _ _ _ _ _ (all_out _ _ _ _ (sym c.in_ok-put_threads.ensures.failed) c.in_ok-put_threads.ensures.out) c.put_quiet.ensures.out)
