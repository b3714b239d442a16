use Rattle.{std.{proofs.Common.{ap, refl, sym}, specs.Prelude.Err}, tracer.specs.Gather.{traces_in, entries_in}, mctower.specs.Plans.from_gather}
use Rattle.mctower.{specs.declared.run.run_faults.Fault.TheVariants.WriteFault, proofs.SpellingLemmas.{err_writes, gather_refused, out_so, spelled_so}}
use Rattle.mctower.proofs.run.trace_texts.write_text.Goals as goal

pub returns-in_err-order : goal.returns-in_err-order
returns-in_err-order g c =
    err_writes c.args.caps.now (traces_in c.args.traces.now) _ c.from_residual.result (from_gather c.in_err-order.field-0.0) _ c.from_residual.ensures.1
    (gather_refused (Unit {0}) c.args.caps.now (traces_in c.args.traces.now) _ c.in_err-order.field-0.0 _ c.requires.text (c.requires.live, refl)
    (λ is. c.in_err-order.ensures.none (ap Err is)))

pub write_trace-requires-clause-spellable : goal.write_trace-requires-clause-spellable
write_trace-requires-clause-spellable g c =
    rw c.deref-2.ensures.value (spelled_so c.args.caps.now (traces_in c.args.traces.now) _ (entries_in c.in_ok-order.order.items) c.requires.text
    c.in_ok-order.ensures.order (rw c.deref.ensures.value at c.values_fit.ensures))

pub returns-in_err-write_trace : goal.returns-in_err-write_trace
returns-in_err-write_trace g c =
    err_writes c.args.caps.now (traces_in c.args.traces.now) _ c.from_residual-in_err-write_trace.result WriteFault _
    c.from_residual-in_err-write_trace.ensures.1 (
      sym c.in_err-write_trace.ensures.failed,
      out_so c.args.caps.now (traces_in c.args.traces.now) _ (entries_in c.in_ok-order.order.items) _ c.requires.text c.in_ok-order.ensures.order
          c.in_ok-order.ensures.greedy (rw c.deref.ensures.value at c.values_fit.ensures) (rw c.deref-2.ensures.value at c.in_err-write_trace.ensures.out),
    )

pub returns : goal.returns
returns g c = (
  sym c.in_ok-write_trace.ensures.failed,
  out_so c.args.caps.now (traces_in c.args.traces.now) _ (entries_in c.in_ok-order.order.items) _ c.requires.text c.in_ok-order.ensures.order
      c.in_ok-order.ensures.greedy (rw c.deref.ensures.value at c.values_fit.ensures) (rw c.deref-2.ensures.value at c.in_ok-write_trace.ensures.out),
)
