use Rattle.{std.{proofs.{Common.{inl, inr, arith}, lemmas.{Bool.cases_eq, List.get_or-map}}, specs.Borrow.Bor}, event_log.specs.declared.entries.Entry.Entry}
use Rattle.mctower.proofs.run.trace_texts.values_fit.Goals as goal

pub loop-entry-preserved : goal.loop-entry-preserved
loop-entry-preserved c k d lt = elim (cases_eq k c.loop-entry.entry-index) [
  | inl same ↦
      let at = get_or-map (λ (p : Bor Entry). p.now) c.args.entries.now c.loop-entry.entry-index c.entry-item.result d c.loop-entry-test.true in
      rw (same, at, ← c.entry-item.is) c.fits.ensures
  | inr differ ↦ c.loop-entry.invariant k d (omega (arith, lt, differ))
]
