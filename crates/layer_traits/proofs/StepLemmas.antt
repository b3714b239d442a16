-- The steps at the front of a list that are those of a CPU, part by part.
use Rattle.std.proofs.Common.{ℕ, ◌+◌, ◌-◌, ◌≤◌, List, length, drop, slice_range, subst, arith, length-drop}
use Rattle.std.proofs.{Math.Seq.{take-add, take-length}, lemmas.List.{length-take-le, replicate-append-replicate, take_rest}}
use Rattle.{event_log.specs.declared.ids.CpuId.CpuId, layer_traits.specs.Polling.Spins.BeginWith}

module _ (cpu : CpuId) (n k : ℕ) (steps : List CpuId) (begin : BeginWith cpu n steps) where
  -- so many more at the front of the rest
  begin_further : BeginWith cpu k (drop n steps) → BeginWith cpu (n + k) steps
  begin_further more = grind (arith, length-drop, take-add, replicate-append-replicate)

  -- the same, as a slice has the rest
  pub begin_rest : BeginWith cpu k (slice_range steps n (length steps)) → BeginWith cpu (n + k) steps
  begin_rest rest = begin_further (subst (λ (xs : List CpuId). BeginWith cpu k xs) (take_rest steps n) rest)

  -- a whole part at the front of the rest
  pub begin_part : k ≤ length steps - n → BeginWith cpu (length (slice_range steps n (n + k))) (slice_range steps n (n + k)) → BeginWith cpu (n + k) steps
  begin_part within part = grind (arith, length-drop, length-take-le, begin_further, take-length)
