-- The greatest number of some CPUs.
use Rattle.std.{proofs.Common.{◌≡◌, ◌⊎◌, inl, inr, ℕ, ◌<◌, ◌≤◌, List, length, slice_index_or, arith}, specs.Prelude.All}
use Rattle.event_log.specs.declared.ids.CpuId.{CpuId}

-- no number of the first i is greater, and it is 0 or one of them
pub record IsGreatest (most i : ℕ) (cpus : List CpuId) : Type 0 where
  pub bound : (k : ℕ) (d : CpuId) → k < i → (slice_index_or cpus k d).0 ≤ most
  pub among : (most ≡ 0) ⊎ ((k : ℕ) × (k < i) × ((d : CpuId) → (slice_index_or cpus k d).0 ≡ most))

module _ (cpus : List CpuId) (most count i : ℕ) (end : i ≡ length cpus) (is : IsGreatest most i cpus) where
  -- all are below what the greatest is below
  pub all_below : most < count → All (λ c. c.0 < count) cpus
  all_below less k d within = let low = is.bound k d (omega (arith, within, end)) in omega (arith, low, less)

  -- and it is below what all are below, if there is one
  pub below_too : 0 < length cpus → All (λ c. c.0 < count) cpus → most < count
  below_too some all = go is.among
    where
      go : (most ≡ 0) ⊎ ((k : ℕ) × (k < i) × ((d : CpuId) → (slice_index_or cpus k d).0 ≡ most)) → most < count
      go (inl none) = let first = all 0 (record { 0 = 0 }) some in omega (arith, first, none)
      go (inr (k, within, one)) =
          let here = all k (record { 0 = 0 }) (omega (arith, within, end)) in let same = one (record { 0 = 0 }) in omega (arith, here, same)
