-- Locks that opened with these capacities report them.
use Rattle.std.{proofs.Common.{◌≡◌, ℕ, zero, suc, ◌+◌, ◌≤◌, List, [], ◌∷◌, length, Option, None, option_map, refl, ap, ◌∙◌, arith}, specs.Prelude.slice_get}
use Rattle.{event_log.specs.declared.ids.LockId.{LockId, TheVariants.Buffer}, layer_traits.specs.Blocks.Capacities.{with_cap_of, caps_from}}

module _ {L : Type 0} (capacity : L → ℕ) (fresh : ℕ → L) (shows : (n : ℕ) → capacity (fresh n) ≡ n) (all : List ℕ) (locks : LockId → Option L)
    (opens : (n : ℕ) → locks (Buffer (record { 0 = n })) ≡ option_map fresh (slice_get all n)) where
  here : (n : ℕ) (o : Option ℕ) → slice_get all (n + 0) ≡ o → locks (Buffer (record { 0 = n })) ≡ option_map fresh o
  here n o is = let at : n ≡ n + 0 = omega arith in opens n ∙ ap (option_map fresh) (ap (slice_get all) at ∙ is)

  further : (n i : ℕ) (o : Option ℕ) → slice_get all (n + suc i) ≡ o → slice_get all (n + 1 + i) ≡ o
  further n i o is = let at : n + 1 + i ≡ n + suc i = omega arith in ap (slice_get all) at ∙ is

  caps_read : (caps : List ℕ) (more n : ℕ) → ((i : ℕ) → slice_get all (n + i) ≡ slice_get caps i) → length caps ≤ more → caps_from capacity more n locks ≡ caps
  unfolding caps_from
  caps_read [] zero n same few = refl
  caps_read (k ∷ caps) zero n same few = absurd (omega (arith, few))
  caps_read [] (suc more) n same few = ap (λ o. with_cap_of capacity o (caps_from capacity more (n + 1) locks)) (here n None (same 0))
  caps_read (k ∷ caps) (suc more) n same few = grind (arith, caps_read caps more (n + 1), here, further)

  -- the capacities that the locks report are those with which they opened
  pub caps_observed : (most : ℕ) → length all ≤ most → caps_from capacity most 0 locks ≡ all
  caps_observed most few = grind (arith, caps_read)
