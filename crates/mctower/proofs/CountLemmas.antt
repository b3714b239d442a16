-- Facts on counting.
use Rattle.std.proofs.{Common.{◌≡◌, ◌+◌, List, [], ◌∷◌, ◌++◌, Option, refl, arith, length, inl, inr}, lemmas.{Bool.cases_lt, List.get_or_append_left}}
use Rattle.{std.proofs.lemmas.List.{get_or_push, length-append}, event_log.specs.declared.ids.CpuId.CpuId, mctower.specs.Count.{AreReady, IsCountReady}}

-- one ready part more
pub one_part_more : {P M S : Type 0} (cpu_of : P → CpuId) (under_way : P → Option S) (Coupled : P → M → Type 0) (parts : List P) (part : P) (m : M)
    → AreReady cpu_of under_way Coupled parts m → IsCountReady cpu_of under_way Coupled (length parts) part m
    → AreReady cpu_of under_way Coupled (parts ++ part ∷ []) m
one_part_more cpu_of under_way Coupled parts part m ready last i d below = elim (cases_lt i (length parts)) [
  | inl before ↦ rw (get_or_append_left parts (part ∷ []) d i before) (ready i d before)
  | inr at ↦
      let long : length (parts ++ part ∷ []) ≡ length parts + 1 = length-append parts (part ∷ []) in
      let here : i ≡ length parts = omega arith in
      rw (here, get_or_push parts part d (length parts) refl) last
]
