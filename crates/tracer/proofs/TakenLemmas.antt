-- Two orders of the same traces that each take the first trace that is ready are one.
use Rattle.std.proofs.{Common.{◌≡◌, inl, inr, List, [], ◌∷◌, ◌++◌, length, refl, sym, ◌∙◌, arith, slice_set}, lemmas.Bool.{cases_eq, cases_lt}}
use Rattle.{event_log.specs.{declared.entries.Entry.Entry, Traces.IsInterleaving}, tracer.specs.{Gather.TakesFirstReadyFrom, OneOrder.OneOrderIsTaken}}
use Rattle.tracer.proofs.{OrderLemmas.at_head, GatherLemmas.{left_of, all_used, left_of_more}}

-- an order has as many entries as its traces
length_of_order : (traces : List (List Entry)) (order : List Entry) → IsInterleaving traces order → length order ≡ left_of traces
length_of_order traces [] none = sym (all_used traces none)
length_of_order traces (e ∷ es) keeps =
    let at = at_head traces keeps.0 e keeps.1 keeps.2 in
    omega (arith, length_of_order (slice_set traces keeps.0 keeps.1) es keeps.3, left_of_more traces keeps.0 e keeps.1 at)

-- both take each entry from the same trace
taken_alike : (earlier : List Entry) (traces : List (List Entry)) (one other : List Entry) → length one ≡ length other
    → TakesFirstReadyFrom earlier traces one → TakesFirstReadyFrom earlier traces other → one ≡ other
taken_alike earlier traces [] [] long first second = refl
taken_alike earlier traces [] (f ∷ fs) long first second = absurd (omega (arith, long))
taken_alike earlier traces (e ∷ es) [] long first second = absurd (omega (arith, long))
taken_alike earlier traces (e ∷ es) (f ∷ fs) long first second = elim (cases_eq first.0 second.0) [
  | inl place ↦
      let fronts : e ∷ first.1 ≡ f ∷ second.1 = cc (first.2, second.2, place) in
      let entry : e ≡ f = cc in
      let rest : first.1 ≡ second.1 = cc in
      let later : TakesFirstReadyFrom (earlier ++ e ∷ []) (slice_set traces first.0 first.1) fs = rw (place, entry, rest) second.5 in
      let more : es ≡ fs = taken_alike (earlier ++ e ∷ []) (slice_set traces first.0 first.1) es fs (omega (arith, long)) first.5 later in
      cc (entry, more)
  | inr differ ↦ elim (cases_lt first.0 second.0) [
    | inl before ↦ absurd (second.4 first.0 before (rw (at_head traces first.0 e first.1 first.2) first.3))
    | inr behind ↦ absurd (first.4 second.0 (omega arith) (rw (at_head traces second.0 f second.1 second.2) second.3))
  ]
]

pub linearization : OneOrderIsTaken
linearization traces one other keeps also first second =
    taken_alike [] traces one other (length_of_order traces one keeps ∙ sym (length_of_order traces other also)) first second
