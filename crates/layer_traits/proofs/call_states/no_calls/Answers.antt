-- Each element is that of a thread that never called: the table is this one element repeated.
use Rattle.std.{specs.{Prelude.{◌≡◌, ℕ, ◌<◌, List, replicate}, Array.AllOfLen}, proofs.{Common.{sym, ◌∙◌, arith}, lemmas.List.{ext_get_or, length-replicate}}}
use Rattle.std.proofs.lemmas.List.{get_or-replicate}
use Rattle.{layer_traits.specs.Layers.BufferLaw.no_call, event_log.specs.declared.ids.TheConstants.THREADS}
use Rattle.layer_traits.proofs.call_states.no_calls.Goals as goal

each_same : {A : Type 0} (x : A) (xs : List A) (n : ℕ) → AllOfLen (λ y. y ≡ x) xs n → xs ≡ replicate n x
each_same x xs n each = ext_get_or x xs (replicate n x) (each.long ∙ sym (length-replicate n x))
    (λ i below. let within : i < n = omega (arith, each.long, below) in each.at i x within ∙ sym (get_or-replicate n i x x within))

pub returns : goal.returns
returns c = each_same no_call c.default.result THREADS c.default.ensures
