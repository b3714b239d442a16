-- The threads whose home is a CPU, home by home.
use Rattle.std.proofs.Common.{◌≡◌, ℕ, ◌+◌, ◌<◌, ◌≤◌, min, Bool, true, false, List, [], ◌∷◌, ◌++◌, length, take, get_or, if◌then◌else◌, refl, ap, ◌∙◌, arith}
use Rattle.std.proofs.lemmas.{Bool.{eq-eqb, ne_eqb}, List.{take_more, length-take}}
use Rattle.{event_log.specs.{declared.ids.{CpuId.CpuId, Tid.Tid}, History.same_cpu}, thread_blocks.{specs.Queues.is_in, proofs.Members.tid_numbered}}
use Rattle.layer_traits.specs.Threads.Places.{homed}

-- one home more: its thread is the last, if this CPU is its home
homed_more : (c : CpuId) (n : ℕ) (homes : List CpuId) (home : CpuId)
    → homed c n (homes ++ home ∷ []) ≡ (if same_cpu c home then homed c n homes ++ tid_numbered (n + length homes) ∷ [] else homed c n homes)
homed_more c n [] home = ap (λ k. if same_cpu c home then tid_numbered k ∷ [] else []) (omega arith)
homed_more c n (x ∷ homes) home = grind (arith, homed_more c (n + 1) homes home)

-- no thread beyond the homes is among them
homed_beyond : (c : CpuId) (n : ℕ) (homes : List CpuId) (t : Tid) → n + length homes ≤ t.0 → is_in t (homed c n homes) ≡ false
homed_beyond c n [] t beyond = refl
homed_beyond c n (x ∷ homes) t beyond = grind (arith, ne_eqb, homed_beyond c (n + 1) homes t (omega arith))

-- the loop over the homes: the next thread is not among those before it
pub next_new : (c : CpuId) (homes : List CpuId) (i : ℕ) → is_in (tid_numbered i) (homed c 0 (take i homes)) ≡ false
next_new c homes i = grind (arith, length-take, homed_beyond)

next : (c : CpuId) (homes : List CpuId) (i : ℕ) (d : CpuId) → i < length homes → (b : Bool) → same_cpu c (get_or homes i d) ≡ b
    → homed c 0 (take (i + 1) homes) ≡ (if b then homed c 0 (take i homes) ++ tid_numbered i ∷ [] else homed c 0 (take i homes))
next c homes i d within b is =
    let most : 0 + length (take i homes) ≡ i = let so : length (take i homes) ≡ min i (length homes) = length-take i homes in omega (arith, so) in
    ap (homed c 0) (take_more homes i d within) ∙ (homed_more c 0 (take i homes) (get_or homes i d)
    ∙ (λ j. if is j then homed c 0 (take i homes) ++ tid_numbered (most j) ∷ [] else homed c 0 (take i homes)))

-- and joins them, if this CPU is its home
pub homed_joins : (c : CpuId) (homes : List CpuId) (i : ℕ) (d : CpuId) → i < length homes → c.0 ≡ (get_or homes i d).0
    → homed c 0 (take (i + 1) homes) ≡ homed c 0 (take i homes) ++ tid_numbered i ∷ []
homed_joins c homes i d within here = next c homes i d within true (eq-eqb c.0 (get_or homes i d).0 here)

pub homed_stays : (c : CpuId) (homes : List CpuId) (i : ℕ) (d : CpuId) → i < length homes → (c.0 ≡ (get_or homes i d).0 → ⊥)
    → homed c 0 (take (i + 1) homes) ≡ homed c 0 (take i homes)
homed_stays c homes i d within elsewhere = next c homes i d within false (ne_eqb c.0 (get_or homes i d).0 elsewhere)
