-- How the views change with a step.
use Rattle.std.proofs.Common.{◌≡◌, ◌≢◌, ◌==◌, ℕ, zero, suc, ◌<◌, ◌⊎◌, inl, inr, ⊎_elim, if◌then◌else◌, List, [], ◌∷◌, ◌++◌, length, set, ap, sym, ◌∙◌}
use Rattle.{std.proofs.Common.{subst, eq-eqb, ne_eqb}, atomic_table.proofs.Lists.{at_set, set_else}, event_log.specs.declared.ids.{CpuId.CpuId, LockId.LockId}}
use Rattle.{event_log.specs.{declared.events.Event.Event, History.AreOthers, WordsLog.cpu_of_event}, layer_traits.specs.declared.edits.Mark.Mark}
use Rattle.table_machine.{specs.{declared.views.View.View, Views.{caught_up, Has, EndsWith, IsSince, Owns, Coupled, Sees}}, proofs.Logs.{since_more, since_all}}
use Rattle.table_machine.proofs.Logs.{ends_nil, ends_more, ends_all}
use mathlib.Core.Option.{some, some-injective, some-ne-none}
use lib.ListN.{get_elem?}

-- what holds of the element that was put, and of each other, holds of all
pub all_set : {A : Type 0} (P : ℕ → A → Type 0) (l : List A) (id : ℕ) (a : A) → P id a → ((i : ℕ) (b : A) → i ≢ id → get_elem? l i ≡ some b → P i b)
    → (i : ℕ) (b : A) → get_elem? (set l id a) i ≡ some b → P i b
all_set P l id a here others i b at = elim (at_set l id i a b at) [ inl t ↦ rw (t.0, ← t.1) here | inr t ↦ others i b t.0 t.1 ]

-- what holds of the last element, and of each before it, holds of all
pub all_end : {A : Type 0} (P : ℕ → A → Type 0) (l : List A) (a : A) → P (length l) a → ((i : ℕ) (b : A) → get_elem? l i ≡ some b → P i b)
    → (i : ℕ) (b : A) → get_elem? (l ++ a ∷ []) i ≡ some b → P i b
all_end P [] a last before zero b at = subst (P 0) (some-injective a b at) last
all_end P [] a last before (suc i) b at = absurd (some-ne-none b (sym at))
all_end P (x ∷ xs) a last before zero b at = before 0 b at
all_end P (x ∷ xs) a last before (suc i) b at = all_end (λ j. P (suc j)) xs a last (λ j. before (suc j)) i b at

module _ {E B : Type 0} where
  pub fits_of : (start : List (LockId × B)) (cpus : List CpuId) (log history : List (Event (Mark E))) → EndsWith log history
      → ((c : CpuId) → Has c cpus → IsSince log history c) → Coupled log (caught_up start cpus history)
  fits_of start cpus log history ends since = record { front = ends; told = ends_nil log; cpus = since; lent = λ c has. absurd has }

  pub fits_viewed : (start : List (LockId × B)) (cpus : List CpuId) (log : List (Event (Mark E))) → Coupled log (caught_up start cpus log)
  fits_viewed start cpus log = fits_of start cpus log log (ends_all log) (λ c has. since_all c log)

  fits_more : (es log : List (Event (Mark E))) (v : View E B) → ((c : CpuId) → Owns c v → AreOthers cpu_of_event c es) → Coupled log v → Coupled (es ++ log) v
  fits_more es log v h f = record {
    front = ends_more es log v.history f.front;
    told = ends_more es log v.told f.told;
    cpus = λ c has. since_more c es log v.history (h c (inl has)) (f.cpus c has);
    lent = λ c has. since_more c es log v.told (h c (inr has)) (f.lent c has);
  }

  -- the CPUs for which a view acts after it has merged all
  pub owns_viewed : (start : List (LockId × B)) (cpus : List CpuId) (log : List (Event (Mark E))) (c : CpuId) → Owns c (caught_up start cpus log) → Has c cpus
  owns_viewed start cpus log c (inl has) = has
  owns_viewed start cpus log c (inr nothing) = absurd nothing

  -- a view that received what another has seen
  abbrev pub joined : View E B → View E B → View E B
  joined v w = record { start = v.start; cpus = v.cpus; history = v.history; told = w.history; lent = w.cpus }

-- a view that sees the log from its seat, which is that of each CPU that it owns
abbrev pub FitsAt : {E B : Type 0} → ℕ → List (Event (Mark E)) → (ℕ → ℕ) → ℕ → View E B → Type 0
FitsAt n log seat_of i v = Coupled log v × ((c : CpuId) → Owns c v → (i ≡ seat_of c.0) × (c.0 < n))

module _ {E B : Type 0} (n : ℕ) (views : List (View E B)) (log : List (Event (Mark E))) where
  pub each_sees : (seat_of : ℕ → ℕ) → ((i : ℕ) (v : View E B) → get_elem? views i ≡ some v → FitsAt n log seat_of i v) → Sees n views log
  each_sees seat_of each = record {
    coupled = λ i v at. (each i v at).0;
    seat_of = seat_of;
    apart = λ i v c at o. ((each i v at).1 c o).0;
    known = λ i v c at o. ((each i v at).1 c o).1;
  }

  pub fits_at : (s : Sees n views log) (i : ℕ) (v : View E B) → get_elem? views i ≡ some v → FitsAt n log s.seat_of i v
  fits_at s i v at = (s.coupled i v at, λ c o. (s.apart i v c at o, s.known i v c at o))

module _ {E B : Type 0} (n : ℕ) (views : List (View E B)) (log : List (Event (Mark E))) (s : Sees n views log) (id : ℕ) (v : View E B)
    (here : get_elem? views id ≡ some v) where
  -- an event of a CPU of this seat is no other seat's
  pub one_event : (e : Event (Mark E)) → Owns (cpu_of_event e) v → (c : CpuId) → s.seat_of c.0 ≢ id → AreOthers cpu_of_event c (e ∷ [])
  one_event e owns c away = (ne_eqb (cpu_of_event e).0 c.0 (λ same. away (ap s.seat_of (sym same) ∙ sym (s.apart id v (cpu_of_event e) here owns))), tt)

  -- the seat has another view of the log with these events of its CPUs, and owns no more than it
  -- did
  pub sees_set : (es : List (Event (Mark E))) → ((c : CpuId) → s.seat_of c.0 ≢ id → AreOthers cpu_of_event c es) → (w : View E B) → Coupled (es ++ log) w
      → ((c : CpuId) → Owns c w → Owns c v) → Sees n (set views id w) (es ++ log)
  sees_set es others w coupled less = each_sees n (set views id w) (es ++ log) s.seat_of (all_set (FitsAt n (es ++ log) s.seat_of) views id w
      (coupled, λ c o. (fits_at n views log s id v here).1 c (less c o))
      (λ i u away at. let old = fits_at n views log s i u at in
      (fits_more es log u (λ c o. others c (λ same. away ((old.1 c o).0 ∙ same))) old.0, old.1)))

  -- another seat gives what it has seen, and its CPUs, to this one
  pub sees_join : (other : ℕ) (w : View E B) → other ≢ id → get_elem? (set views id (joined v w)) other ≡ some w
      → Sees n (set (set views id (joined v w)) other (caught_up [] [] [])) log
  sees_join other w apart there =
      let mine = fits_at n views log s id v here in
      let given = fits_at n views log s other w (sym (set_else views id other (joined v w) apart) ∙ there) in
      let seat : ℕ → ℕ = λ k. if s.seat_of k == other then id else s.seat_of k in
      let stays : (c : CpuId) (i : ℕ) → i ≢ other → i ≡ s.seat_of c.0 → i ≡ seat c.0 = λ c i away e.
      rw (ne_eqb (s.seat_of c.0) other (λ same. away (e ∙ same))) e in
      each_sees n (set (set views id (joined v w)) other (caught_up [] [] [])) log seat
      (all_set (FitsAt n log seat) (set views id (joined v w)) other (caught_up [] [] [])
      (fits_of [] [] log [] (ends_nil log) (λ c has. absurd has), λ c o. absurd (owns_viewed {E = E} {B = B} [] [] [] c o))
      (λ i u away at. all_set (λ i u. i ≢ other → FitsAt n log seat i u) views id (joined v w) (λ away. (
        record { front = mine.0.front; told = given.0.front; cpus = mine.0.cpus; lent = given.0.cpus },
        λ c. ⊎_elim
            (λ has. let local = mine.1 c (inl has) in (stays c id away local.0, local.1))
            (λ has. let local = given.1 c (inl has) in (rw (eq-eqb (s.seat_of c.0) other (sym local.0)), local.1)),
      ))
      (λ i u not_id at away. let old = fits_at n views log s i u at in (old.0, λ c o. (stays c i away (old.1 c o).0, (old.1 c o).1))) i u at away))

module _ {E B : Type 0} (n : ℕ) (views : List (View E B)) (log : List (Event (Mark E))) (s : Sees n views log) where
  -- a new seat that owns nothing
  pub sees_new : (start : List (LockId × B)) (history : List (Event (Mark E))) → EndsWith log history → Sees n (views ++ caught_up start [] history ∷ []) log
  sees_new start history ends = each_sees n (views ++ caught_up start [] history ∷ []) log s.seat_of
      (all_end (FitsAt n log s.seat_of) views (caught_up start [] history)
      (fits_of start [] log history ends (λ c has. absurd has), λ c o. absurd (owns_viewed {E = E} {B = B} start [] history c o))
      (fits_at n views log s))

  -- a new seat that owns a CPU which no other owns
  pub sees_dealt : (w : View E B) → Coupled log w → (k : ℕ) → ((c : CpuId) → Owns c w → c.0 ≡ k) → k < n
      → ((i : ℕ) (u : View E B) → get_elem? views i ≡ some u → (c : CpuId) → Owns c u → c.0 ≢ k) → Sees n (views ++ w ∷ []) log
  sees_dealt w coupled k one below free =
      let seat : ℕ → ℕ = λ m. if m == k then length views else s.seat_of m in
      each_sees n (views ++ w ∷ []) log seat (all_end (FitsAt n log seat) views w (coupled, λ c o. (rw (eq-eqb c.0 k (one c o)), rw (one c o) below))
      (λ i u at. (s.coupled i u at, λ c o. (rw (ne_eqb c.0 k (free i u at c o)) (s.apart i u c at o), s.known i u c at o))))
