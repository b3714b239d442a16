-- Lists whose elements belong together, and loops over them.
use Rattle.std.proofs.Common.{◌≡◌, ℕ, zero, suc, ◌+◌, ◌<◌, ◌≤◌, List, [], ◌∷◌, ◌++◌, length, map, All, refl, ap, sym, ◌∙◌, subst, length-append, arith}
use Rattle.std.{proofs.lemmas.Option.{get_or_from_slice_get, slice_get_within}, specs.Prelude.{Some, slice_get}}
use Rattle.std.proofs.lemmas.List.Elements.{All-append, All-cons, All-nil}
use Rattle.{layer_traits.proofs.PlanRenaming.map-append, event_log.proofs.ListLemmas.there_is, cpu_workers.specs.Reports.Both}
pub use Rattle.table_machine.proofs.Returning.{all_tail, no_more, yield_more}

module _ {A B : Type 0} (Coupled : A → B → Type 0) where
  pub both_more : (xs : List A) (ys : List B) (x : A) (y : B) → Both Coupled xs ys → Coupled x y → Both Coupled (xs ++ x ∷ []) (ys ++ y ∷ [])
  both_more [] ys x y all one = grind arith
  both_more (w ∷ xs) ys x y all one = grind (arith, both_more xs)

  pub both_length : (xs : List A) (ys : List B) → Both Coupled xs ys → length ys ≡ length xs
  both_length [] ys all = grind arith
  both_length (w ∷ xs) ys all = grind (arith, both_length xs)

-- The invariant of a loop that makes one of each task of a list: these are made, and the others may
-- be made yet.
pub record Made {S T : Type 0} (task : S → T) (May : T → Type 0) (all past rest : List T) (ones : List S) (capacity : ℕ) : Type 0 where
  pub whole : past ++ rest ≡ all
  pub may : All May rest
  pub made : map task ones ≡ past
  pub room : length all ≤ capacity

pub made_one : {S T : Type 0} {task : S → T} {May : T → Type 0} {all past rest later : List T} {ones more : List S} {capacity now : ℕ} {t : T} {s : S}
    → Made task May all past rest ones capacity → rest ≡ t ∷ later → more ≡ ones ++ s ∷ [] → task s ≡ t → now ≡ capacity
    → Made task May all (past ++ t ∷ []) later more now
made_one {task = task} {May} {all} {past} {rest} {later} {ones} {t = t} {s} so_far is grown of same = record {
  whole = yield_more past rest later all t so_far.whole is;
  may = all_tail May rest later t is so_far.may;
  made = ap (λ l. map task l) grown ∙ map-append task ones (s ∷ []) ∙ ap (λ l. l ++ task s ∷ []) so_far.made ∙ ap (λ x. past ++ x ∷ []) of;
  room = subst (λ n. length all ≤ n) (sym same) so_far.room;
}

pub both_then : {A B C : Type 0} (P : A → B → Type 0) (Q : B → C → Type 0) (S : A → C → Type 0) → ((a : A) (b : B) (c : C) → P a b → Q b c → S a c)
    → (xs : List A) (ys : List B) (zs : List C) → Both P xs ys → Both Q ys zs → Both S xs zs
both_then P Q S step [] ys zs p q = grind arith
both_then P Q S step (x ∷ xs) ys zs p q = grind (arith, step, both_then P Q S step xs)

-- a list is that of what belongs to each of it
pub both_map : {A B : Type 0} (Coupled : A → B → Type 0) (f : B → A) → ((a : A) (b : B) → Coupled a b → f b ≡ a) → (xs : List A) (ys : List B)
    → Both Coupled xs ys
    → map f ys ≡ xs
both_map Coupled f same [] ys coupled = grind arith
both_map Coupled f same (x ∷ xs) ys coupled = grind (arith, same, both_map Coupled f same xs)

-- there is room for one more, while the list that it follows has one more
pub room_for : {A B : Type 0} (ys xs rest all : List A) (zs : List B) (x : A) (n cap : ℕ) → ys ++ xs ≡ all → xs ≡ x ∷ rest
    → length all ≤ cap → length zs ≡ length ys → n ≡ length zs → n < cap
room_for ys xs rest all zs x n cap whole is room same count =
    let long : length ys + length xs ≡ length all = sym (length-append ys xs) ∙ ap length whole in
    let more : length xs ≡ suc (length rest) = ap length is in
    omega arith

pub all_head : {A : Type 0} (P : A → Type 0) (xs rest : List A) (x : A) → xs ≡ x ∷ rest → All P xs → P x
all_head P xs rest x is all = let whole : All P (x ∷ rest) = rw is at all in whole 0 x (omega arith)

-- what holds of all holds of the one at this place
pub all_at : {X : Type 0} (P : X → Type 0) (xs : List X) (k : ℕ) (x : X) → All P xs → slice_get xs k ≡ Some x → P x
all_at P xs k x all at = subst P (get_or_from_slice_get xs k x x at) (all k x (slice_get_within xs k x at))

-- what belongs to the element at this number
pub both_back : {A B : Type 0} (Coupled : A → B → Type 0) (xs : List A) (ys : List B) → Both Coupled xs ys → (k : ℕ) (y : B) → slice_get ys k ≡ Some y
    → (x : A) × (slice_get xs k ≡ Some x) × Coupled x y
both_back Coupled [] [] all k y at = absurd (cc at)
both_back Coupled [] (z ∷ ys) all k y at = absurd all
both_back Coupled (x ∷ xs) [] all k y at = absurd all
both_back Coupled (x ∷ xs) (z ∷ ys) all zero y at = let same : z ≡ y = cc at in (x, refl, subst (λ w. Coupled x w) same all.0)
both_back Coupled (x ∷ xs) (z ∷ ys) all (suc k) y at = both_back Coupled xs ys all.1 k y at

-- what belongs to a list belongs to it also as another value has it
pub both_kept : {A B : Type 0} (Coupled : A → B → Type 0) (xs : List A) {ys zs : List B} → zs ≡ ys → Both Coupled xs ys → Both Coupled xs zs
both_kept Coupled xs same all = subst (λ l. Both Coupled xs l) (sym same) all

-- what holds of each by its number holds of all
pub all_by_number : {X : Type 0} (P : X → Type 0) (xs : List X) → ((k : ℕ) (x : X) → slice_get xs k ≡ Some x → P x) → All P xs
all_by_number P xs each k d below =
    let there = there_is xs k below in
    subst P (sym (get_or_from_slice_get xs k there.0 d there.1)) (each k there.0 there.1)

-- what holds of each of a list, and goes over to what belongs to it, holds of each of those
pub both_all : {A B : Type 0} (Coupled : A → B → Type 0) (P : A → Type 0) (Q : B → Type 0) → ((a : A) (b : B) → Coupled a b → P a → Q b)
    → (xs : List A) (ys : List B)
    → Both Coupled xs ys → All P xs → All Q ys
both_all Coupled P Q over xs ys coupled all =
    all_by_number Q ys (λ k y at. let of = both_back Coupled xs ys coupled k y at in over of.0 y of.2 (all_at P xs k of.0 all of.1))

-- what holds of all of a list, and of one more after them, holds of them all
pub all_more : {A : Type 0} (P : A → Type 0) (xs ys : List A) (x : A) → ys ≡ xs ++ x ∷ [] → All P xs → P x → All P ys
all_more P xs ys x is all one = rw is (All-append P xs (x ∷ []) all (All-cons P x [] one (All-nil P)))
