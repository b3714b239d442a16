-- Loops over a list that put one thing for each of its elements into another list, which has room
-- for all.
use Rattle.std.proofs.Common.{◌≡◌, ℕ, zero, suc, ◌+◌, ◌<◌, ◌≤◌, List, [], ◌∷◌, ◌++◌, length, map, drop, Some, ap, sym, ◌∙◌, subst, length-append, arith}
use Rattle.std.{proofs.lemmas.List.length-drop, specs.Prelude.{slice_get, slice_index_or}}
use Rattle.{cpu.proofs.WholeSystems.InvariantAtBoot.{at_end, drop_more}, cpu_workers.{specs.Reports.Both, proofs.Joining.{both_length, both_more, no_more}}}
use Rattle.cpu_workers.proofs.Joining.{room_for, yield_more}

-- The invariant of such a loop: these elements are done, and for each the other list has what
-- belongs to it.
pub record Filling {A B : Type 0} (Coupled : A → B → Type 0) (all past rest : List A) (done : List B) (capacity : ℕ) : Type 0 where
  pub whole : past ++ rest ≡ all
  pub each : Both Coupled past done
  pub room : length all ≤ capacity

module _ {A B : Type 0} {Coupled : A → B → Type 0} {all rest : List A} {done : List B} {capacity : ℕ} where
  pub filled_none : rest ≡ all → done ≡ [] → length all ≤ capacity → Filling Coupled all [] rest done capacity
  filled_none is none room = record { whole = is; each = subst (λ ys. Both Coupled [] ys) (sym none) tt; room = room }

  pub has_room : {past later : List A} {x : A} {n : ℕ} → Filling Coupled all past rest done capacity → rest ≡ x ∷ later → n ≡ length done → n < capacity
  has_room {past} {later} {x} {n} filling is count =
      room_for past rest later all done x n capacity filling.whole is filling.room (both_length Coupled past done filling.each) count

  pub filled_one : {past later : List A} {x : A} {y : B} {more : List B} {now : ℕ} → Filling Coupled all past rest done capacity → rest ≡ x ∷ later
      → more ≡ done ++ y ∷ [] → now ≡ capacity → Coupled x y → Filling Coupled all (past ++ x ∷ []) later more now
  filled_one {past} {later} {x} {y} filling is grown same coupled = record {
    whole = yield_more past rest later all x filling.whole is;
    each = subst (λ ys. Both Coupled (past ++ x ∷ []) ys) (sym grown) (both_more Coupled past done x y filling.each coupled);
    room = subst (λ n. length all ≤ n) (sym same) filling.room;
  }

  pub filled_all : {past : List A} {n : ℕ} → Filling Coupled all past rest done capacity → n ≡ length rest → n ≡ 0 → Both Coupled all done
  filled_all {past} {n} filling count none = subst (λ xs. Both Coupled xs done) (no_more past rest all n filling.whole count none) filling.each

-- What a list is that was filled so.

module _ {A B C : Type 0} where
  pub both_maps : (f : B → C) (h : A → C) (xs : List A) (ys : List B) → Both (λ x y. f y ≡ h x) xs ys → map f ys ≡ map h xs
  both_maps f h [] ys same = grind arith
  both_maps f h (x ∷ xs) ys same = grind (arith, both_maps f h xs)

  pub both_mapped : (Coupled : C → B → Type 0) (h : A → C) (xs : List A) (ys : List B) → Both (λ x y. Coupled (h x) y) xs ys → Both Coupled (map h xs) ys
  both_mapped Coupled h [] ys coupled = grind arith
  both_mapped Coupled h (x ∷ xs) ys coupled = grind (arith, both_mapped Coupled h xs)

pub both_are : {A B : Type 0} (h : A → B) (xs : List A) (ys : List B) → Both (λ x y. y ≡ h x) xs ys → ys ≡ map h xs
both_are h [] ys same = grind arith
both_are h (x ∷ xs) ys same = grind (arith, both_are h xs)

pub both_same : {A : Type 0} (xs ys : List A) → Both (λ x y. y ≡ x) xs ys → ys ≡ xs
both_same [] ys same = grind arith
both_same (x ∷ xs) ys same = grind (arith, both_same xs)

-- so is the list of a loop that has reached its end
pub filled_with : {A B : Type 0} (h : A → B) {all past rest : List A} {done : List B} {capacity n : ℕ}
    → Filling (λ x y. y ≡ h x) all past rest done capacity → n ≡ length rest → n ≡ 0 → done ≡ map h all
filled_with h {all = all} {done = done} filling count none = both_are h all done (filled_all filling count none)

-- Loops by number, which take their elements from the front of a list.

pub is_below : {n count many long : ℕ} → n < count → count ≡ many → many ≡ long → n < long
is_below below same long = omega (arith, below, same, long)

module _ {X : Type 0} (all : List X) (n : ℕ) {left : List X} (is : left ≡ drop n all) (below : n < length all) where
  -- while not all was taken, something is left
  pub some_left : {m : ℕ} → m ≡ length left → 0 < m
  some_left count = let long = ap (λ l. length l) is ∙ length-drop n all in omega (arith, below, long, count)

  pub taken_one : {later : List X} → later ≡ drop 1 left → later ≡ drop (n + 1) all
  taken_one after = after ∙ ap (λ l. drop 1 l) is ∙ drop_more all n below

  -- the first that is left is the one of this number
  pub taken_at : (x : X) → x ≡ slice_index_or left 0 x → slice_get all n ≡ Some x
  taken_at x first = go all n below (first ∙ ap (λ l. slice_index_or l 0 x) is)
    where
      go : (xs : List X) (k : ℕ) → k < length xs → x ≡ slice_index_or (drop k xs) 0 x → slice_get xs k ≡ Some x
      go [] k within same = absurd (omega (arith, within))
      go (y ∷ xs) zero within same = ap Some (sym same)
      go (y ∷ xs) (suc k) within same = go xs k (omega (arith, within)) same

-- Such a loop has put these, each as it is to be at its number.
pub record Numbered {B : Type 0} (Holds : ℕ → B → Type 0) (done : List B) (n most capacity : ℕ) : Type 0 where
  pub count : length done ≡ n
  pub room : most ≤ capacity
  pub each : (k : ℕ) (y : B) → slice_get done k ≡ Some y → Holds k y

module _ {B : Type 0} {Holds : ℕ → B → Type 0} {done : List B} {n most capacity : ℕ} where
  pub numbered_room : {m : ℕ} → Numbered Holds done n most capacity → n < most → m ≡ length done → m < capacity
  numbered_room numbered within count = let many = numbered.count in let room = numbered.room in omega (arith, within, many, room, count)

  pub numbered_one : {y : B} {more : List B} {now : ℕ} → Numbered Holds done n most capacity → more ≡ done ++ y ∷ [] → now ≡ capacity → Holds n y
      → Numbered Holds more (n + 1) most now
  numbered_one {y} numbered grown same holds = record {
    count = let long = ap (λ l. length l) grown ∙ length-append done (y ∷ []) in let before = numbered.count in omega (arith, long, before);
    room = subst (λ k. most ≤ k) (sym same) numbered.room;
    each = λ k z at. at_end Holds done y numbered.each (subst (λ j. Holds j y) (sym numbered.count) holds) k z
        (subst (λ l. slice_get l k ≡ Some z) grown at);
  }
