-- Reads and writes of lists by their index.
use Rattle.std.proofs.Common.{◌≡◌, ℕ, zero, suc, ◌+◌, ◌<◌, List, [], ◌∷◌, ◌++◌, length, map, reverse, Some, option_map, refl, ap, sym, ◌∙◌, subst, arith}
use Rattle.std.proofs.{Common.{slice_set, Option, Bool, if◌then◌else◌}, lemmas.{List.{reverse-append, length-map}, Option.slice_get-map}}
use Rattle.std.{proofs.lemmas.Option.slice_get_read, specs.{Prelude.{slice_get, slice_index_or}, List.AllByRecursion}}
use Rattle.{event_log.specs.{declared.ids.LockId.LockId, History.same_lock, Sections.{Section, block_after}}, cpu.specs.Claims.listed}
pub use Rattle.event_log.proofs.ListLemmas.{set_else, set_there, there_is}

-- what is so of the block that a lock has at first, and what each edit keeps, is so after any
-- sections
pub blocks_keep : {E B : Type 0} (P : Option B → Type 0) (edited : E → B → B) (opening : LockId → Option B) (lock : LockId) → P (opening lock)
    → ((e : E) (o : Option B) → P o → P (option_map (edited e) o)) → (past : List (Section E)) → P (block_after edited opening lock past)
blocks_keep P edited opening lock opens keeps [] = opens
blocks_keep {B = B} P edited opening lock opens keeps (s ∷ past) =
    by_test (same_lock lock s.lock) (block_after edited opening lock past) (blocks_keep P edited opening lock opens keeps past)
  where
    by_test : (here : Bool) (o : Option B) → P o → P (if here then option_map (edited s.edit) o else o)
    by_test here o before = grind arith

-- a write of the value that is there changes nothing
pub set_again : {X : Type 0} (xs : List X) (i : ℕ) (x : X) → slice_get xs i ≡ Some x → slice_set xs i x ≡ xs
set_again [] i x at = refl
set_again (z ∷ zs) zero x at = let same : z ≡ x = cc in ap (λ v. v ∷ zs) (sym same)
set_again (z ∷ zs) (suc i) x at = ap (λ v. z ∷ v) (set_again zs i x at)

-- of two writes at one place the second stays
pub set_twice : {X : Type 0} (xs : List X) (i : ℕ) (x y : X) → slice_set (slice_set xs i x) i y ≡ slice_set xs i y
set_twice (z ∷ zs) (suc i) x y = ap (λ v. z ∷ v) (set_twice zs i x y)
set_twice xs i x y = refl

-- a write of an element that shows the same leaves what the list shows
pub shows_same : {X Z : Type 0} (f : X → Z) (xs : List X) (i : ℕ) (x y : X) → slice_get xs i ≡ Some x → f y ≡ f x → map f (slice_set xs i y) ≡ map f xs
shows_same f [] i x y at same = refl
shows_same f (z ∷ zs) zero x y at same = let there : z ≡ x = cc in ap (λ v. v ∷ map f zs) (same ∙ ap f (sym there))
shows_same f (z ∷ zs) (suc i) x y at same = ap (λ v. f z ∷ v) (shows_same f zs i x y at same)

pub map_twice : {X Y Z : Type 0} (f : X → Y) (h : Y → Z) (xs : List X) → map h (map f xs) ≡ map (λ x. h (f x)) xs
map_twice f h [] = refl
map_twice f h (x ∷ xs) = ap (λ v. h (f x) ∷ v) (map_twice f h xs)

-- what holds of what each element shows holds of each element that is shown
pub shown_at : {X Y : Type 0} (f : X → Y) (P : ℕ → Y → Type 0) (xs : List X) → ((k : ℕ) (x : X) → slice_get xs k ≡ Some x → P k (f x)) → (k : ℕ) (y : Y)
    → slice_get (map f xs) k ≡ Some y → P k y
shown_at f P [] each k y at = absurd cc
shown_at f P (x ∷ xs) each zero y at = let same : f x ≡ y = cc in subst (λ z. P 0 z) same (each 0 x refl)
shown_at f P (x ∷ xs) each (suc k) y at = shown_at f (λ j z. P (suc j) z) xs (λ j z there. each (suc j) z there) k y at

-- what holds of each element of two lists holds of each of both
pub all_both : {X : Type 0} (P : X → Type 0) (xs ys : List X) → AllByRecursion P xs → AllByRecursion P ys → AllByRecursion P (xs ++ ys)
all_both P [] ys first second = second
all_both P (x ∷ xs) ys first second = (first.0, all_both P xs ys first.1 second)

pub all_left : {X : Type 0} (P : X → Type 0) (xs ys : List X) → AllByRecursion P (xs ++ ys) → AllByRecursion P xs
all_left P [] ys all = tt
all_left P (x ∷ xs) ys all = (all.0, all_left P xs ys all.1)

pub all_right : {X : Type 0} (P : X → Type 0) (xs ys : List X) → AllByRecursion P (xs ++ ys) → AllByRecursion P ys
all_right P [] ys all = all
all_right P (x ∷ xs) ys all = all_right P xs ys all.1

pub all_reversed : {X : Type 0} (P : X → Type 0) (xs : List X) → AllByRecursion P xs → AllByRecursion P (reverse xs)
all_reversed P [] all = tt
all_reversed P (x ∷ xs) all = rw (reverse-append (x ∷ []) xs) (all_both P (reverse xs) (x ∷ []) (all_reversed P xs all.1) (all.0, tt))

pub all_by : {X : Type 0} (P Q : X → Type 0) (xs : List X) → ((x : X) → P x → Q x) → AllByRecursion P xs → AllByRecursion Q xs
all_by P Q [] goes all = tt
all_by P Q (x ∷ xs) goes all = (goes x all.0, all_by P Q xs goes all.1)

-- a listed value, by its number
pub listed_at : {X : Type 0} (f : ℕ → X) (n k i : ℕ) (d : X) → i < n → slice_index_or (listed f k n) i d ≡ f (k + i)
listed_at f zero k i d within = absurd (omega arith)
listed_at f (suc n) k zero d within = let same : k ≡ k + 0 = omega arith in ap f same
listed_at f (suc n) k (suc i) d within =
    let same : (k + 1) + i ≡ k + suc i = omega arith in
    listed_at f n (k + 1) i d (omega arith) ∙ ap f same

pub listed_length : {X : Type 0} (f : ℕ → X) (n k : ℕ) → length (listed f k n) ≡ n
listed_length f zero k = refl
listed_length f (suc n) k = ap suc (listed_length f n (k + 1))

-- a CPU of a system that shows so many is read
pub read_at : {X Y : Type 0} (f : X → Y) (xs : List X) (ys : List Y) (j k : ℕ) (x : X) → map f xs ≡ ys → j ≡ k → k < length ys → x ≡ slice_index_or xs j x
    → slice_get xs j ≡ Some x
read_at f xs ys j k x shown is within reads = grind (arith, length-map, slice_get_read)

-- and is shown
pub shows_at : {X Y : Type 0} (f : X → Y) (xs : List X) (k : ℕ) (x : X) → slice_get xs k ≡ Some x → slice_get (map f xs) k ≡ Some (f x)
shows_at f xs k x at = slice_get-map f xs k ∙ ap (λ o. option_map f o) at

-- what the element at an index shows
pub shown_index : {X Y Z : Type 0} (f : X → Y) (h : Y → Z) (xs : List X) (k : ℕ) (x : X) (d : Z) → slice_get xs k ≡ Some x
    → slice_index_or (map h (map f xs)) k d ≡ h (f x)
shown_index f h [] k x d at = absurd cc
shown_index f h (y ∷ xs) zero x d at = let same : y ≡ x = cc in ap (λ z. h (f z)) same
shown_index f h (y ∷ xs) (suc k) x d at = shown_index f h xs k x d at

-- in a list from 0 on
pub listed_there : {X : Type 0} (f : ℕ → X) (n i : ℕ) (d : X) → i < n → slice_index_or (listed f 0 n) i d ≡ f i
listed_there f n i d within = let same : 0 + i ≡ i = omega arith in listed_at f n 0 i d within ∙ ap f same
