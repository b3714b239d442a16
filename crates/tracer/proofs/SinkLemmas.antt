-- One write after another.
use Rattle.std.proofs.Common.{◌≡◌, ℕ, ◌+◌, ◌<◌, Bool, true, false, List, ◌++◌, length, get_or, take, drop, Option, sym, subst, arith}
use Rattle.std.{proofs.{Common.append_assoc, lemmas.List.{take-append-drop, drop_more, Concat.flat_map-append}}, specs.{List.flat_map, Io.KnownBytes.Appends}}
use Rattle.tracer.specs.Sinks.{Outs}

pub appends_then : (old mid new : Option (List ℕ)) (a b : List ℕ) → Appends old mid a → Appends mid new b → Appends old new (a ++ b)
appends_then old mid new a b first second = grind (arith, append_assoc)

-- a text whose front is written, and then what becomes of the next
pub outs_then : (failed : Bool) (old mid new : Option (List ℕ)) (a b : List ℕ) → Appends old mid a → Outs failed mid new b → Outs failed old new (a ++ b)
outs_then failed old mid new a b first second = grind (arith, append_assoc)

-- where a front failed, the whole did
pub outs_before : (failed : Bool) (old new : Option (List ℕ)) (a b : List ℕ) → failed ≡ true → Outs failed old new a → Outs failed old new (a ++ b)
outs_before failed old new a b e out = grind (arith, append_assoc)

-- a write without fault is all out
pub all_out : (failed : Bool) (old new : Option (List ℕ)) (a : List ℕ) → failed ≡ false → Outs failed old new a → Appends old new a
all_out failed old new a e out = grind arith

-- a part that is all written, and then what becomes of the next
pub outs_on : (first failed : Bool) (old mid new : Option (List ℕ)) (a b : List ℕ) → false ≡ first → Outs first old mid a → Outs failed mid new b
    → Outs failed old new (a ++ b)
outs_on first failed old mid new a b live here next = outs_then failed old mid new a b (all_out first old mid a (sym live) here) next

-- a text of pieces, cut round the piece at i
pub flat_map_at : {X : Type 0} (f : X → List ℕ) (xs : List X) (i : ℕ) (d : X) → i < length xs
    → flat_map f xs ≡ flat_map f (take i xs) ++ (f (get_or xs i d) ++ flat_map f (drop (i + 1) xs))
flat_map_at f xs i d lt = grind (arith, drop_more xs i d lt, take-append-drop i xs, flat_map-append)

-- the pieces before are out, and this one failed
pub failed_in : {X : Type 0} (f : X → List ℕ) (xs : List X) (i : ℕ) (d : X) (failed : Bool) (old mid new : Option (List ℕ)) → i < length xs
    → Appends old mid (flat_map f (take i xs)) → failed ≡ true → Outs failed mid new (f (get_or xs i d)) → Outs failed old new (flat_map f xs)
failed_in f xs i d failed old mid new lt front e out = grind (arith, flat_map_at f xs i d lt, outs_then, outs_before)

-- the same, of a piece that was read at i
pub failed_at : {X : Type 0} (f : X → List ℕ) (xs : List X) (i : ℕ) (x : X) (failed : Bool) (old mid new : Option (List ℕ)) → i < length xs
    → x ≡ get_or xs i x → Appends old mid (flat_map f (take i xs)) → failed ≡ true → Outs failed mid new (f x) → Outs failed old new (flat_map f xs)
failed_at f xs i x failed old mid new lt is front e out = failed_in f xs i x failed old mid new lt front e (subst (λ y. Outs failed mid new (f y)) is out)
