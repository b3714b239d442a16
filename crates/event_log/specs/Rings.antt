-- The part of a table that holds a queue of items, and a queue's steps on a list.
use Rattle.std.specs.Prelude.{ℕ, List, [], ◌∷◌, ◌++◌, take, drop, Some, None, Option}

-- a list rotated by k places to the left
abbrev pub rotate_left : {A : Type 0} → ℕ → List A → List A
rotate_left k slots = drop k slots ++ take k slots

-- the n slots from slot k on, around the end
abbrev pub window : {A : Type 0} → ℕ → ℕ → List A → List A
window k n slots = take n (rotate_left k slots)

-- the item at the front
abbrev pub front_item : {A : Type 0} → List A → Option A
front_item [] = None
front_item (item ∷ items) = Some item

-- the items after the first
abbrev pub items_behind : {A : Type 0} → List A → List A
items_behind [] = []
items_behind (item ∷ items) = items
