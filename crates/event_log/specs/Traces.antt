-- Interleavings of several traces.
use Rattle.std.specs.Prelude.{◌≡◌, ℕ, List, [], ◌∷◌, ◌++◌, Some, slice_get, slice_index_or}
use Rattle.std.specs.Prelude.{slice_set}
use Rattle.event_log.specs.{declared.entries.Entry.Entry, Runs.count_of}

-- the order takes the first entry of some trace, again and again, until all traces are used up. It
-- keeps the order of each trace, and has each entry exactly once and nothing else
abbrev pub IsInterleaving : List (List Entry) → List Entry → Type 0
IsInterleaving traces [] = (k : ℕ) → slice_index_or traces k [] ≡ []
IsInterleaving traces (e ∷ es) =
    (k : ℕ) × (rest : List Entry) × (slice_get traces k ≡ Some (e ∷ rest))
    × IsInterleaving (slice_set traces k rest) es

-- after the earlier entries the op numbers of each buffer continue by one
abbrev pub HasOpOrderFrom : List Entry → List Entry → Type 0
HasOpOrderFrom earlier [] = Unit {0}
HasOpOrderFrom earlier (e ∷ es) =
    (e.op ≡ count_of earlier e.buffer.0) × HasOpOrderFrom (earlier ++ e ∷ []) es

-- the op numbers of each buffer are 0, 1, 2 and so on
abbrev pub HasOpOrder : List Entry → Type 0
HasOpOrder order = HasOpOrderFrom [] order
