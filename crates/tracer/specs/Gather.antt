-- Which order of several traces is gathered.
use Rattle.std.specs.Prelude.{◌≡◌, ◌<◌, ◌==◌, ℕ, List, [], ◌∷◌, ◌++◌, Option, Some, filter, map}
use Rattle.std.specs.{Prelude.{slice_get, slice_index, slice_index_or, slice_set}, Borrow.Bor}
use Rattle.event_log.specs.{Messages.Message, declared.entries.Entry.Entry, Runs.count_of}
use Rattle.event_log.specs.{Runs.IsLegalHistory, Traces.{IsInterleaving, HasOpOrder}}

-- the traces that slices hold
abbrev pub traces_in : List (Bor (List Entry)) → List (List Entry)
traces_in slices = map (λ trace. trace.now) slices

-- the entries that these point to
abbrev pub entries_in : List (Bor Entry) → List Entry
entries_in places = map (λ place. place.now) places

-- a list that keeps every trace, in which the op numbers of each buffer are 0, 1, 2 and so on
abbrev pub IsOrder : List (List Entry) → List Entry → Type 0
IsOrder traces order = IsInterleaving traces order × HasOpOrder order

-- after the earlier entries, the first entry of a trace has the op number that its buffer expects
abbrev pub IsFrontReady : List Entry → List Entry → Type 0
IsFrontReady earlier [] = ⊥
IsFrontReady earlier (e ∷ _) = e.op ≡ count_of earlier e.buffer.0

-- after the earlier entries, each entry is taken from the first trace that is ready
abbrev pub TakesFirstReadyFrom : List Entry → List (List Entry) → List Entry → Type 0
TakesFirstReadyFrom earlier traces [] = Unit {0}
TakesFirstReadyFrom earlier traces (e ∷ es) =
    (k : ℕ) × (rest : List Entry) × (slice_get traces k ≡ Some (e ∷ rest))
    × IsFrontReady earlier (e ∷ rest)
    × ((j : ℕ) → j < k → ¬ IsFrontReady earlier (slice_index_or traces j []))
    × TakesFirstReadyFrom (earlier ++ e ∷ []) (slice_set traces k rest) es

-- at each point the order takes the first trace whose next entry has the op number that its buffer
-- expects
abbrev pub TakesFirstReady : List (List Entry) → List Entry → Type 0
TakesFirstReady traces order = TakesFirstReadyFrom [] traces order

-- no list is an order of these traces
abbrev pub HasNoOrder : List (List Entry) → Type 0
HasNoOrder traces = (order : List Entry) → ¬ IsOrder traces order

-- traces of which some order is a legal history have an order
abbrev pub RunsHaveOrder : List (List Entry) → Type 0
RunsHaveOrder traces =
    (caps : List ℕ) (order : List Entry) (left : List (List Message)) → IsInterleaving traces order
    → IsLegalHistory caps order left
    → ¬ HasNoOrder traces

-- if some order of the traces is a legal history, each order of them is one that ends in the same
-- contents
abbrev pub OrdersRunAlike : List (List Entry) → Type 0
OrdersRunAlike traces =
    (caps : List ℕ) (order other : List Entry) (left : List (List Message))
    → IsInterleaving traces order
    → IsLegalHistory caps order left → IsOrder traces other → IsLegalHistory caps other left

-- the entries of buffer b
abbrev pub on_buffer : ℕ → List Entry → List Entry
on_buffer b es = filter (λ e. e.buffer.0 == b) es

-- in any two orders of the traces the entries of each buffer are in the same order
abbrev pub OrdersAgreeByBuffer : List (List Entry) → Type 0
OrdersAgreeByBuffer traces =
    (one other : List Entry) → IsOrder traces one → IsOrder traces other → (b : ℕ)
    → on_buffer b one ≡ on_buffer b other

-- the next entry of trace k, if so many of each trace are taken
abbrev pub next_entry : List (List Entry) → List ℕ → ℕ → Option Entry
next_entry traces taken k = slice_get (slice_index_or traces k []) (slice_index taken k)

-- the entry has the op number that its buffer expects, according to the number of entries taken of
-- each buffer
abbrev pub IsNextOp : List ℕ → Entry → Type 0
IsNextOp counts e = e.op ≡ slice_index counts e.buffer.0

-- of the first n traces none has a next entry that is due
abbrev pub NoneDueBelow : List (List Entry) → List ℕ → List ℕ → ℕ → Type 0
NoneDueBelow traces taken counts n =
    (j : ℕ) (e : Entry) → j < n → next_entry traces taken j ≡ Some e → ¬ IsNextOp counts e
