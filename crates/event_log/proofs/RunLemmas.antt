-- How a run grows, and what its entries are by their index.
use Rattle.std.proofs.Common.{◌≡◌, ℕ, zero, suc, ◌+◌, ◌==◌, Bool, ◌&&◌, if◌then◌else◌, List, [], ◌∷◌, ◌++◌, take, Some, refl, sym, ap, ◌∙◌, append_assoc, arith}
use Rattle.{std.{proofs.lemmas.{Bool.eq-eqb, List.{append-nil, Sums.{sum_by-cons, sum_by_push}}}, specs.Prelude.slice_get}, event_log.specs.Messages.Message}
use Rattle.event_log.specs.{declared.entries.{Entry.Entry, Kind.Kind}, Buffers.{empty_buffers, items_of}, Runs.{IsNext, IsRunFrom, IsLegalHistory, after_entry}}
use Rattle.event_log.specs.{Runs.{contents_from, count_of, count_of_kind, kind_eq}, Traces.HasOpOrderFrom}

-- one entry more
pub run_from_more : (caps : List ℕ) (earlier : List Entry) (contents : List (List Message)) (es : List Entry) (left : List (List Message)) (e : Entry)
    → IsRunFrom caps earlier contents es left → IsNext caps (earlier ++ es) left e → IsRunFrom caps earlier contents (es ++ e ∷ []) (after_entry left e)
run_from_more caps earlier contents [] left e same next = (rw (same, ← append-nil earlier) next, rw same refl)
run_from_more caps earlier contents (x ∷ es) left e run next =
    (run.0, run_from_more caps (earlier ++ x ∷ []) (after_entry contents x) es left e run.1 (rw append_assoc next))

pub run_more : (caps : List ℕ) (es : List Entry) (left : List (List Message)) (e : Entry) → IsLegalHistory caps es left → IsNext caps es left e
    → IsLegalHistory caps (es ++ e ∷ []) (after_entry left e)
run_more caps es left e run next = run_from_more caps [] (empty_buffers caps) es left e run next

-- no entry is a run that leaves the buffers empty
pub run_none : (caps : List ℕ) → IsLegalHistory caps [] (empty_buffers caps)
run_none caps = refl

-- what a run leaves
pub left_from : (caps : List ℕ) (earlier : List Entry) (contents : List (List Message)) (es : List Entry) (left : List (List Message))
    → IsRunFrom caps earlier contents es left → left ≡ contents_from contents es
left_from caps earlier contents [] left same = sym same
left_from caps earlier contents (x ∷ es) left run = left_from caps (earlier ++ x ∷ []) (after_entry contents x) es left run.1

-- each entry may follow those before it
pub next_from : (caps : List ℕ) (earlier : List Entry) (contents : List (List Message)) (es : List Entry) (left : List (List Message))
    → IsRunFrom caps earlier contents es left → (k : ℕ) (e : Entry) → slice_get es k ≡ Some e
    → IsNext caps (earlier ++ take k es) (contents_from contents (take k es)) e
next_from caps earlier contents [] left same k e at = absurd (cc)
next_from caps earlier contents (x ∷ es) left run zero e at =
    let same : x ≡ e = cc in
    rw (append-nil earlier, ← same) run.0
next_from caps earlier contents (x ∷ es) left run (suc k) e at =
    let front : (earlier ++ x ∷ []) ++ take k es ≡ earlier ++ x ∷ take k es = append_assoc earlier (x ∷ []) (take k es) in
    rw (← front) (next_from caps (earlier ++ x ∷ []) (after_entry contents x) es left run.1 k e at)

-- entries that each may follow those before them are a run
pub run_from_next : (caps : List ℕ) (earlier : List Entry) (contents : List (List Message)) (es : List Entry)
    → ((k : ℕ) (e : Entry) → slice_get es k ≡ Some e → IsNext caps (earlier ++ take k es) (contents_from contents (take k es)) e)
    → IsRunFrom caps earlier contents es (contents_from contents es)
run_from_next caps earlier contents [] each = refl
run_from_next caps earlier contents (x ∷ es) each = (
  rw (← append-nil earlier) (each 0 x refl),
  run_from_next caps (earlier ++ x ∷ []) (after_entry contents x) es (λ k e at. rw (append_assoc earlier (x ∷ []) (take k es)) (each (suc k) e at)),
)

-- the op numbers of a run
pub op_order_from : (caps : List ℕ) (earlier : List Entry) (contents : List (List Message)) (es : List Entry) (left : List (List Message))
    → IsRunFrom caps earlier contents es left → HasOpOrderFrom earlier es
op_order_from caps earlier contents [] left run = tt
op_order_from caps earlier contents (x ∷ es) left run = (run.0.op, op_order_from caps (earlier ++ x ∷ []) (after_entry contents x) es left run.1)

-- ---- the numbers after one more entry

pub count_more : (earlier : List Entry) (e : Entry) (b : ℕ) → count_of (earlier ++ e ∷ []) b ≡ count_of earlier b + (if e.buffer.0 == b then 1 else 0)
count_more earlier e b = sum_by_push (λ (x : Entry). if x.buffer.0 == b then 1 else 0) earlier e

pub count_kind_more : (earlier : List Entry) (e : Entry) (b : ℕ) (kind : Kind)
    → count_of_kind (earlier ++ e ∷ []) b kind ≡ count_of_kind earlier b kind + (if (e.buffer.0 == b) && kind_eq e.kind kind then 1 else 0)
count_kind_more earlier e b kind = sum_by_push (λ (x : Entry). if (x.buffer.0 == b) && kind_eq x.kind kind then 1 else 0) earlier e

-- ---- the numbers if the newest entry is first

pub count_cons : (e : Entry) (es : List Entry) (b : ℕ) → count_of (e ∷ es) b ≡ (if e.buffer.0 == b then 1 else 0) + count_of es b
count_cons e es b = sum_by-cons (λ (x : Entry). if x.buffer.0 == b then 1 else 0) e es

pub kind_cons : (e : Entry) (es : List Entry) (b : ℕ) (kind : Kind)
    → count_of_kind (e ∷ es) b kind ≡ (if (e.buffer.0 == b) && kind_eq e.kind kind then 1 else 0) + count_of_kind es b kind
kind_cons e es b kind = sum_by-cons (λ (x : Entry). if (x.buffer.0 == b) && kind_eq x.kind kind then 1 else 0) e es

-- an entry of this buffer counts
pub counts_here : (e : Entry) (es : List Entry) (b : ℕ) → e.buffer.0 ≡ b → count_of (e ∷ es) b ≡ count_of es b + 1
counts_here e es b here = count_cons e es b ∙ ap (λ (v : Bool). (if v then 1 else 0) + count_of es b) (eq-eqb e.buffer.0 b here) ∙ omega arith

pub kinds_here : (e : Entry) (es : List Entry) (b : ℕ) (kind : Kind) → e.buffer.0 ≡ b
    → count_of_kind (e ∷ es) b kind ≡ (if kind_eq e.kind kind then 1 else 0) + count_of_kind es b kind
kinds_here e es b kind here =
    kind_cons e es b kind ∙ ap (λ (v : Bool). (if v && kind_eq e.kind kind then 1 else 0) + count_of_kind es b kind) (eq-eqb e.buffer.0 b here)

-- a buffer that is empty at the start has no items
pub items_none : (caps : List ℕ) (b : ℕ) → items_of (empty_buffers caps) b ≡ []
items_none [] b = refl
items_none (n ∷ caps) zero = refl
items_none (n ∷ caps) (suc b) = items_none caps b
