-- What a gathering keeps: the entries taken so far, and what is left of each trace.
use Rattle.std.proofs.Common.{◌≡◌, ◌≢◌, ℕ, zero, suc, ◌+◌, ◌<◌, List, [], ◌∷◌, ◌++◌, length, get_or, set, drop, replicate, sum_by, Some, refl, sym, ap, ◌∙◌}
use Rattle.std.proofs.{Common.{subst, inl, inr, arith, add-one, append_assoc}, lemmas.List.{drop_more, drop_all, drop-drop, get_or-set_other, get_or-set_same}}
use Rattle.std.proofs.lemmas.List.{get_or_past, nil_from_length, length-replicate, length-set, length-append, append-nil, Sums.{sum_by-cons, sum_by-set}}
use Rattle.std.{proofs.lemmas.{List.Sums.get_or-le-sum_by, Bool.cases_eq, Option.{get_or_from_slice_get, slice_get_within}}, specs.Borrow.Bor}
use Rattle.std.specs.Prelude.{slice_get}
use Rattle.event_log.{specs.{declared.entries.Entry.Entry, Runs.count_of, Traces.{IsInterleaving, HasOpOrderFrom, HasOpOrder}}, proofs.ListLemmas.alike_at}
use Rattle.tracer.specs.Gather.{traces_in, entries_in, IsOrder, IsFrontReady, TakesFirstReadyFrom, TakesFirstReady, HasNoOrder, next_entry, IsNextOp}
use Rattle.tracer.{specs.Gather.NoneDueBelow, proofs.OrderLemmas.{at_head, head_at, count_more_same, count_more_other, CameFirst, may_come_first}}

-- what is left of each trace, where so many of each are taken
abbrev pub rests : List (List Entry) → List ℕ → List (List Entry)
rests [] taken = []
rests (trace ∷ traces) [] = trace ∷ traces
rests (trace ∷ traces) (n ∷ taken) = drop n trace ∷ rests traces taken

rests_at : (traces : List (List Entry)) (taken : List ℕ) (k : ℕ) → get_or (rests traces taken) k [] ≡ drop (get_or taken k 0) (get_or traces k [])
rests_at [] taken k = sym (drop_all (get_or taken k 0) [] (omega arith))
rests_at (trace ∷ traces) [] k = refl
rests_at (trace ∷ traces) (n ∷ taken) zero = refl
rests_at (trace ∷ traces) (n ∷ taken) (suc k) = rests_at traces taken k

rests_none : (traces : List (List Entry)) (n : ℕ) → rests traces (replicate n 0) ≡ traces
rests_none [] n = refl
rests_none (trace ∷ traces) zero = refl
rests_none (trace ∷ traces) (suc n) = ap (λ ts. trace ∷ ts) (rests_none traces n)

-- the first entry of a rest is the next one
behind_head : (trace : List Entry) (n : ℕ) (e : Entry) (rest : List Entry) → drop n trace ≡ e ∷ rest → drop (n + 1) trace ≡ rest
behind_head trace n e rest at = grind (arith, drop-drop 1 n trace, at)

rests_more : (traces : List (List Entry)) (taken : List ℕ) (k : ℕ) (e : Entry) (rest : List Entry) → k < length taken
    → get_or (rests traces taken) k [] ≡ e ∷ rest → rests traces (set taken k (get_or taken k 0 + 1)) ≡ set (rests traces taken) k rest
rests_more [] taken k e rest within at = absurd (cc)
rests_more (trace ∷ traces) [] k e rest within at = absurd (omega arith)
rests_more (trace ∷ traces) (n ∷ taken) zero e rest within at = ap (λ r. r ∷ rests traces taken) (behind_head trace n e rest at)
rests_more (trace ∷ traces) (n ∷ taken) (suc k) e rest within at = ap (λ ts. drop n trace ∷ ts) (rests_more traces taken k e rest (omega arith) at)

first_of_drop : (trace : List Entry) (n : ℕ) (e : Entry) (rest : List Entry) → drop n trace ≡ e ∷ rest → slice_get trace n ≡ Some e
first_of_drop [] n e rest at = let bad : [] ≡ e ∷ rest = sym (drop_all n [] (omega arith)) ∙ at in absurd (cc)
first_of_drop (x ∷ trace) zero e rest at = cc
first_of_drop (x ∷ trace) (suc n) e rest at = first_of_drop trace n e rest at

next_is_head : (traces : List (List Entry)) (taken : List ℕ) (k : ℕ) (e : Entry) → next_entry traces taken k ≡ Some e
    → get_or (rests traces taken) k [] ≡ e ∷ drop (get_or taken k 0 + 1) (get_or traces k [])
next_is_head traces taken k e next =
    let trace = get_or traces k [] in
    let n = get_or taken k 0 in
    rests_at traces taken k ∙ (drop_more trace n e (slice_get_within trace n e next)
    ∙ ap (λ x. x ∷ drop (n + 1) trace) (get_or_from_slice_get trace n e e next))

head_is_next : (traces : List (List Entry)) (taken : List ℕ) (k : ℕ) (e : Entry) (rest : List Entry) → get_or (rests traces taken) k [] ≡ e ∷ rest
    → next_entry traces taken k ≡ Some e
head_is_next traces taken k e rest at = first_of_drop (get_or traces k []) (get_or taken k 0) e rest (sym (rests_at traces taken k) ∙ at)

-- what is left of all traces together
abbrev pub left_of : List (List Entry) → ℕ
left_of traces = sum_by length traces

pub left_of_slices : (slices : List (Bor (List Entry))) → left_of (traces_in slices) ≡ sum_by (λ trace. length trace.now) slices
left_of_slices [] = refl
left_of_slices (s ∷ slices) =
    omega (arith, left_of_slices slices, sum_by-cons length s.now (traces_in slices), sum_by-cons (λ trace. length trace.now) s slices)

-- one place more
pub one_more : (places : List (Bor Entry)) (place : Bor Entry) → entries_in (places ++ place ∷ []) ≡ entries_in places ++ place.now ∷ []
one_more [] place = refl
one_more (p ∷ places) place = ap (λ es. p.now ∷ es) (one_more places place)

-- nothing is left where each trace is used up, and only there
none_left : (traces : List (List Entry)) → left_of traces ≡ 0 → (k : ℕ) → get_or traces k [] ≡ []
none_left traces none k = grind (arith, nil_from_length, get_or-le-sum_by, get_or_past)

pub all_used : (traces : List (List Entry)) → ((k : ℕ) → get_or traces k [] ≡ []) → left_of traces ≡ 0
all_used [] used = refl
all_used (trace ∷ traces) used = omega (arith, sum_by-cons length trace traces, all_used traces (λ k. used (suc k)), ap length (used 0))

pub left_of_more : (traces : List (List Entry)) (k : ℕ) (e : Entry) (rest : List Entry) → get_or traces k [] ≡ e ∷ rest
    → left_of (set traces k rest) + 1 ≡ left_of traces
left_of_more traces k e rest at = grind (arith, add-one, sum_by-set, get_or_past)

-- the invariant of a gathering: its tables, and that each order of the rests, after the entries
-- taken, is an order of the traces
pub record Gathers (traces : List (List Entry)) (total : ℕ) (taken counts : List ℕ) (done : List Entry) : Type 0 where
  pub slots : length taken ≡ length traces
  pub table : length counts ≡ 256
  pub counted : (b : ℕ) → get_or counts b 0 ≡ count_of done b
  pub whole : left_of traces ≡ total
  pub left : left_of (rests traces taken) + length done ≡ total
  pub keeps : (es : List Entry) → IsInterleaving (rests traces taken) es → IsInterleaving traces (done ++ es)
  pub ops : (es : List Entry) → HasOpOrderFrom done es → HasOpOrder (done ++ es)
  pub greedy : (es : List Entry) → TakesFirstReadyFrom done (rests traces taken) es → TakesFirstReady traces (done ++ es)
  pub loses : (order : List Entry) → IsOrder traces order → (es : List Entry) × IsInterleaving (rests traces taken) es × HasOpOrderFrom done es

pub gathers_start : (traces : List (List Entry)) (n total : ℕ) (taken counts : List ℕ) (done : List Entry) → n ≡ length traces → taken ≡ replicate n 0
    → counts ≡ replicate 256 0 → total ≡ left_of traces → done ≡ [] → Gathers traces total taken counts done
gathers_start traces n total taken counts done size fresh zeros all none =
    let whole : rests traces taken ≡ traces = ap (rests traces) fresh ∙ rests_none traces n in
    rw none (record {
      slots = ap length fresh ∙ (length-replicate n 0 ∙ size);
      table = ap length zeros;
      counted = λ b. ap (λ t. get_or t b 0) zeros ∙ alike_at 256 b 0;
      whole = sym all;
      left = omega (arith, ap left_of whole, all);
      keeps = λ es kept. subst (λ ts. IsInterleaving ts es) whole kept;
      ops = λ es ops. ops;
      greedy = λ es first. subst (λ ts. TakesFirstReadyFrom [] ts es) whole first;
      loses = λ order it. (order, subst (λ ts. IsInterleaving ts order) (sym whole) it.0, it.1);
    })

-- a trace whose next entry is not due is not ready
none_ready : (traces : List (List Entry)) (taken counts : List ℕ) (done : List Entry) (j : ℕ) (rest : List Entry) → get_or (rests traces taken) j [] ≡ rest
    → ((b : ℕ) → get_or counts b 0 ≡ count_of done b) → ((e : Entry) → next_entry traces taken j ≡ Some e → ¬ IsNextOp counts e) → ¬ IsFrontReady done rest
none_ready traces taken counts done j [] at counted none ready = ready
none_ready traces taken counts done j (e ∷ rest) at counted none ready = none e (head_is_next traces taken j e rest at) (ready ∙ sym (counted e.buffer.0))

-- a trace that has a next entry is one of the traces
pub next_within : (traces : List (List Entry)) (taken : List ℕ) (k : ℕ) (e : Entry) → length taken ≡ length traces → next_entry traces taken k ≡ Some e
    → k < length taken
next_within traces taken k e same next = grind (arith, get_or_past)

-- the counts with one entry more
counted_more : (counts : List ℕ) (done : List Entry) (e : Entry) → ((b : ℕ) → get_or counts b 0 ≡ count_of done b) → e.buffer.0 < length counts → (b : ℕ)
    → get_or (set counts e.buffer.0 (get_or counts e.buffer.0 0 + 1)) b 0 ≡ count_of (done ++ e ∷ []) b
counted_more counts done e counted within b = elim (cases_eq b e.buffer.0) [
  | inl same ↦ grind (arith, same, get_or-set_same, count_more_same done e b)
  | inr differ ↦ grind (arith, get_or-set_other, count_more_other done e b)
]

-- where a trace has a next entry, fewer than all are taken
pub some_left : (traces : List (List Entry)) (total : ℕ) (taken counts : List ℕ) (done : List Entry) (k : ℕ) (e : Entry)
    → Gathers traces total taken counts done → next_entry traces taken k ≡ Some e → length done < total
some_left traces total taken counts done k e g next = grind (arith, left_of_more, next_is_head)

pub some_left_in : (traces : List (List Entry)) (total : ℕ) (taken counts : List ℕ) (done : List Entry) (k : ℕ) (e : Entry)
    → Gathers traces total taken counts done → next_entry traces taken k ≡ Some e → get_or taken k 0 < total
some_left_in traces total taken counts done k e g next = grind (arith, slice_get_within, get_or-le-sum_by length traces k [], next_within)

-- one entry more
pub gathers_next : (traces : List (List Entry)) (total : ℕ) (taken counts : List ℕ) (done : List Entry) (k : ℕ) (e : Entry) (count buffer : ℕ)
    (after : List Entry) → Gathers traces total taken counts done → buffer < 256 → next_entry traces taken k ≡ Some e → IsNextOp counts e
    → NoneDueBelow traces taken counts k → count ≡ get_or taken k 0 → buffer ≡ e.buffer.0 → after ≡ done ++ e ∷ []
    → Gathers traces total (set taken k (count + 1)) (set counts buffer (get_or counts buffer 0 + 1)) after
gathers_next traces total taken counts done k e count buffer after g small next due below same_count same_buffer same_done =
    let rest = drop (get_or taken k 0 + 1) (get_or traces k []) in
    let at : get_or (rests traces taken) k [] ≡ e ∷ rest = next_is_head traces taken k e next in
    let within : k < length taken = next_within traces taken k e g.slots next in
    let others : rests traces (set taken k (get_or taken k 0 + 1)) ≡ set (rests traces taken) k rest = rests_more traces taken k e rest within at in
    let ready : e.op ≡ count_of done e.buffer.0 = due ∙ g.counted e.buffer.0 in
    let here : slice_get (rests traces taken) k ≡ Some (e ∷ rest) = head_at (rests traces taken) k e rest at in
    let none = λ (j : ℕ) (under : j < k). none_ready traces taken counts done j (get_or (rests traces taken) j []) refl g.counted (λ e. below j e under) in
    rw (same_count, same_buffer, same_done) (record {
      slots = length-set taken k (get_or taken k 0 + 1) ∙ g.slots;
      table = length-set counts e.buffer.0 (get_or counts e.buffer.0 0 + 1) ∙ g.table;
      counted = counted_more counts done e g.counted (omega (arith, small, same_buffer, g.table));
      whole = g.whole;
      left = omega (arith, g.left, ap left_of others, left_of_more (rests traces taken) k e rest at, length-append done (e ∷ []));
      keeps = λ es kept. rw append_assoc (g.keeps (e ∷ es) (k, rest, here, subst (λ ts. IsInterleaving ts es) others kept));
      ops = λ es ops. rw append_assoc (g.ops (e ∷ es) (ready, ops));
      greedy = λ es first. rw append_assoc
          (g.greedy (e ∷ es) (k, rest, here, ready, none, subst (λ ts. TakesFirstReadyFrom (done ++ e ∷ []) ts es) others first));
      loses = λ order it.
          let went = g.loses order it in
          let first : CameFirst done (set (rests traces taken) k rest) went.0 e =
          may_come_first done (rests traces taken) went.0 k e rest went.1 went.2 at ready in
          (first.later, subst (λ ts. IsInterleaving ts first.later) (sym others) first.keeps, first.ops);
    })

-- at the end the entries taken are an order, by first choice
pub gathered_all : (traces : List (List Entry)) (total : ℕ) (taken counts : List ℕ) (done : List Entry) → Gathers traces total taken counts done
    → length done ≡ total → IsOrder traces done × TakesFirstReady traces done
gathered_all traces total taken counts done g all =
    let used = none_left (rests traces taken) (omega (arith, g.left, all)) in
    grind (arith, used, g.keeps [], g.ops [], g.greedy [], append-nil)

no_later : (traces : List (List Entry)) (total : ℕ) (taken counts : List ℕ) (done es : List Entry) → Gathers traces total taken counts done
    → length done ≢ total → NoneDueBelow traces taken counts (length traces) → IsInterleaving (rests traces taken) es → HasOpOrderFrom done es → ⊥
no_later traces total taken counts done [] g some none keeps ops = some (omega (arith, g.left, all_used (rests traces taken) keeps))
no_later traces total taken counts done (e ∷ es) g some none keeps ops =
    let at : get_or (rests traces taken) keeps.0 [] ≡ e ∷ keeps.1 = at_head (rests traces taken) keeps.0 e keeps.1 keeps.2 in
    let next : next_entry traces taken keeps.0 ≡ Some e = head_is_next traces taken keeps.0 e keeps.1 at in
    none keeps.0 e (omega (arith, next_within traces taken keeps.0 e g.slots next, g.slots)) next (ops.0 ∙ sym (g.counted e.buffer.0))

-- where something is left and no trace is ready, there is no order
pub gathered_no_order : (traces : List (List Entry)) (total : ℕ) (taken counts : List ℕ) (done : List Entry) → Gathers traces total taken counts done
    → length done ≢ total → NoneDueBelow traces taken counts (length traces) → HasNoOrder traces
gathered_no_order traces total taken counts done g some none order it =
    let went = g.loses order it in
    no_later traces total taken counts done went.0 g some none went.1 went.2
