-- Orders of traces: an entry that is due at the head of its trace may come first.
use Rattle.std.proofs.Common.{◌≡◌, ◌≢◌, ℕ, ◌+◌, ◌<◌, Bool, cond, eqb, ◌&&◌, refl, List, [], ◌∷◌, ◌++◌, get_or, set, Some, sym, ap, ◌∙◌, subst, inl, inr, arith}
use Rattle.std.proofs.{Common.count_by, lemmas.{List.{set_comm, get_or-set_other, get_or_past, Sums.sum_by_push}, Bool.{cases_eq, eqb-true, Decides.nat_tests}}}
use Rattle.std.{proofs.lemmas.Option.{get_or_from_slice_get, slice_get-get_or}, specs.Prelude.{slice_get, ◌==◌, if◌then◌else◌}}
use Rattle.event_log.specs.{Messages.Message, declared.entries.{Entry.Entry, Kind.{Kind, TheVariants.Close}}, Buffers.{items_of, after_effect, empty_buffers}}
use Rattle.event_log.specs.{Runs.{count_of, count_of_kind, kind_eq, IsNext, IsRunFrom, after_entry}, Traces.{IsInterleaving, HasOpOrderFrom}}
use Rattle.{event_log.proofs.RunLemmas.{op_order_from, count_more, count_kind_more}, tracer.specs.Gather.{OrdersAgreeByBuffer, RunsHaveOrder, OrdersRunAlike}}
use Rattle.tracer.specs.Gather.{on_buffer}

-- the entries of a trace, from a look at its head and back
pub at_head : (traces : List (List Entry)) (k : ℕ) (e : Entry) (rest : List Entry) → slice_get traces k ≡ Some (e ∷ rest) → get_or traces k [] ≡ e ∷ rest
at_head traces k e rest at = get_or_from_slice_get traces k (e ∷ rest) [] at

pub head_at : (traces : List (List Entry)) (k : ℕ) (e : Entry) (rest : List Entry) → get_or traces k [] ≡ e ∷ rest → slice_get traces k ≡ Some (e ∷ rest)
head_at traces k e rest at = grind (arith, slice_get-get_or, get_or_past)

-- how one entry more changes the count of a buffer
pub count_more_same : (earlier : List Entry) (e : Entry) (b : ℕ) → e.buffer.0 ≡ b → count_of (earlier ++ e ∷ []) b ≡ count_of earlier b + 1
count_more_same earlier e b same = grind (arith, nat_tests, count_more earlier e b)

pub count_more_other : (earlier : List Entry) (e : Entry) (b : ℕ) → e.buffer.0 ≢ b → count_of (earlier ++ e ∷ []) b ≡ count_of earlier b
count_more_other earlier e b differ = grind (arith, nat_tests, count_more earlier e b)

kind_more_other : (earlier : List Entry) (e : Entry) (b : ℕ) (kind : Kind) → e.buffer.0 ≢ b
    → count_of_kind (earlier ++ e ∷ []) b kind ≡ count_of_kind earlier b kind
kind_more_other earlier e b kind differ = grind (arith, nat_tests, count_kind_more earlier e b kind)

-- an entry whose op number has gone by is never taken
stuck : (earlier : List Entry) (traces : List (List Entry)) (order : List Entry) (k : ℕ) (e : Entry) (rest : List Entry) → IsInterleaving traces order
    → HasOpOrderFrom earlier order → get_or traces k [] ≡ e ∷ rest → e.op < count_of earlier e.buffer.0 → ⊥
stuck earlier traces [] k e rest keeps ops at gone = cc (keeps k, at)
stuck earlier traces (f ∷ order) k e rest keeps ops at gone =
    grind (
      arith,
      cases_eq k keeps.0,
      at_head traces keeps.0 f keeps.1 keeps.2,
      count_more earlier f e.buffer.0,
      get_or-set_other traces keeps.0 k keeps.1 [],
      stuck (earlier ++ f ∷ []) (set traces keeps.0 keeps.1) order k e rest keeps.3 ops.1,
    )

-- two lists of earlier entries that count the same for every test
record SameCounts (a b : List Entry) : Type 0 where
  pub same : (p : Entry → Bool) → count_by p a ≡ count_by p b

counts_more : (a b : List Entry) (e : Entry) → SameCounts a b → SameCounts (a ++ e ∷ []) (b ++ e ∷ [])
counts_more a b e s = record { same = λ p. omega (arith, s.same p, sum_by_push (λ x. cond (p x) 1 0)) }

counts_swap : (a : List Entry) (e f : Entry) → SameCounts ((a ++ f ∷ []) ++ e ∷ []) ((a ++ e ∷ []) ++ f ∷ [])
counts_swap a e f = record { same = λ p. omega (arith, sum_by_push (λ x. cond (p x) 1 0)) }

ops_like : (a b order : List Entry) → SameCounts a b → HasOpOrderFrom a order → HasOpOrderFrom b order
ops_like a b [] s ops = tt
ops_like a b (e ∷ order) s ops = (ops.0 ∙ s.same (λ x. eqb x.buffer.0 e.buffer.0), ops_like (a ++ e ∷ []) (b ++ e ∷ []) order (counts_more a b e s) ops.1)

-- whether an entry may be next depends on what its buffer holds, and on the counts of it
next_alike : (caps : List ℕ) (a b : List Entry) (x y : List (List Message)) (e : Entry) → items_of x e.buffer.0 ≡ items_of y e.buffer.0
    → count_of a e.buffer.0 ≡ count_of b e.buffer.0 → ((kind : Kind) → count_of_kind a e.buffer.0 kind ≡ count_of_kind b e.buffer.0 kind)
    → IsNext caps a x e → IsNext caps b y e
next_alike caps a b x y e items counts kinds n =
    record { known = n.known; allowed = rw (← items, ← kinds Close) n.allowed; op = n.op ∙ counts; pos = n.pos ∙ kinds e.kind }

run_like : (caps : List ℕ) (a b : List Entry) (contents : List (List Message)) (order : List Entry) (left : List (List Message)) → SameCounts a b
    → IsRunFrom caps a contents order left → IsRunFrom caps b contents order left
run_like caps a b contents [] left s run = run
run_like caps a b contents (e ∷ order) left s run = (
  next_alike caps a b contents contents e refl (s.same (λ x. eqb x.buffer.0 e.buffer.0))
      (λ kind. s.same (λ x. eqb x.buffer.0 e.buffer.0 && kind_eq x.kind kind)) run.0,
  run_like caps (a ++ e ∷ []) (b ++ e ∷ []) (after_entry contents e) order left (counts_more a b e s) run.1,
)

-- an entry leaves the items of other buffers as they are
items_other : (contents : List (List Message)) (e : Entry) (b : ℕ) → b ≢ e.buffer.0 → items_of (after_entry contents e) b ≡ items_of contents b
items_other contents e b differ = get_or-set_other contents e.buffer.0 b (after_effect e.kind (items_of contents e.buffer.0) e.value) [] differ

-- entries of two buffers may change places
next_before : (caps : List ℕ) (earlier : List Entry) (contents : List (List Message)) (e f : Entry) → f.buffer.0 ≢ e.buffer.0
    → IsNext caps (earlier ++ f ∷ []) (after_entry contents f) e → IsNext caps earlier contents e
next_before caps earlier contents e f differ =
    next_alike caps (earlier ++ f ∷ []) earlier (after_entry contents f) contents e (items_other contents f e.buffer.0 (λ same. differ (sym same)))
    (count_more_other earlier f e.buffer.0 differ) (λ kind. kind_more_other earlier f e.buffer.0 kind differ)

next_behind : (caps : List ℕ) (earlier : List Entry) (contents : List (List Message)) (e f : Entry) → f.buffer.0 ≢ e.buffer.0 → IsNext caps earlier contents e
    → IsNext caps (earlier ++ f ∷ []) (after_entry contents f) e
next_behind caps earlier contents e f differ =
    next_alike caps earlier (earlier ++ f ∷ []) contents (after_entry contents f) e (sym (items_other contents f e.buffer.0 (λ same. differ (sym same))))
    (sym (count_more_other earlier f e.buffer.0 differ)) (λ kind. sym (kind_more_other earlier f e.buffer.0 kind differ))

after_swap : (contents : List (List Message)) (e f : Entry) → f.buffer.0 ≢ e.buffer.0
    → after_entry (after_entry contents f) e ≡ after_entry (after_entry contents e) f
after_swap contents e f differ = grind (arith, items_other, set_comm)

-- entries of two buffers may change places: the entries of each buffer stay in their order
swapped_first : (b : ℕ) (e f : Entry) (es : List Entry) → f.buffer.0 ≢ e.buffer.0 → on_buffer b (f ∷ e ∷ es) ≡ on_buffer b (e ∷ f ∷ es)
swapped_first b e f es differ = grind (arith, eqb-true)

-- an entry in front of entries in the same order
alike_behind : (b : ℕ) (e : Entry) (es fs : List Entry) → on_buffer b es ≡ on_buffer b fs → on_buffer b (e ∷ es) ≡ on_buffer b (e ∷ fs)
alike_behind b e es fs alike = ap (λ (l : List Entry). if e.buffer.0 == b then e ∷ l else l) alike

-- the traces without e at the head of one have an order after e; if the order is a legal history,
-- so is e followed by that order, and it ends in the same contents
pub record CameFirst (earlier : List Entry) (others : List (List Entry)) (order : List Entry) (e : Entry) : Type 0 where
  pub later : List Entry
  pub keeps : IsInterleaving others later
  pub ops : HasOpOrderFrom (earlier ++ e ∷ []) later
  pub runs : (caps : List ℕ) (contents left : List (List Message)) → IsRunFrom caps earlier contents order left
      → IsRunFrom caps earlier contents (e ∷ later) left
  pub alike : (b : ℕ) → on_buffer b order ≡ on_buffer b (e ∷ later)

-- what is due at the head of a trace may come first
pub may_come_first : (earlier : List Entry) (traces : List (List Entry)) (order : List Entry) (k : ℕ) (e : Entry) (rest : List Entry)
    → IsInterleaving traces order → HasOpOrderFrom earlier order → get_or traces k [] ≡ e ∷ rest → e.op ≡ count_of earlier e.buffer.0
    → CameFirst earlier (set traces k rest) order e
may_come_first earlier traces [] k e rest keeps ops at due = absurd (cc (keeps k, at))
may_come_first earlier traces (f ∷ order) k e rest keeps ops at due =
    elim (cases_eq k keeps.0) [
      | inl same ↦
          let here : f ∷ keeps.1 ≡ e ∷ rest = cc (at_head traces keeps.0 f keeps.1 keeps.2, same, at) in
          let it : f ≡ e = cc in
          let there : keeps.1 ≡ rest = cc in
          rw (same, ← it, ← there)
          (record { later = order; keeps = keeps.3; ops = ops.1; runs = λ caps contents left run. run; alike = λ b. refl })
      | inr differ ↦ elim (cases_eq f.buffer.0 e.buffer.0) [
        | inl alike ↦
            absurd (stuck (earlier ++ f ∷ []) (set traces keeps.0 keeps.1) order k e rest keeps.3 ops.1
            (get_or-set_other traces keeps.0 k keeps.1 [] differ ∙ at) (omega (arith, due, count_more_same earlier f e.buffer.0 alike)))
        | inr apart ↦
            let r : CameFirst (earlier ++ f ∷ []) (set (set traces keeps.0 keeps.1) k rest) order e
            = may_come_first (earlier ++ f ∷ []) (set traces keeps.0 keeps.1) order k e rest keeps.3 ops.1
            (get_or-set_other traces keeps.0 k keeps.1 [] differ ∙ at) (due ∙ sym (count_more_other earlier f e.buffer.0 apart)) in
            record {
              later = f ∷ r.later;
              keeps = (
                keeps.0,
                keeps.1,
                head_at (set traces k rest) keeps.0 f keeps.1 (get_or-set_other traces k keeps.0 rest [] (λ same. differ (sym same))
                    ∙ at_head traces keeps.0 f keeps.1 keeps.2),
                subst (λ ts. IsInterleaving ts r.later) (set_comm traces keeps.0 k keeps.1 rest (λ same. differ (sym same))) r.keeps,
              );
              ops = (
                ops.0 ∙ sym (count_more_other earlier e f.buffer.0 (λ same. apart (sym same))),
                ops_like ((earlier ++ f ∷ []) ++ e ∷ []) ((earlier ++ e ∷ []) ++ f ∷ []) r.later (counts_swap earlier e f) r.ops,
              );
              runs = λ caps contents left run.
                  let behind : IsRunFrom caps (earlier ++ f ∷ []) (after_entry contents f) (e ∷ r.later) left =
                  r.runs caps (after_entry contents f) left run.1 in (
                    next_before caps earlier contents e f apart behind.0,
                    (
                      next_behind caps earlier contents f e (λ same. apart (sym same)) run.0,
                      run_like caps ((earlier ++ f ∷ []) ++ e ∷ []) ((earlier ++ e ∷ []) ++ f ∷ []) (after_entry (after_entry contents e) f) r.later left
                          (counts_swap earlier e f)
                          (subst (λ c. IsRunFrom caps ((earlier ++ f ∷ []) ++ e ∷ []) c r.later left) (after_swap contents e f apart) behind.1),
                    ),
                  );
              alike = λ b. alike_behind b f order (e ∷ r.later) (r.alike b) ∙ swapped_first b e f r.later apart;
            }
      ]
    ]

-- if some order of the traces is a legal history from here, so is each other order
run_alike_from : (caps : List ℕ) (earlier : List Entry) (contents : List (List Message)) (traces : List (List Entry)) (order other : List Entry)
    (left : List (List Message)) → IsInterleaving traces order → IsRunFrom caps earlier contents order left → IsInterleaving traces other
    → HasOpOrderFrom earlier other → IsRunFrom caps earlier contents other left
run_alike_from caps earlier contents traces [] [] left keeps run others ops = run
run_alike_from caps earlier contents traces (f ∷ order) [] left keeps run others ops = absurd (cc (others keeps.0, at_head traces keeps.0 f keeps.1 keeps.2))
run_alike_from caps earlier contents traces order (e ∷ other) left keeps run others ops =
    let first : CameFirst earlier (set traces others.0 others.1) order e
    = may_come_first earlier traces order others.0 e others.1 keeps (op_order_from caps earlier contents order left run)
    (at_head traces others.0 e others.1 others.2) ops.0 in
    let now : IsRunFrom caps earlier contents (e ∷ first.later) left = first.runs caps contents left run in (
      now.0,
      run_alike_from caps (earlier ++ e ∷ []) (after_entry contents e) (set traces others.0 others.1) first.later other left first.keeps now.1 others.3
          ops.1,
    )

pub runs_have_order : (traces : List (List Entry)) → RunsHaveOrder traces
runs_have_order traces caps order left keeps run none = none order (keeps, op_order_from caps [] (empty_buffers caps) order left run)

pub run_alike : (traces : List (List Entry)) → OrdersRunAlike traces
run_alike traces caps order other left keeps run others = run_alike_from caps [] (empty_buffers caps) traces order other left keeps run others.0 others.1

-- in each other order the entries of each buffer are in the same order as in this one
agree_from : (earlier : List Entry) (traces : List (List Entry)) (order other : List Entry) → IsInterleaving traces order → HasOpOrderFrom earlier order
    → IsInterleaving traces other → HasOpOrderFrom earlier other → (b : ℕ) → on_buffer b order ≡ on_buffer b other
agree_from earlier traces [] [] keeps ops others others_ops b = refl
agree_from earlier traces (f ∷ order) [] keeps ops others others_ops b = absurd (cc (others keeps.0, at_head traces keeps.0 f keeps.1 keeps.2))
agree_from earlier traces order (e ∷ other) keeps ops others others_ops b =
    let first : CameFirst earlier (set traces others.0 others.1) order e
    = may_come_first earlier traces order others.0 e others.1 keeps ops (at_head traces others.0 e others.1 others.2) others_ops.0 in
    first.alike b ∙ alike_behind b e first.later other
    (agree_from (earlier ++ e ∷ []) (set traces others.0 others.1) first.later other first.keeps first.ops others.3 others_ops.1 b)

pub orders_agree : (traces : List (List Entry)) → OrdersAgreeByBuffer traces
orders_agree traces one other first second b = agree_from [] traces one other first.0 first.1 second.0 second.1 b
