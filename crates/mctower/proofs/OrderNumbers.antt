-- The order of a system's traces has a spelling: there are few entries, and their numbers are in
-- range.
use Rattle.std.proofs.Common.{◌≡◌, ℕ, zero, suc, ◌+◌, ◌<◌, ◌≤◌, Bool, List, [], ◌∷◌, ◌++◌, length, set, Some, sym, ap, ◌∙◌, arith, inl, inr}
use Rattle.std.proofs.lemmas.{Bool.cases_eq, List.{length-map, length-set, length_push, Sums.count_by-le-length}, Option.slice_get_within}
use Rattle.std.specs.{Prelude.{slice_get, ◌==◌, ◌&&◌}, List.AllByRecursion}
use Rattle.event_log.specs.declared.{ids.TheConstants.{CPUS, ENTRIES, THREADS}, entries.{Entry.Entry, Kind.{Kind, TheVariants.{Send, Recv, Close, RecvClosed}}}}
use Rattle.event_log.specs.{Runs.{kind_eq, IsNext, IsRunFrom, after_entry}, Traces.IsInterleaving, Buffers.{IsAllowedEffect, items_of, empty_buffers}}
use Rattle.{event_log.{specs.{Buffers.after_effect, Messages.{IsMessage, Message}}, proofs.ListLemmas.{set_else, set_there}}, tracer.specs.TraceText.IsEntryOf}
use Rattle.{tracer.specs.TraceText.IsValueOf, cpu.{specs.Claims.{HasLinearization, SystemView}, proofs.ListFacts.ListReads.all_both}}

-- what holds of the entries of all traces holds of the entries of an order
pub order_all : (P : Entry → Type 0) (traces : List (List Entry)) (order : List Entry)
    → ((k : ℕ) (trace : List Entry) → slice_get traces k ≡ Some trace → AllByRecursion P trace) → IsInterleaving traces order → AllByRecursion P order
order_all P traces [] each keeps = tt
order_all P traces (e ∷ order) each keeps =
    let here : AllByRecursion P (e ∷ keeps.1) = each keeps.0 (e ∷ keeps.1) keeps.2 in (
      here.0,
      order_all P (set traces keeps.0 keeps.1) order
          (λ k trace at. elim (cases_eq k keeps.0) [
            | inl same ↦
                let is : keeps.1 ≡ trace = cc (set_there traces keeps.0 keeps.1 (slice_get_within traces keeps.0 (e ∷ keeps.1) keeps.2)) in
                rw is at here.1
            | inr other ↦ each k trace (sym (set_else traces keeps.0 k keeps.1 other) ∙ at)
          ])
          keeps.3,
    )

-- the message of an allowed effect is one of its kind
value_allowed : (kind : Kind) (closed : Bool) (capacity : ℕ) (items : List Message) (value : Message) → IsAllowedEffect kind closed capacity items value
    → IsMessage value → IsValueOf kind value
value_allowed Close closed capacity items value allowed small = allowed
value_allowed RecvClosed closed capacity items value allowed small = allowed.2
value_allowed other closed capacity items value allowed small = small

-- the numbers of a legal history's entries are in range if there are few entries, and their
-- messages are of their kinds
pub run_entries : (caps : List ℕ) (earlier : List Entry) (contents : List (List Message)) (es : List Entry) (left : List (List Message))
    → length earlier + length es ≤ ENTRIES → IsRunFrom caps earlier contents es left → AllByRecursion (λ e. (e.cpu.0 < CPUS) × (e.thread.0 < THREADS)) es
    → AllByRecursion (λ e. IsMessage e.value) es → AllByRecursion (IsEntryOf (length caps)) es
run_entries caps earlier contents [] left few run local values = tt
run_entries caps earlier contents (e ∷ es) left few run local values =
    let is : IsNext caps earlier contents e = run.0 in
    let op : e.op < ENTRIES = omega (arith, is.op, count_by-le-length (λ (x : Entry). x.buffer.0 == e.buffer.0) earlier) in
    let pos : e.pos < ENTRIES =
    omega (arith, is.pos, count_by-le-length (λ (x : Entry). (x.buffer.0 == e.buffer.0) && kind_eq x.kind e.kind) earlier) in
    let fits : length (earlier ++ e ∷ []) + length es ≤ ENTRIES = rw length_push (omega arith) in (
      assumption (local.0, is, op, pos, value_allowed e.kind _ _ _ e.value is.allowed values.0),
      run_entries caps (earlier ++ e ∷ []) (after_entry contents e) es left fits run.1 local.1 values.1,
    )

-- what holds of the values of a run's entries holds of what the buffers hold
effect_all : (P : Message → Type 0) (kind : Kind) (items : List Message) (value : Message) → AllByRecursion P items → P value
    → AllByRecursion P (after_effect kind items value)
effect_all P Send items value all here = all_both P items (value ∷ []) all (here, tt)
effect_all P Recv [] value all here = tt
effect_all P Recv (x ∷ items) value all here = all.1
effect_all P other items value all here = all

items_all : (P : Message → Type 0) (contents : List (List Message)) (b : ℕ) → AllByRecursion (λ items. AllByRecursion P items) contents
    → AllByRecursion P (items_of contents b)
items_all P [] b all = tt
items_all P (items ∷ contents) zero all = all.0
items_all P (items ∷ contents) (suc b) all = items_all P contents b all.1

set_all : (P : Message → Type 0) (contents : List (List Message)) (b : ℕ) (items : List Message) → AllByRecursion (λ x. AllByRecursion P x) contents
    → AllByRecursion P items → AllByRecursion (λ x. AllByRecursion P x) (set contents b items)
set_all P [] b items all here = tt
set_all P (x ∷ contents) zero items all here = (here, all.1)
set_all P (x ∷ contents) (suc b) items all here = (all.0, set_all P contents b items all.1 here)

pub empty_values : (P : Message → Type 0) (caps : List ℕ) → AllByRecursion (λ items. AllByRecursion P items) (empty_buffers caps)
empty_values P [] = tt
empty_values P (capacity ∷ caps) = (tt, empty_values P caps)

pub run_values : (P : Message → Type 0) (caps : List ℕ) (earlier : List Entry) (contents : List (List Message)) (es : List Entry) (left : List (List Message))
    → AllByRecursion (λ items. AllByRecursion P items) contents → AllByRecursion (λ e. P e.value) es → IsRunFrom caps earlier contents es left
    → AllByRecursion (λ items. AllByRecursion P items) left
run_values P caps earlier contents [] left now all run = rw run at now
run_values P caps earlier contents (e ∷ es) left now all run =
    run_values P caps (earlier ++ e ∷ []) (after_entry contents e) es left
    (set_all P contents e.buffer.0 (after_effect e.kind (items_of contents e.buffer.0) e.value) now
    (effect_all P e.kind (items_of contents e.buffer.0) e.value (items_all P contents e.buffer.0 now) all.0)) all.1 run.1

-- a run ends with as many buffers as it begins with
pub run_length : (caps : List ℕ) (earlier : List Entry) (contents : List (List Message)) (es : List Entry) (left : List (List Message))
    → IsRunFrom caps earlier contents es left → length left ≡ length contents
run_length caps earlier contents [] left run = sym (ap length run)
run_length caps earlier contents (e ∷ es) left run =
    run_length caps (earlier ++ e ∷ []) (after_entry contents e) es left run.1 ∙ length-set contents e.buffer.0 _

-- there are as many contents as buffers
pub contents_length : (s : SystemView) → HasLinearization s → length s.contents ≡ length s.caps
contents_length s one = run_length s.caps [] (empty_buffers s.caps) s.order s.contents one.run ∙ length-map s.caps _
