use Rattle.std.proofs.{Common.{◌≡◌, ◌<◌, ◌+◌, ℕ, [], ◌∷◌, ◌++◌, length, get_or, vec_len, Some, refl, sym, ap, ◌∙◌, arith}, lemmas.List.length-map}
use Rattle.std.proofs.lemmas.List.{length_push, get_or_default}
use Rattle.tracer.{specs.Gather.{traces_in, entries_in, next_entry, NoneDueBelow}, proofs.GatherLemmas.{gathers_start, gathers_next, gathered_all}}
use Rattle.tracer.proofs.{GatherLemmas.{gathered_no_order, some_left, one_more, some_left_in, next_within, left_of_slices}, gathering.gather.Goals.In-Some}
use Rattle.tracer.proofs.gathering.gather.Goals as goal

pub loop-trace-init : goal.loop-trace-init
loop-trace-init c = (
  gathers_start (traces_in c.args.traces.now) (length c.args.traces.now) c.in_ok-order.total c.in_ok-taken.taken.items _ (entries_in c.in_ok-order.order.items)
      (sym (length-map c.args.traces.now (λ trace. trace.now))) (c.in_ok-taken.ensures.items_if_clones_equal (λ y same. same)) refl
      (c.in_ok-order.ensures.count ∙ sym (left_of_slices c.args.traces.now)) (ap entries_in c.in_ok-order.ensures.empty),
  c.in_ok-order.ensures.room,
)

-- the trace found has a next entry, by what is taken
found : (c : In-Some) → next_entry (traces_in c.args.traces.now) c.loop-trace.taken.items c.in-Some.trace ≡ Some c.in-Some.entry.now
found c = rw c.deref.ensures.value at c.in-Some.ensures.found

first : (c : In-Some) → NoneDueBelow (traces_in c.args.traces.now) c.loop-trace.taken.items c.loop-trace.counts c.in-Some.trace
first c = rw c.deref.ensures.value at c.in-Some.ensures.first

within : (c : In-Some) → c.in-Some.trace < length c.loop-trace.taken.items
within c = next_within (traces_in c.args.traces.now) c.loop-trace.taken.items c.in-Some.trace c.in-Some.entry.now
    c.loop-trace.invariant.0.slots (found c)

some : (c : In-Some) → length (entries_in c.loop-trace.order.items) < c.in_ok-order.total
some c = some_left (traces_in c.args.traces.now) c.in_ok-order.total c.loop-trace.taken.items c.loop-trace.counts (entries_in c.loop-trace.order.items)
    c.in-Some.trace c.in-Some.entry.now c.loop-trace.invariant.0 (found c)

-- as many entries as places
as_many : (c : In-Some) → length (entries_in c.loop-trace.order.items) ≡ vec_len c.loop-trace.order
as_many c = omega (arith, length-map c.loop-trace.order.items (λ place. place.now))

taken_below : (c : In-Some) → get_or c.loop-trace.taken.items c.in-Some.trace 0 < c.in_ok-order.total
taken_below c =
    some_left_in (traces_in c.args.traces.now) c.in_ok-order.total c.loop-trace.taken.items c.loop-trace.counts (entries_in c.loop-trace.order.items)
    c.in-Some.trace c.in-Some.entry.now c.loop-trace.invariant.0 (found c)

was : (c : In-Some) (n : ℕ) → n ≡ get_or c.loop-trace.taken.items c.in-Some.trace n → n ≡ get_or c.loop-trace.taken.items c.in-Some.trace 0
was c n read = read ∙ get_or_default c.loop-trace.taken.items c.in-Some.trace n 0 (within c)

pub overflow_add-index_mut : goal.overflow_add-index_mut
overflow_add-index_mut c =
    let here = (goal.at.overflow_add-index_mut c).In-Some in
    omega (arith, was here c.index_mut.result.now c.index_mut.ensures.value, taken_below here)

pub unwrap-requires : goal.unwrap-requires
unwrap-requires c =
    let here = (goal.at.unwrap-requires c).In-Some in
    c.push.ensures.succeeds (omega (arith, some here, as_many here, c.loop-trace.invariant.1))

pub loop-trace-smaller : goal.loop-trace-smaller
loop-trace-smaller c =
    let here = (goal.at.loop-trace-smaller c).In-Some in
    let pushed : c.push.new.self.items ≡ c.loop-trace.order.items ++ c.in-Some.entry ∷ [] = rw c.unwrap.ensures at c.push.ensures.items in
    let more : vec_len c.push.new.self ≡ vec_len c.loop-trace.order + 1 =
    omega (arith, ap length pushed, length_push c.loop-trace.order.items c.in-Some.entry) in
    omega (arith, some here, as_many here, more)

pub loop-trace-preserved : goal.loop-trace-preserved
loop-trace-preserved c =
    let here = (goal.at.loop-trace-preserved c).In-Some in (
      gathers_next (traces_in c.args.traces.now) c.in_ok-order.total c.loop-trace.taken.items c.loop-trace.counts (entries_in c.loop-trace.order.items)
          c.in-Some.trace c.in-Some.entry.now c.index_mut.result.now c.slot_of.result (entries_in c.push.new.self.items) c.loop-trace.invariant.0
          c.slot_of.ensures.within (found here) c.in-Some.ensures.due (first here) (was here c.index_mut.result.now c.index_mut.ensures.value)
          c.slot_of.ensures.is
          (ap entries_in (rw c.unwrap.ensures at c.push.ensures.items) ∙ one_more c.loop-trace.order.items c.in-Some.entry),
      omega (arith, c.loop-trace.invariant.1, c.push.ensures.capacity),
    )

pub returns-then-len-total-clause-order : goal.returns-then-len-total-clause-order
returns-then-len-total-clause-order c =
    (gathered_all (traces_in c.args.traces.now) c.in_ok-order.total c.loop-trace.taken.items c.loop-trace.counts (entries_in c.loop-trace.order.items)
    c.loop-trace.invariant.0 (omega (arith, length-map c.loop-trace.order.items (λ place. place.now)))).0

pub returns-then-len-total-clause-greedy : goal.returns-then-len-total-clause-greedy
returns-then-len-total-clause-greedy c =
    (gathered_all (traces_in c.args.traces.now) c.in_ok-order.total c.loop-trace.taken.items c.loop-trace.counts (entries_in c.loop-trace.order.items)
    c.loop-trace.invariant.0 (omega (arith, length-map c.loop-trace.order.items (λ place. place.now)))).1

pub returns-clause-none : goal.returns-clause-none
returns-clause-none c =
    let none : NoneDueBelow (traces_in c.args.traces.now) c.loop-trace.taken.items c.loop-trace.counts (length (traces_in c.args.traces.now))
    = rw (length-map c.args.traces.now (λ trace. trace.now))
    (rw c.deref.ensures.value at c.in_default.ensures.none) in
    λ _. gathered_no_order (traces_in c.args.traces.now) c.in_ok-order.total c.loop-trace.taken.items c.loop-trace.counts (entries_in c.loop-trace.order.items)
    c.loop-trace.invariant.0 (omega (arith, length-map c.loop-trace.order.items (λ place. place.now))) none
