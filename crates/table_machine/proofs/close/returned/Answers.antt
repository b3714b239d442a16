use Rattle.std.proofs.{Common.{◌<◌, ◌≡◌, ◌+◌, length, arith, sym, ap, ◌∙◌, length-append}, lemmas.Option.slice_get_within}
use Rattle.{std.specs.Mem.Slots.{slots_items, slots_filled, slots_len, slots_counts}, table_machine.specs.declared.views.Home.Home}
use Rattle.table_machine.proofs.{Returning.{stays_filled, stays_empty, a_block, given_more}, Elements.element_got}
use Rattle.table_machine.proofs.close.returned.Goals as goal

pub unreachable-requires : goal.unreachable-requires
unreachable-requires g c =
    let below : c.loop-i.i < length c.args.locks.items = omega arith in
    let there = c.requires.home c.loop-i.i below in
    a_block (slots_items c.args.closed.slots) (slots_items c.loop-i.closed.slots) c.loop-i.i c.take-slot.result there.0 c.take-slot.ensures.value
    c.loop-i.invariant.same there.1 there.2 (ap (λ (h : Home _ _). h.block) (sym c.into_home-left.ensures) ∙ c.in_default.is)

pub loop-i-preserved : goal.loop-i-preserved
loop-i-preserved g c =
    let below : c.loop-i.i < length c.args.locks.items = omega arith in
    let counts = slots_counts c.loop-i.closed.slots in
    let within : c.loop-i.i < length (slots_filled c.loop-i.closed.slots) = let a = c.loop-i.invariant.count in let b = counts.1 in omega arith in
    record {
      filled = stays_filled (slots_filled c.loop-i.closed.slots) (slots_filled c.take-slot.new.self.slots) c.loop-i.i (slots_len c.loop-i.closed.slots)
          (slots_len c.take-slot.new.self.slots) c.take-slot.ensures.others.1 c.take-slot.ensures.others.2 c.loop-i.invariant.filled;
      emptied = stays_empty (slots_filled c.loop-i.closed.slots) (slots_filled c.take-slot.new.self.slots) c.loop-i.i c.take-slot.ensures.others.1 within
          c.loop-i.invariant.emptied;
      same = c.take-slot.ensures.others.0 ∙ c.loop-i.invariant.same;
      count = c.take-slot.ensures.others.2 ∙ c.loop-i.invariant.count;
      given = ap length c.push_reserved.ensures.items ∙ (length-append c.loop-i.blocks.items _ ∙ ap (λ n. n + 1) c.loop-i.invariant.given);
      room = rw c.push_reserved.ensures.capacity c.loop-i.invariant.room;
      done = given_more c.args.locks.items (slots_items c.args.closed.slots) (slots_items c.loop-i.closed.slots) c.loop-i.blocks.items
          c.push_reserved.new.self.items c.loop-i.i c.index.result.now c.take-slot.result c.in-Some.block c.loop-i.invariant.given c.push_reserved.ensures.items
          below c.index.ensures c.take-slot.ensures.value c.loop-i.invariant.same
          (ap (λ (h : Home _ _). h.block) (sym c.into_home-left.ensures) ∙ c.in-Some.is) c.loop-i.invariant.done;
    }

pub returns-clause-blocks : goal.returns-clause-blocks
returns-clause-blocks g c i lock y b at_lock at_home is =
    let below = slice_get_within c.args.locks.items i lock (element_got c.args.locks.items i lock at_lock) in
    c.loop-i.invariant.done i lock y b (omega arith) at_lock at_home is
