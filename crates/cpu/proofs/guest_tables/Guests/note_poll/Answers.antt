use Rattle.std.proofs.{Common.{◌≡◌, ◌<◌, None, Some, length, rules, sym, ◌∙◌, arith}, lemmas.List.get_or_default}
use Rattle.cpu.proofs.ListFacts.GuestLists.{count_with, live_with}
use Rattle.cpu.proofs.guest_tables.Guests.note_poll.Goals as goal

-- the call is polled again: its guest is still at it
pub invariant_of-self-else-is_some : goal.invariant_of-self-else-is_some
invariant_of-self-else-is_some c =
    let table = c.self.inside.table.items in
    let t = c.args.thread.0 in
    let within : t < length table = rw (← c.self.view_is) at c.requires in
    let at = get_or_default table t None c.index_mut.result.now within ∙ (sym (rw c.from.ensures at c.index_mut.ensures.value) ∙ c.in-Some.is) in
    let none : c.args.answer ≡ None = search rules in
    let begun = rw at at (count_with table t (Some c.note.new.self) within) in
    let live = rw at at (live_with table t (Some c.note.new.self) within) in
    let more = c.recount.ensures in
    let was = c.self.invariant in
    (rw c.from.ensures (omega (arith, begun, more.begun, was.0)), (rw c.from.ensures (omega (arith, live, more.live, was.1.0)), search rules))
