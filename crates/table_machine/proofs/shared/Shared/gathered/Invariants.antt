use Rattle.std.proofs.Common.{◌≡◌, ◌++◌, All}
use Rattle.table_machine.specs.SeatViews.{IsOver, Gathered}
use Rattle.table_machine.proofs.shared.Shared.gathered.Given as goal

abbrev pub invariant-loop-key : goal.invariant-loop-key
invariant-loop-key g l = record {
  all : l.yielded ++ l.key-iterator.rest.items ≡ l.fn.keys.items;
  over : All (IsOver l.self) l.key-iterator.rest.items;
  table : l.seat.table_id ≡ l.self.table;
  start : l.seat.me.0.start ≡ l.self.start;
  gathered : Gathered l.self.start l.seat.me.0 l.yielded;
}
