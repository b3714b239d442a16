use Rattle.std.proofs.Common.{◌≡◌, ◌++◌, length}
use Rattle.plain_machine.specs.Table.{AreFresh}
use Rattle.plain_machine.proofs.cells.fill.Given as goal

abbrev pub invariant-loop-lock : goal.invariant-loop-lock
invariant-loop-lock g l = record {
  can_next : (goal.iterator-loop-lock g).can_next l.lock-iterator;
  ends : (goal.iterator-loop-lock g).is_finite l.lock-iterator;
  all : l.yielded ++ l.lock-iterator.rest.items ≡ l.initial.lock-iterator.rest.items;
  length_is : length l.cells.items ≡ length l.initial.cells.items;
  fresh : AreFresh (g.K.LockQueueWords.Coupling 0 0) l.yielded l.cells.items;
}
