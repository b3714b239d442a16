use Rattle.std.proofs.Common.{◌≡◌, ◌++◌, map}
use Rattle.{event_log.specs.declared.ids.LockId.LockId, table_machine.specs.Rule.fresh_home}
use Rattle.table_machine.proofs.open.parted.Given as goal

abbrev pub invariant-loop-lock : goal.invariant-loop-lock
invariant-loop-lock g l = record {
  all : l.yielded ++ l.lock-iterator.rest.items ≡ l.fn.blocks.items;
  locks : l.locks.items ≡ map (λ (o : LockId × _). o.0) l.yielded;
  homes : l.homes.items ≡ map (λ (o : LockId × _). fresh_home o.1) l.yielded;
}
