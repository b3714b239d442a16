use Rattle.{std.proofs.Common.ap, layer_traits.specs.Protocols.OneLock.opened, plain_machine.proofs.MachineLemmas.fresh_sound}
use Rattle.plain_machine.proofs.plain.Plain.open.Goals as goal

pub fill-requires-clause-within : goal.fill-requires-clause-within
fill-requires-clause-within g c = rw c.in_ok-cells.ensures c.table_len-len.ensures

pub returns-clause-opening : goal.returns-clause-opening
returns-clause-opening g c = ap (λ blocks. opened blocks.items) c.of-opening.ensures

pub returns-clause-acts : goal.returns-clause-acts
returns-clause-acts g c = λ cpu known. (
  known,
  rw (c.of-opening.ensures, c.in_ok-log.ensures.event_list)
      (fresh_sound g.K.LockQueueWords.Coupling g.E.SplitEdit.protocol c.args.blocks.items c.fill.new.cells.items c.fill.ensures),
)
