-- A worker that counts may go to its thread.
use denote.RattleType.{RattleType}
use denote.Ref.{NamedLft}
use denote.Param.SendFields.{declared_send}
use denote.Param.Send.{IsSend, sendable}
use Rattle.{std.proofs.Crossing.crosses, table_machine.proofs.Crossing.{key_send, shared_sync}}
use Rattle.cpu_workers.specs.contracts.counting.tasks.Counting as counting

pub counting_send : (a : NamedLft) (K : RattleType) (k : _) → IsSend (counting.the_row a K k)
counting_send a K k = declared_send (counting.the_type a K k)
    (search (sendable, shared_sync) depth 9, (search (sendable, key_send) depth 9, (search (sendable, crosses), tt)))
