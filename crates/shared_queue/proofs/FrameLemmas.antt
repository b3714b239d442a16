-- What a poll of the underlying locks leaves, shared queues leave: they have no state.
use Rattle.std.proofs.Common.{arith, ◌≡◌, ℕ, Bool, List, Option, Some, None, if◌then◌else◌, sym, subst}
use Rattle.{event_log.specs.{declared.ids.{CpuId.CpuId, LockId.LockId}, Sections.Section}, layer_traits.specs.declared.queue_edits.QueueBlock.QueueBlock}
use Rattle.layer_traits.specs.{declared.{queue_edits.QueueEdit.QueueEdit, queues.QueueCall.QueueCall}, Polling.Framed.Framed, Protocols.Protocol.section}
use Rattle.layer_traits.specs.{Blocks.{QueueBlocks.StartsWell, QueueRules.IsProperCall}, Layers.Queues.{queue_edit_of, lock_of}}
use Rattle.layer_traits.proofs.NestedLemmas.{proper_of}

-- the section that a poll leaves under way is that of its call
pub call_proper : {E : Type 0} (cpu : CpuId) (call : QueueCall E) (ends : Bool) (under : Option (Section (QueueEdit E)))
    → under ≡ (if ends then None else Some (section cpu (lock_of call) (queue_edit_of call))) → IsProperCall under
call_proper cpu call ends under is = grind (arith, proper_of)

pub frame_raised : {P Q M B E : Type 0} {below : Q → P} {Coupled : P → M → Type 0} {cpu_of : P → CpuId} (opening : M → LockId → Option (QueueBlock B))
    (under_way : P → Option (Section (QueueEdit E))) {machine_id : M → List ℕ} {room : M → ℕ} {ActsFor MayHold : M → CpuId → Type 0} {old new : Q} {m n : M}
    → StartsWell (opening m) → Framed Coupled cpu_of opening machine_id room ActsFor MayHold (below old) (below new) m n → IsProperCall (under_way (below new))
    → Framed (λ p k. Coupled (below p) k × StartsWell (opening k) × IsProperCall (under_way (below p))) (λ p. cpu_of (below p)) opening machine_id room
    (λ k c. ActsFor k c × StartsWell (opening k)) MayHold old new m n
frame_raised opening under_way starts framed proper =
    let starts' = subst StartsWell (sym framed.stays.opening) starts in
    record {
      coupled = (framed.coupled, starts', proper);
      cpu = framed.cpu;
      stays = record {
        opening = framed.stays.opening;
        machine_id = framed.stays.machine_id;
        room = framed.stays.room;
        acts = λ c acts. (framed.stays.acts c acts.0, starts');
      };
      others = λ p other coupled. (framed.others _ other coupled.0, starts', coupled.2);
      holders = λ c other acts held. framed.holders c other acts.0 held;
    }
