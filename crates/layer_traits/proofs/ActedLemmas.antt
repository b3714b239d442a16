-- A layer whose history is that of its actions' sections reports of threads what these make of it.
use Rattle.std.proofs.Common.{◌≡◌, List, Option, option_map, map, ap, sym, ◌∙◌, arith}
use Rattle.event_log.specs.{declared.ids.{BufId.BufId, LockId.{LockId, TheVariants.Buffer}}, Sections.sections_in}
use Rattle.layer_traits.specs.declared.{buffer_edits.BufferEdit.BufferEdit, queue_edits.QueueBlock.{QueueBlock, TheVariants.Above}}
use Rattle.layer_traits.specs.{declared.queues.QueueEvent.QueueEvent, Views.Acted.{BufferActs, MovesAre, guarded, owner_after}}
use Rattle.layer_traits.specs.Blocks.{BufferProtocol.{BufferLock, buffer_rules}, QueueBlocks.{StartsWell, above_of, homes_in, inner}, QueueRules.AreProper}
use Rattle.layer_traits.specs.Layers.{Conditions.CvCall, QLockLaw.lock_kernel, QLocking.{wait_list_in, lock_after, lock_moves, lock_rules, owner_in}}
use Rattle.layer_traits.{specs.{Layers.Queues.{buffer_sections, event_of, moves_in}, Threads.Places.AreMoves}, proofs.NestedLemmas.proper_buffer}
use Rattle.layer_traits.proofs.NestedLemmas.{proper_queue}

above_made : {B : Type 0} (above : Option B) → above_of (option_map Above above) ≡ above
above_made above = grind arith

module _ (opening : LockId → Option (QueueBlock BufferLock)) (acts : BufferActs) (starts : StartsWell opening) (proper : AreProper (sections_in acts))
    (history : List (QueueEvent (CvCall BufferEdit))) (seen_is : history ≡ map event_of (sections_in acts)) where
  -- a buffer's lock according to the history is what its block holds
  pub lock_is : (b : BufId) → lock_after buffer_rules (inner opening) (Buffer b) (buffer_sections history) ≡ above_of (guarded opening acts (Buffer b))
  lock_is b =
      ap (λ past. lock_after buffer_rules (inner opening) (Buffer b) (buffer_sections past)) seen_is
      ∙ (sym (above_made (lock_after buffer_rules (inner opening) (Buffer b) (buffer_sections (map event_of (sections_in acts)))))
      ∙ sym (ap above_of (proper_buffer (lock_rules buffer_rules) (lock_moves buffer_rules) opening starts b (sections_in acts) proper)))

  pub owner_by_acts : (b : BufId) → owner_in (lock_after buffer_rules (inner opening) (Buffer b) (buffer_sections history)) ≡ owner_after opening acts b
  owner_by_acts b = ap owner_in (lock_is b)

  pub moves_read : AreMoves (homes_in opening) (moves_in (lock_kernel buffer_rules opening) history)
      → MovesAre opening acts (moves_in (lock_kernel buffer_rules opening) history)
      (λ b line. wait_list_in line (lock_after buffer_rules (inner opening) (Buffer b) (buffer_sections history)))
  moves_read moving = record {
    made = ap (moves_in (lock_kernel buffer_rules opening)) seen_is;
    pending = λ d. rw seen_is
        (proper_queue (lock_rules buffer_rules) (lock_moves buffer_rules) opening starts d (sections_in acts) proper (rw seen_is at moving));
    waiting = λ b line. ap (wait_list_in line) (lock_is b);
  }
