-- The buffers report their items, owners and wait lists from the locks that the conditions below
-- report.
use Rattle.std.proofs.Common.{◌≡◌, ◌<◌, List, [], ◌∷◌, ◌++◌, length, map, Option, Some, None}
use Rattle.std.proofs.Common.{IsSome, option_map, option_to_list, slice_index, refl, ap, sym, ◌∙◌}
use Rattle.std.{proofs.{Common.subst, lemmas.Option.slice_get-get_or}, specs.List.AllByRecursion}
use Rattle.layer_traits.specs.Blocks.{Capacities.caps_in, BufferEffects.{contents_of, drawn}}
use Rattle.layer_traits.specs.Blocks.BufferEffects.{effect_of, effects_in, fresh_lock}
use Rattle.layer_traits.specs.Blocks.BufferProtocol.{BufferLock, buffer_lock_at}
use Rattle.layer_traits.specs.Blocks.{BufferProtocol.buffer_monitor_rules, QueueBlocks.StartsWell}
use Rattle.layer_traits.specs.Blocks.{QueueBlocks.{above_of, inner}, QueueRules.AreProper}
use Rattle.layer_traits.specs.declared.buffer_edits.BufferEdit.{BufferEdit}
use Rattle.layer_traits.specs.declared.queue_edits.QueueBlock.{QueueBlock}
use Rattle.layer_traits.specs.declared.queues.QueueCall.{QueueCall, TheVariants.{Push, TakeAll}}
use Rattle.layer_traits.specs.declared.queues.QueueCall.TheVariants.{OnBuffer}
use Rattle.layer_traits.specs.Views.{Acted.{BufferActs, ItemsAre}, Owned.shows}
use Rattle.layer_traits.specs.Layers.{Conditions.{CvCall, cv_rules}, QLockLaw.lock_kernel}
use Rattle.layer_traits.specs.Layers.QLocking.{wait_list_in, lock_edited, owner_in}
use Rattle.layer_traits.specs.Layers.Queues.{IsKnownEvent, QueueAllowed, buffer_sections, event_of}
use Rattle.layer_traits.specs.{Layers.Queues.with_section, Protocols.Protocol.section}
use Rattle.layer_traits.proofs.{Alone.block_there as stays_there, ActedLemmas.lock_is}
use Rattle.layer_traits.proofs.OwnedLemmas.{same_buffer}
use Rattle.event_log.specs.declared.{entries.Entry.Entry, ids.{BufId.BufId, CpuId.CpuId}}
use Rattle.event_log.specs.declared.ids.{LockId.{LockId, TheVariants.Buffer}, TheConstants.CPUS}
use Rattle.event_log.specs.{Buffers.items_of, History.IsLawful, Runs.is_closed}
use Rattle.{event_log.specs.Sections.sections_in, fifo_buffer.specs.FifoFits.BootsSo}
use Rattle.fifo_buffer.specs.{Laws.Tallies.{all_tallied, effect_position}, OwnedLaws.buffer_lock_of}
use Rattle.fifo_buffer.specs.{OwnedLaws.buffer_shown, SectionPolls.BufferEvent}

module _ (opening : LockId → Option (QueueBlock BufferLock)) (boots : BootsSo opening) (b : BufId)
    (within : b.0 < length (caps_in opening)) where
  -- a buffer of the capacities has a lock, at the start
  inner_there : IsSome (inner opening (Buffer b))
  inner_there =
      subst (λ (o : Option BufferLock). IsSome o)
      (sym (ap (λ locks. locks (Buffer b)) boots
      ∙ ap (option_map fresh_lock) (slice_get-get_or (caps_in opening) b.0 0 within))) refl

  pub block_there : IsSome (opening (Buffer b))
  block_there = go (opening (Buffer b)) inner_there
    where
      go : (o : Option (QueueBlock BufferLock)) → IsSome (above_of o) → IsSome o
      go None some = some
      go (Some block) some = refl

  -- and after any events
  pub found : (past : List BufferEvent)
      → (lock : BufferLock) × (buffer_lock_of opening past b ≡ Some lock)
  found past =
      go (buffer_lock_of opening past b) refl
      (stays_there (lock_edited (cv_rules buffer_monitor_rules)) (inner opening) (Buffer b)
      (buffer_sections past) inner_there)
    where
      go : (o : Option BufferLock) → buffer_lock_of opening past b ≡ o → IsSome o
          → (lock : BufferLock) × (buffer_lock_of opening past b ≡ Some lock)
      go None is some = absurd cc
      go (Some lock) is some = (lock, is)

  -- it shows what the effects and its last section leave
  pub buffer_read : (past : List BufferEvent)
      → IsLawful (QueueAllowed (lock_kernel (cv_rules buffer_monitor_rules) opening)) past
      → option_map buffer_shown (buffer_lock_of opening past b)
      ≡ Some (shows (items_of (contents_of (caps_in opening)
      (effects_in (inner opening) (buffer_sections past))) b.0)
      (is_closed (effects_in (inner opening) (buffer_sections past)) b.0)
      (owner_in (buffer_lock_of opening past b))
      (λ line. wait_list_in line (buffer_lock_of opening past b)))
  buffer_read past lawful =
      let lock = found past in
      let tally = all_tallied opening (caps_in opening) boots past lawful b lock.0 lock.1 in
      ap (option_map buffer_shown) lock.1
      ∙ ap Some (same_buffer (sym tally.items) (sym tally.closed)
      (ap owner_in (sym lock.1)) (λ line. ap (wait_list_in line) (sym lock.1)))

  -- and if they are those of the actions' sections, they are what these leave in its lock
  pub items_acted : (past : List BufferEvent) (acts : BufferActs) → StartsWell opening
      → AreProper (sections_in acts)
      → past ≡ map event_of (sections_in acts)
      → IsLawful (QueueAllowed (lock_kernel (cv_rules buffer_monitor_rules) opening)) past
      → ItemsAre opening acts b
      (items_of (contents_of (caps_in opening) (effects_in (inner opening) (buffer_sections past)))
      b.0)
      (slice_index (caps_in opening) b.0)
      (is_closed (effects_in (inner opening) (buffer_sections past)) b.0)
  items_acted past acts starts proper past_is lawful =
      let lock = found past in
      let tally = all_tallied opening (caps_in opening) boots past lawful b lock.0 lock.1 in
      record {
        lock = lock.0;
        there = sym (lock_is opening acts starts proper past past_is b) ∙ lock.1;
        holds = tally.items;
        may_hold = tally.capacity;
        shut = tally.closed;
      }

-- each effect has its section's CPU, which is one that a machine may have
pub effects_known : (O : LockId → Option BufferLock) (past : List BufferEvent)
    → IsLawful IsKnownEvent past
    → AllByRecursion (λ (e : Entry). e.cpu.0 < CPUS) (effects_in O (buffer_sections past))
effects_known O [] known = tt
effects_known O (event ∷ past) known = go event.call (effects_known O past known.1)
  where
    more : (o : Option Entry) (es : List Entry) → ((e : Entry) → o ≡ Some e → e.cpu.0 < CPUS)
        → AllByRecursion (λ (e : Entry). e.cpu.0 < CPUS) es
        → AllByRecursion (λ (e : Entry). e.cpu.0 < CPUS) (option_to_list o ++ es)
    more None es of rest = rest
    more (Some e) es of rest = (of e refl, rest)

    go : (call : QueueCall (CvCall BufferEdit))
        → AllByRecursion (λ (e : Entry). e.cpu.0 < CPUS) (effects_in O (buffer_sections past))
        → AllByRecursion (λ (e : Entry). e.cpu.0 < CPUS)
        (effects_in O (with_section event.cpu call (buffer_sections past)))
    go (Push d t) rest = rest
    go (TakeAll d) rest = rest
    go (OnBuffer d call) rest =
        more (effect_of O (buffer_sections past) (section event.cpu (Buffer d) call))
        (effects_in O (buffer_sections past))
        (λ e is. subst (λ (cpu : CpuId). cpu.0 < CPUS)
        (sym (effect_position event.cpu d call
        (λ side t. drawn O (Buffer d) side t (buffer_sections past))
        (buffer_lock_at O (buffer_sections past) (Buffer d)) e is).0)
        known.0)
        rest
