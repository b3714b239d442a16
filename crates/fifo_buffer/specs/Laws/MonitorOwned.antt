-- Monitors report their items and wait lists from the locks that sleep and wakeup below report.
use Rattle.std.specs.Prelude.{◌≡◌, ◌<◌, List, [], ◌∷◌, ◌++◌, length, Option, Some, None, IsSome}
use Rattle.std.specs.{Prelude.{option_map, option_to_list, refl}, List.AllByRecursion}
use Rattle.std.proofs.{Common.{ap, sym, ◌∙◌, subst}, lemmas.Option.slice_get-get_or}
use Rattle.layer_traits.specs.Blocks.{Capacities.caps_in, BufferEffects.contents_of}
use Rattle.layer_traits.specs.{Blocks.QueueBlocks.{above_of, inner}, Views.Renaming.viewed}
use Rattle.layer_traits.specs.{Views.Owned.{shows, unowned_lock}, declared.calls.Effect.Effect}
use Rattle.layer_traits.specs.declared.moves.WaitList.{WaitList, TheVariants.{Sleepers, Receivers}}
use Rattle.layer_traits.specs.declared.moves.WaitList.TheVariants.{Senders}
use Rattle.layer_traits.specs.declared.queue_edits.QueueBlock.{QueueBlock}
use Rattle.layer_traits.specs.declared.queues.QueueCall.{QueueCall, TheVariants.{Push, TakeAll}}
use Rattle.layer_traits.specs.declared.queues.QueueCall.TheVariants.{OnBuffer}
use Rattle.layer_traits.specs.{declared.queues.QueueEvent.QueueEvent, Layers.BufferLaw.entry_of}
use Rattle.layer_traits.specs.Layers.Queues.{IsKnownEvent, buffer_sections, with_section}
use Rattle.layer_traits.specs.Layers.{Sleeping.{wait_list_at, sleep_edited}, QLocking.wait_list_in}
use Rattle.layer_traits.proofs.{Alone.block_there, OwnedLemmas.same_buffer}
use Rattle.fifo_buffer.specs.declared.monitor_blocks.MonitorEdit.{MonitorEdit}
use Rattle.fifo_buffer.specs.{Monitors.monitor_rules, MonitorHistories.MonitorLocked}
use Rattle.fifo_buffer.specs.MonitorHistories.{fresh_monitor, fresh_monitors, monitor_after}
use Rattle.fifo_buffer.specs.MonitorHistories.{monitor_effect_by, monitor_entries, monitor_lists}
use Rattle.fifo_buffer.specs.{MonitorOwned.{debtor_in, monitor_buffer}, MonitorParts.monitor_shown}
use Rattle.{fifo_buffer.specs.Laws.MonitorTallies.monitor_tally, event_log.specs.Runs.is_closed}
use Rattle.event_log.specs.declared.{entries.Entry.Entry, ids.{BufId.BufId, LockId.LockId}}
use Rattle.event_log.specs.declared.ids.{LockId.TheVariants.Buffer, Tid.Tid, TheConstants.CPUS}
use Rattle.event_log.specs.{Sections.Section, Buffers.items_of, History.IsLawful}

-- a block whose view is there is there
pub block_viewed_there : {A B : Type 0} (view : A → B) (o : Option A) → IsSome (option_map view o)
    → IsSome o
block_viewed_there view None some = absurd cc
block_viewed_there view (Some x) some = refl

module _ (opening : LockId → Option (QueueBlock MonitorLocked))
    (fresh : inner opening ≡ fresh_monitors (caps_in (viewed monitor_shown opening))) (b : BufId)
    (within : b.0 < length (caps_in (viewed monitor_shown opening))) where
  -- a buffer of the capacities has a lock, at the start
  inner_there : IsSome (inner opening (Buffer b))
  inner_there =
      subst (λ (o : Option MonitorLocked). IsSome o)
      (sym (ap (λ locks. locks (Buffer b)) fresh
      ∙ ap (option_map fresh_monitor)
      (slice_get-get_or (caps_in (viewed monitor_shown opening)) b.0 0 within)))
      refl

  pub monitor_there : IsSome (opening (Buffer b))
  monitor_there = go (opening (Buffer b)) inner_there
    where
      go : (o : Option (QueueBlock MonitorLocked)) → IsSome (above_of o) → IsSome o
      go None some = some
      go (Some block) some = refl

  -- and after any sections
  found : (past : List (Section MonitorEdit))
      → (state : MonitorLocked) × (monitor_after (inner opening) (Buffer b) past ≡ Some state)
  found past =
      go (monitor_after (inner opening) (Buffer b) past) refl
      (block_there (sleep_edited monitor_rules) (inner opening) (Buffer b) past inner_there)
    where
      go : (o : Option MonitorLocked) → monitor_after (inner opening) (Buffer b) past ≡ o → IsSome o
          → (state : MonitorLocked) × (monitor_after (inner opening) (Buffer b) past ≡ Some state)
      go None is some = absurd cc
      go (Some state) is some = (state, is)

  -- it shows what the effects and its last section leave
  pub monitor_read : (past : List (Section MonitorEdit))
      → option_map monitor_buffer (monitor_after (inner opening) (Buffer b) past)
      ≡ Some (shows (items_of (contents_of (caps_in (viewed monitor_shown opening))
      (monitor_entries (inner opening) past)) b.0)
      (is_closed (monitor_entries (inner opening) past) b.0)
      (debtor_in (monitor_after (inner opening) (Buffer b) past))
      (monitor_lists (inner opening) past b))
  monitor_read past =
      let state = found past in
      let tally =
      monitor_tally (inner opening) (caps_in (viewed monitor_shown opening)) past fresh b state.0
      state.1 in
      ap (option_map monitor_buffer) state.1
      ∙ ap Some (same_buffer (sym tally.items) (sym tally.closed) (ap debtor_in (sym state.1))
      (λ line. at_line state.0 line ∙ ap (wait_list_at line) (sym state.1)))
    where
      at_line : (state : MonitorLocked) (line : WaitList)
          → wait_list_in line (Some (unowned_lock state)) ≡ wait_list_at line (Some state)
      at_line state Sleepers = refl
      at_line state Receivers = refl
      at_line state Senders = refl

-- each effect has its section's CPU, which is one that a machine may have
pub monitor_entries_known : (locks : LockId → Option MonitorLocked)
    (past : List (QueueEvent MonitorEdit)) → IsLawful IsKnownEvent past
    → AllByRecursion (λ (e : Entry). e.cpu.0 < CPUS) (monitor_entries locks (buffer_sections past))
monitor_entries_known locks [] known = tt
monitor_entries_known locks (event ∷ past) known =
    go event.call (monitor_entries_known locks past known.1)
  where
    more : (t : Tid) (b : BufId) (o : Option Effect) (es : List Entry)
        → AllByRecursion (λ (e : Entry). e.cpu.0 < CPUS) es
        → AllByRecursion (λ (e : Entry). e.cpu.0 < CPUS)
        (option_to_list (option_map (entry_of event.cpu t b) o) ++ es)
    more t b None es rest = rest
    more t b (Some f) es rest = (known.0, rest)

    go : (call : QueueCall MonitorEdit)
        → AllByRecursion (λ (e : Entry). e.cpu.0 < CPUS)
        (monitor_entries locks (buffer_sections past))
        → AllByRecursion (λ (e : Entry). e.cpu.0 < CPUS)
        (monitor_entries locks (with_section event.cpu call (buffer_sections past)))
    go (Push d t) rest = rest
    go (TakeAll d) rest = rest
    go (OnBuffer d e) rest =
        more e.thread d (monitor_effect_by e
        (monitor_after locks (Buffer d) (buffer_sections past))) (monitor_entries locks
        (buffer_sections past)) rest
