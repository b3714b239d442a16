-- Buffers with one section a call report their items and wait lists from the locks that sleep and
-- wakeup below report.
use Rattle.std.specs.Prelude.{◌≡◌, ◌<◌, List, [], ◌∷◌, ◌++◌, length, Option, Some, None, IsSome}
use Rattle.std.specs.{Prelude.{option_map, option_to_list, refl}, List.AllByRecursion}
use Rattle.std.proofs.{Common.{ap, sym, ◌∙◌, subst}, lemmas.Option.slice_get-get_or}
use Rattle.layer_traits.specs.Blocks.{Capacities.caps_in, BufferEffects.contents_of}
use Rattle.layer_traits.specs.{Blocks.QueueBlocks.{above_of, inner}, Views.Renaming.viewed}
use Rattle.layer_traits.specs.{Views.Owned.{shows, unowned_lock}, declared.calls.Effect.Effect}
use Rattle.layer_traits.specs.declared.moves.WaitList.{WaitList, TheVariants.{Sleepers, Receivers}}
use Rattle.layer_traits.specs.declared.moves.WaitList.TheVariants.{Senders}
use Rattle.layer_traits.specs.declared.queue_edits.QueueBlock.{QueueBlock}
use Rattle.layer_traits.specs.declared.queues.QueueCall.{QueueCall, TheVariants.{Push, TakeAll}}
use Rattle.layer_traits.specs.declared.queues.QueueCall.TheVariants.{OnBuffer}
use Rattle.layer_traits.specs.{declared.queues.QueueEvent.QueueEvent, Layers.BufferLaw.entry_of}
use Rattle.layer_traits.specs.Layers.Queues.{IsKnownEvent, buffer_sections, with_section}
use Rattle.layer_traits.specs.Layers.{Sleeping.{wait_list_at, sleep_edited}, QLocking.wait_list_in}
use Rattle.layer_traits.proofs.{Alone.block_there, OwnedLemmas.same_buffer}
use Rattle.plain_layers.specs.Fifos.{plain_shown, PlainLocked, effect_by, plain_entries_in}
use Rattle.plain_layers.specs.Fifos.{fresh_buffer, fresh_buffers, wait_lists_in, locked_after}
use Rattle.plain_layers.specs.{declared.attempts.Attempt.Attempt, Attempts.attempts}
use Rattle.plain_layers.specs.{FifoOwned.{nobody, plain_buffer}, Laws.FifoTallies.plain_tally}
use Rattle.event_log.specs.declared.{entries.Entry.Entry, ids.{BufId.BufId, CpuId.CpuId}}
use Rattle.event_log.specs.declared.ids.{LockId.{LockId, TheVariants.Buffer}, Tid.Tid}
use Rattle.event_log.specs.{declared.ids.TheConstants.CPUS, Buffers.items_of, History.IsLawful}
use Rattle.event_log.specs.{Runs.is_closed, Sections.Section}

-- a block whose view is there is there
pub there_viewed : {A B : Type 0} (view : A → B) (o : Option A) → IsSome (option_map view o)
    → IsSome o
there_viewed view None some = absurd cc
there_viewed view (Some x) some = refl

module _ (opening : LockId → Option (QueueBlock PlainLocked))
    (fresh : inner opening ≡ fresh_buffers (caps_in (viewed plain_shown opening))) (b : BufId)
    (within : b.0 < length (caps_in (viewed plain_shown opening))) where
  -- a buffer of the capacities has a lock, at the start
  inner_there : IsSome (inner opening (Buffer b))
  inner_there =
      subst (λ (o : Option PlainLocked). IsSome o)
      (sym (ap (λ locks. locks (Buffer b)) fresh
      ∙ ap (option_map fresh_buffer)
      (slice_get-get_or (caps_in (viewed plain_shown opening)) b.0 0 within))) refl

  pub buffer_there : IsSome (opening (Buffer b))
  buffer_there = go (opening (Buffer b)) inner_there
    where
      go : (o : Option (QueueBlock PlainLocked)) → IsSome (above_of o) → IsSome o
      go None some = some
      go (Some block) some = refl

  -- and after any sections
  found : (past : List (Section Attempt))
      → (state : PlainLocked) × (locked_after (inner opening) (Buffer b) past ≡ Some state)
  found past =
      go (locked_after (inner opening) (Buffer b) past) refl
      (block_there (sleep_edited attempts) (inner opening) (Buffer b) past inner_there)
    where
      go : (o : Option PlainLocked) → locked_after (inner opening) (Buffer b) past ≡ o → IsSome o
          → (state : PlainLocked) × (locked_after (inner opening) (Buffer b) past ≡ Some state)
      go None is some = absurd cc
      go (Some state) is some = (state, is)

  -- it shows what the effects and its last section leave
  pub plain_read : (past : List (Section Attempt))
      → option_map plain_buffer (locked_after (inner opening) (Buffer b) past)
      ≡ Some (shows (items_of (contents_of (caps_in (viewed plain_shown opening))
      (plain_entries_in (inner opening) past)) b.0)
      (is_closed (plain_entries_in (inner opening) past) b.0) nobody
      (wait_lists_in (inner opening) past b))
  plain_read past =
      let state = found past in
      let tally =
      plain_tally (inner opening) (caps_in (viewed plain_shown opening)) past fresh b state.0
      state.1 in
      ap (option_map plain_buffer) state.1
      ∙ ap Some (same_buffer (sym tally.items) (sym tally.closed) refl
      (λ line. at_line state.0 line ∙ ap (wait_list_at line) (sym state.1)))
    where
      at_line : (state : PlainLocked) (line : WaitList)
          → wait_list_in line (Some (unowned_lock state)) ≡ wait_list_at line (Some state)
      at_line state Sleepers = refl
      at_line state Receivers = refl
      at_line state Senders = refl

-- each effect has its section's CPU, which is one that a machine may have
pub entries_known : (locks : LockId → Option PlainLocked) (past : List (QueueEvent Attempt))
    → IsLawful IsKnownEvent past
    → AllByRecursion (λ (e : Entry). e.cpu.0 < CPUS) (plain_entries_in locks (buffer_sections past))
entries_known locks [] known = tt
entries_known locks (event ∷ past) known = go event.call (entries_known locks past known.1)
  where
    more : (t : Tid) (b : BufId) (o : Option Effect) (es : List Entry)
        → AllByRecursion (λ (e : Entry). e.cpu.0 < CPUS) es
        → AllByRecursion (λ (e : Entry). e.cpu.0 < CPUS)
        (option_to_list (option_map (entry_of event.cpu t b) o) ++ es)
    more t b None es rest = rest
    more t b (Some f) es rest = (known.0, rest)

    go : (call : QueueCall Attempt)
        → AllByRecursion (λ (e : Entry). e.cpu.0 < CPUS)
        (plain_entries_in locks (buffer_sections past))
        → AllByRecursion (λ (e : Entry). e.cpu.0 < CPUS)
        (plain_entries_in locks (with_section event.cpu call (buffer_sections past)))
    go (Push d t) rest = rest
    go (TakeAll d) rest = rest
    go (OnBuffer d a) rest =
        more a.thread d (effect_by a (locked_after locks (Buffer d) (buffer_sections past)))
        (plain_entries_in locks (buffer_sections past)) rest
