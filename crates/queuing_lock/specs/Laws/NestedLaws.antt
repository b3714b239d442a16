-- The laws of the layer, from those of the lower layer: the same history, threads and waiting lists
-- under the layer's own names.
use Rattle.std.proofs.Common.{arith, ◌≡◌, Bool, List, [], ◌∷◌, Option, Some, None, option_map, map}
use Rattle.std.proofs.{Common.{refl, ap, sym, ◌∙◌, subst}, Math.Path.transport}
use Rattle.event_log.specs.{declared.ids.{CpuId.CpuId, LockId.LockId}, History.IsLawful}
use Rattle.event_log.specs.{Actions.{Action, phase, renamed}, Sections.{Section, block_after}}
use Rattle.event_log.{specs.Sections.renamed_section, proofs.Renaming.phase_renamed}
use Rattle.layer_traits.specs.declared.locked.{QLockCall.QLockCall, QLockReply.QLockReply}
use Rattle.layer_traits.specs.declared.moves.WaitList.{WaitList, TheVariants.Sleepers}
use Rattle.layer_traits.specs.declared.queue_edits.{QueueBlock.QueueBlock, QueueEdit.QueueEdit}
use Rattle.layer_traits.specs.declared.{queues.QueueEvent.QueueEvent, scheds.SchedCall.SchedCall}
use Rattle.layer_traits.specs.{declared.sleeps.Outcome.Outcome, Threads.ListsAgree.ListsAgree}
use Rattle.layer_traits.specs.Threads.{ListsAgree.is_at, Places.{AreMoves, Stands, Threads}}
use Rattle.layer_traits.specs.Threads.Places.{count_in, one_if, wait_channel_of, where_is}
use Rattle.layer_traits.specs.Layers.QLocking.{LockAllowed, LockRules, LockState, wait_list_in}
use Rattle.layer_traits.specs.Layers.{QLocking.lock_after, QLockLaw.{LocksAgree, lock_kernel}}
use Rattle.layer_traits.specs.Layers.Queues.{Kernel, QueueAllowed, buffer_sections, moves_in}
use Rattle.layer_traits.specs.Layers.{SleepLaw.sleep_kernel, Sleeping.{SleepState, wait_list_at}}
use Rattle.layer_traits.specs.{Layers.Sleeping.sleep_edited, Polling.Plans.is_in_section}
use Rattle.layer_traits.specs.{Blocks.QueueBlocks.{homes_in, inner}, Views.Renaming.renamed_edit}
use Rattle.layer_traits.specs.Views.Renaming.{renamed_events, renamed_sched, viewed}
use Rattle.layer_traits.proofs.KernelRenaming.{Wraps, block_renamed, homes_viewed, inner_viewed}
use Rattle.layer_traits.proofs.KernelRenaming.{lawful_renamed, moves_renamed, sections_renamed}
use Rattle.queuing_lock.specs.declared.edits.{QLockBlock.QLockBlock, QLockSection.QLockSection}
use Rattle.queuing_lock.specs.{Laws.Edits.{answers, edits}, Nested.{busy_rules, lock_call}}
use Rattle.queuing_lock.specs.Nested.{nested_lock_of, locks}

module _ {F R B O : Type 0} (protocol : LockRules F R B O)
    (opening : LockId → Option (QueueBlock (SleepState (QLockBlock B)))) where
  -- the kernel of the lower layer
  abbrev pub beneath_the_lock : Kernel (QLockSection F R) (SleepState (QLockBlock B))
      (Outcome (QLockReply O))
  beneath_the_lock = sleep_kernel (busy_rules protocol) opening

  -- the kernel of this layer
  abbrev pub at_the_lock : Kernel (QLockCall F R) (LockState B) (Outcome (QLockReply O))
  at_the_lock = lock_kernel protocol (viewed nested_lock_of opening)

  pub inner_locks : (λ (lock : LockId). inner (viewed nested_lock_of opening) lock)
      ≡ locks (inner opening)
  inner_locks = λ i lock. inner_viewed nested_lock_of opening lock i

  pub allowed_here : (past : List (Section (QLockSection F R))) (s : Section (QLockSection F R))
      → LockAllowed protocol (locks (inner opening)) (map (renamed_section lock_call) past)
      (renamed_section lock_call s)
      → LockAllowed protocol (inner (viewed nested_lock_of opening))
      (map (renamed_section lock_call) past) (renamed_section lock_call s)
  allowed_here past s allowed = rw inner_locks allowed

  pub locks_wrap : Wraps beneath_the_lock at_the_lock lock_call nested_lock_of
  locks_wrap = record {
    edits = edits protocol;
    answers = answers protocol;
    openings = inner_viewed nested_lock_of opening;
    homes = homes_viewed nested_lock_of opening;
    callers = λ d. refl;
    slept = refl;
    woke = refl;
    allowed = allowed_here;
  }

  pub locks_lawful : (past : List (QueueEvent (QLockSection F R)))
      → IsLawful (QueueAllowed beneath_the_lock) past
      → IsLawful (QueueAllowed at_the_lock) (renamed_events lock_call past)
  locks_lawful past lawful = lawful_renamed _ _ _ _ locks_wrap past lawful

  pub same_moves : (past : List (QueueEvent (QLockSection F R)))
      → moves_in at_the_lock (renamed_events lock_call past) ≡ moves_in beneath_the_lock past
  same_moves past = moves_renamed _ _ _ _ locks_wrap past

  -- the places of threads here are those of the lower layer
  pub locks_stand : (c : CpuId) (past : List (QueueEvent (QLockSection F R))) (local : Threads)
      → Stands (homes_in opening) c (moves_in beneath_the_lock past) local
      → Stands (homes_in (viewed nested_lock_of opening)) c
      (moves_in at_the_lock (renamed_events lock_call past)) local
  locks_stand c past local stands =
      transport (λ i. Stands (sym (homes_viewed nested_lock_of opening) i) c
      (sym (same_moves past) i) local) stands

  -- each move of a thread starts at its place
  pub locks_moves_legal : (past : List (QueueEvent (QLockSection F R)))
      → AreMoves (homes_in opening) (moves_in beneath_the_lock past)
      → AreMoves (homes_in (viewed nested_lock_of opening))
      (moves_in at_the_lock (renamed_events lock_call past))
  locks_moves_legal past moving =
      transport (λ i. AreMoves (sym (homes_viewed nested_lock_of opening) i)
      (sym (same_moves past) i)) moving

  -- a lock is the view of the lower layer's block
  pub lock_is : (lock : LockId) (past : List (QueueEvent (QLockSection F R)))
      → lock_after protocol (inner (viewed nested_lock_of opening)) lock
      (buffer_sections (renamed_events lock_call past))
      ≡ option_map nested_lock_of
      (block_after (sleep_edited (busy_rules protocol)) (inner opening) lock (buffer_sections past))
  lock_is lock past =
      ap (lock_after protocol (inner (viewed nested_lock_of opening)) lock)
      (sections_renamed lock_call past)
      ∙ block_renamed _ _ _ _ locks_wrap lock (buffer_sections past)

  wait_list_seen : (line : WaitList) (o : Option (SleepState (QLockBlock B)))
      → wait_list_in line (option_map nested_lock_of o) ≡ wait_list_at line o
  wait_list_seen line o = grind arith

  -- the waiting lists agree with the places
  pub locks_lists : (past : List (QueueEvent (QLockSection F R)))
      → ListsAgree (busy_rules protocol) opening past
      → LocksAgree protocol (viewed nested_lock_of opening) (renamed_events lock_call past)
  locks_lists past lists lock line t =
      rw (
        lock_is lock past,
        wait_list_seen line,
        homes_viewed nested_lock_of opening,
        same_moves
            past,
      ) (lists lock line t)

-- a layer with no history below has none here
pub nothing_seen_at_the_lock : {F R : Type 0} (past : List (QueueEvent (QLockSection F R)))
    → renamed_events lock_call past ≡ [] → past ≡ []
nothing_seen_at_the_lock [] none = refl
nothing_seen_at_the_lock (e ∷ past) none = absurd cc

-- while no call is pending here, none is pending below
pub none_beneath : {F R : Type 0} (under : Option (SchedCall (QLockSection F R)))
    → option_map (renamed_sched lock_call) under ≡ None → under ≡ None
none_beneath under given = grind arith

-- a CPU waits or holds here as it does below
pub locks_busy : {F R : Type 0} (c : CpuId) (acts : List (Action (QueueEdit (QLockSection F R))))
    (b : Bool) → b ≡ is_in_section (phase c acts)
    → b ≡ is_in_section (phase c (map (renamed (renamed_edit lock_call)) acts))
locks_busy c acts b is = is ∙ ap is_in_section (sym (phase_renamed (renamed_edit lock_call) c acts))
