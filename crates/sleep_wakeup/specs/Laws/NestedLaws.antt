-- The laws of the layer, from those of the underlying scheduler.
use Rattle.std.proofs.Common.{◌≡◌, Bool, List, [], ◌∷◌, ◌++◌, Option, None, option_map, map, refl}
use Rattle.std.proofs.{Common.{ap, sym, ◌∙◌, subst, arith}, Math.Path.transport}
use Rattle.std.proofs.lemmas.Option.{slice_get_within}
use Rattle.event_log.specs.declared.ids.{BufId.BufId, CpuId.CpuId, LockId.LockId, Tid.Tid}
use Rattle.event_log.specs.{History.IsLawful, Actions.{Action, phase, renamed}, Sections.Section}
use Rattle.event_log.{specs.Sections.{block_after, renamed_section}, proofs.Renaming.phase_renamed}
use Rattle.layer_traits.specs.declared.queue_edits.{QueueBlock.QueueBlock, QueueEdit.QueueEdit}
use Rattle.layer_traits.specs.declared.{queues.QueueEvent.QueueEvent, scheds.SchedCall.SchedCall}
use Rattle.layer_traits.specs.{declared.sleeps.Outcome.Outcome, Threads.ListsAgree.ListsAgree}
use Rattle.layer_traits.specs.Threads.{ListsAgree.is_at, MoveRules.{WakesSleepers, asleep_by}}
use Rattle.layer_traits.specs.Threads.{MoveRules.{edit_move, section_moves}, Places.AreMoves}
use Rattle.layer_traits.specs.Threads.Places.{Stands, count_in, Threads, one_if, wait_channel_of}
use Rattle.layer_traits.specs.{Threads.Places.where_is, Polling.Plans.{is_in_section, table_of}}
use Rattle.layer_traits.specs.Blocks.QueueBlocks.{StartsWell, homes_in, inner}
use Rattle.layer_traits.specs.Layers.Queues.{Kernel, QueueAllowed, buffer_sections, kernel}
use Rattle.layer_traits.specs.Layers.{Queues.moves_in, Scheds.EditStays, SleepLaw.MaySleep}
use Rattle.layer_traits.specs.Layers.{SleepLaw.sleep_kernel, Sleeping.{IsAwake, NoSleepers}}
use Rattle.layer_traits.specs.Layers.Sleeping.{SleepRules, SleepState, wait_list_at, sleep_answer}
use Rattle.layer_traits.specs.Layers.Sleeping.{sleep_edited, sleep_moves, sleep_rules}
use Rattle.layer_traits.specs.Views.Renaming.{renamed_edit, renamed_events, viewed}
use Rattle.layer_traits.proofs.CallLemmas.{asleep_wait_channel, moves_append, moves_lawful}
use Rattle.layer_traits.proofs.CallLemmas.{moves_others, moves_over, sections_asleep, upper_lawful}
use Rattle.layer_traits.proofs.{ListsLemmas.{lists_agree, section_wakes}, PlaceLemmas.current_at}
use Rattle.layer_traits.proofs.{PlaceLemmas.stands_others, PlanRenaming.block_viewed}
use Rattle.layer_traits.proofs.KernelRenaming.{Wraps, homes_viewed, inner_viewed, lawful_renamed}
use Rattle.layer_traits.proofs.KernelRenaming.{moves_renamed, sections_renamed, stays_renamed}
use Rattle.sleep_wakeup.specs.declared.edits.{SleepBlock.SleepBlock, SleepEdit.SleepEdit}
use Rattle.sleep_wakeup.specs.{Parts.{Deferred, as_edit, under_of}, Nested.NestedAllowed}
use Rattle.sleep_wakeup.specs.Nested.{slept_edit, nested_answer, nested_edited, nested_moves}
use Rattle.sleep_wakeup.specs.Nested.{nested_rules, state_of, states}
use Rattle.layer_traits.specs.declared.scheds.SchedCall.TheVariants as call

-- Sections.

module _ {E B O : Type 0} (protocol : SleepRules E B O)
    (opening : LockId → Option (SleepBlock B)) where
  -- the sections under the names of the layer above
  abbrev above : List (Section (SleepEdit E)) → List (Section E)
  above past = map (renamed_section slept_edit) past

  -- the block of a lock is the view of the lower layer's block
  state_after : (lock : LockId) (past : List (Section (SleepEdit E)))
      → block_after (sleep_edited protocol) (states opening) lock (above past)
      ≡ option_map state_of (block_after (nested_edited protocol) opening lock past)
  state_after lock past =
      block_viewed (table_of (nested_rules protocol)) (table_of (sleep_rules protocol))
      (record {
        name = slept_edit;
        view = state_of;
        abstract_answer = λ (o : Outcome O). o;
        edits = λ d a. refl;
        answers = λ d a. refl;
      }) opening lock past

  answer_seen : (d : SleepEdit E) (o : Option (SleepBlock B))
      → option_map (sleep_answer protocol (slept_edit d)) (option_map state_of o)
      ≡ option_map (nested_answer protocol d) o
  answer_seen d o = grind arith

  -- and so is its result
  out_after : (past : List (Section (SleepEdit E))) (s : Section (SleepEdit E))
      → option_map (sleep_answer protocol (slept_edit s.edit))
      (block_after (sleep_edited protocol) (states opening) s.lock (above past))
      ≡ option_map (nested_answer protocol s.edit)
      (block_after (nested_edited protocol) opening s.lock past)
  out_after past s = grind (arith, state_after, answer_seen)

  move_out : (lock : LockId) (d : SleepEdit E) (o : Option (Outcome O))
      → edit_move (sleep_moves protocol) lock (slept_edit d) o
      ≡ edit_move (nested_moves protocol) lock d o
  move_out lock d o = grind arith

  -- the sections move threads alike
  pub moves_above : (past : List (Section (SleepEdit E)))
      → section_moves (sleep_rules protocol) (sleep_moves protocol) (states opening) (above past)
      ≡ section_moves (nested_rules protocol) (nested_moves protocol) opening past
  moves_above [] = refl
  moves_above (s ∷ past) = grind (arith, out_after, move_out, moves_above past)

  -- the callers of allowed sections are awake
  pub awake_above : (past : List (Section (SleepEdit E)))
      → IsLawful (NestedAllowed protocol opening) past
      → IsLawful (IsAwake protocol (states opening)) (above past)
  awake_above [] lawful = tt
  awake_above (s ∷ past) lawful = (lawful.0.awake, awake_above past lawful.1)

-- a thread that an allowed section wakes is asleep
pub nested_wakes : {E B O : Type 0} (protocol : SleepRules E B O)
    → WakesSleepers (nested_rules protocol) (nested_moves protocol)
nested_wakes protocol opening past s out u lawful allowed answers wakes =
    rw (← moves_above protocol opening past)
    (section_wakes protocol (states opening) (map (renamed_section slept_edit) past)
    (renamed_section slept_edit s) out u
    (awake_above protocol opening past lawful) allowed.start
    (out_after protocol opening past s ∙ answers)
    wakes)

-- Histories. The lower kernel is that of the nested edits over this opening, and the kernel here
-- that of the layer's own edits.

module _ {E B O : Type 0} (protocol : SleepRules E B O)
    (opening : LockId → Option (QueueBlock (SleepBlock B))) where
  -- the kernel of the lower layer
  abbrev pub beneath : Kernel (SleepEdit E) (SleepBlock B) (Outcome O)
  beneath = kernel (nested_rules protocol) (nested_moves protocol) opening

  -- the kernel of this layer
  abbrev pub here : Kernel E (SleepState B) (Outcome O)
  here = sleep_kernel protocol (viewed state_of opening)

  inner_states : (λ (lock : LockId). inner (viewed state_of opening) lock) ≡ states (inner opening)
  inner_states = λ i lock. inner_viewed state_of opening lock i

  pub allowed_here : (past : List (Section (SleepEdit E))) (s : Section (SleepEdit E))
      → NestedAllowed protocol (inner opening) past s
      → protocol.allowed (inner (viewed state_of opening)) (map (renamed_section slept_edit) past)
      (renamed_section slept_edit s)
  allowed_here past s allowed = rw inner_states allowed.upper

  pub nested_wraps : Wraps beneath here slept_edit state_of
  nested_wraps = record {
    edits = λ d a. refl;
    answers = λ d a. refl;
    openings = inner_viewed state_of opening;
    homes = homes_viewed state_of opening;
    callers = λ d. refl;
    slept = refl;
    woke = refl;
    allowed = allowed_here;
  }

  pub nested_lawful : (past : List (QueueEvent (SleepEdit E)))
      → IsLawful (QueueAllowed beneath) past
      → IsLawful (QueueAllowed here) (renamed_events slept_edit past)
  nested_lawful past lawful = lawful_renamed _ _ _ _ nested_wraps past lawful

  pub same_moves : (past : List (QueueEvent (SleepEdit E)))
      → moves_in here (renamed_events slept_edit past) ≡ moves_in beneath past
  same_moves past = moves_renamed _ _ _ _ nested_wraps past

  -- the places of threads here are those of the lower layer
  pub nested_stands : (c : CpuId) (past : List (QueueEvent (SleepEdit E))) (local : Threads)
      → Stands (homes_in opening) c (moves_in beneath past) local
      → Stands (homes_in (viewed state_of opening)) c
      (moves_in here (renamed_events slept_edit past)) local
  nested_stands c past local stands =
      transport (λ i. Stands (sym (homes_viewed state_of opening) i) c (sym (same_moves past) i)
      local) stands

  -- each move of a thread starts at its place
  pub nested_moves_legal : (past : List (QueueEvent (SleepEdit E)))
      → IsLawful (QueueAllowed beneath) past
      → AreMoves (homes_in (viewed state_of opening))
      (moves_in here (renamed_events slept_edit past))
  nested_moves_legal past lawful =
      transport (λ i. AreMoves (sym (homes_viewed state_of opening) i) (sym (same_moves past) i))
      (moves_lawful beneath (nested_wakes protocol) past lawful)

  -- the list on which a thread sleeps, in terms of the sections of the layer above, is the list
  -- that its place names
  asleep_here : (past : List (QueueEvent (SleepEdit E))) (t : Tid)
      → IsLawful (QueueAllowed beneath) past
      → wait_channel_of (where_is (homes_in opening) (moves_in beneath past) t)
      ≡ asleep_by (section_moves (sleep_rules protocol) (sleep_moves protocol)
      (states (inner opening))
      (map (renamed_section slept_edit) (buffer_sections past))) t
  asleep_here past t lawful =
      grind (arith, asleep_wait_channel, moves_lawful, nested_wakes, sections_asleep, moves_above)

  -- the waiting lists agree with the places
  pub nested_lists : (past : List (QueueEvent (SleepEdit E))) → IsLawful (QueueAllowed beneath) past
      → NoSleepers (states (inner opening))
      → ListsAgree protocol (viewed state_of opening) (renamed_events slept_edit past)
  nested_lists past lawful nobody lock line t =
      ap (λ (o : LockId → Option (SleepState B)). count_in t
      (wait_list_at line (block_after (sleep_edited protocol) o lock
      (buffer_sections (renamed_events slept_edit past))))) inner_states ∙ (ap
      (λ sections. count_in t
      (wait_list_at line (block_after (sleep_edited protocol) (states (inner opening)) lock
      sections)))
      (sections_renamed slept_edit past)
      ∙ (lists_agree protocol (states (inner opening))
      (map (renamed_section slept_edit) (buffer_sections past))
      (awake_above protocol (inner opening)
      (buffer_sections past) (upper_lawful beneath past lawful)) nobody lock line t
      ∙ (ap (λ p. one_if (is_at lock line p)) (sym (asleep_here past t lawful))
      ∙ λ i. one_if (is_at lock line
      (wait_channel_of (where_is (sym (homes_viewed state_of opening) i) (sym (same_moves past) i)
      t))))))

  -- A section that may begin here may begin in the lower layer, and stays allowed there.

  pub nested_stays : (c : CpuId) (past : List (QueueEvent (SleepEdit E))) (local : Threads)
      (b : BufId) (e : E) → StartsWell opening
      → IsLawful (QueueAllowed beneath) past → NoSleepers (states (inner opening))
      → Stands (homes_in opening) c (moves_in beneath past) local
      → MaySleep here c (renamed_events slept_edit past) local b e
      → EditStays beneath c past (call.OnBuffer b (as_edit e))
  nested_stays c past local b e starts lawful nobody stands may more others legal =
      let moving = moves_lawful beneath (nested_wakes protocol) (more ++ past) legal in
      let now =
      subst (λ moves. Stands (homes_in opening) c moves local)
      (sym (moves_append beneath more past))
      (stands_others (homes_in opening) c (moves_over beneath more past) (moves_in beneath past)
      local
      (moves_others beneath c more past others)
      (subst (λ moves. AreMoves (homes_in opening) moves) (moves_append beneath more past) moving)
      stands) in
      let at =
      current_at (homes_in opening) c (moves_in beneath (more ++ past)) local moving now
      (protocol.caller e) may.current in
      record {
        start = nobody;
        awake = record {
          awake =
              sym (asleep_here (more ++ past) (protocol.caller e) legal) ∙ ap wait_channel_of at.1;
          small =
              omega (
                arith,
                slice_get_within (homes_in opening) (protocol.caller e).0 c at.0,
                starts.room,
              );
        };
        upper =
            rw (← inner_states)
            (stays_renamed _ _ _ _ nested_wraps c past b (as_edit e) may.stays more others legal);
      }

-- The part.

-- a layer with no history below has none here
pub nothing_seen : {E : Type 0} (past : List (QueueEvent (SleepEdit E)))
    → renamed_events slept_edit past ≡ [] → past ≡ []
nothing_seen [] none = refl
nothing_seen (e ∷ past) none = absurd cc

-- while no call is pending here, none is pending below
pub nested_idle : {E O : Type 0} (deferred : Option (Deferred E O))
    (under : Option (SchedCall (SleepEdit E))) → under_of deferred under ≡ None → under ≡ None
nested_idle deferred under given = grind arith

-- a CPU waits or holds here as it does below
pub nested_busy : {E : Type 0} (c : CpuId) (acts : List (Action (QueueEdit (SleepEdit E))))
    (b : Bool) → b ≡ is_in_section (phase c acts)
    → b ≡ is_in_section (phase c (map (renamed (renamed_edit slept_edit)) acts))
nested_busy c acts b is =
    is ∙ ap is_in_section (sym (phase_renamed (renamed_edit slept_edit) c acts))
