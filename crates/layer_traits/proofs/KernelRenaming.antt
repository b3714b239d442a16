-- A layer that wraps its edits in those of the lower layer: what was observed, allowed, polled and
-- planned there is so here, under the layer's own names.
use Rattle.std.proofs.Common.{◌≡◌, Bool, List, [], ◌∷◌, ◌++◌, Option, Some, None, IsSome, MatchOption, option_map, is_some, if◌then◌else◌, map, refl, ap, sym}
use Rattle.std.proofs.{Common.{◌∙◌, subst, arith}, Math.Path.transport}
use Rattle.event_log.specs.{declared.ids.{BufId.BufId, CpuId.CpuId, LockId.{LockId, TheVariants.{Pending, Buffer}}}, History.{IsLawful, AreOthers, Grows}}
use Rattle.event_log.{specs.{Actions.{Action, renamed}, Sections.{Section, renamed_section, sections_in, block_after}}, proofs.Renaming.next_action_renamed}
use Rattle.{event_log.proofs.Renaming.{others_renamed, sections_in_renamed}, layer_traits.specs.declared.queue_edits.QueueBlock.QueueBlock}
use Rattle.layer_traits.specs.declared.{queue_edits.{QueueEdit.QueueEdit, QueueAnswer.QueueAnswer}, queues.{QueueCall.QueueCall, QueueEvent.QueueEvent}}
use Rattle.layer_traits.specs.{declared.scheds.{SchedAnswer.SchedAnswer, SchedCall.SchedCall}, Threads.{MoveRules.edit_move, Places.{Threads, step_with}}}
use Rattle.layer_traits.specs.{Polling.Plans.{Left, Plan, Now, Act, Follows, raised, reply, table_of}, Protocols.Protocol.section}
use Rattle.layer_traits.specs.Blocks.{QueueBlocks.{StartsWell, homes_in, homes_of, inner}, QueueRules.{AreProper, IsProper, queue_answer, queue_edited}}
use Rattle.layer_traits.specs.{Blocks.QueueRules.queue_rules, Layers.Queues.{Kernel, CallAllowed, IsKnownEvent, QueueAllowed, buffer_sections, call_move}}
use Rattle.layer_traits.specs.Layers.{Queues.{event, cpu_of_queue_event, event_of, call_at, moves_in, out_at, with_section}, Scheds.{EditStays, IsLocal}}
use Rattle.layer_traits.specs.Layers.Scheds.{SchedPolled, answer_to, events_of, sched_left_by, own_after, own_answered, queue_call, sched_plan}
use Rattle.layer_traits.specs.Views.Renaming.{plan_named, renamed_call, renamed_edit, renamed_event, renamed_events, renamed_sched, viewed, viewed_block}
use Rattle.layer_traits.proofs.PlanRenaming.{block_viewed, map-append, reply_viewed}
use Rattle.layer_traits.specs.declared.scheds.SchedCall.TheVariants as call

-- Openings with this view.

module _ {A B : Type 0} (view : A → B) (opening : LockId → Option (QueueBlock A)) where
  -- the blocks of buffers with this view
  pub inner_viewed : (lock : LockId) → inner (viewed view opening) lock ≡ option_map view (inner opening lock)
  inner_viewed lock = grind arith

  homes_seen : (o : Option (QueueBlock A)) → homes_of (option_map (viewed_block view) o) ≡ homes_of o
  homes_seen o = grind arith

  -- the homes are the same
  pub homes_viewed : homes_in (viewed view opening) ≡ homes_in opening
  homes_viewed = homes_seen (opening (Pending (record { 0 = 0 })))

  -- therefore what is said of them is said of their views
  pub at_viewed : (Says : List CpuId → Type 0) → Says (homes_in opening) → Says (homes_in (viewed view opening))
  at_viewed Says says = subst Says (sym homes_viewed) says

  -- a lock exists exactly if it did
  pub there_viewed : (lock : LockId) → IsSome (viewed view opening lock) → IsSome (opening lock)
  there_viewed lock there = grind arith

  pub viewed_there : (lock : LockId) → IsSome (opening lock) → IsSome (viewed view opening lock)
  viewed_there lock there = grind arith

  -- a boot's blocks are those of a boot
  pub starts_viewed : StartsWell opening → StartsWell (viewed view opening)
  starts_viewed starts = grind (arith, viewed_there, homes_viewed)

-- Histories under other names.

module _ {D E : Type 0} (name : D → E) where
  with_renamed : (c : CpuId) (q : QueueCall D) (past : List (Section D)) (above : List (Section E)) → above ≡ map (renamed_section name) past
      → with_section c (renamed_call name q) above ≡ map (renamed_section name) (with_section c q past)
  with_renamed c q past above given = grind arith

  -- the sections are the same
  pub sections_renamed : (past : List (QueueEvent D)) → buffer_sections (renamed_events name past) ≡ map (renamed_section name) (buffer_sections past)
  sections_renamed [] = refl
  sections_renamed (e ∷ past) = with_renamed e.cpu e.call (buffer_sections past) (buffer_sections (renamed_events name past)) (sections_renamed past)

  pub events_append : (more past : List (QueueEvent D)) → renamed_events name (more ++ past) ≡ renamed_events name more ++ renamed_events name past
  events_append more past = map-append (renamed_event name) more past

  pub events_others : (c : CpuId) (more : List (QueueEvent D)) → AreOthers cpu_of_queue_event c more → AreOthers cpu_of_queue_event c (renamed_events name more)
  events_others c [] others = tt
  events_others c (e ∷ more) others = (others.0, events_others c more others.1)

  pub known_renamed : (past : List (QueueEvent D)) → IsLawful IsKnownEvent past → IsLawful IsKnownEvent (renamed_events name past)
  known_renamed [] known = tt
  known_renamed (e ∷ past) known = (known.0, known_renamed past known.1)

  -- a history that grew by environment events did so
  pub grows_renamed : (ActsFor : CpuId → Type 0) (old new : List (QueueEvent D)) → Grows ActsFor cpu_of_queue_event old new
      → Grows ActsFor cpu_of_queue_event (renamed_events name old) (renamed_events name new)
  grows_renamed ActsFor old new grows = record {
    others = renamed_events name grows.others;
    foreign = λ c acts. events_others c grows.others (grows.foreign c acts);
    is = ap (renamed_events name) grows.is ∙ events_append grows.others old;
  }

  call_renamed : (lock : LockId) (m : QueueEdit D) → renamed_call name (call_at lock m) ≡ call_at lock (renamed_edit name m)
  call_renamed lock m = grind arith

  sections_seen : (past : List (Section (QueueEdit D)))
      → renamed_events name (map event_of past) ≡ map event_of (map (renamed_section (renamed_edit name)) past)
  sections_seen [] = refl
  sections_seen (s ∷ past) = λ i. event s.cpu (call_renamed s.lock s.edit i) ∷ sections_seen past i

  -- the events of actions are those of the actions under the other names
  pub seen_renamed : (acts : List (Action (QueueEdit D)))
      → renamed_events name (map event_of (sections_in acts)) ≡ map event_of (sections_in (map (renamed (renamed_edit name)) acts))
  seen_renamed acts = sections_seen (sections_in acts) ∙ ap (map event_of) (sym (sections_in_renamed (renamed_edit name) acts))

  renamed_proper : (lock : LockId) (d : QueueEdit D) → IsProper lock d → IsProper lock (renamed_edit name d)
  renamed_proper lock d proper = grind arith

  proper_sections : (past : List (Section (QueueEdit D))) → AreProper past → AreProper (map (renamed_section (renamed_edit name)) past)
  proper_sections [] proper = tt
  proper_sections (s ∷ past) proper = (renamed_proper s.lock s.edit proper.0, proper_sections past proper.1)

  -- and their sections edit blocks of the same kinds
  pub proper_renamed : (acts : List (Action (QueueEdit D))) → AreProper (sections_in acts) → AreProper (sections_in (map (renamed (renamed_edit name)) acts))
  proper_renamed acts proper = subst AreProper (sym (sections_in_renamed (renamed_edit name) acts)) (proper_sections (sections_in acts) proper)

-- Plans under other names.

pub named_raised : {M N R S T A C : Type 0} (name : M → N) (f : Left S A → Left T C) (plan : Plan M R S A)
    → plan_named name (raised f plan) ≡ raised f (plan_named name plan)
named_raised name f plan = grind arith

-- The kernel j of a layer wraps the kernel k of the lower layer. The edits of j are under a name of
-- theirs, and its blocks are views of the lower ones. What is edited, returned, opened and moved
-- there is so here, and what is allowed there is allowed here.
pub record Wraps {D E A B O : Type 0} (k : Kernel D A O) (j : Kernel E B O) (name : D → E) (view : A → B) : Type 0 where
  pub edits : (d : D) (a : A) → view (k.protocol.edited d a) ≡ j.protocol.edited (name d) (view a)
  pub answers : (d : D) (a : A) → k.protocol.answer d a ≡ j.protocol.answer (name d) (view a)
  pub openings : (lock : LockId) → j.opening lock ≡ option_map view (k.opening lock)
  pub homes : j.homes ≡ k.homes
  pub callers : (d : D) → j.moves.caller (name d) ≡ k.moves.caller d
  pub slept : j.moves.slept ≡ k.moves.slept
  pub woke : j.moves.woke ≡ k.moves.woke
  pub allowed : (past : List (Section D)) (s : Section D) → k.protocol.allowed k.opening past s
      → j.protocol.allowed j.opening (map (renamed_section name) past) (renamed_section name s)

module _ {D E A B O : Type 0} (k : Kernel D A O) (j : Kernel E B O) (name : D → E) (view : A → B) (wraps : Wraps k j name view) where
  open wraps use {edits, answers, openings, homes, callers, slept, woke, allowed}

  -- the block of a lock is the view of the lower layer's block
  pub block_renamed : (lock : LockId) (past : List (Section D))
      → block_after j.protocol.edited j.opening lock (map (renamed_section name) past) ≡ option_map view (block_after k.protocol.edited k.opening lock past)
  block_renamed lock past =
      ap (λ (o : LockId → Option B). block_after j.protocol.edited o lock (map (renamed_section name) past)) (λ i l. openings l i)
      ∙ block_viewed (table_of k.protocol) (table_of j.protocol)
      (record { name = name; view = view; abstract_answer = λ o. o; edits = edits; answers = answers })
      k.opening lock past

  out_viewed : (d : D) (o : Option A) → option_map (j.protocol.answer (name d)) (option_map view o) ≡ option_map (k.protocol.answer d) o
  out_viewed d o = grind (arith, answers)

  -- an edit has the same result
  pub out_renamed : (past : List (QueueEvent D)) (b : BufId) (d : D) → out_at j (renamed_events name past) b (name d) ≡ out_at k past b d
  out_renamed past b d = grind (arith, sections_renamed, block_renamed, out_viewed)

  move_out : (lock : LockId) (d : D) (o : Option O) → edit_move j.moves lock (name d) o ≡ edit_move k.moves lock d o
  move_out lock d o = grind (arith, callers, slept, woke)

  move_renamed : (past : List (QueueEvent D)) (q : QueueCall D) → call_move j (renamed_events name past) (renamed_call name q) ≡ call_move k past q
  move_renamed past q = grind (arith, out_renamed, move_out)

  -- the threads move alike
  pub moves_renamed : (past : List (QueueEvent D)) → moves_in j (renamed_events name past) ≡ moves_in k past
  moves_renamed [] = refl
  moves_renamed (e ∷ past) = λ i. step_with e.cpu (move_renamed past e.call i) ∷ moves_renamed past i

  allowed_renamed : (past : List (QueueEvent D)) (c : CpuId) (q : QueueCall D) → CallAllowed k past c q
      → CallAllowed j (renamed_events name past) c (renamed_call name q)
  allowed_renamed past c q may = grind (arith, transport, homes, moves_renamed, callers, sections_renamed)

  -- what is lawful in the lower layer is lawful here
  pub lawful_renamed : (past : List (QueueEvent D)) → IsLawful (QueueAllowed k) past → IsLawful (QueueAllowed j) (renamed_events name past)
  lawful_renamed [] lawful = tt
  lawful_renamed (e ∷ past) lawful = (allowed_renamed past e.cpu e.call lawful.0, lawful_renamed past lawful.1)

  -- an edit that stays allowed here is allowed here after environment steps in the lower layer
  pub stays_renamed : (c : CpuId) (past : List (QueueEvent D)) (b : BufId) (d : D) → EditStays j c (renamed_events name past) (call.OnBuffer b (name d))
      → (more : List (QueueEvent D)) → AreOthers cpu_of_queue_event c more → IsLawful (QueueAllowed k) (more ++ past)
      → j.protocol.allowed j.opening (map (renamed_section name) (buffer_sections (more ++ past))) (section c (Buffer b) (name d))
  stays_renamed c past b d stays more others lawful =
      subst (λ p. j.protocol.allowed j.opening p (section c (Buffer b) (name d)))
      (ap buffer_sections (sym (events_append name more past)) ∙ sections_renamed name (more ++ past))
      (stays (renamed_events name more) (events_others name c more others)
      (subst (IsLawful (QueueAllowed j)) (events_append name more past) (lawful_renamed (more ++ past) lawful)))

  pub answered_renamed : (c : CpuId) (o : Option O) (local : Threads) → own_answered j.moves j.homes c o local ≡ own_answered k.moves k.homes c o local
  answered_renamed c o local = grind (arith, homes, woke, slept)

  own_renamed : (c : CpuId) (past : List (QueueEvent D)) (s : SchedCall D) (local : Threads)
      → own_after j c (renamed_events name past) (renamed_sched name s) local ≡ own_after k c past s local
  own_renamed c past s local = grind (arith, moves_renamed, out_renamed, answered_renamed)

  report_renamed : (past : List (QueueEvent D)) (s : SchedCall D) → answer_to j (renamed_events name past) (renamed_sched name s) ≡ answer_to k past s
  report_renamed past s = grind (arith, out_renamed)

  call_seen : (c : CpuId) (s : SchedCall D) (past : List (QueueEvent D)) → renamed_events name (events_of c (queue_call k.homes c s) ++ past)
      ≡ events_of c (queue_call j.homes c (renamed_sched name s)) ++ renamed_events name past
  call_seen c s past = grind (arith, homes)

  local_renamed : (s : SchedCall D) → IsLocal (renamed_sched name s) → IsLocal s
  local_renamed s local_is = grind arith

  -- a poll of the lower layer is a poll here
  pub polled_renamed : (ActsFor : CpuId → Type 0) (c : CpuId) (s : SchedCall D) (result : Option (SchedAnswer O)) (old new : List (QueueEvent D))
      (local local' : Threads) → SchedPolled k ActsFor c s result old new local local'
      → SchedPolled j ActsFor c (renamed_sched name s) result (renamed_events name old) (renamed_events name new) local local'
  polled_renamed ActsFor c s result old new local local' polled = record {
    others = renamed_events name polled.others;
    foreign = λ d acts. events_others name d polled.others (polled.foreign d acts);
    is = ap (renamed_events name) polled.is ∙ history (is_some result);
    after = polled.after ∙ after (is_some result);
    answers = abstract_answer result polled.answers;
    at_once = λ local_is. polled.at_once (local_renamed s local_is);
  }
    where
      here : renamed_events name (polled.others ++ old) ≡ renamed_events name polled.others ++ renamed_events name old
      here = events_append name polled.others old

      history : (b : Bool) → renamed_events name (if b then events_of c (queue_call k.homes c s) ++ (polled.others ++ old) else polled.others ++ old)
          ≡ (if b then events_of c (queue_call j.homes c (renamed_sched name s)) ++
          (renamed_events name polled.others ++ renamed_events name old) else renamed_events name polled.others ++ renamed_events name old)
      history b = grind (arith, call_seen, here)

      after : (b : Bool) → (if b then own_after k c (polled.others ++ old) s local else local)
          ≡ (if b then own_after j c (renamed_events name polled.others ++ renamed_events name old) (renamed_sched name s) local else local)
      after b = grind (arith, own_renamed, here)

      abstract_answer : (r : Option (SchedAnswer O)) → MatchOption r (Unit {0}) (λ answer. answer_to k (polled.others ++ old) s ≡ Some answer)
          → MatchOption r (Unit {0}) (λ answer. answer_to j (renamed_events name polled.others ++ renamed_events name old) (renamed_sched name s) ≡ Some answer)
      abstract_answer None answer = tt
      abstract_answer (Some a) answer = ap (λ p. answer_to j p (renamed_sched name s)) (sym here) ∙ (report_renamed (polled.others ++ old) s ∙ answer)

  -- Plans and actions.

  by_renamed : (c : CpuId) (h : List CpuId) (local : Threads) (r : Option (QueueAnswer O))
      → sched_left_by k.moves h c local r ≡ sched_left_by j.moves h c local r
  by_renamed c h local r = grind (arith, woke, slept)

  -- the plan of the lower layer is the plan here
  pub plan_renamed : (h : List CpuId) (c : CpuId) (s : SchedCall D) (local : Threads)
      → plan_named (renamed_edit name) (sched_plan k.moves h c s local) ≡ sched_plan j.moves h c (renamed_sched name s) local
  plan_renamed h c s local = grind (arith, by_renamed)

  queue_edits : (m : QueueEdit D) (b : QueueBlock A)
      → viewed_block view (queue_edited k.protocol.edited m b) ≡ queue_edited j.protocol.edited (renamed_edit name m) (viewed_block view b)
  queue_edits m b = grind (arith, edits)

  queue_answers : (m : QueueEdit D) (b : QueueBlock A)
      → queue_answer k.protocol.answer m b ≡ queue_answer j.protocol.answer (renamed_edit name m) (viewed_block view b)
  queue_answers m b = grind (arith, answers)

  same_option : {X : Type 0} (o : Option X) → option_map (λ (x : X). x) o ≡ o
  same_option o = grind arith

  -- a poll that followed its plan in the lower layer followed it here
  pub follows_named : {S T : Type 0} (ActsFor : CpuId → Type 0) (opening : LockId → Option (QueueBlock A)) (cpu : CpuId)
      (plan : Plan (QueueEdit D) (QueueAnswer O) S T)
      (old new : List (Action (QueueEdit D))) (got : Left S T) → Follows ActsFor (table_of (queue_rules k.protocol k.moves)) opening cpu plan old new got
      → Follows ActsFor (table_of (queue_rules j.protocol j.moves)) (viewed view opening) cpu (plan_named (renamed_edit name) plan)
      (map (renamed (renamed_edit name)) old) (map (renamed (renamed_edit name)) new) got
  follows_named ActsFor opening cpu (Now left) old new got follows = (ap (map (renamed (renamed_edit name))) follows.0, follows.1)
  follows_named ActsFor opening cpu (Act lock m react) old new got follows = record {
    past = map (renamed (renamed_edit name)) follows.past;
    acted = record {
      others = map (renamed (renamed_edit name)) follows.acted.others;
      foreign = λ c acts. others_renamed (renamed_edit name) c follows.acted.others (follows.acted.foreign c acts);
      joined = ap (map (renamed (renamed_edit name))) follows.acted.joined ∙ map-append (renamed (renamed_edit name)) follows.acted.others old;
      grows = ap (map (renamed (renamed_edit name))) follows.acted.grows
          ∙ ap (λ a. a ∷ map (renamed (renamed_edit name)) follows.past) (sym (next_action_renamed (renamed_edit name) cpu lock m follows.past));
    };
    moves = follows.moves ∙ ap react (sym (same_option (reply (table_of (queue_rules k.protocol k.moves)) opening cpu lock m follows.past))
        ∙ reply_viewed (table_of (queue_rules k.protocol k.moves)) (table_of (queue_rules j.protocol j.moves))
        (record { name = renamed_edit name; view = viewed_block view; abstract_answer = λ r. r; edits = queue_edits; answers = queue_answers })
        opening cpu lock m follows.past);
  }
