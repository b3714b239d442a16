-- Sections of the edits of shared queues as calls: a section is its call. What the blocks of the
-- locks hold after calls, and what one poll of a section means as a poll of its call.
use Rattle.std.proofs.Common.{◌≡◌, ◌<◌, Bool, false, ◌&&◌, not, List, [], ◌∷◌, ◌++◌, Option, Some, None, MatchOption, is_some, option_map, if◌then◌else◌}
use Rattle.std.proofs.{Common.{map, refl, ap, ◌∙◌, subst, arith}, lemmas.{Bool.lt-ltb, Option.slice_get_within}}
use Rattle.event_log.specs.declared.ids.{BufId.BufId, CpuId.CpuId, LockId.{LockId, TheVariants.{Pending, Buffer}}, Tid.Tid, TheConstants.THREADS}
use Rattle.event_log.specs.{History.{AreForeign, AreOthers, Grows, IsLawful, same_cpu}, Sections.{Section, block_after, cpu_of_section}}
use Rattle.{thread_blocks.specs.Queues.is_in, layer_traits.specs.declared.queue_edits.{QueueBlock.QueueBlock, QueueEdit.QueueEdit, QueueAnswer.QueueAnswer}}
use Rattle.layer_traits.specs.declared.{queue_edits.QueueAnswer.TheVariants.{Done, Taken, Answer}, queues.QueueCall.{QueueCall, TheVariants.{Push, TakeAll}}}
use Rattle.layer_traits.specs.{declared.queues.QueueEvent.QueueEvent, Threads.MoveRules.{MoveRules, WakesSleepers, edit_move}}
use Rattle.layer_traits.specs.{Threads.Places.{AreMoves, MayMove, MayPush, pending_after, pending_by}, Protocols.Protocol.{IsKnown, Rules, StaysAllowed}}
use Rattle.layer_traits.specs.{Protocols.Protocol.section, Blocks.{QueueBlocks.{StartsAs, StartsWell, homes_in, inner, with_queue}, QueueRules.AreProper}}
use Rattle.layer_traits.specs.{Blocks.QueueRules.{IsProper, IsProperCall, SectionAllowed, queue_answer, queue_edited, queue_rules}, Polling.Polls.MayPoll}
use Rattle.layer_traits.specs.{Polling.Polls.PolledAtLock, Layers.{Sleeping.joined, Queues.{call_move, IsKnownEvent, Kernel, MayQueue}}}
use Rattle.layer_traits.specs.Layers.Queues.{QueueAllowed, QueuePolled, StaysCallable, answer_of, buffer_sections, call_at, queue_edit_of, event}
use Rattle.layer_traits.specs.{Layers.Queues.{cpu_of_queue_event, event_of, kernel, lock_of, moves_in}, Laws.Openings.above_is}
use Rattle.layer_traits.proofs.{CallLemmas.moves_lawful, CountLemmas.same_cpu_sym, PlaceLemmas.pend_where, PlanRenaming.map-append}
use Rattle.layer_traits.specs.declared.queue_edits.QueueBlock.TheVariants as block
use Rattle.layer_traits.specs.declared.queue_edits.QueueEdit.TheVariants as edit

-- A section is its call.

pub call_at_of : {E : Type 0} (call : QueueCall E) → call_at (lock_of call) (queue_edit_of call) ≡ call
call_at_of call = grind arith

edit_of_at : {E : Type 0} (lock : LockId) (x : QueueEdit E) → queue_edit_of (call_at lock x) ≡ x
edit_of_at lock x = grind arith

-- a call edits a block of its kind
pub proper_of : {E : Type 0} (call : QueueCall E) → IsProper (lock_of call) (queue_edit_of call)
proper_of call = ap lock_of (call_at_of call)

-- the event of a call's section is the call's
pub event_is : {E : Type 0} (c : CpuId) (call : QueueCall E) → event_of (section c (lock_of call) (queue_edit_of call)) ≡ event c call
event_is c call = ap (event c) (call_at_of call)

-- a section of a block of its kind is that of its call
pub section_is : {E : Type 0} (s : Section (QueueEdit E)) (c : CpuId) (call : QueueCall E) → IsProper s.lock s.edit → event_of s ≡ event c call
    → s ≡ section c (lock_of call) (queue_edit_of call)
section_is s c call proper is = grind (arith, edit_of_at)

pub others_events : {E : Type 0} (c : CpuId) (more : List (Section (QueueEdit E))) → AreOthers cpu_of_section c more
    → AreOthers cpu_of_queue_event c (map event_of more)
others_events c [] others = tt
others_events c (s ∷ more) others = (others.0, others_events c more others.1)

pub foreign_events : {E : Type 0} (ActsFor Acts : CpuId → Type 0) → ((d : CpuId) → Acts d → ActsFor d) → (more : List (Section (QueueEdit E)))
    → AreForeign ActsFor cpu_of_section more → AreForeign Acts cpu_of_queue_event (map event_of more)
foreign_events ActsFor Acts weakens more foreign = λ d acts. others_events d more (foreign d (weakens d acts))

pub known_events : {E : Type 0} (log : List (Section (QueueEdit E))) → IsLawful IsKnown log → IsLawful IsKnownEvent (map event_of log)
known_events [] known = tt
known_events (s ∷ past) known = (known.0, known_events past known.1)

-- a history of sections that grew by environment sections is a history of calls that did
pub event_grows : {E : Type 0} (ActsFor Acts : CpuId → Type 0) → ((d : CpuId) → Acts d → ActsFor d) → (old new : List (Section (QueueEdit E)))
    → Grows ActsFor cpu_of_section old new → Grows Acts cpu_of_queue_event (map event_of old) (map event_of new)
event_grows ActsFor Acts weakens old new grows = record {
  others = map event_of grows.others;
  foreign = foreign_events ActsFor Acts weakens grows.others grows.foreign;
  is = ap (map event_of) grows.is ∙ map-append event_of grows.others old;
}

module _ {E B O : Type 0} (protocol : Rules E B O) (mv : MoveRules E O) (opening : LockId → Option (QueueBlock B)) where
  abbrev beneath : Kernel E B O
  beneath = kernel protocol mv opening

  abbrev Lawful : List (Section (QueueEdit E)) → Type 0
  Lawful log = IsLawful (SectionAllowed protocol mv opening) log

  -- allowed sections are allowed calls
  pub lawful_events : (log : List (Section (QueueEdit E))) → Lawful log → IsLawful (QueueAllowed beneath) (map event_of log)
  lawful_events [] lawful = tt
  lawful_events (s ∷ past) lawful = (lawful.0.call, lawful_events past lawful.1)

  -- allowed sections edit blocks of their kinds
  pub lawful_proper : (log : List (Section (QueueEdit E))) → Lawful log → AreProper log
  lawful_proper [] lawful = tt
  lawful_proper (s ∷ past) lawful = (lawful.0.proper, lawful_proper past lawful.1)

  -- a call that stays allowed is a section that does
  pub stays_section : (old : List (Section (QueueEdit E))) (c : CpuId) (call : QueueCall E)
      → StaysCallable (QueueAllowed beneath) (map event_of old) (event c call)
      → StaysAllowed (SectionAllowed protocol mv opening) old (section c (lock_of call) (queue_edit_of call))
  stays_section old c call stays = grind (arith, map-append, others_events, lawful_events, proper_of, call_at_of)

  -- a call that may be polled is a section that may
  pub may_section : (old : List (Section (QueueEdit E))) (under : Option (Section (QueueEdit E))) (c : CpuId) (call : QueueCall E) → IsProperCall under
      → MayQueue (QueueAllowed beneath) (map event_of old) (option_map event_of under) (event c call)
      → MayPoll (SectionAllowed protocol mv opening) old under (section c (lock_of call) (queue_edit_of call))
  may_section old None c call proper may = stays_section old c call may
  may_section old (Some s) c call proper may = section_is s c call proper may

  -- What the locks' blocks hold.

  module _ (starts : StartsWell opening) where
    edits_above : (e : E) (x : Bool) (found : Option (QueueBlock B)) (above : Option B) → found ≡ option_map block.Above above
        → (if x then option_map (queue_edited protocol.edited (edit.Above e)) found else found)
        ≡ option_map block.Above (if x then option_map (protocol.edited e) above else above)
    edits_above e x found above is = grind (arith, is)

    buffer_step : (b : BufId) (lock : LockId) (x : QueueEdit E) (c : CpuId) (past : List (Section (QueueEdit E))) → IsProper lock x
        → block_after (queue_edited protocol.edited) opening (Buffer b) past
        ≡ option_map block.Above (block_after protocol.edited (inner opening) (Buffer b) (buffer_sections (map event_of past)))
        → block_after (queue_edited protocol.edited) opening (Buffer b) (section c lock x ∷ past)
        ≡ option_map block.Above (block_after protocol.edited (inner opening) (Buffer b) (buffer_sections (map event_of (section c lock x ∷ past))))
    buffer_step b lock x c past proper is = grind (arith, edits_above)

    -- a buffer's block is that which the sections of the layer above leave
    pub proper_buffer : (b : BufId) (log : List (Section (QueueEdit E))) → AreProper log
        → block_after (queue_edited protocol.edited) opening (Buffer b) log
        ≡ option_map block.Above (block_after protocol.edited (inner opening) (Buffer b) (buffer_sections (map event_of log)))
    proper_buffer b [] proper = above_is b (opening (Buffer b)) (starts.kinds (Buffer b))
    proper_buffer b (s ∷ past) proper = buffer_step b s.lock s.edit s.cpu past proper.0 (proper_buffer b past proper.1)

    pub buffer_block : (b : BufId) (log : List (Section (QueueEdit E))) → Lawful log
        → block_after (queue_edited protocol.edited) opening (Buffer b) log
        ≡ option_map block.Above (block_after protocol.edited (inner opening) (Buffer b) (buffer_sections (map event_of log)))
    buffer_block b log lawful = proper_buffer b log (lawful_proper log lawful)

    opens_queue : (d : CpuId) (found : Option (QueueBlock B)) → StartsAs (Pending d) found → found ≡ with_queue [] found
    opens_queue d found kind = grind arith

    -- a thread that may be pushed is one of the machine's threads, and is not in the queue
    pub push_known : (past : List (QueueEvent E)) (c d : CpuId) (t : Tid) → MayPush (homes_in opening) (moves_in beneath past) c d t → t.0 < THREADS
    push_known past c d t may = grind (arith, slice_get_within)

    pub push_new : (past : List (QueueEvent E)) → AreMoves (homes_in opening) (moves_in beneath past) → (c d e : CpuId) (t : Tid)
        → MayPush (homes_in opening) (moves_in beneath past) c d t → is_in t (pending_by (moves_in beneath past) e) ≡ false
    push_new past moving c d e t may = grind (arith, may.held, pend_where (homes_in opening) (moves_in beneath past) moving e t)

    pushed_is : (t : Tid) (queue : List Tid) → t.0 < THREADS → is_in t queue ≡ false → joined t queue ≡ queue ++ t ∷ []
    pushed_is t queue known new = λ i. if (lt-ltb t.0 THREADS known i) && not (new i) then queue ++ t ∷ [] else queue

    edits_queue : (x : QueueEdit E) (at : Bool) (found opened : Option (QueueBlock B)) (queue next : List Tid) → found ≡ with_queue queue opened
        → ((homes : _) → queue_edited protocol.edited x (block.Queue queue homes) ≡ block.Queue next homes)
        → ((b : B) → queue_edited protocol.edited x (block.Above b) ≡ block.Above b)
        → (if at then option_map (queue_edited protocol.edited x) found else found) ≡ with_queue (if at then next else queue) opened
    edits_queue x at found opened queue next is edits leaves = grind (arith, is, edits, leaves)

    still_pending : (b : BufId) (e : E) (d : CpuId) (queue : List Tid) (out : Option O) → pending_after (edit_move mv (Buffer b) e out) d queue ≡ queue
    still_pending b e d queue out = grind arith

    queue_step : (d : CpuId) (lock : LockId) (x : QueueEdit E) (c : CpuId) (past : List (Section (QueueEdit E))) → IsProper lock x
        → MayMove (homes_in opening) (moves_in beneath (map event_of past)) c (call_move beneath (map event_of past) (call_at lock x))
        → AreMoves (homes_in opening) (moves_in beneath (map event_of past))
        → block_after (queue_edited protocol.edited) opening (Pending d) past
        ≡ with_queue (pending_by (moves_in beneath (map event_of past)) d) (opening (Pending d))
        → block_after (queue_edited protocol.edited) opening (Pending d) (section c lock x ∷ past)
        ≡ with_queue (pending_by (moves_in beneath (map event_of (section c lock x ∷ past))) d) (opening (Pending d))
    queue_step d (Pending at) (edit.Push t) c past proper may moving is =
        let queue = pending_by (moves_in beneath (map event_of past)) d in
        edits_queue (edit.Push t) (same_cpu d at) (block_after (queue_edited protocol.edited) opening (Pending d) past) (opening (Pending d)) queue
        (queue ++ t ∷ []) is
        (λ homes. ap (λ q. block.Queue q homes)
        (pushed_is t queue (push_known (map event_of past) c at t may) (push_new (map event_of past) moving c at d t may)))
        (λ b. refl)
        ∙ ap (λ b. with_queue (if b then queue ++ t ∷ [] else queue) (opening (Pending d))) (same_cpu_sym d at)
    queue_step d (Pending at) edit.TakeAll c past proper may moving is = grind (arith, edits_queue, same_cpu_sym)
    queue_step d (Buffer at) (edit.Above e) c past proper may moving is = grind (arith, still_pending)
    queue_step d lock x c past proper may moving is = absurd cc

    -- a queue's block holds the threads that are pending there according to the moves
    pub proper_queue : (d : CpuId) (log : List (Section (QueueEdit E))) → AreProper log → AreMoves (homes_in opening) (moves_in beneath (map event_of log))
        → block_after (queue_edited protocol.edited) opening (Pending d) log
        ≡ with_queue (pending_by (moves_in beneath (map event_of log)) d) (opening (Pending d))
    proper_queue d [] proper moving = opens_queue d (opening (Pending d)) (starts.kinds (Pending d))
    proper_queue d (s ∷ past) proper moving = queue_step d s.lock s.edit s.cpu past proper.0 moving.0 moving.1 (proper_queue d past proper.1 moving.1)

    module _ (wakes : WakesSleepers protocol mv) where
      pub queue_block : (d : CpuId) (log : List (Section (QueueEdit E))) → Lawful log
          → block_after (queue_edited protocol.edited) opening (Pending d) log
          ≡ with_queue (pending_by (moves_in beneath (map event_of log)) d) (opening (Pending d))
      queue_block d log lawful = grind (arith, proper_queue, lawful_proper, moves_lawful, lawful_events)

      -- What a poll of a section means as a poll of its call.

      report_push : (found : Option (QueueBlock B)) (t : Tid) (answer : QueueAnswer O)
          → option_map (queue_answer protocol.answer (edit.Push t)) found ≡ Some answer → Some Done ≡ Some answer
      report_push found t answer is = grind (arith, is)

      report_taken : (d : CpuId) (opened : Option (QueueBlock B)) → StartsAs (Pending d) opened → (queue : List Tid) (answer : QueueAnswer O)
          → option_map (queue_answer protocol.answer edit.TakeAll) (with_queue queue opened) ≡ Some answer → Some (Taken queue) ≡ Some answer
      report_taken d opened kind queue answer is = grind (arith, is)

      report_above : (e : E) (above : Option B) → option_map Answer (option_map (protocol.answer e) above)
          ≡ option_map (queue_answer protocol.answer (edit.Above e)) (option_map block.Above above)
      report_above e above = grind arith

      -- the result of a section is that of its call
      pub answers_call : (log : List (Section (QueueEdit E))) → Lawful log → (call : QueueCall E) (answer : QueueAnswer O)
          → option_map (queue_answer protocol.answer (queue_edit_of call)) (block_after (queue_edited protocol.edited) opening (lock_of call) log) ≡ Some answer
          → answer_of beneath (map event_of log) call ≡ Some answer
      answers_call log lawful call answer is = grind (arith, report_push, report_taken, queue_block, report_above, buffer_block)

      -- a poll of a section is a poll of its call
      pub polled_event : (ActsFor Acts : CpuId → Type 0) → ((d : CpuId) → Acts d → ActsFor d)
          → (c : CpuId) (call : QueueCall E) (result : Option (QueueAnswer O)) (old new : List (Section (QueueEdit E))) → Lawful new
          → PolledAtLock (queue_rules protocol mv) opening ActsFor (section c (lock_of call) (queue_edit_of call)) result old new
          → QueuePolled beneath Acts (event c call) result (map event_of old) (map event_of new)
      polled_event ActsFor Acts weakens c call result old new lawful polled = record {
        others = map event_of polled.others;
        foreign = foreign_events ActsFor Acts weakens polled.others polled.foreign;
        is = ap (map event_of) polled.is ∙ grown (is_some result);
        answers = answers result polled.is polled.answers;
      }
        where
          joined : map event_of (polled.others ++ old) ≡ map event_of polled.others ++ map event_of old
          joined = map-append event_of polled.others old

          grown : (b : Bool) → map event_of (if b then section c (lock_of call) (queue_edit_of call) ∷ (polled.others ++ old) else polled.others ++ old)
              ≡ (if b then event c call ∷ (map event_of polled.others ++ map event_of old) else map event_of polled.others ++ map event_of old)
          grown b = grind (arith, event_is, joined)

          answers : (out : Option (QueueAnswer O))
              → new ≡ (if is_some out then section c (lock_of call) (queue_edit_of call) ∷ (polled.others ++ old) else polled.others ++ old)
              → MatchOption out (Unit {0})
              (λ answer. option_map (queue_answer protocol.answer (queue_edit_of call))
              (block_after (queue_edited protocol.edited) opening (lock_of call) (polled.others ++ old)) ≡ Some answer)
              → MatchOption out (Unit {0}) (λ answer. answer_of beneath (map event_of polled.others ++ map event_of old) call ≡ Some answer)
          answers None is abstract_answer = tt
          answers (Some answer) is abstract_answer =
              let before : Lawful (polled.others ++ old) = (subst (λ l. Lawful l) is lawful).1 in
              subst (λ l. answer_of beneath l call ≡ Some answer) joined (answers_call (polled.others ++ old) before call answer abstract_answer)
