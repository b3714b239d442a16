-- What the sections of edits do to places: which move each makes, and where a thread sleeps after
-- them.
use Rattle.std.specs.Prelude.{◌≡◌, true, List, [], ◌∷◌, Option, Some, None, option_map}
use Rattle.std.specs.Prelude.{if◌then◌else◌}
use Rattle.event_log.specs.{declared.ids.{LockId.LockId, Tid.Tid}, History.IsLawful}
use Rattle.{event_log.specs.Sections.{Section, block_after}, thread_blocks.specs.Queues.same_tid}
use Rattle.layer_traits.specs.{declared.moves.WaitList.WaitList, Threads.Places.{WaitChannel, At}}
use Rattle.layer_traits.specs.Threads.Places.{Move, Pushed, Took, Moved, Still, Step, step_with}
use Rattle.layer_traits.specs.Threads.Places.{is_thread, is_wait_channel}
use Rattle.layer_traits.specs.Protocols.Protocol.{Rules}

-- what edits do to places: the thread that calls an edit, the waiting list in which the result
-- leaves the caller asleep, and which thread it wakes
pub record MoveRules (E O : Type 0) : Type 0 where
  pub caller : E → Tid
  pub slept : O → Option WaitList
  pub woke : O → Option Tid

-- the move of an edit with this result
abbrev pub edit_move : {E O : Type 0} → MoveRules E O → LockId → E → Option O → Move
edit_move mv lock edit None = Still
edit_move mv lock edit (Some out) = Moved lock (mv.caller edit) (mv.slept out) (mv.woke out)

-- the move of a section after these sections
abbrev pub section_move : {E B O : Type 0} → Rules E B O → MoveRules E O → (LockId → Option B)
    → List (Section E) → Section E → Move
section_move protocol mv opening past s =
    edit_move mv s.lock s.edit
    (option_map (protocol.answer s.edit) (block_after protocol.edited opening s.lock past))

-- the steps of these sections
abbrev pub section_moves : {E B O : Type 0} → Rules E B O → MoveRules E O → (LockId → Option B)
    → List (Section E) → List Step
section_moves protocol mv opening [] = []
section_moves protocol mv opening (s ∷ past) =
    step_with s.cpu (section_move protocol mv opening past s)
    ∷ section_moves protocol mv opening past

-- where the caller of an edit sleeps after it
abbrev pub slept_at : LockId → Option WaitList → Option WaitChannel → Option WaitChannel
slept_at lock None p = p
slept_at lock (Some line) p = Some (At lock line)

-- where a thread sleeps after a move
abbrev pub asleep_after : Move → Tid → Option WaitChannel → Option WaitChannel
asleep_after (Pushed d u) t p = p
asleep_after (Took d) t p = p
asleep_after (Moved lock caller slept woke) t p =
    if is_thread t woke then None else (if same_tid caller t then slept_at lock slept p else p)
asleep_after Still t p = p

-- where a thread sleeps after these steps, if it does; it does not depend on homes
abbrev pub asleep_by : List Step → Tid → Option WaitChannel
asleep_by [] t = None
asleep_by (s ∷ past) t = asleep_after s.move t (asleep_by past t)

-- a thread that an allowed section wakes, after allowed ones, is asleep
abbrev pub WakesSleepers : {E B O : Type 0} → Rules E B O → MoveRules E O → Type 0
WakesSleepers {E} {B} {O} protocol mv =
    (opening : LockId → Option B) (past : List (Section E)) (s : Section E) (out : O) (u : Tid)
    → IsLawful (protocol.allowed opening) past → protocol.allowed opening past s
    → option_map (protocol.answer s.edit) (block_after protocol.edited opening s.lock past)
    ≡ Some out
    → mv.woke out ≡ Some u → is_wait_channel (asleep_by (section_moves protocol mv opening past) u)
    ≡ true
