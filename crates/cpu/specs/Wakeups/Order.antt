-- The order of the sections of one buffer: which section of a call may occur when, given the lock's
-- owner and what it has done.
use Rattle.std.specs.Prelude.{◌≡◌, ◌≢◌, Bool, true, false, List, [], ◌∷◌, Option, Some, None}
use Rattle.std.specs.Prelude.{if◌then◌else◌}
use Rattle.event_log.specs.declared.ids.LockId.{LockId, TheVariants.{Pending, Buffer as AtBuffer}}
use Rattle.event_log.specs.{History.{same_lock, IsLawful}, Sections.{Section, block_after}}
use Rattle.layer_traits.specs.declared.locked.Side.{Side, TheVariants.{Receivers, Senders}}
use Rattle.cpu.specs.Table.Blocks.{Buffer, Block, OfBuffer, OfPending, Name, AcqQ, Enter, TryPut}
use Rattle.cpu.specs.Table.Blocks.{TryTake, Shut, WaitOn, SigRecv, SigSend, RelQ, Pend, TakeAll}
use Rattle.cpu.specs.Table.{Edits.{edited, may_try}, Setups.{SystemConfig, opening}}

-- what the owner of a buffer's lock has done since it acquired it: nothing, it entered a line, a
-- try of it failed, or it took effect and owes the signals that are true. While no thread owns the
-- lock, nothing has been done.
pub data Progress : Type 0 where
  Begins : Progress
  HasEntered : (side : Side) → Progress
  WasRefused : (side : Side) → Progress
  Owes : (receivers senders : Bool) → Progress

abbrev pub progress_signalled : Side → Progress → Progress
progress_signalled Receivers (Owes receivers senders) = Owes false senders
progress_signalled Senders (Owes receivers senders) = Owes receivers false
progress_signalled side g = g

-- the progress after a section on the buffer
abbrev pub progress_after : Name → Buffer → Progress → Progress
progress_after (AcqQ t) k g = g
progress_after (Enter t side) k g = HasEntered side
progress_after (TryPut t m) k g = if may_try Senders t k then Owes true true else WasRefused Senders
progress_after (TryTake t) k g =
    if may_try Receivers t k then Owes true true else WasRefused Receivers
progress_after (Shut t) k g = Owes true true
progress_after (WaitOn t side) k g = Begins
progress_after (SigRecv t) k g = progress_signalled Receivers g
progress_after (SigSend t) k g = progress_signalled Senders g
progress_after (RelQ t) k g = Begins
progress_after (Pend s) k g = g
progress_after TakeAll k g = g

abbrev pub progress_by : Name → Option Block → Progress → Progress
progress_by name (Some (OfBuffer k)) g = progress_after name k g
progress_by name (Some (OfPending threads)) g = g
progress_by name None g = g

-- the block of a lock after these sections
abbrev pub block_of : SystemConfig → LockId → List (Section Name) → Option Block
block_of setup lock past = block_after edited (opening setup) lock past

-- the progress of the owner of this lock after these sections
abbrev pub progress : SystemConfig → LockId → List (Section Name) → Progress
progress setup lock [] = Begins
progress setup lock (s ∷ past) =
    if same_lock lock s.lock
    then progress_by s.edit (block_of setup lock past) (progress setup lock past)
    else progress setup lock past

-- a try may occur after its line was entered, and as the first section of an owner that was woken
abbrev pub MayTry : Side → Progress → Type 0
MayTry side Begins = Unit {0}
MayTry side (HasEntered line) = line ≡ side
MayTry side g = ⊥

abbrev pub IsOwing : Progress → Type 0
IsOwing (Owes receivers senders) = Unit {0}
IsOwing g = ⊥

-- A section may occur on the buffer: only the owner edits. It enters or closes at once, waits only
-- after its try failed, signals only after an effect, and releases the lock only after both sides
-- are signalled.
abbrev pub MayEdit : Name → Buffer → Progress → Type 0
MayEdit (AcqQ t) k g = k.busy ≢ Some t
MayEdit (Enter t side) k g = (k.busy ≡ Some t) × (g ≡ Begins)
MayEdit (TryPut t m) k g = (k.busy ≡ Some t) × MayTry Senders g
MayEdit (TryTake t) k g = (k.busy ≡ Some t) × MayTry Receivers g
MayEdit (Shut t) k g = (k.busy ≡ Some t) × (g ≡ Begins)
MayEdit (WaitOn t side) k g = (k.busy ≡ Some t) × (g ≡ WasRefused side)
MayEdit (SigRecv t) k g = (k.busy ≡ Some t) × IsOwing g
MayEdit (SigSend t) k g = (k.busy ≡ Some t) × IsOwing g
MayEdit (RelQ t) k g = (k.busy ≡ Some t) × (g ≡ Owes false false)
MayEdit (Pend s) k g = ⊥
MayEdit TakeAll k g = ⊥

abbrev pub MayEditBlock : Name → Option Block → Progress → Type 0
MayEditBlock name (Some (OfBuffer k)) g = MayEdit name k g
MayEditBlock name (Some (OfPending threads)) g = Unit {0}
MayEditBlock name None g = Unit {0}

abbrev pub KeepsOrderAt : SystemConfig → LockId → Name → List (Section Name) → Type 0
KeepsOrderAt setup (AtBuffer b) name past =
    MayEditBlock name (block_of setup (AtBuffer b) past) (progress setup (AtBuffer b) past)
KeepsOrderAt setup (Pending c) name past = Unit {0}

-- a section keeps the order that its call prescribes
abbrev pub KeepsOrder : SystemConfig → List (Section Name) → Section Name → Type 0
KeepsOrder setup past s = KeepsOrderAt setup s.lock s.edit past

-- each of these sections keeps the order that its call prescribes
abbrev pub IsInOrder : SystemConfig → List (Section Name) → Type 0
IsInOrder setup sections = IsLawful (KeepsOrder setup) sections
