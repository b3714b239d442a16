-- Critical sections, newest first, and the block that they leave.
use Rattle.std.specs.Prelude.{List, [], ◌∷◌, option_map, Option, if◌then◌else◌}
use Rattle.event_log.specs.declared.{ids.{CpuId.CpuId, LockId.LockId}, events.Event.Event}
use Rattle.event_log.specs.{declared.events.Event.TheVariants.{Draw, Look, Free}, History.same_lock}
use Rattle.event_log.specs.Actions.{Action, Take, Try, Give}

-- a section: which CPU edited the block of which lock, and how
pub record Section (E : Type 0) : Type 0 where
  pub cpu : CpuId
  pub lock : LockId
  pub edit : E

-- the CPU whose section it is
abbrev pub cpu_of_section : {E : Type 0} → Section E → CpuId
cpu_of_section s = s.cpu

-- the same section, its edit under another name
abbrev pub renamed_section : {N L : Type 0} → (N → L) → Section N → Section L
renamed_section f s = record { cpu = s.cpu; lock = s.lock; edit = f s.edit }

-- the sections of a words log: its Frees, each with the edit that its mark denotes
abbrev pub sections_of : {M E : Type 0} → (M → E) → List (Event M) → List (Section E)
sections_of edit [] = []
sections_of edit (Draw cpu lock ticket ∷ past) = sections_of edit past
sections_of edit (Look cpu lock ticket read ∷ past) = sections_of edit past
sections_of edit (Free cpu lock mark ∷ past) =
    record { cpu = cpu; lock = lock; edit = edit mark } ∷ sections_of edit past

-- the sections among actions: the Gives, each under its name
abbrev pub sections_in : {N : Type 0} → List (Action N) → List (Section N)
sections_in [] = []
sections_in (Take cpu lock ∷ past) = sections_in past
sections_in (Try cpu lock hit ∷ past) = sections_in past
sections_in (Give cpu lock name ∷ past) =
    record { cpu = cpu; lock = lock; edit = name } ∷ sections_in past

-- the block of a lock after these sections: the opening block, edited by each of the lock's
-- sections in turn
abbrev pub block_after : {E B : Type 0} → (E → B → B) → (LockId → Option B) → LockId
    → List (Section E) → Option B
block_after edited opening lock [] = opening lock
block_after edited opening lock (s ∷ past) =
    if same_lock lock s.lock
    then option_map (edited s.edit) (block_after edited opening lock past)
    else block_after edited opening lock past
