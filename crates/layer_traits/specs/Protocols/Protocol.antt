-- What edits mean, and the protocol: which section which CPU may do after which sections.
use Rattle.std.specs.Prelude.{◌<◌, List, ◌++◌, Option}
use Rattle.event_log.specs.declared.ids.{CpuId.CpuId, LockId.LockId, TheConstants.CPUS}
use Rattle.event_log.specs.{History.{IsLawful, AreOthers}, Sections.{Section, cpu_of_section}}

-- what an edit means: the block that it leaves, its result, and, from the opening blocks on, after
-- which sections which CPU may do it
pub record Rules (E B O : Type 0) : Type 1 where
  pub edited : E → B → B
  pub answer : E → B → O
  pub allowed : (LockId → Option B) → List (Section E) → Section E → Type 0

-- the section of this CPU at this lock with this edit
abbrev pub section : {E : Type 0} → CpuId → LockId → E → Section E
section cpu lock edit = record { cpu = cpu; lock = lock; edit = edit }

-- a section is allowed, and stays so after whatever allowed sections of other CPUs precede it
abbrev pub StaysAllowed : {E : Type 0} → (List (Section E) → Section E → Type 0) → List (Section E)
    → Section E → Type 0
StaysAllowed Allowed past s =
    (more : List _) → AreOthers cpu_of_section s.cpu more → IsLawful Allowed (more ++ past)
    → Allowed (more ++ past) s

-- the CPU of a section is one that a machine may have
abbrev pub IsKnown : {E : Type 0} → List (Section E) → Section E → Type 0
IsKnown past s = s.cpu.0 < CPUS
