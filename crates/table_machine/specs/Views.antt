-- What a seat knows of the log, and which CPUs it acts for.
use Rattle.std.specs.Prelude.{◌≡◌, ℕ, zero, suc, ◌+◌, ◌<◌, List, [], ◌∷◌, ◌++◌, ◌⊎◌}
use Rattle.event_log.specs.declared.{ids.{CpuId.CpuId, LockId.LockId}, events.Event.Event}
use Rattle.event_log.specs.{History.AreOthers, WordsLog.cpu_of_event}
use Rattle.layer_traits.specs.declared.edits.Mark.{Mark}
use Rattle.table_machine.specs.declared.views.View.{View}
use mathlib.Core.Option.{some}
use lib.ListN.{get_elem?}

-- a view that has merged all that it received
abbrev pub caught_up : {E B : Type 0} → List (LockId × B) → List CpuId → List (Event (Mark E))
    → View E B
caught_up start cpus history =
    record { start = start; cpus = cpus; history = history; told = []; lent = [] }

-- the view of the seat of one CPU
abbrev pub mine : {E B : Type 0} → List (LockId × B) → CpuId → List (Event (Mark E)) → View E B
mine start cpu history = caught_up start (cpu ∷ []) history

-- so many CPUs, numbered upwards from this one
abbrev pub cpus_from : ℕ → ℕ → List CpuId
cpus_from first zero = []
cpus_from first (suc count) = record { 0 = first } ∷ cpus_from (first + 1) count

-- the CPU is in the list
abbrev pub Has : CpuId → List CpuId → Type 0
Has cpu [] = ⊥
Has cpu (c ∷ rest) = (cpu ≡ c) ⊎ Has cpu rest

-- the first CPU of the list
abbrev pub owner : List CpuId → CpuId
owner [] = record { 0 = 0 }
owner (c ∷ rest) = c

-- exactly this CPU
abbrev pub IsThisCpu : CpuId → CpuId → Type 0
IsThisCpu cpu c = c ≡ cpu

-- what was seen is a prefix of the log: newest first, the log ends with it
pub record EndsWith {E : Type 0} (log history : List E) : Type 0 where
  pub more : List E
  pub is : log ≡ more ++ history

-- the log extends what was seen, without an event of this CPU
pub record IsSince {M : Type 0} (log history : List (Event M)) (cpu : CpuId) : Type 0 where
  pub more : List (Event M)
  pub is : log ≡ more ++ history
  pub others : AreOthers cpu_of_event cpu more

-- the CPU is one for which this view acts, or one that was lent to it
abbrev pub Owns : {E B : Type 0} → CpuId → View E B → Type 0
Owns cpu v = Has cpu v.cpus ⊎ Has cpu v.lent

-- the view is a prefix of the log, and has all events of its CPUs
pub record Coupled {E B : Type 0} (log : List (Event (Mark E))) (v : View E B) : Type 0 where
  pub front : EndsWith log v.history
  pub told : EndsWith log v.told
  pub cpus : (c : CpuId) → Has c v.cpus → IsSince log v.history c
  pub lent : (c : CpuId) → Has c v.lent → IsSince log v.told c

-- all views are prefixes of the log; a CPU is of one view at most, and below the number of CPUs
pub record Sees {E B : Type 0} (cpu_count : ℕ) (views : List (View E B))
    (log : List (Event (Mark E))) : Type 0 where
  pub coupled : (i : ℕ) (v : View E B) → get_elem? views i ≡ some v → Coupled log v
  pub seat_of : ℕ → ℕ
  pub apart : (i : ℕ) (v : View E B) (c : CpuId) → get_elem? views i ≡ some v → Owns c v
      → i ≡ seat_of c.0
  pub known : (i : ℕ) (v : View E B) (c : CpuId) → get_elem? views i ≡ some v → Owns c v
      → c.0 < cpu_count
