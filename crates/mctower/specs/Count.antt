-- Counting: sections that each add 1 to one number.
use Rattle.std.specs.Prelude.{◌≡◌, ◌<◌, ℕ, List, Option, None, length, slice_index_or}
use Rattle.event_log.specs.declared.ids.CpuId.{CpuId}
pub use Rattle.cpu_workers.specs.Counts.{after_round, after_rounds, counting, sections_at}

-- this part is the one of the CPU of this number, rests and agrees with the machine
pub record IsCountReady {P M S : Type 0} (cpu_of : P → CpuId) (under_way : P → Option S)
    (Coupled : P → M → Type 0) (number : ℕ) (part : P)
    (machine : M) : Type 0 where
  pub cpu : (cpu_of part).0 ≡ number
  pub rests : under_way part ≡ None
  pub coupled : Coupled part machine

-- there is a part for each CPU from 0 on, and each of them is ready
abbrev pub AreReady : {P M S : Type 0} → (P → CpuId) → (P → Option S) → (P → M → Type 0) → List P
    → M → Type 0
AreReady cpu_of under_way Coupled parts machine =
    (i : ℕ) (d : _) → i < length parts
    → IsCountReady cpu_of under_way Coupled i (slice_index_or parts i d) machine
