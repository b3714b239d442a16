-- The invariant of a system, what its steps leave unchanged, and why a CPU of it takes no step.
use Rattle.std.specs.Prelude.{◌≡◌, ℕ, ◌+◌, ◌^◌, ◌<◌, ◌≤◌, ◌==◌, List, [], ◌∷◌, ◌++◌, length, map}
use Rattle.std.specs.{Prelude.{Option, Some, None, slice_get, if◌then◌else◌}, List.AllByRecursion}
use Rattle.event_log.specs.declared.{entries.Entry.Entry, ids.{CpuId.CpuId, Tid.Tid}}
use Rattle.event_log.specs.{declared.ids.TheConstants.{CPUS, THREADS}, Actions.{Action, Rests}}
use Rattle.{event_log.specs.Actions.phase, layer_traits.specs.declared.steps.Reason.Reason}
use Rattle.layer_traits.specs.declared.steps.{Reason.TheVariants.StepsUsed, Step.Step}
use Rattle.layer_traits.specs.{declared.steps.Step.TheVariants.Stepped, Threads.Places.home_of}
use Rattle.cpu.specs.Table.{Setups.SystemConfig, Steps.{Stepping, SystemState, system_step}}
use Rattle.cpu.specs.{Table.Steps.cpu_step, Tables.IsSetupOf, Cpus.{cpu_halted_at, reason_in}}
use Rattle.cpu.specs.{Cpus.step_answer, Claims.{CpuView, IsRunState, SystemView, programs_in}}
use Rattle.cpu.specs.Linear.{CallsGoOn}

-- what no step changes: capacities, home CPUs, programs, the number of CPUs, the room of each
-- trace, and the room for steps
pub record SamePlan (s r : SystemView) : Type 0 where
  pub caps : r.caps ≡ s.caps
  pub homes : r.homes ≡ s.homes
  pub programs : programs_in r ≡ programs_in s
  pub count : length r.cpus ≡ length s.cpus
  pub limits : map (λ p. p.limit) r.cpus ≡ map (λ p. p.limit) s.cpus
  pub room : r.room ≡ s.room

-- a CPU's own reason to take no step: none while it has a section under way
abbrev pub own_reason : CpuView → Option Reason
own_reason p = reason_in p.busy (cpu_halted_at p.local p.guests p.trace p.limit)

abbrev pub own_reason_in : Option CpuView → Option Reason
own_reason_in None = None
own_reason_in (Some p) = own_reason p

-- the own reason of CPU c
abbrev pub halted_in : CpuId → SystemView → Option Reason
halted_in c s = own_reason_in (slice_get s.cpus c.0)

-- a CPU that has no reason takes no step if the room for steps is used
abbrev pub reason_or : Option Reason → SystemView → Option Reason
reason_or None s = if s.taken == s.room then Some StepsUsed else None
reason_or (Some reason) s = Some reason

-- why CPU c takes no step
abbrev pub reason_of : CpuId → SystemView → Option Reason
reason_of c s = reason_or (halted_in c s) s

-- x has the number k, and satisfies the predicate
pub record IsAt {X : Type 0} (IsOne : X → Type 0) (number : X → CpuId) (k : ℕ) (x : X) : Type
    0 where
  pub number_is : number x ≡ record { 0 = k }
  pub holds : IsOne x

-- the invariant of a machine and its CPUs
pub record IsSystem {X N : Type 0} (IsOne : X → Type 0) (number : X → CpuId)
    (ActsFor MayHold : CpuId → Type 0) (IsStepwise : Type 0) (acts : List (Action N))
    (cpus : List X) (homes : List CpuId) (history : List Entry) (room taken left : ℕ)
    (Sound : Type 0) : Type 0 where
  -- each CPU's number is its place in the list, and it satisfies its predicate; there is at least
  -- one, and no more than a machine may have
  pub each : (k : ℕ) (x : X) → slice_get cpus k ≡ Some x → IsAt IsOne number k x
  pub some : 0 < length cpus
  pub most : length cpus ≤ CPUS
  -- and there are no more threads than a machine may have
  pub crowd : length homes ≤ THREADS
  -- the machine belongs to this system only: no other holder acts in it; each effect is of one of
  -- its CPUs, and each thread's home is one of them
  pub acts_for : (c : CpuId) → c.0 < CPUS → ActsFor c
  pub known : AllByRecursion (λ e. e.cpu.0 < length cpus) history
  pub within : (t : Tid) (home : CpuId) → home_of homes t ≡ Some home → home.0 < length cpus
  pub rest : IsStepwise → (c : CpuId) → length cpus ≤ c.0 → c.0 < CPUS → phase c acts ≡ Rests
  -- no CPU past them holds a lock
  pub holders : (c : CpuId) → length cpus ≤ c.0 → c.0 < CPUS → MayHold c → ⊥
  -- there are no more effects than steps, no more steps than room, and the machine has room for the
  -- steps that are left
  pub short : length history ≤ taken
  pub used : taken ≤ room
  pub small : room < 2 ^ 64
  pub enough : room ≤ taken + left
  -- and what the step table adds to the invariant
  pub sound : Sound

-- a system as the step table has it
abbrev pub whole_of : SystemView → SystemState
whole_of s =
    record { cpus = map (λ p. p.cpu_local) s.cpus; log = s.log; room = s.room; taken = s.taken }

-- a setup of the step table is this system's if it agrees with each of its CPUs
pub record GoesBy (setup : SystemConfig) (s : SystemView) : Type 0 where
  pub each : (k : ℕ) (p : CpuView) → slice_get s.cpus k ≡ Some p
      → IsSetupOf setup s.homes s.caps p.guests p.limit

-- the system went from old to new by one step of CPU c in the step table
abbrev pub SteppedByTable : CpuId → SystemView → SystemView → Step → Type 0
SteppedByTable c old new answer = (setup : SystemConfig) → GoesBy setup old
    → ◌≡◌ {A = Stepping} (record { next = whole_of new; answer = answer })
    (system_step setup c (whole_of old))

-- What a step of CPU c does. If the CPU has no reason against it, it is taken and counted, and at
-- most one call takes effect in it, after all that took effect before. It is the step table's if
-- the machine does one action a step. Otherwise nothing changes.
pub data WentOn (IsStepwise : Type 0) (c : CpuId) (old new : SystemView) : Type 0 where
  took : reason_of c old ≡ None → new.taken ≡ old.taken + 1 → CallsGoOn c old new → IsRunState new
      → (IsStepwise → SteppedByTable c old new Stepped) → WentOn IsStepwise c old new
  stayed : (reason : Reason) → reason_of c old ≡ Some reason → new ≡ old
      → WentOn IsStepwise c old new

-- what the steps of these CPUs do, one after the other
pub data Ran (IsStepwise : Type 0) (start : SystemView) : List CpuId → SystemView → Type 0 where
  took_none : Ran IsStepwise start [] start
  goes : {steps : List CpuId} {s : SystemView} (c : CpuId) (r : SystemView)
      → Ran IsStepwise start steps s
      → WentOn IsStepwise c s r
      → Ran IsStepwise start (steps ++ c ∷ []) r

-- the table's step of CPU c reports that it takes none, for this reason of the CPU
abbrev pub HaltsByTable : CpuId → SystemView → Option Reason → Type 0
HaltsByTable c s local =
    (setup : SystemConfig) → GoesBy setup s → (p : CpuView) → slice_get s.cpus c.0 ≡ Some p
    → (cpu_step setup c p.cpu_local s.log).answer ≡ step_answer local
