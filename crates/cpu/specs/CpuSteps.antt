-- One CPU over a layer of message calls and its machine: the CPU's invariant, and what each of its
-- steps leaves.
use Rattle.std.specs.Prelude.{◌≡◌, ◌≢◌, ℕ, ◌+◌, ◌<◌, ◌≤◌, length, Option, None, vec_capacity}
use Rattle.layer_traits.specs.Blocks.{Capacities.caps_in, QueueBlocks.homes_in}
use Rattle.layer_traits.specs.declared.{call_layers.CallLayer.Ghosts, steps.Reason.Reason}
use Rattle.layer_traits.specs.declared.steps.Step.{Step, TheVariants.Stepped}
use Rattle.layer_traits.specs.{Layers.BufferLaw.MovesGrow, Views.OwnParts.threads_in}
use Rattle.{event_log.specs.declared.ids.CpuId.CpuId, cpu.specs.declared.cpus.Cpu.Cpu}
use Rattle.cpu.specs.Cpus.{ActsGrow, GuestsWent, IsCpu, SeenGrows, cpu_halted_at, programs_of}
use Rattle.cpu.specs.{Cpus.reason_in, Tables.{IsTabled, WentByTable}}

-- the CPU's invariant
abbrev pub IsCpuAt : {P L M : Type 0} → Ghosts P L M → M → Cpu P M → Type 0
IsCpuAt I m p =
    IsCpu (homes_in (I.opening m)) (length (caps_in (I.opening m))) (I.history m)
    (threads_in (I.local p.part)) (I.local p.part).call_states
    (I.under_way p.part) p.number p.guests.items p.trace.items
    p.limit (vec_capacity p.trace)

-- and what the step table adds to the invariant
abbrev pub IsTabledAt : {P L M : Type 0} → Ghosts P L M → M → Cpu P M → Type 0
IsTabledAt I m p =
    IsTabled (homes_in (I.opening m)) (caps_in (I.opening m)) p.number (I.local p.part)
    (I.under_way p.part) p.guests.items (I.opening m)

-- why the CPU takes no step
abbrev pub stops_at : {P L M : Type 0} → Ghosts P L M → Cpu P M → Option Reason
stops_at I p =
    reason_in (I.is_inside p.part)
    (cpu_halted_at (threads_in (I.local p.part)) p.guests.items p.trace.items p.limit)

-- the CPU and its machine went from the first two to the last two by one step of the table, with
-- this result
abbrev pub WentAt : {P L M : Type 0} → Ghosts P L M → M → Cpu P M → M → Cpu P M → Step → Type 0
WentAt I m p n q answer =
    WentByTable (I.ActsFor m) (homes_in (I.opening m)) (caps_in (I.opening m)) p.number p.limit
    (I.local p.part) (I.local q.part)
    p.guests.items q.guests.items p.trace.items q.trace.items (I.acts m) (I.acts n) answer

-- what the CPU and its machine keep, and what only grows
pub record Leaves {P L M : Type 0} (I : Ghosts P L M) (m : M) (p : Cpu P M) (n : M)
    (q : Cpu P M) : Type 0 where
  pub number : q.number ≡ p.number
  pub limit : q.limit ≡ p.limit
  pub cpu : I.cpu_of q.part ≡ p.number
  pub programs : programs_of q.guests.items ≡ programs_of p.guests.items
  pub guests : GuestsWent p.number p.guests.items p.trace.items q.guests.items q.trace.items
  pub history : SeenGrows (I.ActsFor m) p.number (I.history m) (I.history n)
  pub moves : MovesGrow (I.ActsFor m) p.number (I.moves m) (I.moves n)
  pub grows : I.IsStepwise → ActsGrow (I.ActsFor m) p.number (I.acts m) (I.acts n)
  pub opening : I.opening n ≡ I.opening m
  pub machine_id : I.machine_id n ≡ I.machine_id m
  pub room : I.room m ≤ I.room n + 1
  pub acts : (c : CpuId) → I.ActsFor m c → I.ActsFor n c
  pub others : (part : P) → I.cpu_of part ≢ p.number → I.Coupled part m → I.Coupled part n
  pub holders : (c : CpuId) → c ≢ p.number → I.ActsFor m c → I.MayHold n c → I.MayHold m c

-- Coupling invariant: the CPU and its machine agree. Its part agrees with the machine and has its
-- number, and its own invariant holds.
pub record AgreesAt {P L M : Type 0} (I : Ghosts P L M) (m : M) (p : Cpu P M) : Type 0 where
  pub coupled : I.Coupled p.part m
  pub number : I.cpu_of p.part ≡ p.number
  pub is : IsCpuAt I m p
  pub table : I.IsStepwise → IsTabledAt I m p

-- they agree, the machine has room for so many events, at least one, and the CPU is not halted
pub record GoesAt {P L M : Type 0} (I : Ghosts P L M) (m : M) (p : Cpu P M) (most : ℕ) : Type
    0 where
  pub agrees : AgreesAt I m p
  pub some : 0 < most
  pub room : most ≤ I.room m
  pub live : stops_at I p ≡ None

-- the CPU and its machine, which agreed, took one step, and agree again
pub record SteppedAt {P L M : Type 0} (I : Ghosts P L M) (m : M) (p : Cpu P M) (n : M)
    (q : Cpu P M) : Type 0 where
  pub live : stops_at I p ≡ None
  pub agrees : AgreesAt I n q
  pub leaves : Leaves I m p n q
  pub steps : I.IsStepwise → WentAt I m p n q Stepped

-- they took so many steps, one after the other
pub data RunsAt {P L M : Type 0} (I : Ghosts P L M) (m : M) (p : Cpu P M) : (steps : ℕ) → M
    → Cpu P M → Type 0 where
  no_steps : RunsAt I m p 0 m p
  then_step : {k : ℕ} {n o : M} {q r : Cpu P M} → RunsAt I m p k n q → SteppedAt I n q o r
      → RunsAt I m p (k + 1) o r

-- and that is one step at least, and at most so many
pub record RanWithin {P L M : Type 0} (I : Ghosts P L M) (m : M) (p : Cpu P M) (most steps : ℕ)
    (n : M) (q : Cpu P M) : Type 0 where
  pub some : 0 < steps
  pub few : steps ≤ most
  pub ran : RunsAt I m p steps n q
