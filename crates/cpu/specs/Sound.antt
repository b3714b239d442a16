-- A system is one that the step table reaches from boot, under every setup of the table that is
-- its. Therefore it has lost no wake-up, and a call returns if only its CPU steps and nothing
-- contends with it.
use Rattle.std.specs.Prelude.{◌≡◌, ℕ, ◌+◌, ◌<◌, ◌≤◌, List, [], ◌∷◌, length, map, replicate, Some}
use Rattle.event_log.specs.declared.{entries.Kind.TheVariants.Close, ids.{BufId.BufId, CpuId.CpuId}}
use Rattle.event_log.specs.declared.ids.{LockId.TheVariants.Buffer as AtBuffer, Tid.Tid}
use Rattle.{boot.specs.Plan.BootPlan, cpu.specs.{Boots.homes_for, Claims.SystemView}}
use Rattle.cpu.specs.{Systems.{GoesBy, whole_of}, Table.Blocks.{Buffer, OfBuffer}}
use Rattle.cpu.specs.Table.{Setups.{SystemConfig, CpuLocal}, Steps.{IsReached, SystemState}}
use Rattle.cpu.specs.{Table.Steps.{block_at, system_step, whole_at_boot}, Wakeups.Alone.HasReturned}
use Rattle.cpu.specs.Wakeups.{Alone.{IsInCall, IsReady, steps_to_return}, Lost.NoWakeUpIsLost}

-- a setup of the step table is this system's: it agrees with each of its CPUs, and has as many
pub record IsSetupFor (setup : SystemConfig) (s : SystemView) : Type 0 where
  pub goes : GoesBy setup s
  pub count : setup.cpus ≡ length s.cpus

-- the setup that a plan determines
abbrev pub setup_for : BootPlan → SystemConfig
setup_for plan = record {
  cpus = plan.cpus;
  homes = homes_for plan;
  programs = map (λ task. task.program) plan.tasks;
  caps = plan.caps;
  trace_room = plan.trace;
}

-- the system is in the step table's state at boot
abbrev pub BootsByTable : SystemView → Type 0
BootsByTable s =
    (setup : SystemConfig) → IsSetupFor setup s → whole_of s ≡ whole_at_boot setup s.room

-- the step table reaches the system from boot, by some list of steps
abbrev pub IsReachedByTable : SystemView → Type 0
IsReachedByTable s =
    (setup : SystemConfig) → IsSetupFor setup s → IsReached setup s.room (whole_of s)

-- The step table reaches the system, and it has lost no wake-up. While no thread owns the lock of a
-- buffer, as its last section left it, the first thread of neither wait queue waits although the
-- buffer allows its call.
pub record SoundByTable (s : SystemView) : Type 0 where
  pub reached : IsReachedByTable s
  pub awake : (setup : SystemConfig) → IsSetupFor setup s → (b : BufId) (k : Buffer)
      → block_at setup (AtBuffer b) s.log ≡ Some (OfBuffer k) → NoWakeUpIsLost k

-- a system of the table after one step of each of these CPUs, one after the other
abbrev pub after_steps : SystemConfig → List CpuId → SystemState → SystemState
after_steps setup [] s = s
after_steps setup (c ∷ more) s = after_steps setup more (system_step setup c s).next

-- the system went from old to new by these steps of the step table
abbrev pub RanByTable : SystemView → List CpuId → SystemView → Type 0
RanByTable old steps new =
    (setup : SystemConfig) → GoesBy setup old
    → whole_of new ≡ after_steps setup steps (whole_of old)

-- CPU c rests and is not halted, no spin lock is held or requested, and the running thread t is at
-- a call that has not begun. No thread owns its buffer, which allows the call, and the call's wait
-- queue is empty. If the system has room for 32 more steps, the call has returned after an exact
-- number of steps of c, and is still under way one step earlier. The number is 18, and 15 for a
-- close, and 3 more for each thread of another CPU that it wakes. A send or a receive wakes the
-- first thread of the other side's wait queue, if that thread waits, and none if it found its
-- buffer closed. A close wakes the first thread of each wait queue, if it waits, and threads of
-- both only if the buffer's capacity is zero.
abbrev pub ReturnsAlone : SystemView → Type 0
ReturnsAlone s =
    (setup : SystemConfig) → IsSetupFor setup s → (c : CpuId) (p : CpuLocal) (t : Tid)
    → (ready : IsReady setup c (whole_of s) p t) → s.taken + 32 ≤ s.room
    → ((new : SystemView) → RanByTable s
    (replicate (steps_to_return setup c ready.effect ready.block) c)
    new
    → HasReturned (whole_of new) c p t ready.effect ready.buffer)
    × ((n : ℕ) (before : SystemView) → n + 1 ≡ steps_to_return setup c ready.effect ready.block
    → RanByTable s (replicate n c) before
    → IsInCall (whole_of before) c t)
    × (ready.effect ≡ Close → 18 < steps_to_return setup c ready.effect ready.block
    → ready.block.capacity ≡ 0)
