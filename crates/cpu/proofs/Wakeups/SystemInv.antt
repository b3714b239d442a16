-- All that is known of every state that a system reaches.
use Rattle.std.proofs.{Common.{◌≡◌, ℕ, zero, suc, ◌+◌, ◌<◌, List, [], ◌∷◌, ◌++◌, length, slice_get, Some, refl, sym, ◌∙◌, subst, arith}, lemmas.List.length-set}
use Rattle.{event_log.specs.{declared.ids.CpuId.CpuId, Sections.sections_in, Actions.Action}, cpu.specs.Table.{Blocks.Name, Setups.{SystemConfig, CpuLocal}}}
use Rattle.cpu.specs.Table.Steps.{cpu_step, SystemState, cpu_numbered, boots_from, whole_at_boot, whole_after, system_step, IsReached, boots, steps_once}
use Rattle.cpu.proofs.Wakeups.{Placed.{Placed, placed_none, placed_at}, Agreement.{runs_at_home, runs_within}, EndedThreads.{AllFine, fine_at_boot}}
use Rattle.cpu.proofs.Wakeups.{EndedThreads.{fine_choice, fine_acting}, ReachedStates.{step_keeps, IsFairLog, Ok, StepOk, step_ok, AllDo, Sound, sound_step}}
use Rattle.cpu.proofs.{Wakeups.ReachedStates.{reached_sound, all_set, boots_at}, ListFacts.ListReads.there_is}

-- what a step of a system leaves: the same, or the state after its CPU's step
pub data NextIs (setup : SystemConfig) (c : CpuId) (s : SystemState) : SystemState → Type 0 where
  same : NextIs setup c s s
  went : (p : CpuLocal) → slice_get s.cpus c.0 ≡ Some p → NextIs setup c s (whole_after c s (cpu_step setup c p s.log))

pub next_is : (setup : SystemConfig) (c : CpuId) (s : SystemState) → NextIs setup c s (system_step setup c s).next
next_is setup c s = grind (arith, same, went)

-- the CPU's actions
pub placed_acts : (setup : SystemConfig) (c : CpuId) → c.0 < setup.cpus → (log acts : List (Action Name)) → AllDo c acts → IsFairLog setup (acts ++ log)
    → Placed setup (sections_in log) → Placed setup (sections_in (acts ++ log))
placed_acts setup c known log [] does fair placed = placed
placed_acts setup c known log (a ∷ acts) does fair placed =
    let before = placed_acts setup c known log acts does.1 fair.1 placed in grind (arith, placed_at, known)

-- a CPU's step keeps what its threads say
fine_step : (setup : SystemConfig) (c : CpuId) (p : CpuLocal) (log : List (Action Name)) → Ok setup c p log
    → AllFine setup p → AllFine setup (cpu_step setup c p log).next
fine_step setup c p log ok fine =
    step_keeps setup c p log (AllFine setup) ok fine (fine_choice setup c p fine (λ t runs_now. (runs_at_home setup c p _ _ ok.agrees t runs_now).2))
    (λ q agrees now. fine_acting setup c q now (runs_within setup c q _ _ agrees) log)

pub record SystemInv (setup : SystemConfig) (s : SystemState) : Type 0 where
  pub sound : Sound setup s
  pub placed : Placed setup (sections_in s.log)
  pub fine : (e : CpuId) (p : CpuLocal) → slice_get s.cpus e.0 ≡ Some p → AllFine setup p
  pub size : length s.cpus ≡ setup.cpus

pub boots_length : (setup : SystemConfig) (n k : ℕ) → length (boots_from setup n k) ≡ k
boots_length setup n zero = refl
boots_length setup n (suc k) = let more = boots_length setup (n + 1) k in omega (arith, more)

inv_at_boot : (setup : SystemConfig) (room : ℕ) → SystemInv setup (whole_at_boot setup room)
inv_at_boot setup room = record {
  sound = reached_sound setup room (whole_at_boot setup room) boots;
  placed = placed_none setup;
  fine = λ e p is. subst (AllFine setup) (boots_at setup 0 setup.cpus e.0 p is) (fine_at_boot setup (cpu_numbered (0 + e.0)));
  size = boots_length setup 0 setup.cpus;
}

inv_next : (setup : SystemConfig) (c : CpuId) (s next : SystemState) → c.0 < setup.cpus → SystemInv setup s → Sound setup next → NextIs setup c s next
    → SystemInv setup next
inv_next setup c s next known kept sound same = kept
inv_next setup c s next known kept sound (went p here) = record {
  sound = sound;
  placed = placed_acts setup c known s.log (cpu_step setup c p s.log).acts step.does step.fair kept.placed;
  fine = all_set (λ e. AllFine setup) s.cpus c (cpu_step setup c p s.log).next
      (fine_step setup c p s.log (kept.sound.cpus c p here) (kept.fine c p here)) (λ e q off. kept.fine e q);
  size = length-set s.cpus c.0 (cpu_step setup c p s.log).next ∙ kept.size;
}
  where
    step : StepOk setup c s.log (cpu_step setup c p s.log)
    step = step_ok setup c s.log kept.sound.fair p (kept.sound.cpus c p here)

pub reached_inv : (setup : SystemConfig) (room : ℕ) (s : SystemState) → IsReached setup room s → SystemInv setup s
reached_inv setup room s boots = inv_at_boot setup room
reached_inv setup room s (steps_once {s = before} c reached within) =
    inv_next setup c before (system_step setup c before).next within (reached_inv setup room before reached)
    (sound_step setup before (reached_sound setup room before reached) c) (next_is setup c before)

-- a CPU of the machine is there
pub cpu_there : (setup : SystemConfig) (s : SystemState) → SystemInv setup s → (c : CpuId) → c.0 < setup.cpus → (p : CpuLocal) × (slice_get s.cpus c.0 ≡ Some p)
cpu_there setup s kept c known = there_is s.cpus c.0 (subst (λ n. c.0 < n) (sym kept.size) known)
