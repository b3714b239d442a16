-- A run of a worker's CPU is turns of the worker, one after the other.
use Rattle.std.proofs.Common.{◌≡◌, ℕ, ◌<◌, Bool, true, Option, is_some, refl, ◌∙◌, subst, arith}
use Rattle.layer_traits.specs.{Blocks.{Capacities.caps_in, QueueBlocks.homes_in}, declared.{call_layers.CallLayer.Ghosts, steps.Reason.Reason}}
use Rattle.layer_traits.specs.{declared.steps.Step.TheVariants.Stepped, Polling.Plans.is_in_section, Views.OwnParts.threads_in}
use Rattle.{event_log.specs.{declared.ids.CpuId.CpuId, Actions.phase}, cpu.specs.Table.{Setups.SystemConfig, Steps.{cpu_step, halted_at}}}
use Rattle.cpu.specs.{declared.cpus.Cpu.Cpu, CpuSteps.{AgreesAt, RunsAt, stops_at}, Cpus.{cpu_halted_at, programs_of, reason_in}, Tables.cpu_local}
use Rattle.cpu.specs.Tower.Composed.{busy_step_answer, named}
use Rattle.{cpu.proofs.CpuSteps.CpuRuns.runs_agree, cpu_workers.{specs.Working.{MayStep, TookTurns, Working}, proofs.Planning.{step_behind, table_planned}}}

-- a CPU that stops takes no step of the table
pub stops_still : (inside busy : Bool) (stops halted answer : Option Reason) → inside ≡ busy → halted ≡ stops → answer ≡ reason_in inside stops
    → is_some answer ≡ true → busy_step_answer busy halted ≡ Stepped → 0 < 0
stops_still inside busy stops halted answer at local is some may = grind arith

module _ {P L M : Type 0} (I : Ghosts P L M) where
  -- the worker of a CPU and its machine
  abbrev pub worker_at : M → Cpu P M → Working
  worker_at m p = record {
    cpu = p.number;
    plan = record {
      homes = homes_in (I.opening m);
      caps = caps_in (I.opening m);
      programs = programs_of p.guests.items;
      limit = p.limit;
    };
    cpu_local = cpu_local (I.local p.part) p.guests.items p.trace.items;
    acts = I.acts m;
    machine_id = I.machine_id m;
  }

  -- nor does its worker
  pub stops_as_told : (m : M) (p : Cpu P M) (setup : SystemConfig) {answer : Option Reason}
      → I.is_inside p.part ≡ is_in_section (phase p.number (named (I.acts m)))
      → halted_at setup p.number (cpu_local (I.local p.part) p.guests.items p.trace.items)
      ≡ cpu_halted_at (threads_in (I.local p.part)) p.guests.items p.trace.items
      p.limit → answer ≡ stops_at I p → is_some answer ≡ true → MayStep setup (worker_at m p) → 0 < 0
  stops_as_told m p setup busy halted is some may = stops_still _ _ _ _ _ busy halted is some may

  module _ {m : M} {p : Cpu P M} where
    pub opens_same : {k : ℕ} {n : M} {q : Cpu P M} → RunsAt I m p k n q → I.opening n ≡ I.opening m
    opens_same RunsAt.no_steps = refl
    opens_same (RunsAt.then_step runs s) = s.leaves.opening ∙ opens_same runs

    module _ (own_cpu : (q : P) (n : M) → I.Coupled q n → I.ActsFor n (I.cpu_of q)) (stepwise : I.IsStepwise) (agrees : AgreesAt I m p) where
      pub turns_of : {k : ℕ} {n : M} {q : Cpu P M} → RunsAt I m p k n q → TookTurns (worker_at m p) k (worker_at n q)
      turns_of RunsAt.no_steps = TookTurns.no_turns
      turns_of {n = o} {q = r} (RunsAt.then_step {n = n} {q = q} runs s) =
          let at = runs_agree agrees runs in
          let acts = subst (λ (d : CpuId). I.ActsFor n d) at.number (own_cpu q.part n at.coupled) in
          TookTurns.one_more (turns_of runs) (record {
            cpu = s.leaves.number;
            plan = λ i. record {
              homes = homes_in (s.leaves.opening i);
              caps = caps_in (s.leaves.opening i);
              programs = s.leaves.programs i;
              limit = s.leaves.limit i;
            };
            machine_id = s.leaves.machine_id;
          }) (λ setup of. step_behind (λ d. I.ActsFor n d) q.number (cpu_step setup q.number) (cpu_local (I.local q.part) q.guests.items q.trace.items)
          (cpu_local (I.local r.part) r.guests.items r.trace.items) (named (I.acts n)) (named (I.acts o)) Stepped acts
          (s.steps stepwise setup (table_planned setup (homes_in (I.opening n)) (caps_in (I.opening n)) q.guests.items q.limit of)))
