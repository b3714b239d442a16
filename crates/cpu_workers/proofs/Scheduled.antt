-- From a lawful report to a schedule under which the step table's system does the same.
use Rattle.std.proofs.{Common.{◌≡◌, ◌⊎◌, ℕ, ◌<◌, ◌≤◌, List, [], ◌∷◌, All, length, map, refl, ap, sym, ◌∙◌, arith, get_or}, lemmas.List.{length-map, same_lists}}
use Rattle.std.proofs.lemmas.Option.{get_or_from_slice_get}
use Rattle.event_log.specs.{declared.{entries.Entry.Entry, ids.{CpuId.CpuId, LockId.TheVariants.{Pending, Buffer as AtBuffer}}}, Actions.{Action, phase}}
use Rattle.cpu.{proofs.{ListFacts.ListReads.shows_at, Wakeups.Merging.work_is_a_run}, specs.{Sound.after_steps, Wakeups.{Lost.IsWorked, Merged.IsRunOfTable}}}
use Rattle.cpu.specs.Table.{Blocks.Name, Setups.{CpuLocal, SystemConfig}, Steps.{IsReached, SystemState, block_at, boots, steps_once, system_step}}
use Rattle.{cpu.specs.Table.Steps.whole_at_boot, layer_traits.specs.{Threads.OnePlace.cpu_at, Polling.Plans.is_in_section}, cpu_workers.proofs.Joining.all_head}
use Rattle.cpu_workers.{proofs.Joining.all_tail, specs.{declared.workers.gates.Go.Go, Lawful.{AreLeft, CpuReport, IsCpuReportOf, IsLawfulReport, ReportView}}}
use Rattle.cpu_workers.specs.ReportRuns.{IsReportOfRun, ReportsAreRuns, StandsAsTold, run_by}

-- steps of a setup's CPUs lead on to states that it reaches
reached_after : (setup : SystemConfig) (room : ℕ) (schedule : List CpuId) (s : SystemState) → All (λ c. c.0 < setup.cpus) schedule → IsReached setup room s
    → IsReached setup room (after_steps setup schedule s)
reached_after setup room [] s known reached = reached
reached_after setup room (c ∷ schedule) s known reached =
    reached_after setup room schedule (system_step setup c s).next (all_tail (λ d. d.0 < setup.cpus) (c ∷ schedule) schedule c refl known)
    (steps_once c reached (all_head (λ d. d.0 < setup.cpus) (c ∷ schedule) schedule c refl known))

module _ (setup : SystemConfig) (May : CpuId → Go → ℕ → Type 0) (turns : ℕ) (r : ReportView) (lawful : IsLawfulReport setup May turns r) where
  abbrev worked : IsWorked setup lawful.log
  worked = record {
    ran = λ c below. let one = lawful.gone c below in record { count = one.2.took.count; last = one.2.last; steps = one.2.took.steps };
    rest = lawful.rest;
  }

  abbrev run : IsRunOfTable setup lawful.log worked
  run = work_is_a_run setup lawful.log worked

  abbrev whole : SystemState
  whole = run_by setup run.steps

  enough : length run.steps ≤ length run.steps
  enough = omega arith

  log_is : whole.log ≡ lawful.log
  log_is = run.log_is (length run.steps) enough

  traces_long : length (map (λ (p : CpuLocal). p.trace) whole.cpus) ≡ setup.cpus
  traces_long = length-map whole.cpus _ ∙ run.many (length run.steps) enough

  read_alike : (k : ℕ) (d : List Entry) → k < length r.traces → get_or r.traces k d ≡ get_or (map (λ (p : CpuLocal). p.trace) whole.cpus) k d
  read_alike k d below =
      let at = run.cpus_are (length run.steps) enough (cpu_at k) (rw lawful.report.traces_count at below) in
      let one = lawful.gone (cpu_at k) at.0 in
      get_or_from_slice_get r.traces k one.0.trace d one.1.trace ∙ one.2.trace_is
      ∙ sym (get_or_from_slice_get (map (λ (p : CpuLocal). p.trace) whole.cpus) k one.2.last.trace d
      (shows_at (λ (p : CpuLocal). p.trace) whole.cpus k one.2.last at.1))

  stands : (c : CpuId) → c.0 < setup.cpus → (line : CpuReport) × IsCpuReportOf r c line × StandsAsTold setup (May c) turns whole c line
  stands c below =
      let at = run.cpus_are (length run.steps) enough c below in
      let one = lawful.gone c at.0 in (
        one.0,
        one.1,
        record {
          cpu_local = one.2.last;
          at = at.1;
          trace = one.2.trace_is;
          rests = ap (λ (l : List (Action Name)). is_in_section (phase c l)) log_is ∙ one.2.rests;
          stop = one.2.stop_is;
        },
      )

  left : AreLeft setup whole.log r
  left = record {
    buffers = λ b. lawful.left.buffers b ∙ ap (block_at setup (AtBuffer b)) (sym log_is);
    queues = λ c below. lawful.left.queues c below ∙ ap (block_at setup (Pending c)) (sym log_is);
  }

  pub is_run : IsReportOfRun setup May turns r
  is_run = record {
    schedule = run.steps;
    known = run.known;
    taken = run.taken_is (length run.steps) enough;
    reached = reached_after setup (length run.steps) run.steps (whole_at_boot setup (length run.steps)) run.known boots;
    traces = same_lists r.traces (map (λ (p : CpuLocal). p.trace) whole.cpus) (lawful.report.traces_count ∙ sym traces_long) read_alike;
    stands = stands;
    left = left;
  }

pub reports_are_runs : (May : CpuId → Go → ℕ → Type 0) → ReportsAreRuns May
reports_are_runs May setup turns r lawful = is_run setup May turns r lawful
