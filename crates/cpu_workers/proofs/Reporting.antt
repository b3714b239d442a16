-- From the workers whose threads were joined and the closed table to the lawful report.
use Rattle.std.{proofs.Common.{◌≡◌, ℕ, ◌+◌, ◌<◌, false, List, ◌++◌, length, refl, ap, sym, ◌∙◌, subst, arith}, specs.Prelude.Option}
use Rattle.cpu_workers.proofs.{TableOrder.{goes_on, traces_ordered, other_cpus_rest, Goes}, Turning.{took_of, within_others}, ClosedLog.acts_legal}
use Rattle.cpu_workers.proofs.{ClosedLog.{buffers_left, queues_left, buffer_opens, sections_proper, opening_starts}, Lasting.all_ended, OneOrder.HasOrder}
use Rattle.cpu_workers.{proofs.{OneOrder.trace_in, Prefixes.{effects_so, is_front, proper_before}, TableTraces.total}, specs.declared.workers.gates.Go.Go}
use Rattle.cpu_workers.specs.{declared.workers.{gates.Go.TheVariants.Limit, stops.Stop.Stop}, Lawful.{AreLeft, HasGone, IsLawfulReport, IsCpuReportOf}}
use Rattle.cpu_workers.specs.{Lawful.{IsReport, CpuReport, ReportView, ReportsTrue, left_in, held_at}, Logs.IsReportOfWords, Orders.FollowsProgram}
use Rattle.cpu_workers.specs.{Orders.{effects_of, IsTraceOf}, Working.Charge, Closing.{HasSeen, IsReported, Key, LockBlock, ReportsAreLawful, acts_in}}
use Rattle.cpu_workers.specs.{Closing.seen_above, Reports.{IsTrueStop, TookWithin, WentBy}, Seating.{HasLeft, IsApart}}
use Rattle.event_log.specs.{declared.{entries.Entry.Entry, ids.{CpuId.CpuId, LockId.{LockId, TheVariants.{Pending, Buffer as AtBuffer}}}}, Actions.Action}
use Rattle.event_log.{specs.{Actions.{cpu_of_action, phase, renamed}, History.AreOthers, Sections.sections_in}, proofs.Foreign.{own_none, phase_others}}
use Rattle.event_log.proofs.{Streams.taken_put, Renaming.{legal_renamed, others_renamed}, Same.same_cpu_self}
use Rattle.layer_traits.specs.{declared.queue_edits.QueueBlock.QueueBlock, Polling.Plans.is_in_section, Protocols.OneLock.opened, Blocks.QueueRules.AreProper}
use Rattle.{layer_traits.proofs.PlanRenaming.map-append, table_machine.specs.SeatViews.TableView, cpu.specs.{Claims.{buffer_at, listed}, Cpus.of_cpu}}
use Rattle.cpu.specs.{Table.{Blocks.Name, Setups.{SystemConfig, boot_of}, Steps.{cpu_step, halted_at}}, Tower.{Composed.named, Views.{TowerName, name_of}}}
use Rattle.cpu.{specs.{Tower.Views.TowerBlock, Wakeups.Lost.IsWorked, Sound.setup_for}, proofs.StepTable.TableQuiet.ended_at}
use Rattle.{cpu.proofs.Wakeups.CpusByTable.cpus_lose_no_wake_up, boot.specs.Plan.BootPlan}
use Rattle.layer_traits.specs.declared.steps.Reason.TheVariants as reason

-- What a worker of a plan left is what its CPU did along what it has seen.
module _ {plan : BootPlan} {May : CpuId → Go → ℕ → Type 0} {turns : ℕ} {c : CpuId} {acts : List (Action TowerName)} {machine_id : List ℕ} (line : CpuReport)
    (left : HasLeft plan May turns c acts machine_id line.trace line.taken line.stop) where
  abbrev setup : SystemConfig
  setup = setup_for plan

  same : left.last.cpu ≡ c
  same = left.ran.same.cpu ∙ left.at_boot.cpu_is

  -- how it went, from boot on
  went : WentBy setup (May c) turns (record left.first { cpu = c; cpu_local = boot_of setup c }) left.last line.taken line.stop
  went = rw (← left.at_boot.boots) (rw (← left.at_boot.cpu_is) (left.ran.went setup left.at_boot.planned))

  -- its state, with its charge by the plan
  abbrev charge : Charge
  charge = record { homes = setup.homes; caps = setup.caps; programs = left.first.plan.programs; limit = setup.trace_room }

  charged : left.last.plan ≡ charge
  charged = left.ran.same.plan ∙ (λ i. record {
    homes = sym left.at_boot.planned.homes_are i;
    caps = sym left.at_boot.planned.caps_are i;
    programs = left.first.plan.programs;
    limit = sym left.at_boot.planned.room_is i;
  })

  apart : IsApart (record left.last { cpu = c; plan = charge }) acts machine_id line.trace
  apart = rw (← same) (rw (← charged) left.apart)

  history : HasSeen setup (May c) turns c left.last.acts (record line { trace = left.last.cpu_local.trace })
  history = record {
    last = left.last.cpu_local;
    took = went.took;
    within = went.within;
    held = went.held;
    asked = went.asked;
    used = went.used;
    rests = subst (λ (d : CpuId). is_in_section (phase d (named left.last.acts)) ≡ false) same left.ran.rests;
    stop_is = went.stop_is;
    trace_is = refl;
    local = apart.local;
    legal = apart.legal;
    room = apart.follows.room;
    stays = apart.follows.stays;
    follows = λ t home. let there = apart.follows.homed t home in
        rw (left.at_boot.planned.programs_are t there.0 there.1) (apart.follows.follows t there.0 there.1);
  }

  pub has_seen : HasSeen (setup_for plan) (May c) turns c acts line
  has_seen =
      rw left.apart.acts_are (rw left.apart.trace_is history)

-- The report.

module _ (setup : SystemConfig) (May : CpuId → Go → ℕ → Type 0) (turns : ℕ) (table_view : TableView (QueueBlock LockBlock)) (keys : List Key)
    (blocks : List (LockId × QueueBlock LockBlock)) (r : ReportView) (it : IsReported setup May turns table_view keys blocks r) where
  open it use {starts as so, come, closes}

  abbrev acts : List (Action TowerName)
  acts = acts_in closes.log

  -- others' actions under the table's names
  abbrev renamed_others : (c : CpuId) (more : List (Action TowerName)) → AreOthers cpu_of_action c more → AreOthers cpu_of_action c (named more)
  renamed_others c more others = others_renamed name_of c more others

  gone_so : (c : CpuId) (past : List (Action TowerName)) (line : CpuReport) → Goes acts past c → HasSeen setup (May c) turns c past line
      → HasGone setup (May c) turns c (named acts) line
  gone_so c past line goes history = record {
    last = history.last;
    trace_is = history.trace_is;
    took = took_of (on history.within);
    within = on history.within;
    held = λ is. let held = history.held is in record {
      turn = held.turn;
      before = held.before;
      may = held.may;
      count = held.count;
      counted = held.counted;
      within = on held.within;
    };
    asked = history.asked;
    used = history.used;
    rests = ap (λ l. is_in_section (phase c l)) log_is ∙ ap is_in_section (phase_others c (named goes.more) (named past) theirs) ∙ history.rests;
    stop_is = history.stop_is;
  }
    where
      log_is : named acts ≡ named goes.more ++ named past
      log_is = ap named goes.is ∙ map-append (renamed name_of) goes.more past

      theirs : AreOthers cpu_of_action c (named goes.more)
      theirs = renamed_others c goes.more goes.others

      on : {Goes : ℕ → Type 0} → TookWithin (cpu_step setup c) c Goes (boot_of setup c) history.last (named past) line.taken
          → TookWithin (cpu_step setup c) c Goes (boot_of setup c) history.last (named acts) line.taken
      on {Goes} took = record {
        count = took.count;
        steps = rw log_is (within_others (named goes.more) theirs took.steps);
        counted = took.counted;
      }

  gone : (c : CpuId) → c.0 < setup.cpus → (line : CpuReport) × IsCpuReportOf r c line × HasGone setup (May c) turns c (named acts) line
  gone c within =
      let one = come.each c within in
      (one.1, one.4, gone_so c (acts_in one.0.history) one.1 (goes_on setup table_view so keys blocks closes c one.0 one.2 one.3) one.5)

  left : AreLeft setup (named acts) r
  left = record {
    buffers = λ b. ap (λ f. f (AtBuffer b)) it.told ∙ buffers_left setup table_view so closes.log closes.legal blocks closes.count closes.blocks_are b;
    queues = λ c within. ap (λ f. f (Pending c)) it.told
        ∙ queues_left setup table_view so closes.log closes.legal blocks closes.count closes.blocks_are c within;
  }

  worked : IsWorked setup (named acts)
  worked = record {
    ran = λ c within. let one = gone c within in record { count = one.2.took.count; last = one.2.last; steps = one.2.took.steps };
    rest = λ c beyond. own_none cpu_of_action c (named acts)
        (renamed_others c acts (other_cpus_rest setup table_view so keys blocks closes c beyond));
  }

  -- What the report states of a CPU.

  told : (c : CpuId) (acts_seen : List (Action TowerName)) (line : CpuReport) → HasSeen setup (May c) turns c acts_seen line
      → ReportsTrue setup (May c) turns c line
  told c acts_seen line history = record {
    room = history.room;
    stays = history.stays;
    calls = λ t home. let follows = history.follows t home in (follows.state, follows.calls);
    ended = λ is t home. let follows = history.follows t home in
        let zero_plus : 0 + t.0 ≡ t.0 = omega arith in
        record {
          state = follows.state;
          calls = follows.calls;
          ends = follows.ends (rw zero_plus at (ended_at history.last c setup.homes 0 t.0 c home (same_cpu_self c)
              (all_ended setup c history.last (rw is at history.stop_is))));
        };
    used = λ is. (subst (λ (s : Stop). IsTrueStop (halted_at setup c history.last) (May c Limit) turns line.taken s) is history.stop_is).1;
    held = λ is. (subst (λ (s : Stop). IsTrueStop (halted_at setup c history.last) (May c Limit) turns line.taken s) is history.stop_is).1;
  }

  -- The order.

  -- the traces have one order, that of the effects of the list
  in_order : HasOrder setup.caps r.traces (effects_of setup.caps acts) (left_in (length setup.caps) r)
  in_order =
      subst (λ f. HasOrder setup.caps r.traces (effects_of setup.caps acts) (listed (λ b. held_at f (buffer_at b)) 0 (length setup.caps))) (sym it.told)
      (traces_ordered setup table_view so keys blocks closes r.traces come.traces (λ c within. let one = come.each c within in record {
        key = one.0;
        trace = one.1.trace;
        key_at = one.2;
        cpu_is = one.3;
        trace_at = one.4.trace;
        local = one.5.local;
        room = one.5.room;
      }))

  report : IsReport setup May turns r
  report = record {
    traces_count = come.traces;
    taken_count = come.taken;
    stops_count = come.stops;
    order = in_order.order;
    keeps = in_order.keeps;
    run = in_order.run;
    fifo = taken_put setup.caps in_order.order (left_in (length setup.caps) r) in_order.run;
    each = λ c within. let one = come.each c within in (one.1, one.4, told c (acts_in one.0.history) one.1 one.5);
  }

  -- the report is lawful
  pub lawful : IsLawfulReport setup May turns r
  lawful = record {
    report = report;
    log = named acts;
    legal = legal_renamed name_of acts (acts_legal setup table_view so closes.log closes.legal);
    gone = gone;
    rest = worked.rest;
    left = left;
    awake = λ b k is. cpus_lose_no_wake_up setup (named acts) worked b k (sym (left.buffers b) ∙ is);
  }

  -- The order of the atomic steps.

  abbrev above : LockId → Option TowerBlock
  above = seen_above (opened table_view.start)

  ends : (c : CpuId) (within : c.0 < setup.cpus) → IsTraceOf c setup.caps acts (worked.ran c within).last.trace
  unfolding worked gone gone_so
  ends c within =
      let one = come.each c within in
      let goes = goes_on setup table_view so keys blocks closes c one.0 one.2 one.3 in
      sym one.5.trace_is ∙ trace_in setup.caps c goes.more (acts_in one.0.history) acts one.1.trace goes.is goes.others one.5.local

  many : (c : CpuId) (later earlier : List (Action TowerName)) → acts ≡ later ++ earlier
      → length (of_cpu c (effects_of setup.caps earlier)) ≡ total setup c (named earlier)
  many c later earlier is =
      effects_so setup above (opening_starts setup table_view so closes.log closes.legal) so.locks (buffer_opens setup table_view so closes.log closes.legal) c
      earlier (proper_before later earlier (subst (λ l. AreProper (sections_in l)) is (sections_proper setup table_view so closes.log closes.legal)))

  -- and it is that of the closed table's words log, in the order of whose actions the calls are
  -- linearizable
  pub of_words : IsReportOfWords setup May turns closes.log r
  unfolding lawful report
  of_words = record { report = lawful; log_is = refl; order_is = in_order.is; linear = is_front setup acts worked ends many }

pub report_is_lawful : (May : CpuId → Go → ℕ → Type 0) → ReportsAreLawful May
report_is_lawful May setup turns table_view keys blocks r it = lawful setup May turns table_view keys blocks r it
