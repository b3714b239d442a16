use Rattle.std.proofs.Common.{rules, ◌≡◌, ◌≢◌, ◌∙◌, List, ap, sym, subst, refl, true, false, Option, Some, inl, inr, ◌⊎◌, None, if◌then◌else◌, IsSome}
use Rattle.std.proofs.Common.{slice_set, arith}
use Rattle.fifo_buffer.proofs.fifo.FifoCallLayerBufferLaw.poll_kind.Goals.{else-first-via-then-first+else-polled}
use Rattle.fifo_buffer.proofs.fifo.FifoCallLayerBufferLaw.poll_kind.Goals.{else-first-via-then-first+then-polled+else-polled-2, Start, Joined-stage}
use Rattle.fifo_buffer.proofs.fifo.FifoCallLayerBufferLaw.poll_kind.Goals.{After-complete, in-Idle, in-Enters, in-Tries, in-Waits, in-AcquiresAgain, in-Signals}
use Rattle.fifo_buffer.proofs.fifo.FifoCallLayerBufferLaw.poll_kind.{Goals.{in-SignalsOwn, in-Releases, else-first-via-else-first}, Given.Over}
use Rattle.fifo_buffer.proofs.{Parts.{framed_over, moves_grown, other_part}, Chains.{follows_for, one_follows, two_follows}, CallPolls.{called_by, poll_done}}
use Rattle.fifo_buffer.proofs.CallPolls.{others_after, acquires_at, first_may, goes_called, apart_call_state, ended_of, next_going, completes_as, exit_free}
use Rattle.fifo_buffer.proofs.CallPolls.{marks_of, later_effect, next_may, other_call_state, sizes_of, why_nothing_done, why_slept, runs_home}
use Rattle.fifo_buffer.specs.{declared.fifo.{Fifo.Fifo, SectionPoll.SectionPoll}, SectionPolls.{FitsAt, MayPollSection, SectionPolled, is_at_once}}
use Rattle.{fifo_buffer.specs.{Laws.OwnedLaws.block_there, Stances.called_at}, event_log.specs.declared.ids.{CpuId.CpuId, LockId.TheVariants.Buffer, Tid.Tid}}
use Rattle.layer_traits.specs.{declared.{calls.{Call.Call, Reply.Reply}, call_states.{Stage.Stage, CallState.CallState}}, Layers.BufferLaw.Buffering}
use Rattle.layer_traits.specs.Layers.{BufferLaw.{answer_in, buffer_of, buffering, fifo_plan, going, stage_plan, replied, call_state_of}, QLockLaw.is_handed}
use Rattle.layer_traits.specs.{Layers.{QLockLaw.slept_for, QLocking.{lock_moves, lock_rules}, Queues.buffer_sections}, Blocks.BufferProtocol.buffer_rules}
use Rattle.layer_traits.specs.{Blocks.{QueueRules.queue_rules, QueueBlocks.{homes_in, inner}}, Polling.{Framed.Framed, Plans.{Follows, Left, table_of}}}
use Rattle.{layer_traits.specs.Threads.Places.home_of, thread_blocks.specs.Queues.same_tid}
use Rattle.fifo_buffer.proofs.fifo.FifoCallLayerBufferLaw.poll_kind.Goals as goal

-- what is known when the poll begins
module _ (g : Over) (c : Start g) where
  open g.C.ThreadLayer use {cpu_of, opening, local, history, under_way}

  home : home_of (homes_in (opening c.args.m.now)) c.args.t ≡ Some (cpu_of c.args.self.now.lower)
  home = grind (arith, runs_home)

  there : IsSome (opening c.args.m.now (Buffer (buffer_of c.args.call.now)))
  there = block_there (opening c.args.m.now) c.requires.coupled.1.boots (buffer_of c.args.call.now) c.requires.there

pub sections-init : goal.sections-init
sections-init g c =
    let C = g.C.ThreadLayer in
    let m = c.args.m.now in
    let p = c.args.self.now in
    let first = first_may (homes_in (C.opening m)) (C.cpu_of p.lower) (inner (C.opening m)) (buffer_sections (C.history m)) (C.local p.lower)
    p.call_states.call_states (C.under_way p.lower) p.calling c.args.t c.args.call.now (home g (goal.at.sections-init g c).Start)
    c.requires.coupled.1.calls c.requires.runs c.requires.hand c.requires.same c.requires.goes_on in
    record {
      still = refl;
      there = there g (goal.at.sections-init g c).Start;
      coupled = c.requires.coupled.0;
      cpu = refl;
      on = record {
        may = first.0;
        others = first.1;
        sizes = c.requires.coupled.1.sizes;
        ended = refl;
        effect = refl;
        apart = λ u other. refl;
      };
      begins = λ w. refl {a = buffering (C.local p.lower) p.call_states.call_states};
      follows = λ w. absurd cc;
    }

-- what one section did, of a call at a stage
module _ (g : Over) (t : Tid) (call : Call) (p p1 : Fifo g.row.C.Denot) (m m1 : g.row.C-Machine.Denot) (cpu : CpuId) (stage : Stage)
    (report : SectionPoll) where
  open g.C.ThreadLayer use {ActsFor, Coupled, IsStepwise, MayHold, acts, cpu_of, opening, local, room, history, machine_id, under_way}

  -- the call states before and after it, and the one with which the call continued
  abbrev before : List CallState
  before = p.call_states.call_states

  abbrev after : List CallState
  after = p1.call_states.call_states

  abbrev goes : CallState
  goes = going (call_state_of before t) call

  record Did : Type 0 where
    at_once : report.at_once ≡ is_at_once stage (is_handed (local p.lower).lock.slept (local p.lower).lock.sleep.threads.current)
    section_polled : SectionPolled (homes_in (opening m)) (λ d. ActsFor m d) (inner (opening m)) cpu t call goes (history m) (history m1) (local p.lower)
        (local p1.lower)
        (under_way p1.lower) report.ended (call_state_of after t)
    call_states : after ≡ slice_set before t.0 (call_state_of after t)
    woken : IsSome (slept_for (local p.lower).waits t) → m1 ≡ m
    handed : IsSome (slept_for (local p.lower).lock.slept t) → m1 ≡ m
    framed : Framed (λ q k. Coupled q k) (λ q. cpu_of q) (λ k. opening k) (λ k. machine_id k) (λ k. room k) (λ k d. ActsFor k d) (λ k d. MayHold k d)
        p.lower p1.lower m m1
    follows : IsStepwise → Follows (λ d. ActsFor m d) (table_of (queue_rules (lock_rules buffer_rules) (lock_moves buffer_rules))) (opening m) cpu
        (stage_plan (homes_in (opening m)) cpu t call goes.stage goes (buffering (local p.lower) before)) (acts m) (acts m1)
        (record { local = buffering (local p1.lower) after; answer = if report.ended then replied call goes goes.stage else None })

module _ (g : Over) (c : Joined-stage g) where
  abbrev states : List CallState
  states = c.sections.self.call_states.call_states

  abbrev states1 : List CallState
  states1 = c.match-stage.self.call_states.call_states

  in_call : called_at (going (call_state_of states c.args.t) c.args.call.now).stage ≡ true
  in_call = grind (arith, goes_called)

  -- what a section did at the machine with which it began it did at the one with which the poll
  -- began
  did_at : {l : Fifo g.row.C.Denot} {n : g.row.C-Machine.Denot} {r : SectionPoll} {at : Stage} → c.match-stage.self ≡ l → c.match-stage.m ≡ n
      → c.match-stage.polled ≡ r → at ≡ c.next_stage-stage.result
      → Did g c.args.t c.args.call.now c.sections.self l c.sections.m n (g.C.ThreadLayer.cpu_of c.sections.self.lower) at r
      → Did g c.args.t c.args.call.now c.sections.self c.match-stage.self c.args.m.now c.match-stage.m (g.C.ThreadLayer.cpu_of c.args.self.now.lower)
      (going (call_state_of c.sections.self.call_states.call_states c.args.t) c.args.call.now).stage c.match-stage.polled
  did_at self_is m_is report_is stage_is did =
      rw (self_is, m_is, report_is) (rw (c.sections.invariant.still, c.sections.invariant.cpu, stage_is ∙ c.next_stage-stage.ensures) at did)

  did : Did g c.args.t c.args.call.now c.sections.self c.match-stage.self c.args.m.now c.match-stage.m (g.C.ThreadLayer.cpu_of c.args.self.now.lower)
      (going (call_state_of c.sections.self.call_states.call_states c.args.t) c.args.call.now).stage c.match-stage.polled
  did = let stage_is = c.next_stage-stage.ensures in elim c.match-stage.branch [
    | in-Idle w ↦ (let e = w.poll_section-polled.ensures in
        did_at w.self-is w.m-is w.polled-is (acquires_at stage_is in_call w.in-Idle.is ∙ sym stage_is) (search rules))
    | in-Enters w ↦ (let e = w.poll_section-polled-in-Enters.ensures in did_at w.self-is w.m-is w.polled-is (sym w.in-Enters.is) (search rules))
    | in-Tries w ↦ (let e = w.poll_section-polled-in-Tries.ensures in did_at w.self-is w.m-is w.polled-is (sym w.in-Tries.is) (search rules))
    | in-Waits w ↦ (let e = w.poll_section-polled-in-Waits.ensures in did_at w.self-is w.m-is w.polled-is (sym w.in-Waits.is) (search rules))
    | in-AcquiresAgain w ↦ (let e = w.poll_section-polled-in-AcquiresAgain.ensures in
        did_at w.self-is w.m-is w.polled-is (sym w.in-AcquiresAgain.is) (search rules))
    | in-Signals w ↦ (let e = w.poll_section-polled-in-Signals.ensures in did_at w.self-is w.m-is w.polled-is (sym w.in-Signals.is) (search rules))
    | in-SignalsOwn w ↦ (let e = w.poll_section-polled-in-SignalsOwn.ensures in did_at w.self-is w.m-is w.polled-is (sym w.in-SignalsOwn.is) (search rules))
    | in-Releases w ↦ (let e = w.poll_section-polled-in-Releases.ensures in did_at w.self-is w.m-is w.polled-is (sym w.in-Releases.is) (search rules))
  ]

  same : (u : Tid) → same_tid c.args.t u ≡ false → call_state_of states1 u ≡ call_state_of states u
  same u other = other_call_state states states1 c.args.t u (call_state_of states1 c.args.t) did.call_states other

  apart : (u : Tid) → u.0 ≢ c.args.t.0 → call_state_of states1 u ≡ call_state_of c.args.self.now.call_states.call_states u
  apart u other = apart_call_state states states1 c.args.t u (call_state_of states1 c.args.t) did.call_states other ∙ c.sections.invariant.on.apart u other

-- a section that was over without an action is followed by the next one
pub sections-preserved : goal.sections-preserved
sections-preserved g c =
    let C = g.C.ThreadLayer in
    let at = goal.at.sections-preserved g c in
    let m = c.args.m.now in
    let cpu = C.cpu_of c.args.self.now.lower in
    let t = c.args.t in
    let call = c.args.call.now in
    let homes = homes_in (C.opening m) in
    let O = inner (C.opening m) in
    let before = c.sections.invariant in
    let states = c.sections.self.call_states.call_states in
    let states1 = c.match-stage.self.call_states.call_states in
    let p1 = c.match-stage.self.lower in
    let m1 = c.match-stage.m in
    let did = did g at.Joined-stage in
    let goes = going (call_state_of states t) call in
    let later = call_state_of states1 t in
    let handed = is_handed (C.local c.sections.self.lower).lock.slept (C.local c.sections.self.lower).lock.sleep.threads.current in
    let at_once = sym did.at_once ∙ c.if-polled-2.true in
    let called = before.on.may.called in
    let next = next_going did.section_polled handed c.if-polled.true at_once called in
    let still : m1 ≡ m = elim (why_nothing_done did.section_polled handed c.if-polled.true at_once called before.on.may.current refl)
    [ inl some ↦ did.woken some | inr some ↦ did.handed some ] in
    record {
      still = still;
      there = rw still (there g at.Start);
      coupled = did.framed.coupled;
      cpu = did.framed.cpu ∙ before.cpu;
      on = record {
        may = subst (λ x. MayPollSection O (buffer_sections (C.history x)) t call (going later call) (C.local p1) (C.under_way p1)) still
            (subst (λ (x : CallState). MayPollSection O (buffer_sections (C.history m1)) t call x (C.local p1) (C.under_way p1)) (sym next)
            (next_may did.section_polled handed c.if-polled.true at_once called));
        others = subst (λ x. (u : Tid) → home_of homes u ≡ Some cpu → same_tid t u ≡ false
            → FitsAt O (buffer_sections (C.history x)) (C.local p1) states1 u) still
            (others_after did.section_polled (home g at.Start) called states states1 refl (same g at.Joined-stage) before.on.others);
        sizes = sizes_of did.section_polled states states1 did.call_states before.on.sizes;
        ended = did.section_polled.ended ∙ before.on.ended;
        effect = ap (λ (x : CallState). x.effect) next ∙ later_effect did.section_polled handed c.if-polled.true at_once called ∙ before.on.effect;
        apart = apart g at.Joined-stage;
      };
      begins = λ w. absurd cc;
      follows = λ w stepwise new got second.
          let Acts0 : CpuId → Type 0 = λ d. C.ActsFor m d in
          let table = table_of (queue_rules (lock_rules buffer_rules) (lock_moves buffer_rules)) in
          let end = ended_of did.section_polled c.if-polled.true in
          let own1 = buffering (C.local p1) states1 in
          let second1 = subst (λ (x : CallState). Follows Acts0 table (C.opening m) cpu (stage_plan homes cpu t call x.stage x own1) (C.acts m) new got) next
          second in
          subst (λ (o : Buffering). Follows Acts0 table (C.opening m) cpu (fifo_plan homes cpu t call o) (C.acts m) new got)
          (before.begins c.if-first.true)
          (two_follows Acts0 table (C.opening m) cpu homes t call goes.stage goes (buffering (C.local c.sections.self.lower) states) (C.acts m) (C.acts m1) new
          (record { local = own1; answer = if c.match-stage.polled.ended then replied call goes goes.stage else None }) got handed end.recorded_is.0
          at_once end.recorded_is.1 (λ w. sym (did.section_polled.over w) ∙ c.if-polled.true)
          (why_slept t goes.stage (C.local c.sections.self.lower) handed at_once
          (marks_of O (buffer_sections (C.history m)) t call goes (C.local c.sections.self.lower) (C.under_way c.sections.self.lower) before.on.may.goes)
          before.on.may.current refl) end.free.0 end.free.1 (did.follows stepwise)
          (subst (λ log. Follows Acts0 table (C.opening m) cpu (stage_plan homes cpu t call later.stage later own1) log new got)
          (sym (ap C.acts still)) second1));
    }

-- the poll's last section
module _ (g : Over) (c : After-complete g) where
  abbrev joined : Joined-stage g
  joined = (goal.at.returns-in-sections g c).Joined-stage

  -- the call state with which it continued
  abbrev went : CallState
  went = going (call_state_of c.sections.self.call_states.call_states c.args.t) c.args.call.now

  abbrev answer : Option Reply
  answer = answer_in c.match-stage.self.call_states.call_states c.args.t c.complete.result

  replies : answer ≡ (if c.match-stage.polled.ended then replied c.args.call.now went went.stage else None)
  replies = completes_as (did g joined).section_polled c.next_stage-stage.result c.next_stage-stage.ensures answer c.complete.ensures.answer

  opens : g.C.ThreadLayer.opening c.match-stage.m ≡ g.C.ThreadLayer.opening c.args.m.now
  opens = (did g joined).framed.stays.opening

-- what the whole poll did
pub returns-in-sections : goal.returns-in-sections
returns-in-sections g c =
    let C = g.C.ThreadLayer in
    let m = c.args.m.now in
    let m1 = c.match-stage.m in
    let cpu = C.cpu_of c.args.self.now.lower in
    let before = c.sections.invariant in
    let did = did g (joined g c) in
    let states = c.sections.self.call_states.call_states in
    let states1 = c.match-stage.self.call_states.call_states in
    let polled = did.section_polled in
    record {
      nothing = λ none. let there = c.requires.there in absurd (omega (arith, none, there));
      called = λ there.
          rw (opens g c, c.complete.ensures.call_states)
          (called_by polled (home g (goal.at.returns-in-sections g c).Start) before.on.may.called states states1 refl (same g (joined g c))
          _ (λ d both. both.0) c.args.self.now.call_states.call_states before.on.effect (apart g (joined g c))
          (in_call g (joined g c)) (answer g c) (replies g c));
      runs = search rules;
      under_way = search rules;
      moves = rw (opens g c) (moves_grown (C.opening m) (λ d. C.ActsFor m d) _ cpu polled.mine polled.others (C.history m) (C.history m1) (λ d both. both.0)
          polled.foreign polled.own_events polled.is);
      prompt = λ whole. absurd whole;
      framed =
          let law = g.met.C.ThreadLayer in
          let lawful = rw (opens g c) at (law.lawful m1 cpu (did.framed.stays.acts cpu (law.own_cpu c.args.self.now.lower m c.requires.coupled.0))) in
          framed_over _ did.framed before.cpu c.complete.ensures.lower
          (rw (c.complete.ensures.lower, c.complete.ensures.call_states, c.complete.ensures.calling, (opens g c), did.framed.cpu ∙ before.cpu)
          (record {
            boots = c.requires.coupled.1.boots;
            sizes = sizes_of polled states states1 did.call_states before.on.sizes;
            calls = poll_done polled (home g (goal.at.returns-in-sections g c).Start) before.on.may.called states states1 refl (same g (joined g c))
                before.on.others
                (answer g c) (replies g c);
          }))
          (λ q other coupled part. rw (opens g c)
          (other_part (C.opening m) cpu (C.cpu_of q.lower) other polled.mine polled.others (C.history m) (C.history m1) polled.own_events
          (polled.foreign (C.cpu_of q.lower) (law.own_cpu q.lower m coupled)) polled.is lawful part));
      follows = λ stepwise.
          let p = c.args.self.now in
          let t = c.args.t in
          let call = c.args.call.now in
          let homes = homes_in (C.opening m) in
          let O = inner (C.opening m) in
          let went = went g c in
          let Acts0 : CpuId → Type 0 = λ d. C.ActsFor m d in
          let table = table_of (queue_rules (lock_rules buffer_rules) (lock_moves buffer_rules)) in
          let got : Left Buffering Reply = record {
            local = buffering (C.local c.match-stage.self.lower) states1;
            answer = if c.match-stage.polled.ended then replied call went went.stage else None;
          } in
          let handed = is_handed (C.local c.sections.self.lower).lock.slept (C.local c.sections.self.lower).lock.sleep.threads.current in
          let marks = marks_of O (buffer_sections (C.history m)) t call went (C.local c.sections.self.lower) (C.under_way c.sections.self.lower)
          before.on.may.goes in
          let alone : c.sections.first ≡ true
          → ((c.match-stage.polled.ended ≡ true) × (is_at_once went.stage handed ≡ false)) ⊎ (c.match-stage.polled.ended ≡ false)
          → Follows Acts0 table (C.opening m) cpu (fifo_plan homes cpu t call (buffering (C.local p.lower) p.call_states.call_states)) (C.acts m) (C.acts m1)
          got
          = λ is exits.
          let free = exit_free polled handed marks exits before.on.may.current refl in
          subst (λ (o : Buffering). Follows Acts0 table (C.opening m) cpu (fifo_plan homes cpu t call o) (C.acts m) (C.acts m1) got) (before.begins is)
          (one_follows Acts0 table (C.opening m) cpu homes t call went.stage went
          (buffering (C.local c.sections.self.lower) states) (C.acts m) (C.acts m1) got (in_call g (joined g c)) free.0 free.1 (did.follows stepwise)) in
          let done : Follows Acts0 table (C.opening m) cpu (fifo_plan homes cpu t call (buffering (C.local p.lower) p.call_states.call_states)) (C.acts m)
          (C.acts m1) got = elim c.else-first.branch [
            | else-first-via-then-first+then-polled+else-polled-2 w ↦ alone w.if-first.true (inl (w.if-polled.true, sym did.at_once ∙ w.if-polled-2.false))
            | else-first-via-then-first+else-polled w ↦ alone w.if-first.true (inr w.if-polled.false)
            | else-first-via-else-first w ↦ before.follows w.if-first.false stepwise (C.acts m1) got (did.follows stepwise)
          ] in
          rw (c.complete.ensures.lower, c.complete.ensures.call_states, (replies g c)) (follows_for Acts0 _ (λ d both. both.0) table (C.opening m) cpu
          (fifo_plan homes cpu t call (buffering (C.local p.lower) p.call_states.call_states)) (C.acts m) (C.acts m1) got done);
    }
