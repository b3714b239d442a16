use Rattle.std.proofs.{Common.{◌≡◌, ◌∙◌, ap, arith, inl, inr, sym}, lemmas.List.get_or-set_same}
use Rattle.fifo_buffer.proofs.{Callers.{monitored, Caller}, CallPolls.{recorded_left, runs_awake, runs_home}, OtherSteps.caller_is, Polls.may_poll_section}
use Rattle.fifo_buffer.{proofs.ConditionPolls.polled_section, specs.SectionPolls.{outcome_of, recorded_if}}
use Rattle.{event_log.specs.declared.ids.LockId.TheVariants.Buffer, layer_traits.specs.Layers.BufferLaw.{buffer_of, going, left_recorded, plan_beneath}}
use Rattle.layer_traits.specs.Layers.{BufferLaw.{no_call, section_at, call_state_of}, QLocking.{lock_caller, lock_moves, lock_rules}}
use Rattle.layer_traits.specs.Blocks.{BufferProtocol.buffer_rules, Payloads.abstract_result, QueueBlocks.homes_in, QueueRules.queue_rules}
use Rattle.layer_traits.{specs.Polling.Plans.table_of, proofs.{CallLemmas.follows_raised, ToldLemmas.told_some}}
use Rattle.layer_traits.specs.declared.moves.WaitList.TheVariants as wait_list
use Rattle.fifo_buffer.proofs.fifo.Fifo.poll_section.Goals as goal

pub poll-answer-requires-clause-call : goal.poll-answer-requires-clause-call
poll-answer-requires-clause-call g c =
    let C = g.C.ThreadLayer in
    let law = g.met.C.ThreadLayer in
    let m = c.args.m.now in
    let p = c.args.self.now.lower in
    let cpu = C.cpu_of p in
    let acts = law.own_cpu p m c.requires.coupled in
    let home = runs_home (C.opening m) cpu (C.history m) (C.local p).lock.sleep.threads c.args.t (law.moves_legal m cpu acts)
    (law.stands p m c.requires.coupled).stands c.requires.may.current in
    let edit_is = c.section-edit.ensures ∙ ap (section_at c.args.t c.args.call.now) c.requires.stage in
    rw (edit_is, c.buffer-buffer.ensures) (may_poll_section (C.opening m) cpu c.args.t home c.args.call.now
    (going (call_state_of c.args.self.now.call_states.call_states c.args.t) c.args.call.now) (C.history m) (C.local p) (C.under_way p) c.requires.may)

pub returns-clause-section_polled : goal.returns-clause-section_polled
returns-clause-section_polled g c =
    let C = g.C.ThreadLayer in
    let law = g.met.C.ThreadLayer in
    let m = c.args.m.now in
    let p = c.args.self.now.lower in
    let cpu = C.cpu_of p in
    let t = c.args.t in
    let call = c.args.call.now in
    let call_state = going (call_state_of c.args.self.now.call_states.call_states t) call in
    let acts = law.own_cpu p m c.requires.coupled in
    let legal = law.moves_legal m cpu acts in
    let agree = law.stands p m c.requires.coupled in
    let stands = agree.stands in
    let home = runs_home (C.opening m) cpu (C.history m) (C.local p).lock.sleep.threads t legal stands c.requires.may.current in
    let awake = runs_awake (C.opening m) cpu (C.history m) (C.local p).lock.sleep.threads t legal stands c.requires.may.current
    agree.lists (Buffer (buffer_of call)) wait_list.Sleepers in
    let lawful = rw c.poll-answer.ensures.framed.stays.opening at (law.lawful c.poll-answer.new.m cpu (c.poll-answer.ensures.framed.stays.acts cpu acts)) in
    let small = c.requires.known in
    let size = c.requires.sizes.call_states_are in
    let abstract_answer = abstract_result outcome_of c.poll-answer.result c.poll-answer.new.payload.message_slot in
    let later : call_state_of c.record_answer-ended.new.self.call_states t ≡ recorded_if call_state call_state.stage abstract_answer
    = ap (λ call_states. call_state_of call_states t) (rw c.requires.stage at c.record_answer-ended.ensures.call_states)
    ∙ get_or-set_same c.args.self.now.call_states.call_states t.0
    (recorded_if call_state call_state.stage abstract_answer) no_call (omega (arith, small, size)) in
    let edit_is = c.section-edit.ensures ∙ ap (section_at t call) c.requires.stage in
    let history = rw (edit_is, c.buffer-buffer.ensures) at c.poll-answer.ensures.history in
    let still = rw edit_is at c.poll-answer.ensures.still in
    let caller : Caller = record {
      opening = C.opening m;
      ActsFor = λ d. C.ActsFor m d;
      c = cpu;
      acts = acts;
      t = t;
      home = home;
      small = small;
      call = call;
      local = C.local p;
      slept_size = c.requires.sizes.slept;
      waits_size = c.requires.sizes.waits;
      runs = c.requires.may.current;
      old = C.history m;
    } in
    let poll_section =
    polled_section caller (C.history c.poll-answer.new.m) call_state (C.under_way p) (C.under_way c.poll-answer.new.self) c.requires.may.called
    c.requires.may.goes lawful awake (lock_caller monitored (section_at t call call_state.stage)) (caller_is t call call_state.stage)
    (record { local = C.local c.poll-answer.new.self; answer = abstract_answer }) history (λ some. ap C.history (still (inl some)))
    (λ some. ap C.history (still (inr some))) in
    rw (c.record_answer-ended.ensures.done, ← told_some outcome_of c.poll-answer.result c.poll-answer.new.payload.message_slot, later) poll_section

pub returns-clause-follows : goal.returns-clause-follows
returns-clause-follows g c stepwise =
    let C = g.C.ThreadLayer in
    let m = c.args.m.now in
    let p = c.args.self.now.lower in
    let cpu = C.cpu_of p in
    let t = c.args.t in
    let call = c.args.call.now in
    let call_state = going (call_state_of c.args.self.now.call_states.call_states t) call in
    let call_states = c.args.self.now.call_states.call_states in
    let edit_is = c.section-edit.ensures ∙ ap (section_at t call) c.requires.stage in
    let follows = rw (edit_is, c.buffer-buffer.ensures) at (c.poll-answer.ensures.follows stepwise) in
    let abstract_answer = abstract_result outcome_of c.poll-answer.result c.poll-answer.new.payload.message_slot in
    rw (← recorded_left t call call_state call_states c.record_answer-ended.new.self.call_states call_state.stage
    (C.local c.poll-answer.new.self) abstract_answer c.record_answer-ended.result
    (c.record_answer-ended.ensures.done ∙ sym (told_some outcome_of c.poll-answer.result c.poll-answer.new.payload.message_slot))
    (rw c.requires.stage at c.record_answer-ended.ensures.call_states))
    (follows_raised (λ d. C.ActsFor m d) (table_of (queue_rules (lock_rules buffer_rules) (lock_moves buffer_rules))) (C.opening m) cpu
    (left_recorded t call call_state call_states call_state.stage) (plan_beneath (homes_in (C.opening m)) cpu t call call_state.stage (C.local p)) (C.acts m)
    (C.acts c.poll-answer.new.m)
    (record { local = C.local c.poll-answer.new.self; answer = abstract_answer }) follows)
