use Rattle.std.proofs.Common.{◌≡◌, ◌<◌, ◌∙◌, ap, arith, length, subst, sym}
use Rattle.{event_log.specs.declared.ids.{CpuId.CpuId, TheConstants.THREADS}, layer_traits.specs.{Blocks.QueueBlocks.homes_in, Layers.BufferLaw.answer_in}}
use Rattle.layer_traits.specs.Layers.{BufferLaw.{buffer_of, call_state_of, going}, Queues.moves_in, SleepLaw.{SleepPolled, sleep_kernel}}
use Rattle.{layer_traits.specs.{Polling.Polls.until_answered, Views.Renaming.viewed}, fifo_buffer.specs.Laws.MonitorOwned.monitor_there}
use Rattle.fifo_buffer.specs.{Monitors.monitor_rules, SectionPolls.calling_after, MonitorParts.{OpensFresh, monitor_recorded_if, monitor_reply}}
use Rattle.fifo_buffer.{specs.MonitorParts.{monitor_section, monitor_shown}, proofs.MonitorPolls.{answers_so, call_so, moves_have_grown, poll_did, poll_may}}
use Rattle.fifo_buffer.proofs.{MonitorPolls.{runs_so, stage_so, under_so}, MonitorCalled.{called_now, polled_as, runs_small, slots_now, stages_now, this_now}}
use Rattle.fifo_buffer.proofs.{MonitorCalled.told_same, MonitorPasses.{fresh_still, part_still}}
use Rattle.fifo_buffer.proofs.monitor.MonitorCallLayerBufferLaw.poll_kind.Goals as goal
use Rattle.layer_traits.specs.declared.scheds.SchedCall.TheVariants as sched

pub poll-outcome-requires-clause-there : goal.poll-outcome-requires-clause-there
poll-outcome-requires-clause-there g c =
    monitor_there (g.S.ThreadLayer.opening c.args.m.now) c.requires.coupled.1.fresh c.buffer-buffer.result (rw c.buffer-buffer.ensures c.requires.there)

-- what the poll of the section did, and what it leaves of the call
pub returns : goal.returns
returns g c =
    let S = g.S.ThreadLayer in
    let law = g.met.S.ThreadLayer in
    let m = c.args.m.now in
    let n = c.poll-outcome.new.m in
    let p = c.args.self.now in
    let q = c.poll-outcome.new.self in
    let r = c.complete.new.self in
    let t = c.args.t in
    let call = c.args.call.now in
    let coupled = c.requires.coupled in
    let said = c.poll-outcome.ensures in
    let same = said.framed.stays.opening in
    let cpu = S.cpu_of p.lower in
    let acts = law.own_cpu p.lower m coupled.0 in
    let k = sleep_kernel monitor_rules (S.opening m) in
    let Acts = λ (d : CpuId). S.ActsFor m d × OpensFresh (S.opening m) in
    let small : t.0 < THREADS = runs_small (homes_in (S.opening m)) cpu (moves_in k (S.history m)) (S.local p.lower).threads
    (law.moves_legal m cpu acts) (law.stands p.lower m coupled.0).stands (law.opens m cpu acts).room t c.requires.runs in
    let states = p.call_states.call_states in
    let now = r.call_states.call_states in
    let this = going (call_state_of states t) call in
    let may = poll_may (S.opening m) cpu (S.history m) t call (S.local p.lower) states c.requires.runs c.requires.same (coupled.1.stages t)
    (S.under_way p.lower) p.calling coupled.1.calls c.requires.hand c.requires.goes_on in
    let begun = may.goes.begun in
    let stage_is = c.next_stage-stage.ensures in
    let edit_is : c.monitor_section-edit.result ≡ monitor_section t call this.stage
    = c.monitor_section-edit.ensures ∙ ap (monitor_section t call) stage_is in
    let buffer_is = c.buffer-buffer.ensures in
    let polled : SleepPolled k (λ d. S.ActsFor m d) cpu (buffer_of call) (monitor_section t call this.stage) (S.history m) (S.history n) (S.local p.lower)
    (record { local = S.local q; answer = c.poll-outcome.result })
    = polled_as (buffer_of call) (monitor_section t call this.stage) c.poll-outcome.result buffer_is edit_is
    (told_same c.poll-outcome.result c.poll-outcome.new.payload) said.history in
    let later = monitor_recorded_if call this c.poll-outcome.result in
    let did = poll_did (S.opening m) cpu t call this (S.history m) (S.history n) (S.local p.lower)
    (record { local = S.local q; answer = c.poll-outcome.result }) c.requires.runs may.goes polled in
    let set = c.complete.ensures.call_states in
    let within : t.0 < length states = subst (λ x. t.0 < x) (sym coupled.1.slots) small in
    let answer = answer_in now t c.complete.result in
    let answered : answer ≡ monitor_reply call later
    = c.complete.ensures.answer ∙ ap (monitor_reply call) (this_now states now t later within set) in
    let lower = c.complete.ensures.lower in
    let calling : r.calling ≡ calling_after t (S.local q).threads.current (monitor_reply call later)
    = c.complete.ensures.calling ∙ ap (calling_after t (S.local q).threads.current) answered in
    let under : S.under_way q ≡ until_answered c.poll-outcome.result (sched.OnBuffer (buffer_of call) (monitor_section t call this.stage))
    = said.call ∙ ap (λ b. until_answered c.poll-outcome.result (sched.OnBuffer b c.monitor_section-edit.result)) buffer_is
    ∙ ap (λ e. until_answered c.poll-outcome.result (sched.OnBuffer (buffer_of call) e)) edit_is in
    record {
      nothing = λ none. let there = c.requires.there in absurd (omega (arith, none, there));
      called = λ there. rw (same, answered) (called_now states now t later within set (S.opening m) (λ d. S.ActsFor m d) Acts (λ d both. both.0) cpu call
          (S.history m) (S.history n) (S.local p.lower) (record { local = S.local q; answer = c.poll-outcome.result }) did (monitor_reply call later)
          (answers_so t call this later (record { local = S.local q; answer = c.poll-outcome.result }) may.goes.called begun did.stands));
      runs = λ there. rw (lower, answered) (runs_so t call this later (S.local p.lower).threads (record { local = S.local q; answer = c.poll-outcome.result })
          begun did.ended did.stands);
      under_way = λ there. rw (lower, calling, answered) (under_so t call this later (record { local = S.local q; answer = c.poll-outcome.result })
          (S.under_way q) under begun did.stands);
      moves = rw same (moves_have_grown k (λ d. S.ActsFor m d) Acts cpu did.mine did.others (S.history m) (S.history n) (λ d both. both.0) did.foreign
          did.own_events did.is);
      prompt = λ whole. absurd whole;
      framed = record {
        coupled = (
          rw lower said.framed.coupled,
          record {
            fresh = fresh_still (S.opening m) (S.opening n) same coupled.1.fresh;
            slots = slots_now states now t later within set coupled.1.slots;
            stages = stages_now states now t later within set (stage_so t call this later (record { local = S.local q; answer = c.poll-outcome.result })
                may.goes.coupled did.stands) coupled.1.stages;
            calls = rw (lower, calling, under) (call_so t call this later (record { local = S.local q; answer = c.poll-outcome.result }) now
                (this_now states now t later within set) may.goes.called begun did.stands);
          },
        );
        cpu = rw lower said.framed.cpu;
        stays = record {
          opening = ap (viewed monitor_shown) same;
          machine_id = said.framed.stays.machine_id;
          room = said.framed.stays.room;
          acts = λ d both. (said.framed.stays.acts d both.0, fresh_still (S.opening m) (S.opening n) same both.1);
        };
        others = λ x other theirs. (
          said.framed.others x.lower other theirs.0,
          part_still (S.opening m) (S.opening n) same (S.local x.lower) x.call_states.call_states (S.under_way x.lower) x.calling theirs.1,
        );
        holders = λ d other both held. said.framed.holders d other both.0 held;
      };
      follows = λ step. absurd step;
    }
