use Rattle.{std.proofs.Common.ap, layer_traits.{proofs.KernelRenaming.at_viewed, specs.Layers.{Queues.moves_in, SleepLaw.sleep_kernel}}}
use Rattle.{layer_traits.specs.{Threads.Passes.PassPolled, Views.Renaming.viewed}, event_log.specs.declared.ids.CpuId.CpuId}
use Rattle.fifo_buffer.{specs.{Monitors.monitor_rules, MonitorParts.{OpensFresh, monitor_shown}}, proofs.MonitorPasses.{fits_after_pass, fresh_still}}
use Rattle.fifo_buffer.proofs.MonitorPasses.{pass_under, part_still, passed_moves, passed_seen}
use Rattle.fifo_buffer.proofs.monitor.MonitorCallLayerBufferLaw.pass.Goals as goal

pub returns-clause-framed : goal.returns-clause-framed
returns-clause-framed g c =
    let S = g.S.ThreadLayer in
    let m = c.args.m.now in
    let n = c.pass.new.m in
    let p = c.args.self.now in
    let said = c.pass.ensures in
    let same = said.framed.stays.opening in
    record {
      coupled = (
        said.framed.coupled,
        fits_after_pass (S.opening m) (S.opening n) (S.local p.lower) (S.local c.pass.new.self) p.call_states.call_states (S.under_way p.lower)
            (S.under_way c.pass.new.self) p.calling c.args.call c.pass.result same said.call said.rest c.requires.goes_on c.requires.coupled.1,
      );
      cpu = said.framed.cpu;
      stays = record {
        opening = ap (viewed monitor_shown) same;
        machine_id = said.framed.stays.machine_id;
        room = said.framed.stays.room;
        acts = λ d acts. (said.framed.stays.acts d acts.0, fresh_still (S.opening m) (S.opening n) same acts.1);
      };
      others = λ q other coupled. (
        said.framed.others q.lower other coupled.0,
        part_still (S.opening m) (S.opening n) same (S.local q.lower) q.call_states.call_states (S.under_way q.lower) q.calling coupled.1,
      );
      holders = λ d other acts held. said.framed.holders d other acts.0 held;
    }

pub returns-clause-history : goal.returns-clause-history
returns-clause-history g c =
    let S = g.S.ThreadLayer in
    let m = c.args.m.now in
    let n = c.pass.new.m in
    let lower = c.args.self.now.lower in
    let said = c.pass.ensures in
    let Acts = λ (d : CpuId). S.ActsFor m d × OpensFresh (S.opening m) in
    rw said.framed.stays.opening (passed_seen (S.opening m) (λ d. S.ActsFor m d) Acts (λ d acts. acts.0) (S.cpu_of lower) c.args.call c.pass.result
    (S.history m) (S.history n) (S.local lower).threads (S.local c.pass.new.self).threads said.history)

pub returns-clause-passed : goal.returns-clause-passed
returns-clause-passed g c =
    let S = g.S.ThreadLayer in
    let m = c.args.m.now in
    let n = c.pass.new.m in
    let lower = c.args.self.now.lower in
    let said = c.pass.ensures in
    let Acts = λ (d : CpuId). S.ActsFor m d × OpensFresh (S.opening m) in
    rw said.framed.stays.opening (at_viewed monitor_shown (S.opening m)
    (λ homes. PassPolled homes Acts (S.cpu_of lower) c.args.call c.pass.result (moves_in (sleep_kernel monitor_rules (S.opening m)) (S.history m))
    (moves_in (sleep_kernel monitor_rules (S.opening m)) (S.history n)) (S.local lower).threads (S.local c.pass.new.self).threads)
    (passed_moves (S.opening m) (λ d. S.ActsFor m d) Acts (λ d acts. acts.0) (S.cpu_of lower) c.args.call c.pass.result (S.history m) (S.history n)
    (S.local lower).threads (S.local c.pass.new.self).threads said.history))

pub returns-clause-under_way : goal.returns-clause-under_way
returns-clause-under_way g c =
    let S = g.S.ThreadLayer in
    let p = c.args.self.now in
    pass_under (S.under_way p.lower) (S.under_way c.pass.new.self) p.calling c.args.call c.pass.result c.pass.ensures.call c.requires.goes_on
