use Rattle.std.proofs.Common.{ap, arith, ◌∙◌}
use Rattle.layer_traits.{proofs.KernelRenaming.at_viewed, specs.{Layers.{Queues.moves_in, SleepLaw.sleep_kernel}, Threads.Passes.PassPolled}}
use Rattle.{layer_traits.specs.Views.Renaming.viewed, event_log.specs.declared.ids.CpuId.CpuId, plain_layers.specs.{Attempts.attempts, Fifos.IsOwned}}
use Rattle.plain_layers.{specs.Fifos.plain_shown, proofs.FifoLemmas.{nothing_under, owned_after, passed_seen, passed_moves}}
use Rattle.plain_layers.proofs.fifos.PlainFifoCallLayerBufferLaw.pass.Goals as goal

pub returns-clause-framed : goal.returns-clause-framed
returns-clause-framed g c =
    let S = g.S.ThreadLayer in
    let m = c.args.m.now in
    let n = c.pass.new.m in
    let coupled = c.requires.coupled in
    let said = c.pass.ensures in
    record {
      coupled = (
        said.framed.coupled,
        coupled.1,
        owned_after (λ e. S.ActsFor m e) (λ e. S.ActsFor n e) (S.opening m) (S.opening n) said.framed.stays.opening said.framed.stays.acts coupled.2,
        record {
          none = nothing_under c.pass.result (S.under_way c.pass.new.self) _ (said.prompt coupled.1) said.call;
          deferred = said.rest ∙ coupled.3.deferred;
          waits = coupled.3.waits;
          slots = coupled.3.slots;
        },
      );
      cpu = said.framed.cpu;
      stays = record {
        opening = ap (viewed plain_shown) said.framed.stays.opening;
        machine_id = said.framed.stays.machine_id;
        room = (let less = said.framed.stays.room in omega arith);
        acts = λ d acts. (
          said.framed.stays.acts d acts.0,
          acts.1,
          owned_after (λ e. S.ActsFor m e) (λ e. S.ActsFor n e) (S.opening m) (S.opening n) said.framed.stays.opening said.framed.stays.acts acts.2,
        );
      };
      others = λ p other coupled. (
        said.framed.others p.lower other coupled.0,
        coupled.1,
        owned_after (λ e. S.ActsFor m e) (λ e. S.ActsFor n e) (S.opening m) (S.opening n) said.framed.stays.opening said.framed.stays.acts coupled.2,
        coupled.3,
      );
      holders = λ d other acts held. said.framed.holders d other acts.0 held;
    }

pub returns-clause-history : goal.returns-clause-history
returns-clause-history g c =
    let S = g.S.ThreadLayer in
    let m = c.args.m.now in
    let n = c.pass.new.m in
    let lower = c.args.self.now.lower in
    let coupled = c.requires.coupled in
    let said = c.pass.ensures in
    let Acts = λ (d : CpuId). S.ActsFor m d × S.IsWhole × IsOwned (λ e. S.ActsFor m e) (S.opening m) in
    let known = g.met.S.ThreadLayer.known n (S.cpu_of lower) (said.framed.stays.acts (S.cpu_of lower) (g.met.S.ThreadLayer.own_cpu lower m coupled.0)) in
    rw said.framed.stays.opening (passed_seen (S.opening m) (λ d. S.ActsFor m d) (S.cpu_of lower) c.args.call c.pass.result (S.history m) (S.history n)
    (S.local lower).threads (S.local c.pass.new.self).threads (record { all = coupled.2.all; known = known; polled = said.history }) Acts)

pub returns-clause-passed : goal.returns-clause-passed
returns-clause-passed g c =
    let S = g.S.ThreadLayer in
    let m = c.args.m.now in
    let n = c.pass.new.m in
    let lower = c.args.self.now.lower in
    let coupled = c.requires.coupled in
    let said = c.pass.ensures in
    let Acts = λ (d : CpuId). S.ActsFor m d × S.IsWhole × IsOwned (λ e. S.ActsFor m e) (S.opening m) in
    let known = g.met.S.ThreadLayer.known n (S.cpu_of lower) (said.framed.stays.acts (S.cpu_of lower) (g.met.S.ThreadLayer.own_cpu lower m coupled.0)) in
    rw said.framed.stays.opening (at_viewed plain_shown (S.opening m)
    (λ homes. PassPolled homes Acts (S.cpu_of lower) c.args.call c.pass.result (moves_in (sleep_kernel attempts (S.opening m)) (S.history m))
    (moves_in (sleep_kernel attempts (S.opening m)) (S.history n)) (S.local lower).threads (S.local c.pass.new.self).threads)
    (passed_moves (S.opening m) (λ d. S.ActsFor m d) (S.cpu_of lower) c.args.call c.pass.result (S.history m) (S.history n)
    (S.local lower).threads (S.local c.pass.new.self).threads (record { all = coupled.2.all; known = known; polled = said.history }) Acts (λ d acts. acts.0)))
