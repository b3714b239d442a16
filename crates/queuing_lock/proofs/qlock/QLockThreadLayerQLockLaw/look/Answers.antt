use Rattle.{std.proofs.{Common.{List, Option, option_map, sym, subst}, Math.Path.transport}, event_log.specs.declared.ids.{BufId.BufId, CpuId.CpuId}}
use Rattle.layer_traits.{specs.Views.Renaming.{renamed_edit, renamed_events, renamed_sched, viewed}, proofs.KernelRenaming.grows_renamed}
use Rattle.{layer_traits.proofs.{LookLemmas.tries_renamed, FrameLemmas.viewed_stays}, queuing_lock.specs.{Laws.NestedLaws.locks_lawful, Nested.lock_call}}
use Rattle.queuing_lock.{specs.{Nested.nested_lock_of, Parts.{DeferredFits, SleptFits}}, proofs.SleptLemmas.slept_goes}
use Rattle.queuing_lock.proofs.qlock.QLockThreadLayerQLockLaw.look.Goals as goal

pub returns-clause-framed : goal.returns-clause-framed
returns-clause-framed g c =
    let S = g.S.ThreadLayer in
    let met = g.met.S.ThreadLayer in
    let protocol = g.F.Locked.protocol in
    let self = c.args.self.now in
    let m = c.args.m.now in
    let cpu = S.cpu_of self.lower in
    let acts = met.own_cpu self.lower m c.requires.coupled.0 in
    let said = c.look.ensures in
    let n = c.look.new.m in
    let lawful = rw said.framed.stays.opening at (met.lawful n cpu (said.framed.stays.acts cpu acts)) in
    let grown = grows_renamed lock_call (λ d. S.ActsFor m d) (S.history m) (S.history n) said.history in
    let after = λ (d : CpuId) (acts : S.ActsFor m d) (slept : List (Option BufId))
    (coupled : SleptFits protocol (viewed nested_lock_of (S.opening m)) d (renamed_events lock_call (S.history m)) slept).
    transport (λ i. SleptFits protocol (viewed nested_lock_of (sym said.framed.stays.opening i)) d (renamed_events lock_call (S.history n)) slept)
    (slept_goes protocol (viewed nested_lock_of (S.opening m)) d grown.others (renamed_events lock_call (S.history m)) (renamed_events lock_call (S.history n))
    (grown.foreign d acts) grown.is (locks_lawful protocol (S.opening m) (S.history n) lawful) slept coupled) in
    record {
      coupled = (
        said.framed.coupled,
        subst (λ d. SleptFits protocol (viewed nested_lock_of (S.opening n)) d (renamed_events lock_call (S.history n)) self.slept.buffers)
            (sym said.framed.cpu)
            (after cpu acts self.slept.buffers c.requires.coupled.1),
        transport (λ i. DeferredFits (option_map (renamed_sched lock_call) (sym said.call i)) (sym said.local i).deferred
            (sym said.local i).threads.hand) c.requires.coupled.2,
      );
      cpu = said.framed.cpu;
      stays = viewed_stays (viewed nested_lock_of) said.framed.stays;
      others = λ p apart coupled. (
        said.framed.others p.lower apart coupled.0,
        after (S.cpu_of p.lower) (met.own_cpu p.lower m coupled.0) p.slept.buffers coupled.1,
        coupled.2,
      );
      holders = said.framed.holders;
    }

pub returns-clause-history : goal.returns-clause-history
returns-clause-history g c =
    let S = g.S.ThreadLayer in
    let m = c.args.m.now in
    grows_renamed lock_call (λ d. S.ActsFor m d) (S.history m) (S.history c.look.new.m) c.look.ensures.history

pub returns-clause-tries : goal.returns-clause-tries
returns-clause-tries g c = λ step looked.
    let S = g.S.ThreadLayer in
    let m = c.args.m.now in
    tries_renamed (renamed_edit lock_call) (λ d. S.ActsFor m d) (S.cpu_of c.args.self.now.lower) (S.acts m) (S.acts c.look.new.m)
    (c.look.ensures.tries step looked)
