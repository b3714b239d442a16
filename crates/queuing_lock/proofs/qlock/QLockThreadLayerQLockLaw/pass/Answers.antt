use Rattle.{std.proofs.{Common.{List, Option, option_map, sym, subst}, Math.Path.transport}, event_log.specs.declared.ids.{BufId.BufId, CpuId.CpuId}}
use Rattle.layer_traits.specs.{Threads.Passes.MayPass, Views.Renaming.{renamed_events, renamed_sched, viewed}, Layers.SleepLaw.done_if}
use Rattle.{layer_traits.proofs.{FrameLemmas.viewed_stays, KernelRenaming.polled_renamed}, queuing_lock.specs.Laws.NestedLaws.{locks_wrap, locks_lawful}}
use Rattle.queuing_lock.{specs.{Nested.{lock_call, nested_lock_of}, Parts.{DeferredFits, SleptFits}}, proofs.DeferredLemmas.deferred_passed}
use Rattle.queuing_lock.proofs.{PartLemmas.{locks_pass_follow, under_is}, PollLemmas.slept_passed}
use Rattle.queuing_lock.proofs.qlock.QLockThreadLayerQLockLaw.pass.Goals as goal
use Rattle.layer_traits.specs.declared.scheds.SchedCall.TheVariants as call

pub returns-clause-framed : goal.returns-clause-framed
returns-clause-framed g c =
    let S = g.S.ThreadLayer in
    let met = g.met.S.ThreadLayer in
    let protocol = g.F.Locked.protocol in
    let self = c.args.self.now in
    let m = c.args.m.now in
    let cpu = S.cpu_of self.lower in
    let acts = met.own_cpu self.lower m c.requires.coupled.0 in
    let said = c.pass.ensures in
    let n = c.pass.new.m in
    let part = c.pass.new.self in
    let lawful = rw said.framed.stays.opening at (met.lawful n cpu (said.framed.stays.acts cpu acts)) in
    let after = λ (d : CpuId) (acts : S.ActsFor m d) (slept : List (Option BufId))
    (coupled : SleptFits protocol (viewed nested_lock_of (S.opening m)) d (renamed_events lock_call (S.history m)) slept).
    transport (λ i. SleptFits protocol (viewed nested_lock_of (sym said.framed.stays.opening i)) d (renamed_events lock_call (S.history n)) slept)
    (slept_passed protocol (viewed nested_lock_of (S.opening m)) c.args.call (done_if c.pass.result)
    (polled_renamed _ _ _ _ (locks_wrap protocol (S.opening m)) _ _ (call.Pass c.args.call) _ _ _ _ _ said.history) d acts
    (locks_lawful protocol (S.opening m) (S.history n) lawful) slept coupled) in
    record {
      coupled = (
        said.framed.coupled,
        subst (λ d. SleptFits protocol (viewed nested_lock_of (S.opening n)) d (renamed_events lock_call (S.history n)) self.slept.buffers)
            (sym said.framed.cpu)
            (after cpu acts self.slept.buffers c.requires.coupled.1),
        transport (λ i. DeferredFits (sym (under_is (λ (u : Unit {0}). u) (S.under_way part) c.pass.result (call.Pass c.args.call) said.call) i)
            (sym said.rest i) (S.local part).threads.hand) (deferred_passed (option_map (renamed_sched lock_call) (S.under_way self.lower))
            (S.local self.lower).deferred (S.local self.lower).threads.hand
            (S.local part).threads.hand c.args.call (MayPass c.args.call (S.local self.lower).threads) _ c.requires.coupled.2 c.requires.call),
      );
      cpu = said.framed.cpu;
      stays = viewed_stays (viewed nested_lock_of) said.framed.stays;
      others = λ p apart coupled. (
        said.framed.others p.lower apart coupled.0,
        after (S.cpu_of p.lower) (met.own_cpu p.lower m coupled.0) p.slept.buffers coupled.1,
        coupled.2,
      );
      holders = said.framed.holders;
    }

pub returns-clause-history : goal.returns-clause-history
returns-clause-history g c =
    polled_renamed _ _ _ _ (locks_wrap g.F.Locked.protocol (g.S.ThreadLayer.opening c.args.m.now)) _ _ (call.Pass c.args.call) _ _ _ _ _ c.pass.ensures.history

pub returns-clause-follows : goal.returns-clause-follows
returns-clause-follows g c = λ step.
    let S = g.S.ThreadLayer in
    let self = c.args.self.now in
    let m = c.args.m.now in
    locks_pass_follow g.F.Locked.protocol (S.opening m) (λ d. S.ActsFor m d) (S.cpu_of self.lower) (S.acts m) (S.acts c.pass.new.m) (S.local self.lower)
    self.slept.buffers c.args.call (record { local = S.local c.pass.new.self; answer = c.pass.result }) (c.pass.ensures.follows step)
