use Rattle.{std.proofs.{Common.{ap, sym}, Math.Path.transport}, layer_traits.specs.Views.Renaming.{renamed_edit, renamed_events, viewed}}
use Rattle.{layer_traits.proofs.SpinLemmas.misses_renamed, queuing_lock.specs.{Nested.{lock_call, nested_lock_of}, Parts.SleptFits}}
use Rattle.queuing_lock.proofs.qlock.QLockThreadLayerQLockLaw.spin.Goals as goal

pub returns-clause-spun : goal.returns-clause-spun
returns-clause-spun g c =
    let S = g.S.ThreadLayer in
    let spun = c.spin.ensures.spun in
    record {
      opening = ap (viewed nested_lock_of) spun.opening;
      machine_id = spun.machine_id;
      history = ap (renamed_events lock_call) spun.history;
      room = spun.room;
      acts = spun.acts;
      coupled = λ p coupled. (
        spun.coupled p.lower coupled.0,
        transport (λ i. SleptFits g.F.Locked.protocol (viewed nested_lock_of (sym spun.opening i)) (S.cpu_of p.lower)
            (renamed_events lock_call (sym spun.history i))
            p.slept.buffers) coupled.1,
        coupled.2,
      );
      holders = spun.holders;
    }

pub returns-clause-tries : goal.returns-clause-tries
returns-clause-tries g c = λ step.
    let S = g.S.ThreadLayer in
    misses_renamed (renamed_edit lock_call) (S.cpu_of c.args.self.now.lower) c.spin.result (S.acts c.args.m.now) (S.acts c.spin.new.m)
    (c.spin.ensures.tries step)
