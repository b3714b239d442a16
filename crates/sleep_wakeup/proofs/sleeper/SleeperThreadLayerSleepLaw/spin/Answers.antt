use Rattle.{std.proofs.Common.{ap, subst, sym}, layer_traits.specs.{Blocks.QueueBlocks.inner, Views.Renaming.{renamed_edit, renamed_events, viewed}}}
use Rattle.{layer_traits.{specs.Layers.Sleeping.NoSleepers, proofs.SpinLemmas.misses_renamed}, sleep_wakeup.specs.Nested.{slept_edit, state_of, states}}
use Rattle.sleep_wakeup.proofs.sleeper.SleeperThreadLayerSleepLaw.spin.Goals as goal

pub returns-clause-spun : goal.returns-clause-spun
returns-clause-spun g c =
    let spun = c.spin.ensures.spun in
    record {
      opening = ap (viewed state_of) spun.opening;
      machine_id = spun.machine_id;
      history = ap (renamed_events slept_edit) spun.history;
      room = spun.room;
      acts = spun.acts;
      coupled = λ p coupled. (spun.coupled p.lower coupled.0, subst (λ o. NoSleepers (states (inner o))) (sym spun.opening) coupled.1, coupled.2);
      holders = spun.holders;
    }

pub returns-clause-tries : goal.returns-clause-tries
returns-clause-tries g c = λ step.
    let S = g.S.Layer in
    misses_renamed (renamed_edit slept_edit) (S.cpu_of c.args.self.now.lower) c.spin.result (S.acts c.args.m.now) (S.acts c.spin.new.m)
    (c.spin.ensures.tries step)
