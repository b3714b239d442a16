use Rattle.{std.proofs.{Common.{subst, sym}, Math.Path.transport}, event_log.specs.declared.ids.CpuId.CpuId, layer_traits.specs.Polling.Spins.BeginWith}
use Rattle.{scheduler.specs.Parts.SchedPartFits}
use Rattle.scheduler.proofs.sched.SchedLayerSchedLaw.spin.Goals as goal

pub returns-clause-few : goal.returns-clause-few
returns-clause-few g c = subst (λ (d : CpuId). BeginWith d c.spin.result c.args.steps.now) c.requires.coupled.1.cpu c.spin.ensures.few

pub returns-clause-spun : goal.returns-clause-spun
returns-clause-spun g c =
    let Q = g.Q.Layer in
    let spun = c.spin.ensures.spun in
    record {
      opening = spun.opening;
      machine_id = spun.machine_id;
      history = spun.history;
      room = spun.room;
      acts = spun.acts;
      coupled = λ p coupled. (
        spun.coupled p.lower coupled.0,
        transport (λ i. SchedPartFits g.E.SplitEdit.protocol g.E.Moves.moves (sym spun.opening i) p.cpu (Q.cpu_of p.lower) p.homes.items (Q.under_way p.lower)
            (sym spun.history i) p.local) coupled.1,
      );
      holders = spun.holders;
    }

pub returns-clause-tries : goal.returns-clause-tries
returns-clause-tries g c = λ step. rw c.requires.coupled.1.cpu at (c.spin.ensures.tries step)
