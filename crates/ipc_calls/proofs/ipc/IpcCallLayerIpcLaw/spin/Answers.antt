use Rattle.ipc_calls.proofs.ipc.IpcCallLayerIpcLaw.spin.Goals as goal

pub returns-clause-spun : goal.returns-clause-spun
returns-clause-spun g c =
    let spun = c.spin.ensures.spun in
    record {
      opening = spun.opening;
      machine_id = spun.machine_id;
      history = spun.history;
      room = spun.room;
      acts = spun.acts;
      coupled = λ p coupled. (spun.coupled p.lower coupled.0, rw spun.opening coupled.1);
      holders = spun.holders;
    }
