use Rattle.std.proofs.Common.{refl}
use Rattle.fifo_buffer.proofs.fifo.FifoCallLayerBufferLaw.spin.Goals as goal

pub returns-clause-spun : goal.returns-clause-spun
returns-clause-spun g c =
    let spun = c.spin.ensures.spun in
    record {
      opening = spun.opening;
      machine_id = spun.machine_id;
      history = rw (spun.opening, spun.history) refl;
      room = spun.room;
      acts = λ d both. (spun.acts d both.0, rw spun.opening both.1);
      coupled = λ p coupled. (spun.coupled p.lower coupled.0, rw (spun.opening, spun.history) coupled.1);
      holders = spun.holders;
    }

pub returns-clause-moves : goal.returns-clause-moves
returns-clause-moves g c = rw (c.spin.ensures.spun.opening, c.spin.ensures.spun.history) refl
