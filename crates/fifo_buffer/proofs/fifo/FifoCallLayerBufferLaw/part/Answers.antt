use Rattle.fifo_buffer.proofs.Opening.{all_rest, no_events, start_fits}
use Rattle.fifo_buffer.proofs.fifo.FifoCallLayerBufferLaw.part.Goals as goal

pub returns-clause-coupled : goal.returns-clause-coupled
returns-clause-coupled g c m fresh count =
    let C = g.C.ThreadLayer in
    let empty = no_events (C.opening m) (C.history m) fresh.3 in (
      c.part.ensures.coupled m fresh.0.0 fresh.1 (empty, fresh.4, fresh.5, all_rest (C.opening m) fresh.6),
      rw (c.part.ensures.call, c.of.ensures) (start_fits (C.opening m) c.args.homes.now c.args.cpu (C.cpu_of c.part.result) (C.history m)
          (C.local c.part.result) c.new.result.call_states fresh.6 empty c.part.ensures.local c.new.ensures),
    )
