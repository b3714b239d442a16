use Rattle.{event_log.specs.declared.events.Event.TheVariants.Free, table_machine.proofs.Asking.seat_adds}
use Rattle.table_machine.proofs.seats.SeatWords.free.Goals as goal

pub returns-clause-adds : goal.returns-clause-adds
returns-clause-adds g c = seat_adds c.self.inside.key c.args.self.now c.args._cpu (λ cpu. Free cpu c.args.lock c.args.mark) _ _ c.self.view_is c.requires.cpu.0
    c.free.ensures.adds
