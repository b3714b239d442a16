use Rattle.{event_log.specs.declared.events.Event.TheVariants.Draw, table_machine.proofs.Asking.seat_adds}
use Rattle.table_machine.proofs.seats.SeatWords.draw.Goals as goal

pub returns-clause-adds : goal.returns-clause-adds
returns-clause-adds g c = seat_adds c.self.inside.key c.args.self.now c.args._cpu (λ cpu. Draw cpu c.args.lock c.draw.result) _ _ c.self.view_is
    c.requires.cpu.0 c.draw.ensures.adds
