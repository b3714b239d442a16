use Rattle.{event_log.specs.declared.events.Event.TheVariants.Look, table_machine.proofs.Asking.seat_adds}
use Rattle.table_machine.proofs.seats.SeatWords.look.Goals as goal

pub returns-clause-adds : goal.returns-clause-adds
returns-clause-adds g c = (
  c.look.ensures.adds.0,
  seat_adds c.self.inside.key c.args.self.now c.args._cpu (λ cpu. Look cpu c.args.lock c.args.ticket c.look.ensures.adds.0)
      _ _ c.self.view_is c.requires.cpu.0 c.look.ensures.adds.1,
)
