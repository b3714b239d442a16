use Rattle.table_machine.proofs.Asking.{seat_grows}
use Rattle.table_machine.proofs.seats.meet.Goals as goal

pub returns-clause-grows : goal.returns-clause-grows
returns-clause-grows g c = seat_grows c.second.inside.key c.args.second.now _ c.second.view_is c.take_in.ensures.grows
