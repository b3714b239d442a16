use Rattle.{std.proofs.Common.{subst}, table_machine.specs.SeatViews.new_seat_views, cpu_workers.specs.declared.counting.AddOne.AddOne}
use Rattle.cpu_workers.{specs.{declared.counting.TheConstants.NUMBER, Counts.AllHaveMade}, proofs.Counts.new_have_made_none}
use Rattle.cpu_workers.proofs.counting.counted.number_untouched.Goals as goal

-- each key has made no section
pub closed-requires-clause-came : goal.closed-requires-clause-came
closed-requires-clause-came g c =
    let table = c.args.shared in
    rw c.requires.keys (new_have_made_none AddOne NUMBER table table.cpus)
