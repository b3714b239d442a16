use Rattle.std.proofs.Common.{◌≡◌, All, sym, subst, rules}
use Rattle.{table_machine.specs.SeatViews.new_seat_views, cpu_workers.{specs.{declared.counting.AddOne.AddOne, Counts.IsFresh}, proofs.TableKeys.new_fresh}}
use Rattle.cpu_workers.proofs.counting.tables.count_if_open.Goals as goal

pub count_all-requires-clause-fresh : goal.count_all-requires-clause-fresh
count_all-requires-clause-fresh g c κs within =
    let table = c.in-Ok.opened.0 in
    let keys : c.in-Ok.opened.1.items ≡ new_seat_views {E = AddOne} table table.cpus = first_of (cc, search rules) in
    subst (λ l. All (IsFresh table) l) (sym keys) (new_fresh table table.cpus)
