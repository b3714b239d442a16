use Rattle.std.proofs.Common.{◌≡◌, ◌-◌, []}
use Rattle.table_machine.specs.{Views.{caught_up, cpus_from}, SeatViews.new_seat_views}
use Rattle.table_machine.proofs.shared.Shared.deal_all.Given as goal

abbrev pub invariant-loop-cpu : goal.invariant-loop-cpu
invariant-loop-cpu g l = record {
  count : l.cpus ≡ l.self.cpus;
  table : l.dealer.table_id ≡ l.self.table;
  dealer : l.dealer.me ≡ (caught_up l.self.start (cpus_from l.cpu (l.self.cpus - l.cpu)) [], []);
  dealt : l.keys.items ≡ new_seat_views l.self l.cpu;
}
