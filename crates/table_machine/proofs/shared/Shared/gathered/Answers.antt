use Rattle.std.proofs.Common.{refl, [], ◌≡◌}
use Rattle.table_machine.{specs.{Views.{caught_up, cpus_from}, SeatViews.IsOver}, proofs.{Stepping.seat_enters, Meeting.has_words, Returning.yield_more}}
use Rattle.table_machine.proofs.Returning.{no_more, all_tail}
use Rattle.table_machine.proofs.shared.Shared.gathered.Goals as goal

pub load_new_seat-seat-requires : goal.load_new_seat-seat-requires
load_new_seat-seat-requires g c = (
  has_words _ _ _ _ _ c.self.invariant.0,
  seat_enters g.K.TableWords.kind g.E.SplitEdit.protocol c.self.inside.table.shared.key.cpus c.self.inside.table.shared.key.blocks.value.items
      _ (caught_up c.self.inside.table.shared.key.blocks.value.items (cpus_from 0 c.self.inside.table.shared.key.cpus) []) refl,
)

pub loop-key-preserved : goal.loop-key-preserved
loop-key-preserved g c = record {
  all = yield_more c.loop-key.yielded c.loop-key.key-iterator.rest.items c.next.new.self.rest.items c.args.keys.items c.in-Some.key c.loop-key.invariant.all
      c.in-Some.ensures.steps.0;
  over = all_tail (IsOver c.args.self.now) c.loop-key.key-iterator.rest.items c.next.new.self.rest.items c.in-Some.key c.in-Some.ensures.steps.0
      c.loop-key.invariant.over;
  table = c.absorb.ensures.table;
  start = c.absorb.ensures.start;
  gathered = c.absorb.ensures.gathered _ c.loop-key.invariant.gathered;
}

pub returns-clause-gathered : goal.returns-clause-gathered
returns-clause-gathered g c =
    let all : c.loop-key.yielded ≡ c.args.keys.items =
    no_more c.loop-key.yielded c.loop-key.key-iterator.rest.items c.args.keys.items c.loop-key.key-iterator.rest.len c.loop-key.invariant.all
    c.loop-key.key-iterator.rest.ok.0 c.in-None.ensures.steps.0 in
    rw all at c.loop-key.invariant.gathered
