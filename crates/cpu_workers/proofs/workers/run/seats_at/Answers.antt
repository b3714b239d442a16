use Rattle.std.proofs.Common.{◌≡◌, [], All, sym, subst, rules, arith}
use Rattle.{table_machine.specs.SeatViews.IsOf, cpu_workers.proofs.{Filling.{both_same, filled_all, filled_none, filled_one, has_room}, Joining.all_head}}
use Rattle.cpu_workers.proofs.Joining.{all_tail}
use Rattle.cpu_workers.proofs.workers.run.seats_at.Goals as goal

pub loop-key-init : goal.loop-key-init
loop-key-init g c =
    let gives = c.into_iter-key-iterator.ensures.into_iter_gives.0 in
    let none : c.in_ok-seats.seats.items ≡ [] = first_of (cc, search rules) in
    record {
      ready = subst (λ l. All (IsOf c.args.shared.now) l) (sym gives) c.requires;
      seats = filled_none gives none (omega (arith, c.in_ok-seats.ensures.capacity, c.len.ensures, c.args.keys.ok.0));
    }

pub new-seat-requires : goal.new-seat-requires
new-seat-requires g c = all_head (IsOf c.args.shared.now) c.loop-key.key-iterator.rest.items c.next.new.self.rest.items c.in-Some.key c.in-Some.ensures.steps.0
    c.loop-key.invariant.ready

pub push_reserved-requires : goal.push_reserved-requires
push_reserved-requires g c = has_room c.loop-key.invariant.seats c.in-Some.ensures.steps.0 c.loop-key.seats.ok.0

pub loop-key-preserved : goal.loop-key-preserved
loop-key-preserved g c =
    let known = c.loop-key.invariant in
    record {
      ready = all_tail (IsOf c.args.shared.now) c.loop-key.key-iterator.rest.items c.next.new.self.rest.items c.in-Some.key c.in-Some.ensures.steps.0
          known.ready;
      seats = filled_one known.seats c.in-Some.ensures.steps.0 c.push_reserved.ensures.items c.push_reserved.ensures.capacity c.new-seat.ensures;
    }

pub returns : goal.returns
returns g c =
    both_same c.args.keys.items c.loop-key.seats.items (filled_all c.loop-key.invariant.seats c.loop-key.key-iterator.rest.ok.0 c.in-None.ensures.steps.0)
