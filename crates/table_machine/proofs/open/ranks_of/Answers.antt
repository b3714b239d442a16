use Rattle.std.proofs.Common.{◌<◌, ◌≤◌, ◌-◌, ◌≡◌, length, arith, ap, sym, ◌∙◌, length-set}
use Rattle.{event_log.specs.{declared.ids.LockId.LockId, Locks.lock_number}, table_machine.proofs.Laying.{ranks_more, ranks_all}}
use Rattle.table_machine.proofs.open.ranks_of.Goals as goal

pub loop-rank-preserved : goal.loop-rank-preserved
loop-rank-preserved g c =
    let within : c.loop-rank.rank - 1 < length c.args.blocks.now = omega arith in
    let number : c.number.result ≡ lock_number c.index-blocks-rank.result.0 = c.number.ensures.number
    ∙ ap (λ (o : LockId × _). lock_number o.0) (sym c.index-blocks-rank.is) in
    let below : lock_number c.index-blocks-rank.result.0 < length c.loop-rank.ranks.items = omega arith in
    record {
      row = length-set c.loop-rank.ranks.items c.number.result (c.loop-rank.rank - 1) ∙ c.loop-rank.invariant.row;
      within = omega arith;
      ranks_hold = rw number (ranks_more c.loop-rank.ranks.items c.args.blocks.now c.index-blocks-rank.result c.loop-rank.rank
          c.loop-rank-test.true within c.index-blocks-rank.is below c.loop-rank.invariant.ranks_hold);
    }

pub returns-clause-ranks : goal.returns-clause-ranks
returns-clause-ranks g c = ranks_all c.loop-rank.ranks.items c.args.blocks.now c.loop-rank.rank c.loop-rank-test.false c.loop-rank.invariant.ranks_hold
