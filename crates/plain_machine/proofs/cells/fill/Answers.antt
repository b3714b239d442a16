use Rattle.std.proofs.{Common.{◌≡◌, ◌<◌, [], ◌∷◌, ◌++◌, All, length, append_assoc, ap, sym, ◌∙◌}, Math.ListN.length-set}
use Rattle.{event_log.specs.{declared.ids.LockId.LockId, Locks.lock_number}, plain_machine.proofs.TableLemmas.{all_mid, fresh_more}}
use Rattle.plain_machine.proofs.cells.fill.Goals as goal

pub loop-lock-preserved : goal.loop-lock-preserved
loop-lock-preserved g c =
    let so_far = c.loop-lock.invariant in
    let o : LockId × g.row.B.Denot = (c.in-Some.lock, c.in-Some.block) in
    let rest = c.next.new.self.rest.items in
    let cells = c.loop-lock.cells.items in
    let blocks = c.args.blocks.items in
    let all : c.loop-lock.yielded ++ (o ∷ rest) ≡ blocks = ap (λ l. c.loop-lock.yielded ++ l) (sym c.in-Some.ensures.steps.0) ∙ so_far.all
    ∙ c.into_iter-lock-iterator.ensures.into_iter_gives.0 in
    let within : All (λ entry. lock_number entry.0 < length cells) blocks = rw so_far.length_is c.requires.within in
    record {
      can_next = tt;
      ends = tt;
      all = append_assoc c.loop-lock.yielded (o ∷ []) rest ∙ ap (λ l. c.loop-lock.yielded ++ l) (sym c.in-Some.ensures.steps.0) ∙ so_far.all;
      length_is = ap length c.put.ensures.2 ∙ length-set cells (lock_number o.0) _ ∙ so_far.length_is;
      fresh = rw c.put.ensures.2 (fresh_more (g.K.LockQueueWords.Coupling 0 0) c.loop-lock.yielded o rest cells (rw all c.requires.distinct)
          (all_mid (λ entry. lock_number entry.0 < length cells) c.loop-lock.yielded o rest (rw all within)) c.put.ensures.0 c.put.ensures.1 so_far.fresh);
    }
