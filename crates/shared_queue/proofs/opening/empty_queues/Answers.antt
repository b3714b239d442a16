use Rattle.std.proofs.{Common.{◌≡◌, [], ◌∷◌, ◌++◌, length, ap, sym, ◌∙◌, subst, arith}, lemmas.List.length_push}
use Rattle.{event_log.specs.declared.ids.LockId.TheVariants.Pending, layer_traits.specs.declared.queue_edits.QueueBlock.TheVariants.Queue}
use Rattle.shared_queue.{proofs.OpeningLemmas.queues_more, specs.Opening.AreEmptyQueues}
use Rattle.shared_queue.proofs.opening.empty_queues.Goals as goal

-- one queue more
pub loop-cpu-preserved : goal.loop-cpu-preserved
loop-cpu-preserved g c =
    let locks = c.loop-cpu.locks in
    let homes = c.args.homes.now in
    let block = Queue c.in_ok-queue.queue c.of.result in
    let pushed : c.push.new.self.items ≡ locks.items ++ (Pending (record { 0 = c.loop-cpu.cpu }), block) ∷ [] = rw c.unwrap.ensures at c.push.ensures.items in
    let abstract_answer = ap (λ v. v.items) c.of.ensures ∙ c.kept_homes-kept.ensures in
    let empty = c.in_ok-queue.ensures ∙ c.new.ensures in
    let count = c.loop-cpu.invariant.1 in
    let more = ap length pushed ∙ length_push locks.items (Pending (record { 0 = c.loop-cpu.cpu }), block) in (
      subst (AreEmptyQueues homes 0) (sym pushed)
          (queues_more homes 0 c.loop-cpu.cpu locks.items block c.loop-cpu.invariant.0 (omega (arith, count, locks.ok.0)) (empty, abstract_answer)),
      omega (arith, count, more, locks.ok.0, c.push.new.self.ok.0),
      omega (arith, c.loop-cpu.invariant.2, c.push.ensures.capacity),
    )
