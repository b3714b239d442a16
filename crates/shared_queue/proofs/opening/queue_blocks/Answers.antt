use Rattle.std.{proofs.{Common.{◌≡◌, ◌++◌, length, sym, subst, arith, rules}, lemmas.Grind.common_steps}, specs.Vec.Iter.into_iter_items}
use Rattle.shared_queue.{proofs.OpeningLemmas.{all_there, blocks_there, homes_read, locks_distinct, queues_there, starts_well}, specs.Opening.AreQueues}
use Rattle.shared_queue.specs.Opening.{buffers_from}
use Rattle.shared_queue.proofs.opening.queue_blocks.Goals as goal

-- no lock occurs twice, each opens as it must, the pending queues record the homes, and each CPU
-- has its queue and each buffer its block
pub returns : goal.returns
returns g c =
    let locks = c.in_ok-locks.locks in
    let blocks = c.args.blocks.items in
    let homes = c.args.homes.now in
    let are = c.in_ok-locks.ensures.queues in
    let none : length (into_iter_items c.loop-above.above-iterator) ≡ 0
    = first_of (omega (arith, c.loop-above.above-iterator.rest.ok.0), grind (arith, common_steps), search rules) in
    let all : c.loop-above.locks.items ≡ locks.items ++ buffers_from 0 blocks
    = all_there homes c.loop-above.number c.loop-above.locks.items (locks.items ++ buffers_from 0 blocks)
    (into_iter_items c.loop-above.above-iterator) none c.loop-above.invariant.0 in
    let count : length locks.items ≡ c.args.cpus = omega (arith, c.in_ok-locks.ensures.count, locks.ok.0) in
    let queues : AreQueues (length locks.items) homes (length blocks) = subst (λ n. AreQueues n homes (length blocks)) (sym count) c.requires in
    record {
      distinct = rw all (locks_distinct homes 0 locks.items 0 blocks are);
      starts = rw all (starts_well homes locks.items blocks are queues);
      homes = rw all (homes_read homes locks.items blocks are queues);
      queues = λ cpu less. rw all (queues_there homes locks.items blocks are queues cpu (rw count less));
      blocks = λ b. rw all (blocks_there homes locks.items blocks are queues b);
    }
