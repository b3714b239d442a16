-- The locks with which shared queues open are distinct, and each opens with its block.
use Rattle.std.proofs.Common.{◌≡◌, ◌≤◌, ◌<◌, ℕ, zero, suc, ◌+◌, All, List, [], ◌∷◌, ◌++◌, length, Option, Some, None, IsSome, if◌then◌else◌, refl, ap, sym, ◌∙◌}
use Rattle.std.proofs.{Common.{subst, arith, append-nil, slice_get}, lemmas.{Bool.{eq-eqb, eqb-false, ne_eqb}, Option.get_or_from_slice_get}}
use Rattle.std.proofs.lemmas.Option.{slice_get_within}
use Rattle.event_log.specs.{declared.ids.{BufId.BufId, CpuId.CpuId, LockId.{LockId, TheVariants.{Pending, Buffer}}, TheConstants.THREADS}, History.same_lock}
use Rattle.{event_log.proofs.Same.same_lock_true, layer_traits.specs.{declared.queue_edits.QueueBlock.QueueBlock, Protocols.OneLock.{AreDistinct, IsMissing}}}
use Rattle.layer_traits.specs.{Protocols.OneLock.opened, Threads.Places.home_of, Blocks.QueueBlocks.{StartsAs, StartsWell, above_of, homes_in, homes_of, inner}}
use Rattle.shared_queue.specs.Opening.{AreEmptyQueues, AreQueues, IsEmptyQueue, buffers_from}

each_within : (n : ℕ) (homes : List CpuId) (i : ℕ) (home : CpuId) → All (λ h. h.0 < n) homes → slice_get homes i ≡ Some home → home.0 < n
each_within n homes i home within at = grind (arith, get_or_from_slice_get, slice_get_within)

module _ {B : Type 0} (homes : List CpuId) where
  -- one queue more
  pub queues_more : (n k : ℕ) (locks : List (LockId × QueueBlock B)) (block : QueueBlock B) → AreEmptyQueues homes n locks → n + length locks ≡ k
      → IsEmptyQueue homes block → AreEmptyQueues homes n (locks ++ (Pending (record { 0 = k }), block) ∷ [])
  queues_more n k [] block are count empty = let here : k ≡ n = omega (arith, count) in (ap (λ m. Pending (record { 0 = m })) here, empty, tt)
  queues_more n k (o ∷ locks) block are count empty = (are.0, are.1, queues_more (n + 1) k locks block are.2 (omega (arith, count)) empty)

  -- once no block is left, the list has all locks
  pub all_there : (n : ℕ) (locks all : List (LockId × QueueBlock B)) (left : List B) → length left ≡ 0 → locks ++ buffers_from n left ≡ all → locks ≡ all
  all_there n locks all [] none is = sym (append-nil locks) ∙ is
  all_there n locks all (block ∷ left) none is = absurd (omega (arith, none))

  -- Each lock opens with its block.

  -- a lock opens with an empty queue
  abbrev pub OpensEmpty : Option (QueueBlock B) → Type 0
  OpensEmpty None = ⊥
  OpensEmpty (Some block) = IsEmptyQueue homes block

  queue_opens : (n : ℕ) (locks more : List (LockId × QueueBlock B)) → AreEmptyQueues homes n locks → (c : CpuId) → n ≤ c.0 → c.0 < n + length locks
      → OpensEmpty (opened (locks ++ more) (Pending c))
  queue_opens n [] more are c from below = absurd (omega (arith, from, below))
  queue_opens n (o ∷ locks) more are c from below = grind (arith, eqb-false, queue_opens (n + 1) locks more are.2 c)

  -- each lock opens with a block of its kind
  more_kinds : (o : LockId × QueueBlock B) (opens : LockId → Option (QueueBlock B)) → StartsAs o.0 (Some o.1) → ((lock : LockId) → StartsAs lock (opens lock))
      → (lock : LockId) → StartsAs lock (if same_lock o.0 lock then Some o.1 else opens lock)
  more_kinds o opens kind kinds lock = grind (arith, same_lock_true)

  empty_kind : (n : ℕ) (lock : LockId) (block : QueueBlock B) → lock ≡ Pending (record { 0 = n }) → IsEmptyQueue homes block → StartsAs lock (Some block)
  empty_kind n lock block at empty = grind arith

  queue_kinds : (n : ℕ) (locks more : List (LockId × QueueBlock B)) → AreEmptyQueues homes n locks → ((lock : LockId) → StartsAs lock (opened more lock))
      → (lock : LockId) → StartsAs lock (opened (locks ++ more) lock)
  queue_kinds n [] more are kinds = kinds
  queue_kinds n (o ∷ locks) more are kinds = grind (arith, more_kinds, empty_kind, queue_kinds (n + 1) locks more are.2 kinds)

  buffer_kinds : (n : ℕ) (blocks : List B) (lock : LockId) → StartsAs lock (opened (buffers_from n blocks) lock)
  buffer_kinds n [] lock = tt
  buffer_kinds n (block ∷ blocks) lock = grind (arith, more_kinds, buffer_kinds (n + 1) blocks)

  -- a buffer opens with the block in its place
  past_queues : (n : ℕ) (locks more : List (LockId × QueueBlock B)) → AreEmptyQueues homes n locks → (b : BufId)
      → opened (locks ++ more) (Buffer b) ≡ opened more (Buffer b)
  past_queues n [] more are b = refl
  past_queues n (o ∷ locks) more are b = grind (arith, past_queues (n + 1) locks more are.2 b)

  buffer_opens : (n : ℕ) (blocks : List B) (b : BufId) (i : ℕ) → b.0 ≡ n + i → above_of (opened (buffers_from n blocks) (Buffer b)) ≡ slice_get blocks i
  buffer_opens n [] b i at = refl
  buffer_opens n (block ∷ blocks) b zero at = grind (arith, eq-eqb)
  buffer_opens n (block ∷ blocks) b (suc i) at = grind (arith, ne_eqb, buffer_opens (n + 1) blocks b i)

  -- No lock occurs twice.

  missing_both : (lock : LockId) (locks more : List (LockId × QueueBlock B)) → IsMissing lock locks → IsMissing lock more → IsMissing lock (locks ++ more)
  missing_both lock [] more first second = second
  missing_both lock (o ∷ locks) more first second = (first.0, missing_both lock locks more first.1 second)

  queue_missing : (k n : ℕ) (locks : List (LockId × QueueBlock B)) → AreEmptyQueues homes n locks → k < n → IsMissing (Pending (record { 0 = k })) locks
  queue_missing k n [] are less = tt
  queue_missing k n (o ∷ locks) are less = grind (arith, ne_eqb, queue_missing k (n + 1) locks are.2 (omega (arith, less)))

  no_queue : (k n : ℕ) (blocks : List B) → IsMissing (Pending (record { 0 = k })) (buffers_from n blocks)
  no_queue k n [] = tt
  no_queue k n (block ∷ blocks) = (refl, no_queue k (n + 1) blocks)

  buffer_missing : (k n : ℕ) (blocks : List B) → k < n → IsMissing (Buffer (record { 0 = k })) (buffers_from n blocks)
  buffer_missing k n [] less = tt
  buffer_missing k n (block ∷ blocks) less = (ne_eqb k n (λ e. absurd (omega (arith, less, e))), buffer_missing k (n + 1) blocks (omega (arith, less)))

  buffers_distinct : (n : ℕ) (blocks : List B) → AreDistinct (buffers_from n blocks)
  buffers_distinct n [] = tt
  buffers_distinct n (block ∷ blocks) = (buffer_missing n (n + 1) blocks (omega arith), buffers_distinct (n + 1) blocks)

  pub locks_distinct : (n : ℕ) (locks : List (LockId × QueueBlock B)) (k : ℕ) (blocks : List B) → AreEmptyQueues homes n locks
      → AreDistinct (locks ++ buffers_from k blocks)
  locks_distinct n [] k blocks are = buffers_distinct k blocks
  locks_distinct n (o ∷ locks) k blocks are = (
    subst (λ lock. IsMissing lock (locks ++ buffers_from k blocks)) (sym are.0)
        (missing_both (Pending (record { 0 = n })) locks (buffers_from k blocks) (queue_missing n (n + 1) locks are.2 (omega arith)) (no_queue n k blocks)),
    locks_distinct (n + 1) locks k blocks are.2,
  )

  -- The locks of a machine, together.

  module _ (locks : List (LockId × QueueBlock B)) (blocks : List B) (are : AreEmptyQueues homes 0 locks)
      (queues : AreQueues (length locks) homes (length blocks)) where
    queue_there : (c : CpuId) → c.0 < length locks → OpensEmpty (opened (locks ++ buffers_from 0 blocks) (Pending c))
    queue_there c less = queue_opens 0 locks (buffers_from 0 blocks) are c (omega arith) (omega (arith, less))

    is_there : (found : Option (QueueBlock B)) → OpensEmpty found → IsSome found
    is_there found empty = grind arith

    tells : (found : Option (QueueBlock B)) → OpensEmpty found → homes_of found ≡ homes
    tells found empty = grind arith

    pub queues_there : (c : CpuId) → c.0 < length locks → IsSome (opened (locks ++ buffers_from 0 blocks) (Pending c))
    queues_there c less = is_there (opened (locks ++ buffers_from 0 blocks) (Pending c)) (queue_there c less)

    pub homes_read : homes_in (opened (locks ++ buffers_from 0 blocks)) ≡ homes
    homes_read = tells (opened (locks ++ buffers_from 0 blocks) (Pending (record { 0 = 0 }))) (queue_there (record { 0 = 0 }) (omega (arith, queues.some)))

    pub starts_well : StartsWell (opened (locks ++ buffers_from 0 blocks))
    starts_well = record {
      kinds = queue_kinds 0 locks (buffers_from 0 blocks) are (buffer_kinds 0 blocks);
      queues = λ t home at. queues_there home (each_within (length locks) homes t.0 home queues.within (subst (λ hs. home_of hs t ≡ Some home) homes_read at));
      room = subst (λ hs. length hs ≤ THREADS) (sym homes_read) queues.threads;
    }

    pub blocks_there : (b : BufId) → inner (opened (locks ++ buffers_from 0 blocks)) (Buffer b) ≡ slice_get blocks b.0
    blocks_there b = ap above_of (past_queues 0 locks (buffers_from 0 blocks) are b) ∙ buffer_opens 0 blocks b b.0 (omega arith)
