-- The lists that all CPUs share: an allowed call can be done on them, and it keeps them in
-- agreement with the calls.
use Rattle.std.proofs.Common.{◌≡◌, ◌≢◌, ℕ, ◌<◌, true, false, List, [], ◌∷◌, ◌++◌, length, slice_get, slice_set, ◌==◌, if◌then◌else◌, Option, Some, IsSome}
use Rattle.std.proofs.{Common.{option_map, refl, ap, sym, ◌∙◌, subst, arith, Result, Ok, OnOk, replicate, reverse}, lemmas.Bool.{eq-eqb, eqb-true}}
use Rattle.std.proofs.lemmas.{List.{get_or-replicate, length-replicate, reverse-append}, Option.{get_or_from_slice_get, slice_get-get_or, slice_get_within}}
use Rattle.event_log.specs.declared.ids.{BufId.BufId, CpuId.CpuId, LockId.{LockId, TheVariants.{Pending, Buffer}}, Tid.Tid, TheConstants.CPUS}
use Rattle.event_log.{specs.{History.same_cpu, Sections.block_after}, proofs.{Same.same_cpu_true, ListLemmas.{set_else, set_there}}}
use Rattle.{thread_blocks.specs.Queues.is_in, layer_traits.specs.declared.queue_edits.QueueBlock.{QueueBlock, TheVariants.{Queue, Above}}}
use Rattle.layer_traits.specs.declared.{queue_edits.QueueAnswer.{QueueAnswer, TheVariants.{Taken, Answer}}, payloads.Payload.Payload}
use Rattle.layer_traits.specs.declared.{scheds.SchedCall.SchedCall, queues.QueueCall.{QueueCall, TheVariants.{Push, TakeAll, OnBuffer}}}
use Rattle.layer_traits.specs.{declared.queues.QueueEvent.QueueEvent, Threads.{MoveRules.{MoveRules, WakesSleepers, edit_move}, Places.pending_after}}
use Rattle.layer_traits.specs.{Threads.Places.pending_by, Blocks.{Payloads.{abstract_queue_call, abstract_sched_call}, QueueBlocks.{StartsAs, above_of}}}
use Rattle.layer_traits.specs.{Blocks.QueueBlocks.{homes_in, homes_of, inner}, Protocols.Protocol.Rules, Layers.Queues.{CallAllowed, Kernel, answer_of}}
use Rattle.layer_traits.{specs.Layers.{Queues.{buffer_sections, event, kernel, lock_of, moves_in, out_at}, Scheds.BufferIsThere}, proofs.Alone.block_there}
use Rattle.{layer_traits.proofs.{CallLemmas.moves_lawful, NestedLemmas.{push_known, push_new}}, plain_layers.specs.declared.kernel.Lists.Lists}
use Rattle.plain_layers.specs.{declared.kernel.Opening.Opening, Kernels.{CanDo, IsDone, IsKernel, SetsBlock, SetsQueue, opening_of, pending_in}}
use Rattle.shared_queue.specs.Opening.{AreQueues}
use Rattle.layer_traits.specs.declared.scheds.SchedCall.TheVariants as sched

-- a list of events that has grown by one, newest first
pub log_grown : {A F X : Type 0} (r : Result A F) (a : A) (old new : List X) (x : X) → r ≡ Ok a → OnOk r (new ≡ old ++ x ∷ []) → reverse new ≡ x ∷ reverse old
log_grown r a old new x is pushed = ap reverse (subst (λ o. OnOk o (new ≡ old ++ x ∷ [])) is pushed) ∙ reverse-append old (x ∷ [])

-- the handed part of a call names the lock of the call that it means
pub lock_handed : {H E : Type 0} (abstract_call : H → Payload → E) (call : QueueCall H) (payload : Payload)
    → lock_of (abstract_queue_call abstract_call call payload) ≡ lock_of call
lock_handed abstract_call call payload = grind arith

-- the buffer of a scheduler's call exists if that of its handed part does
pub there_meant : {H E B : Type 0} (abstract_call : H → Payload → E) (opening : LockId → Option (QueueBlock B)) (call : SchedCall H) (payload : Payload)
    → BufferIsThere opening call → BufferIsThere opening (abstract_sched_call abstract_call call payload)
there_meant abstract_call opening call payload there = grind arith

-- the handed part of a call can be done if the call that it means can
pub can_handed : {H E B : Type 0} (abstract_call : H → Payload → E) (call : QueueCall H) (payload : Payload) (lists : Lists B)
    → CanDo (abstract_queue_call abstract_call call payload) lists → CanDo call lists
can_handed abstract_call call payload lists can = grind arith

not_equal : (i j : ℕ) → (i == j) ≡ false → i ≢ j
not_equal i j other same = let equal : (i == j) ≡ true = eq-eqb i j same in absurd (cc (equal, other))

-- a list read at a place where there is something
within_some : {X : Type 0} (xs : List X) (i : ℕ) (o : Option X) → slice_get xs i ≡ o → IsSome o → i < length xs
within_some xs i o is there = grind (arith, slice_get_within)

-- so many times the same
pub repeated : {X : Type 0} (n i : ℕ) (x : X) → i < n → slice_get (replicate n x) i ≡ Some x
repeated n i x within =
    let long = length-replicate n x in
    slice_get-get_or (replicate n x) i x (omega (arith, within, long)) ∙ ap Some (get_or-replicate n i x x within)

module _ {E B O : Type 0} (protocol : Rules E B O) (mv : MoveRules E O) (wakes : WakesSleepers protocol mv) (start : Opening B) (past : List (QueueEvent E))
    (lists : Lists B) (sound : IsKernel protocol mv start past lists) where
  abbrev K : Kernel E B O
  K = kernel protocol mv (opening_of start)

  -- a queue that opened is there, and holds the threads that the moves leave pending
  queue_is : (d : CpuId) → IsSome (opening_of start (Pending d)) → slice_get lists.pending.items d.0 ≡ Some (pending_by (moves_in K past) d)
  queue_is d there = grind arith

  pending_is : (d : CpuId) → IsSome (opening_of start (Pending d)) → pending_in lists d ≡ pending_by (moves_in K past) d
  pending_is d there = get_or_from_slice_get lists.pending.items d.0 (pending_by (moves_in K past) d) [] (queue_is d there)

  queue_within : (d : CpuId) → IsSome (opening_of start (Pending d)) → d.0 < length lists.pending.items
  queue_within d there = slice_get_within lists.pending.items d.0 (pending_by (moves_in K past) d) (queue_is d there)

  -- a buffer that opened has its block
  block_some : (b : BufId) → IsSome (opening_of start (Buffer b))
      → IsSome (block_after protocol.edited (inner (opening_of start)) (Buffer b) (buffer_sections past))
  block_some b there = grind (arith, block_there)

  block_within : (b : BufId) → IsSome (opening_of start (Buffer b)) → b.0 < length lists.buffers.items
  block_within b there = within_some lists.buffers.items b.0 _ (sound.blocks b) (block_some b there)

  -- an allowed call can be done
  pub can_do : (c : CpuId) (call : QueueCall E) → IsSome (opening_of start (lock_of call)) → CallAllowed K past c call → CanDo call lists
  can_do c (Push d t) there allowed = (
    queue_within d there,
    push_known protocol mv (opening_of start) sound.starts past c d t allowed,
    ap (is_in t) (pending_is d there) ∙ push_new protocol mv (opening_of start) sound.starts past (moves_lawful K wakes past sound.lawful) c d d t allowed,
  )
  can_do c (TakeAll d) there allowed = queue_within d there
  can_do c (OnBuffer b e) there allowed = block_within b there

  -- A call that was done.

  -- the queues after one was written
  queues_set : (d : CpuId) (queue : List Tid) (after : CpuId → List Tid) (new : Lists B) → IsSome (opening_of start (Pending d)) → SetsQueue d queue lists new
      → queue ≡ after d → (e : CpuId)
      → slice_get new.pending.items e.0
      ≡ option_map (λ opened. if same_cpu d e then after e else pending_by (moves_in K past) e) (slice_get start.lists.value.pending.items e.0)
  queues_set d queue after new there sets is e = grind (arith, same_cpu_true, set_there, queue_within, set_else, not_equal)

  -- an edit moves no thread into a queue
  still : (b : BufId) (e : E) (queue : List Tid) (d : CpuId) (out : Option O) → pending_after (edit_move mv (Buffer b) e out) d queue ≡ queue
  still b e queue d out = grind arith

  -- the blocks after one was edited
  blocks_set : (b : BufId) (e : E) (block : B) (c : CpuId) (new : Lists B) → slice_get lists.buffers.items b.0 ≡ Some block
      → new.buffers.items ≡ slice_set lists.buffers.items b.0 (protocol.edited e block) → (at : BufId)
      → slice_get new.buffers.items at.0 ≡ block_after protocol.edited (inner (opening_of start)) (Buffer at) (buffer_sections (event c (OnBuffer b e) ∷ past))
  blocks_set b e block c new was sets at = grind (arith, eqb-true, set_there, slice_get_within, set_else, not_equal)

  -- what was done at a block that is there
  done_block : (b : BufId) (e : E) (new : Lists B) (answer : QueueAnswer O) → IsSome (opening_of start (Buffer b))
      → IsDone protocol (OnBuffer b e) lists new answer
      → (block : B) × (slice_get lists.buffers.items b.0 ≡ Some block) × SetsBlock b (protocol.edited e block) lists new
      × (answer ≡ Answer (protocol.answer e block))
  done_block b e new answer there done = grind (arith, block_some, sound.blocks)

  -- a call that was done keeps the lists in agreement
  pub kernel_after : (c : CpuId) (call : QueueCall E) (new : Lists B) (answer : QueueAnswer O) → c.0 < CPUS → IsSome (opening_of start (lock_of call))
      → CallAllowed K past c call → IsDone protocol call lists new answer → IsKernel protocol mv start (event c call ∷ past) new
  kernel_after c (Push d t) new answer known there allowed done = record {
    starts = sound.starts;
    lawful = (allowed, sound.lawful);
    known = (known, sound.known);
    queues = queues_set d (pending_in lists d ++ t ∷ []) (λ e. pending_by (moves_in K past) e ++ t ∷ []) new there done.0
        (ap (λ queue. queue ++ t ∷ []) (pending_is d there));
    blocks = λ b. ap (λ l. slice_get l b.0) done.0.1 ∙ sound.blocks b;
  }
  kernel_after c (TakeAll d) new answer known there allowed done = record {
    starts = sound.starts;
    lawful = (allowed, sound.lawful);
    known = (known, sound.known);
    queues = queues_set d [] (λ e. []) new there done.0 refl;
    blocks = λ b. ap (λ l. slice_get l b.0) done.0.1 ∙ sound.blocks b;
  }
  kernel_after c (OnBuffer b e) new answer known there allowed done =
      let was = done_block b e new answer there done in
      record {
        starts = sound.starts;
        lawful = (allowed, sound.lawful);
        known = (known, sound.known);
        queues = λ d. ap (λ l. slice_get l d.0) was.2.1
            ∙ (sound.queues d ∙ sym (ap (λ queue. option_map (λ opened. queue) (slice_get start.lists.value.pending.items d.0))
            (still b e (pending_by (moves_in K past) d) d (out_at K past b e))));
        blocks = blocks_set b e was.0 c new was.1 was.2.0;
      }

  -- and its result is that of the calls
  pub kernel_answers : (call : QueueCall E) (new : Lists B) (answer : QueueAnswer O) → IsSome (opening_of start (lock_of call))
      → IsDone protocol call lists new answer → answer_of K past call ≡ Some answer
  kernel_answers (Push d t) new answer there done = ap Some (sym done.1)
  kernel_answers (TakeAll d) new answer there done = ap (λ queue. Some (Taken queue)) (sym (pending_is d there)) ∙ ap Some (sym done.1)
  kernel_answers (OnBuffer b e) new answer there done =
      let was = done_block b e new answer there done in
      ap (λ o. option_map Answer (option_map (protocol.answer e) o)) (sym (sound.blocks b) ∙ was.1) ∙ ap Some (sym was.3)

-- a machine opens with these lists and homes, and no thread is pending
pub record OpensWith {B : Type 0} (start : Opening B) (lists : Lists B) (cpus : ℕ) (homes : List CpuId) : Type 0 where
  pub buffers : ℕ
  pub are : AreQueues cpus homes buffers
  pub opened : start.lists.value ≡ lists
  pub abstract_answer : start.homes.value.items ≡ homes
  pub empty : lists.pending.items ≡ replicate cpus []

module _ {B : Type 0} (start : Opening B) (lists : Lists B) (cpus : ℕ) (homes : List CpuId) (opens : OpensWith start lists cpus homes) where
  queue_opens : (c : CpuId) → c.0 < cpus → opening_of start (Pending c) ≡ Some (Queue [] start.homes)
  queue_opens c within = grind (arith, repeated)

  pub queue_is_there : (c : CpuId) → c.0 < cpus → IsSome (opening_of start (Pending c))
  queue_is_there c within = subst (λ x. IsSome x) (sym (queue_opens c within)) refl

  pub homes_read : homes_in (opening_of start) ≡ homes
  homes_read = ap homes_of (queue_opens (record { 0 = 0 }) opens.are.some) ∙ opens.abstract_answer

  each_empty : (i : ℕ) (queue : List Tid) → slice_get start.lists.value.pending.items i ≡ Some queue → queue ≡ []
  each_empty i queue is = grind (arith, length-replicate, slice_get_within, repeated)

  kinds : (lock : LockId) → StartsAs lock (opening_of start lock)
  kinds lock = grind (arith, each_empty)

  -- each buffer opens with the block in its place
  pub buffer_opens : (b : BufId) → inner (opening_of start) (Buffer b) ≡ slice_get lists.buffers.items b.0
  buffer_opens b = grind (arith, opens.opened)

  -- a machine opens sound
  pub kernel_fresh : {E O : Type 0} (protocol : Rules E B O) (mv : MoveRules E O) → IsKernel protocol mv start [] lists
  kernel_fresh protocol mv = record {
    starts = record {
      kinds = kinds;
      queues = λ t home is. queue_is_there home (grind (arith, homes_read, slice_get_within, get_or_from_slice_get, opens.are.within));
      room = rw homes_read opens.are.threads;
    };
    lawful = tt;
    known = tt;
    queues = λ d. grind (arith, each_empty, opens.opened);
    blocks = λ b. sym (buffer_opens b);
  }
