-- One thread and one buffer: what its own sections leave, and what its sections at another buffer
-- do.
use Rattle.std.proofs.Common.{◌≡◌, ◌≢◌, Bool, true, false, ◌&&◌, List, Option, Some, None, if◌then◌else◌, refl, sym, ap, ◌∙◌, subst, arith}
use Rattle.std.proofs.{lemmas.{Bool.{and_parts, and_from, and_right, false_from_ne_true}, Option.same_Some}, Math.Bool.and-true}
use Rattle.{event_log.specs.declared.ids.{CpuId.CpuId, Tid.Tid, BufId.BufId, LockId.TheVariants.Buffer as AtBuffer}, thread_blocks.specs.Queues.first}
use Rattle.{thread_blocks.proofs.Members.same_tid_self, layer_traits.specs.declared.locked.Side.{Side, TheVariants.{Receivers, Senders}}}
use Rattle.layer_traits.specs.{declared.moves.WaitList.WaitList, Threads.Places.{Where, Home, Asleep, At, is_thread, count_in}, Blocks.BufferBlocks.may_join}
use Rattle.{layer_traits.proofs.CountLemmas.{count_append, not_counted}, cpu.specs.Table.Blocks.{Buffer, Name, AcqQ, Enter, TryPut, TryTake, Shut, WaitOn}}
use Rattle.cpu.specs.Table.{Blocks.{SigRecv, SigSend, RelQ}, Edits.{acquired, line_on, lined_up, waiting, released, edited_buffer, answer_of_acquire}}
use Rattle.cpu.specs.{Table.{Edits.answer_of_buffer, Setups.SystemConfig}, Wakeups.Order.{Progress, Begins, HasEntered, WasRefused, Owes, progress_after}}
use Rattle.cpu.{specs.Wakeups.Order.MayEdit, proofs.Wakeups.{Lists.{refuted, first_is}, PostsAndVisits.{Waiting, Visit, In, is_buffer, sleeps_in, list_of}}}
use Rattle.cpu.proofs.Wakeups.PostsAndVisits.{names, goes_on, is_inside, stands, is_lined, InStep, caller_in, is_caller, waiters_of, post_woken, post_slept}
use Rattle.cpu.proofs.Wakeups.{PostsAndVisits.{post_moved, acquired_visit, next_visit, visit_moved, IsDue, marked}, ThreadAtBuffer.{Pair, paired, marked_none}}
use Rattle.cpu.proofs.Wakeups.ThreadAtBuffer.{marked_most, buffer_self, sleeps_here, grown_list, first_left, signal_left, front_counted, woken_sleeps}
use Rattle.layer_traits.specs.declared.moves.WaitList.TheVariants as wait_list

not_outside : (b : BufId) (t : Tid) (k : Buffer) (g : Progress) (visit : Visit) → goes_on visit ≡ false → Pair b t k g visit Home → k.busy ≢ Some t
not_outside b t k g visit off pair owner = refuted off (and_parts (names b visit) (goes_on visit) (pair.owner owner).0).1

-- what the caller of a section bears
abbrev pub ByCaller : Option Tid → (Tid → Type 0) → Type 0
ByCaller None P = ⊥
ByCaller (Some t) P = P t

pub may_edit : (b : BufId) (name : Name) (k : Buffer) (g : Progress) (visit : Visit)
    → ByCaller (caller_in name) (λ t. Pair b t k g visit Home) → IsDue b name visit → MayEdit name k g
may_edit b name k g visit pair due = grind (arith, not_outside, and_from, buffer_self)

-- The caller's own section.

module _ (b : BufId) (u : Tid) where
  not_first : (list : List Tid) → count_in u list ≡ 0 → is_thread u (first list) ≡ false
  not_first list none = false_from_ne_true (is_thread u (first list)) (λ is. let some = front_counted u list is in absurd (omega (arith, some, none)))

  own_acquire : (k : Buffer) (g : Progress) (o : Option Tid) (visit : Visit) → k.busy ≡ o
      → (k.busy ≡ None → g ≡ Begins) → IsDue b (AcqQ u) visit → Pair b u k g visit Home
      → Pair b u (acquired u o k) g (acquired_visit b visit) (if (answer_of_acquire o).slept then Asleep (At (AtBuffer b) wait_list.Sleepers) else Home)
  own_acquire k g o visit is idle due pair = grind (arith, paired, not_outside, sleeps_here, and_from, buffer_self, grown_list, marked_none, and_right)

  -- the pair of a thread that has the lock and continues, from its places in the two lines
  at_work : (k : Buffer) (g h : Progress) (before progress : Progress) (sends receives : List Tid) → k.busy ≡ Some u → InStep (In b progress) h
      → Pair b u k g (In b before) Home → count_in u sends ≡ marked u (is_lined b Senders (In b progress))
      → count_in u receives ≡ marked u (is_lined b Receivers (In b progress))
      → Pair b u (record k { send_line = sends; receive_line = receives }) h (In b progress) Home
  at_work k g h before progress sends receives owner step pair in_sends in_receives = grind (arith, paired, and_from, buffer_self)

  unlined : (progress : Progress) (side : Side) → stands side (In b progress) ≡ false → marked u (is_lined b side (In b progress)) ≡ 0
  unlined progress side off = marked_none u (is_buffer b b && stands side (In b progress)) (and_right (is_buffer b b) (stands side (In b progress)) off)

  lined : (progress : Progress) (side : Side) → stands side (In b progress) ≡ true → marked u (is_lined b side (In b progress)) ≡ marked u true
  lined progress side on = ap (marked u) (and_from (is_buffer b b) (stands side (In b progress)) (buffer_self b) on)

  own_enter : (k : Buffer) (g : Progress) (side : Side) (joins : Bool) → may_join u (line_on side k) ≡ joins → k.busy ≡ Some u → Pair b u k g (In b Begins) Home
      → Pair b u (if joins then lined_up u side k else k) (HasEntered side) (In b (HasEntered side)) Home
  own_enter k g side joins is owner pair = grind (arith, at_work, not_counted, same_tid_self, count_append, unlined, lined, is)

  -- the thread gives the lock back, and is inside no longer
  own_release : (k : Buffer) (g : Progress) (visit next : Visit) (x : Where) → Pair b u k g visit Home → is_inside b next ≡ false
      → sleeps_in b wait_list.Sleepers x ≡ false → count_in u k.send_line ≡ marked u (is_lined b Senders next)
      → count_in u k.receive_line ≡ marked u (is_lined b Receivers next) → (sends receives : List Tid)
      → count_in u sends ≡ marked u (sleeps_in b wait_list.Senders x) → count_in u receives ≡ marked u (sleeps_in b wait_list.Receivers x)
      → Pair b u (released (record k { waiting_senders = sends; waiting_receivers = receives })) Begins next x
  own_release k g visit next x pair outside off in_sends in_receives sends receives now_ws now_wr =
      grind (arith, paired, refuted, not_first, same_tid_self, first_left, marked_most, marked_none)

  own_wait : (k : Buffer) (g : Progress) (side : Side) → Pair b u k g (In b (WasRefused side)) Home
      → Pair b u (released (waiting u side k)) Begins (Waiting b side) (Asleep (At (AtBuffer b) (list_of side)))
  own_wait k g side pair = grind (arith, own_release, grown_list, and_from, and_right, buffer_self, marked_none)

  -- what the thread's own section makes of the pair, if it is due
  own_at : (name : Name) (k : Buffer) (g : Progress) (visit : Visit) → caller_in name ≡ Some u → (k.busy ≡ None → g ≡ Begins) → MayEdit name k g
      → IsDue b name visit → Pair b u k g visit Home
      → Pair b u (edited_buffer name k) (progress_after name k g) (next_visit b name k visit)
      (if (answer_of_buffer name k).slept then waiters_of b name else Home)
  own_at (AcqQ t) k g visit is idle may due pair =
      subst (λ v. IsDue b (AcqQ v) visit → Pair b u (acquired v k.busy k) g (acquired_visit b visit)
      (if (answer_of_acquire k.busy).slept then Asleep (At (AtBuffer b) wait_list.Sleepers) else Home))
      (same_Some u t (sym is)) (λ local. own_acquire k g k.busy visit refl idle local pair) due
  own_at (Enter t side) k g (In d Begins) is idle may due pair =
      let at_b : Pair b u k g (In b Begins) Home = subst (λ x. Pair b u k g (In x Begins) Home) due pair in
      let same : u ≡ t = same_Some u t (sym is) in
      rw (← same) (own_enter k g side (may_join u (line_on side k)) refl (subst (λ v. k.busy ≡ Some v) (sym same) may.0) at_b)
  own_at (Shut t) k g (In d Begins) is idle may due pair = grind (arith, at_work, unlined)
  own_at (TryPut t m) k g (In d (HasEntered Senders)) is idle may due pair =
      grind (arith, same_Some, and_parts, unlined, at_work, first_left, marked_most, first_is, same_tid_self)
  own_at (TryTake t) k g (In d (HasEntered Receivers)) is idle may due pair =
      grind (arith, same_Some, and_parts, unlined, at_work, first_left, marked_most, first_is, same_tid_self)
  own_at (WaitOn t side) k g (In d (WasRefused other)) is idle may due pair =
      let at_b : Pair b u k g (In b (WasRefused side)) Home = subst (λ x. x) (λ i. Pair b u k g (In (due.0 i) (WasRefused (due.1 i))) Home) pair in
      subst (λ v. Pair b u (released (waiting v side k)) Begins (Waiting b side) (Asleep (At (AtBuffer b) (list_of side)))) (same_Some u t (sym is))
      (own_wait k g side at_b)
  own_at (SigRecv t) k g (In d (Owes r s)) is idle may due pair
      = grind (arith, paired, and_from, buffer_self, marked_none, unlined, signal_left)
  own_at (SigSend t) k g (In d (Owes r s)) is idle may due pair
      = grind (arith, paired, and_from, buffer_self, marked_none, unlined, signal_left)
  own_at (RelQ t) k g (In d (Owes r s)) is idle may due pair = grind (arith, own_release, unlined, marked_none)
  own_at name k g visit is idle may due pair = absurd due

  -- a caller is not woken by its own section
  not_woken : (name : Name) (k : Buffer) (g : Progress) (visit : Visit) → Pair b u k g visit Home → is_thread u (answer_of_buffer name k).woke ≡ false
  not_woken name k g visit pair =
      false_from_ne_true (is_thread u (answer_of_buffer name k).woke) (λ on. absurd (cc (woken_sleeps b u k g visit Home pair name on).1))

  -- the caller's own section keeps the pair
  pub own_pair : (setup : SystemConfig) (c : CpuId) (name : Name) (k : Buffer) (g : Progress) (visit : Visit) (post : Where) → caller_in name ≡ Some u
      → post ≡ Home
      → (k.busy ≡ None → g ≡ Begins) → MayEdit name k g → IsDue b name visit → Pair b u k g visit post
      → Pair b u (edited_buffer name k) (progress_after name k g) (visit_moved b u name k visit)
      (post_moved setup c b u name (answer_of_buffer name k).slept (answer_of_buffer name k).woke post)
  own_pair setup c name k g visit post is here idle may due was =
      let pair : Pair b u k g visit Home = subst (Pair b u k g visit) here was in
      let calls : is_caller u name ≡ true = ap (is_thread u) is ∙ same_tid_self u in
      let at_visit : visit_moved b u name k visit ≡ next_visit b name k visit = ap (λ d. if d then next_visit b name k visit else visit) calls in
      let slept = (answer_of_buffer name k).slept in
      let at_post = ap (λ w. if w then post_woken setup c u else post_slept b u name slept post) (not_woken name k g visit pair)
      ∙ ap (λ d. if slept && d then waiters_of b name else post) calls
      ∙ ap (λ d. if d then waiters_of b name else post) (and-true slept)
      ∙ ap (λ x. if slept then waiters_of b name else x) here in
      rw at_visit (rw at_post (own_at name k g visit is idle may due pair))

-- A section elsewhere: the pair of any thread with another buffer.

-- a thread that does not touch this buffer: its visit is at another one, before and after
pub record Apart (b : BufId) (visit next : Visit) : Type 0 where
  pub before : names b visit ≡ false
  pub after : names b next ≡ false

pub stays_apart : (b d : BufId) (name : Name) (k : Buffer) (visit : Visit) → is_buffer b d ≡ false → IsDue d name visit
    → Apart b visit (next_visit d name k visit)
stays_apart b d name k visit off due = grind arith

-- the pair of a thread whose place bears the same marks of the buffer
pub post_apart : (b : BufId) (u : Tid) (k : Buffer) (g : Progress) (visit : Visit) (post next : Where)
    → ((list : WaitList) → sleeps_in b list next ≡ sleeps_in b list post) → Pair b u k g visit post → Pair b u k g visit next
post_apart b u k g visit post next same pair = grind (arith, paired)
