-- One thread and one buffer: its places at the buffer are, by count, those that its post and its
-- visit give, and it owns the lock exactly if its visit says so. Everything here is about plain
-- values; the log follows later.
use Rattle.std.proofs.Common.{◌≡◌, ◌<◌, ◌≤◌, Bool, true, false, ◌&&◌, List, [], ◌∷◌, Option, Some, None, nat_lt, if◌then◌else◌, refl, sym, ap, ◌∙◌, subst}
use Rattle.std.proofs.{Common.arith, lemmas.{Bool.{eq-eqb, eqb-true, and_parts, and_right}, Option.same_Some}}
use Rattle.event_log.specs.{declared.ids.{CpuId.CpuId, Tid.Tid, BufId.BufId, LockId.TheVariants.Buffer as AtBuffer, TheConstants.THREADS}, Messages.Message}
use Rattle.{event_log.{specs.History.same_cpu, proofs.Same.buffer_numbered}, thread_blocks.{specs.Queues.{same_tid, first, rest}, proofs.Members.same_tid_self}}
use Rattle.{thread_blocks.proofs.Members.same_tid_true, layer_traits.specs.declared.locked.Side.{Side, TheVariants.{Receivers, Senders}}}
use Rattle.layer_traits.specs.{declared.moves.WaitList.WaitList, Threads.{ListsAgree.same_list, Places.{Where, Asleep, At, is_thread, one_if, count_in}}}
use Rattle.layer_traits.{specs.{Layers.Sleeping.joined, Blocks.BufferBlocks.may_join}, proofs.CountLemmas.{same_tid_sym, count_append, count_front, in_counted}}
use Rattle.layer_traits.proofs.{CountLemmas.{not_counted, count_behind}, ListsLemmas.{count_without, at_wait_channel, wait_channel_here}}
use Rattle.cpu.specs.Table.{Blocks.{Buffer, Name, AcqQ, Enter, TryPut, TryTake, Shut, WaitOn, SigRecv, SigSend, RelQ, front_stands_in}, Edits.{may_try, due_on}}
use Rattle.cpu.specs.Table.Edits.{without_any, acquired, line_on, lined_up, put, taken, shut_off, waiting, released, edited_buffer, answer_of_buffer}
use Rattle.cpu.specs.{Table.{Edits.{signal_sent, waiting_of}, Setups.{SystemConfig, home_cpu}}, Wakeups.Order.{Progress, Begins, HasEntered, WasRefused, Owes}}
use Rattle.cpu.{specs.Wakeups.Order.{progress_after, progress_signalled, MayEdit}, proofs.Wakeups.{Lists.{refuted, first_is}, PostsAndVisits.Visit}}
use Rattle.cpu.proofs.Wakeups.PostsAndVisits.{is_buffer, sleeps_in, sleeps_at, is_inside, is_starting, is_lined, InStep, is_caller, post_by, post_woken}
use Rattle.cpu.proofs.Wakeups.PostsAndVisits.{post_moved, visit_moved, marked, list_of}
use Rattle.layer_traits.specs.declared.moves.WaitList.TheVariants as wait_list

-- a thread and a buffer's lock: its owner, the lists of its sleepers and of the threads that wait
-- to send and to receive, and the two lines
pub record PairOf (b : BufId) (u : Tid) (busy : Option Tid) (asleep senders_in receivers_in sends receives : List Tid) (g : Progress) (visit : Visit)
    (post : Where) : Type 0 where
  -- the lock's owner is inside and awake, and its progress is what its visit says
  pub owner : busy ≡ Some u → (is_inside b visit ≡ true) × InStep visit g × (sleeps_in b wait_list.Sleepers post ≡ false)
  -- a thread that is inside, and does not sleep at the lock, owns it
  pub inside : is_inside b visit ≡ true → sleeps_in b wait_list.Sleepers post ≡ false → busy ≡ Some u
  -- a thread that sleeps at the lock has done nothing except acquire it
  pub starts : sleeps_in b wait_list.Sleepers post ≡ true → is_starting b visit ≡ true
  pub sleepers : count_in u asleep ≡ marked u (sleeps_in b wait_list.Sleepers post)
  pub senders : count_in u senders_in ≡ marked u (sleeps_in b wait_list.Senders post)
  pub receivers : count_in u receivers_in ≡ marked u (sleeps_in b wait_list.Receivers post)
  pub send_line : count_in u sends ≡ marked u (is_lined b Senders visit)
  pub receive_line : count_in u receives ≡ marked u (is_lined b Receivers visit)

-- nothing else of the buffer matters
abbrev pub Pair : BufId → Tid → Buffer → Progress → Visit → Where → Type 0
Pair b u k g visit post = PairOf b u k.busy k.sleepers k.waiting_senders k.waiting_receivers k.send_line k.receive_line g visit post

-- a pair from its parts, in their order
pub paired : {b : BufId} {u : Tid} {busy : Option Tid} {asleep senders_in receivers_in sends receives : List Tid} {g : Progress} {visit : Visit} {post : Where}
    → (busy ≡ Some u → (is_inside b visit ≡ true) × InStep visit g × (sleeps_in b wait_list.Sleepers post ≡ false))
    → (is_inside b visit ≡ true → sleeps_in b wait_list.Sleepers post ≡ false → busy ≡ Some u)
    → (sleeps_in b wait_list.Sleepers post ≡ true → is_starting b visit ≡ true) → count_in u asleep ≡ marked u (sleeps_in b wait_list.Sleepers post)
    → count_in u senders_in ≡ marked u (sleeps_in b wait_list.Senders post) → count_in u receivers_in ≡ marked u (sleeps_in b wait_list.Receivers post)
    → count_in u sends ≡ marked u (is_lined b Senders visit) → count_in u receives ≡ marked u (is_lined b Receivers visit)
    → PairOf b u busy asleep senders_in receivers_in sends receives g visit post
paired owner inside starts sleepers senders receivers send_line receive_line = grind arith

-- its places by side
pub line_count : (b : BufId) (u : Tid) (k : Buffer) (g : Progress) (visit : Visit) (x : Where) → Pair b u k g visit x
    → (side : Side) → count_in u (line_on side k) ≡ marked u (is_lined b side visit)
line_count b u k g visit x pair side = grind arith

pub wait_count : (b : BufId) (u : Tid) (k : Buffer) (g : Progress) (visit : Visit) (x : Where) → Pair b u k g visit x
    → (side : Side) → count_in u (waiting_of side k) ≡ marked u (sleeps_in b (list_of side) x)
wait_count b u k g visit x pair side = grind arith

-- Marks and counts.

pub marked_none : (u : Tid) (m : Bool) → m ≡ false → marked u m ≡ 0
marked_none u m off = grind arith

pub marked_some : (u : Tid) (m : Bool) → 0 < marked u m → (nat_lt u.0 THREADS ≡ true) × (m ≡ true)
marked_some u m some = grind arith

pub marked_most : (u : Tid) (m : Bool) → marked u m ≤ 1
marked_most u m = grind arith

-- a list that thread u has joined
pub grown_list : (u : Tid) (list : List Tid) → count_in u list ≡ 0 → count_in u (joined u list) ≡ marked u true
grown_list u list none = grind (arith, not_counted u list none, same_tid_self u, count_append u list (u ∷ []))

-- a list that another thread has joined
pub other_joined : (u t : Tid) (list : List Tid) → same_tid t u ≡ false → count_in u (joined t list) ≡ count_in u list
other_joined u t list other = grind (arith, count_append u list (t ∷ []), same_tid_sym u t)

-- the first has left a list
pub first_left : (u : Tid) (list : List Tid) → count_in u list ≤ 1 → count_in u (rest list) ≡ (if is_thread u (first list) then 0 else count_in u list)
first_left u list most = grind (arith, count_front u list)

-- the first of a list is in the list
pub front_counted : (u : Tid) (list : List Tid) → is_thread u (first list) ≡ true → 0 < count_in u list
front_counted u list is = let one : one_if (is_thread u (first list)) ≡ 1 = ap one_if is in omega (arith, one, count_front u list)

-- a signal has taken out the thread that it woke
pub signal_left : (u : Tid) (woke : Option Tid) (list : List Tid) → count_in u (without_any woke list) ≡ (if is_thread u woke then 0 else count_in u list)
signal_left u woke list = grind (arith, count_without)

-- the thread that a signal wakes was waiting
woken_waits : (u : Tid) (line list : List Tid) (can : Bool)
    → is_thread u (if front_stands_in line list && can then first line else None) ≡ true → 0 < count_in u list
woken_waits u [] list can woke = grind arith
woken_waits u (x ∷ line) list can woke = grind (arith, in_counted u list, same_tid_true x u)

-- Posts.

pub buffer_self : (b : BufId) → is_buffer b b ≡ true
buffer_self b = eq-eqb b.0 b.0 refl

pub buffer_true : (b d : BufId) → is_buffer b d ≡ true → b ≡ d
buffer_true b d same = ap buffer_numbered (eqb-true b.0 d.0 same)

-- a woken thread sleeps nowhere
pub woken_awake : (b : BufId) (list : WaitList) (here : Bool) (c : CpuId) → sleeps_in b list (post_by here c) ≡ false
woken_awake b list here c = grind arith

-- a thread that sleeps in a list of the buffer sleeps there, and in no other list
pub sleeps_here : (b : BufId) (list : WaitList) → sleeps_in b list (Asleep (At (AtBuffer b) list)) ≡ true
sleeps_here b list = wait_channel_here (AtBuffer b) list

one_list : (b : BufId) (list other : WaitList) (x : Where) → same_list list other ≡ false → sleeps_in b list x ≡ true → sleeps_in b other x ≡ false
one_list b list other x apart on = grind (arith, at_wait_channel, and_right)

module _ (b : BufId) (u : Tid) (k : Buffer) (g : Progress) (visit : Visit) (post : Where) (pair : Pair b u k g visit post) where
  pub first_sleeps : is_thread u (first k.sleepers) ≡ true → (nat_lt u.0 THREADS ≡ true) × (sleeps_in b wait_list.Sleepers post ≡ true)
  first_sleeps is = marked_some u (sleeps_in b wait_list.Sleepers post) (subst (λ n. 0 < n) pair.sleepers (front_counted u k.sleepers is))

  pub due_waits : (side : Side) → is_thread u (due_on side k) ≡ true → (nat_lt u.0 THREADS ≡ true) × (sleeps_in b (list_of side) post ≡ true)
  due_waits side is = grind (arith, marked_some, woken_waits)

  sleeps_so : (list : WaitList) → (nat_lt u.0 THREADS ≡ true) × (sleeps_in b list post ≡ true) → (nat_lt u.0 THREADS ≡ true) × (sleeps_at b post ≡ true)
  sleeps_so list at = grind (arith, and_parts)

  -- a thread that is woken sleeps at the buffer, and its number is a thread's
  pub woken_sleeps : (name : Name) → is_thread u (answer_of_buffer name k).woke ≡ true → (nat_lt u.0 THREADS ≡ true) × (sleeps_at b post ≡ true)
  woken_sleeps (SigRecv t) is = sleeps_so wait_list.Receivers (due_waits Receivers is)
  woken_sleeps (SigSend t) is = sleeps_so wait_list.Senders (due_waits Senders is)
  woken_sleeps (WaitOn t side) is = sleeps_so wait_list.Sleepers (first_sleeps is)
  woken_sleeps (RelQ t) is = sleeps_so wait_list.Sleepers (first_sleeps is)
  woken_sleeps name is = grind (arith, refuted)

-- A section of another thread on the buffer.

start_inside : (b : BufId) (visit : Visit) → is_starting b visit ≡ true → (is_inside b visit ≡ true) × InStep visit Begins
start_inside b visit on = grind (arith, and_parts)

-- another thread owns the lock
not_mine : {A : Type 0} (u t : Tid) (o : Option Tid) → o ≡ Some t → same_tid t u ≡ false → o ≡ Some u → A
not_mine u t o owner other mine = refuted other (subst (λ x. same_tid t x ≡ true) (same_Some t u (sym owner ∙ mine)) (same_tid_self t))

module _ (setup : SystemConfig) (c : CpuId) (b : BufId) (u t : Tid) (other : same_tid t u ≡ false) (visit : Visit) (post : Where) where
  other_acquire : (k : Buffer) (g : Progress) (o : Option Tid) → k.busy ≡ o → Pair b u k g visit post → Pair b u (acquired t o k) g visit post
  other_acquire k g o is pair = grind (arith, paired, other_joined)

  -- only the lines and the owner's progress are changed
  with_lines : (k : Buffer) (g h : Progress) → k.busy ≡ Some t → Pair b u k g visit post
      → (sends receives : List Tid) → count_in u sends ≡ count_in u k.send_line → count_in u receives ≡ count_in u k.receive_line
      → Pair b u (record k { send_line = sends; receive_line = receives }) h visit post
  with_lines k g h owner pair sends receives same_sends same_receives = grind (arith, paired)

  other_enter : (k : Buffer) (g : Progress) (side : Side) (joins : Bool) → k.busy ≡ Some t → Pair b u k g visit post
      → Pair b u (if joins then lined_up t side k else k) (HasEntered side) visit post
  other_enter k g side joins owner pair = grind (arith, with_lines, count_behind)

  other_put : (k : Buffer) (g : Progress) (m : Message) (may : Bool) → may_try Senders t k ≡ may → k.busy ≡ Some t → Pair b u k g visit post
      → Pair b u (if may then put m k else k) (if may then Owes true true else WasRefused Senders) visit post
  other_put k g m may is owner pair = grind (arith, and_parts, with_lines, first_is, count_front)

  other_take : (k : Buffer) (g : Progress) (may : Bool) → may_try Receivers t k ≡ may → k.busy ≡ Some t → Pair b u k g visit post
      → Pair b u (if may then taken k else k) (if may then Owes true true else WasRefused Receivers) visit post
  other_take k g may is owner pair = grind (arith, and_parts, with_lines, first_is, count_front)

  other_shut : (k : Buffer) (g : Progress) → k.busy ≡ Some t → Pair b u k g visit post → Pair b u (shut_off k) (Owes true true) visit post
  other_shut k g owner pair = with_lines k g (Owes true true) owner pair k.send_line k.receive_line refl refl

  other_release : (k : Buffer) (g : Progress) → k.busy ≡ Some t → Pair b u k g visit post
      → Pair b u (released k) Begins visit (if is_thread u (first k.sleepers) then post_woken setup c u else post)
  other_release k g owner pair = by_test (is_thread u (first k.sleepers)) refl
    where
      most : count_in u k.sleepers ≤ 1
      most = subst (λ n. n ≤ 1) (sym pair.sleepers) (marked_most u (sleeps_in b wait_list.Sleepers post))

      by_test : (w : Bool) → is_thread u (first k.sleepers) ≡ w → Pair b u (released k) Begins visit (if w then post_woken setup c u else post)
      by_test true is =
          let on = (first_sleeps b u k g visit post pair is).1 in
          let no_lock = woken_awake b wait_list.Sleepers (same_cpu (home_cpu setup u) c) c in
          let start = start_inside b visit (pair.starts on) in
          paired (λ e. (start.0, start.1, no_lock)) (λ ins awake. grind (arith, same_tid_true, is)) (λ now. refuted no_lock now)
          (first_left u k.sleepers most ∙ ap (λ x. if x then 0 else count_in u k.sleepers) is ∙ sym (marked_none u _ no_lock))
          (pair.senders ∙ ap (marked u)
          (one_list b wait_list.Sleepers wait_list.Senders post refl on ∙ sym (woken_awake b wait_list.Senders (same_cpu (home_cpu setup u) c) c)))
          (pair.receivers ∙ ap (marked u)
          (one_list b wait_list.Sleepers wait_list.Receivers post refl on ∙ sym (woken_awake b wait_list.Receivers (same_cpu (home_cpu setup u) c) c)))
          pair.send_line pair.receive_line
      by_test false is = grind (arith, paired, refuted, same_tid_self, owner, first_left, most)

  other_wait : (k : Buffer) (g : Progress) (side : Side) → k.busy ≡ Some t → Pair b u k g visit post
      → Pair b u (released (waiting t side k)) Begins visit (if is_thread u (first k.sleepers) then post_woken setup c u else post)
  other_wait k g Senders owner pair = other_release (waiting t Senders k) g owner (grind (arith, paired, other_joined, pair))
  other_wait k g Receivers owner pair = other_release (waiting t Receivers k) g owner (grind (arith, paired, other_joined, pair))

  other_signal : (k : Buffer) (g h : Progress) (side : Side) → k.busy ≡ Some t → Pair b u k g visit post
      → Pair b u (signal_sent side k) h visit (if is_thread u (due_on side k) then post_woken setup c u else post)
  other_signal k g h side owner pair = by_test (is_thread u (due_on side k)) refl
    where
      by_test : (w : Bool) → is_thread u (due_on side k) ≡ w → Pair b u (signal_sent side k) h visit (if w then post_woken setup c u else post)
      by_test true is =
          let on = (due_waits b u k g visit post pair side is).1 in
          let off = one_list b (list_of side) wait_list.Sleepers post (grind arith) on in
          grind (arith, paired, owner, not_mine, on, off, one_list, woken_awake, signal_left, marked_none, is)
      by_test false is = grind (arith, paired, owner, signal_left, is)

other_section : (setup : SystemConfig) (c : CpuId) (b : BufId) (u : Tid) (name : Name) (k : Buffer) (g : Progress) (visit : Visit) (post : Where)
    → is_caller u name ≡ false → MayEdit name k g → Pair b u k g visit post
    → Pair b u (edited_buffer name k) (progress_after name k g) visit (if is_thread u (answer_of_buffer name k).woke then post_woken setup c u else post)
other_section setup c b u (AcqQ t) k g visit post other may pair =
    subst (λ x. Pair b u (acquired t k.busy k) g visit x) (sym (grind arith)) (other_acquire setup c b u t other visit post k g k.busy refl pair)
other_section setup c b u (Enter t side) k g visit post other may pair =
    other_enter setup c b u t other visit post k g side (may_join t (line_on side k)) may.0 pair
other_section setup c b u (TryPut t m) k g visit post other may pair = other_put setup c b u t other visit post k g m (may_try Senders t k) refl may.0 pair
other_section setup c b u (TryTake t) k g visit post other may pair = other_take setup c b u t other visit post k g (may_try Receivers t k) refl may.0 pair
other_section setup c b u (Shut t) k g visit post other may pair = other_shut setup c b u t other visit post k g may.0 pair
other_section setup c b u (WaitOn t side) k g visit post other may pair = other_wait setup c b u t other visit post k g side may.0 pair
other_section setup c b u (SigRecv t) k g visit post other may pair
    = other_signal setup c b u t other visit post k g (progress_signalled Receivers g) Receivers may.0 pair
other_section setup c b u (SigSend t) k g visit post other may pair
    = other_signal setup c b u t other visit post k g (progress_signalled Senders g) Senders may.0 pair
other_section setup c b u (RelQ t) k g visit post other may pair = other_release setup c b u t other visit post k g may.0 pair
other_section setup c b u name k g visit post other may pair = absurd may

-- a section of another thread on the buffer keeps the pair
pub other_pair : (setup : SystemConfig) (c : CpuId) (b : BufId) (u : Tid) (name : Name) (k : Buffer) (g : Progress) (visit : Visit) (post : Where)
    → is_caller u name ≡ false → MayEdit name k g → Pair b u k g visit post
    → Pair b u (edited_buffer name k) (progress_after name k g) (visit_moved b u name k visit)
    (post_moved setup c b u name (answer_of_buffer name k).slept (answer_of_buffer name k).woke post)
other_pair setup c b u name k g visit post other may pair = grind (arith, other_section, and_right)
