-- The invariant of every section log in which each section may occur: every buffer with every
-- thread, and the place of each thread.
use Rattle.std.proofs.Common.{◌≡◌, Bool, true, false, ◌&&◌, List, [], ◌∷◌, length, Option, Some, None, option_map, nat_lt, if◌then◌else◌, refl, sym, ap, ◌∙◌}
use Rattle.std.proofs.{Common.{subst, arith}, lemmas.Bool.{and_parts, and_left, and_right, false_from_ne_true}}
use Rattle.event_log.specs.declared.ids.{CpuId.CpuId, Tid.Tid, BufId.BufId, LockId.{LockId, TheVariants.{Pending, Buffer as AtBuffer}}, TheConstants.THREADS}
use Rattle.event_log.{specs.{History.same_cpu, Sections.Section}, proofs.Same.{same_cpu_self, same_cpu_true, same_lock_self, same_lock_true}}
use Rattle.{thread_blocks.{specs.Queues.same_tid, proofs.Members.same_tid_true}, layer_traits.specs.{declared.moves.WaitList.WaitList, Threads.Places.Where}}
use Rattle.layer_traits.specs.{Threads.Places.{Home, Hand, IsPending, is_home, is_thread, one_if, count_in}, Layers.Sleeping.joined}
use Rattle.{layer_traits.proofs.CountLemmas.same_cpu_sym, cpu.specs.Table.{Blocks.{Buffer, Block, OfBuffer, OfPending, Name, Pend, TakeAll}, Edits.edited}}
use Rattle.cpu.specs.{Table.{Edits.{edited_buffer, answer_of_buffer}, Setups.{SystemConfig, home_cpu}}, Wakeups.Order.{Progress, progress, progress_by}}
use Rattle.cpu.{specs.Wakeups.Order.{progress_after, block_of, MayEdit, MayEditBlock, IsInOrder}, proofs.Wakeups.{Lists.refuted, Awake.IsAwake}}
use Rattle.cpu.proofs.Wakeups.{Ordered.{same_buffer, buffer_awake}, ThreadAtBuffer.{Pair, paired, marked_none, grown_list, buffer_self, buffer_true}}
use Rattle.cpu.proofs.Wakeups.{ThreadAtBuffer.{woken_sleeps, woken_awake, other_pair, other_joined}, OwnSections.{may_edit, own_pair, stays_apart}}
use Rattle.cpu.proofs.Wakeups.{OwnSections.post_apart, PostsAndVisits.{is_buffer, sleeps_in, sleeps_at, is_pending, is_moved, caller_in, is_caller, waiters_of}}
use Rattle.cpu.proofs.Wakeups.PostsAndVisits.{post_woken, post_moved, post_pending, post_buffer, post, next_visit, visit_moved, visit_buffer, visit, IsCallers}
use Rattle.cpu.proofs.Wakeups.PostsAndVisits.{MayComeBy, MayComeTo, MayComeAt, MayCome, marked}

-- what holds after a section log
pub record Good (setup : SystemConfig) (past : List (Section Name)) : Type 0 where
  pub ordered : IsInOrder setup past
  pub pairs : (b : BufId) (u : Tid) (k : Buffer) → block_of setup (AtBuffer b) past ≡ Some (OfBuffer k)
      → Pair b u k (progress setup (AtBuffer b) past) (visit setup u past) (post setup u past)
  pub pending : (d : CpuId) (u : Tid) (threads : List Tid) → block_of setup (Pending d) past ≡ Some (OfPending threads)
      → count_in u threads ≡ one_if (same_cpu (home_cpu setup u) d && is_pending (post setup u past))
  -- only a number that is a thread's was ever woken
  pub small : (u : Tid) → is_moved (post setup u past) ≡ true → nat_lt u.0 THREADS ≡ true
  -- a thread that is not at `Home` has a home CPU
  pub known : (u : Tid) → is_home (post setup u past) ≡ false → nat_lt u.0 (length setup.homes) ≡ true

-- A new log.

pub good_none : (setup : SystemConfig) → Good setup []
good_none setup = grind (arith, same_buffer, paired, marked_none, and_right)

-- How a section moves a thread.

-- after a section of CPU c at buffer d a thread was woken there, fell asleep there as the section's
-- caller, or is where it was
pub data Moves (setup : SystemConfig) (c : CpuId) (d : BufId) (u : Tid) (name : Name) (post now : Where) : Type 0 where
  was_woken : nat_lt u.0 THREADS ≡ true → sleeps_at d post ≡ true → now ≡ post_woken setup c u → Moves setup c d u name post now
  has_slept : post ≡ Home → is_caller u name ≡ true → now ≡ waiters_of d name → Moves setup c d u name post now
  stays : now ≡ post → Moves setup c d u name post now

-- the caller of a section is at `Home`, and its section is due
abbrev pub CallersAre : SystemConfig → List (Section Name) → CpuId → BufId → Name → Type 0
CallersAre setup past c d name = (u : Tid) → caller_in name ≡ Some u → IsCallers setup c d name u (post setup u past) (visit setup u past)

pub callers_are : (setup : SystemConfig) (past : List (Section Name)) (c : CpuId) (d : BufId) (name : Name)
    → MayComeBy setup past c d name (caller_in name) → CallersAre setup past c d name
callers_are setup past c d name may u is = subst (MayComeBy setup past c d name) is may

pub is_the_caller : (u : Tid) (name : Name) → is_caller u name ≡ true → caller_in name ≡ Some u
is_the_caller u name on = grind (arith, same_tid_true, on)

moves_buffer : (setup : SystemConfig) (past : List (Section Name)) (c : CpuId) (d : BufId) (name : Name) (u : Tid) (k : Buffer) (g : Progress)
    → CallersAre setup past c d name → Pair d u k g (visit setup u past) (post setup u past)
    → Moves setup c d u name (post setup u past)
    (post_moved setup c d u name (answer_of_buffer name k).slept (answer_of_buffer name k).woke (post setup u past))
moves_buffer setup past c d name u k g callers pair =
    by_test (is_thread u (answer_of_buffer name k).woke) refl (answer_of_buffer name k).slept (is_caller u name) refl
  where
    by_test : (w : Bool) → is_thread u (answer_of_buffer name k).woke ≡ w → (slept : Bool) (mine : Bool) → is_caller u name ≡ mine
        → Moves setup c d u name (post setup u past) (if w then post_woken setup c u else (if slept && mine then waiters_of d name else post setup u past))
    by_test true is slept mine local =
        let at = woken_sleeps d u k g (visit setup u past) (post setup u past) pair name is in
        was_woken at.0 at.1 refl
    by_test false is true true local = has_slept (callers u (is_the_caller u name local)).here local refl
    by_test false is slept mine local = stays refl

pub moves_at : (setup : SystemConfig) (past : List (Section Name)) → Good setup past → (c : CpuId) (d : BufId) (name : Name) → CallersAre setup past c d name
    → (u : Tid) (o : Option Block) → block_of setup (AtBuffer d) past ≡ o
    → Moves setup c d u name (post setup u past) (post_buffer setup c d u name o (post setup u past))
moves_at setup past good c d name callers u (Some (OfBuffer k)) is =
    moves_buffer setup past c d name u k (progress setup (AtBuffer d) past) callers (good.pairs d u k is)
moves_at setup past good c d name callers u o is = stays refl

-- What a move keeps.

pub sleeps_not_home : (d : BufId) (x : Where) → sleeps_at d x ≡ true → is_home x ≡ false
sleeps_not_home d x on = grind arith

module _ (setup : SystemConfig) (c : CpuId) (d : BufId) (u : Tid) (name : Name) (x now : Where) where
  lists_stay : (b : BufId) (list : WaitList) → is_buffer b d ≡ false → Moves setup c d u name x now → sleeps_in b list now ≡ sleeps_in b list x
  lists_stay b list off given = grind (arith, woken_awake, buffer_self, and_left, same_lock_true, false_from_ne_true, refuted, same_lock_self)

  no_pending_moves : Moves setup c d u name x now → is_pending now ≡ is_pending x
  no_pending_moves given = grind arith

  small_moves : Moves setup c d u name x now → (is_moved x ≡ true → nat_lt u.0 THREADS ≡ true) → is_moved now ≡ true → nat_lt u.0 THREADS ≡ true
  small_moves given before on = grind (arith, refuted)

  known_moves : Moves setup c d u name x now → (is_caller u name ≡ true → nat_lt u.0 (length setup.homes) ≡ true)
      → (is_home x ≡ false → nat_lt u.0 (length setup.homes) ≡ true) → is_home now ≡ false → nat_lt u.0 (length setup.homes) ≡ true
  known_moves given mine before off = grind (arith, sleeps_not_home)

-- A section at a buffer.

module _ (setup : SystemConfig) (past : List (Section Name)) (good : Good setup past) (c : CpuId) (d : BufId) (name : Name)
    (callers : CallersAre setup past c d name) (t : Tid) (caller : caller_in name ≡ Some t) where
  -- the section keeps the order
  edits : (k : Buffer) → block_of setup (AtBuffer d) past ≡ Some (OfBuffer k) → MayEdit name k (progress setup (AtBuffer d) past)
  edits k block =
      let g = progress setup (AtBuffer d) past in
      let mine = callers t caller in
      may_edit d name k g (visit setup t past) (rw (caller, ← mine.here) (good.pairs d t k block)) mine.due

  keeps_block : (o : Option Block) → block_of setup (AtBuffer d) past ≡ o → MayEditBlock name o (progress setup (AtBuffer d) past)
  keeps_block o is = grind (arith, edits)

  edited_pair : (u : Tid) (k : Buffer) → block_of setup (AtBuffer d) past ≡ Some (OfBuffer k) → (mine : Bool) → is_caller u name ≡ mine
      → Pair d u (edited_buffer name k) (progress_after name k (progress setup (AtBuffer d) past)) (visit_moved d u name k (visit setup u past))
      (post_moved setup c d u name (answer_of_buffer name k).slept (answer_of_buffer name k).woke (post setup u past))
  edited_pair u k block true local =
      let is = is_the_caller u name local in
      let mine = callers u is in
      let awake : IsAwake k (progress setup (AtBuffer d) past) = buffer_awake setup past good.ordered d k block in
      own_pair d u setup c name k (progress setup (AtBuffer d) past) (visit setup u past) (post setup u past) is mine.here (λ e. (awake.idle e).0)
      (edits k block) mine.due (good.pairs d u k block)
  edited_pair u k block false other =
      other_pair setup c d u name k (progress setup (AtBuffer d) past) (visit setup u past) (post setup u past) other (edits k block) (good.pairs d u k block)

  here_pair : (u : Tid) (k : Buffer) (o : Option Block) → block_of setup (AtBuffer d) past ≡ o → option_map (edited name) o ≡ Some (OfBuffer k)
      → Pair d u k (progress_by name o (progress setup (AtBuffer d) past)) (visit_buffer d u name o (visit setup u past))
      (post_buffer setup c d u name o (post setup u past))
  here_pair u k (Some (OfBuffer was)) block is = rw (← same_buffer (edited_buffer name was) k is) (edited_pair u was block (is_caller u name) refl)
  here_pair u k o block is = absurd (cc is)

  visit_there : (b : BufId) → is_buffer b d ≡ false → (u : Tid) (k : Buffer) (g : Progress) (x : Where) (o : Option Block)
      → Pair b u k g (visit setup u past) x → Pair b u k g (visit_buffer d u name o (visit setup u past)) x
  visit_there b off u k g x (Some (OfBuffer was)) pair = by_test (is_caller u name) refl
    where
      by_test : (mine : Bool) → is_caller u name ≡ mine → Pair b u k g (if mine then next_visit d name was (visit setup u past) else visit setup u past) x
      by_test mine local = grind (arith, paired, refuted, stays_apart, is_the_caller)
  visit_there b off u k g x o pair = pair

  there_pair : (b : BufId) → is_buffer b d ≡ false → (u : Tid) (k : Buffer) → block_of setup (AtBuffer b) past ≡ Some (OfBuffer k)
      → Pair b u k (progress setup (AtBuffer b) past) (visit setup u (record { cpu = c; lock = AtBuffer d; edit = name } ∷ past))
      (post setup u (record { cpu = c; lock = AtBuffer d; edit = name } ∷ past))
  there_pair b off u k block =
      let o = block_of setup (AtBuffer d) past in
      let g = progress setup (AtBuffer b) past in
      let moves = moves_at setup past good c d name callers u o refl in
      let now = post_buffer setup c d u name o (post setup u past) in
      post_apart b u k g (visit_buffer d u name o (visit setup u past)) (post setup u past) now
      (λ list. lists_stay setup c d u name (post setup u past) now b list off moves) (visit_there b off u k g (post setup u past) o (good.pairs b u k block))

  good_buffer : Good setup (record { cpu = c; lock = AtBuffer d; edit = name } ∷ past)
  good_buffer = record {
    ordered = (keeps_block (block_of setup (AtBuffer d) past) refl, good.ordered);
    pairs = λ b u k is. by_test b u k (is_buffer b d) refl is;
    pending = λ e u threads is.
        good.pending e u threads is ∙ ap (λ p. one_if (same_cpu (home_cpu setup u) e && p))
        (sym (no_pending_moves setup c d u name (post setup u past) _ (moves_at setup past good c d name callers u (block_of setup (AtBuffer d) past) refl)));
    small = λ u on.
        small_moves setup c d u name (post setup u past) _
        (moves_at setup past good c d name callers u (block_of setup (AtBuffer d) past) refl) (good.small u) on;
    known = λ u off.
        known_moves setup c d u name (post setup u past) _ (moves_at setup past good c d name callers u (block_of setup (AtBuffer d) past) refl)
        (λ local. (and_parts (same_cpu (home_cpu setup u) c) (nat_lt u.0 (length setup.homes)) (callers u (is_the_caller u name local)).local_is).1)
        (good.known u) off;
  }
    where
      by_test : (b : BufId) (u : Tid) (k : Buffer) (here : Bool) → is_buffer b d ≡ here
          → (if here then option_map (edited name) (block_of setup (AtBuffer b) past) else block_of setup (AtBuffer b) past) ≡ Some (OfBuffer k)
          → Pair b u k (if here then progress_by name (block_of setup (AtBuffer b) past)
          (progress setup (AtBuffer b) past) else progress setup (AtBuffer b) past)
          (visit setup u (record { cpu = c; lock = AtBuffer d; edit = name } ∷ past)) (post setup u (record { cpu = c; lock = AtBuffer d; edit = name } ∷ past))
      by_test b u k false off is = there_pair b off u k is
      by_test b u k true same is =
          let e = buffer_true b d same in rw e (here_pair u k (block_of setup (AtBuffer d) past) refl (rw e at is))

-- A section on pending threads.

-- the queue of the section's lock, and the queue of another lock
module _ (setup : SystemConfig) (past : List (Section Name)) (good : Good setup past) (c d : CpuId) where
  pended_list : (s : Tid) → post setup s past ≡ Hand c → home_cpu setup s ≡ d → (u : Tid) (list : List Tid)
      → block_of setup (Pending d) past ≡ Some (OfPending list)
      → count_in u (joined s list) ≡ one_if (same_cpu (home_cpu setup u) d && is_pending (if same_tid s u then IsPending d else post setup u past))
  pended_list s held home u list block = by_test (same_tid s u) refl
    where
      by_test : (mine : Bool) → same_tid s u ≡ mine
          → count_in u (joined s list) ≡ one_if (same_cpu (home_cpu setup u) d && is_pending (if mine then IsPending d else post setup u past))
      by_test true same =
          let none : count_in s list ≡ 0 = good.pending d s list block ∙ ap (λ x. one_if (same_cpu (home_cpu setup s) d && is_pending x)) held
          ∙ ap one_if (and_right (same_cpu (home_cpu setup s) d) false refl) in
          let one : count_in s (joined s list) ≡ marked s true = grown_list s list none in
          let counts : marked s true ≡ 1 = ap (λ b. one_if (b && true)) (good.small s (ap is_moved held)) in
          let there : one_if (same_cpu (home_cpu setup s) d && true) ≡ 1 = ap (λ b. one_if (b && true)) (ap (λ e. same_cpu e d) home ∙ same_cpu_self d) in
          subst (λ v. count_in v (joined s list) ≡ one_if (same_cpu (home_cpu setup v) d && true)) (same_tid_true s u same) (one ∙ counts ∙ sym there)
      by_test false other = other_joined u s list other ∙ good.pending d u list block

  -- no section on pending threads touches a buffer
  same_lists : (name : Name) → MayComeTo setup past c d name → (u : Tid) (b : BufId) (list : WaitList)
      → sleeps_in b list (post_pending setup d u name (post setup u past)) ≡ sleeps_in b list (post setup u past)
  same_lists (Pend s) may u b list = grind (arith, same_tid_true)
  same_lists TakeAll may u b list = grind arith
  same_lists name may u b list = absurd may

  good_pending : (name : Name) → MayComeTo setup past c d name → Good setup (record { cpu = c; lock = Pending d; edit = name } ∷ past)
  good_pending name may = record {
    ordered = (tt, good.ordered);
    pairs = λ b u k is.
        post_apart b u k (progress setup (AtBuffer b) past) (visit setup u past) (post setup u past) (post_pending setup d u name (post setup u past))
        (same_lists name may u b) (good.pairs b u k is);
    pending = λ e u now is. by_test e u now (same_cpu e d) refl is;
    small = λ u on. grind (arith, same_tid_true, may, on);
    known = λ u off. grind (arith, same_tid_true, may, off);
  }
    where
      by_test : (e : CpuId) (u : Tid) (now : List Tid) (here : Bool) → same_cpu e d ≡ here
          → (if here then option_map (edited name) (block_of setup (Pending e) past) else block_of setup (Pending e) past) ≡ Some (OfPending now)
          → count_in u now ≡ one_if (same_cpu (home_cpu setup u) e && is_pending (post_pending setup d u name (post setup u past)))
      by_test e u now true same is =
          let here = same_cpu_true e d same in rw here (grind (arith, rw here at is, pended_list))
      by_test e u now false off is = good.pending e u now is ∙ ap one_if (sym (grind (arith, may, off, same_tid_true, same_cpu_sym, same_cpu_true)))

-- any section that may occur
module _ (setup : SystemConfig) (past : List (Section Name)) (good : Good setup past) (c : CpuId) (name : Name) where
  good_at : (lock : LockId) → MayComeAt setup past c lock name → Good setup (record { cpu = c; lock = lock; edit = name } ∷ past)
  good_at (Pending d) may = good_pending setup past good c d name may
  good_at (AtBuffer d) may = by_caller (caller_in name) refl may
    where
      by_caller : (o : Option Tid) → caller_in name ≡ o → MayComeBy setup past c d name o
          → Good setup (record { cpu = c; lock = AtBuffer d; edit = name } ∷ past)
      by_caller None is now = absurd now
      by_caller (Some t) is now = good_buffer setup past good c d name (callers_are setup past c d name may) t is

pub good_step : (setup : SystemConfig) (past : List (Section Name)) (s : Section Name) → Good setup past → MayCome setup past s → Good setup (s ∷ past)
good_step setup past s good may = good_at setup past good s.cpu s.edit s.lock may
