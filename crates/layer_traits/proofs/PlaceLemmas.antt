-- Places under moves: what a move may do to a place, and which threads are in a pending queue.
-- Moves of others do not change a CPU's private state, and each change of that state keeps its
-- agreement with the places.
use Rattle.std.proofs.Common.{◌≡◌, ◌≢◌, ℕ, zero, suc, ◌+◌, ◌<◌, Bool, true, false, ◌&&◌, List, [], ◌∷◌, ◌++◌, Option, Some, None, option_to_list, MatchOption}
use Rattle.std.proofs.{Common.{IsSome, if◌then◌else◌, refl, ap, sym, ◌∙◌, arith, zero-add, slice_get}, lemmas.Bool.and_parts}
use Rattle.event_log.{specs.{declared.ids.{CpuId.CpuId, LockId.LockId, Tid.Tid}, History.{same_cpu, AreOthers}}, proofs.Same.{same_cpu_self, same_cpu_true}}
use Rattle.{thread_blocks.{specs.Queues.{same_tid, is_in}, proofs.Members.same_tid_true}, layer_traits.specs.declared.moves.WaitList.WaitList}
use Rattle.layer_traits.specs.Threads.{Passes.{or_else, switched, took_pending, passed_on, finished, own_slept, own_woken}, Places.{home_of, is_cpu, is_thread}}
use Rattle.layer_traits.specs.Threads.Places.{WaitChannel, At, Where, Home, Hand, IsPending, Asleep, Move, Pushed, Took, Moved, Still, Step, step_with}
use Rattle.layer_traits.specs.Threads.Places.{cpu_of_step, where_woken, where_taken, where_slept, where_after, where_is, is_asleep, is_home, is_hand, is_pend}
use Rattle.layer_traits.specs.Threads.Places.{pending_after, pending_by, MayMove, AreMoves, Threads, one_if, count_in, copies, is_here, Stands, homed, at_boot}
use Rattle.layer_traits.{specs.Threads.RunQueue.joins, proofs.CountLemmas.{same_tid_sym, same_cpu_sym, is_cpu_true, is_cpu_of, is_cpu_other, is_thread_self}}
use Rattle.layer_traits.proofs.CountLemmas.{count_append, count_as_list, count_joins, count_front, in_counted, not_counted}

-- What a move may do to a place.

asleep_at : (w : Where) → is_asleep w ≡ true → (p : WaitChannel) × (w ≡ Asleep p)
asleep_at (Asleep p) asleep = (p, refl)
asleep_at w asleep = absurd cc

-- a taking empties its own queue and leaves the other queues, and each hand, unchanged
taken_count : (d e : CpuId) (t : Tid) (queue : List Tid) (w : Where) → count_in t queue ≡ one_if (is_pend d w)
    → count_in t (if same_cpu e d then [] else queue) ≡ one_if (is_pend d (where_taken e w))
taken_count d e t queue w before = grind (arith, same_cpu_true)

taken_hand : (c d : CpuId) (w : Where) → is_hand d w ≡ is_hand d (where_taken c w)
taken_hand c d w = grind arith

-- a thread that was pending in the queue of its home is on its home CPU after a taking
taken_here : (c : CpuId) (home : Option CpuId) (w : Where) → ((d : CpuId) → w ≡ IsPending d → home ≡ Some d)
    → one_if (is_cpu c home && is_home w) + one_if (is_pend c w) ≡ one_if (is_cpu c home && is_home (where_taken c w))
taken_here c home w at = grind (arith, same_cpu_sym)

-- a push from a hand puts its thread into the queue once
pushed_count : (c d e : CpuId) (t u : Tid) (queue : List Tid) (w : Where) → (same_tid u t ≡ true → w ≡ Hand c) → count_in t queue ≡ one_if (is_pend d w)
    → count_in t (if same_cpu e d then queue ++ u ∷ [] else queue) ≡ one_if (is_pend d (if same_tid u t then IsPending e else w))
pushed_count c d e t u queue w held before = grind (arith, count_append, same_tid_sym)

-- a woken thread is in no queue, and in no hand except the waker's
woken_pending : (c d : CpuId) (home : Option CpuId) → is_pend d (where_woken c home) ≡ false
woken_pending c d home = grind arith

woken_hand : (c d : CpuId) (home : Option CpuId) → where_woken c home ≡ Hand d → c ≡ d
woken_hand c d home is = grind arith

-- nor does another CPU have it as its home CPU
woken_elsewhere : (c d : CpuId) (home : Option CpuId) → same_cpu c d ≡ false
    → (is_hand d (where_woken c home) ≡ false) × ((is_cpu d home && is_home (where_woken c home)) ≡ (is_cpu d home && false))
woken_elsewhere c d home other = grind (arith, is_cpu_other)

is_pend_true : (d : CpuId) (w : Where) → is_pend d w ≡ true → w ≡ IsPending d
is_pend_true d w is = grind (arith, same_cpu_true)

pub is_hand_true : (d : CpuId) (w : Where) → is_hand d w ≡ true → w ≡ Hand d
is_hand_true d w is = grind (arith, same_cpu_true)

pub is_home_true : (w : Where) → is_home w ≡ true → w ≡ Home
is_home_true w is = grind arith

-- An edit: its caller may fall asleep, and then a sleeper may be woken.

module _ (homes : List CpuId) (c : CpuId) (local : Threads) where
  -- how often the CPU has a thread on its home CPU after the caller's sleep
  slept_copies : (lock : LockId) (caller t : Tid) (w : Where) (slept : Option WaitList) → local.current ≡ Some caller
      → (same_tid caller t ≡ true → (count_in t local.ready ≡ 0) × (count_in t local.ended ≡ 0))
      → copies local t ≡ one_if (is_cpu c (home_of homes t) && is_home w)
      → copies (own_slept slept local) t ≡ one_if (is_cpu c (home_of homes t) && is_home (if same_tid caller t then where_slept lock slept w else w))
  slept_copies lock caller t w slept runs once before = grind arith

  -- and after the wake-up
  woken_copies : (t : Tid) (w : Where) (woke : Option Tid) → (is_thread t woke ≡ true → is_home w ≡ false)
      → copies local t ≡ one_if (is_cpu c (home_of homes t) && is_home w)
      → copies (own_woken homes c woke local) t
      ≡ one_if (is_cpu c (home_of homes t) && is_home (if is_thread t woke then where_woken c (home_of homes t) else w))
  woken_copies t w None away before = before
  woken_copies t w (Some u) away before = grind (arith, count_joins t (u ∷ []) local.ready, same_tid_true u t)

  -- the hand has the woken thread, if its home is another CPU
  moved_hand : (lock : LockId) (caller t : Tid) (w : Where) (slept : Option WaitList) (woke : Option Tid) → local.hand ≡ None → is_hand c w ≡ false
      → is_thread t (own_woken homes c woke (own_slept slept local)).hand
      ≡ is_hand c (if is_thread t woke then where_woken c (home_of homes t) else (if same_tid caller t then where_slept lock slept w else w))
  moved_hand lock caller t w slept woke empty before = grind (arith, same_tid_true)

-- a thread that sleeps is not the caller
sleeper_away : (place : Tid → Where) (lock : LockId) (caller t : Tid) (slept : Option WaitList) (woke : Option Tid) → place caller ≡ Home
    → MatchOption woke (Unit {0}) (λ u. is_asleep (place u) ≡ true) → is_thread t woke ≡ true
    → is_home (if same_tid caller t then where_slept lock slept (place t) else place t) ≡ false
sleeper_away place lock caller t slept woke at_home sleeper is = grind (arith, same_tid_true)

module _ (homes : List CpuId) where
  -- an edit leaves a thread where it is, wakes it or puts its caller to sleep
  pub view_moved : (past : List Step) (c : CpuId) (lock : LockId) (caller : Tid) (slept : Option WaitList) (woke : Option Tid) (t : Tid)
      (P : Where → Where → Type 0) → MayMove homes past c (Moved lock caller slept woke) → ((w : Where) → P w w)
      → ((u : Tid) → home_of homes u ≡ Some c → (p : WaitChannel) → P (Asleep p) (where_woken c (home_of homes t)))
      → (home_of homes t ≡ Some c → (p : WaitChannel) → P Home (Asleep p))
      → P (where_is homes past t) (where_after homes c (Moved lock caller slept woke) t (where_is homes past t))
  view_moved past c lock caller slept woke t P may stays wakes sleeps = by_woke woke may.1 (is_thread t woke) refl
    where
      falls_asleep : (s : Option WaitList) → home_of homes t ≡ Some c → P Home (where_slept lock s Home)
      falls_asleep None home = stays Home
      falls_asleep (Some line) home = sleeps home (At lock line)

      by_caller : (b : Bool) → same_tid caller t ≡ b → P (where_is homes past t)
          (if b then where_slept lock slept (where_is homes past t) else where_is homes past t)
      by_caller false other = stays (where_is homes past t)
      by_caller true same = let one = same_tid_true caller t same in rw (rw one at may.0.at_home) (falls_asleep slept (rw one at may.0.home))

      by_woke : (o : Option Tid) → MatchOption o (Unit {0}) (λ u. is_asleep (where_is homes past u) ≡ true) → (b : Bool) → is_thread t o ≡ b
          → P (where_is homes past t) (if b then where_woken c (home_of homes t) else
          (if same_tid caller t then where_slept lock slept (where_is homes past t) else where_is homes past t))
      by_woke o sleeper false other = by_caller (same_tid caller t) refl
      by_woke None sleeper true same = absurd cc
      by_woke (Some u) sleeper true same =
          let sleeps_there = asleep_at (where_is homes past t) (rw (same_tid_true u t same) at sleeper) in
          rw sleeps_there.1 (wakes caller may.0.home sleeps_there.0)

  -- what a move may do to a place: leave it, push from the hand into the home's queue, take from
  -- the own queue to the home CPU, wake, put to sleep
  pub view_step : (past : List Step) (c : CpuId) (move : Move) (t : Tid) (P : Where → Where → Type 0)
      → MayMove homes past c move → ((w : Where) → P w w)
      → ((home : CpuId) → home_of homes t ≡ Some home → P (Hand c) (IsPending home))
      → (where_is homes past t ≡ IsPending c → P (IsPending c) Home)
      → ((u : Tid) → home_of homes u ≡ Some c → (p : WaitChannel) → P (Asleep p) (where_woken c (home_of homes t)))
      → (home_of homes t ≡ Some c → (p : WaitChannel) → P Home (Asleep p))
      → P (where_is homes past t) (where_after homes c move t (where_is homes past t))
  view_step past c (Pushed d u) t P may stays pushes takes wakes sleeps = go (same_tid u t) refl
    where
      go : (b : Bool) → same_tid u t ≡ b → P (where_is homes past t) (if b then IsPending d else where_is homes past t)
      go false other = stays (where_is homes past t)
      go true same = let one = same_tid_true u t same in rw (rw one at may.held) (pushes d (rw one at may.home))
  view_step past c (Took d) t P may stays pushes takes wakes sleeps = rw may (go (where_is homes past t) refl)
    where
      queued : (q : CpuId) → where_is homes past t ≡ IsPending q → (b : Bool) → same_cpu c q ≡ b → P (IsPending q) (if b then Home else IsPending q)
      queued q is false other = stays (IsPending q)
      queued q is true same = let one = same_cpu_true c q same in rw (← one) (takes (is ∙ ap IsPending (sym one)))

      go : (w : Where) → where_is homes past t ≡ w → P w (where_taken c w)
      go (IsPending q) is = queued q is (same_cpu c q) refl
      go w is = stays w
  view_step past c (Moved lock caller slept woke) t P may stays pushes takes wakes sleeps = view_moved past c lock caller slept woke t P may stays wakes sleeps
  view_step past c Still t P may stays pushes takes wakes sleeps = stays (where_is homes past t)

  -- a pending thread is pending at its home
  pub pend_home : (moves : List Step) (t : Tid) (d : CpuId) → AreMoves homes moves → where_is homes moves t ≡ IsPending d → home_of homes t ≡ Some d
  pend_home [] t d legal is = absurd cc
  pend_home (s ∷ past) t d legal is = grind (arith, pend_home past t d legal.1, woken_pending, same_cpu_self)

  -- a thread that is not on its home CPU has a home
  pub away_known : (moves : List Step) (t : Tid) → AreMoves homes moves → is_home (where_is homes moves t) ≡ false → IsSome (home_of homes t)
  away_known [] t legal away = absurd cc
  away_known (s ∷ past) t legal away = grind (arith, away_known past t legal.1)

  -- a hand that holds a thread is that of a CPU which is some thread's home
  pub hand_home : (moves : List Step) (t : Tid) (d : CpuId) → AreMoves homes moves → where_is homes moves t ≡ Hand d → (u : Tid) × (home_of homes u ≡ Some d)
  hand_home [] t d legal is = absurd cc
  hand_home (s ∷ past) t d legal is = view_step past s.cpu s.move t
      (λ w after. (w ≡ Hand d → (u : Tid) × (home_of homes u ≡ Some d)) → after ≡ Hand d → (u : Tid) × (home_of homes u ≡ Some d))
      legal.0 (λ w before. before)
      (λ home is before now. absurd cc)
      (λ was before now. absurd cc)
      (λ u home p before now. (u, home ∙ ap Some (woken_hand s.cpu d (home_of homes t) now)))
      (λ home p before now. absurd cc)
      (hand_home past t d legal.1) is

  -- moves of others do not change which thread is in a CPU's hand and which threads are on it as
  -- their home CPU
  step_keeps : (d : CpuId) (past : List Step) (c : CpuId) (move : Move) (t : Tid) → AreMoves homes past → MayMove homes past c move → same_cpu c d ≡ false
      → (is_hand d (where_is homes (step_with c move ∷ past) t) ≡ is_hand d (where_is homes past t))
      × (is_here homes d (step_with c move ∷ past) t ≡ is_here homes d past t)
  step_keeps d past c move t legal may other = grind (arith, pend_home, woken_elsewhere, is_cpu_other, is_cpu_of)

  pub others_keep : (d : CpuId) (others old : List Step) (t : Tid) → AreOthers cpu_of_step d others → AreMoves homes (others ++ old)
      → (is_hand d (where_is homes (others ++ old) t) ≡ is_hand d (where_is homes old t)) × (is_here homes d (others ++ old) t ≡ is_here homes d old t)
  others_keep d [] old t foreign legal = (refl, refl)
  others_keep d (s ∷ others) old t foreign legal =
      let here = step_keeps d (others ++ old) s.cpu s.move t legal.1 legal.0 foreign.0 in
      let before = others_keep d others old t foreign.1 legal.1 in
      (here.0 ∙ before.0, here.1 ∙ before.1)

  -- a CPU's private state therefore agrees with the places under environment steps
  pub stands_others : (d : CpuId) (others old : List Step) (local : Threads) → AreOthers cpu_of_step d others → AreMoves homes (others ++ old)
      → Stands homes d old local → Stands homes d (others ++ old) local
  stands_others d others old local foreign legal stands = record {
    places = λ t. stands.places t ∙ sym (ap one_if (others_keep d others old t foreign legal).1);
    hand = λ t. stands.hand t ∙ sym (others_keep d others old t foreign legal).0;
  }

  -- each thread is in a pending queue as often as its place says: once or not at all
  pub pend_count : (moves : List Step) → AreMoves homes moves → (d : CpuId) (t : Tid)
      → count_in t (pending_by moves d) ≡ one_if (is_pend d (where_is homes moves t))
  pend_count [] legal d t = refl
  pend_count (s ∷ past) legal d t = go s.move legal.0 (pend_count past legal.1 d t)
    where
      go : (move : Move) → MayMove homes past s.cpu move → count_in t (pending_by past d) ≡ one_if (is_pend d (where_is homes past t))
          → count_in t (pending_after move d (pending_by past d)) ≡ one_if (is_pend d (where_after homes s.cpu move t (where_is homes past t)))
      go (Pushed e u) may before =
          pushed_count s.cpu d e t u (pending_by past d) (where_is homes past t) (λ same. rw (same_tid_true u t same) at may.held) before
      go (Took e) may before = taken_count d e t (pending_by past d) (where_is homes past t) before
      go (Moved lock caller slept woke) may before = grind (arith, woken_pending)
      go Still may before = before

  pub pend_where : (moves : List Step) → AreMoves homes moves → (d : CpuId) (t : Tid) → is_in t (pending_by moves d) ≡ true
      → where_is homes moves t ≡ IsPending d
  pend_where moves legal d t is =
      let counts = pend_count moves legal d t in
      let some = in_counted t (pending_by moves d) is in
      is_pend_true d (where_is homes moves t) (grind (arith, counts, some))

  -- A CPU's private state that agrees with the places.
  module _ (c : CpuId) (moves : List Step) (local : Threads) (legal : AreMoves homes moves) (stands : Stands homes c moves local) where
    -- a thread that this CPU has among its own once is on its home CPU
    here : (t : Tid) → is_here homes c moves t ≡ true → (home_of homes t ≡ Some c) × (where_is homes moves t ≡ Home)
    here t is = grind (arith, and_parts, is_cpu_true, is_home_true)

    pub current_at : (t : Tid) → local.current ≡ Some t
        → (home_of homes t ≡ Some c) × (where_is homes moves t ≡ Home) × (count_in t local.ready ≡ 0) × (count_in t local.ended ≡ 0)
    current_at t is = grind (arith, is_thread_self, here)

    pub hand_at : (t : Tid) → local.hand ≡ Some t → where_is homes moves t ≡ Hand c
    hand_at t is = is_hand_true c (where_is homes moves t) (sym (stands.hand t) ∙ is_thread_self t local.hand is)

    pub hand_free : local.hand ≡ None → (t : Tid) → where_is homes moves t ≢ Hand c
    hand_free empty t is = grind (arith, stands.hand t, same_cpu_self)

    pub away_from : (t : Tid) → is_home (where_is homes moves t) ≡ false → count_in t local.ready ≡ 0
    away_from t away = grind (arith, stands.places t)

    pub pending_at : (t : Tid) → is_in t (pending_by moves c) ≡ true → (home_of homes t ≡ Some c) × (is_in t local.ready ≡ false)
    pending_at t is = grind (arith, pend_where, pend_home, not_counted, away_from)

    pub current_new : (t : Tid) → local.current ≡ Some t → is_in t (joins (pending_by moves c) local.ready) ≡ false
    current_new t is = grind (arith, current_at, pend_count, not_counted, count_joins)

    pub stands_taken : Stands homes c (step_with c (Took c) ∷ moves) (took_pending (pending_by moves c) local)
    stands_taken = record {
      places = λ t. copied t ∙ taken_here c (home_of homes t) (where_is homes moves t) (λ d. pend_home moves t d legal);
      hand = λ t. stands.hand t ∙ taken_hand c c (where_is homes moves t);
    }
      where
        copied : (t : Tid) → copies (took_pending (pending_by moves c) local) t ≡ one_if (is_here homes c moves t) + one_if (is_pend c (where_is homes moves t))
        copied t = grind (arith, count_joins, count_as_list, pend_count)

    pub stands_pushed : (d : CpuId) (u : Tid) → local.hand ≡ Some u → Stands homes c (step_with c (Pushed d u) ∷ moves) (passed_on local)
    stands_pushed d u held = record {
      places = λ t. grind (arith, stands.places t, hand_at u held, same_tid_true);
      hand = λ t. grind (arith, stands.hand t, held);
    }

    pub stands_switched : local.current ≡ None → Stands homes c moves (switched local)
    stands_switched idle = record {
      places = λ t. omega (arith, count_front t local.ready, ap (λ o. one_if (is_thread t o)) idle, stands.places t);
      hand = stands.hand;
    }

    pub stands_finished : Stands homes c moves (finished local)
    stands_finished = record {
      places = λ t. omega (arith, count_append t local.ended (option_to_list local.current), count_as_list t local.current, stands.places t);
      hand = stands.hand;
    }

    pub stands_moved : (lock : LockId) (caller : Tid) (slept : Option WaitList) (woke : Option Tid) → MayMove homes moves c (Moved lock caller slept woke)
        → local.current ≡ Some caller → local.hand ≡ None
        → Stands homes c (step_with c (Moved lock caller slept woke) ∷ moves) (own_woken homes c woke (own_slept slept local))
    stands_moved lock caller slept woke may runs empty = record {
      places = λ t. woken_copies homes c (own_slept slept local) t (if same_tid caller t then where_slept lock slept (where_is homes moves t)
          else where_is homes moves t) woke (sleeper_away (where_is homes moves) lock caller t slept woke may.0.at_home may.1)
          (slept_copies homes c local lock caller t (where_is homes moves t) slept runs
          (λ same. let at = current_at t (runs ∙ ap Some (same_tid_true caller t same)) in (at.2, at.3)) (stands.places t));
      hand = λ t. moved_hand homes c local lock caller t (where_is homes moves t) slept woke empty (sym (stands.hand t) ∙ ap (is_thread t) empty);
    }

-- at boot each thread is ready with its home
homed_below : (c : CpuId) (n : ℕ) (homes : List CpuId) (t : Tid) → t.0 < n → count_in t (homed c n homes) ≡ 0
homed_below c n [] t below = refl
homed_below c n (home ∷ homes) t below = grind (arith, homed_below c (n + 1) homes t (omega arith))

homed_count : (c : CpuId) (n k : ℕ) (homes : List CpuId) (t : Tid) → t.0 ≡ n + k → count_in t (homed c n homes) ≡ one_if (is_cpu c (slice_get homes k))
homed_count c n k [] t is = refl
homed_count c n zero (home ∷ homes) t is = grind (arith, homed_below c (n + 1) homes t (omega arith))
homed_count c n (suc k) (home ∷ homes) t is = grind (arith, homed_count c (n + 1) k homes t (omega arith))

pub stands_boot : (homes : List CpuId) (c : CpuId) → Stands homes c [] (at_boot homes c)
stands_boot homes c = record {
  places = λ t. grind (arith, homed_count c 0 t.0 homes t (sym (zero-add t.0)));
  hand = λ t. refl;
}

-- Homes, and which thread runs after a wake-up.

pub home_there : (c : CpuId) (o : Option CpuId) → IsSome o → o ≡ Some (or_else c o)
home_there c o there = grind arith

pub woken_current : (homes : List CpuId) (c : CpuId) (woke : Option Tid) (local : Threads) → (own_woken homes c woke local).current ≡ local.current
woken_current homes c woke local = grind arith
