-- In every state that a system reaches each live thread has one place.
use Rattle.std.proofs.Common.{◌≡◌, ℕ, zero, suc, ◌+◌, ◌<◌, Bool, true, false, not, ◌&&◌, ◌==◌, List, length, slice_get, nat_lt, refl, sym, ap, ◌∙◌, subst}
use Rattle.std.proofs.{Common.arith, lemmas.Bool.{and_from, and_left, and_right, false_from_ne_true, lt-ltb, ltb-true, ne_eqb}}
use Rattle.event_log.specs.declared.ids.{CpuId.CpuId, Tid.Tid, BufId.BufId, LockId.TheVariants.{Pending, Buffer as AtBuffer}, TheConstants.THREADS}
use Rattle.{event_log.{specs.{History.same_cpu, Sections.sections_in}, proofs.Same.same_cpu_self}, layer_traits.specs.declared.moves.WaitList.WaitList}
use Rattle.layer_traits.specs.Threads.{ListsAgree.same_list, OnePlace.total, Places.{Where, Home, Hand, IsPending, Asleep, At, is_home, is_hand, one_if}}
use Rattle.layer_traits.{specs.Threads.Places.count_in, proofs.{CountLemmas.{count_append, count_as_list}, OnePlaceLemmas.{total_at, total_none}}}
use Rattle.cpu.specs.{Table.{Setups.{SystemConfig, home_cpu}, Steps.{SystemState, cpu_numbered}, Worked.buffer_numbered}, Wakeups.Quiet.HomesExist}
use Rattle.cpu.specs.Wakeups.OnePlace.{queues_in, all_of, threads_on_cpu, of_pending, of_buffer, everyone, thread_in, thread_in_whole, is_live, StandInOnePlace}
use Rattle.cpu.proofs.Wakeups.{Lists.refuted, PostsAndVisits.{sleeps_in, is_pending, is_local, post, visit, marked}, ThreadAtBuffer.{sleeps_here, marked_none}}
use Rattle.cpu.proofs.Wakeups.{BuffersAndThreads.Good, Placed.{IsListed, IsPlaced, buffer_there}, Agreement.seat, CpuStep.pending_there}
use Rattle.cpu.proofs.Wakeups.{ReachedStates.fair_good, SystemInv.{SystemInv, reached_inv, cpu_there}}
use Rattle.layer_traits.specs.declared.moves.WaitList.TheVariants as wait_list

-- Sums of the numbers below n.

count_all : (t : Tid) (f : ℕ → List Tid) (n : ℕ) → count_in t (all_of f n) ≡ total (λ i. count_in t (f i)) n
count_all t f zero = refl
count_all t f (suc n) = count_append t (all_of f n) (f n) ∙ ap (λ m. m + count_in t (f n)) (count_all t f n)

module _ (setup : SystemConfig) (s : SystemState) (homes : HomesExist setup) (kept : SystemInv setup s) (u : Tid) where
  good : Good setup (sections_in s.log)
  good = fair_good setup s.log kept.sound.fair

  abbrev ended_at : ℕ → Bool
  ended_at i = (thread_in (slice_get s.cpus i) u).ended

  -- What each queue has of the thread, by its post.

  at_cpu : (x : Where) → post setup u (sections_in s.log) ≡ x → (i : ℕ) → i < setup.cpus
      → count_in u (threads_on_cpu s i) ≡ one_if (seat setup (cpu_numbered i) u x (ended_at i)) + one_if (is_hand (cpu_numbered i) x)
  at_cpu x is i below =
      let cpu = cpu_there setup s kept (cpu_numbered i) below in
      grind (arith, count_append, count_as_list, (kept.sound.cpus (cpu_numbered i) cpu.0 cpu.1).agrees, is, cpu.1)

  at_pending : (x : Where) → post setup u (sections_in s.log) ≡ x → (i : ℕ)
      → count_in u (of_pending setup s i) ≡ one_if (same_cpu (home_cpu setup u) (cpu_numbered i) && is_pending x)
  at_pending x is i =
      let there = pending_there setup (cpu_numbered i) (sections_in s.log) in
      ap (λ o. count_in u (queues_in o)) there.1 ∙ good.pending (cpu_numbered i) u there.0 there.1
      ∙ ap (λ y. one_if (same_cpu (home_cpu setup u) (cpu_numbered i) && is_pending y)) is

  at_buffer : (x : Where) → post setup u (sections_in s.log) ≡ x → (i : ℕ) → i < length setup.caps
      → count_in u (of_buffer setup s i) ≡ marked u (sleeps_in (buffer_numbered i) wait_list.Sleepers x)
      + (marked u (sleeps_in (buffer_numbered i) wait_list.Receivers x) + marked u (sleeps_in (buffer_numbered i) wait_list.Senders x))
  at_buffer x is i below =
      let there = buffer_there setup (buffer_numbered i) (sections_in s.log) below in
      grind (arith, count_append, good.pairs (buffer_numbered i) u there.0 there.1, is, there.1)

  -- the three sums
  abbrev cpus_sum : ℕ
  cpus_sum = total (λ i. count_in u (threads_on_cpu s i)) setup.cpus

  abbrev pending_sum : ℕ
  pending_sum = total (λ i. count_in u (of_pending setup s i)) setup.cpus

  abbrev buffers_sum : ℕ
  buffers_sum = total (λ i. count_in u (of_buffer setup s i)) (length setup.caps)

  sums : count_in u (everyone setup s) ≡ cpus_sum + (pending_sum + buffers_sum)
  sums = grind (arith, count_append, count_all)

  no_pending : (x : Where) → post setup u (sections_in s.log) ≡ x → is_pending x ≡ false → pending_sum ≡ 0
  no_pending x is off =
      total_none _ setup.cpus (λ i below. at_pending x is i ∙ ap one_if (and_right (same_cpu (home_cpu setup u) (cpu_numbered i)) (is_pending x) off))

  no_buffers : (x : Where) → post setup u (sections_in s.log) ≡ x → ((b : BufId) (list : WaitList) → sleeps_in b list x ≡ false) → buffers_sum ≡ 0
  no_buffers x is awake = total_none _ (length setup.caps) (λ i below. grind (arith, at_buffer x is i below, marked_none, awake (buffer_numbered i)))

  -- no seat if the thread is not at `Home`
  no_seat : (x : Where) (i : ℕ) → is_home x ≡ false → one_if (seat setup (cpu_numbered i) u x (ended_at i)) ≡ 0
  no_seat x i off = ap one_if (and_right (is_local setup (cpu_numbered i) u) (is_home x && not (ended_at i)) (and_left (is_home x) (not (ended_at i)) off))

  no_cpus : (x : Where) → post setup u (sections_in s.log) ≡ x → is_home x ≡ false → ((c : CpuId) → is_hand c x ≡ false) → cpus_sum ≡ 0
  no_cpus x is away no_hand = total_none _ setup.cpus (λ i below. grind (arith, at_cpu x is i below, no_seat x i away, no_hand (cpu_numbered i)))

  -- A number that is no thread's.

  unknown : nat_lt u.0 (length setup.homes) ≡ false → count_in u (everyone setup s) ≡ one_if (is_live setup s u)
  unknown off = by_post (post setup u (sections_in s.log)) refl
    where
      away : (x : Where) → post setup u (sections_in s.log) ≡ x → is_home x ≡ false → count_in u (everyone setup s) ≡ one_if (is_live setup s u)
      away x is out = refuted off (good.known u (ap is_home is ∙ out))

      by_post : (x : Where) → post setup u (sections_in s.log) ≡ x → count_in u (everyone setup s) ≡ one_if (is_live setup s u)
      by_post Home is =
          let cpus : cpus_sum ≡ 0 = total_none _ setup.cpus (λ i below. grind (arith, at_cpu Home is i below, and_left, and_right, off)) in
          let live : one_if (is_live setup s u) ≡ 0 = ap one_if (and_left (nat_lt u.0 (length setup.homes)) (not (thread_in_whole setup s u).ended) off) in
          omega (arith, sums, cpus, no_pending Home is refl, no_buffers Home is (λ b list. refl), live)
      by_post x is = away x is (grind arith)

  -- A thread.

  module _ (known : nat_lt u.0 (length setup.homes) ≡ true) where
    home_within : (home_cpu setup u).0 < setup.cpus
    home_within = homes.1 u (ltb-true u.0 (length setup.homes) known)

    small : nat_lt u.0 THREADS ≡ true
    small = grind (arith, ltb-true, lt-ltb)

    other_cpu : (i : ℕ) → (i ≡ (home_cpu setup u).0 → ⊥) → same_cpu (home_cpu setup u) (cpu_numbered i) ≡ false
    other_cpu i off = ne_eqb (home_cpu setup u).0 i (λ same. off (sym same))

    -- away from home a thread has not ended
    alive : (x : Where) → post setup u (sections_in s.log) ≡ x → is_home x ≡ false → one_if (is_live setup s u) ≡ 1
    alive x is out =
        let cpu = cpu_there setup s kept (home_cpu setup u) home_within in
        grind (arith, (kept.sound.cpus (home_cpu setup u) cpu.0 cpu.1).agrees.ends u, cpu.1, and_from, same_cpu_self, false_from_ne_true, refuted, known)

    by_post : (x : Where) → post setup u (sections_in s.log) ≡ x → count_in u (everyone setup s) ≡ one_if (is_live setup s u)
    by_post Home is =
        let cpus : cpus_sum ≡ count_in u (threads_on_cpu s (home_cpu setup u).0) =
        total_at (λ i. count_in u (threads_on_cpu s i)) setup.cpus (home_cpu setup u).0 home_within
        (λ i below off. grind (arith, at_cpu Home is i below, other_cpu i off, and_left)) in
        let seats : one_if (seat setup (home_cpu setup u) u Home (ended_at (home_cpu setup u).0)) ≡ one_if (is_live setup s u) =
        (λ i. one_if ((same_cpu_self (home_cpu setup u) i && known i) && (true && not (ended_at (home_cpu setup u).0))))
        ∙ (λ i. one_if (sym known i && not (ended_at (home_cpu setup u).0))) in
        omega (arith, sums, cpus, at_cpu Home is (home_cpu setup u).0 home_within, seats, no_pending Home is refl, no_buffers Home is (λ b list. refl))
    by_post (Hand e) is =
        let within : e.0 < setup.cpus = subst (IsPlaced setup (visit setup u (sections_in s.log))) is (kept.placed.posts u) in
        let cpus : cpus_sum ≡ count_in u (threads_on_cpu s e.0) =
        total_at (λ i. count_in u (threads_on_cpu s i)) setup.cpus e.0 within
        (λ i below off. grind (arith, at_cpu (Hand e) is i below, no_seat (Hand e) i refl, ne_eqb e.0 i (λ same. off (sym same)))) in
        let pending = no_pending (Hand e) is refl in
        let buffers = no_buffers (Hand e) is (λ b list. refl) in
        let live = alive (Hand e) is refl in
        omega (arith, sums, cpus, at_cpu (Hand e) is e.0 within, no_seat (Hand e) e.0 refl, ap one_if (same_cpu_self e), pending, buffers, live)
    by_post (IsPending q) is =
        let pending : pending_sum ≡ count_in u (of_pending setup s (home_cpu setup u).0) =
        total_at (λ i. count_in u (of_pending setup s i)) setup.cpus (home_cpu setup u).0 home_within (λ i below off.
        at_pending (IsPending q) is i ∙ ap one_if (and_left (same_cpu (home_cpu setup u) (cpu_numbered i)) true (other_cpu i off))) in
        let here : count_in u (of_pending setup s (home_cpu setup u).0) ≡ 1 =
        at_pending (IsPending q) is (home_cpu setup u).0 ∙ ap one_if
        (and_from (same_cpu (home_cpu setup u) (home_cpu setup u)) true (same_cpu_self (home_cpu setup u)) refl) in
        let live = alive (IsPending q) is refl in
        omega (arith, sums, no_cpus (IsPending q) is refl (λ c. refl), pending, here, no_buffers (IsPending q) is (λ b list. refl), live)
    by_post (Asleep (At (Pending d) list)) is = absurd (subst (IsPlaced setup (visit setup u (sections_in s.log))) is (kept.placed.posts u))
    by_post (Asleep (At (AtBuffer b) list)) is =
        let x : Where = Asleep (At (AtBuffer b) list) in
        let placed : (b.0 < length setup.caps) × IsListed b list (visit setup u (sections_in s.log)) =
        subst (IsPlaced setup (visit setup u (sections_in s.log))) is (kept.placed.posts u) in
        let buffers : buffers_sum ≡ count_in u (of_buffer setup s b.0) =
        total_at (λ i. count_in u (of_buffer setup s i)) (length setup.caps) b.0 placed.0 (λ i below off.
        let here = at_buffer x is i below in
        let none = λ (other : WaitList). marked_none u (sleeps_in (buffer_numbered i) other x)
        (and_left (b.0 == i) (same_list list other) (ne_eqb b.0 i (λ same. off (sym same)))) in
        omega (arith, here, none wait_list.Sleepers, none wait_list.Receivers, none wait_list.Senders)) in
        let live = alive x is refl in
        omega (arith, sums, no_cpus x is refl (λ c. refl), no_pending x is refl, buffers, at_buffer x is b.0 placed.0, in_one_list b list, live)
      where
        there : (b : BufId) (list : WaitList) → marked u (sleeps_in b list (Asleep (At (AtBuffer b) list))) ≡ 1
        there b list = λ i. one_if (small i && sleeps_here b list i)

        in_one_list : (b : BufId) (list : WaitList)
            → marked u (sleeps_in b wait_list.Sleepers (Asleep (At (AtBuffer b) list)))
            + (marked u (sleeps_in b wait_list.Receivers (Asleep (At (AtBuffer b) list)))
            + marked u (sleeps_in b wait_list.Senders (Asleep (At (AtBuffer b) list)))) ≡ 1
        in_one_list b list = grind (arith, there, marked_none, and_right)

  one_place : count_in u (everyone setup s) ≡ one_if (is_live setup s u)
  one_place = grind (arith, by_post, unknown)

pub stand_in_one_place : StandInOnePlace
stand_in_one_place setup room s homes reached t = one_place setup s homes (reached_inv setup room s reached) t
