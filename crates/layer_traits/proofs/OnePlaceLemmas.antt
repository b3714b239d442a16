-- Each thread has exactly one place: the sums over all CPUs, by cases on the thread's home and
-- place.
use Rattle.std.proofs.Common.{◌≡◌, ℕ, zero, suc, ◌+◌, ◌<◌, true, false, ◌&&◌, List, Option, Some, None, is_some, refl, ap, sym, ◌∙◌, arith}
use Rattle.std.proofs.lemmas.Bool.{and_right, cases_eq, ne_eqb}
use Rattle.{event_log.{specs.{declared.ids.{CpuId.CpuId, Tid.Tid}, History.same_cpu}, proofs.Same.same_cpu_self}, layer_traits.specs.Threads.OnePlace.total}
use Rattle.layer_traits.specs.Threads.{OnePlace.{cpu_at, AllStand, OnePlace}, Places.{Step, Threads, Where, Home, Hand, IsPending, Asleep, home_of, is_cpu}}
use Rattle.layer_traits.specs.Threads.Places.{is_thread, is_asleep, is_home, is_hand, is_pend, where_is, pending_by, one_if, count_in, copies}
use Rattle.layer_traits.proofs.PlaceLemmas.{pend_home, away_known, hand_home, pend_count}

pub total_same : (f g : ℕ → ℕ) (n : ℕ) → ((k : ℕ) → k < n → f k ≡ g k) → total f n ≡ total g n
total_same f g zero same = refl
total_same f g (suc n) same = grind (arith, total_same f g n)

pub total_none : (f : ℕ → ℕ) (n : ℕ) → ((k : ℕ) → k < n → f k ≡ 0) → total f n ≡ 0
total_none f zero none = refl
total_none f (suc n) none = grind (arith, total_none f n)

total_sum : (f g : ℕ → ℕ) (n : ℕ) → total (λ k. f k + g k) n ≡ total f n + total g n
total_sum f g zero = omega arith
total_sum f g (suc n) = let below = total_sum f g n in omega (arith, below)

-- if f is 0 except at d
pub total_at : (f : ℕ → ℕ) (n d : ℕ) → d < n → ((k : ℕ) → k < n → (k ≡ d → ⊥) → f k ≡ 0) → total f n ≡ f d
total_at f zero d within none = absurd (omega arith)
total_at f (suc n) d within none = grind (arith, total_at f n d, cases_eq, total_none)

-- if f is 1 at d and 0 elsewhere
pub total_one : (d : ℕ) (f : ℕ → ℕ) (n : ℕ) → d < n → f d ≡ 1 → ((k : ℕ) → (d ≡ k → ⊥) → f k ≡ 0) → total f n ≡ 1
total_one d f n within one none = total_at f n d within (λ k under other. none k (λ e. other (sym e))) ∙ one

-- of all CPUs the one that is d passes a test whether it is d
one_cpu : (d : CpuId) (n : ℕ) → d.0 < n → total (λ k. one_if (same_cpu d (cpu_at k))) n ≡ 1
one_cpu d n within = total_one d.0 (λ k. one_if (same_cpu d (cpu_at k))) n within (ap one_if (same_cpu_self d)) (λ k other. ap one_if (ne_eqb d.0 k other))

module _ (homes : List CpuId) (n : ℕ) (moves : List Step) (local : ℕ → Threads) (sleeping : Tid → ℕ) (all : AllStand homes n moves local sleeping)
    (t : Tid) where
  -- how often a thread is on its home CPU, in a CPU's hand or pending there, by case on the
  -- thread's place
  abbrev at_home : Where → ℕ
  at_home w = total (λ k. one_if (is_cpu (cpu_at k) (home_of homes t) && is_home w)) n

  abbrev in_hand : Where → ℕ
  in_hand w = total (λ k. one_if (is_hand (cpu_at k) w)) n

  abbrev in_queue : Where → ℕ
  in_queue w = total (λ k. one_if (is_pend (cpu_at k) w)) n

  away : (w : Where) → is_home w ≡ false → at_home w ≡ 0
  away w is = grind (arith, total_none, and_right)

  present : (home : Option CpuId) → home_of homes t ≡ home → total (λ k. one_if (is_cpu (cpu_at k) home && true)) n ≡ one_if (is_some home)
  present None is = total_none (λ k. 0) n (λ k within. refl)
  present (Some home) is =
      total_one home.0 (λ k. one_if (same_cpu (cpu_at k) home && true)) n (all.homes_within t home is)
      (ap (λ b. one_if (b && true)) (same_cpu_self home)) (λ k other. ap (λ b. one_if (b && true)) (ne_eqb k home.0 (λ e. other (sym e))))

  known : is_home (where_is homes moves t) ≡ false → one_if (is_some (home_of homes t)) ≡ 1
  known gone = ap one_if (away_known homes moves t all.moves_are gone)

  nowhere : total (λ k. 0) n ≡ 0
  nowhere = total_none (λ k. 0) n (λ k within. refl)

  -- each place is one of the five
  placed : (w : Where) → where_is homes moves t ≡ w → at_home w + in_hand w + in_queue w + one_if (is_asleep w) ≡ one_if (is_some (home_of homes t))
  placed Home is = omega (arith, present (home_of homes t) refl, nowhere)
  placed (Hand d) is =
      let some = hand_home homes moves t d all.moves_are is in
      omega (arith, away (Hand d) refl, known (ap is_home is), one_cpu d n (all.homes_within some.0 d some.1), nowhere)
  placed (IsPending d) is =
      omega (arith, away (IsPending d) refl, known (ap is_home is), one_cpu d n (all.homes_within t d (pend_home homes moves t d all.moves_are is)), nowhere)
  placed (Asleep p) is = omega (arith, away (Asleep p) refl, known (ap is_home is), nowhere)

pub one_place : OnePlace
one_place homes n moves local sleeping all t =
    let w : Where = where_is homes moves t in
    let mine = total_same (λ k. copies (local k) t) (λ k. one_if (is_cpu (cpu_at k) (home_of homes t) && is_home w)) n
    (λ k within. (all.stand k within).places t) in
    let parts = total_sum (λ k. one_if (is_thread t (local k).current) + count_in t (local k).ready) (λ k. count_in t (local k).ended) n in
    let hands = total_same (λ k. one_if (is_thread t (local k).hand)) (λ k. one_if (is_hand (cpu_at k) w)) n
    (λ k within. ap one_if ((all.stand k within).hand t)) in
    let queues = total_same (λ k. count_in t (pending_by moves (cpu_at k))) (λ k. one_if (is_pend (cpu_at k) w)) n
    (λ k within. pend_count homes moves all.moves_are (cpu_at k) t) in
    omega (arith, mine, parts, hands, queues, all.sleep t, placed homes n moves local sleeping all t w refl)
