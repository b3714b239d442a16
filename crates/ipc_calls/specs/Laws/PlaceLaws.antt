-- The place that a part reports for a thread is correct, and for each thread some part can report
-- it.
use Rattle.std.specs.Prelude.{◌≡◌, ◌≢◌, ◌⊎◌, ℕ, ◌<◌, Bool, true, false, ◌||◌, ◌&&◌, List, Option}
use Rattle.std.specs.Prelude.{Some, None, length, option_map, option_and_then, refl}
use Rattle.std.{specs.Option.option_or, proofs.lemmas.Option.{same_Some, slice_get-get_or}}
use Rattle.std.proofs.{lemmas.Bool.or_parts, Common.{inl, inr, ap, subst, sym, ◌∙◌, arith}}
use Rattle.event_log.specs.declared.ids.{BufId.BufId, CpuId.CpuId, LockId.LockId}
use Rattle.event_log.specs.{declared.ids.{LockId.TheVariants.Buffer, Tid.Tid}, History.same_cpu}
use Rattle.event_log.proofs.Same.{same_cpu_self}
use Rattle.layer_traits.specs.declared.moves.WaitList.{WaitList, TheVariants.{Sleepers, Receivers}}
use Rattle.layer_traits.specs.declared.moves.WaitList.TheVariants.{Senders}
use Rattle.layer_traits.specs.{Layers.IpcLaw.WaitListsAgree, Threads.ListsAgree.is_at}
use Rattle.layer_traits.specs.Threads.Places.{AreMoves, Asleep, At, Hand, Home, IsPending}
use Rattle.layer_traits.specs.Threads.Places.{WaitChannel, Step, Where, count_in, home_of, is_hand}
use Rattle.layer_traits.specs.Threads.Places.{is_here, is_home, is_pend, is_thread, one_if}
use Rattle.layer_traits.specs.Threads.Places.{pending_by, wait_channel_of, where_is}
use Rattle.layer_traits.specs.Views.{Owned.wait_list_among, Observed.{IsObservedAs, ReadsPlace}}
use Rattle.layer_traits.{specs.Views.Observed.queue_place, proofs.CountLemmas.in_counted}
use Rattle.layer_traits.proofs.{CountLemmas.is_cpu_of, ListsLemmas.{at_wait_channel, count_none}}
use Rattle.layer_traits.proofs.{ListsLemmas.{counted_in, wait_channel_here}, PlaceLemmas.pend_count}
use Rattle.layer_traits.proofs.PlaceLemmas.{pend_home, pend_where}
use Rattle.{thread_blocks.specs.Queues.is_in, ipc_calls.specs.Parts.{IsSilentOf, asleep_at}}
use Rattle.ipc_calls.specs.{Parts.{wait_list_read, pends_read, said}, PlaceLaws.Watched}

-- a thread that is reported in a queue that was read is in one
said_in : {P : Type 0} (t : Tid) (queue : Option (List Tid))
    → said (option_map (is_in t) queue) ≡ true
    → ((q : List Tid) → queue ≡ Some q → is_in t q ≡ true → P) → P
said_in t None is then_so = absurd (cc is)
said_in t (Some q) is then_so = then_so q refl is

either : {P : Type 0} (a b : Bool) → (a || b) ≡ true → (a ≡ true → P) → (b ≡ true → P) → P
either true b is left right = left refl
either false b is left right = right is

-- a value from the first or else the second is from one of them
or_some : {A : Type 0} (a b : Option A) (x : A) → option_or a b ≡ Some x
    → (a ≡ Some x) ⊎ (b ≡ Some x)
or_some None b x is = inr is
or_some (Some a) b x is = inl is

-- the wait list that a test of the lists returns is one that contains the thread
among_in : (t : Tid) (wait_lists : WaitList → List Tid) (line : WaitList)
    → wait_list_among t wait_lists ≡ Some line → is_in t (wait_lists line) ≡ true
among_in t wait_lists line is = grind arith

-- and if there is none, the thread is in no wait list
among_none : (t : Tid) (wait_lists : WaitList → List Tid) → wait_list_among t wait_lists ≡ None
    → (line : WaitList) → is_in t (wait_lists line) ≡ true → ⊥
among_none t wait_lists none Sleepers stands = grind arith
among_none t wait_lists none other stands = grind arith

asleep_is : (w : Where) (wait_channel : WaitChannel) → wait_channel_of w ≡ Some wait_channel
    → w ≡ Asleep wait_channel
asleep_is (Asleep at) wait_channel is = ap Asleep (same_Some at wait_channel is)
asleep_is other wait_channel is = absurd (cc is)

-- the place of a thread that sleeps in a wait list of a buffer
pub sleeps_there : (b : BufId) (line : WaitList)
    → queue_place (Asleep (At (Buffer b) line)) ≡ Some (asleep_at b line)
sleeps_there b Sleepers = refl
sleeps_there b Receivers = refl
sleeps_there b Senders = refl

module _ {P : Type 0} (Coupled : P → Type 0) (cpu_of : P → CpuId) (IsInside : CpuId → Type 0)
    (homes : List CpuId) (moves : List Step) where
  -- a thread that is reported in a pending queue is in it
  pub read_pends : (t : Tid) (d : CpuId) (p : P) (here : P → Option (List Tid))
      (home : Option (List Tid)) → AreMoves homes moves → Coupled p
      → IsObservedAs Coupled cpu_of IsInside here home (pending_by moves d)
      → pends_read t home (here p) ≡ true → where_is homes moves t ≡ IsPending d
  read_pends t d p here home lawful coupled abstract_answer is =
      either (said (option_map (is_in t) home)) (said (option_map (is_in t) (here p))) is
      (λ by_machine. said_in t home by_machine
      (λ q at stands. pends
      (subst (λ r. is_in t r ≡ true) (abstract_answer.by_machine q at) stands)))
      (λ by_part. said_in t (here p) by_part
      (λ q at stands. pends
      (subst (λ r. is_in t r ≡ true) (abstract_answer.by_part p q coupled at) stands)))
    where
      pends : is_in t (pending_by moves d) ≡ true → where_is homes moves t ≡ IsPending d
      pends stands = pend_where homes moves lawful d t stands

  module _ (n : ℕ) (wait_lists : BufId → WaitList → List Tid)
      (agree : WaitListsAgree n homes moves wait_lists) (b : BufId) (within : b.0 < n) where
    sleeps : (t : Tid) (line : WaitList) → is_in t (wait_lists b line) ≡ true
        → where_is homes moves t ≡ Asleep (At (Buffer b) line)
    sleeps t line stands =
        let counted : 0 < count_in t (wait_lists b line) =
        in_counted t (wait_lists b line) stands in
        let once = agree.once b line t within in
        let at : is_at (Buffer b) line (wait_channel_of (where_is homes moves t)) ≡ true
        = positive (is_at (Buffer b) line (wait_channel_of (where_is homes moves t)))
        (rw once at counted) in
        asleep_is (where_is homes moves t) (At (Buffer b) line)
        (at_wait_channel (Buffer b) line (wait_channel_of (where_is homes moves t)) at)
      where
        positive : (at : Bool) → 0 < one_if at → at ≡ true
        positive true is = refl
        positive false is = absurd (omega (arith, is))

    -- a thread that is reported in a wait list of a buffer sleeps there
    pub read_sleeps : (t : Tid) (line : WaitList) (p : P) (here : P → Option (WaitList → List Tid))
        (home : Option (WaitList → List Tid)) → Coupled p
        → IsObservedAs Coupled cpu_of IsInside here home (wait_lists b)
        → wait_list_read t home (here p) ≡ Some line
        → where_is homes moves t ≡ Asleep (At (Buffer b) line)
    read_sleeps t line p here home coupled abstract_answer is =
        elim (or_some (option_and_then (wait_list_among t) home)
        (option_and_then (wait_list_among t) (here p)) line is) [
          | inl by_machine ↦ reported_by home abstract_answer.by_machine by_machine
          | inr by_part ↦ reported_by (here p) (λ ls at. abstract_answer.by_part p ls coupled at)
              by_part
        ]
      where
        reported_by : (o : Option (WaitList → List Tid))
            → ((ls : WaitList → List Tid) → o ≡ Some ls → ls ≡ wait_lists b)
            → option_and_then (wait_list_among t) o ≡ Some line
            → where_is homes moves t ≡ Asleep (At (Buffer b) line)
        reported_by None same is = absurd (cc is)
        reported_by (Some ls) same is =
            sleeps t line (among_in t (wait_lists b) line
            (ap (wait_list_among t) (sym (same ls refl)) ∙ is))

-- a queue that was read and contains a thread is not reported to be without it
not_silent : (t : Tid) (abstract_answer : Option (List Tid)) (queue : List Tid)
    → is_in t queue ≡ true
    → said (option_map (is_in t) abstract_answer) ≡ false
    → abstract_answer ≡ Some queue → ⊥
not_silent t abstract_answer queue stands silent is = let says =
    ap (λ o. said (option_map (is_in t) o)) is in cc (says, stands, silent)

-- and so are lists
not_quiet : (t : Tid) (abstract_answer : Option (WaitList → List Tid))
    (wait_lists : WaitList → List Tid)
    (line : WaitList) → is_in t (wait_lists line) ≡ true
    → option_and_then (wait_list_among t) abstract_answer ≡ None → abstract_answer ≡ Some wait_lists
    → ⊥
not_quiet t abstract_answer wait_lists line stands quiet is =
    among_none t wait_lists (rw is at quiet) line stands

-- if something is reported, and every report is true, the truth is reported
tells_truth : {A : Type 0} (abstract_answer : Option A) (truth : A) → abstract_answer ≢ None
    → ((x : A) → abstract_answer ≡ Some x → x ≡ truth) → abstract_answer ≡ Some truth
tells_truth None truth some same = absurd (some refl)
tells_truth (Some x) truth some same = ap Some (same x refl)

no_wait_list : (a b : Option WaitList) → option_or a b ≡ None → (a ≡ None) × (b ≡ None)
no_wait_list None b none = (refl, none)
no_wait_list (Some line) b none = absurd (cc none)

-- a thread that exists has a home CPU
pub home_there : (homes : List CpuId) (t : Tid) → t.0 < length homes
    → (home : CpuId) × (home_of homes t ≡ Some home)
home_there homes t there = (_, slice_get-get_or homes t.0 (record { 0 = 0 }) there)

-- for each thread some part can report its place
module _ {P : Type 0} (watched : Watched P) (t : Tid) (home : CpuId)
    (home_is : home_of watched.homes t ≡ Some home) where
  open watched use {
    Coupled,
    cpu_of,
    IsInside,
    homes,
    moves,
    n,
    wait_lists,
    local,
    queue_at,
    queue_with,
    wait_lists_at,
    wait_lists_with,
  }
  open watched use {lawful, agree, stands, queues, waiters_law}

  abbrev IsSilent : P → Type 0
  IsSilent q =
      IsSilentOf t (local q) (home_of homes t) n queue_at (queue_with q) wait_lists_at
      (wait_lists_with q)

  abbrev Observed : Where → Type 0
  Observed w = ReadsPlace Coupled cpu_of IsInside IsSilent (home_of homes t) w

  -- a thread at `Home` is in its home CPU's scheduling state
  at_home : (q : P) → cpu_of q ≡ home → Coupled q → where_is homes moves t ≡ Home → IsSilent q → ⊥
  at_home q at coupled is silent =
      let places = (stands q coupled).places t in
      let here : is_here homes (cpu_of q) moves t ≡ true =
      both (is_cpu_of (cpu_of q) (home_of homes t) (home_is ∙ ap Some (sym at)))
      (ap is_home is) in
      let once : one_if (is_here homes (cpu_of q) moves t) ≡ 1 = ap one_if here in
      let current : one_if (is_thread t (local q).current) ≡ 0 = ap one_if silent.away.current in
      let ready = count_none t (local q).ready silent.away.ready in
      let ended = count_none t (local q).ended silent.away.ended in
      omega (arith, places, once, current, ready, ended)
    where
      both : {a b : Bool} → a ≡ true → b ≡ true → (a && b) ≡ true
      both {a} {b} one other = ap (λ c. c && b) one ∙ other

  in_hand : (q : P) (c : CpuId) → cpu_of q ≡ c → Coupled q → where_is homes moves t ≡ Hand c
      → IsSilent q → ⊥
  in_hand q c at coupled is silent =
      let hand = (stands q coupled).hand t in
      let has : is_hand (cpu_of q) (where_is homes moves t) ≡ true =
      ap (is_hand (cpu_of q)) is ∙ (ap (same_cpu c) at ∙ same_cpu_self c) in
      absurd (cc (silent.away.hand, hand, has))

  pending : (d : CpuId) → where_is homes moves t ≡ IsPending d → is_in t (pending_by moves d) ≡ true
  pending d is =
      let once : one_if (is_pend d (where_is homes moves t)) ≡ 1 =
      ap (λ w. one_if (is_pend d w)) is ∙ ap one_if (same_cpu_self d) in
      let count = pend_count homes moves lawful d t in
      counted_in t (pending_by moves d) (omega (arith, once, count))

  in_wait_list : (b : BufId) (line : WaitList) → b.0 < n
      → where_is homes moves t ≡ Asleep (At (Buffer b) line) → is_in t (wait_lists b line) ≡ true
  in_wait_list b line within is =
      let here : one_if (is_at (Buffer b) line (wait_channel_of (where_is homes moves t))) ≡ 1
      = ap (λ w. one_if (is_at (Buffer b) line (wait_channel_of w))) is
      ∙ ap one_if (wait_channel_here (Buffer b) line) in
      let count = agree.once b line t within in
      counted_in t (wait_lists b line) (omega (arith, here, count))

  -- what is in the machine every part can report, and what is in a CPU's hands that CPU's part can
  by_told : {A : Type 0} (w : Where) (here : P → Option A) (abstract_answer : Option A) (truth : A)
      → IsObservedAs Coupled cpu_of IsInside here abstract_answer truth
      → ((p : P) → IsSilent p → (abstract_answer ≡ Some truth → ⊥) × (here p ≡ Some truth → ⊥))
      → Observed w
  by_told w here (Some x) truth sees quiet =
      record {
        cpu = home;
        may = inl home_is;
        has = λ p same coupled silent. (quiet p silent).0 (ap Some (sees.by_machine x refl));
      }
  by_told w here None truth sees quiet = let it = sees.somewhere refl in record {
    cpu = it.cpu;
    may = inr (inr (it.known, it.inside));
    has =
        λ p same coupled silent. (quiet p silent).1
        (tells_truth (here p) truth (it.has p same coupled)
        (λ x abstract_answer. sees.by_part p x coupled abstract_answer));
  }

  by_queue : (d : CpuId) → where_is homes moves t ≡ IsPending d → Observed (IsPending d)
  by_queue d is = let its = pend_home homes moves t d lawful is in
      by_told (IsPending d) (λ q. queue_with q d) (queue_at d) (pending_by moves d) (queues t d its)
      (λ p silent.
      let quiet =
      or_parts (said (option_map (is_in t) (queue_at d)))
      (said (option_map (is_in t) (queue_with p d))) (silent.pends d its) in (
        not_silent t (queue_at d) (pending_by moves d) (pending d is) quiet.0,
        not_silent t
            (queue_with p d) (pending_by moves d) (pending d is) quiet.1,
      ))

  by_wait_lists : (b : BufId) (line : WaitList) → b.0 < n
      → where_is homes moves t ≡ Asleep (At (Buffer b) line)
      → Observed (Asleep (At (Buffer b) line))
  by_wait_lists b line within is = let stands = in_wait_list b line within is in
      by_told (Asleep (At (Buffer b) line)) (λ q. wait_lists_with q b) (wait_lists_at b)
      (wait_lists b) (waiters_law b within) (λ p silent. let quiet =
      no_wait_list (option_and_then (wait_list_among t) (wait_lists_at b))
      (option_and_then (wait_list_among t) (wait_lists_with p b))
      (silent.wait_lists b within) in (
        not_quiet t (wait_lists_at b) (wait_lists b) line stands quiet.0,
        not_quiet t
            (wait_lists_with p b) (wait_lists b) line stands quiet.1,
      ))

  asleep : (lock : LockId) (line : WaitList) → where_is homes moves t ≡ Asleep (At lock line)
      → Observed (Asleep (At lock line))
  asleep lock line is = let known = agree.known t lock line is in
      subst (λ other. Observed (Asleep (At other line))) (sym known.1)
      (by_wait_lists known.0 line known.2 (is ∙ ap (λ other. Asleep (At other line)) known.1))

  pub place_reads : Observed (where_is homes moves t)
  place_reads = go (where_is homes moves t) refl
    where
      go : (w : Where) → where_is homes moves t ≡ w → Observed w
      go Home is =
          record {
            cpu = home;
            may = inl home_is;
            has = λ q at coupled silent. at_home q at coupled is silent;
          }
      go (Hand c) is =
          record {
            cpu = c;
            may = inr (inl refl);
            has = λ q at coupled silent. in_hand q c at coupled is silent;
          }
      go (IsPending d) is = by_queue d is
      go (Asleep (At lock line)) is = asleep lock line is
