-- The waiting lists of locks and the places of threads agree after each section. A thread that a
-- section wakes is therefore asleep.
use Rattle.std.proofs.Common.{◌≡◌, ◌+◌, ◌<◌, Bool, true, false, ◌&&◌, List, [], ◌∷◌, Option, Some, None, option_map, if◌then◌else◌, refl, ap, ◌∙◌, arith}
use Rattle.std.proofs.lemmas.Bool.{and_left, and_right}
use Rattle.event_log.specs.{declared.ids.{LockId.LockId, Tid.Tid, TheConstants.THREADS}, History.{same_lock, IsLawful}, Sections.{Section, block_after}}
use Rattle.{event_log.proofs.Same.{same_lock_self, same_lock_true}, layer_traits.specs.declared.moves.WaitList.{WaitList, TheVariants.{Sleepers, Receivers}}}
use Rattle.layer_traits.specs.declared.{moves.WaitList.TheVariants.Senders, sleeps.{Outcome.Outcome, Wake.{Wake, TheVariants.{Nobody, FirstSleeper, Receiver}}}}
use Rattle.layer_traits.specs.{declared.sleeps.Wake.TheVariants.Sender, Threads.{ListsAgree.{same_list, is_at, Agrees}, MoveRules.{edit_move, section_moves}}}
use Rattle.layer_traits.specs.Threads.{MoveRules.{slept_at, asleep_after, asleep_by}, Places.{WaitChannel, At, Moved, is_thread, is_wait_channel, one_if}}
use Rattle.layer_traits.specs.{Threads.Places.count_in, Layers.Sleeping.{SleepRules, SleepState, joined, wait_list_joined, left, woken_by, wait_list_of}}
use Rattle.layer_traits.specs.Layers.Sleeping.{wait_list_at, answer_above, sleep_edited, sleep_answer, sleep_woke, wait_list_after, sleep_rules, sleep_moves}
use Rattle.layer_traits.{specs.Layers.Sleeping.{NoSleepers, IsAwake}, proofs.CountLemmas.{count_append, count_front, in_counted, is_thread_self, not_counted}}
use Rattle.thread_blocks.{specs.Queues.{same_tid, is_in, first, rest, without}, proofs.Members.same_tid_true}

-- Counts.

-- a thread that is not in a list is not counted
pub count_none : (t : Tid) (q : List Tid) → is_in t q ≡ false → count_in t q ≡ 0
count_none t [] out = refl
count_none t (x ∷ q) out = grind (arith, count_none t q)

-- and a thread that is counted is in it
pub counted_in : (t : Tid) (q : List Tid) → 0 < count_in t q → is_in t q ≡ true
counted_in t q some = grind (arith, count_none t q)

-- a thread that is removed is gone, and each other is there as before
pub count_without : (t u : Tid) (q : List Tid) → count_in t (without u q) ≡ (if same_tid u t then 0 else count_in t q)
count_without t u [] = grind arith
count_without t u (x ∷ q) = grind (arith, count_without t u q)

-- a thread that joins a list is in it once more
pub count_joined : (t x : Tid) (q : List Tid) → x.0 < THREADS → is_in x q ≡ false → count_in t (joined x q) ≡ count_in t q + one_if (same_tid t x)
count_joined t x q small new = grind (arith, count_append)

-- Places.

-- a thread that sleeps in one waiting list sleeps in no other, and at no other lock
same_list_true : (line other : WaitList) → same_list line other ≡ true → line ≡ other
same_list_true line other same = grind arith

same_list_self : (line : WaitList) → same_list line line ≡ true
same_list_self line = grind arith

pub at_wait_channel : (lock : LockId) (line : WaitList) (p : Option WaitChannel) → is_at lock line p ≡ true → p ≡ Some (At lock line)
at_wait_channel lock line p at = grind (arith, same_lock_true, same_list_true)

pub wait_channel_here : (lock : LockId) (line : WaitList) → is_at lock line (Some (At lock line)) ≡ true
wait_channel_here lock line = ap (λ b. b && same_list line line) (same_lock_self lock) ∙ same_list_self line

other_list : (lock : LockId) (line other : WaitList) → same_list line other ≡ false → is_at lock other (Some (At lock line)) ≡ false
other_list lock line other apart = and_right (same_lock lock lock) (same_list line other) apart

other_lock : (lock at : LockId) (line at_line : WaitList) → same_lock at lock ≡ false → is_at lock line (Some (At at at_line)) ≡ false
other_lock lock at line at_line apart = and_left (same_lock at lock) (same_list at_line line) apart

-- two locks are apart from either side
lock_apart : (lock other : LockId) → same_lock lock other ≡ false → same_lock other lock ≡ false
lock_apart lock other apart = grind arith

-- The lists of one lock, and the threads that leave and join them.

module _ (lock : LockId) (lines : WaitList → List Tid) (asleep : Tid → Option WaitChannel) (agrees : Agrees lock lines asleep) where
  -- a thread in a list sleeps there
  pub stands_asleep : (line : WaitList) (t : Tid) → 0 < count_in t (lines line) → asleep t ≡ Some (At lock line)
  stands_asleep line t some = at_wait_channel lock line (asleep t) (grind (arith, agrees line t))

  -- a thread that is awake is in no list
  awake_out : (line : WaitList) (t : Tid) → asleep t ≡ None → count_in t (lines line) ≡ 0
  awake_out line t awake = agrees line t ∙ ap (λ p. one_if (is_at lock line p)) awake

  -- a list that no thread left, if the thread that left was in another
  stays_there : (line other : WaitList) (t : Tid) (b : Bool) → (b ≡ true → 0 < count_in t (lines line)) → same_list line other ≡ false
      → count_in t (lines other) ≡ one_if (is_at lock other (if b then None else asleep t))
  stays_there line other t b stood apart = grind (arith, stands_asleep, other_list)

  first_stood : (line : WaitList) (t : Tid) → is_thread t (first (lines line)) ≡ true → 0 < count_in t (lines line)
  first_stood line t is = grind (arith, count_front t (lines line))

  -- the list that its first left
  first_left : (line : WaitList) (t : Tid) → count_in t (rest (lines line)) ≡ one_if (is_at lock line (if is_thread t (first
      (lines line)) then None else asleep t))
  first_left line t = grind (arith, count_front t (lines line), agrees line t)

  -- a thread that is woken by name was in the list
  named_stood : (line : WaitList) (t u : Tid) → is_thread t (if is_in u (lines line) then Some u else None) ≡ true → 0 < count_in t (lines line)
  named_stood line t u is = grind (arith, same_tid_true, in_counted u (lines line))

  -- the list that the named one left, if it was there
  named_left : (line : WaitList) (t u : Tid)
      → count_in t (without u (lines line)) ≡ one_if (is_at lock line (if is_thread t (if is_in u (lines line) then Some u else None) then None else asleep t))
  named_left line t u = grind (arith, count_without t u (lines line), agrees line t, same_tid_true, count_none u (lines line))

  -- the lists agree after these left
  left_agrees : (leave : Wake) → Agrees lock (λ line. left line leave (lines line))
      (λ t. if is_thread t (woken_by leave (lines Sleepers) (lines Receivers) (lines Senders)) then None else asleep t)
  left_agrees Nobody Sleepers t = agrees Sleepers t
  left_agrees Nobody line t = agrees line t
  left_agrees FirstSleeper Sleepers t = first_left Sleepers t
  left_agrees FirstSleeper line t = stays_there Sleepers line t _ (first_stood Sleepers t) refl
  left_agrees (Receiver u) Receivers t = named_left Receivers t u
  left_agrees (Receiver u) line t = stays_there Receivers line t _ (named_stood Receivers t u) refl
  left_agrees (Sender u) Senders t = named_left Senders t u
  left_agrees (Sender u) line t = stays_there Senders line t _ (named_stood Senders t u) refl

  -- a thread that they wake sleeps at this lock
  pub woken_asleep : (leave : Wake) (t : Tid) → is_thread t (woken_by leave (lines Sleepers) (lines Receivers) (lines Senders)) ≡ true
      → (line : WaitList) × (asleep t ≡ Some (At lock line))
  woken_asleep Nobody t is = absurd cc
  woken_asleep FirstSleeper t is = (Sleepers, stands_asleep Sleepers t (first_stood Sleepers t is))
  woken_asleep (Receiver u) t is = (Receivers, stands_asleep Receivers t (named_stood Receivers t u is))
  woken_asleep (Sender u) t is = (Senders, stands_asleep Senders t (named_stood Senders t u is))

  module _ (caller : Tid) (awake : asleep caller ≡ None) (small : caller.0 < THREADS) where
    -- the list that an awake thread joined
    joined_here : (line : WaitList) (t : Tid) → count_in t (joined caller (lines line))
        ≡ one_if (is_at lock line (if same_tid caller t then Some (At lock line) else asleep t))
    joined_here line t = grind (arith, awake_out, count_joined, not_counted, same_tid_true, wait_channel_here)

    -- a list that it did not join
    joined_there : (line at : WaitList) (t : Tid) → same_list at line ≡ false
        → count_in t (lines line) ≡ one_if (is_at lock line (if same_tid caller t then Some (At lock at) else asleep t))
    joined_there line at t apart = grind (arith, awake_out line caller awake, agrees line t, same_tid_true, apart)

    -- the lists agree after an awake thread joined one
    join_agrees : (joins : Option WaitList) → Agrees lock (λ line. wait_list_joined line joins caller (lines line))
        (λ t. if same_tid caller t then slept_at lock joins (asleep t) else asleep t)
    join_agrees None Sleepers t = grind (arith, agrees Sleepers t)
    join_agrees None line t = grind (arith, agrees line t)
    join_agrees (Some Sleepers) Sleepers t = joined_here Sleepers t
    join_agrees (Some Receivers) Receivers t = joined_here Receivers t
    join_agrees (Some Senders) Senders t = joined_here Senders t
    join_agrees (Some at) line t = joined_there line at t refl

module _ (lock : LockId) (lines : WaitList → List Tid) (asleep : Tid → Option WaitChannel) (agrees : Agrees lock lines asleep) (leave : Wake) (caller : Tid)
    (awake : asleep caller ≡ None) (small : caller.0 < THREADS) (joins : Option WaitList) where
  -- which thread the section wakes
  abbrev woke : Option Tid
  woke = woken_by leave (lines Sleepers) (lines Receivers) (lines Senders)

  -- a woken thread is not the caller
  both_ways : (t : Tid) (b : Bool) → is_thread t woke ≡ b → (if same_tid caller t then slept_at lock joins (if b then None else asleep t) else
      (if b then None else asleep t)) ≡ (if b then None else (if same_tid caller t then slept_at lock joins (asleep t) else asleep t))
  both_ways t false is = refl
  both_ways t true is = go (same_tid caller t) refl
    where
      go : (d : Bool) → same_tid caller t ≡ d → (if d then slept_at lock joins None else None) ≡ None
      go false other = refl
      go true same =
          let some = woken_asleep lock lines asleep agrees leave t is in
          absurd (cc (rw (same_tid_true caller t same) at awake, some.1))

  -- the lists of a section's own lock agree after it
  pub own_agrees : Agrees lock (λ line. wait_list_joined line joins caller (left line leave (lines line)))
      (λ t. asleep_after (Moved lock caller joins woke) t (asleep t))
  own_agrees line t =
      let after : (if is_thread caller woke then None else asleep caller) ≡ None = grind (arith, awake) in
      join_agrees lock (λ l. left l leave (lines l)) (λ u. if is_thread u woke then None else asleep u) (left_agrees lock lines asleep agrees leave)
      caller after small joins line t ∙ ap (λ p. one_if (is_at lock line p)) (both_ways t (is_thread t woke) refl)

  -- and those of another lock
  pub other_agrees : (other : LockId) (others : WaitList → List Tid) → same_lock other lock ≡ false → Agrees other others asleep
      → Agrees other others (λ t. asleep_after (Moved lock caller joins woke) t (asleep t))
  other_agrees other others apart there line t =
      let turned = lock_apart other lock apart in
      let slept : is_thread t woke ≡ true → is_at other line (asleep t) ≡ false = λ is.
      let some = woken_asleep lock lines asleep agrees leave t is in
      ap (is_at other line) some.1 ∙ other_lock other lock line some.0 turned in
      grind (arith, there line t, slept, awake, same_tid_true, turned)

-- The lists of all locks, section by section.

-- which thread a result says is woken
abbrev woke_in : {O : Type 0} → Option (Outcome O) → Option Tid
woke_in None = None
woke_in (Some outcome) = outcome.woke

module _ {E B O : Type 0} (protocol : SleepRules E B O) (opening : LockId → Option (SleepState B)) where
  -- the block of a lock after these sections
  abbrev after : LockId → List (Section E) → Option (SleepState B)
  after lock past = block_after (sleep_edited protocol) opening lock past

  -- where a thread sleeps after them
  abbrev asleep : List (Section E) → Tid → Option WaitChannel
  asleep past t = asleep_by (section_moves (sleep_rules protocol) (sleep_moves protocol) opening past) t

  edited_is : (line : WaitList) (e : E) (state : SleepState B)
      → wait_list_of line (sleep_edited protocol e state) ≡ wait_list_after protocol line e state (wait_list_of line state)
  edited_is line e state = grind arith

  edited_agrees : (lock : LockId) (past : List (Section E)) (s : Section E) (state : SleepState B) → IsAwake protocol opening past s
      → Agrees lock (λ line. wait_list_of line state) (asleep past) → (line : WaitList) (t : Tid)
      → count_in t (wait_list_of line (sleep_edited protocol s.edit state))
      ≡ one_if (is_at lock line (asleep_after (Moved lock (protocol.caller s.edit) (protocol.joins (answer_above protocol s.edit state))
      (sleep_woke protocol s.edit state)) t (asleep past t)))
  edited_agrees lock past s state awake agrees line t =
      ap (count_in t) (edited_is line s.edit state) ∙ own_agrees lock (λ l. wait_list_of l state) (asleep past) agrees
      (protocol.leaves (answer_above protocol s.edit state)) (protocol.caller s.edit) awake.awake awake.small
      (protocol.joins (answer_above protocol s.edit state)) line t

  agree_step : (past : List (Section E)) (s : Section E) → IsAwake protocol opening past s
      → ((lock : LockId) → Agrees lock (λ line. wait_list_at line (after lock past)) (asleep past))
      → (lock : LockId) → Agrees lock (λ line. wait_list_at line (after lock (s ∷ past))) (asleep (s ∷ past))
  agree_step past s awake agree lock line t = go (after s.lock past) refl (same_lock lock s.lock) refl
    where
      go : (o : Option (SleepState B)) → after s.lock past ≡ o → (b : Bool) → same_lock lock s.lock ≡ b
          → count_in t (wait_list_at line (if b then option_map (sleep_edited protocol s.edit) (after lock past) else after lock past))
          ≡ one_if (is_at lock line
          (asleep_after (edit_move (sleep_moves protocol) s.lock s.edit (option_map (sleep_answer protocol s.edit) o)) t (asleep past t)))
      go None is false other = agree lock line t
      go None is true same = grind (arith, same_lock_true)
      go (Some state) is true same =
          let one = same_lock_true lock s.lock same in
          rw (ap (λ l. after l past) one ∙ is, one) (edited_agrees s.lock past s state awake (rw is at (agree s.lock)) line t)
      go (Some state) is false other =
          other_agrees s.lock (λ l. wait_list_of l state) (asleep past) (rw is at (agree s.lock)) (protocol.leaves (answer_above protocol s.edit state))
          (protocol.caller s.edit) awake.awake awake.small (protocol.joins (answer_above protocol s.edit state))
          lock (λ l. wait_list_at l (after lock past)) other (agree lock) line t

  -- after sections whose callers are awake the lists agree with the places
  pub lists_agree : (past : List (Section E)) → IsLawful (IsAwake protocol opening) past → NoSleepers opening
      → (lock : LockId) → Agrees lock (λ line. wait_list_at line (block_after (sleep_edited protocol) opening lock past))
      (λ t. asleep_by (section_moves (sleep_rules protocol) (sleep_moves protocol) opening past) t)
  lists_agree [] lawful nobody lock line t = ap (count_in t) (nobody lock line)
  lists_agree (s ∷ past) lawful nobody lock line t = agree_step past s lawful.0 (lists_agree past lawful.1 nobody) lock line t

  -- a thread that a section wakes is asleep
  pub section_wakes : (past : List (Section E)) (s : Section E) (outcome : Outcome O) (u : Tid) → IsLawful (IsAwake protocol opening) past → NoSleepers opening
      → option_map (sleep_answer protocol s.edit) (block_after (sleep_edited protocol) opening s.lock past) ≡ Some outcome → outcome.woke ≡ Some u
      → is_wait_channel (asleep_by (section_moves (sleep_rules protocol) (sleep_moves protocol) opening past) u) ≡ true
  section_wakes past s outcome u lawful nobody answers wakes = go (after s.lock past) (lists_agree past lawful nobody s.lock) answers
    where
      go : (o : Option (SleepState B)) → Agrees s.lock (λ line. wait_list_at line o) (asleep past) → option_map (sleep_answer protocol s.edit) o ≡ Some outcome
          → is_wait_channel (asleep past u) ≡ true
      go None agrees none = absurd cc
      go (Some state) agrees some =
          let abstract_answer : sleep_woke protocol s.edit state ≡ Some u = ap (λ (o : Option (Outcome O)). woke_in o) some ∙ wakes in
          let stood = woken_asleep s.lock (λ l. wait_list_of l state) (asleep past) agrees (protocol.leaves (answer_above protocol s.edit state)) u
          (is_thread_self u _ abstract_answer) in
          ap is_wait_channel stood.1
