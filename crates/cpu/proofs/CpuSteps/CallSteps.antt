-- One poll of a call: what it needs, and that the CPU's invariant holds after it.
use Rattle.std.proofs.{lemmas.{Bool.{eq-eqb, ne_eqb, cases_eq, ltb-true}, List.{length-append, length-set}}, Common.{◌≡◌, ◌≢◌, ◌⊎◌, inl, inr, ℕ, ◌+◌, ◌<◌, ◌≤◌}}
use Rattle.std.proofs.Common.{Bool, true, false, not, List, ◌++◌, length, Option, Some, None, option_map, refl, ap, sym, ◌∙◌, subst, arith, reverse, slice_set}
use Rattle.std.specs.List.{AllByRecursion}
use Rattle.{event_log.specs.declared.{entries.Entry.Entry, ids.{CpuId.CpuId, Tid.Tid, TheConstants.THREADS}}, thread_blocks.specs.Queues.is_in}
use Rattle.{guest.specs.State.next_of, layer_traits.specs.declared.{calls.{Call.Call, Effect.Effect, Reply.Reply}, call_states.CallState.CallState}}
use Rattle.layer_traits.specs.{Threads.Places.{Threads, home_of, one_if}, Layers.BufferLaw.{Called, Calling, UnderWay, MayPollCall, RunsOn, begun_of}}
use Rattle.{layer_traits.specs.Layers.BufferLaw.{buffer_of, still_calling, call_state_of}, cpu.specs.declared.cpus.Choice.TheVariants.Polls}
use Rattle.cpu.specs.{declared.guests.{Guest.Guest, NextAction.{NextAction, TheVariants.Calls}, GuestStage.TheVariants.Done}, Cpus.{AllFollow, AreOver, IsCpu}}
use Rattle.cpu.specs.Cpus.{IsOfHome, begins_at, begun_count, is_begun_guest, chosen, chosen_at, chosen_by, chosen_for, chosen_todo, under_way_of, fresh_at}
use Rattle.cpu.specs.{Cpus.{guest_at, of_cpu, of_thread, with_guest}, Guests.{HasCome, HasComeIn, entries_of, fresh_effect, is_begun, is_calling, is_ended}}
use Rattle.cpu.{specs.Guests.{polled, stage_after, todo_of}, proofs.ListFacts.GuestLists.{with_each, at_other, at_same, count_with, cpu_grown, guest_within}}
use Rattle.cpu.proofs.{ListFacts.GuestLists.{trace_reversed, room_kept}, CpuSteps.{CpuStates.ValidCpu, GuestsFollow.{answered_by, poll_followed, had_going}}}
use Rattle.cpu.proofs.CpuSteps.GuestsFollow.{may_poll_call, stays_settled}

-- what a chosen poll implies: its thread runs, and its guest is at the call
pub record PollsAt (local : Threads) (guests : List (Option Guest)) (t : Tid) (c : Call) : Type 0 where
  pub runs : local.current ≡ Some t
  pub guest : Guest
  pub at : guest_at guests t.0 ≡ Some guest
  pub asks : todo_of guest ≡ Calls c

record TodoIs (u t : Tid) (todo : NextAction) (c : Call) : Type 0 where
  same : u ≡ t
  asks : todo ≡ Calls c

todo_polls : (u t : Tid) (todo : NextAction) (c : Call) → chosen_todo u todo ≡ Polls t c → TodoIs u t todo c
todo_polls u t (Calls d) c is = record { same = cc is; asks = cc is }
todo_polls u t other c is = absurd (cc is)

by_polls : (u t : Tid) (calling : Bool) (hand : Option Tid) (todo : NextAction) (c : Call) → chosen_by u calling hand todo ≡ Polls t c → TodoIs u t todo c
by_polls u t false (Some s) todo c is = absurd (cc is)
by_polls u t calling hand todo c is = todo_polls u t todo c is

for_polls : (local : Threads) (guests : List (Option Guest)) (u t : Tid) (hand : Option Tid) (o : Option Guest) (c : Call) → local.current ≡ Some u
    → guest_at guests u.0 ≡ o → chosen_for u hand o ≡ Polls t c → PollsAt local guests t c
for_polls local guests u t hand None c runs at is = absurd (cc is)
for_polls local guests u t hand (Some g) c runs at is =
    let asks = by_polls u t (is_calling g.stage) hand (todo_of g) c is in
    record {
      runs = runs ∙ ap (λ (x : Tid). Some x) asks.same;
      guest = g;
      at = subst (λ (x : Tid). guest_at guests x.0 ≡ Some g) asks.same at;
      asks = asks.asks;
    }

pub polls_is : (local : Threads) (guests : List (Option Guest)) (t : Tid) (c : Call) → chosen local guests ≡ Polls t c → PollsAt local guests t c
polls_is local guests t c is = go local.current refl is
  where
    go : (current : Option Tid) → local.current ≡ current → chosen_at current local.hand local.ready guests ≡ Polls t c → PollsAt local guests t c
    go None runs chose = absurd (grind (arith, chose))
    go (Some u) runs chose = for_polls local guests u t local.hand (guest_at guests u.0) c runs refl chose

-- a guest that is at a call has not ended
asks_lives : (g : Guest) (es : List Entry) (call_state : CallState) (c : Call) → HasCome g es call_state → todo_of g ≡ Calls c → is_ended g.stage ≡ false
asks_lives g es call_state c follows asks = grind arith

-- what one poll of a call leaves of a CPU for which the machine's holder acts
pub record PolledCpu (ActsFor : CpuId → Type 0) (cpu : ValidCpu) (t : Tid) (c : Call) : Type 0 where
  pub call_states : List CallState
  pub history : List Entry
  pub local : Threads
  pub under_way : Option UnderWay
  pub guests : List (Option Guest)
  pub trace : List Entry
  pub capacity : ℕ
  pub answer : Option Reply
  pub acts : ActsFor cpu.number
  pub home : home_of cpu.homes t ≡ Some cpu.number
  pub called : Called ActsFor cpu.number t c cpu.call_states call_states cpu.history history answer
  pub runs_on : RunsOn t cpu.local local answer
  pub under_way_is : under_way ≡ still_calling t local.current answer
  pub guests_is : guests ≡ with_guest cpu.guests t.0 (λ g. polled g ((call_state_of call_states t).effect) answer)
  pub trace_is : trace ≡ cpu.trace ++ entries_of cpu.number t (buffer_of c) (fresh_at (guest_at cpu.guests t.0) ((call_state_of call_states t).effect))
  -- a call began only if the trace had room for its entry, and the trace's own room is no less
  pub strict : begins_at (guest_at cpu.guests t.0) ≡ true → length cpu.trace + begun_count cpu.guests < cpu.limit
  pub capacity_is : cpu.capacity ≤ capacity

module _ (cpu : ValidCpu) (t : Tid) (c : Call) (chose : chosen cpu.local cpu.guests ≡ Polls t c) where
  open cpu use {homes, buffers, history, local, call_states, under_way, number, guests, trace, limit, capacity, is}

  pub polls_at : PollsAt local guests t c
  polls_at = polls_is local guests t c chose

  follows_at : HasCome polls_at.guest (of_thread t.0 (of_cpu number history)) (call_state_of call_states t)
  follows_at = is.follow t polls_at.guest polls_at.at

  -- what the poll asks for
  pub poll_call_states : MayPollCall (call_state_of call_states t) c
  poll_call_states = may_poll_call (call_state_of call_states t) c follows_at.0
      (grind (arith, follows_at, polls_at.asks))

  pub poll_buffer : (buffer_of c).0 < buffers
  poll_buffer = ltb-true (buffer_of c).0 buffers
      (grind (arith, polls_at.asks, is.named t polls_at.guest polls_at.at polls_at.guest.thread.line))

  pub poll_within : t.0 < length guests
  poll_within = guest_within guests t.0 polls_at.guest polls_at.at

  pub poll_number : t.0 < THREADS
  poll_number = let within = poll_within in let few = is.few in omega (arith, within, few)

  -- What one poll leaves.
  module _ (ActsFor : CpuId → Type 0) (after : PolledCpu ActsFor cpu t c) where
    open after use {
      call_states as states2,
      history as seen2,
      local as own2,
      under_way as under_way2,
      guests as guests2,
      trace as trace2,
      capacity as capacity2,
      answer,
    }
    open after use {acts, home, called, runs_on, under_way_is, guests_is, trace_is, strict, capacity_is}

    abbrev left : Option Effect
    left = (call_state_of states2 t).effect

    abbrev g : Guest
    g = polls_at.guest

    abbrev fresh : Option Effect
    fresh = fresh_effect g.stage left

    abbrev new : List Entry
    new = entries_of number t (buffer_of c) fresh

    abbrev next : Guest
    next = polled g left answer

    follow_t : (called.mine ≡ fresh) × HasComeIn next.stage g.program next.thread (new ++ of_thread t.0 (of_cpu number history))
        (begun_of (call_state_of states2 t)) left
    follow_t =
        let goes = had_going (call_state_of call_states t) c poll_call_states in
        poll_followed g.program g.thread (next_of g.program g.thread) c number t refl polls_at.asks g.stage (of_thread t.0 (of_cpu number history))
        (begun_of (call_state_of call_states t)) (begun_of (call_state_of states2 t)) (call_state_of call_states t).effect left called.mine answer follows_at.1
        (λ f mine. let of_call = called.fresh f mine in (sym goes ∙ of_call.0, of_call.1, of_call.2))
        (λ none. called.stays none ∙ goes) (answered_by c (call_state_of states2 t) answer called.answers)

    mine_is : of_cpu number seen2 ≡ new ++ of_cpu number history
    mine_is =
        ap (λ (l : List Entry). of_cpu number l) (called.is ∙ ap (λ (x : Option Effect). entries_of number t (buffer_of c) x ++ (called.others ++ history))
        follow_t.0) ∙ cpu_grown ActsFor number t (buffer_of c) fresh called.others history called.foreign acts

    trace_new : trace2 ≡ trace ++ new
    trace_new = trace_is ∙ ap (λ (x : Option Effect). trace ++ entries_of number t (buffer_of c) x) (ap (λ (o : Option Guest). fresh_at o left) polls_at.at)

    guest_new : guest_at guests2 t.0 ≡ Some next
    guest_new = ap (λ (l : List (Option Guest)). guest_at l t.0) guests_is ∙ at_same guests t.0 (λ x. polled x left answer) g polls_at.at

    guest_other : (u : ℕ) → u ≢ t.0 → guest_at guests2 u ≡ guest_at guests u
    guest_other u other = ap (λ (l : List (Option Guest)). guest_at l u) guests_is ∙ at_other guests t.0 u (λ x. polled x left answer) other

    kept_new : trace2 ≡ reverse (of_cpu number seen2)
    kept_new = trace_new ∙ trace_reversed number t (buffer_of c) fresh (of_cpu number history) trace is.kept ∙ ap (λ (l : List Entry). reverse l) (sym mine_is)

    follow_new : AllFollow guests2 (of_cpu number seen2) states2
    follow_new = λ (u : Tid) (x : Guest) at. subst (λ (l : List Entry). HasCome x (of_thread u.0 l) (call_state_of states2 u)) (sym mine_is)
        (with_each guests guests2 t.0 next guest_new guest_other
        (λ (k : ℕ) (y : Guest). HasCome y (of_thread k (new ++ of_cpu number history)) (call_state_of states2 (record { 0 = k }))) (
          stays_settled c (call_state_of states2 t) answer called.answers,
          subst (λ (l : List Entry). HasComeIn next.stage g.program next.thread l (begun_of (call_state_of states2 t)) left)
              (sym (grind (arith, eq-eqb))) follow_t.1,
        ) (λ k y other there.
        subst (λ (l : List Entry). HasCome y l (call_state_of states2 (record { 0 = k })))
        (sym (grind (arith, ne_eqb, other)))
        (subst (λ (call_state : CallState). HasCome y (of_thread k (of_cpu number history)) call_state) (sym (called.apart (record { 0 = k }) other))
        (is.follow (record { 0 = k }) y there)))
        u.0 x at)

    over_new : AreOver guests2 own2.ended
    over_new = λ (u : Tid) ended (x : Guest) at.
        with_each guests guests2 t.0 next guest_new guest_other (λ (k : ℕ) (y : Guest). is_in (record { 0 = k }) local.ended ≡ true → is_ended y.stage ≡ true)
        (λ over.
        let no = asks_lives g (of_thread t.0 (of_cpu number history)) (call_state_of call_states t) c follows_at polls_at.asks in
        absurd (cc (is.over t over g polls_at.at, no)))
        (λ k y other there over. is.over (record { 0 = k }) over y there)
        u.0 x at (subst (λ (l : List Tid). is_in u l ≡ true) runs_on.ended ended)

    homed_new : (u : Tid) → home_of homes u ≡ Some number → (x : Guest) × (guest_at guests2 u.0 ≡ Some x)
    homed_new u at = go (cases_eq u.0 t.0)
      where
        go : (u.0 ≡ t.0) ⊎ (u.0 ≡ t.0 → ⊥) → (x : Guest) × (guest_at guests2 u.0 ≡ Some x)
        go (inl same) = (next, subst (λ (k : ℕ). guest_at guests2 k ≡ Some next) (sym same) guest_new)
        go (inr other) = let there = is.homed u at in (there.0, guest_other u.0 other ∙ there.1)

    -- the call continues
    calling_none : (f : Option Effect) → is_calling (stage_after f None) ≡ true
    calling_none f = grind arith

    agrees_new : (d : UnderWay) → under_way2 ≡ Some d → under_way_of (chosen own2 guests2) ≡ Some d
    agrees_new d at = go answer own2.current refl refl (sym under_way_is ∙ at)
      where
        go : (a : Option Reply) (current : Option Tid) → answer ≡ a → own2.current ≡ current → still_calling t current a ≡ Some d
            → under_way_of (chosen own2 guests2) ≡ Some d
        go (Some r) None told runs still = absurd (cc still)
        go (Some r) (Some u) told runs still = absurd (cc still)
        go None None told runs still = absurd (cc still)
        go None (Some u) told runs still = grind (arith, runs_on, guest_new, calling_none)

    calls_new : (u : Tid) (x : Guest) → under_way2 ≡ Some (Calling u) → guest_at guests2 u.0 ≡ Some x → is_calling x.stage ≡ true
    calls_new u x at there = grind (arith, under_way_is, guest_new, calling_none)

    handed_new : (u : Tid) → own2.current ≡ Some u → under_way2 ≡ None → own2.hand ≡ None
    handed_new u runs none = grind (arith, under_way_is, runs_on)

    room_new : length trace2 + begun_count guests2 ≤ limit
    room_new =
        let counted = ap (λ (l : List (Option Guest)). begun_count l + one_if (is_begun g.stage))
        (guests_is ∙ ap (λ (o : Option Guest). slice_set guests t.0 (option_map (λ (x : Guest). polled x left answer) o)) polls_at.at)
        ∙ (ap (λ (o : Option Guest). begun_count (slice_set guests t.0 (Some next)) + one_if (is_begun_guest o)) (sym polls_at.at)
        ∙ count_with guests t.0 (Some next) poll_within) in
        let kept = room_kept g.stage left answer number t (buffer_of c) (length trace) (begun_count guests) (begun_count guests2) limit counted is.room
        (λ (free : not (is_calling g.stage) ≡ true). strict (ap begins_at polls_at.at ∙ free)) (λ done. has_had done) in
        omega (arith, ap (λ (l : List Entry). length l) trace_new ∙ length-append trace new, kept)
      where
        has_had : g.stage ≡ Done → left ≢ None
        has_had done none = grind (arith, follow_t, had_going, poll_call_states, follows_at)

    pub noted_call : IsCpu homes buffers seen2 own2 states2 under_way2 number guests2 trace2 limit capacity2
    noted_call = record {
      kept = kept_new;
      stays = subst (λ (l : List Entry). AllByRecursion (IsOfHome homes number) l) (sym mine_is) (grind (arith, home));
      follow = follow_new;
      over = over_new;
      homed = homed_new;
      named = λ (u : Tid) (x : Guest) at. grind (arith, guest_new, guest_other, at);
      few = grind (arith, guests_is, length-set);
      agrees = agrees_new;
      calls = calls_new;
      handed = handed_new;
      room = room_new;
      reserved = let reserved = is.reserved in omega (arith, reserved, capacity_is);
    }
