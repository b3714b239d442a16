-- What a section leaves of the agreement: the caller's CPU moves on, and all others stay in
-- agreement.
use Rattle.std.proofs.Common.{◌≡◌, ℕ, ◌+◌, ◌<◌, Bool, true, false, ◌&&◌, List, [], ◌∷◌, length, Option, Some, None, is_some, nat_lt, if◌then◌else◌, refl, sym}
use Rattle.std.proofs.{Common.{ap, ◌∙◌, subst, arith}, lemmas.Bool.{and_from, and_left, and_right, false_from_ne_true}}
use Rattle.layer_traits.specs.Threads.{RunQueue.joins, Places.{Where, is_home, is_hand, is_thread, one_if, count_in}}
use Rattle.layer_traits.specs.declared.{locked.Side.TheVariants.{Receivers, Senders}, call_states.Stage.{Stage, TheVariants.{Idle, Acquires, Enters, Tries}}}
use Rattle.layer_traits.{specs.declared.call_states.Stage.TheVariants.{Waits, AcquiresAgain, Signals, SignalsOwn, Releases}, proofs.CountLemmas.same_tid_sym}
use Rattle.{layer_traits.proofs.CountLemmas.count_joins, event_log.specs.{declared.ids.{CpuId.CpuId, Tid.Tid}, History.same_cpu, Messages.Message, Runs.Group}}
use Rattle.{event_log.specs.Runs.{Sends, Receives, Closes}, guest.specs.State.State, thread_blocks.{specs.Queues.same_tid, proofs.Members.same_tid_self}}
use Rattle.{thread_blocks.proofs.Members.same_tid_true, cpu.specs.Table.Blocks.{Buffer, Name, Pend, TakeAll, side_of_group, Reported, Done, WasClosed, NotYet}}
use Rattle.cpu.specs.Table.{Blocks.Answer, Edits.{report_of_put, report_of_take, answer_of_buffer, drawn_position}, Setups.{SystemConfig, Call, Thread}}
use Rattle.cpu.specs.Table.{Setups.{CpuLocal, thread_at, with_thread, home_cpu, stands_at}, Choice.{section_due, first_section, with_call, with_state, goes_to}}
use Rattle.cpu.specs.Table.Choice.{with_told, recorded_entry, recorded_try, slept_if, woken, returned_at, returned_in, settled, guest_after, after_call}
use Rattle.cpu.{specs.Wakeups.Order.{Begins, HasEntered, WasRefused, Owes}, proofs.Wakeups.{Lists.refuted, PostsAndVisits.{Visit, Outside, In, is_pending}}}
use Rattle.cpu.proofs.Wakeups.PostsAndVisits.{caller_in, is_caller, post_slept, post_moved, post_drained, post_pending, next_visit, visit_moved, is_local}
use Rattle.cpu.proofs.Wakeups.Agreement.{visit_of_stage, visit_of_call, is_last, is_done, Agrees, IsSettled, at_same, at_other, Same, same_with, agrees_same}
use Rattle.cpu.proofs.Wakeups.Agreement.{runs_at_home, local_within, agrees_slept, agrees_woken}

-- A call returns once the hand is empty.

-- a call that is done is the current thread's
abbrev pub DoneRuns : SystemConfig → CpuId → CpuLocal → Type 0
DoneRuns setup c p = (u : Tid) → is_local setup c u ≡ true → is_done (thread_at p u).call ≡ true → is_thread u p.current ≡ true

module _ (setup : SystemConfig) (c : CpuId) where
  settled_in : (p : CpuLocal) (T : Tid → Visit) (P : Tid → Where) → Agrees setup c p T P → DoneRuns setup c p → (hand current : Option Tid) → p.hand ≡ hand
      → p.current ≡ current → Agrees setup c (returned_in setup p hand current) T P × IsSettled setup c (returned_in setup p hand current)
  settled_in p T P agrees done (Some s) current holds runs_now = (agrees, λ u local_is is. (ap is_some holds, done u local_is is))
  settled_in p T P agrees done None None holds runs_now = (agrees, λ u local_is is. refuted (ap (is_thread u) runs_now) (done u local_is is))
  settled_in p T P agrees done None (Some t) holds runs_now = grind (arith, not_yet, by_stage)
    where
      others_done : (u : Tid) → is_local setup c u ≡ true → is_done (thread_at p u).call ≡ true → same_tid t u ≡ true
      others_done u local_is is = sym (ap (is_thread u) runs_now) ∙ done u local_is is

      not_yet : is_done (thread_at p t).call ≡ false → IsSettled setup c p
      not_yet off u local_is is = refuted off (subst (λ v. is_done (thread_at p v).call ≡ true) (sym (same_tid_true t u (others_done u local_is is))) is)

      by_stage : (call : Call) → (thread_at p t).call ≡ Some call → (stage : Stage) → call.stage ≡ stage
          → Agrees setup c (returned_at setup p t call stage) T P × IsSettled setup c (returned_at setup p t call stage)
      by_stage call is Idle at =
          let local_is = (runs_at_home setup c p T P agrees t runs_now).0 in
          let known = local_within setup c p T P agrees t local_is in
          let x : Thread =
          record (thread_at p t) { guest = guest_after call.asks call.closed (stands_at setup p t) call.message (thread_at p t).guest; call = None } in
          let same : Same p (with_thread p t x) t = same_with p t x known refl in
          let none : (thread_at (with_thread p t x) t).call ≡ None = ap (λ y. y.call) (at_same p t x known) in
          let visit_now : T t ≡ Outside = agrees.calls t local_is ∙ ap visit_of_call is ∙ ap (visit_of_stage call.buffer (side_of_group call.asks)) at in (
            agrees_same setup c p (with_thread p t x) t T T P agrees same (λ u other. refl) (visit_now ∙ ap visit_of_call (sym none)),
            λ u mine done_now. grind (arith, refuted, same_tid_true, others_done, at_other, mine, done_now, same, none),
          )
      by_stage call is stage at = (agrees, not_yet (ap is_done is ∙ ap is_last at))

  pub agrees_settled : (p : CpuLocal) (T : Tid → Visit) (P : Tid → Where) → Agrees setup c p T P → DoneRuns setup c p
      → Agrees setup c (settled setup p) T P × IsSettled setup c (settled setup p)
  agrees_settled p T P agrees done = settled_in p T P agrees done p.hand p.current refl refl

-- The stage of a call, and what its section reports.

pub section_caller : (t : Tid) (call : Call) (stage : Stage) → caller_in (section_due t call stage) ≡ Some t
section_caller t call stage = grind arith

-- whether the section is the last of its call
abbrev pub is_release : Stage → Bool
is_release Releases = true
is_release stage = false

-- the state after the result of a section: all except the call is as it was, and the call is where
-- its next visit says
pub record Recorded (p q : CpuLocal) (t : Tid) (next : Visit) (ends : Bool) : Type 0 where
  pub same : Same p q t
  pub call : visit_of_call (thread_at q t).call ≡ next
  pub last : is_done (thread_at q t).call ≡ ends

module _ (p : CpuLocal) (t : Tid) (known : t.0 < length p.threads) where
  recorded_call : (call : Call) → Recorded p (with_call p t (Some call)) t (visit_of_call (Some call)) (is_last call.stage)
  recorded_call call = record {
    same = same_with p t (record (thread_at p t) { call = Some call }) known refl;
    call = ap (λ y. visit_of_call y.call) (at_same p t (record (thread_at p t) { call = Some call }) known);
    last = ap (λ y. is_done y.call) (at_same p t (record (thread_at p t) { call = Some call }) known);
  }

  module _ (c : CpuId) (call : Call) (k : Buffer) where
    at_entry : (asks : Group) → call.asks ≡ asks
        → Recorded p (recorded_entry c p t call asks (answer_of_buffer (first_section t asks) k).told) t
        (next_visit call.buffer (first_section t asks) k (In call.buffer Begins)) false
    at_entry Sends is =
        let now : Call = record call { position = drawn_position Senders k; stage = Tries } in
        subst (λ a. Recorded p (with_call p t (Some now)) t (In call.buffer (HasEntered (side_of_group a))) false) is (recorded_call now)
    at_entry Receives is =
        let now : Call = record call { position = drawn_position Receivers k; stage = Tries } in
        subst (λ a. Recorded p (with_call p t (Some now)) t (In call.buffer (HasEntered (side_of_group a))) false) is (recorded_call now)
    at_entry Closes is =
        let now : Call = record call { position = k.closes } in
        (grind (arith, recorded_call (record now { effect = Some k.effects; stage = Signals })))

    at_done : (op : ℕ) (m : Message) → Recorded p (recorded_try c p t call (Done op m)) t (In call.buffer (Owes true true)) false
    at_done op m = grind (arith, recorded_call (record call { message = m; effect = Some op; stage = Signals }))

    at_closed : (op : ℕ) → Recorded p (recorded_try c p t call (WasClosed op)) t (In call.buffer (Owes true true)) false
    at_closed op = grind (arith, recorded_call (record call { closed = true; effect = Some op; stage = Signals }))

    at_put : (closed : Bool) (op : ℕ) (m : Message) → Recorded p (recorded_try c p t call (report_of_put closed op m)) t (In call.buffer (Owes true true)) false
    at_put true op m = at_closed op
    at_put false op m = at_done op m

    at_take : (items : List Message) (op : ℕ) → Recorded p (recorded_try c p t call (report_of_take items op)) t (In call.buffer (Owes true true)) false
    at_take [] op = at_closed op
    at_take (m ∷ items) op = at_done op m

    at_try : (may : Bool) (told : Reported) → Recorded p (recorded_try c p t call told) t (In call.buffer (Owes true true)) false
        → Recorded p (recorded_try c p t call (if may then told else NotYet)) t
        (In call.buffer (if may then Owes true true else WasRefused (side_of_group call.asks))) false
    at_try true told does = does
    at_try false told does = recorded_call (record call { stage = Waits })

    -- what a call hears at each stage
    pub recorded_at : (stage : Stage) → is_last stage ≡ false
        → Recorded p (with_told c p t call stage (answer_of_buffer (section_due t call stage) k).told) t
        (next_visit call.buffer (section_due t call stage) k (visit_of_stage call.buffer (side_of_group call.asks) stage)) (is_release stage)
    recorded_at Acquires going = recorded_call (record call { stage = Enters })
    recorded_at Enters going = at_entry call.asks refl
    recorded_at Waits going = recorded_call (record call { stage = AcquiresAgain })
    recorded_at AcquiresAgain going = recorded_call (record call { stage = Tries })
    recorded_at Signals going =
        subst (λ z. Recorded p (goes_to p t call SignalsOwn) t z false) (sym (grind arith)) (recorded_call
        (record call { stage = SignalsOwn }))
    recorded_at SignalsOwn going =
        subst (λ z. Recorded p (goes_to p t call Releases) t z false) (sym (grind arith)) (recorded_call (record call { stage = Releases }))
    recorded_at Releases going = recorded_call (record call { stage = Idle })
    recorded_at stage going = grind (arith, call, at_try, at_put, at_take)

-- A section of the current thread's call.

pub slept_hand : (slept : Bool) (p : CpuLocal) → (slept_if slept p).hand ≡ p.hand
slept_hand slept p = grind arith

pub woken_threads : (setup : SystemConfig) (c : CpuId) (woke : Option Tid) (p : CpuLocal) (u : Tid)
    → (thread_at (woken setup c woke p) u).call ≡ (thread_at p u).call
woken_threads setup c woke p u = grind arith

-- in a private state that agrees, the hand is empty and thread t runs within this call
pub record IsCalling (setup : SystemConfig) (c : CpuId) (p : CpuLocal) (T : Tid → Visit) (P : Tid → Where) (t : Tid) (call : Call) : Type 0 where
  pub agrees : Agrees setup c p T P
  pub settled_before : IsSettled setup c p
  pub empty : p.hand ≡ None
  pub runs_now : p.current ≡ Some t
  pub is : (thread_at p t).call ≡ Some call

module _ (setup : SystemConfig) (c : CpuId) (p : CpuLocal) (T : Tid → Visit) (P : Tid → Where) (t : Tid) (call : Call)
    (calling : IsCalling setup c p T P t call) where
  open calling use {agrees, settled_before, empty, runs_now, is}

  local_now : is_local setup c t ≡ true
  local_now = (runs_at_home setup c p T P agrees t runs_now).0

  going : is_last call.stage ≡ false
  going = false_from_ne_true (is_last call.stage) (λ on. refuted (ap is_some empty) (settled_before t local_now (ap is_done is ∙ on)).0)

  module _ (k : Buffer) (asleep : (s : Tid) → (answer_of_buffer (section_due t call call.stage) k).woke ≡ Some s
      → (is_home (P s) ≡ false) × (nat_lt s.0 (length setup.homes) ≡ true)) where
    abbrev name : Name
    name = section_due t call call.stage

    abbrev a : Answer
    a = answer_of_buffer (section_due t call call.stage) k

    abbrev N : Tid → Visit
    N u = visit_moved call.buffer u name k (T u)

    abbrev is_waiter : Tid → Where
    is_waiter u = post_slept call.buffer u name a.slept (P u)

    abbrev now : Tid → Where
    now u = post_moved setup c call.buffer u name a.slept a.woke (P u)

    abbrev recorded_now : CpuLocal
    recorded_now = with_told c p t call call.stage a.told

    recorded_is : Recorded p recorded_now t (next_visit call.buffer name k (visit_of_stage call.buffer (side_of_group call.asks) call.stage))
        (is_release call.stage)
    recorded_is = recorded_at p t (local_within setup c p T P agrees t local_now) c call k call.stage going

    mine : is_caller t name ≡ true
    mine = ap (is_thread t) (section_caller t call call.stage) ∙ same_tid_self t

    others : (u : Tid) → same_tid t u ≡ false → is_caller u name ≡ false
    others u other = ap (is_thread u) (section_caller t call call.stage) ∙ other

    visit_now : N t ≡ visit_of_call (thread_at recorded_now t).call
    visit_now = grind (arith, call, mine, agrees, local_now, is, recorded_is)

    agrees_recorded : Agrees setup c recorded_now N P
    agrees_recorded =
        agrees_same setup c p recorded_now t T N P agrees recorded_is.same
        (λ u other. ap (λ d. if d then next_visit call.buffer name k (T u) else T u) (others u other)) visit_now

    runs_recorded : recorded_now.current ≡ Some t
    runs_recorded = recorded_is.same.current ∙ runs_now

    agrees_waiter : Agrees setup c (slept_if a.slept recorded_now) N is_waiter
    agrees_waiter = grind (arith, agrees_slept, agrees_recorded, and_right, others, and_left, and_from, mine, recorded_is)

    no_home : (s : Tid) → a.woke ≡ Some s → (is_home (is_waiter s) ≡ false) × (nat_lt s.0 (length setup.homes) ≡ true)
    no_home s woke = grind (arith, call)

    agrees_after : Agrees setup c (woken setup c a.woke (slept_if a.slept recorded_now)) N now
    agrees_after =
        agrees_woken setup c (slept_if a.slept recorded_now) N is_waiter a.woke agrees_waiter (slept_hand a.slept recorded_now ∙ recorded_is.same.hand
        ∙ empty) no_home

    done_after : DoneRuns setup c (woken setup c a.woke (slept_if a.slept recorded_now))
    done_after u local_is done = grind (arith, call, recorded_is, same_tid_true, runs_recorded, woken_threads, refuted, settled_before u local_is, empty)

    pub agrees_call : Agrees setup c (after_call setup c p t call a) N now × IsSettled setup c (after_call setup c p t call a)
    agrees_call = agrees_settled setup c (woken setup c a.woke (slept_if a.slept recorded_now)) N now agrees_after done_after

-- A section on pending threads.

pub drained_hand : (c : CpuId) (x : Where) → is_hand c (post_drained x) ≡ is_hand c x
drained_hand c x = grind arith

module _ (setup : SystemConfig) (c : CpuId) (p : CpuLocal) (T : Tid → Visit) (P : Tid → Where)
    (agrees : Agrees setup c p T P) (settled_before : IsSettled setup c p) where
  -- the thread in the hand is put among the pending
  pub agrees_pended : (d : CpuId) (s : Tid) → p.hand ≡ Some s
      → Agrees setup c (settled setup (record p { hand = None })) T (λ u. post_pending setup d u (Pend s) (P u))
      × IsSettled setup c (settled setup (record p { hand = None }))
  agrees_pended d s holds =
      agrees_settled setup c (record p { hand = None }) T (λ u. post_pending setup d u (Pend s) (P u))
      (grind (arith, agrees, same_tid_true, refuted, same_tid_self, holds)) (λ u local_is done. (settled_before u local_is done).1)

  -- those that were pending are ready
  pub agrees_drained : (list : List Tid) → ((u : Tid) → count_in u list ≡ one_if (same_cpu (home_cpu setup u) c && is_pending (P u)))
      → ((u : Tid) → is_home (P u) ≡ false → nat_lt u.0 (length setup.homes) ≡ true)
      → Agrees setup c (record p { ready = joins list p.ready }) T (λ u. post_pending setup c u TakeAll (P u))
  agrees_drained list counts known = grind (arith, agrees, count_joins, and_right, and_from, false_from_ne_true, refuted, drained_hand, counts, known)

-- the current thread yields: it is queued after the ready threads, and no thread runs
pub agrees_yielded : (setup : SystemConfig) (c : CpuId) (p : CpuLocal) (T : Tid → Visit) (P : Tid → Where) → Agrees setup c p T P → (t : Tid)
    → p.current ≡ Some t
    → (guest : State) → Agrees setup c (record (with_state p t guest) { current = None; ready = joins (t ∷ []) p.ready }) T P
agrees_yielded setup c p T P agrees t runs_now guest = grind (arith, moved, same_tid_sym, count_joins)
  where
    known : t.0 < length p.threads
    known = local_within setup c p T P agrees t (runs_at_home setup c p T P agrees t runs_now).0

    moved : Agrees setup c (with_state p t guest) T P
    moved =
        agrees_same setup c p (with_state p t guest) t T T P agrees (same_with p t (record (thread_at p t) { guest = guest }) known refl) (λ u other. refl)
        (agrees.calls t (runs_at_home setup c p T P agrees t runs_now).0
        ∙ ap (λ y. visit_of_call y.call) (sym (at_same p t (record (thread_at p t) { guest = guest }) known)))

-- A section of another CPU.

pub agrees_foreign : (setup : SystemConfig) (c : CpuId) (p : CpuLocal) (T N : Tid → Visit) (P M : Tid → Where) → Agrees setup c p T P
    → ((u : Tid) → is_local setup c u ≡ true → N u ≡ T u) → ((u : Tid) → is_local setup c u ≡ true → is_home (M u) ≡ is_home (P u))
    → ((u : Tid) → is_hand c (M u) ≡ is_hand c (P u)) → Agrees setup c p N M
agrees_foreign setup c p T N P M agrees visits homes in_hands = grind arith
