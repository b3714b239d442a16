-- One CPU's private state against the places and the calls of its threads: the running thread and
-- the ready threads have this home CPU, the hand holds the thread that it woke, and each call is at
-- the stage that its visit gives.
use Rattle.std.proofs.Common.{◌≡◌, ℕ, ◌+◌, ◌<◌, Bool, true, false, not, ◌&&◌, [], ◌∷◌, length, Option, Some, None, is_some, nat_lt, if◌then◌else◌, refl, sym}
use Rattle.std.proofs.{Common.{ap, ◌∙◌, subst, arith}, lemmas.Bool.{and_parts, and_from, and_left, and_right, false_from_ne_true, ltb-true, eqb-false}}
use Rattle.std.proofs.lemmas.List.{length-set, get_or-set_same, get_or-set_other}
use Rattle.layer_traits.specs.{Threads.{RunQueue.joins, Places.{Where, is_home, is_hand, is_thread, one_if, count_in}}, declared.locked.Side.Side}
use Rattle.layer_traits.specs.declared.{locked.Side.TheVariants.{Receivers, Senders}, call_states.Stage.{Stage, TheVariants.{Idle, Enters, Tries, Waits}}}
use Rattle.layer_traits.{specs.declared.call_states.Stage.TheVariants.{AcquiresAgain, Signals, SignalsOwn, Releases}, proofs.CountLemmas.same_tid_sym}
use Rattle.{layer_traits.proofs.{CountLemmas.count_joins, PlaceLemmas.is_home_true}, event_log.specs.declared.ids.{CpuId.CpuId, Tid.Tid, BufId.BufId}}
use Rattle.{event_log.{specs.History.same_cpu, proofs.Same.same_cpu_self}, thread_blocks.{specs.Queues.same_tid, proofs.Members.{same_tid_self, same_tid_true}}}
use Rattle.cpu.specs.Table.{Blocks.side_of_group, Setups.{SystemConfig, Call, Thread, CpuLocal, new_thread, thread_at, with_thread, home_cpu}, Choice.slept_if}
use Rattle.cpu.{specs.{Table.Choice.woken, Wakeups.Order.{Progress, Begins, HasEntered, WasRefused, Owes}}, proofs.Wakeups.Lists.refuted}
use Rattle.cpu.proofs.Wakeups.PostsAndVisits.{Waiting, Visit, Outside, In, post_woken, is_local}

-- once the other side is signalled, the own side is owed its signal
abbrev pub owing_own : Side → Progress
owing_own Senders = Owes false true
owing_own Receivers = Owes true false

-- the visit of a call at each stage
abbrev pub visit_of_stage : BufId → Side → Stage → Visit
visit_of_stage b side Enters = In b Begins
visit_of_stage b side Tries = In b (HasEntered side)
visit_of_stage b side Waits = In b (WasRefused side)
visit_of_stage b side AcquiresAgain = Waiting b side
visit_of_stage b side Signals = In b (Owes true true)
visit_of_stage b side SignalsOwn = In b (owing_own side)
visit_of_stage b side Releases = In b (Owes false false)
visit_of_stage b side given = Outside

abbrev pub visit_of_call : Option Call → Visit
visit_of_call None = Outside
visit_of_call (Some call) = visit_of_stage call.buffer (side_of_group call.asks) call.stage

-- a call that has done its last section
abbrev pub is_last : Stage → Bool
is_last Idle = true
is_last stage = false

abbrev pub is_done : Option Call → Bool
is_done None = false
is_done (Some call) = is_last call.stage

-- a home thread that has not ended runs or is ready, once
abbrev pub seat : SystemConfig → CpuId → Tid → Where → Bool → Bool
seat setup c u x ended = is_local setup c u && (is_home x && not ended)

pub record Agrees (setup : SystemConfig) (c : CpuId) (p : CpuLocal) (T : Tid → Visit) (P : Tid → Where) : Type 0 where
  pub size : length p.threads ≡ length setup.homes
  pub calls : (u : Tid) → is_local setup c u ≡ true → T u ≡ visit_of_call (thread_at p u).call
  pub seats : (u : Tid) → one_if (is_thread u p.current) + count_in u p.ready ≡ one_if (seat setup c u (P u) (thread_at p u).ended)
  pub hands : (u : Tid) → is_thread u p.hand ≡ is_hand c (P u)
  pub ends : (u : Tid) → is_local setup c u ≡ true → (thread_at p u).ended ≡ true → is_home (P u) ≡ true

-- a call that has done its last section waits for the hand to be empty, and its thread runs
abbrev pub IsSettled : SystemConfig → CpuId → CpuLocal → Type 0
IsSettled setup c p = (u : Tid) → is_local setup c u ≡ true → is_done (thread_at p u).call ≡ true → (is_some p.hand ≡ true) × (is_thread u p.current ≡ true)

-- Threads by number.

pub at_same : (p : CpuLocal) (t : Tid) (x : Thread) → t.0 < length p.threads → thread_at (with_thread p t x) t ≡ x
at_same p t x known = get_or-set_same p.threads t.0 x new_thread known

pub at_other : (p : CpuLocal) (t u : Tid) (x : Thread) → same_tid t u ≡ false → thread_at (with_thread p t x) u ≡ thread_at p u
at_other p t u x other = get_or-set_other p.threads t.0 u.0 x new_thread (λ same. eqb-false t.0 u.0 other (sym same))

-- all threads but t are as they were, and t has ended if it had
pub record Same (p q : CpuLocal) (t : Tid) : Type 0 where
  pub current : q.current ≡ p.current
  pub ready : q.ready ≡ p.ready
  pub hand : q.hand ≡ p.hand
  pub size : length q.threads ≡ length p.threads
  pub ended : (u : Tid) → (thread_at q u).ended ≡ (thread_at p u).ended
  pub others : (u : Tid) → same_tid t u ≡ false → (thread_at q u).call ≡ (thread_at p u).call

pub same_with : (p : CpuLocal) (t : Tid) (x : Thread) → t.0 < length p.threads → x.ended ≡ (thread_at p t).ended → Same p (with_thread p t x) t
same_with p t x known ended = grind (arith, length-set, at_other, same_tid_true, at_same)

-- a thread's instruction does not matter while it has a call, nor does the trace
pub agrees_same : (setup : SystemConfig) (c : CpuId) (p q : CpuLocal) (t : Tid) (T N : Tid → Visit) (P : Tid → Where) → Agrees setup c p T P → Same p q t
    → ((u : Tid) → same_tid t u ≡ false → N u ≡ T u) → N t ≡ visit_of_call (thread_at q t).call → Agrees setup c q N P
agrees_same setup c p q t T N P agrees same others mine = grind (arith, by_test)
  where
    by_test : (u : Tid) → is_local setup c u ≡ true → (local : Bool) → same_tid t u ≡ local → N u ≡ visit_of_call (thread_at q u).call
    by_test u local_is true is = subst (λ v. N v ≡ visit_of_call (thread_at q v).call) (same_tid_true t u is) mine
    by_test u local_is false other = others u other ∙ agrees.calls u local_is ∙ ap visit_of_call (sym (same.others u other))

-- The thread that runs.

pub runs_at_home : (setup : SystemConfig) (c : CpuId) (p : CpuLocal) (T : Tid → Visit) (P : Tid → Where) → Agrees setup c p T P → (t : Tid) → p.current ≡ Some t
    → (is_local setup c t ≡ true) × (is_home (P t) ≡ true) × ((thread_at p t).ended ≡ false) × (count_in t p.ready ≡ 0)
runs_at_home setup c p T P agrees t is = grind (arith, same_tid_self, and_parts)

pub known_of : (setup : SystemConfig) (c : CpuId) (t : Tid) → is_local setup c t ≡ true → t.0 < length setup.homes
known_of setup c t local_is = ltb-true t.0 (length setup.homes) (and_parts (same_cpu (home_cpu setup t) c) (nat_lt t.0 (length setup.homes)) local_is).1

pub local_within : (setup : SystemConfig) (c : CpuId) (p : CpuLocal) (T : Tid → Visit) (P : Tid → Where) → Agrees setup c p T P
    → (t : Tid) → is_local setup c t ≡ true → t.0 < length p.threads
local_within setup c p T P agrees t local_is = subst (λ n. t.0 < n) (sym agrees.size) (known_of setup c t local_is)

-- a thread that runs has a place among the threads
pub runs_within : (setup : SystemConfig) (c : CpuId) (p : CpuLocal) (T : Tid → Visit) (P : Tid → Where) → Agrees setup c p T P
    → (t : Tid) → p.current ≡ Some t → t.0 < length p.threads
runs_within setup c p T P agrees t is = local_within setup c p T P agrees t (runs_at_home setup c p T P agrees t is).0

-- The caller falls asleep.

pub agrees_slept : (setup : SystemConfig) (c : CpuId) (p : CpuLocal) (t : Tid) (T : Tid → Visit) (P N : Tid → Where) (slept : Bool) → Agrees setup c p T P
    → p.current ≡ Some t → ((u : Tid) → same_tid t u ≡ false → N u ≡ P u) → (slept ≡ false → N t ≡ P t)
    → (slept ≡ true → (is_home (N t) ≡ false) × (is_hand c (N t) ≡ false)) → Agrees setup c (slept_if slept p) T N
agrees_slept setup c p t T P N false agrees runs_now others stays sleeps = grind (arith, same)
  where
    same : (u : Tid) → N u ≡ P u
    same u = grind (arith, same_tid_true, others)
agrees_slept setup c p t T P N true agrees runs_now others stays sleeps = grind (arith, runs_at_home, same_tid_true, is_home_true, refuted, and_right, and_left)

-- A thread is woken.

pub agrees_woken : (setup : SystemConfig) (c : CpuId) (p : CpuLocal) (T : Tid → Visit) (P : Tid → Where) (woke : Option Tid) → Agrees setup c p T P
    → p.hand ≡ None
    → ((s : Tid) → woke ≡ Some s → (is_home (P s) ≡ false) × (nat_lt s.0 (length setup.homes) ≡ true))
    → Agrees setup c (woken setup c woke p) T (λ u. if is_thread u woke then post_woken setup c u else P u)
agrees_woken setup c p T P None agrees empty asleep = agrees
agrees_woken setup c p T P (Some s) agrees empty asleep = by_home (same_cpu (home_cpu setup s) c) refl
  where
    by_home : (here : Bool) → same_cpu (home_cpu setup s) c ≡ here
        → Agrees setup c (if here then record p { ready = joins (s ∷ []) p.ready } else record p { hand = Some s }) T
        (λ u. if same_tid s u then post_woken setup c u else P u)
    by_home true here = record {
      size = agrees.size;
      calls = agrees.calls;
      seats = λ u. sits u (same_tid s u) refl (count_in u (joins (s ∷ []) p.ready)) (count_joins u (s ∷ []) p.ready);
      hands = λ u. held u (same_tid s u) refl;
      ends = λ u local_is ended. at_home u local_is ended (same_tid s u) refl;
    }
      where
        sits : (u : Tid) (mine : Bool) → same_tid s u ≡ mine → (n : ℕ) → n ≡ count_in u p.ready + count_in u (s ∷ [])
            → one_if (is_thread u p.current) + n ≡ one_if (seat setup c u (if mine then post_woken setup c u else P u) (thread_at p u).ended)
        sits u true is n count = grind (arith, and_from, false_from_ne_true, refuted, same_tid_self, same_tid_true, and_right, and_left, same_tid_sym)
        sits u false is n count = grind (arith, agrees.seats u, same_tid_sym)

        held : (u : Tid) (mine : Bool) → same_tid s u ≡ mine → is_thread u p.hand ≡ is_hand c (if mine then post_woken setup c u else P u)
        held u true is = grind (arith, same_tid_true)
        held u false is = agrees.hands u

        at_home : (u : Tid) → is_local setup c u ≡ true → (thread_at p u).ended ≡ true → (mine : Bool) → same_tid s u ≡ mine
            → is_home (if mine then post_woken setup c u else P u) ≡ true
        at_home u local_is ended true is = grind (arith, same_tid_true, refuted)
        at_home u local_is ended false is = agrees.ends u local_is ended
    by_home false away = grind (arith, agrees, sits, held, at_home)
      where
        sits : (u : Tid) (mine : Bool) → same_tid s u ≡ mine
            → one_if (is_thread u p.current) + count_in u p.ready ≡ one_if (seat setup c u (if mine then post_woken setup c u else P u) (thread_at p u).ended)
        sits u mine is = grind (arith, same_tid_true, and_right, and_left)

        held : (u : Tid) (mine : Bool) → same_tid s u ≡ mine → mine ≡ is_hand c (if mine then post_woken setup c u else P u)
        held u mine is = grind (arith, same_tid_true, same_cpu_self)

        at_home : (u : Tid) → is_local setup c u ≡ true → (thread_at p u).ended ≡ true → (mine : Bool) → same_tid s u ≡ mine
            → is_home (if mine then post_woken setup c u else P u) ≡ true
        at_home u local_is ended mine is = grind (arith, same_tid_true, refuted)
