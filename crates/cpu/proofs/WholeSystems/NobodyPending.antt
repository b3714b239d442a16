-- When no thread is pending: in terms of the places of the threads, and of the pending queues.
use Rattle.std.proofs.Common.{◌≡◌, ◌≢◌, inl, inr, ℕ, ◌+◌, ◌<◌, Bool, true, false, ◌||◌, List, [], ◌∷◌, length, refl, ap, sym, ◌∙◌, arith}
use Rattle.std.proofs.lemmas.{Bool.{and_right, cases_eq}, Option.{slice_get_within, same_Some}}
use Rattle.{event_log.{specs.declared.ids.{CpuId.CpuId, Tid.Tid}, proofs.Same.same_cpu_self}, thread_blocks.{specs.Queues.is_in, proofs.Members.same_tid_self}}
use Rattle.layer_traits.specs.{declared.calls.Place.Place, Threads.{OnePlace.cpu_at, Places.{AreMoves, IsPending, Stands, Step, Threads, count_in, is_pend}}}
use Rattle.layer_traits.{specs.{Threads.Places.{one_if, pending_by, where_is}, Views.Observed.{IsOwnPlace, queue_place}}, proofs.CountLemmas.in_counted}
use Rattle.{layer_traits.proofs.{CountLemmas.is_thread_self, PlaceLemmas.{hand_at, pend_count, pend_home, pend_where}}, cpu.specs.Quiescent.AllQueuesEmpty}
use Rattle.cpu.specs.Claims.{IsPlaceOf, MovesAgree, SystemView}
use Rattle.layer_traits.specs.declared.calls.Place.TheVariants as place

pub true_is_not_false : {A : Type 0} (b : Bool) → b ≡ true → b ≡ false → A
true_is_not_false b on off = absurd (cc (on, off))

-- A thread in a CPU's scheduling state is in no pending queue.
module _ (homes : List CpuId) (c : CpuId) (moves : List Step) (local : Threads) (legal : AreMoves homes moves) (stands : Stands homes c moves local) (t : Tid)
    (d : CpuId) (pends : where_is homes moves t ≡ IsPending d) where
  pub no_own_place : (p : Place) → IsOwnPlace c local t p → ⊥
  no_own_place p at = grind (arith, is_thread_self, in_counted, hand_at, same_cpu_self, and_right)

-- whether a place is a pending queue
abbrev pub is_pending : Place → Bool
is_pending (place.Pending c) = true
is_pending other = false

-- a thread's place is a pending queue exactly if its moves left it in one
pub place_pends : (s : SystemView) (t : Tid) (p : Place) → MovesAgree s → IsPlaceOf s t p → (d : CpuId) → where_is s.homes s.moves t ≡ IsPending d
    → is_pending p ≡ true
place_pends s t p agree (inl (k, q, at, local)) d pends =
    absurd (no_own_place s.homes (cpu_at k) s.moves q.local agree.lawful (agree.stands k q at) t d pends p local)
place_pends s t p agree (inr told) d pends = ap is_pending (sym (same_Some (place.Pending d) p (sym (ap queue_place pends) ∙ told)))

-- all pending queues are empty exactly if no thread is in one
pub empty_of : (s : SystemView) → MovesAgree s → ((t : Tid) → t.0 < length s.homes → (d : CpuId) → where_is s.homes s.moves t ≢ IsPending d) → AllQueuesEmpty s
empty_of s agree nobody c exists = go (pending_by s.moves c) refl
  where
    go : (queue : List Tid) → pending_by s.moves c ≡ queue → queue ≡ []
    go [] is = refl
    go (t ∷ queue) is =
        let here = pend_where s.homes s.moves agree.lawful c t (ap (is_in t) is ∙ ap (λ b. b || is_in t queue) (same_tid_self t)) in
        let home = pend_home s.homes s.moves t c agree.lawful here in
        absurd (nobody t (slice_get_within s.homes t.0 c home) c here)

pub nobody_of : (s : SystemView) → MovesAgree s → AllQueuesEmpty s → (t : Tid) (d : CpuId) → where_is s.homes s.moves t ≢ IsPending d
nobody_of s agree empty t d pends =
    let home = pend_home s.homes s.moves t d agree.lawful pends in
    let gone : count_in t (pending_by s.moves d) ≡ 0 = ap (count_in t) (empty d (agree.within t d home)) in
    absurd (omega (arith, pend_count s.homes s.moves agree.lawful d t, ap (λ w. one_if (is_pend d w)) pends ∙ ap one_if (same_cpu_self d), gone))

pub pending_is : (p : Place) → is_pending p ≡ true → (c : CpuId) × (p ≡ place.Pending c)
pending_is p is = grind arith

-- what holds of each number below n, and of n
pub up_more : (P : ℕ → Type 0) (n : ℕ) → ((k : ℕ) → k < n → P k) → P n → (k : ℕ) → k < n + 1 → P k
up_more P n before here k within = grind (arith, cases_eq)
