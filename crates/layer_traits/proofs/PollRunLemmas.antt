-- Consecutive polls: what they keep, and that a call without an end and an effect so far may be
-- polled again.
use Rattle.std.proofs.Common.{◌≡◌, ◌≢◌, ◌⊎◌, ℕ, ◌+◌, ◌<◌, ◌≤◌, List, Option, Some, None, is_some, length, refl, ap, sym, ◌∙◌, subst, arith}
use Rattle.std.proofs.Math.Nat.{lt_of_not-le}
use Rattle.{event_log.specs.declared.ids.{CpuId.CpuId, Tid.Tid}, layer_traits.specs.declared.calls.{Call.Call, Effect.Effect, Reply.Reply, ReplyKind.ReplyKind}}
use Rattle.layer_traits.specs.{declared.{call_layers.CallLayer.Ghosts, call_states.{Stage.Stage, CallState.CallState}}, Blocks.Capacities.caps_in}
use Rattle.layer_traits.specs.Layers.BufferLaw.{BufferPlan, Buffering, Calling, IsEffectOf, MayGoOn, MayPollCall, UnderWay, begun_at, begun_of, buffer_of}
use Rattle.layer_traits.specs.{Layers.BufferLaw.{call_state_of, going, going_at, still_calling}, Views.OwnParts.threads_in, Polling.Framed.Framed}
use Rattle.layer_traits.specs.Polling.{LayerPolls.{IsBegunAt, LookedOnAt, PolledAt, PolledOnAt}, PollRuns.{LookedOn, once, again, looks}}

-- a call that has begun continues unchanged
going_begun_at : (stage : Stage) (call_state : CallState) (call : Call) → begun_at stage call_state.call ≡ Some call
    → going_at stage call_state call ≡ call_state
going_begun_at stage call_state call is = grind (arith, is)

begun_is_at : (stage : Stage) (call_state : CallState) (call : Call) → begun_at stage call_state.call ≡ Some call → call_state.call ≡ Some call
begun_is_at stage call_state call is = grind (arith, is)

pub going_begun : (call_state : CallState) (call : Call) → begun_of call_state ≡ Some call → going call_state call ≡ call_state
going_begun call_state call is = going_begun_at call_state.stage call_state call is

pub may_go_on : (call_state : CallState) (call : Call) → begun_of call_state ≡ Some call → MayPollCall call_state call
may_go_on call_state call is =
    ap (λ (x : CallState). x.call) (going_begun call_state call is) ∙ begun_is_at call_state.stage call_state call is

-- a call that has not ended and whose thread runs is pending
still_called : (t : Tid) (current : Option Tid) (under_way : Option UnderWay) → current ≡ Some t → under_way ≡ still_calling t current None
    → under_way ≡ Some (Calling t)
still_called t current under_way runs is = is ∙ ap (λ (u : Option Tid). still_calling t u None) runs

still_runs : {A : Type 0} (t : Tid) (current : Option Tid) → (current ≡ Some t) ⊎ ((current ≡ None) × A) → current ≢ None → current ≡ Some t
still_runs t current either runs = grind (arith, either)

-- if a poll leaves a call with an effect exactly if it had one, it is the same
effect_kept : (call : Call) (old new mine : Option Effect) → ((f : Effect) → mine ≡ Some f → (old ≡ None) × (new ≡ Some f) × IsEffectOf call f)
    → (mine ≡ None → new ≡ old) → is_some new ≡ is_some old → new ≡ old
effect_kept call old new None fresh stays same = stays refl
effect_kept call old new (Some f) fresh stays same = absurd (let both = fresh f refl in let none = both.0 in let some = both.1 in cc)

room_on : (k a b c : ℕ) → a ≤ b + k → b ≤ c + 1 → a ≤ c + (k + 1)
room_on k a b c first second = omega arith

-- polls of the lock leave what the part reports of its CPU
pub looks_keep : {P L M : Type 0} (I : Ghosts P L M) (plan : ℕ → List CpuId → CpuId → Tid → Call → Buffering → BufferPlan Reply) {p : P} {m : M} {j k : ℕ}
    {q : P} {n : M} → LookedOnAt I plan p m j k q n → (I.local q ≡ I.local p) × (I.is_inside q ≡ I.is_inside p)
looks_keep I plan LookedOn.none = (refl, refl)
looks_keep I plan (LookedOn.more looked last) = let so_far = looks_keep I plan looked in (last.local ∙ so_far.0, last.inside ∙ so_far.1)

module _ {P L M : Type 0} (I : Ghosts P L M) (plan : ℕ → List CpuId → CpuId → Tid → Call → Buffering → BufferPlan Reply) (t : Tid) (call : Call) where
  -- what so many consecutive actions keep
  pub record Kept (p : P) (m : M) (actions : ℕ) (q : P) (n : M) : Type 0 where
    pub coupled : I.Coupled q n
    pub cpu : I.cpu_of q ≡ I.cpu_of p
    pub opening : I.opening n ≡ I.opening m
    pub machine_id : I.machine_id n ≡ I.machine_id m
    pub room : I.room m ≤ I.room n + actions
    pub acts : (c : CpuId) → I.ActsFor m c → I.ActsFor n c
    pub others : (r : P) → I.cpu_of r ≢ I.cpu_of p → I.Coupled r m → I.Coupled r n
    pub holders : (c : CpuId) → c ≢ I.cpu_of p → I.ActsFor m c → I.MayHold n c → I.MayHold m c

  kept_by : (p q : P) (m n : M) → Framed I.Coupled I.cpu_of I.opening I.machine_id I.room I.ActsFor I.MayHold p q m n
      → Kept p m 1 q n
  kept_by p q m n framed = record {
    coupled = framed.coupled;
    cpu = framed.cpu;
    opening = framed.stays.opening;
    machine_id = framed.stays.machine_id;
    room = framed.stays.room;
    acts = framed.stays.acts;
    others = framed.others;
    holders = framed.holders;
  }

  kept_on : {p q r : P} {m n o : M} (k : ℕ) → Kept p m k q n → Kept q n 1 r o → Kept p m (k + 1) r o
  kept_on {m = m} {n = n} {o = o} k first second = record {
    coupled = second.coupled;
    cpu = second.cpu ∙ first.cpu;
    opening = second.opening ∙ first.opening;
    machine_id = second.machine_id ∙ first.machine_id;
    room = room_on k (I.room m) (I.room n) (I.room o) first.room second.room;
    acts = λ c acts. second.acts c (first.acts c acts);
    others = λ s other coupled. second.others s (λ same. other (same ∙ first.cpu)) (first.others s other coupled);
    holders = λ c other acts held. first.holders c other acts (second.holders c (λ same. other (same ∙ first.cpu)) (first.acts c acts) held);
  }

  -- consecutive actions keep the frame of each of them
  pub run_kept : (p : P) (m : M) (actions : ℕ) (q : P) (n : M) (abstract_answer : Option ReplyKind) → PolledOnAt I plan t call p m actions q n abstract_answer
      → Kept p m actions q n
  run_kept p m _ q n abstract_answer (once polled) = kept_by p q m n polled.framed
  run_kept p m _ r o abstract_answer (again {k = k} {q = q} {n = n} run quiet polled) =
      kept_on k (run_kept p m k q n None run) (kept_by q r n o polled.framed)
  run_kept p m _ r o _ (looks {k = k} {q = q} {n = n} run quiet looked) =
      kept_on k (run_kept p m k q n None run) (kept_by q r n o looked.framed)

  -- the call is pending
  pub record IsOn (q : P) : Type 0 where
    pub under_way : I.under_way q ≡ Some (Calling t)
    pub begun : begun_of (call_state_of (I.local q).call_states t) ≡ Some call

  -- a poll with no reply found its buffer
  pub there : (p q : P) (m n : M) → PolledAt I plan t call p m q n None → (buffer_of call).0 < length (caps_in (I.opening m))
  there p q m n polled = lt_of_not-le (λ none. absurd (let no = (polled.nothing none).answers in cc))

  on_by : (p q : P) (m n : M) → PolledAt I plan t call p m q n None → (threads_in (I.local q)).current ≡ Some t → IsOn q
  on_by p q m n polled runs = record {
    under_way = still_called t (threads_in (I.local q)).current (I.under_way q) runs (polled.under_way (there p q m n polled));
    begun = (polled.called (there p q m n polled)).answers;
  }

  -- after actions with no reply, after which the thread runs, its call is pending
  pub is_on : (p : P) (m : M) (actions : ℕ) (q : P) (n : M) → PolledOnAt I plan t call p m actions q n None → (threads_in (I.local q)).current ≡ Some t → IsOn q
  is_on p m _ q n (once polled) runs = on_by p q m n polled runs
  is_on p m _ r o (again {q = q} {n = n} run quiet polled) runs = on_by q r n o polled runs
  is_on p m _ r o (looks {k = k} {q = q} {n = n} run quiet looked) runs =
      let on = is_on p m k q n run quiet.runs in
      record {
        under_way = looked.under_way ∙ on.under_way;
        begun = ap (λ (o : Buffering). begun_of (call_state_of o.call_states t)) looked.local ∙ on.begun;
      }

  -- what a poll of the call requires of its part and machine
  pub record MayPoll (p : P) (m : M) : Type 0 where
    pub coupled : I.Coupled p m
    pub runs : (threads_in (I.local p)).current ≡ Some t
    pub hand : I.under_way p ≡ None → (threads_in (I.local p)).hand ≡ None
    pub same : MayPollCall (call_state_of (I.local p).call_states t) call
    pub goes_on : MayGoOn (I.under_way p) (Calling t)

  -- so far nothing was done, or the call had no end and no effect
  pub data SoFar (p : P) (m : M) : ℕ → P → M → Type 0 where
    nothing_yet : SoFar p m 0 p m
    quiet_yet : {k : ℕ} {q : P} {n : M} → 0 < k → PolledOnAt I plan t call p m k q n None → IsBegunAt I plan t call p q → SoFar p m k q n

  -- then the call may be polled again
  pub may_poll : (p : P) (m : M) (actions : ℕ) (q : P) (n : M) → SoFar p m actions q n → MayPoll p m → MayPoll q n
  may_poll p m _ _ _ nothing_yet may = may
  may_poll p m _ q n (quiet_yet {k = k} some run quiet) may =
      let on = is_on p m k q n run quiet.runs in
      record {
        coupled = (run_kept p m k q n None run).coupled;
        runs = quiet.runs;
        hand = λ none. absurd (cc (none, on.under_way));
        same = may_go_on (call_state_of (I.local q).call_states t) call on.begun;
        goes_on = subst (λ (u : Option UnderWay). MayGoOn u (Calling t)) (sym on.under_way) refl;
      }

  -- the room that is left, and the opening blocks
  pub run_left : (p : P) (m : M) (actions : ℕ) (q : P) (n : M) → SoFar p m actions q n → (I.room m ≤ I.room n + actions) × (I.opening n ≡ I.opening m)
  run_left p m _ _ _ nothing_yet = (omega arith, refl)
  run_left p m _ q n (quiet_yet {k = k} some run quiet) = let k = run_kept p m k q n None run in (k.room, k.opening)

  -- one more poll
  pub one_more : (p : P) (m : M) (actions : ℕ) (q : P) (n : M) (r : P) (o : M) (abstract_answer : Option ReplyKind) → SoFar p m actions q n
      → PolledAt I plan t call q n r o abstract_answer
      → PolledOnAt I plan t call p m (actions + 1) r o abstract_answer
  one_more p m _ _ _ r o abstract_answer nothing_yet polled = once polled
  one_more p m _ q n r o abstract_answer (quiet_yet some run quiet) polled = again run quiet polled

  -- polls of the lock after such actions leave the call without an end and an effect, and are among
  -- the actions
  pub quiet_after_looks : {p q : P} {n : M} {j k : ℕ} {r : P} {o : M} → IsBegunAt I plan t call p q → LookedOnAt I plan q n j k r o
      → IsBegunAt I plan t call p r
  quiet_after_looks quiet looked =
      let same = (looks_keep I plan looked).0 in
      record {
        runs = ap (λ (o : Buffering). (threads_in o).current) same ∙ quiet.runs;
        effect = ap (λ (o : Buffering). (call_state_of o.call_states t).effect) same ∙ quiet.effect;
      }

  pub more_looks : {p : P} {m : M} {j : ℕ} {q : P} {n : M} {k : ℕ} {r : P} {o : M} → PolledOnAt I plan t call p m j q n None → IsBegunAt I plan t call p q
      → LookedOnAt I plan q n j k r o → PolledOnAt I plan t call p m k r o None
  more_looks run quiet LookedOn.none = run
  more_looks run quiet (LookedOn.more looked last) = looks (more_looks run quiet looked) (quiet_after_looks quiet looked) last

  -- the effect with which the next poll continues is that of the call when the actions began
  pub same_effect : (p : P) (m : M) (actions : ℕ) (q : P) (n : M) → SoFar p m actions q n
      → (going (call_state_of (I.local q).call_states t) call).effect ≡ (going (call_state_of (I.local p).call_states t) call).effect
  same_effect p m _ _ _ nothing_yet = refl
  same_effect p m _ q n (quiet_yet {k = k} some run quiet) =
      ap (λ (x : CallState). x.effect) (going_begun (call_state_of (I.local q).call_states t) call (is_on p m k q n run quiet.runs).begun) ∙ quiet.effect

  -- a poll after which the thread runs leaves the call without an end and a further effect, if the
  -- call has an effect exactly if it had it at the start
  pub quiet_after_poll : (p : P) (m : M) (actions : ℕ) (q : P) (n : M) (r : P) (o : M) → SoFar p m actions q n → PolledAt I plan t call q n r o None
      → (threads_in (I.local r)).current ≢ None
      → is_some (call_state_of (I.local r).call_states t).effect ≡ is_some (going (call_state_of (I.local p).call_states t) call).effect
      → IsBegunAt I plan t call p r
  quiet_after_poll p m actions q n r o so_far polled runs same =
      let found = there q r n o polled in
      let called = polled.called found in
      let before = same_effect p m actions q n so_far in
      record {
        runs = still_runs t (threads_in (I.local r)).current ((polled.runs found).current) runs;
        effect = effect_kept call (going (call_state_of (I.local q).call_states t) call).effect
            (call_state_of (I.local r).call_states t).effect called.mine called.fresh called.stays
            (same ∙ ap (λ (f : Option Effect). is_some f) (sym before)) ∙ before;
      }
