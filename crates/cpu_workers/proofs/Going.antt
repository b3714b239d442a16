-- The progress of a call of native code, poll by poll.
use Rattle.std.proofs.Common.{arith, ◌≡◌, List, [], ◌∷◌, ◌++◌, Option, Some, None, option_map, option_to_list, is_some, true, false, refl, ◌≢◌, if◌then◌else◌}
use Rattle.std.proofs.Common.{ap, sym, ◌∙◌, subst, append_assoc}
use Rattle.event_log.{specs.declared.{entries.Entry.Entry, ids.{CpuId.CpuId, Tid.Tid}}, proofs.Same.same_cpu_self}
use Rattle.layer_traits.specs.declared.{calls.{Call.Call, Effect.Effect, Reply.Reply}, call_states.{CallState.CallState, Stage.{Stage, TheVariants.Idle}}}
use Rattle.layer_traits.specs.{declared.passes.Pass.{Pass, TheVariants.End}, Layers.BufferLaw.{Answered, Called, IsEffectOf, OthersSeen, RunsOn, buffer_of}}
use Rattle.layer_traits.specs.{Layers.BufferLaw.{call_state_of, entry_of, Calling, begun, begun_at, going, going_at, still_calling}, Threads.Places.Threads}
use Rattle.{layer_traits.specs.Threads.Passes.pass_after, cpu.{specs.{Cpus.of_cpu, Guests.entries_of}, proofs.ListFacts.GuestLists.cpu_same}}
use Rattle.cpu_workers.specs.Calls.{EndsCall, IsOn, IsOne, KeepsOn, Returned, Went}

-- what a poll leaves of a call, before its result is read
pub record Half (cpu : CpuId) (t : Tid) (call : Call) (effect : Option Effect) (old new : List Entry) : Type 0 where
  pub one : IsOne call effect
  pub went : Went cpu old new (entries_of cpu t (buffer_of call) effect)

-- the list has grown by entries of others
went_more : (cpu : CpuId) (old now new mine others : List Entry) → of_cpu cpu (others ++ now) ≡ of_cpu cpu now → new ≡ others ++ now
    → Went cpu old now mine → Went cpu old new mine
went_more cpu old now new mine others same is went = record {
  more = others ++ went.more;
  grows = is ∙ ap (λ l. others ++ l) went.grows ∙ sym (append_assoc others went.more old);
  local = ap (of_cpu cpu) is ∙ same ∙ went.local;
}

-- and by an entry of this CPU
went_one : (cpu : CpuId) (t : Tid) (call : Call) (f : Effect) (old now : List Entry) → Went cpu old now []
    → Went cpu old (entry_of cpu t (buffer_of call) f ∷ now) (entry_of cpu t (buffer_of call) f ∷ [])
went_one cpu t call f old now went = record {
  more = entry_of cpu t (buffer_of call) f ∷ went.more;
  grows = ap (λ l. entry_of cpu t (buffer_of call) f ∷ l) went.grows;
  local = rw (same_cpu_self cpu) (ap (λ l. entry_of cpu t (buffer_of call) f ∷ l) went.local);
}

module _ (ActsFor : CpuId → Type 0) (cpu : CpuId) (acts : ActsFor cpu) where
  -- entries of others leave a CPU's own
  pub went_on : (old now new mine : List Entry) → OthersSeen ActsFor now new → Went cpu old now mine → Went cpu old new mine
  went_on old now new mine history went =
      went_more cpu old now new mine history.others (cpu_same ActsFor cpu history.others now history.foreign acts) history.is went

  module _ (t : Tid) (call : Call) where
    -- whatever the call's progress, the call has the same progress after entries of others
    pub keeps_on : {call_states left : List CallState} {now new : List Entry} → OthersSeen ActsFor now new → left ≡ call_states
        → KeepsOn cpu t call call_states left now new
    keeps_on {call_states} {left} {now} {new} history same =
        rw same (λ old on. record { may = on.may; one = on.one; went = went_on old now new _ history on.went })

    -- a poll of the call has had its effect, or the call had it before, or has yet to have it
    pub polled : (call_states left : List CallState) (old now new : List Entry) (answer : Option Reply)
        → Called ActsFor cpu t call call_states left now new answer → IsOn cpu t call (call_state_of call_states t) old now
        → Half cpu t call (call_state_of left t).effect old new
    polled call_states left old now new answer called on = go called.mine called.is called.fresh called.stays
      where
        local : of_cpu cpu (called.others ++ now) ≡ of_cpu cpu now
        local = cpu_same ActsFor cpu called.others now called.foreign acts

        go : (mine : Option Effect) → new ≡ option_to_list (option_map (entry_of cpu t (buffer_of call)) mine) ++ (called.others ++ now)
            → ((f : Effect) → mine ≡ Some f → ((going (call_state_of call_states t) call).effect ≡ None)
            × ((call_state_of left t).effect ≡ Some f) × IsEffectOf call f)
            → (mine ≡ None → (call_state_of left t).effect ≡ (going (call_state_of call_states t) call).effect)
            → Half cpu t call (call_state_of left t).effect old new
        go None is fresh stays = rw (stays refl) (record { one = on.one; went = went_more cpu old now new _ called.others local is on.went })
        go (Some f) is fresh stays =
            let it = fresh f refl in
            let before : Went cpu old now [] = subst (λ g. Went cpu old now (entries_of cpu t (buffer_of call) g)) it.0 on.went in
            subst (λ g. Half cpu t call g old new) (sym it.1) (record {
              one = it.2;
              went = subst (λ l. Went cpu old l (entry_of cpu t (buffer_of call) f ∷ [])) (sym is)
                  (went_one cpu t call f old (called.others ++ now) (went_more cpu old now (called.others ++ now) [] called.others local refl before));
            })

-- a call that continues is the one that its thread has begun
going_kept : (stage : Stage) (s : CallState) (call : Call) → begun_at stage s.call ≡ Some call → (going_at stage s call ≡ s) × (s.call ≡ Some call)
going_kept stage s call is = grind arith

module _ (cpu : CpuId) (t : Tid) (call : Call) where
  -- a poll without a result
  pub still_on : (s : CallState) (old new : List Entry) → Answered call s None → Half cpu t call s.effect old new → IsOn cpu t call s old new
  still_on s old new answered half =
      let kept = going_kept s.stage s call answered in record {
        may = ap (λ (x : CallState). x.call) kept.0 ∙ kept.1;
        one = subst (λ (x : CallState). IsOne call x.effect) (sym kept.0) half.one;
        went = subst (λ (x : CallState). Went cpu old new (entries_of cpu t (buffer_of call) x.effect)) (sym kept.0) half.went;
      }

  -- a poll with one
  pub returned : (s : CallState) (reply : Reply) (old new : List Entry) → Answered call s (Some reply) → Half cpu t call s.effect old new
      → Returned cpu t call reply old new
  returned s reply old new answered half =
      let effect = answered.1.0 in
      let is : s.effect ≡ Some effect = answered.1.1 in record {
        effect = effect;
        is = subst (λ f. IsOne call f) is half.one;
        replies = answered.1.2;
        went = subst (λ f. Went cpu old new (entries_of cpu t (buffer_of call) f)) is half.went;
      }

  -- a call that is about to begin has taken no effect
  pub not_begun : (s : CallState) (old : List Entry) → s.stage ≡ Idle → IsOn cpu t call s old old
  not_begun s old idle =
      let is : begun call ≡ going s call = sym (ap (λ stage. going_at stage s call) idle) in record {
        may = subst (λ (x : CallState). x.call ≡ Some call) is refl;
        one = subst (λ (x : CallState). IsOne call x.effect) is tt;
        went = subst (λ (x : CallState). Went cpu old old (entries_of cpu t (buffer_of call) x.effect)) is (record { more = []; grows = refl; local = refl });
      }

module _ (ActsFor : CpuId → Type 0) (cpu : CpuId) (acts : ActsFor cpu) {t : Tid} {call : Call} {call_states left : List CallState} {now new : List Entry}
    {answer : Option Reply} where
  pub called_on : answer ≡ None → Called ActsFor cpu t call call_states left now new answer → KeepsOn cpu t call call_states left now new
  called_on none called old on =
      still_on cpu t call (call_state_of left t) old new (subst (λ a. Answered call (call_state_of left t) a) none called.answers)
      (polled ActsFor cpu acts t call call_states left old now new answer called on)

  pub call_ends : {reply : Reply} → answer ≡ Some reply → Called ActsFor cpu t call call_states left now new answer
      → EndsCall cpu t call reply call_states now new
  call_ends {reply} some called old on =
      returned cpu t call (call_state_of left t) reply old new (subst (λ a. Answered call (call_state_of left t) a) some called.answers)
      (polled ActsFor cpu acts t call call_states left old now new answer called on)

  -- the call is over
  pub ended_idles : {reply : Reply} → answer ≡ Some reply → Called ActsFor cpu t call call_states left now new answer → (call_state_of left t).stage ≡ Idle
  ended_idles some called = (subst (λ a. Answered call (call_state_of left t) a) some called.answers).0

-- the thread that runs after a poll is the thread of the call
pub runs_on : {A : Type 0} (t : Tid) (local left : Threads) (answer : Option A) → RunsOn t local left answer → is_some left.current ≡ true
    → left.current ≡ Some t
runs_on t local left answer runs some = grind (arith, runs.current)

-- what is under way after a poll of the call
pub calls_on : (t : Tid) (current : Option Tid) (answer : Option Reply) → answer ≡ None → current ≡ Some t → still_calling t current answer ≡ Some (Calling t)
calls_on t current answer none runs = grind arith

pub done_rests : (t : Tid) (current : Option Tid) (answer : Option Reply) (reply : Reply) → answer ≡ Some reply → still_calling t current answer ≡ None
done_rests t current answer reply some = grind arith

pub asleep_calls_no_more : (t : Tid) (current : Option Tid) (answer : Option Reply) → answer ≡ None → is_some current ≡ false
    → still_calling t current answer ≡ None
asleep_calls_no_more t current answer none nobody = grind arith

-- one poll of a pass that ends no thread leaves who has ended
pub ended_on : {A : Type 0} (pass : Pass) (queue : List Tid) (local left : Threads) (answer : Option A) → pass ≢ End
    → left ≡ (if is_some answer then pass_after pass queue local else local) → left.ended ≡ local.ended
ended_on pass queue local left answer not is = grind arith

-- the thread whose call returns continues to run
pub answers_run : (t : Tid) (local left : Threads) (answer : Option Reply) (reply : Reply) → answer ≡ Some reply → RunsOn t local left answer
    → left.current ≡ Some t
answers_run t local left answer reply is ran = grind (arith, ran.current)
