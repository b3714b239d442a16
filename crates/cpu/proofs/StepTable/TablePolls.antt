-- A poll of a call is a step of the table, and the CPU stays as the table requires.
use Rattle.std.proofs.Common.{◌≡◌, ◌≢◌, ◌⊎◌, inl, inr, ℕ, ◌<◌, Bool, true, false, List, ◌++◌, length, slice_get, slice_set, Option, Some, None, IsSome}
use Rattle.std.proofs.{Common.{option_map, ap, sym, ◌∙◌, subst, arith}, lemmas.List.{append-nil, length-set, map-set}}
use Rattle.layer_traits.specs.{Views.OwnParts.threads_in, declared.{calls.{Call.Call, Effect.Effect, Reply.Reply}, passes.Pass.Pass, steps.Reason.Reason}}
use Rattle.layer_traits.specs.{declared.{steps.Step.TheVariants.Stepped, call_states.{Stage.Stage, CallState.CallState}}, Polling.{Along.IsStep, Plans.Follows}}
use Rattle.layer_traits.specs.{Polling.Plans.is_in_section, Threads.Passes.IsLocalPass, Layers.BufferLaw.{Buffering, UnderWay, Passing}}
use Rattle.layer_traits.specs.Layers.BufferLaw.{begun_of, buffer_of, fifo_plan, going, going_at, still_calling, call_state_of}
use Rattle.event_log.specs.{declared.{entries.Entry.Entry, ids.{BufId.BufId, CpuId.CpuId, LockId.LockId, Tid.Tid, TheConstants.THREADS}}, Actions.Action}
use Rattle.{event_log.specs.Actions.phase, guest.specs.{declared.instructions.Instruction.Instruction, State.{State, at_start, next_of}}}
use Rattle.{thread_blocks.specs.Queues.is_in, cpu.specs.declared.{cpus.Choice.TheVariants.Polls, guests.{Guest.Guest, GuestStage.GuestStage}}}
use Rattle.cpu.specs.{declared.guests.NextAction.TheVariants.Calls, Guests.{HasComeIn, after_answer, entries_of, fresh_effect, had, is_ended, polled, todo_at}}
use Rattle.cpu.specs.{Cpus.{chosen, fresh_at, guest_at, cpu_halted_at, of_cpu, of_thread, reason_in, with_guest}, Table.{Setups.SystemConfig, Steps.cpu_step}}
use Rattle.cpu.specs.{Table.Steps.halted_at, Tower.{Views.{TowerBlock, TowerName, tower}, Privates.{guests_after, cpu_local_after, cpu_local_of, trace_after}}}
use Rattle.cpu.specs.{Tower.{Composed.{AsksFor, HandIsKnown, IsBeginning, IsGoing, OpensAs, named}, Positions.IsPart}, Tables.{IsSetupOf, IsTabled, bare}}
use Rattle.cpu.{specs.Tables.{cpu_local, guest_state_of, guest_states}, proofs.ListFacts.GuestLists.{at_other, at_same, guest_within}}
use Rattle.cpu.proofs.CpuSteps.{CpuStates.{TabledCpu, Outset, valid}, GuestsFollow.had_going, CallSteps.{PollsAt, polls_at, poll_number, poll_call_states}}
use Rattle.cpu.proofs.{StepTable.TableRows.{call_is, halted_same, states_at, states_long}, Tower.BegunPolls.{first_polls_are_steps, polls_are_steps}}
use Rattle.cpu.proofs.Tower.{Chains.put_same, KeptByPolls.{IsFree, begins_keep, preserved_by, plans_keep}, PolledSystem.Polled, KeptByPasses.at_rest}
use Rattle.layer_traits.specs.declared.call_states.Stage.TheVariants as at_stage

-- the opening blocks are the table's, of whatever programs
pub opens_as : (setup : SystemConfig) (homes : List CpuId) (caps : List ℕ) (number : CpuId) (opening : LockId → Option TowerBlock) → setup.homes ≡ homes
    → setup.caps ≡ caps → OpensAs (bare homes caps) number opening → OpensAs setup number opening
opens_as setup homes caps number opening homes_are caps_are opens lock used = opens lock (grind (arith, used)) ∙ (grind arith)

-- what an instruction requests
asks_for : (i : Instruction) (s : State) (c : Call) → todo_at s i ≡ Calls c → AsksFor i s c
asks_for line s c is = grind arith

-- a call state inside a call continues as it is
goes_same : (s : Stage) (call_state : CallState) (c : Call) → (s ≡ at_stage.Idle → ⊥) → going_at s call_state c ≡ call_state
goes_same s call_state c calls = grind arith

trace_by : (c : CpuId) (t : Tid) (b : BufId) (trace : List Entry) (stage : GuestStage) (program : List Instruction) (s : State) (es : List Entry)
    (begun : Option Call) (effect before after : Option Effect) → HasComeIn stage program s es begun effect → before ≡ had begun effect
    → trace ++ entries_of c t b (fresh_effect stage after) ≡ trace_after c t b before after trace
trace_by c t b trace stage program s es begun effect before after follows is = grind (arith, append-nil)

-- if a CPU is live and no section is under way, it is not halted
pub not_halted_so : (inside b : Bool) (h : Option Reason) → inside ≡ b → reason_in inside h ≡ None → b ≡ false → h ≡ None
not_halted_so inside b h same live outside = ap (λ x. reason_in x h) (sym outside ∙ sym same) ∙ live

-- what one poll of a call leaves of a CPU
pub record TabledPoll (ActsFor : CpuId → Type 0) (cpu : TabledCpu) (t : Tid) (c : Call) (old : List (Action TowerName)) : Type 0 where
  pub local : Buffering
  pub under_way : Option UnderWay
  pub guests : List (Option Guest)
  pub trace : List Entry
  pub new : List (Action TowerName)
  pub result : Option Reply
  pub known : (u : Tid) → (threads_in local).hand ≡ Some u → IsSome (slice_get cpu.homes u.0)
  pub follows : Follows ActsFor tower cpu.opening cpu.number (fifo_plan cpu.homes cpu.number t c cpu.local) old new (record { local = local; answer = result })
  pub ended_is : (threads_in local).ended ≡ (threads_in cpu.local).ended
  pub under_way_is : under_way ≡ still_calling t (threads_in local).current result
  pub guests_is : guests ≡ with_guest cpu.guests t.0 (λ x. polled x ((call_state_of local.call_states t).effect) result)
  pub trace_is : trace ≡ cpu.trace ++ entries_of cpu.number t (buffer_of c) (fresh_at (guest_at cpu.guests t.0) ((call_state_of local.call_states t).effect))

module _ (cpu : TabledCpu) where
  open cpu use {homes, caps, history, local, under_way, number, guests, trace, limit, opening, is, tabled, home}

  -- one thread's guest continues
  pub tabled_with : (t : Tid) (g : Guest) (f : Guest → Guest) (own2 : Buffering) (under_way2 : Option UnderWay) → guest_at guests t.0 ≡ Some g → IsPart own2
      → (is_ended (f g).stage ≡ true → is_in t (threads_in own2).ended ≡ true)
      → ((u : Tid) → u.0 ≢ t.0 → is_in u (threads_in local).ended ≡ true → is_in u (threads_in own2).ended ≡ true)
      → ((p : Pass) → under_way2 ≡ Some (Passing p) → IsLocalPass p → ⊥) → IsTabled homes caps number own2 under_way2 (with_guest guests t.0 f) opening
  tabled_with t g f own2 under_way2 at part over_t over quick = grind (arith, at_same, at_other, length-set)

  module _ (t : Tid) (c : Call) (chose : chosen (threads_in local) guests ≡ Polls t c) where
    abbrev polls : PollsAt (threads_in local) guests t c
    polls = polls_at (valid cpu) t c chose

    abbrev g : Guest
    g = polls.guest

    abbrev call_state : CallState
    call_state = call_state_of local.call_states t

    abbrev small : t.0 < THREADS
    small = poll_number (valid cpu) t c chose

    in_guests : t.0 < length (guest_states guests)
    in_guests = subst (λ n. t.0 < n) (sym (states_long guests)) (guest_within guests t.0 g polls.at)

    follows_g : HasComeIn g.stage g.program g.thread (of_thread t.0 (of_cpu number history)) (begun_of call_state) call_state.effect
    follows_g = (is.follow t g polls.at).1

    going_so : (call_state.stage ≡ at_stage.Idle → ⊥) → IsGoing local (guest_states guests) t c
    going_so calls = record {
      current = polls.runs;
      begun = sym (ap (λ x. x.call) (goes_same call_state.stage call_state c calls)) ∙ poll_call_states (valid cpu) t c chose;
      stands = grind (arith, tabled.part.mine t polls.runs, calls);
      coupled = tabled.part.coupled t;
      in_guests = in_guests;
      in_call_states = subst (λ n. t.0 < n) (sym tabled.part.call_states) small;
      in_slept = subst (λ n. t.0 < n) (sym tabled.part.slept) small;
      in_waits = subst (λ n. t.0 < n) (sym tabled.part.waits) small;
    }

    free_so : call_state.stage ≡ at_stage.Idle → IsFree local (guest_states guests) t
    free_so at_idle =
        let rest = at_rest _ _ _ _ _ _ (tabled.part.mine t polls.runs) at_idle in
        let long = λ (n : ℕ) (is : n ≡ THREADS). subst (λ m. t.0 < m) (sym is) small in
        assumption (rest, polls.runs, at_idle, in_guests, long _ tabled.part.call_states, long _ tabled.part.slept, long _ tabled.part.waits)

    begins_so : (setup : SystemConfig) → IsSetupOf setup homes caps guests limit → call_state.stage ≡ at_stage.Idle
        → IsBeginning setup local (guest_states guests) t c
    begins_so setup of at_idle =
        assumption (
          free_so at_idle,
          subst (λ x. x)
              (λ i. AsksFor (next_of (sym (of.programs_are t g polls.at) i) (sym (states_at guests t.0 g polls.at at_start) i))
              (sym (states_at guests t.0 g polls.at at_start) i) c) (asks_for (next_of g.program g.thread) g.thread c polls.asks),
        )

    -- a call that has not begun has no section under way
    outside_so : (inside : Bool) → (under_way ≡ None → inside ≡ false) → call_state.stage ≡ at_stage.Idle → inside ≡ false
    outside_so inside idle at_idle = grind (arith, call_is, follows_g)

    module _ (ActsFor : CpuId → Type 0) (old : List (Action TowerName)) (outset : Outset ActsFor cpu old)
        (live : reason_in outset.inside (cpu_halted_at (threads_in local) guests trace limit) ≡ None) (after : TabledPoll ActsFor cpu t c old) where
      open outset use {inside, acts, idle, busy, known}
      open after use {local as own2, under_way as under_way2, guests as guests2, trace as trace2, new, result, known as known2}
      open after use {follows, ended_is, under_way_is, guests_is, trace_is}

      part2 : IsPart own2
      part2 = go (grind arith)
        where
          go : (call_state.stage ≡ at_stage.Idle) ⊎ (call_state.stage ≡ at_stage.Idle → ⊥) → IsPart own2
          go (inl at_idle) =
              preserved_by ActsFor (bare homes caps) opening number (fifo_plan homes number t c local) old new
              (record { local = own2; answer = result }) tabled.opens
              (begins_keep (bare homes caps) number local (guest_states guests) t c (free_so at_idle) tabled.part) follows
          go (inr calls) =
              preserved_by ActsFor (bare homes caps) opening number (fifo_plan homes number t c local) old new
              (record { local = own2; answer = result }) tabled.opens
              (plans_keep (bare homes caps) number local (guest_states guests) t c (going_so calls) known tabled.part) follows

      pub poll_tabled : IsTabled homes caps number own2 under_way2 guests2 opening
      poll_tabled =
          subst (λ (l : List (Option Guest)). IsTabled homes caps number own2 under_way2 l opening) (sym guests_is)
          (tabled_with t g (λ x. polled x ((call_state_of own2.call_states t).effect) result) own2 under_way2 polls.at part2
          (λ over. absurd (grind (arith, over))) (λ u other over. subst (λ l. is_in u l ≡ true) (sym ended_is) over)
          (λ p does local_is. grind (arith, sym under_way_is ∙ does)))

      abbrev effect2 : Option Effect
      effect2 = (call_state_of own2.call_states t).effect

      module _ (setup : SystemConfig) (of : IsSetupOf setup homes caps guests limit) where
        states_after : (r : Option Reply) → guest_states (with_guest guests t.0 (λ x. polled x effect2 r)) ≡ guests_after setup t r (guest_states guests)
        states_after None =
            map-set guest_state_of guests t.0 (option_map (λ x. polled x effect2 None) (guest_at guests t.0))
            ∙ (ap (λ o. slice_set (guest_states guests) t.0 (guest_state_of (option_map (λ x. polled x effect2 None) o))) polls.at
            ∙ sym (put_same (guest_states guests) t.0 g.thread at_start (states_at guests t.0 g polls.at at_start)))
        states_after (Some r) =
            map-set guest_state_of guests t.0 (option_map (λ x. polled x effect2 (Some r)) (guest_at guests t.0))
            ∙ (ap (λ o. slice_set (guest_states guests) t.0 (guest_state_of (option_map (λ x. polled x effect2 (Some r)) o))) polls.at ∙ (λ i. slice_set
            (guest_states guests) t.0 (after_answer (Some r) (next_of (sym (of.programs_are t g polls.at) i) (sym (states_at guests t.0 g polls.at at_start) i))
            (sym (states_at guests t.0 g polls.at at_start) i))))

        trace_so : trace2 ≡ trace_after number t (buffer_of c) (going call_state c).effect effect2 trace
        trace_so =
            trace_is ∙ (ap (λ o. trace ++ entries_of number t (buffer_of c) (fresh_at o effect2)) polls.at
            ∙ trace_by number t (buffer_of c) trace g.stage g.program g.thread (of_thread t.0 (of_cpu number history)) (begun_of call_state) call_state.effect
            (going call_state c).effect effect2 follows_g (had_going call_state c (poll_call_states (valid cpu) t c chose)))

        cpu_local_so : cpu_local_after setup number t c local (guest_states guests) trace (record { local = own2; answer = result })
            ≡ cpu_local own2 guests2 trace2
        cpu_local_so = λ i. cpu_local_of own2 (sym (ap guest_states guests_is ∙ states_after result) i) (sym trace_so i)

        not_halted : is_in_section (phase number old) ≡ false → halted_at setup number (cpu_local local guests trace) ≡ None
        not_halted outside = grind (arith, halted_same, not_halted_so)

        known_in : (o : Buffering) → ((u : Tid) → (threads_in o).hand ≡ Some u → IsSome (slice_get homes u.0)) → HandIsKnown setup o
        known_in o hand u has = subst (λ h. IsSome (slice_get h u.0)) (sym of.homes_are) (hand u has)

        follows_so : Follows ActsFor tower opening number (fifo_plan setup.homes number t c local) old new (record { local = own2; answer = result })
        follows_so = rw of.homes_are follows

        abbrev polled_so : Polled
        polled_so = record {
          ActsFor = ActsFor;
          setup = setup;
          opening = opening;
          c = number;
          acts = acts;
          opens = opens_as setup homes caps number opening of.homes_are of.caps_are tabled.opens;
          old = old;
          new = new;
        }

        pub poll_steps : IsStep ActsFor (cpu_step setup number) (cpu_local local guests trace) (cpu_local own2 guests2 trace2) (named old) (named new) Stepped
        poll_steps = rw (← cpu_local_so) (go (grind arith))
          where
            go : (call_state.stage ≡ at_stage.Idle) ⊎ (call_state.stage ≡ at_stage.Idle → ⊥)
                → IsStep ActsFor (cpu_step setup number) (cpu_local local guests trace)
                (cpu_local_after setup number t c local (guest_states guests) trace (record { local = own2; answer = result })) (named old) (named new) Stepped
            go (inl at_idle) =
                let outside : is_in_section (phase number old) ≡ false = sym busy ∙ outside_so inside idle at_idle in
                first_polls_are_steps polled_so local (guest_states guests) trace t c (record { local = own2; answer = result }) (begins_so setup of at_idle)
                (known_in own2 known2) outside (not_halted outside) follows_so
            go (inr calls) =
                polls_are_steps polled_so local (guest_states guests) trace t c (record { local = own2; answer = result }) (going_so calls)
                (known_in local known) (known_in own2 known2) not_halted follows_so
