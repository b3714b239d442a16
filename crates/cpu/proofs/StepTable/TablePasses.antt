-- A poll of a pass, and an instruction that shares nothing, are steps of the table, and the CPU
-- stays as the table requires.
use Rattle.std.proofs.Common.{◌≡◌, ℕ, ◌<◌, Bool, true, false, ◌||◌, List, [], ◌∷◌, ◌++◌, length, slice_get, slice_set, Option, Some, None, IsSome, option_map}
use Rattle.std.proofs.{Common.{option_to_list, refl, ap, sym, ◌∙◌, subst, arith}, lemmas.List.map-set, Math.Bool.or-true}
use Rattle.layer_traits.specs.{Views.OwnParts.threads_in, declared.{calls.Call.Call, passes.Pass.{Pass, TheVariants.{Switch, YieldNow, Drain, MakeReady, End}}}}
use Rattle.layer_traits.specs.{declared.{steps.{Reason.Reason, Step.TheVariants.{Stepped, Halted}}, call_states.CallState.CallState}, Polling.Along.IsStep}
use Rattle.layer_traits.specs.{Polling.Plans.{Left, Follows, is_in_section}, Threads.{Passes.{IsLocalPass, pass_after, switched}, Places.Threads}}
use Rattle.layer_traits.specs.Layers.BufferLaw.{Buffering, UnderWay, Passing, begun_of, fifo_pass_plan, still_passing, call_state_of}
use Rattle.event_log.{specs.{declared.ids.{CpuId.CpuId, Tid.Tid}, Actions.{Action, phase}}, proofs.{Renaming.phase_renamed, BoolLemmas.none_of}}
use Rattle.guest.specs.{declared.instructions.Instruction.Instruction, State.{State, after_local, after_yield, at_start, next_of}}
use Rattle.thread_blocks.{specs.Queues.{is_in, same_tid}, proofs.{Distinct.pushed_in, Members.same_tid_self}}
use Rattle.cpu.specs.declared.{cpus.Choice.TheVariants.{Passes, Computes}, guests.{Guest.Guest, NextAction.{NextAction, TheVariants.{Finish, PassOn, Compute}}}}
use Rattle.cpu.specs.{declared.guests.NextAction.TheVariants.Calls, Guests.{after_pass, computed, guest_ended, is_calling, passed, todo_at, todo_of}}
use Rattle.cpu.specs.{Cpus.{chosen, chosen_by, guest_at, cpu_halted_at, of_cpu, of_thread, passed_by, reason_in, with_guest}, Table.Setups.SystemConfig}
use Rattle.cpu.specs.Table.{Setups.{Call as TableCall, CpuLocal, thread_at}, Choice.{Alone, Goes, at_instruction, at_ready, choice, ends, with_state}}
use Rattle.cpu.specs.{Table.Steps.{cpu_step, halted_at}, Tower.{Views.{TowerName, name_of, tower}, Privates.{guests_passed, cpu_local_of, cpu_local_passed}}}
use Rattle.cpu.specs.{Tower.{Composed.{HandIsKnown, IsLine, OpensAs, named}, Positions.IsPart}, Tables.{IsSetupOf, IsTabled, cpu_local, guest_states}}
use Rattle.cpu.proofs.CpuSteps.{CpuStates.{TabledCpu, Outset, valid}, PassSteps.{PassCase, computes_at, finish_exit, in_no_call, pass_case, switches, drains}}
use Rattle.cpu.proofs.{CpuSteps.PassSteps.{sends_idle, sends_on, passes_on, finishes}, ListFacts.GuestLists.guest_within, StepTable.TableRows.call_is}
use Rattle.cpu.proofs.StepTable.{TableRows.{call_of, guest_there, halted_same, stands_there, states_at, states_long}, TablePolls.{not_halted_so, opens_as}}
use Rattle.cpu.proofs.{StepTable.TablePolls.tabled_with, Tower.{Chains.put_same, ChangedThread.own_at, KeptByPasses.{ComesTo, at_rest, deferred_none}}}
use Rattle.cpu.proofs.Tower.{KeptByPasses.{passed_part, with_threads}, PassLines.{computed_now, drain_line, ended_now, make_ready_line, switched_now}}
use Rattle.cpu.proofs.Tower.{PassLines.yield_line, Polls.{alone_is_step, choice_current, choice_hand, choice_idle, halted_is_step, line_is_step, step_goes}}
use Rattle.guest.specs.declared.instructions.Instruction.TheVariants as ins
use Rattle.layer_traits.specs.declared.call_states.Stage.TheVariants as at_stage

yield_line_is : (s : State) (i : Instruction) → todo_at s i ≡ PassOn → i ≡ ins.Yield
yield_line_is s i is = grind arith

local_at : (setup : SystemConfig) (c : CpuId) (p : CpuLocal) (t : Tid) (s : State) (i : Instruction) → todo_at s i ≡ Compute
    → at_instruction setup c p t i ≡ Alone (with_state p t (after_local i (thread_at p t).guest))
local_at setup c p t s i is = grind arith

-- a call state between calls has begun none
unbegun : (f : Call → TableCall) (call_state : CallState) → call_state.stage ≡ at_stage.Idle → option_map f (begun_of call_state) ≡ None
unbegun f call_state at_idle = ap (λ s. option_map f (begun_of (record call_state { stage = s }))) at_idle

-- the states of the guests after one guest changed
states_changed : (guests : List (Option Guest)) (t : ℕ) (f : Guest → Guest) (g : Guest) → guest_at guests t ≡ Some g
    → guest_states (with_guest guests t f) ≡ slice_set (guest_states guests) t ((f g).thread)
states_changed guests t f g at = grind (arith, map-set)

-- the guests and the threads after a poll of a pass
abbrev pub passed_if : Option Tid → List (Option Guest) → Pass → Option (Unit {0}) → List (Option Guest)
passed_if current guests pass None = guests
passed_if current guests pass (Some x) = passed_by current guests pass

abbrev pub threads_if : Threads → Pass → List Tid → Option (Unit {0}) → Threads
threads_if threads pass queue None = threads
threads_if threads pass queue (Some x) = pass_after pass queue threads

-- what one poll of a pass leaves of a CPU
pub record TabledPass (ActsFor : CpuId → Type 0) (cpu : TabledCpu) (pass : Pass) (old : List (Action TowerName)) : Type 0 where
  pub local : Buffering
  pub under_way : Option UnderWay
  pub guests : List (Option Guest)
  pub new : List (Action TowerName)
  pub result : Option (Unit {0})
  pub queue : List Tid
  pub known : (u : Tid) → (threads_in local).hand ≡ Some u → IsSome (slice_get cpu.homes u.0)
  pub follows : Follows ActsFor tower cpu.opening cpu.number (fifo_pass_plan cpu.homes cpu.number pass cpu.local) old new
      (record { local = local; answer = result })
  pub threads_are : threads_in local ≡ threads_if (threads_in cpu.local) pass queue result
  pub under_way_is : under_way ≡ still_passing pass result
  pub at_once : IsLocalPass pass → IsSome result
  pub guests_are : guests ≡ passed_if (threads_in cpu.local).current cpu.guests pass result

module _ (cpu : TabledCpu) where
  open cpu use {homes, caps, history, local, under_way, number, guests, trace, limit, opening, is, tabled, home}

  abbrev p : CpuLocal
  p = cpu_local local guests trace

  -- a thread that runs and is in no call
  free_at_idle : (t : Tid) (g : Guest) → guest_at guests t.0 ≡ Some g → is_calling g.stage ≡ false → (call_state_of local.call_states t).stage ≡ at_stage.Idle
  free_at_idle t g at free =
      let follows = is.follow t g at in
      let none = call_is g.stage g.program g.thread (of_thread t.0 (of_cpu number history)) (begun_of (call_state_of local.call_states t))
      (call_state_of local.call_states t).effect follows.1 ∙ free in
      follows.0 (none_of (begun_of (call_state_of local.call_states t)) none)

  not_calling : (t : Tid) (g : Guest) (todo : NextAction) → guest_at guests t.0 ≡ Some g → todo_of g ≡ todo → ((c : Call) → todo ≡ Calls c → ⊥)
      → is_calling g.stage ≡ false
  not_calling t g todo at asks none =
      (in_no_call g (of_thread t.0 (of_cpu number history)) (begun_of (call_state_of local.call_states t)) (call_state_of local.call_states t).effect todo
      (is.follow t g at).1 asks none).0

  -- a thread in the hand is sent while no thread runs
  sends_alone : (s t : Tid) (g : Guest) → (threads_in local).current ≡ Some t → (threads_in local).hand ≡ Some s → guest_at guests t.0 ≡ Some g
      → chosen (threads_in local) guests ≡ Passes (MakeReady s) → ⊥
  sends_alone s t g runs has at chose =
      grind (arith, by_calling)
    where
      by_calling : (b : Bool) → is_calling g.stage ≡ b → chosen_by t (is_calling g.stage) (threads_in local).hand (todo_of g) ≡ Passes (MakeReady s) → ⊥
      by_calling true calling sends = grind (arith, sym (ap (λ x. chosen_by t x (threads_in local).hand (todo_of g)) calling) ∙ sends)
      by_calling false calling sends =
          let rest = at_rest _ _ _ _ _ _ (tabled.part.mine t runs) (free_at_idle t g at calling) in
          absurd (cc (sym has ∙ rest.hand))

  abbrev Case : Pass → Type 0
  Case pass = PassCase (valid cpu) pass

  comes : (pass : Pass) → Case pass → chosen (threads_in local) guests ≡ Passes pass → ComesTo pass (threads_in local)
  comes Switch (switches runs has some) chose = (runs, has)
  comes Drain (drains runs has none) chose = runs
  comes (MakeReady s) (sends_idle _ runs has) chose = runs
  comes (MakeReady s) (sends_on _ t g runs has at) chose = absurd (sends_alone s t g runs has at chose)
  comes YieldNow (passes_on t g runs has at asks) chose = (t, runs, has)
  comes End (finishes t g runs has at asks) chose = (t, runs, has)

  module _ (pass : Pass) (chose : chosen (threads_in local) guests ≡ Passes pass) (ActsFor : CpuId → Type 0) (old : List (Action TowerName))
      (after : TabledPass ActsFor cpu pass old) where
    open after use {local as own2, under_way as under_way2, guests as guests2, new, result, queue}
    open after use {known as known2, follows, threads_are, under_way_is, at_once, guests_are}

    abbrev case_is : Case pass
    case_is = pass_case (valid cpu) pass home chose

    own_is : own2 ≡ with_threads local (threads_if (threads_in local) pass queue result)
    own_is = grind arith

    part2 : IsPart own2
    part2 = subst IsPart (sym own_is) (go result)
      where
        go : (r : Option (Unit {0})) → IsPart (with_threads local (threads_if (threads_in local) pass queue r))
        go None = tabled.part
        go (Some x) = passed_part local tabled.part pass queue (comes pass case_is chose)

    quick2 : (q : Pass) → under_way2 ≡ Some (Passing q) → IsLocalPass q → ⊥
    quick2 q does local_is = grind (arith, at_once, sym under_way_is ∙ does, local_is)

    ended_more : (u t : Tid) → is_in u (threads_in local).ended ≡ true → is_in u ((threads_in local).ended ++ t ∷ []) ≡ true
    ended_more u t before = pushed_in u t (threads_in local).ended ∙ ap (λ b. b || (same_tid u t || false)) before

    pub pass_tabled : IsTabled homes caps number own2 under_way2 guests2 opening
    pass_tabled = subst (λ (l : List (Option Guest)). IsTabled homes caps number own2 under_way2 l opening) (sym guests_are) (go result threads_are)
      where
        abbrev_same : (u : Tid) (x : Threads) → threads_in own2 ≡ x → x.ended ≡ (threads_in local).ended → is_in u (threads_in local).ended ≡ true
            → is_in u (threads_in own2).ended ≡ true
        abbrev_same u x same ended_same before = subst (λ l. is_in u l ≡ true) (sym (ap (λ (y : Threads). y.ended) same ∙ ended_same)) before

        idle : (x : Threads) → threads_in own2 ≡ x → x.ended ≡ (threads_in local).ended → (threads_in local).current ≡ None
            → IsTabled homes caps number own2 under_way2 (passed_by (threads_in local).current guests pass) opening
        idle x same ended_same runs = grind (arith, part2, abbrev_same, quick2)

        by_case : (q : Pass) → pass ≡ q → Case q → threads_in own2 ≡ pass_after q queue (threads_in local)
            → IsTabled homes caps number own2 under_way2 (passed_by (threads_in local).current guests pass) opening
        by_case Switch same (switches runs has some) now = idle _ now refl runs
        by_case Drain same (drains runs has none) now = idle _ now refl runs
        by_case (MakeReady s) same (sends_idle _ runs has) now = idle _ now refl runs
        by_case (MakeReady s) same (sends_on _ t g runs has at) now = absurd (sends_alone s t g runs has at (chose ∙ ap Passes same))
        by_case YieldNow same (passes_on t g runs has at asks) now =
            subst (λ x. x) (λ i. IsTabled homes caps number own2 under_way2 (passed_by (sym runs i) guests (sym same i)) opening) (tabled_with cpu t g passed
            own2 under_way2 at part2 (λ over. abbrev_same t _ now refl (tabled.ends t g at over)) (λ u other before. abbrev_same u _ now refl before) quick2)
        by_case End same (finishes t g runs has at asks) now =
            let ended_is = ap (λ (y : Threads). y.ended) now ∙ ap (λ o. (threads_in local).ended ++ option_to_list o) runs in
            subst (λ x. x) (λ i. IsTabled homes caps number own2 under_way2 (passed_by (sym runs i) guests (sym same i)) opening)
            (tabled_with cpu t g guest_ended own2 under_way2 at part2 (λ over. subst (λ l. is_in t l ≡ true) (sym ended_is) (pushed_in t t
            (threads_in local).ended
            ∙ (ap (λ b. is_in t (threads_in local).ended || (b || false)) (same_tid_self t) ∙ or-true (is_in t (threads_in local).ended))))
            (λ u other before. subst (λ l. is_in u l ≡ true) (sym ended_is) (ended_more u t before)) quick2)

        go : (r : Option (Unit {0})) → threads_in own2 ≡ threads_if (threads_in local) pass queue r
            → IsTabled homes caps number own2 under_way2 (passed_if (threads_in local).current guests pass r) opening
        go None same = grind (arith, part2, abbrev_same, quick2)
        go (Some x) same = by_case pass refl case_is same

    module _ (setup : SystemConfig) (of : IsSetupOf setup homes caps guests limit) (outset : Outset ActsFor cpu old)
        (live : reason_in outset.inside (cpu_halted_at (threads_in local) guests trace limit) ≡ None) where
      open outset use {inside, acts, idle, busy, known}

      opens : OpensAs setup number opening
      opens = opens_as setup homes caps number opening of.homes_are of.caps_are tabled.opens

      not_halted : is_in_section (phase number old) ≡ false → halted_at setup number p ≡ None
      not_halted outside = grind (arith, halted_same, not_halted_so)

      known_so : HandIsKnown setup own2
      known_so u has = subst (λ h. IsSome (slice_get h u.0)) (sym of.homes_are) (known2 u has)

      abbrev Goal : Type 0
      Goal = IsStep ActsFor (cpu_step setup number) p (cpu_local own2 guests2 trace) (named old) (named new) Stepped

      -- a pass that is a line of the table
      by_line : (line : IsLine setup number p (fifo_pass_plan setup.homes number pass local) (cpu_local_passed setup local (guest_states guests) trace pass))
          → (is_in_section (phase number old) ≡ false → choice setup number p ≡ Goes p)
          → cpu_local_passed setup local (guest_states guests) trace pass (record { local = own2; answer = result }) ≡ cpu_local own2 guests2 trace → Goal
      by_line line goes after =
          subst (λ q. IsStep ActsFor (cpu_step setup number) p q (named old) (named new) Stepped) after
          (line_is_step (record { ActsFor = ActsFor; setup = setup; opening = opening; c = number; acts = acts; opens = opens; old = old; new = new })
          (record {
            p = p;
            q = p;
            plan = fifo_pass_plan setup.homes number pass local;
            after = cpu_local_passed setup local (guest_states guests) trace pass;
            line = line;
            goes = λ past same. step_goes setup number p p old past same (λ inside. refl) goes;
          })
          (record { local = own2; answer = result }) known_so
          (rw of.homes_are follows))

      -- a pass that touches nothing shared
      by_alone : is_in_section (phase number old) ≡ false → new ≡ old → choice setup number p ≡ Alone (cpu_local own2 guests2 trace) → Goal
      by_alone outside same chosen_alone =
          subst (λ l. IsStep ActsFor (cpu_step setup number) p (cpu_local own2 guests2 trace) (named old) (named l) Stepped) (sym same) (alone_is_step ActsFor
          setup number p (cpu_local own2 guests2 trace) (named old) (ap is_in_section (phase_renamed name_of number old) ∙ outside) chosen_alone)

      -- while no thread runs, the guests stay
      idle_guests : (threads_in local).current ≡ None → cpu_local own2 guests trace ≡ cpu_local own2 guests2 trace
      idle_guests runs = grind (arith, guests_are)

      line_by : (o : Buffering) → local ≡ o → (q : Pass) → pass ≡ q
          → IsLine setup number (cpu_local o guests trace) (fifo_pass_plan setup.homes number q o) (cpu_local_passed setup o (guest_states guests) trace q)
          → IsLine setup number p (fifo_pass_plan setup.homes number pass local) (cpu_local_passed setup local (guest_states guests) trace pass)
      line_by o same q pass_is line = grind arith

      drain_step : pass ≡ Drain → (threads_in local).current ≡ None → (threads_in local).hand ≡ None → (threads_in local).ready ≡ [] → Goal
      drain_step pass_is runs has none =
          by_line (line_by (own_at None None [] (threads_in local).ended None local.cv.lock.slept local.cv.waits local.call_states)
          (λ i. own_at (runs i) (has i) (none i) (threads_in local).ended (tabled.part.idle runs i) local.cv.lock.slept local.cv.waits local.call_states) Drain
          pass_is
          (drain_line setup number (guest_states guests) trace (threads_in local).ended local.cv.lock.slept local.cv.waits local.call_states))
          (λ outside. choice_idle setup number p has runs (not_halted outside) ∙ ap (at_ready p) none)
          (ap (λ q. cpu_local_passed setup local (guest_states guests) trace q (record { local = own2; answer = result })) pass_is ∙ idle_guests runs)

      send_step : (s : Tid) → pass ≡ MakeReady s → (threads_in local).current ≡ None → (threads_in local).hand ≡ Some s → Goal
      send_step s pass_is runs has =
          by_line (line_by (own_at None (Some s) (threads_in local).ready (threads_in local).ended None local.cv.lock.slept local.cv.waits local.call_states)
          (λ i. own_at (runs i) (has i) (threads_in local).ready (threads_in local).ended (tabled.part.idle runs i) local.cv.lock.slept local.cv.waits
          local.call_states)
          (MakeReady s) pass_is
          (make_ready_line setup number (guest_states guests) trace (threads_in local).ended local.cv.lock.slept local.cv.waits local.call_states
          s (threads_in local).ready (subst (λ h. IsSome (slice_get h s.0)) (sym of.homes_are) (known s has)))) (λ outside. choice_hand setup number p s has)
          (ap (λ q. cpu_local_passed setup local (guest_states guests) trace q (record { local = own2; answer = result })) pass_is ∙ idle_guests runs)

      switch_step : pass ≡ Switch → (threads_in local).current ≡ None → (threads_in local).hand ≡ None → ((threads_in local).ready ≡ [] → ⊥)
          → new ≡ old → own2 ≡ with_threads local (switched (threads_in local)) → Goal
      switch_step pass_is runs has some same now = go (threads_in local).ready refl
        where
          outside : is_in_section (phase number old) ≡ false
          outside = grind (arith, subst IsLocalPass (sym pass_is) tt)

          go : (ready : List Tid) → (threads_in local).ready ≡ ready → Goal
          go [] queue_is = absurd (some queue_is)
          go (t ∷ ready) queue_is =
              let o : Buffering = own_at None None (t ∷ ready) (threads_in local).ended None local.cv.lock.slept local.cv.waits local.call_states in
              let own_so : local ≡ o = grind arith in
              let next = ap (λ x. cpu_local x guests trace) (now ∙ ap (λ x. with_threads x (switched (threads_in x))) own_so)
              ∙ (switched_now setup number (guest_states guests) trace (threads_in local).ended local.cv.lock.slept local.cv.waits local.call_states t ready
              ∙ sym (ap (λ x. record (cpu_local x guests trace) { current = Some t; ready = ready }) own_so)) in
              by_alone outside same (choice_idle setup number p has runs (not_halted outside)
              ∙ (ap (at_ready p) queue_is ∙ ap Alone (sym next ∙ idle_guests runs)))

      -- A thread runs that is in no call.

      module _ (t : Tid) (g : Guest) (runs : (threads_in local).current ≡ Some t) (has : (threads_in local).hand ≡ None) (at : guest_at guests t.0 ≡ Some g)
          (free : is_calling g.stage ≡ false) where
        at_idle : (call_state_of local.call_states t).stage ≡ at_stage.Idle
        at_idle = free_at_idle t g at free

        abbrev running : Buffering
        running = own_at (Some t) None (threads_in local).ready (threads_in local).ended None local.cv.lock.slept local.cv.waits local.call_states

        own_so : local ≡ running
        own_so = λ i. own_at (runs i) (has i) (threads_in local).ready (threads_in local).ended (deferred_none _ _ _ _ _ _ (tabled.part.mine t runs) has i)
            local.cv.lock.slept local.cv.waits local.call_states

        long_guests : t.0 < length (guest_states guests)
        long_guests = subst (λ n. t.0 < n) (sym (states_long guests)) (guest_within guests t.0 g at)

        long_call_states : t.0 < length local.call_states
        long_call_states = grind (arith, guest_within)

        chosen_line : is_in_section (phase number old) ≡ false → choice setup number p ≡ at_instruction setup number p t (next_of g.program g.thread)
        chosen_line outside =
            grind (arith, choice_current, quiet, not_halted, stands_there)
          where
            quiet : (thread_at p t).call ≡ None
            quiet = call_of cpu setup of t g at ∙ unbegun _ (call_state_of local.call_states t) at_idle

        yield_step : pass ≡ YieldNow → todo_of g ≡ PassOn → Goal
        yield_step pass_is asks =
            by_line (line_by running own_so YieldNow pass_is (yield_line setup number (guest_states guests) trace (threads_in local).ended local.cv.lock.slept
            local.cv.waits local.call_states t (threads_in local).ready at_idle long_guests long_call_states)) (λ outside. chosen_line outside
            ∙ ap (at_instruction setup number p t) (yield_line_is g.thread (next_of g.program g.thread) asks)) (λ i. cpu_local_of own2 (states_so i) trace)
          where
            by_result : (r : Option (Unit {0})) → guests_passed setup YieldNow (Some t) r (guest_states guests)
                ≡ guest_states (passed_if (threads_in local).current guests pass r)
            by_result None = refl
            by_result (Some x) =
                (λ i. slice_set (guest_states guests) t.0
                (after_yield (next_of (of.programs_are t g at i) (states_at guests t.0 g at at_start i)) (states_at guests t.0 g at at_start i)))
                ∙ sym (ap (λ o. guest_states (passed_by o guests pass)) runs
                ∙ (ap (λ q. guest_states (with_guest guests t.0 (after_pass q))) pass_is ∙ states_changed guests t.0 passed g at))

            states_so : guests_passed setup pass (threads_in local).current result (guest_states guests) ≡ guest_states guests2
            states_so = (λ i. guests_passed setup (pass_is i) (runs i) result (guest_states guests)) ∙ (by_result result ∙ sym (ap guest_states guests_are))

        end_step : pass ≡ End → todo_of g ≡ Finish → new ≡ old → own2 ≡ with_threads local (pass_after End queue (threads_in local)) → (x : Unit {0}) → result
            ≡ Some x → Goal
        end_step pass_is asks same now x done =
            by_alone outside same
            (chosen_line outside ∙ (ap (at_instruction setup number p t) (finish_exit g.thread (next_of g.program g.thread) asks) ∙ ap Alone (sym next)))
          where
            outside : is_in_section (phase number old) ≡ false
            outside = grind (arith, subst IsLocalPass (sym pass_is) tt)

            states_so : guest_states guests2 ≡ guest_states guests
            states_so =
                ap guest_states (guests_are ∙ ap (passed_if (threads_in local).current guests pass) done)
                ∙ (ap (λ o. guest_states (passed_by o guests pass)) runs
                ∙ (ap (λ q. guest_states (with_guest guests t.0 (after_pass q))) pass_is ∙ (states_changed guests t.0 guest_ended g at
                ∙ sym (put_same (guest_states guests) t.0 g.thread at_start (states_at guests t.0 g at at_start)))))

            next : cpu_local own2 guests2 trace ≡ ends p t
            next =
                (λ i. cpu_local_of ((now ∙ ap (λ y. with_threads y (pass_after End queue (threads_in y))) own_so) i) (states_so i) trace)
                ∙ (ended_now setup number (guest_states guests) trace (threads_in local).ended local.cv.lock.slept local.cv.waits local.call_states t
                (threads_in local).ready at_idle long_guests long_call_states ∙ sym (ap (λ y. ends (cpu_local y guests trace) t) own_so))

      pub pass_steps : Goal
      pass_steps = go pass refl case_is
        where
          follows_at : (q : Pass) → pass ≡ q → Follows ActsFor tower opening number (fifo_pass_plan homes number q local) old new
              (record { local = own2; answer = result })
          follows_at q same = rw (← same) follows

          go : (q : Pass) → pass ≡ q → Case q → Goal
          go Switch same (switches runs has some) =
              let done = follows_at Switch same in switch_step same runs has some done.0 (ap (λ (l : Left Buffering (Unit {0})). l.local) done.1)
          go Drain same (drains runs has none) = drain_step same runs has none
          go (MakeReady s) same (sends_idle _ runs has) = send_step s same runs has
          go (MakeReady s) same (sends_on _ t g runs has at) = absurd (sends_alone s t g runs has at (chose ∙ ap Passes same))
          go YieldNow same (passes_on t g runs has at asks) = yield_step t g runs has at (not_calling t g PassOn at asks (λ c e. absurd (cc e))) same asks
          go End same (finishes t g runs has at asks) =
              let done = follows_at End same in
              end_step t g runs has at (not_calling t g Finish at asks (λ c e. absurd (cc e))) same asks done.0
              (ap (λ (l : Left Buffering (Unit {0})). l.local) done.1) tt (ap (λ (l : Left Buffering (Unit {0})). l.answer) done.1)

  -- An instruction that shares nothing.

  module _ (t : Tid) (chose : chosen (threads_in local) guests ≡ Computes t) where
    abbrev does : ((threads_in local).current ≡ Some t) × ((g : Guest) × (guest_at guests t.0 ≡ Some g) × (todo_of g ≡ Compute))
    does = computes_at (valid cpu) t chose

    abbrev g : Guest
    g = does.1.0

    abbrev at : guest_at guests t.0 ≡ Some g
    at = does.1.1

    pub compute_tabled : IsTabled homes caps number local under_way (with_guest guests t.0 computed) opening
    compute_tabled = tabled_with cpu t g computed local under_way at tabled.part (λ over. tabled.ends t g at over) (λ u other before. before) tabled.quick

    pub compute_steps : (ActsFor : CpuId → Type 0) (old : List (Action TowerName)) (outset : Outset ActsFor cpu old)
        → reason_in outset.inside (cpu_halted_at (threads_in local) guests trace limit) ≡ None
        → (setup : SystemConfig) (of : IsSetupOf setup homes caps guests limit)
        → IsStep ActsFor (cpu_step setup number) p (cpu_local local (with_guest guests t.0 computed) trace) (named old) (named old) Stepped
    compute_steps ActsFor old outset live setup of =
        let at_idle = free_at_idle t g at (not_calling t g Compute at does.1.2 (λ c e. absurd (cc e))) in
        let rest = at_rest _ _ _ _ _ _ (tabled.part.mine t does.0) at_idle in
        let outside : is_in_section (phase number old) ≡ false = sym outset.busy ∙ outset.idle (idle under_way refl) in
        let live_now = halted_same cpu setup of
        ∙ not_halted_so outset.inside (is_in_section (phase number old)) (cpu_halted_at (threads_in local) guests trace limit) outset.busy live outside in
        let quiet = call_of cpu setup of t g at ∙ unbegun _ (call_state_of local.call_states t) at_idle in
        let there = guest_there local guests trace t g at in
        let i : Instruction = next_of g.program g.thread in
        let within : t.0 < length (guest_states guests) = subst (λ n. t.0 < n) (sym (states_long guests)) (guest_within guests t.0 g at) in
        let next = ap (λ l. cpu_local_of local l trace) (states_changed guests t.0 computed g at)
        ∙ computed_now setup number (guest_states guests) trace [] [] [] [] local t (after_local i g.thread) within in
        alone_is_step ActsFor setup number p (cpu_local local (with_guest guests t.0 computed) trace) (named old)
        (ap is_in_section (phase_renamed name_of number old) ∙ outside)
        (choice_current setup number p t None rest.hand does.0 quiet live_now ∙ (ap (at_instruction setup number p t) (stands_there cpu setup of t g at)
        ∙ (local_at setup number p t g.thread i does.1.2 ∙ (ap (λ x. Alone (with_state p t (after_local i x.guest))) there ∙ ap Alone (sym next)))))
      where
        idle : (d : Option UnderWay) → under_way ≡ d → under_way ≡ None
        idle d none = grind arith

  -- A CPU that is halted, and a poll of a lock.

  pub halted_steps : (ActsFor : CpuId → Type 0) (old : List (Action TowerName)) (setup : SystemConfig) (of : IsSetupOf setup homes caps guests limit)
      (inside : Bool)
      (reason : Reason) → inside ≡ is_in_section (phase number old) → reason_in inside (cpu_halted_at (threads_in local) guests trace limit) ≡ Some reason
      → IsStep ActsFor (cpu_step setup number) p p (named old) (named old) (Halted reason)
  halted_steps ActsFor old setup of true reason busy halted = absurd (cc halted)
  halted_steps ActsFor old setup of false reason busy halted =
      halted_is_step ActsFor setup number p (named old) reason (ap is_in_section (phase_renamed name_of number old) ∙ sym busy)
      (halted_same cpu setup of ∙ halted)
