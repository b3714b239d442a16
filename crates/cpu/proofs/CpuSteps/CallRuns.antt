-- A message call that takes several steps: each poll of it, and each poll of a lock, is a step of
-- its CPU.
use Rattle.std.proofs.Common.{◌≡◌, ◌++◌, ◌<◌, ◌≤◌, ◌+◌, ℕ, Bool, true, false, not, List, length, Option, Some, None, option_map, refl, ap, sym, ◌∙◌, subst}
use Rattle.std.proofs.{Common.{arith, vec_capacity}, lemmas.List.{append-nil, length-set, Folds.list_all_at}}
use Rattle.layer_traits.specs.Layers.{BufferLaw.{Buffering, Answered, answer_in, begun_of, buffer_of, call_state_of}, IpcLaw.ipc_plan}
use Rattle.layer_traits.specs.{Blocks.{Capacities.caps_in, QueueBlocks.homes_in}, declared.{call_layers.CallLayer.Ghosts, calls.{Call.Call, Effect.Effect}}}
use Rattle.layer_traits.specs.{declared.{calls.{ReplyKind.ReplyKind, Reply.Reply}, call_states.CallState.CallState}, Threads.Places.one_if}
use Rattle.layer_traits.specs.{Views.OwnParts.threads_in, Polling.{LayerPolls.{IsBegunAt, LookedAt, LookedOnAt, PolledAt, PolledOnAt}, PollRuns.LookedOn}}
use Rattle.{layer_traits.specs.Polling.PollRuns.PolledOn, event_log.specs.declared.{entries.Entry.Entry, ids.Tid.Tid}}
use Rattle.{guest.specs.{declared.instructions.Instruction.Instruction, State.State}, cpu.specs.declared.cpus.{Choice.TheVariants.Polls, Cpu.Cpu}}
use Rattle.cpu.specs.{declared.guests.{Guest.Guest, GuestStage.{GuestStage, TheVariants.Begun}, NextAction.NextAction}, Cpus.{IsCpu, begins_at, begun_count}}
use Rattle.cpu.specs.Cpus.{chosen, chosen_at, chosen_by, chosen_for, GuestsWent, Replies, guest_calls, guests_rest, chosen_todo, fresh_at, guest_at}
use Rattle.cpu.specs.{Cpus.{is_begun_guest, of_cpu, of_thread, programs_of, with_guest}, CpuSteps.{RunsAt, SteppedAt, stops_at}, Guests.{HasComeIn, entries_of}}
use Rattle.cpu.{specs.Guests.{fresh_effect, had, is_begun, is_calling, polled, stage_after, todo_of}, proofs.CpuSteps.CallSteps.{PolledCpu, PollsAt}}
use Rattle.cpu.proofs.CpuSteps.{CallSteps.{noted_call, poll_buffer, poll_call_states, poll_within, polls_at}, GuestsFollow.had_going, CpuRuns.one_run}
use Rattle.cpu.proofs.CpuSteps.{CpuStates.valid_cpu, PassSteps.seen_stays, StepsBesideGuests.{called_grows, follows_grow, others_grow, others_same, tries_grow}}
use Rattle.cpu.proofs.OverLayer.CpuOverLayer.{IsLayered, PartLaws, layered, acts_for, left_framed, tabled_cpu, outset, runs_home}
use Rattle.cpu.proofs.{ListFacts.{GuestLists.{at_same, count_with, guest_within, programs_with}, ListReads.set_twice}, StepTable.TablePolls.TabledPoll}
use Rattle.cpu.proofs.StepTable.{TablePolls.{poll_tabled, poll_steps as poll_by_table}, TableCalls.{fifo_follows, hand_preserved, looked_steps}}

-- a call that has a reply has had an effect
replies_so : (call : Call) (state : CallState) (answer : Option Reply) → Answered call state answer → Replies call state.effect answer
replies_so call state None answered = tt
replies_so call state (Some reply) answered = answered.1

module _ {P L M : Type 0} {I : Ghosts P L M} (laws : PartLaws I) (m : M) (p : Cpu P M) (cpu : IsLayered I m p) where
  -- a poll of a lock that took the CPU to r, with all else of the CPU as it was
  pub look_steps : (n : M) (r : Cpu P M) → LookedAt I ipc_plan true p.part m r.part n → r.number ≡ p.number → r.limit ≡ p.limit
      → r.guests.items ≡ p.guests.items → r.trace.items ≡ p.trace.items → vec_capacity p.trace ≤ vec_capacity r.trace → SteppedAt I m p n r
  look_steps n r looked number limit guests trace capacity = record {
    live = rw (looked.waits refl) refl;
    agrees = record {
      coupled = looked.framed.coupled;
      number = looked.framed.cpu ∙ cpu.number ∙ sym number;
      is = rw (looked.framed.stays.opening, looked.local, looked.under_way, number, limit, guests)
          (subst (λ (l : List Entry). IsCpu (homes_in (I.opening m)) (length (caps_in (I.opening m))) (I.history n) (threads_in (I.local p.part))
          (I.local p.part).call_states (I.under_way p.part) p.number p.guests.items l p.limit (vec_capacity r.trace)) (sym trace) (grind (
            arith,
            seen_stays (valid_cpu cpu.is) (I.history n)
                (others_same (λ d. I.ActsFor m d) p.number (I.history m) (I.history n) looked.history (acts_for cpu)),
            capacity,
          )));
      table = λ step. rw (looked.local, looked.under_way, looked.framed.stays.opening, number, guests) (cpu.table step);
    };
    leaves = left_framed I m n p r cpu.number number limit looked.framed (ap programs_of guests)
        (guests_rest guests trace) (others_grow _ _ _ _ looked.history) (rw cpu.number at looked.moves)
        (λ step. rw (← cpu.number) (tries_grow _ _ _ _ (looked.tries step refl)));
    steps = λ step. rw (guests, trace) (looked_steps (λ d. I.ActsFor m d) (homes_in (I.opening m)) (caps_in (I.opening m)) (I.cpu_of p.part) p.number p.limit
        (I.local p.part) (I.local r.part) p.guests.items p.trace.items (I.acts m) (I.acts n) cpu.number looked.local (looked.tries step refl));
  }

  -- a poll of the call of t that took the CPU to r, which recorded the result
  module _ (live : stops_at I p ≡ None) (t : Tid) (call : Call) (chose : chosen (threads_in (I.local p.part)) p.guests.items ≡ Polls t call)
      (free : begins_at (guest_at p.guests.items t.0) ≡ true → length p.trace.items + begun_count p.guests.items < p.limit)
      (n : M) (r : Cpu P M) (abstract_answer : Option ReplyKind) (polled_so : PolledAt I ipc_plan t call p.part m r.part n abstract_answer)
      (number : r.number ≡ p.number)
      (limit : r.limit ≡ p.limit)
      (guests_is : r.guests.items ≡ with_guest p.guests.items t.0
      (λ g. polled g ((call_state_of (I.local r.part).call_states t).effect) (answer_in (I.local r.part).call_states t abstract_answer)))
      (trace_is : r.trace.items ≡ p.trace.items
      ++ entries_of p.number t (buffer_of call) (fresh_at (guest_at p.guests.items t.0) ((call_state_of (I.local r.part).call_states t).effect)))
      (capacity_is : vec_capacity p.trace ≤ vec_capacity r.trace) where
    there : (buffer_of call).0 < length (caps_in (I.opening m))
    there = poll_buffer (valid_cpu cpu.is) t call chose

    abbrev polled_cpu : PolledCpu (λ d. I.ActsFor m d) (valid_cpu cpu.is) t call
    polled_cpu = record {
      call_states = (I.local r.part).call_states;
      history = I.history n;
      local = threads_in (I.local r.part);
      under_way = I.under_way r.part;
      guests = r.guests.items;
      trace = r.trace.items;
      capacity = vec_capacity r.trace;
      answer = answer_in (I.local r.part).call_states t abstract_answer;
      acts = acts_for cpu;
      home = runs_home cpu t (polls_at (valid_cpu cpu.is) t call chose).runs;
      called = rw cpu.number at (polled_so.called there);
      runs_on = polled_so.runs there;
      under_way_is = polled_so.under_way there;
      guests_is = guests_is;
      trace_is = trace_is;
      strict = free;
      capacity_is = capacity_is;
    }

    abbrev tabled_poll : (step : I.IsStepwise) → TabledPoll (λ d. I.ActsFor m d) (tabled_cpu cpu step) t call (I.acts m)
    tabled_poll step = record {
      local = I.local r.part;
      under_way = I.under_way r.part;
      guests = r.guests.items;
      trace = r.trace.items;
      new = I.acts n;
      result = answer_in (I.local r.part).call_states t abstract_answer;
      known = hand_preserved (homes_in (I.opening m)) (homes_in (I.opening n)) (I.cpu_of r.part) (I.moves n) (threads_in (I.local r.part))
          (ap homes_in polled_so.framed.stays.opening)
          (laws.stands r.part n polled_so.framed.coupled) (laws.moves_legal n (I.cpu_of r.part) (laws.own_cpu r.part n polled_so.framed.coupled));
      follows = fifo_follows (λ d. I.ActsFor m d) (I.opening m) (homes_in (I.opening m)) (length (caps_in (I.opening m))) (I.cpu_of p.part) p.number t call
          (I.local p.part) (I.local r.part) (I.acts m) (I.acts n) (answer_in (I.local r.part).call_states t abstract_answer) cpu.number there
          (polled_so.follows step);
      ended_is = (polled_so.runs there).ended;
      under_way_is = polled_so.under_way there;
      guests_is = guests_is;
      trace_is = trace_is;
    }

    -- the call continues, takes effect or returns
    went : GuestsWent p.number p.guests.items p.trace.items r.guests.items r.trace.items
    went =
        let polls = polls_at (valid_cpu cpu.is) t call chose in
        guest_calls t polls.guest call ((call_state_of (I.local r.part).call_states t).effect) (answer_in (I.local r.part).call_states t abstract_answer)
        polls.at polls.asks
        (replies_so call (call_state_of (I.local r.part).call_states t) (answer_in (I.local r.part).call_states t abstract_answer)
        (polled_so.called there).answers) guests_is
        (trace_is
        ∙ ap (λ (o : Option Guest). p.trace.items
        ++ entries_of p.number t (buffer_of call) (fresh_at o ((call_state_of (I.local r.part).call_states t).effect))) polls.at)

    pub poll_steps : SteppedAt I m p n r
    poll_steps = record {
      live = live;
      agrees = record {
        coupled = polled_so.framed.coupled;
        number = polled_so.framed.cpu ∙ cpu.number ∙ sym number;
        is = rw (polled_so.framed.stays.opening, number, limit) (noted_call (valid_cpu cpu.is) t call chose _ polled_cpu);
        table = λ step.
            rw (polled_so.framed.stays.opening, number)
            (poll_tabled (tabled_cpu cpu step) t call chose _ _ (outset cpu step) live (tabled_poll step));
      };
      leaves = left_framed I m n p r cpu.number number limit polled_so.framed
          (ap programs_of guests_is ∙ programs_with p.guests.items t.0 _ (λ x. refl)) went
          (called_grows _ _ _ _ _ _ _ _ _ (rw cpu.number at (polled_so.called there))) (rw cpu.number at polled_so.moves)
          (λ step. rw (← cpu.number) (follows_grow _ _ _ _ _ _ _ _ (polled_so.follows step)));
      steps = λ step setup of. poll_by_table (tabled_cpu cpu step) t call chose _ _ (outset cpu step) live (tabled_poll step) setup of;
    }

-- What a call's run leaves between its steps.

fresh_after : (stage : GuestStage) (program : List Instruction) (s : State) (es : List Entry) (begun : Option Call) (effect left e : Option Effect)
    → HasComeIn stage program s es begun effect → left ≡ had begun effect → fresh_effect stage e ≡ fresh_effect (stage_after left None) e
fresh_after stage program s es begun effect left e f is = grind arith

calling : (e : Option Effect) → is_calling (stage_after e None) ≡ true
calling e = grind arith

-- what was changed twice is as the second change leaves it
with_twice : (guests : List (Option Guest)) (t : ℕ) (f h : Guest → Guest) (g : Guest) → guest_at guests t ≡ Some g → h (f g) ≡ h g
    → with_guest guests t h ≡ with_guest (with_guest guests t f) t h
with_twice guests t f h g at same = grind (arith, set_twice, at_same)

-- after a run the CPU is over its layer again
runs_layered : {P L M : Type 0} {I : Ghosts P L M} {m n : M} {p q : Cpu P M} {k : ℕ} → PartLaws I → IsLayered I m p → RunsAt I m p k n q → IsLayered I n q
runs_layered laws cpu RunsAt.no_steps = cpu
runs_layered {n = n} {q = q} laws cpu (RunsAt.then_step runs s) = layered laws n q s.agrees

-- polls of a lock by its part after so many steps are steps too
pub looks_run : {P L M : Type 0} {I : Ghosts P L M} {m n : M} {p q : Cpu P M} {j k : ℕ} {r : P} {o : M} → PartLaws I → IsLayered I m p
    → RunsAt I m p j n q → LookedOnAt I ipc_plan q.part n j k r o → RunsAt I m p k o (record q { part = r })
looks_run laws cpu ran LookedOn.none = ran
looks_run {q = q} {r = r} {o = o} laws cpu ran (LookedOn.more {q = s} {n = n} looked last) =
    let amid = looks_run laws cpu ran looked in
    RunsAt.then_step amid
    (look_steps laws n (record q { part = s }) (runs_layered laws cpu amid) o (record q { part = r }) last refl refl refl refl (omega arith))

-- the CPU is at the call of t
module _ {P L M : Type 0} {I : Ghosts P L M} (laws : PartLaws I) (m : M) (p : Cpu P M) (cpu : IsLayered I m p) (live : stops_at I p ≡ None)
    (t : Tid) (call : Call) (chose : chosen (threads_in (I.local p.part)) p.guests.items ≡ Polls t call)
    (free : begins_at (guest_at p.guests.items t.0) ≡ true → length p.trace.items + begun_count p.guests.items < p.limit) where
  -- the effect that the call has had, as a part has it
  abbrev had_in : P → Option Effect
  had_in q = (call_state_of (I.local q).call_states t).effect

  -- the CPU after steps of the call that left it this part and returned nothing
  abbrev between : P → Cpu P M
  between q = record p {
    part = q;
    guests = record p.guests {
      items = with_guest p.guests.items t.0 (λ g. polled g (had_in q) None);
      ok = (
        p.guests.ok.0 ∙ sym (length-set p.guests.items t.0 (option_map (λ g. polled g (had_in q) None) (guest_at p.guests.items t.0))),
        p.guests.ok.1,
      );
    };
  }

  polls : PollsAt (threads_in (I.local p.part)) p.guests.items t call
  polls = polls_at (valid_cpu cpu.is) t call chose

  module _ (q : P) (quiet : IsBegunAt I ipc_plan t call p.part q) where
    guest_between : guest_at (between q).guests.items t.0 ≡ Some (polled polls.guest (had_in q) None)
    guest_between = at_same p.guests.items t.0 (λ g. polled g (had_in q) None) polls.guest polls.at

    chose_between : chosen (threads_in (I.local q)) (between q).guests.items ≡ Polls t call
    chose_between =
        ap (λ (c : Option Tid). chosen_at c (threads_in (I.local q)).hand (threads_in (I.local q)).ready (between q).guests.items) quiet.runs
        ∙ (ap (λ (o : Option Guest). chosen_for t (threads_in (I.local q)).hand o) guest_between
        ∙ (ap (λ (b : Bool). chosen_by t b (threads_in (I.local q)).hand (todo_of polls.guest)) (calling (had_in q))
        ∙ ap (λ (todo : NextAction). chosen_todo t todo) polls.asks))

    begins_between : begins_at (guest_at (between q).guests.items t.0) ≡ false
    begins_between = ap begins_at guest_between ∙ ap not (calling (had_in q))

    live_between : stops_at I (between q) ≡ None
    live_between = grind (arith, chose_between, begins_between, list_all_at, guest_within, guest_between)

    free_between : begins_at (guest_at (between q).guests.items t.0) ≡ true → length p.trace.items + begun_count (between q).guests.items < p.limit
    free_between begin = absurd (cc (begin, begins_between))

    fresh_same : (e : Option Effect) → fresh_at (guest_at p.guests.items t.0) e ≡ fresh_at (guest_at (between q).guests.items t.0) e
    fresh_same e =
        let state = call_state_of (I.local p.part).call_states t in
        let left = quiet.effect ∙ had_going state call (poll_call_states (valid_cpu cpu.is) t call chose) in
        ap (λ (o : Option Guest). fresh_at o e) polls.at
        ∙ (fresh_after polls.guest.stage polls.guest.program polls.guest.thread (of_thread t.0 (of_cpu p.number (I.history m))) (begun_of state) state.effect
        (had_in q) e (cpu.is.follow t polls.guest polls.at).1 left
        ∙ sym (ap (λ (o : Option Guest). fresh_at o e) guest_between))

    trace_between : p.trace.items ≡ p.trace.items ++ entries_of p.number t (buffer_of call) (fresh_at (guest_at p.guests.items t.0) (had_in q))
    trace_between = grind (arith, fresh_same, guest_between, append-nil)

    guests_between : (e : Option Effect) (a : Option Reply)
        → with_guest p.guests.items t.0 (λ g. polled g e a) ≡ with_guest (between q).guests.items t.0 (λ g. polled g e a)
    guests_between e a = with_twice p.guests.items t.0 (λ g. polled g (had_in q) None) (λ g. polled g e a) polls.guest polls.at refl

  -- consecutive polls of the call and of its lock that took the CPU to r, which recorded the last
  -- result, are as many steps
  pub call_runs : {k : ℕ} {q : P} {n : M} {abstract_answer : Option ReplyKind} → PolledOnAt I ipc_plan t call p.part m k q n abstract_answer → (r : Cpu P M)
      → r.part ≡ q
      → r.number ≡ p.number → r.limit ≡ p.limit
      → r.guests.items ≡ with_guest p.guests.items t.0 (λ g. polled g (had_in r.part) (answer_in (I.local r.part).call_states t abstract_answer))
      → r.trace.items ≡ p.trace.items ++ entries_of p.number t (buffer_of call) (fresh_at (guest_at p.guests.items t.0) (had_in r.part))
      → vec_capacity p.trace ≤ vec_capacity r.trace → RunsAt I m p k n r
  call_runs (PolledOn.once {n = n} {abstract_answer = abstract_answer} one) r part number limit guests trace capacity =
      one_run (poll_steps laws m p cpu live t call chose free n r abstract_answer
      (subst (λ (o : P). PolledAt I ipc_plan t call p.part m o n abstract_answer) (sym part) one)
      number limit guests trace capacity)
  call_runs (PolledOn.again {q = q} {n = n} {o = o} {abstract_answer = abstract_answer} on quiet last) r part number limit guests trace capacity =
      let amid : RunsAt I m p _ n (between q) = call_runs on (between q) refl refl refl refl (trace_between q quiet) (omega arith) in
      RunsAt.then_step amid (poll_steps laws n (between q) (runs_layered laws cpu amid) (live_between q quiet) t call (chose_between q quiet)
      (free_between q quiet) o r
      abstract_answer (subst (λ (x : P). PolledAt I ipc_plan t call q n x o abstract_answer) (sym part) last) number limit
      (guests ∙ guests_between q quiet (had_in r.part) (answer_in (I.local r.part).call_states t abstract_answer))
      (trace ∙ ap (λ (f : Option Effect). p.trace.items ++ entries_of p.number t (buffer_of call) f) (fresh_same q quiet (had_in r.part))) capacity)
  call_runs (PolledOn.looks {q = q} {n = n} {o = o} on quiet last) r part number limit guests trace capacity =
      let amid : RunsAt I m p _ n (between q) = call_runs on (between q) refl refl refl refl (trace_between q quiet) (omega arith) in
      let looked : LookedAt I ipc_plan true q n r.part o = subst (λ (x : P). LookedAt I ipc_plan true q n x o) (sym part) last in
      let same : had_in r.part ≡ had_in q = ap (λ (local : Buffering). (call_state_of local.call_states t).effect) looked.local in
      RunsAt.then_step amid (look_steps laws n (between q) (runs_layered laws cpu amid) o r looked number limit
      (guests ∙ ap (λ (e : Option Effect). with_guest p.guests.items t.0 (λ g. polled g e None)) same)
      (trace ∙ (ap (λ (e : Option Effect). p.trace.items ++ entries_of p.number t (buffer_of call) (fresh_at (guest_at p.guests.items t.0) e)) same
      ∙ sym (trace_between q quiet))) capacity)

  -- an effect of the call that is fresh finds room for its entry
  pub fresh_room : (e : Option Effect) (f : Effect) → fresh_at (guest_at p.guests.items t.0) e ≡ Some f → length p.trace.items < vec_capacity p.trace
  fresh_room e f some = go polls.guest.stage refl (sym (ap (λ (o : Option Guest). fresh_at o e) polls.at) ∙ some)
    where
      go : (s : GuestStage) → polls.guest.stage ≡ s → fresh_effect s e ≡ Some f → length p.trace.items < vec_capacity p.trace
      go Begun is had =
          let counted = count_with p.guests.items t.0 None (poll_within (valid_cpu cpu.is) t call chose) in
          let one = ap (λ (o : Option Guest). one_if (is_begun_guest o)) polls.at ∙ ap (λ (x : GuestStage). one_if (is_begun x)) is in
          omega (arith, counted, one, cpu.is.room, cpu.is.reserved)
      go s is had = grind (arith, is)
