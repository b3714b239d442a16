-- The passes from thread to thread are lines of the table, or steps of it without an action.
use Rattle.std.proofs.Common.{◌≡◌, ◌≢◌, ℕ, ◌+◌, ◌<◌, true, false, ◌&&◌, List, [], ◌∷◌, ◌++◌, length, slice_get, slice_set, Option, Some, None, IsSome, refl, ap}
use Rattle.std.proofs.{Common.{sym, ◌∙◌, arith}, lemmas.{Bool.ne_eqb, List.append-nil}, Math.Bool.or-true}
use Rattle.layer_traits.specs.{Threads.RunQueue.joins, declared.{passes.Pass.Pass, call_states.CallState.CallState}, Layers.QLockLaw.slept_for}
use Rattle.layer_traits.specs.{Layers.BufferLaw.{Buffering, fifo_pass_plan, no_call, call_state_of}, Polling.Plans.Left}
use Rattle.{event_log.specs.declared.{entries.Entry.Entry, ids.{BufId.BufId, CpuId.CpuId, Tid.Tid}}, guest.specs.State.{State, after_yield, at_start, next_of}}
use Rattle.{thread_blocks.{specs.Queues.is_in, proofs.{Members.same_tid_self, Distinct.pushed_in}}, cpu.specs.Table.Setups.{SystemConfig, CpuLocal, Thread}}
use Rattle.cpu.specs.{Table.{Setups.{program_of, thread_at}, Choice.{after_by, after_section, ends, with_state}}, Tower.Views.{TowerAnswer, answer_view}}
use Rattle.cpu.{specs.Tower.{Privates.{state_at, cpu_local_of, cpu_local_passed, thread_from, thread_of, tid}, Composed.IsLine}, proofs.Tower.Callers.Runner}
use Rattle.cpu.proofs.Tower.{ChangedThread.{changed, numbered_changed, numbered_same, own_at, part_at, parts, threads_at}, SectionLines.react_in}
use Rattle.cpu.proofs.Tower.{HandLines.home_there, Chains.put_same, BegunPolls.thread_here}
use Rattle.layer_traits.specs.declared.passes.Pass.TheVariants as pass
use Rattle.layer_traits.specs.declared.queue_edits.QueueEdit.TheVariants as queue
use Rattle.layer_traits.specs.declared.queue_edits.QueueAnswer.TheVariants as told
use Rattle.layer_traits.specs.declared.call_states.Stage.TheVariants as at

-- the plan of a poll of this pass is a line of the table
abbrev pub PassLine : SystemConfig → CpuId → Pass → Buffering → List State → List Entry → Type 0
PassLine setup c p local guests trace =
    IsLine setup c (cpu_local_of local guests trace) (fifo_pass_plan setup.homes c p local) (cpu_local_passed setup local guests trace p)

module _ (setup : SystemConfig) (c : CpuId) (guests : List State) (trace : List Entry) (ended : List Tid) (slept waits : List (Option BufId))
    (call_states : List CallState) where
  -- no thread runs or is ready: the pending threads are taken
  abbrev idle_with : List Tid → Buffering
  idle_with ready = own_at None None ready ended None slept waits call_states

  pub drain_line : PassLine setup c pass.Drain (idle_with []) guests trace
  drain_line = grind (arith, append-nil)

  -- the thread in the hand is put among its home's pending
  abbrev holding : Tid → List Tid → Buffering
  holding u ready = own_at None (Some u) ready ended None slept waits call_states

  pub make_ready_line : (u : Tid) (ready : List Tid) → IsSome (slice_get setup.homes u.0) → PassLine setup c (pass.MakeReady u) (holding u ready) guests trace
  make_ready_line u ready known = grind (arith, home_there)

  -- The thread that runs is in no call.

  module _ (t : Tid) (ready : List Tid) (at_idle : (call_state_of call_states t).stage ≡ at.Idle) (in_guests : t.0 < length guests)
      (in_call_states : t.0 < length call_states) where
    abbrev runner : Runner
    runner = record {
      t = t;
      ready = ready;
      ended = ended;
      slept = slept;
      waits = waits;
      call_states = call_states;
      guests = guests;
      in_guests = in_guests;
      in_call_states = in_call_states;
    }

    abbrev pub running : Buffering
    running = part_at runner None None

    abbrev p : CpuLocal
    p = cpu_local_of running guests trace

    abbrev g : State
    g = state_at guests t

    abbrev free : State → Thread
    free guest = record { guest = guest; call = None; ended = is_in t ended }

    pub there_free : thread_at p t ≡ free g
    there_free = thread_here running guests trace t in_guests ∙ (grind arith)

    -- it yields: the pending threads are ready, and after them the thread
    abbrev yields : Option TowerAnswer → Left Buffering (Unit {0})
    yields reply = react_in (fifo_pass_plan setup.homes c pass.YieldNow running) reply

    yielded : (pending : List Tid)
        → cpu_local_passed setup running guests trace pass.YieldNow (yields (Some (told.Taken pending)))
        ≡ after_section setup c p (answer_view (told.Taken pending))
    yielded pending =
        let guest : State = after_yield (next_of (program_of setup t) g) g in
        let ready2 : List Tid = joins (t ∷ []) (joins pending ready) in
        (λ i. cpu_local_of (own_at None None ready2 ended None slept waits (put_same call_states t.0 (call_state_of call_states t) no_call refl i))
        (slice_set guests t.0 guest) trace)
        ∙ (changed runner None None None None ready2 None slept waits (call_state_of call_states t) guest trace
        (slept_for slept t) (slept_for waits t) false (λ j other. refl) (λ j other. refl) (λ j other. refl) refl refl refl
        ∙ (ap (λ x. parts None ready2 None (slice_set (threads_at running guests) t.0 x) trace) (grind arith)
        ∙ sym (ap (λ x. after_by setup c p t x.call (answer_view (told.Taken pending))) there_free
        ∙ ap (λ x. parts None ready2 None (slice_set (threads_at running guests) t.0
        (record x { guest = after_yield (next_of (program_of setup t) x.guest) x.guest })) trace)
        there_free)))

    pub yield_line : PassLine setup c pass.YieldNow running guests trace
    yield_line = grind (arith, there_free, yielded)

    -- it ends
    pub ended_now : cpu_local_of (own_at None None ready (ended ++ t ∷ []) None slept waits call_states) guests trace ≡ ends p t
    ended_now =
        let after : Buffering = own_at None None ready (ended ++ t ∷ []) None slept waits call_states in
        let zero_plus : t.0 ≡ 0 + t.0 = omega arith in
        ap (λ l. parts None ready None l trace) (ap (λ l. threads_at after l) (put_same guests t.0 g at_start refl) ∙ (numbered_changed (λ n. thread_of running
        (tid n)) (λ n. thread_of after (tid n)) 0 t.0 t.0 guests g zero_plus (λ j x other. λ i. thread_from (call_state_of call_states (tid j))
        (slept_for slept (tid j)) (slept_for waits (tid j)) (sym (ap (λ b. b && false) (ne_eqb t.0 j (λ e. other (sym e)))) i) (not_new j other i) x) in_guests
        ∙ (ap (λ x. slice_set (threads_at running guests) t.0 x) here
        ∙ ap (λ x. slice_set (threads_at running guests) t.0 (record x { ended = true })) (sym there_free))))
      where
        not_new : (j : ℕ) → j ≢ t.0 → is_in (tid j) (ended ++ t ∷ []) ≡ is_in (tid j) ended
        not_new j other = grind (arith, pushed_in, ne_eqb)

        here : thread_of (own_at None None ready (ended ++ t ∷ []) None slept waits call_states) t g ≡ record { guest = g; call = None; ended = true }
        here = grind (arith, pushed_in, same_tid_self, or-true)

  -- an instruction that shares nothing
  pub computed_now : (local : Buffering) (t : Tid) (guest : State) → t.0 < length guests
      → cpu_local_of local (slice_set guests t.0 guest) trace ≡ with_state (cpu_local_of local guests trace) t guest
  computed_now local t guest within =
      let zero_plus : t.0 ≡ 0 + t.0 = omega arith in
      ap (λ l. parts local.cv.lock.sleep.threads.current local.cv.lock.sleep.threads.ready local.cv.lock.sleep.threads.hand l trace)
      (numbered_changed (λ n. thread_of local (tid n)) (λ n. thread_of local (tid n)) 0 t.0 t.0 guests guest zero_plus (λ j x other. refl) within
      ∙ ap (λ x. slice_set (threads_at local guests) t.0 (record x { guest = guest })) (sym (thread_here local guests trace t within)))

  -- the first that is ready runs
  pub switched_now : (t : Tid) (ready : List Tid)
      → cpu_local_of (own_at (Some t) None ready ended None slept waits call_states) guests trace
      ≡ record (cpu_local_of (idle_with (t ∷ ready)) guests trace) { current = Some t; ready = ready }
  switched_now t ready = grind (arith, numbered_same)
