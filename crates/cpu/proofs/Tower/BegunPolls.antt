-- Each poll of a call is a step of the table: of one that continues, and of one that begins, in
-- which the call begins and its caller takes its ticket at the lock in one step.
use Rattle.std.proofs.Common.{◌≡◌, ◌+◌, ◌<◌, false, List, length, Some, None, option_map, refl, ap, sym, ◌∙◌, subst, arith}
use Rattle.layer_traits.specs.{Views.OwnParts.threads_in, declared.{calls.{Call.Call, Reply.Reply}, steps.Step.TheVariants.Stepped}}
use Rattle.layer_traits.specs.{declared.call_states.{CallState.CallState, Stage.TheVariants.{Idle, Acquires}}, Polling.{Along.IsStep, Plans.{Left, Follows}}}
use Rattle.layer_traits.specs.{Polling.Plans.is_in_section, Layers.BufferLaw.{Buffering, begun_at, fifo_plan, going, going_at, plan_at, call_state_of}}
use Rattle.{event_log.specs.{declared.{entries.Entry.Entry, ids.Tid.Tid}, Actions.phase}, guest.specs.State.{State, at_start, next_of}}
use Rattle.cpu.specs.{Table.{Setups.{CpuLocal, new_thread, program_of, thread_at}, Choice.{Goes, choice}, Steps.{cpu_step, halted_at}}, Tower.Views.tower}
use Rattle.cpu.specs.Tower.{Privates.{state_at, cpu_local_after, cpu_local_of, thread_of, tid}, Composed.{AsksFor, HandIsKnown, IsBeginning, IsGoing, IsLine}}
use Rattle.cpu.{specs.Tower.Composed.{asks, named}, proofs.Tower.{Callers.{HasRoom, Site, awake, caller_in}, ChangedThread.{numbered_at, own_at, part_at}}}
use Rattle.cpu.proofs.Tower.{SectionLines.{HasHad, from, local, section_line}, Plans.plans_are_lines, PolledSystem.{Polled, Way}, Polls.choice_current}
use Rattle.cpu.proofs.Tower.Polls.{choice_hand, line_is_step, step_goes}

-- the table's thread of a number
pub thread_here : (local : Buffering) (guests : List State) (trace : List Entry) (t : Tid) → t.0 < length guests
    → thread_at (cpu_local_of local guests trace) t ≡ thread_of local t (state_at guests t)
thread_here local guests trace t within =
    let zero_plus : 0 + t.0 ≡ t.0 = omega arith in
    numbered_at (λ n. thread_of local (tid n)) 0 t.0 guests new_thread at_start within ∙ ap (λ n. thread_of local (tid n) (state_at guests t)) zero_plus

module _ (polled : Polled) (local : Buffering) (guests : List State) (trace : List Entry) (t : Tid) (call : Call) (got : Left Buffering Reply) where
  open polled use {ActsFor, setup, opening, c, old, new}

  -- the poll of this call that left this is a step of the table, from a part that is the CPU's
  -- before it
  abbrev pub IsStepFrom : Buffering → Type 0
  IsStepFrom o =
      Follows ActsFor tower opening c (fifo_plan setup.homes c t call o) old new got
      → IsStep ActsFor (cpu_step setup c) (cpu_local_of o guests trace) (cpu_local_after setup c t call o guests trace got) (named old) (named new) Stepped

  pub polls_are_steps : IsGoing local guests t call → HandIsKnown setup local → HandIsKnown setup got.local
      → (is_in_section (phase c old) ≡ false → halted_at setup c (cpu_local_of local guests trace) ≡ None) → IsStepFrom local
  polls_are_steps going known known2 live follows =
      let p : CpuLocal = cpu_local_of local guests trace in
      let call_state_now : CallState = call_state_of local.call_states t in
      let begun : begun_at call_state_now.stage call_state_now.call ≡ Some call
      = ap (begun_at call_state_now.stage) going.begun ∙ (grind (arith, going.stands)) in
      let is = ap (λ x. x.call) (thread_here local guests trace t going.in_guests) ∙ ap (option_map _) begun in
      let way : Way Reply polled = record {
        p = p;
        q = p;
        plan = fifo_plan setup.homes c t call local;
        after = cpu_local_after setup c t call local guests trace;
        line = plans_are_lines setup c local guests trace t call going known;
        goes = grind (arith, step_goes, choice_current, choice_hand);
      } in
      line_is_step polled way got known2 follows

-- A call that begins.

module _ (call_site : Site) (had : HasHad call_site None) (first_position : call_site.position ≡ 0) where
  abbrev p : CpuLocal
  p = cpu_local_of (local call_site None had) call_site.guests call_site.trace

  abbrev g : State
  g = state_at call_site.guests call_site.t

  there : thread_at p call_site.t ≡ thread_of (local call_site None had) call_site.t g
  there = thread_here (local call_site None had) call_site.guests call_site.trace call_site.t call_site.in_guests

  pub choice_begins : (call_state_of call_site.call_states call_site.t).stage ≡ Idle
      → AsksFor (next_of (program_of call_site.setup call_site.t) g) g call_site.call
      → halted_at call_site.setup call_site.c p ≡ None → choice call_site.setup call_site.c p ≡ Goes (from call_site None had Acquires)
  choice_begins at_idle begins_here halted = grind (arith, there, choice_current)

module _ (polled : Polled) (local : Buffering) (guests : List State) (trace : List Entry) (t : Tid) (call : Call) (got : Left Buffering Reply)
    (beginning : IsBeginning polled.setup local guests t call) (known : HandIsKnown polled.setup got.local)
    (outside : is_in_section (phase polled.c polled.old) ≡ false) where
  open polled use {setup, c, old}

  abbrev First : Buffering → Type 0
  First o = halted_at setup c (cpu_local_of o guests trace) ≡ None → IsStepFrom polled local guests trace t call got o

  abbrev room : HasRoom local guests t
  room = assumption (beginning)

  abbrev call_site : Site
  call_site = awake (caller_in setup c local guests t room trace call 0) beginning.slept beginning.waits

  abbrev had : HasHad call_site None
  had = ap (λ s. (going_at s (call_state_of local.call_states t) call).effect) beginning.at_idle

  abbrev pieces : Buffering
  pieces = part_at call_site.runner None None

  by_pieces : First pieces
  by_pieces halted follow =
      let p : CpuLocal = cpu_local_of pieces guests trace in
      let q : CpuLocal = from call_site None had Acquires in
      let plan = ap (λ s. plan_at setup.homes c t call (going_at s (call_state_of local.call_states t) call).stage
      (going_at s (call_state_of local.call_states t) call) pieces) beginning.at_idle in
      let line =
      subst (λ x. IsLine setup c q x (cpu_local_after setup c t call pieces guests trace)) (sym plan) (section_line call_site None had Acquires asks tt) in
      let way : Way Reply polled = record {
        p = p;
        q = q;
        plan = fifo_plan setup.homes c t call pieces;
        after = cpu_local_after setup c t call pieces guests trace;
        line = line;
        goes = λ past same. step_goes setup c p q old past same (λ inside. absurd (cc (inside, outside)))
            (λ out. choice_begins call_site had refl beginning.at_idle beginning.at halted);
      } in
      line_is_step polled way got known follow

  pub first_polls_are_steps : First local
  first_polls_are_steps =
      subst First (λ i. own_at (sym beginning.current i) (sym beginning.hand i) (threads_in local).ready (threads_in local).ended (sym beginning.deferred i)
      local.cv.lock.slept local.cv.waits local.call_states) by_pieces
