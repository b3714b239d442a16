use Rattle.std.proofs.Common.{◌≡◌, ◌++◌, if◌then◌else◌, Option, None, refl, ap, sym, ◌∙◌, subst, arith}
use Rattle.{layer_traits.specs.{declared.calls.Effect.Effect, Layers.BufferLaw.{answer_in, buffer_of, call_state_of}}, cpu.specs.Guests.{entries_of, polled}}
use Rattle.cpu.{specs.Cpus.{fresh_at, guest_at, stands_at_call, with_guest}, proofs.CpuSteps.{CallRuns.{call_runs, fresh_room}, CallSteps.poll_call_states}}
use Rattle.cpu.proofs.{CpuSteps.{CallSteps.{poll_number, poll_within, polls_at}, CpuStates.valid_cpu}, OverLayer.CpuOverLayer.{IsLayered, laws_of, layered}}
use Rattle.cpu.proofs.cpus.Cpu.call.{Given.Over, Goals.{Start, After-note_poll-fresh}}
use Rattle.cpu.proofs.cpus.Cpu.call.Goals as goal

-- the CPU over its layers
abbrev cpu : (g : Over) (c : Start g) → IsLayered g.I.CallLayer c.args.m.now c.args.self.now
cpu g c = layered (laws_of g.met.I.CallLayer) c.args.m.now c.args.self.now c.requires.goes.agrees

pub call_of-call-requires-clause-within : goal.call_of-call-requires-clause-within
call_of-call-requires-clause-within g c = poll_within (valid_cpu c.requires.goes.agrees.is) c.args.thread c.args.asked c.requires.chosen

pub call_of-call-requires-clause-asked : goal.call_of-call-requires-clause-asked
call_of-call-requires-clause-asked g c =
    let polls = polls_at (valid_cpu c.requires.goes.agrees.is) c.args.thread c.args.asked c.requires.chosen in
    subst (λ guest. stands_at_call guest c.args.asked) (sym polls.at) polls.asks

pub poll_on-run-requires-clause-same : goal.poll_on-run-requires-clause-same
poll_on-run-requires-clause-same g c =
    rw c.call_of-call.ensures.call (poll_call_states (valid_cpu c.requires.goes.agrees.is) c.args.thread c.args.asked c.requires.chosen)

pub effect_here-effect-requires : goal.effect_here-effect-requires
effect_here-effect-requires g c = poll_number (valid_cpu c.requires.goes.agrees.is) c.args.thread c.args.asked c.requires.chosen

pub note_poll-fresh-requires : goal.note_poll-fresh-requires
note_poll-fresh-requires g c =
    rw c.call_of-call.follows.holds-at-none (poll_within (valid_cpu c.requires.goes.agrees.is) c.args.thread c.args.asked c.requires.chosen)

-- what the run returned and recorded
module _ (g : Over) (c : After-note_poll-fresh g) where
  open g.I.CallLayer use {local}

  guests_now : c.note_poll-fresh.new.self.items ≡ with_guest c.args.self.now.guests.items c.args.thread.0
      (λ x. polled x ((call_state_of (local c.poll_on-run.new.self).call_states c.args.thread).effect)
      (answer_in (local c.poll_on-run.new.self).call_states c.args.thread c.poll_on-run.result.reply))
  guests_now = grind arith

  fresh_now : (if c.note_poll-fresh.result then c.effect_here-effect.result.now else None)
      ≡ fresh_at (guest_at c.args.self.now.guests.items c.args.thread.0) ((call_state_of (local c.poll_on-run.new.self).call_states c.args.thread).effect)
  fresh_now = (rw c.call_of-call.follows.holds-at-none at c.note_poll-fresh.ensures.fresh)
      ∙ ap (λ (f : Option Effect). fresh_at (guest_at c.args.self.now.guests.items c.args.thread.0) f) c.effect_here-effect.ensures

pub note_effect-requires : goal.note_effect-requires
note_effect-requires g c = λ f some.
    fresh_room (laws_of g.met.I.CallLayer) c.args.m.now c.args.self.now (cpu g (goal.at.note_effect-requires g c).Start) c.requires.goes.live c.args.thread
    c.args.asked c.requires.chosen c.requires.not_full _ f (sym (fresh_now g (goal.at.note_effect-requires g c).After-note_poll-fresh) ∙ some)

pub returns : goal.returns
returns g c =
    let m = c.args.m.now in
    let p = c.args.self.now in
    let t = c.args.thread in
    let polled = rw c.call_of-call.ensures.call at c.poll_on-run.ensures.polled_on in
    let noted = (goal.at.returns g c).After-note_poll-fresh in
    let trace = (rw (c.buffer-buffer.ensures, c.call_of-call.ensures.call) at c.note_effect.ensures.items)
    ∙ ap (λ (f : Option Effect). p.trace.items ++ entries_of p.number t (buffer_of c.args.asked) f) (fresh_now g noted) in
    record {
      some = grind (arith, polled);
      few = c.poll_on-run.ensures.few;
      ran = call_runs (laws_of g.met.I.CallLayer) m p (cpu g (goal.at.returns g c).Start) c.requires.goes.live t c.args.asked c.requires.chosen
          c.requires.not_full polled _ refl refl refl (guests_now g noted) trace c.note_effect.ensures.capacity;
    }
