use Rattle.std.proofs.{Common.{refl, ap, ◌∙◌, arith}, lemmas.List.get_or-replicate}
use Rattle.{event_log.specs.declared.ids.TheConstants.THREADS, layer_traits.specs.{declared.call_states.CallState.CallState, Layers.BufferLaw.call_state_of}}
use Rattle.layer_traits.specs.Layers.BufferLaw.{Buffering, no_call}
use Rattle.cpu_workers.proofs.workers.callers.Caller.new.Goals as goal

pub invariant_of-result : goal.invariant_of-result
invariant_of-result g c = record {
  coupled = (c.part.ensures.coupled c.args.machine c.requires.fresh c.requires.buffers, c.part.ensures.cpu);
  room = c.requires.room;
  nothing = c.part.ensures.under_way;
  rests = ap (λ (local : Buffering). (call_state_of local.call_states c.args.thread).stage) c.part.ensures.local
      ∙ ap (λ (s : CallState). s.stage) (get_or-replicate THREADS c.args.thread.0 no_call no_call (omega arith));
  opens = c.requires.opens;
  counted = rw c.requires.history refl;
  few = omega arith;
}
