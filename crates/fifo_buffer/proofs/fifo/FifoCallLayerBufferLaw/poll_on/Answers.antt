use mathlib.Core.Bool.{beq}
use Rattle.std.proofs.Common.{◌≡◌, ◌≢◌, ◌∙◌, ◌+◌, ℕ, Bool, true, false, not, ap, sym, List, Option, None, is_some, arith}
use Rattle.{event_log.specs.declared.ids.{CpuId.CpuId, Tid.Tid}, layer_traits.specs.{declared.calls.{Call.Call, Reply.Reply}, Layers.BufferLaw.BufferPlan}}
use Rattle.layer_traits.{specs.{Layers.BufferLaw.{Buffering, fifo_plan}, Polling.LayerPolls.{IsBegunAt, PolledAt, PolledOnAt}}, proofs.PollRunLemmas.run_kept}
use Rattle.layer_traits.proofs.PollRunLemmas.{run_left, may_poll, nothing_yet, quiet_yet, one_more, more_looks, quiet_after_looks, quiet_after_poll}
use Rattle.fifo_buffer.proofs.fifo.FifoCallLayerBufferLaw.poll_on.{Given.Over, Invariants.tells, Goals.{After-looks, After-poll_kind-reply, Else-is_some-had}}
use Rattle.fifo_buffer.proofs.fifo.FifoCallLayerBufferLaw.poll_on.Goals as goal

abbrev plan : ℕ → List CpuId → CpuId → Tid → Call → Buffering → BufferPlan Reply
plan buffers = fifo_plan

pub loop-actions-init : goal.loop-actions-init
loop-actions-init g c = record { few = c.requires.some; so_far = nothing_yet }

-- while the call is quiet it may be polled
pub poll_kind-reply-requires : goal.poll_kind-reply-requires
poll_kind-reply-requires g c =
    let few = c.loop-actions.invariant.few in
    let wide = c.requires.room in
    let left = run_left _ _ _ _ _ _ _ _ _ c.loop-actions.invariant.so_far in
    let may = may_poll _ _ _ _ _ _ _ _ _ c.loop-actions.invariant.so_far (record {
      coupled = c.requires.coupled;
      runs = c.requires.runs;
      hand = c.requires.hand;
      same = c.requires.same;
      goes_on = c.requires.goes_on;
    }) in
    record {
      coupled = may.coupled;
      there = rw left.1 c.requires.there;
      room = (let kept = left.0 in omega (arith, few, wide, kept));
      runs = may.runs;
      hand = may.hand;
      same = may.same;
      goes_on = may.goes_on;
    }

-- a poll
module _ (g : Over) (c : After-poll_kind-reply g) where
  polled : PolledAt (tells g) plan c.args.t c.args.call.now c.loop-actions.self c.loop-actions.m c.poll_kind-reply.new.self c.poll_kind-reply.new.m
      c.poll_kind-reply.result
  polled = c.poll_kind-reply.ensures

  ran : PolledOnAt (tells g) plan c.args.t c.args.call.now c.args.self.now c.args.m.now (c.loop-actions.actions + 1) c.poll_kind-reply.new.self
      c.poll_kind-reply.new.m c.poll_kind-reply.result
  ran = one_more _ _ _ _ _ _ _ _ _ _ _ _ c.loop-actions.invariant.so_far polled

pub returns-then-actions-most-clause-polled_on : goal.returns-then-actions-most-clause-polled_on
returns-then-actions-most-clause-polled_on g c = ran g (goal.at.returns-then-actions-most-clause-polled_on g c).After-poll_kind-reply

pub returns-then-is_some-had-clause-polled_on : goal.returns-then-is_some-had-clause-polled_on
returns-then-is_some-had-clause-polled_on g c = ran g (goal.at.returns-then-is_some-had-clause-polled_on g c).After-poll_kind-reply

pub looks-requires-clause-room : goal.looks-requires-clause-room
looks-requires-clause-room g c =
    let wide = c.requires.room in
    let kept = (run_kept (tells g) plan _ _ _ _ _ _ _ _ (ran g (goal.at.looks-requires-clause-room g c).After-poll_kind-reply)).room in
    omega (arith, wide, kept)

none_of : {A : Type 0} (o : Option A) → is_some o ≡ false → o ≡ None
none_of o is = grind arith

some_of : {A : Type 0} (o : Option A) → is_some o ≡ true → o ≢ None
some_of o is = grind arith

same_bool : (a b : Bool) → not (beq a b) ≡ false → a ≡ b
same_bool a b is = grind arith

-- a poll after which the loop continues
module _ (g : Over) (c : Else-is_some-had g) (polled : PolledAt (tells g) plan c.args.t c.args.call.now c.loop-actions.self c.loop-actions.m
    c.poll_kind-reply.new.self c.poll_kind-reply.new.m c.poll_kind-reply.result) where
  polled_on : PolledAt (tells g) plan c.args.t c.args.call.now c.loop-actions.self c.loop-actions.m c.poll_kind-reply.new.self c.poll_kind-reply.new.m None
  polled_on = rw (none_of c.poll_kind-reply.result (sym c.is_some.ensures ∙ c.if-is_some.false)) at polled

  ran_on : PolledOnAt (tells g) plan c.args.t c.args.call.now c.args.self.now c.args.m.now (c.loop-actions.actions + 1) c.poll_kind-reply.new.self
      c.poll_kind-reply.new.m None
  ran_on = one_more _ _ _ _ _ _ _ _ _ _ _ _ c.loop-actions.invariant.so_far polled_on

  quiet : IsBegunAt (tells g) plan c.args.t c.args.call.now c.args.self.now c.poll_kind-reply.new.self
  quiet = quiet_after_poll _ _ _ _ _ _ _ _ _ _ _ c.loop-actions.invariant.so_far polled_on
      (λ none. some_of c.current.result c.if-is_none.ensures (c.current.ensures ∙ none)) (ap is_some (sym c.effect_here.ensures) ∙ sym
      c.is_some-in-loop-actions.ensures ∙ same_bool c.is_some-in-loop-actions.result c.has_taken-had.result c.if-is_some-had.false ∙ c.has_taken-had.ensures)

-- and with the polls of a lock after it
ran_looking : (g : Over) (c : After-looks g) → PolledOnAt (tells g) plan c.args.t c.args.call.now c.args.self.now c.args.m.now c.looks.new.taken
    c.looks.new.self c.looks.new.m None
ran_looking g c =
    let at = goal.at-After-looks g c in
    let polled = polled g at.After-poll_kind-reply in
    more_looks (tells g) plan _ _ (ran_on g at.Else-is_some-had polled) (quiet g at.Else-is_some-had polled) c.looks.ensures.looked_on

pub returns-then-looks-clause-polled_on : goal.returns-then-looks-clause-polled_on
returns-then-looks-clause-polled_on g c = ran_looking g (goal.at.returns-then-looks-clause-polled_on g c).After-looks

pub loop-actions-preserved : goal.loop-actions-preserved
loop-actions-preserved g c =
    let at = goal.at.loop-actions-preserved g c in
    record {
      few = (c.looks.ensures.goes_on c.if-looks.false).0;
      so_far = quiet_yet (omega arith) (ran_looking g at.After-looks)
          (quiet_after_looks (tells g) plan _ _ (quiet g at.Else-is_some-had (polled g at.After-poll_kind-reply)) c.looks.ensures.looked_on);
    }
