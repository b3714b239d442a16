use Rattle.std.proofs.Common.{ap, subst, sym, ◌∙◌}
use Rattle.{layer_traits.specs.{Layers.BufferLaw.Buffering, Views.OwnParts.threads_in}, cpu_workers.{specs.Calls.MayPollBegun, proofs.Going.keeps_on}}
use Rattle.cpu_workers.proofs.workers.calling.poll_once.Goals as goal

-- a poll leaves what is under way, and the call
pub returns-then-look-clause-goes : goal.returns-then-look-clause-goes
returns-then-look-clause-goes g c =
    let e = c.look.ensures in (
      e.under_way ∙ c.requires.under_way,
      subst (λ (local : Buffering). MayPollBegun c.args.t (threads_in local) c.args.begun) (sym e.local) c.requires.may,
      keeps_on _ _ (g.met.I.CallLayer.own_cpu _ _ c.requires.coupled) c.args.t c.args.call.now e.history
          (ap (λ (local : Buffering). local.call_states) e.local),
    )

-- no poll: nothing has changed

pub returns-in-Calls-clause-goes : goal.returns-in-Calls-clause-goes
returns-in-Calls-clause-goes g c = let still = c.look.ensures.still c.if-look.false in rw (still.0, still.1) at c.poll_call.ensures.goes

pub returns-in-Passes-clause-goes : goal.returns-in-Passes-clause-goes
returns-in-Passes-clause-goes g c =
    let still = c.look.ensures.still c.if-look.false in
    let e = c.poll_pass.ensures in (e.under_way, e.may, rw (still.0, still.1) at e.on)
