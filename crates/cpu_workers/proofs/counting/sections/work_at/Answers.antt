use Rattle.std.proofs.Common.{◌≡◌, ◌+◌, IsSome, add_assoc, ap, subst, sym, ◌∙◌}
use Rattle.cpu_workers.specs.{declared.counting.TheConstants.NUMBER, Counts.made}
use Rattle.cpu_workers.proofs.counting.sections.work_at.Goals as goal

pub add_one-requires-clause-lock : goal.add_one-requires-clause-lock
add_one-requires-clause-lock g c = subst (λ (o : _ → _). IsSome (o NUMBER)) (sym c.loop.invariant.opening) c.requires.lock

pub loop-preserved : goal.loop-preserved
loop-preserved g c =
    let L = g.L.Layer in
    let known = c.loop.invariant in
    record {
      coupled = c.add_one.ensures.coupled;
      cpu = c.add_one.ensures.cpu ∙ known.cpu;
      rests = c.add_one.ensures.rests;
      acts = c.add_one.ensures.acts c.args.cpu known.acts;
      outside = subst (λ cpu. L.IsOutside c.add_one.new.machine cpu) known.cpu c.add_one.ensures.outside;
      opening = c.add_one.ensures.opening ∙ known.opening;
      machine_id = c.add_one.ensures.machine_id ∙ known.machine_id;
      made = subst (λ cpu. made cpu NUMBER (L.history c.add_one.new.machine) ≡ made cpu NUMBER (L.history c.loop.seat) + 1) known.cpu c.add_one.ensures.made
          ∙ (ap (λ n. n + 1) known.made ∙ add_assoc (made c.args.cpu NUMBER (L.history c.args.seat.now)) c.loop.counter 1);
    }
