use Rattle.std.proofs.Common.{ap, sym, subst, subst₂, ◌∙◌}
use Rattle.layer_traits.specs.{Threads.Places.{Stands, at_boot}, Layers.Queues.{kernel, moves_in}, Blocks.QueueBlocks.homes_in}
use Rattle.{layer_traits.proofs.PlaceLemmas.stands_boot, scheduler.specs.Parts.UnderFits}
use Rattle.scheduler.proofs.sched.SchedLayerSchedLaw.part.Goals as goal

pub returns-clause-coupled : goal.returns-clause-coupled
returns-clause-coupled g c = λ m acts outside boots.
    let Q = g.Q.Layer in
    let mv = g.E.Moves.moves in
    let H = homes_in (Q.opening m) in
    let K = kernel g.E.SplitEdit.protocol mv (Q.opening m) in (
      c.part.ensures.coupled m acts outside tt,
      record {
        cpu = c.part.ensures.cpu;
        homes = boots.1 ∙ sym c.kept_homes.ensures;
        queue = boots.2;
        stands =
            subst₂ (λ local past. Stands H c.args.cpu (moves_in K past) local) (sym (c.threads_at_boot.ensures ∙ ap (λ h. at_boot h c.args.cpu) (sym boots.1)))
            (sym boots.0) (stands_boot H c.args.cpu);
        calls = subst (λ o. UnderFits mv H c.args.cpu o c.threads_at_boot.result) (sym c.part.ensures.call) tt;
      },
    )
