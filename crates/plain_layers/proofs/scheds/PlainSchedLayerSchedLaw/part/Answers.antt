use Rattle.std.proofs.Common.{ap, refl, sym, subst₂, ◌∙◌}
use Rattle.layer_traits.specs.{Threads.Places.{Stands, at_boot}, Layers.Queues.{kernel, moves_in}, Blocks.QueueBlocks.homes_in}
use Rattle.{layer_traits.proofs.PlaceLemmas.stands_boot, plain_layers.specs.Kernels.opening_of}
use Rattle.plain_layers.proofs.scheds.PlainSchedLayerSchedLaw.part.Goals as goal

pub returns-clause-coupled : goal.returns-clause-coupled
returns-clause-coupled g c = λ m acts outside boots.
    let H = homes_in (opening_of m.opening) in
    let K = kernel g.E.SplitEdit.protocol g.E.Moves.moves (opening_of m.opening) in (
      acts.0,
      acts.1,
      record {
        cpu = refl;
        homes = boots.1 ∙ sym c.kept_homes.ensures;
        queue = boots.2;
        stands =
            subst₂ (λ local past. Stands H c.args.cpu (moves_in K past) local) (sym (c.threads_at_boot.ensures ∙ ap (λ h. at_boot h c.args.cpu) (sym boots.1)))
            (sym boots.0) (stands_boot H c.args.cpu);
        calls = tt;
      },
    )
