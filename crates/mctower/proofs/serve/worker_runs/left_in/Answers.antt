use Rattle.std.proofs.{Common.{◌∷◌, [], length, map, sym, ap, ◌∙◌, arith}, lemmas.List.length-map}
use Rattle.{layer_traits.proofs.PlanRenaming.map-append, cpu.specs.Claims.{buffer_at}}
use Rattle.{cpu.proofs.ListFacts.ListReads.listed_length, cpu_workers.specs.Seating.items_of_block, mctower.proofs.ReadingLemmas.listed_next}
use Rattle.mctower.proofs.serve.worker_runs.left_in.Goals as goal

pub push-requires : goal.push-requires
push-requires c =
    let many = sym (length-map c.loop-buffer.left.items (λ v. v.items)) ∙ ap length c.loop-buffer.invariant
    ∙ listed_length (λ n. items_of_block c.args.report.now.blocks.items (buffer_at n)) c.loop-buffer.buffer 0 in
    omega (arith, many, c.loop-buffer-test.true, c.requires)

pub loop-buffer-preserved : goal.loop-buffer-preserved
loop-buffer-preserved c =
    ap (map (λ v. v.items)) c.push.ensures.items ∙ map-append (λ v. v.items) c.loop-buffer.left.items (c.items.result ∷ [])
    ∙ listed_next (λ n. items_of_block c.args.report.now.blocks.items (buffer_at n)) _ _ c.loop-buffer.buffer c.loop-buffer.invariant c.items.ensures
