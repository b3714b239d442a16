use Rattle.std.proofs.Common.{length, ap, ◌∙◌, arith}
use Rattle.{cpu.{specs.Systems.halted_in, proofs.ListFacts.ListReads.listed_length}, mctower.proofs.ReadingLemmas.listed_next}
use Rattle.mctower.proofs.run.system_states.halted_of.Goals as goal

pub push-requires : goal.push-requires
push-requires g c =
    let many = ap length c.loop-cpu.invariant ∙ listed_length (λ n. halted_in (record { 0 = n }) c.args.system.now) c.loop-cpu.cpu 0 in
    omega (arith, many, c.loop-cpu-test.true, c.requires.few)

pub loop-cpu-preserved : goal.loop-cpu-preserved
loop-cpu-preserved g c =
    c.push.ensures.items
    ∙ listed_next (λ n. halted_in (record { 0 = n }) c.args.system.now) _ _ c.loop-cpu.cpu c.loop-cpu.invariant c.halted.ensures.is
