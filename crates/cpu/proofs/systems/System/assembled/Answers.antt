use Rattle.{std.proofs.Common.arith, cpu.proofs.{ListFacts.ListReads.map_twice, WholeSystems.{InvariantAtBoot.system_sounds, SystemsAtBoot.starts_reached}}}
use Rattle.cpu.proofs.systems.System.assembled.Goals as goal

pub invariant_of-system : goal.invariant_of-system
invariant_of-system g c =
    system_sounds _ _ _ _ g.I.CallLayer.IsStepwise _ _ _ _ _ _ _ _ _ (λ sound. (sound.0, λ step. starts_reached _ (sound.1 step))) c.requires

pub returns-clause-guests : goal.returns-clause-guests
returns-clause-guests g c =
    let I = g.I.CallLayer in
    grind (arith, map_twice, I)

pub returns-clause-limits : goal.returns-clause-limits
returns-clause-limits g c =
    let I = g.I.CallLayer in
    grind (arith, map_twice, I)
