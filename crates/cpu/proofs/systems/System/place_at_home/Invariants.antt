use Rattle.cpu.proofs.systems.System.place_at_home.Given as goal

abbrev pub invariant-loop-at : goal.invariant-loop-at
invariant-loop-at g l = Unit {0}
