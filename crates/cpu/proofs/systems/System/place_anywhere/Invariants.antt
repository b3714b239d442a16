use Rattle.std.{proofs.Common.{◌≡◌, ◌<◌, ℕ, Some}, specs.Prelude.slice_get}
use Rattle.cpu.specs.declared.cpus.Cpu.{Cpu}
use Rattle.cpu.proofs.systems.System.place_anywhere.Given as goal

abbrev pub invariant-loop-at : goal.invariant-loop-at
invariant-loop-at g l =
    (k : ℕ) (x : Cpu g.row.I.Denot g.row.I-Machine.Denot) → k < l.at-index → slice_get l.at-items k ≡ Some x → g.I.Owned.IsSilent x.part l.machine l.thread
