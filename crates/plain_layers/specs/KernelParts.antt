-- The scheduling state of a CPU's one-step scheduler, and the lists that all CPUs share.
use Rattle.std.specs.Prelude.{◌<◌, List, None}
use Rattle.event_log.specs.declared.ids.{CpuId.CpuId, TheConstants.CPUS}
use Rattle.layer_traits.specs.Threads.{MoveRules.MoveRules, Places.Threads}
use Rattle.layer_traits.specs.Protocols.Protocol.{Rules}
use Rattle.plain_layers.specs.{declared.kernel.PlainKernel.PlainKernel, Kernels.IsKernel}
use Rattle.{plain_layers.specs.Kernels.{calls_in, opening_of}, scheduler.specs.Parts.SchedPartFits}

-- the machine is sound, this is one of its CPUs, and the homes and the CPU's scheduling state agree
-- with the machine
abbrev pub HasThreads : {E B O H A : Type 0} → Rules E B O → MoveRules E O → PlainKernel E B O H A
    → CpuId → List CpuId → Threads → Type 0
HasThreads protocol mv m c homes local =
    (c.0 < CPUS) × IsKernel protocol mv m.opening (calls_in m) m.lists
    × SchedPartFits protocol mv (opening_of m.opening) c c homes None (calls_in m) local
