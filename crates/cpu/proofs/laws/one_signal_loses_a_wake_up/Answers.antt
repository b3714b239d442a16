use Rattle.std.proofs.Common.{[], ◌∷◌, refl}
use Rattle.{event_log.specs.declared.entries.Kind.TheVariants.Recv as RecvKind, cpu.specs.Table.Worked.thread}
use Rattle.cpu.proofs.laws.one_signal_loses_a_wake_up.Goals as goal
use Rattle.layer_traits.specs.declared.locked.Side.{TheVariants.{Receivers}}

pub returns : goal.returns
returns c = (_, refl, λ kept. kept.on Receivers refl (thread 1) (8 ∷ []) refl refl RecvKind refl refl)
