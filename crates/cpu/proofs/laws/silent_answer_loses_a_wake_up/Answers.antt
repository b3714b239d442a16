use Rattle.{std.proofs.Common.refl, event_log.specs.{declared.entries.Kind.TheVariants.RecvClosed, Messages.no_message}, cpu.specs.Table.Worked.thread}
use Rattle.cpu.proofs.laws.silent_answer_loses_a_wake_up.Goals as goal
use Rattle.layer_traits.specs.declared.locked.Side.{TheVariants.{Receivers}}

pub returns : goal.returns
returns c = (_, refl, λ kept. kept.on Receivers refl (thread 1) no_message refl refl RecvClosed refl (refl, refl, refl))
