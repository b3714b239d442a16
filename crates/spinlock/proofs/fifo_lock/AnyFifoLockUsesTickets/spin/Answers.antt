use Rattle.std.proofs.Common.{◌==◌, refl}
use Rattle.{event_log.specs.{declared.events.Event.TheVariants.Look, Actions.act_of, WordsLog.lock_phase}, layer_traits.proofs.OneLockLemmas.lock_phase_own}
use Rattle.{layer_traits.specs.Protocols.WordsProtocol.edit_of, spinlock.proofs.{LineLemmas.waits_by_ticket, MissLemmas.all_missed}}
use Rattle.spinlock.proofs.fifo_lock.AnyFifoLockUsesTickets.spin.Goals as goal

pub spin-requires-clause-waiting : goal.spin-requires-clause-waiting
spin-requires-clause-waiting g c =
    let m = c.args.self.now in
    waits_by_ticket (g.W.Edit.SplitEdit.protocol.allowed (g.W.Words.opening m)) (g.W.Words.history m) (g.met.W.Words.legal m c.args.cpu c.requires.cpu)
    c.args.cpu c.args.lock c.args.ticket c.requires.waits c.requires.ticket

pub returns-clause-misses : goal.returns-clause-misses
returns-clause-misses g c =
    let look = Look c.args.cpu c.args.lock c.args.ticket c.spin.ensures.adds.0 in
    all_missed (act_of edit_of) (lock_phase c.args.cpu) look c.args.cpu c.args.lock c.args.ticket (c.spin.ensures.adds.0 == c.args.ticket) refl
    (lock_phase_own look) c.spin.result _ _ c.spin.ensures.adds.1 c.spin.ensures.waits c.requires.waits
