use Rattle.std.proofs.Common.{sym, ◌∙◌}
use Rattle.{event_log.{specs.WordsLog.lock_phase, proofs.Tickets.phase_acts}, layer_traits.proofs.PlanLemmas.sections_acts}
use Rattle.{layer_traits.specs.Protocols.WordsProtocol.edit_of, spinlock.{specs.Laws.LineLaws.inside_of, proofs.LineLemmas.event_adds}}
use Rattle.spinlock.proofs.fifo_lock.AnyFifoLockUsesTickets.leave.Goals as goal

pub free-requires-clause-inside : goal.free-requires-clause-inside
free-requires-clause-inside g c =
    let log = g.W.Words.history c.args.self.now in
    inside_of (lock_phase c.args.cpu log) c.args.lock (sym (phase_acts edit_of c.args.cpu log) ∙ c.requires.holds)

pub free-requires-clause-edited : goal.free-requires-clause-edited
free-requires-clause-edited g c = rw (sections_acts (g.W.Words.history c.args.self.now)) c.requires.edited

pub free-requires-clause-allowed : goal.free-requires-clause-allowed
free-requires-clause-allowed g c = rw (sections_acts (g.W.Words.history c.args.self.now)) c.requires.allowed

pub returns-clause-adds : goal.returns-clause-adds
returns-clause-adds g c = event_adds c.free.ensures.adds
