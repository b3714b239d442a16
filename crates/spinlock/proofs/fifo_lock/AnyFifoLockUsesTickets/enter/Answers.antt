use Rattle.std.proofs.Common.{◌==◌, ap, sym}
use Rattle.{event_log.{specs.Sections.block_after, proofs.Tickets.phase_acts}, layer_traits.proofs.PlanLemmas.sections_acts}
use Rattle.{layer_traits.specs.Protocols.WordsProtocol.edit_of, spinlock.proofs.LineLemmas.{event_adds, line_enters, waits_by_ticket}}
use Rattle.spinlock.proofs.fifo_lock.AnyFifoLockUsesTickets.enter.Goals as goal

pub look-requires-clause-waiting : goal.look-requires-clause-waiting
look-requires-clause-waiting g c =
    let m = c.args.self.now in
    waits_by_ticket (g.W.Edit.SplitEdit.protocol.allowed (g.W.Words.opening m)) (g.W.Words.history m) (g.met.W.Words.legal m c.args.cpu c.requires.cpu)
    c.args.cpu c.args.lock c.args.ticket c.requires.waits c.requires.ticket

pub returns-clause-adds : goal.returns-clause-adds
returns-clause-adds g c = (c.look.ensures.adds.0 == c.args.ticket, event_adds c.look.ensures.adds.1)

pub returns-clause-hits : goal.returns-clause-hits
returns-clause-hits g c =
    let n = c.look.new.self in
    let log = g.W.Words.history n in
    line_enters _ c.args.cpu _ c.args.lock c.args.ticket (phase_acts edit_of c.args.cpu log) _ _
    (ap (block_after g.W.Edit.SplitEdit.protocol.edited (g.W.Words.opening n) c.args.lock) (sym (sections_acts log))) c.look.result c.look.ensures.hits
