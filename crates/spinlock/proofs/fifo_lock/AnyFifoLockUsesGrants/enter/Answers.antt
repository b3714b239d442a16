use Rattle.std.proofs.Common.{◌+◌, ◌%◌, ◌^◌, ◌==◌, refl}
use Rattle.{event_log.proofs.GrantWords.phase_grants, layer_traits.specs.Protocols.WordsProtocol.edit_of, spinlock.proofs.LineLemmas.{grant_adds, line_enters}}
use Rattle.spinlock.proofs.LineLemmas.{waits_by_grant}
use Rattle.spinlock.proofs.fifo_lock.AnyFifoLockUsesGrants.enter.Goals as goal

pub peek-requires-clause-waiting : goal.peek-requires-clause-waiting
peek-requires-clause-waiting g c =
    let m = c.args.self.now in
    waits_by_grant (g.W.Edit.SplitEdit.protocol.allowed (g.W.GrantWords.opening m)) (g.W.GrantWords.history m)
    (g.met.W.GrantWords.legal m c.args.cpu c.requires.cpu)
    c.args.cpu c.args.lock c.args.ticket c.requires.waits c.requires.ticket

pub returns-clause-adds : goal.returns-clause-adds
returns-clause-adds g c = (c.peek.ensures.adds.0 == (c.args.ticket + 1) % 2 ^ 64, grant_adds c.peek.ensures.adds.1)

pub returns-clause-hits : goal.returns-clause-hits
returns-clause-hits g c =
    line_enters _ c.args.cpu _ c.args.lock c.args.ticket (phase_grants edit_of c.args.cpu (g.W.GrantWords.history c.peek.new.self)) _ _ refl
    c.peek.result c.peek.ensures.hits
