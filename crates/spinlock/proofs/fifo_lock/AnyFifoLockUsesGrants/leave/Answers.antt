use Rattle.std.proofs.Common.{sym, ◌∙◌}
use Rattle.{event_log.{specs.Grants.grant_lock_phase, proofs.GrantWords.phase_grants}, layer_traits.specs.Protocols.WordsProtocol.edit_of}
use Rattle.spinlock.{specs.Laws.LineLaws.inside_of, proofs.LineLemmas.grant_adds}
use Rattle.spinlock.proofs.fifo_lock.AnyFifoLockUsesGrants.leave.Goals as goal

pub give-requires-clause-inside : goal.give-requires-clause-inside
give-requires-clause-inside g c =
    let log = g.W.GrantWords.history c.args.self.now in
    inside_of (grant_lock_phase c.args.cpu log) c.args.lock (sym (phase_grants edit_of c.args.cpu log) ∙ c.requires.holds)

pub returns-clause-adds : goal.returns-clause-adds
returns-clause-adds g c = grant_adds c.give.ensures.adds
