use Rattle.std.proofs.Common.{◌+◌, ◌%◌, ◌^◌, ◌==◌, if◌then◌else◌, refl, ap}
use Rattle.event_log.specs.{declared.grants.GrantEvent.TheVariants.Peek, Grants.{act_of_grant, grant_lock_phase}, WordsLog.{Holding, Waiting}}
use Rattle.{event_log.proofs.Same.same_cpu_self, layer_traits.specs.Protocols.WordsProtocol.edit_of, spinlock.proofs.LineLemmas.waits_by_grant}
use Rattle.spinlock.proofs.MissLemmas.{all_missed}
use Rattle.spinlock.proofs.fifo_lock.AnyFifoLockUsesGrants.spin.Goals as goal

pub spin-requires-clause-waiting : goal.spin-requires-clause-waiting
spin-requires-clause-waiting g c =
    let m = c.args.self.now in
    waits_by_grant (g.W.Edit.SplitEdit.protocol.allowed (g.W.GrantWords.opening m)) (g.W.GrantWords.history m)
    (g.met.W.GrantWords.legal m c.args.cpu c.requires.cpu)
    c.args.cpu c.args.lock c.args.ticket c.requires.waits c.requires.ticket

pub returns-clause-misses : goal.returns-clause-misses
returns-clause-misses g c =
    let hit = c.spin.ensures.adds.0 == (c.args.ticket + 1) % 2 ^ 64 in
    all_missed (act_of_grant edit_of) (grant_lock_phase c.args.cpu) (Peek c.args.cpu c.args.lock c.args.ticket c.spin.ensures.adds.0) c.args.cpu c.args.lock
    c.args.ticket hit refl (λ log. ap (λ b. if b then (if hit then Holding c.args.lock c.args.ticket else Waiting c.args.lock c.args.ticket)
    else grant_lock_phase c.args.cpu log) (same_cpu_self c.args.cpu)) c.spin.result _ _ c.spin.ensures.adds.1 c.spin.ensures.waits c.requires.waits
