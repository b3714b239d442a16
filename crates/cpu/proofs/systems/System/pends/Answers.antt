use Rattle.cpu.proofs.WholeSystems.NobodyPending.{pending_is, place_pends}
use Rattle.cpu.proofs.systems.System.pends.Goals as goal

pub returns-in_default : goal.returns-in_default
returns-in_default g c = (
  (λ is. absurd (cc is)),
  (λ pends.
      let there = pending_is c.place.result (place_pends c.args.self.now c.args.thread c.place.result c.holds.ensures.agree c.place.ensures pends.0 pends.1) in
      absurd (c.in_default.not-Pending there.0 there.1)),
)
