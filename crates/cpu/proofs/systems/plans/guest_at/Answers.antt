use Rattle.std.proofs.Common.{arith, ◌∙◌}
use Rattle.cpu.proofs.WholeSystems.PlanGuests.{guest_away, guest_home}
use Rattle.cpu.proofs.systems.plans.guest_at.Goals as goal

pub returns-then-home-number : goal.returns-then-home-number
returns-then-home-number c =
    guest_away c.args.boot.now c.args.number.0 c.args.thread.0 c.requires (λ same. c.if-home-number.true (c.home-home.ensures.home ∙ same))

pub returns : goal.returns
returns c = grind (arith, guest_home)
