use Rattle.std.proofs.Common.{◌<◌, length, ◌∙◌, arith}
use Rattle.cpu.proofs.WholeSystems.PlanGuests.{homes_more}
use Rattle.cpu.proofs.systems.plans.homes_of.Goals as goal

pub loop-t-preserved : goal.loop-t-preserved
loop-t-preserved c =
    let within : c.loop-t.t < length c.args.boot.now.tasks =
    let test = c.loop-t-test.true in let count = c.threads-t-end.ensures.threads in omega (arith, test, count) in
    c.push.ensures.items ∙ homes_more c.args.boot.now c.loop-t.t c.home.result c.loop-t.homes.items within c.home.ensures.home c.loop-t.invariant
