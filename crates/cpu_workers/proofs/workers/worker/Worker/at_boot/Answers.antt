use Rattle.cpu_workers.proofs.Seated.{boots_over, cpu_local_over, tabled_over}
use Rattle.cpu_workers.proofs.workers.worker.Worker.at_boot.Goals as goal

pub new-requires-clause-is : goal.new-requires-clause-is
new-requires-clause-is g c =
    let r = c.requires in
    let e = c.in-Ok.ensures in
    boots_over r.guests e.booted r.threads r.homes r.buffers r.history e.local e.under_way

pub new-requires-clause-tabled : goal.new-requires-clause-tabled
new-requires-clause-tabled g c =
    let r = c.requires in
    let e = c.in-Ok.ensures in
    tabled_over r.guests e.booted r.homes e.local e.under_way (g.met.I.CallLayer.opens r.stepwise c.args.machine c.args.homes.now c.args.number r.fresh)

pub returns-in-Ok-clause-boots : goal.returns-in-Ok-clause-boots
returns-in-Ok-clause-boots g c =
    let e = c.in-Ok.ensures in cpu_local_over c.requires.guests e.booted c.new.ensures.cpu_local e.local
