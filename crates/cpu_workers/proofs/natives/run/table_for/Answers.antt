use Rattle.{layer_traits.specs.Protocols.OneLock.opened, cpu_workers.{specs.Natives.OpensWith, proofs.SeatViews.ok_with}}
use Rattle.cpu_workers.proofs.natives.run.table_for.Goals as goal

pub returns-clause-opens : goal.returns-clause-opens
returns-clause-opens g c =
    let e = c.in_ok-blocks.ensures in
    ok_with (λ r. r.0.start) (λ start. OpensWith c.args.cpus c.args.caps.now c.args.homes.now (opened start)) c.open.result c.in_ok-blocks.blocks.items
    c.open.ensures.start (record { starts = e.starts; homes_are = e.homes; queues = e.queues; locks = e.locks })
