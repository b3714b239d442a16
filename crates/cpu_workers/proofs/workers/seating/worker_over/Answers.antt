use Rattle.std.proofs.Common.{length, ap, sym, ◌∙◌}
use Rattle.{event_log.specs.declared.ids.CpuId.CpuId, cpu.specs.{declared.guests.Guest.Guest, Boots.{homes_for}}}
use Rattle.{cpu.proofs.WholeSystems.PlanGuests.are_guests, cpu_workers.proofs.Seated.{at_boot_if, planned_by}}
use Rattle.cpu_workers.proofs.workers.seating.worker_over.Goals as goal

-- nothing was done in the machine
pub at_boot-requires-clause-fresh : goal.at_boot-requires-clause-fresh
at_boot-requires-clause-fresh g c =
    rw (c.as_slice.ensures.value ∙ c.homes_of-homes.ensures) c.requires.unused.fresh

pub at_boot-requires-clause-homes : goal.at_boot-requires-clause-homes
at_boot-requires-clause-homes g c = c.requires.unused.homes ∙ sym (c.as_slice.ensures.value ∙ c.homes_of-homes.ensures)

pub at_boot-requires-clause-buffers : goal.at_boot-requires-clause-buffers
at_boot-requires-clause-buffers g c = ap length c.requires.unused.caps ∙ sym (c.len-buffers.ensures.value ∙ ap length c.caps.ensures.caps)

pub at_boot-requires-clause-guests : goal.at_boot-requires-clause-guests
at_boot-requires-clause-guests g c =
    let plan = c.args.boot.now in
    let homes = c.as_slice.ensures.value ∙ c.homes_of-homes.ensures in
    let count = c.len-buffers.ensures.value ∙ ap length c.caps.ensures.caps in
    rw (homes, count, c.in_ok-guests.ensures) (are_guests plan.cpus (length plan.caps) plan.tasks c.caps.ensures.within.tasks.each c.args.number.0)

pub at_boot-requires-clause-history : goal.at_boot-requires-clause-history
at_boot-requires-clause-history g c = c.requires.unused.unseen

pub at_boot-requires-clause-opens : goal.at_boot-requires-clause-opens
at_boot-requires-clause-opens g c = c.requires.unused.opens

pub returns-clause-at_boot : goal.returns-clause-at_boot
returns-clause-at_boot g c =
    let plan = c.args.boot.now in
    let unused = c.requires.unused in
    let e = c.at_boot.ensures in
    at_boot_if plan c.args.number c.as_slice.result.now _ (g.I.CallLayer.acts c.args.machine) c.at_boot.result
    (planned_by plan c.caps.ensures.within c.args.number.0 _ _ c.in_ok-guests.guests.items c.trace-limit.result unused.homes unused.caps
    c.in_ok-guests.ensures c.trace-limit.ensures.trace) (c.as_slice.ensures.value ∙ c.homes_of-homes.ensures) unused.idle e.cpu e.plan e.boots e.acts
