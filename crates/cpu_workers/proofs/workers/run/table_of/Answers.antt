use Rattle.std.proofs.Common.{◌<◌, ℕ, sym, ap, ◌∙◌, subst}
use Rattle.{event_log.specs.declared.ids.CpuId.CpuId, layer_traits.specs.{Blocks.BufferEffects.opening_locks, Protocols.OneLock.{AreDistinct, opened}}}
use Rattle.{layer_traits.specs.Views.Openings.AreOpenable, cpu.proofs.WholeSystems.PlanGuests.are_openable, cpu_workers.specs.Seating.OpensPlan}
use Rattle.cpu_workers.proofs.SeatViews.{ok_with}
use Rattle.cpu_workers.proofs.workers.run.table_of.Goals as goal

pub tower_blocks-requires : goal.tower_blocks-requires
tower_blocks-requires g c =
    let plan = c.args.boot.now in
    let caps = c.as_slice.ensures.value ∙ c.caps-caps.ensures.caps in
    let homes = c.as_slice-2.ensures.value ∙ c.homes_of-homes.ensures in
    rw (c.cpus.ensures.cpus, caps, homes) (are_openable plan c.caps-caps.ensures.within)

pub returns-clause-distinct : goal.returns-clause-distinct
returns-clause-distinct g c =
    ok_with (λ r. r.0.start) AreDistinct c.open.result c.in_ok-blocks.blocks.items c.open.ensures.start c.in_ok-blocks.ensures.distinct

pub returns-clause-opens : goal.returns-clause-opens
returns-clause-opens g c =
    let e = c.in_ok-blocks.ensures in
    ok_with (λ r. r.0.start) (λ start. OpensPlan c.args.boot.now (opened start)) c.open.result c.in_ok-blocks.blocks.items c.open.ensures.start
    (record {
      starts = e.starts;
      homes = e.homes ∙ (c.as_slice-2.ensures.value ∙ c.homes_of-homes.ensures);
      queues = λ d below. e.queues d (subst (λ (n : ℕ). d.0 < n) (sym c.cpus.ensures.cpus) below);
      locks = e.locks ∙ ap opening_locks (c.as_slice.ensures.value ∙ c.caps-caps.ensures.caps);
    })
