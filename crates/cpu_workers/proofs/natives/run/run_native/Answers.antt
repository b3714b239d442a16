use Rattle.std.proofs.Common.{◌≡◌, List, length, ap, sym, ◌∙◌, subst, arith}
use Rattle.{event_log.specs.declared.ids.CpuId.CpuId, layer_traits.specs.{Protocols.OneLock.opened, Threads.OnePlace.cpu_at, Views.Openings.AreOpenable}}
use Rattle.{table_machine.specs.SeatViews.new_seat_views, cpu.proofs.ListFacts.ListReads.listed_length, cpu_workers.specs.Natives.{HaveRun, OpensWith}}
use Rattle.cpu_workers.{specs.Natives.{left_among, own_homes}, proofs.{NativeKeys.natives_back, NativeLists.are_openable, NativeRuns.have_run}}
use Rattle.cpu_workers.proofs.TableKeys.{all_covered, all_over}
use Rattle.cpu_workers.proofs.natives.run.run_native.Goals as goal

pub table_for-requires : goal.table_for-requires
table_for-requires g c =
    let m = c.len-count.result in
    let count = c.len-count.ensures ∙ c.args.natives.ok.0 in
    let some = c.requires.some in
    let few = c.requires.few in
    subst (λ (l : List CpuId). AreOpenable m c.args.caps.now l) (sym (c.as_slice.ensures.value ∙ c.native_homes-homes.ensures))
    (are_openable m c.args.caps.now (omega (arith, count, some)) (omega (arith, count, few)) c.requires.buffers c.requires.capacities)

pub call_tickets-requires-clause-threads : goal.call_tickets-requires-clause-threads
call_tickets-requires-clause-threads g c = λ κs within.
    let count = c.len-count.ensures ∙ c.args.natives.ok.0 in
    let few = c.requires.few in
    let long = ap (λ (l : List CpuId). length l) (c.as_slice-2.ensures.value ∙ c.native_homes-homes.ensures) ∙ listed_length cpu_at c.len-count.result 0 in
    omega (arith, count, few, long)

pub call_tickets-requires-clause-keys : goal.call_tickets-requires-clause-keys
call_tickets-requires-clause-keys g c = λ κs within.
    subst (λ m. c.in_ok-open.open.1.items ≡ new_seat_views c.in_ok-open.open.0 m) (c.len-count.ensures ∙ c.args.natives.ok.0) c.in_ok-open.ensures.keys

pub call_tickets-requires-clause-opens : goal.call_tickets-requires-clause-opens
call_tickets-requires-clause-opens g c = λ κs within.
    subst (λ m. OpensWith m c.args.caps.now c.as_slice-2.result.now (opened c.in_ok-open.open.0.start)) (c.len-count.ensures ∙ c.args.natives.ok.0)
    (subst (λ (h : List CpuId). OpensWith c.len-count.result c.args.caps.now h (opened c.in_ok-open.open.0.start))
    (c.as_slice.ensures.value ∙ sym c.as_slice-2.ensures.value) c.in_ok-open.ensures.opens)

pub closed-requires-clause-covers : goal.closed-requires-clause-covers
closed-requires-clause-covers g c = all_covered (natives_back c.in_ok-back.ensures) (c.in_ok-open.ensures.cpus ∙ c.len-count.ensures ∙ c.args.natives.ok.0)

pub closed-requires-clause-keys : goal.closed-requires-clause-keys
closed-requires-clause-keys g c = all_over (natives_back c.in_ok-back.ensures)

pub returns : goal.returns
returns g c =
    let count = c.len-count.ensures ∙ c.args.natives.ok.0 in
    let table_view = c.in_ok-open.open.0 in
    let back = c.in_ok-back.back in
    let r = c.closed.result in
    let caps = c.args.caps.now in
    let opens = subst (λ m. OpensWith m caps (own_homes m) (opened table_view.start)) count
    (subst (λ (h : List CpuId). OpensWith c.len-count.result caps h (opened table_view.start)) (c.as_slice.ensures.value ∙ c.native_homes-homes.ensures)
    c.in_ok-open.ensures.opens) in
    subst (λ v. HaveRun g.N.Native.Kept caps c.args.natives.items v.items (left_among (length caps) r.blocks.items)) (sym c.closed.ensures.natives)
    (have_run g.N.Native.Kept caps c.args.natives.items back.natives.items table_view back.keys.items r.blocks.items c.requires.some c.requires.few
    c.requires.buffers (c.in_ok-open.ensures.cpus ∙ count) opens c.in_ok-back.ensures c.closed.ensures.closes)
