use Rattle.std.{proofs.{Common.{arith, ◌≡◌, ℕ, List, Option, length, map, replicate, ap, sym, ◌∙◌, subst}, lemmas.List.length-map}, specs.Prelude.IfOk}
use Rattle.{event_log.specs.declared.ids.CpuId.CpuId, cpu.specs.{declared.guests.Guest.Guest, Boots.{AreTables, guests_for, homes_for}}}
use Rattle.cpu.proofs.{ListFacts.ListReads.listed_length, WholeSystems.{PlanGuests.{are_openable, are_tables, one_each}, SystemsAtBoot.planned_if}}
use Rattle.cpu.proofs.systems.System.open.Goals as goal

pub with_tables-requires-clause-openable : goal.with_tables-requires-clause-openable
with_tables-requires-clause-openable g c =
    let plan = c.args.boot.now in
    let tables = c.in_ok-tables.tables.items in
    let so_many = sym (length-map tables (λ t. t.items)) ∙ ap (λ (l : List (List (Option Guest))). length l) c.in_ok-tables.ensures
    ∙ listed_length (guests_for plan) plan.cpus 0 in
    let caps = c.as_slice.ensures.value ∙ c.caps-caps.ensures.caps in
    let homes = c.as_slice-2.ensures.value ∙ c.homes_of-homes.ensures in
    grind (arith, so_many, caps, plan, homes, are_openable)

pub with_tables-requires-clause-tables : goal.with_tables-requires-clause-tables
with_tables-requires-clause-tables g c =
    let plan = c.args.boot.now in
    let caps = c.as_slice.ensures.value ∙ c.caps-caps.ensures.caps in
    let homes = c.as_slice-2.ensures.value ∙ c.homes_of-homes.ensures in
    subst (λ (l : List CpuId). AreTables l (length c.as_slice.result.now) (map (λ t. t.items) c.in_ok-tables.tables.items)) (sym homes)
    (subst (λ (l : List ℕ). AreTables (homes_for plan) (length l) (map (λ t. t.items) c.in_ok-tables.tables.items)) (sym caps)
    (subst (λ (l : List (List (Option Guest))). AreTables (homes_for plan) (length plan.caps) l) (sym c.in_ok-tables.ensures)
    (are_tables plan c.caps-caps.ensures.within)))

pub returns-clause-limits : goal.returns-clause-limits
returns-clause-limits g c =
    let plan = c.args.boot.now in
    let tables = c.in_ok-tables.tables.items in
    let so_many = sym (length-map tables (λ t. t.items)) ∙ ap (λ (l : List (List (Option Guest))). length l) c.in_ok-tables.ensures
    ∙ listed_length (guests_for plan) plan.cpus 0 in
    let limits = one_each c.trace.result tables plan.cpus so_many ∙ ap (λ (n : ℕ). replicate plan.cpus n) c.trace.ensures.trace in
    subst (λ (l : List ℕ). IfOk c.with_tables.result (λ s. map (λ p. p.limit) s.cpus ≡ l)) limits c.with_tables.ensures.limits

pub returns-clause-planned : goal.returns-clause-planned
returns-clause-planned g c =
    let plan = c.args.boot.now in
    let tables = c.in_ok-tables.tables.items in
    let so_many = sym (length-map tables (λ t. t.items)) ∙ ap (λ (l : List (List (Option Guest))). length l) c.in_ok-tables.ensures
    ∙ listed_length (guests_for plan) plan.cpus 0 in
    let limits = one_each c.trace.result tables plan.cpus so_many ∙ ap (λ (n : ℕ). replicate plan.cpus n) c.trace.ensures.trace in
    let e = c.with_tables.ensures in
    planned_if plan c.with_tables.result _ _ _ _ c.caps-caps.ensures.within (c.as_slice.ensures.value ∙ c.caps-caps.ensures.caps)
    (c.as_slice-2.ensures.value ∙ c.homes_of-homes.ensures) c.in_ok-tables.ensures limits e.caps e.homes e.guests e.limits
