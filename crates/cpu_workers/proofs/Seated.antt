-- A CPU that was made with its guests is one before its first step, over a machine in which nothing
-- was done.
use Rattle.std.{proofs.Common.{◌≡◌, ℕ, ◌≤◌, List, [], length, Option, None, ap, sym, ◌∙◌, subst}, specs.Prelude.{IfOk, Result, Ok, Err}}
use Rattle.{boot.specs.Plan.{BootPlan, IsPlan, Task}, event_log.specs.declared.{entries.Entry.Entry, ids.{CpuId.CpuId, LockId.LockId, TheConstants.THREADS}}}
use Rattle.{event_log.specs.Actions.Action, layer_traits.specs.Layers.{BufferLaw.{Buffering, UnderWay, buffering_at_start}, IpcLaw.OpensSo}}
use Rattle.{layer_traits.specs.Views.OwnParts.threads_in, cpu.specs.{declared.guests.Guest.Guest, Boots.{AreGuests, IsBooted, guests_for, homes_for}}}
use Rattle.cpu.specs.{Cpus.{IsCpu, guest_at, programs_of}, Sound.setup_for, Table.Setups.{SystemConfig, CpuLocal, boot_of, program_or}, Tables.IsTabled}
use Rattle.cpu.{specs.{Tables.cpu_local, Tower.Views.{TowerBlock, TowerName}}, proofs.WholeSystems.{InvariantAtBoot.cpu_boots, PlanGuests.by_task}}
use Rattle.cpu.proofs.{WholeSystems.SystemsAtBoot.cpu_local_boots, ListFacts.{ListReads.shows_at, GuestLists.guest_with}, StepTable.TableCalls.boots_tabled}
use Rattle.cpu_workers.specs.{declared.workers.{gates.Go.Go, turns.Did.Did}, Reports.HasRun, Seating.{HasLeft, IsApart, IsAtBoot}, Working.{Charge, IsPlanned}}
use Rattle.cpu_workers.specs.Working.{Working}

module _ {homes : List CpuId} {buffers : ℕ} {number : CpuId} {guests : List (Option Guest)} {most : ℕ} {its : CpuId} {table : List (Option Guest)}
    {trace : List Entry} {limit capacity : ℕ} (are : AreGuests homes buffers number guests)
    (made : IsBooted number guests most its table trace limit capacity) where
  pub boots_over : {its_homes : List CpuId} {count : ℕ} {history : List Entry} {local : Buffering} {under_way : Option UnderWay}
      → length homes ≤ THREADS → its_homes ≡ homes → count ≡ buffers → history ≡ [] → local ≡ buffering_at_start homes number
      → under_way ≡ None → IsCpu its_homes count history (threads_in local) local.call_states under_way its table trace limit capacity
  boots_over few same counted none own_is nothing =
      rw (same, counted, none, own_is, nothing, made.number_is, made.guests_are, made.nothing, made.limit_is)
      (cpu_boots homes buffers number guests most capacity are few made.reserved)

  pub tabled_over : {its_homes : List CpuId} {caps : List ℕ} {local : Buffering} {under_way : Option UnderWay} {opening : LockId → Option TowerBlock}
      → its_homes ≡ homes → local ≡ buffering_at_start homes number → under_way ≡ None → OpensSo caps homes number opening
      → IsTabled its_homes caps its local under_way table opening
  tabled_over {caps = caps} {opening = opening} same own_is nothing opens =
      rw (same, own_is, nothing, made.number_is, made.guests_are) (boots_tabled homes caps number guests buffers opening are opens)

  pub cpu_local_over : {local : Buffering} {p : CpuLocal} → p ≡ cpu_local local table trace → local ≡ buffering_at_start homes number → (setup : SystemConfig)
      → setup.homes ≡ homes → p ≡ boot_of setup number
  cpu_local_over is own_is setup same =
      is ∙ (λ i. cpu_local (own_is i) (made.guests_are i) (made.nothing i)) ∙ cpu_local_boots setup homes buffers number guests same are

-- The workers of a plan.

-- the plan of a CPU's worker is that of the step table's setup
pub planned_by : (plan : BootPlan) → IsPlan plan → (c : ℕ) (homes : List CpuId) (caps : List ℕ) (guests : List (Option Guest)) (limit : ℕ)
    → homes ≡ homes_for plan → caps ≡ plan.caps → guests ≡ guests_for plan c → limit ≡ plan.trace
    → IsPlanned (setup_for plan) (record { homes = homes; caps = caps; programs = programs_of guests; limit = limit })
planned_by plan is c homes caps guests limit homes_are caps_are guests_are limit_is = record {
  homes_are = sym homes_are;
  caps_are = sym caps_are;
  room_is = sym limit_is;
  programs_are = λ t program at.
      let back = guest_with guests t.0 program at in
      let of = by_task plan.cpus (length plan.caps) plan.tasks is.tasks.each c t.0 back.0
      (ap (λ (l : List (Option Guest)). guest_at l t.0) (sym guests_are) ∙ back.1) in
      ap program_or (shows_at (λ (task : Task). task.program) plan.tasks t.0 of.task of.there) ∙ ap (λ (x : Guest). x.program) of.is ∙ back.2;
}

-- the worker that was made is that of its CPU before its first turn
pub at_boot_if : {E : Type 0} (plan : BootPlan) (number : CpuId) (homes : List CpuId) (charge : Charge) (acts : List (Action TowerName)) (r : Result Working E)
    → IsPlanned (setup_for plan) charge → homes ≡ homes_for plan → acts ≡ [] → IfOk r (λ w. w.cpu ≡ number) → IfOk r (λ w. w.plan ≡ charge)
    → IfOk r (λ w. (setup : SystemConfig) → setup.homes ≡ homes → w.cpu_local ≡ boot_of setup number) → IfOk r (λ w. w.acts ≡ acts)
    → IfOk r (IsAtBoot plan number)
at_boot_if plan number homes charge acts (Ok w) planned homes_are none cpu plan_is boots acts_are = record {
  cpu_is = cpu;
  planned = subst (λ (p : Charge). IsPlanned (setup_for plan) p) (sym plan_is) planned;
  boots = boots (setup_for plan) (sym homes_are);
  fresh = acts_are ∙ none;
}
at_boot_if plan number homes charge acts (Err e) planned homes_are none cpu plan_is boots acts_are = tt

-- a worker that ran from boot leaves this
pub left_so : {plan : BootPlan} {May : CpuId → Go → ℕ → Type 0} {turns : ℕ} {c : CpuId} {first last : Working} {acts : List (Action TowerName)}
    {machine_id : List ℕ}
    {trace : List Entry} {did its : Did} → IsAtBoot plan c first → HasRun May turns first last did.taken did.stop → IsApart last acts machine_id trace
    → its ≡ did
    → HasLeft plan May turns c acts machine_id trace its.taken its.stop
left_so {May = May} {turns} {first = first} {last} boot ran apart same = record {
  first = first;
  last = last;
  at_boot = boot;
  ran = subst (λ (d : Did). HasRun May turns first last d.taken d.stop) (sym same) ran;
  apart = apart;
}
