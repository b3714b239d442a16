-- One list of actions of which each CPU has done its share according to the table: each of its
-- sections may occur after those before it.
use Rattle.std.proofs.{Common.{ℕ, ◌<◌, ◌≤◌, ◌⊎◌, inl, inr, List, [], ◌∷◌, ◌++◌, if◌then◌else◌, refl, sym, ap, ◌∙◌, subst, arith}, lemmas.Bool.cases_lt}
use Rattle.event_log.{specs.{declared.ids.CpuId.CpuId, History.own_events, Sections.sections_in, Actions.{Action, cpu_of_action}}, proofs.Same.same_cpu_self}
use Rattle.{event_log.proofs.Foreign.lawful_before, layer_traits.specs.Polling.Along.{starts, others, steps}, cpu.specs.Table.Blocks.Name}
use Rattle.cpu.specs.{Table.{Setups.{SystemConfig, CpuLocal}, Steps.{cpu_step, AlongTable}}, Wakeups.Lost.{IsWorked, CpusLoseNoWakeUp}}
use Rattle.cpu.proofs.Wakeups.{Lists.refuted, Ordered.order_loses_no_wake_up, ReachedStates.{IsFair, IsFairLog, fair_good, Ok, step_ok, ok_beside, ok_at_boot}}
use Rattle.cpu.proofs.Wakeups.Merging.{cut}

-- along a log whose sections may occur, a CPU agrees with the log
pub along_ok : (setup : SystemConfig) (c : CpuId) (n : ℕ) (p : CpuLocal) (log : List (Action Name))
    → AlongTable setup c n p log → IsFairLog setup log → Ok setup c p log
along_ok setup c n p log starts = λ fair. ok_at_boot setup c
along_ok setup c n p log (others {n = m} {p = q} {log = past} a along off) =
    λ fair. ok_beside setup c q past a off fair.1 fair.0 (along_ok setup c m q past along fair.1)
along_ok setup c n p log (steps {n = m} {p = q} {log = past} along goes) =
    λ fair.
    let before = lawful_before (IsFair setup) (cpu_step setup c q past).acts past fair in
    (step_ok setup c past before q (along_ok setup c m q past along before)).ok

-- the list without its newest action is worked too
worked_before : (setup : SystemConfig) (a : Action Name) (past : List (Action Name)) → IsWorked setup (a ∷ past) → IsWorked setup past
worked_before setup a past worked = record {
  ran = λ c within.
      let ran = worked.ran c within in
      let before = cut setup c ran.count ran.last (a ∷ past) ran.steps a past refl in
      record { count = before.count; last = before.before; steps = before.along };
  rest = λ c beyond. grind (arith, worked.rest c beyond);
}

pub worked_fair : (setup : SystemConfig) (log : List (Action Name)) → IsWorked setup log → IsFairLog setup log
worked_fair setup [] worked = tt
worked_fair setup (a ∷ past) worked = by_cpu (cases_lt (cpu_of_action a).0 setup.cpus) (worked_fair setup past (worked_before setup a past worked))
  where
    by_cpu : ((cpu_of_action a).0 < setup.cpus) ⊎ (setup.cpus ≤ (cpu_of_action a).0) → IsFairLog setup past → IsFairLog setup (a ∷ past)
    by_cpu (inl within) fair =
        let ran = worked.ran (cpu_of_action a) within in
        let before = cut setup (cpu_of_action a) ran.count ran.last (a ∷ past) ran.steps a past refl in
        let ok = along_ok setup (cpu_of_action a) before.count before.before past before.along fair in
        elim before.next [
          | inl off ↦ refuted off.0 (same_cpu_self (cpu_of_action a))
          | inr went ↦ subst (λ acts. IsFairLog setup (acts ++ past)) went.1 (step_ok setup (cpu_of_action a) past fair before.before ok).fair
        ]
    by_cpu (inr beyond) fair =
        absurd (cc (ap (λ b. if b then a ∷ own_events cpu_of_action (cpu_of_action a) past else own_events cpu_of_action (cpu_of_action a) past) (sym
        (same_cpu_self (cpu_of_action a))) ∙ (worked.rest (cpu_of_action a) beyond)))

pub cpus_lose_no_wake_up : CpusLoseNoWakeUp
cpus_lose_no_wake_up setup log worked b k is =
    order_loses_no_wake_up setup (sections_in log) (fair_good setup log (worked_fair setup log worked)).ordered b k is
