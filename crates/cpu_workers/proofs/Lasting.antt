-- What holds of workers that run at one table.
use Rattle.std.proofs.Common.{arith, ◌≡◌, true, List, Option, Some}
use Rattle.{event_log.specs.{declared.ids.{CpuId.CpuId, Tid.Tid}, Actions.Action}, cpu.specs.Table.{Blocks.Name, Setups.{SystemConfig, CpuLocal, have_ended}}}
use Rattle.cpu.specs.{Table.{Setups.home_threads, Choice.at_current, Steps.{halted_at, halted_by}}, Wakeups.Lost.RanItsPart}
use Rattle.{cpu.proofs.Wakeups.CpusByTable.cpus_lose_no_wake_up, cpu_workers.specs.declared.workers.stops.Stop.TheVariants.{AllEnded, TurnsUsed, TraceFull}}
use Rattle.cpu_workers.specs.{declared.workers.stops.Stop.TheVariants.Held, Laws.{HasWorked, StopReasonsHold, WorkersLoseNoWakeUp}}
use Rattle.cpu_workers.proofs.Turning.{along_others}
use Rattle.layer_traits.specs.declared.steps.Reason.TheVariants as reason

has_ran : (setup : SystemConfig) (c : CpuId) (log : List (Action Name)) → HasWorked setup c log → RanItsPart setup c log
has_ran setup c log worked = record {
  count = worked.took.count;
  last = worked.last;
  steps = rw worked.is (along_others worked.more worked.others worked.took.steps);
}

pub workers_lose : WorkersLoseNoWakeUp
workers_lose setup log worked = cpus_lose_no_wake_up setup log (record { ran = λ c within. has_ran setup c log (worked.each c within); rest = worked.rest })

-- a CPU that is halted since all its threads have ended has none left
never_all : (setup : SystemConfig) (c : CpuId) (p : CpuLocal) (current : Option Tid) → halted_by (at_current setup c p current) ≡ Some reason.AllEnded → ⊥
never_all setup c p current is = grind arith

pub all_ended : (setup : SystemConfig) (c : CpuId) (p : CpuLocal) → halted_at setup c p ≡ Some reason.AllEnded → have_ended p (home_threads setup c) ≡ true
all_ended setup c p is = grind (arith, never_all)

pub stops_say : StopReasonsHold
stops_say setup c last held turns taken AllEnded is =
    record { ended = λ at. all_ended setup c last is; used = λ at. absurd (cc at); held = λ at. absurd (cc at) }
stops_say setup c last held turns taken TraceFull is = record { ended = λ at. absurd (cc at); used = λ at. absurd (cc at); held = λ at. absurd (cc at) }
stops_say setup c last held turns taken TurnsUsed is = record { ended = λ at. absurd (cc at); used = λ at. is; held = λ at. absurd (cc at) }
stops_say setup c last held turns taken Held is = record { ended = λ at. absurd (cc at); used = λ at. absurd (cc at); held = λ at. is.0 }
