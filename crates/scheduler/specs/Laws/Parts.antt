-- A scheduler's call is pending exactly if a call at the shared queues is.
use Rattle.std.{proofs.Common.{arith, ap, ◌∙◌}, specs.Prelude.{◌≡◌, Bool, List, Option, None}}
use Rattle.std.specs.Prelude.{is_some}
use Rattle.event_log.specs.{declared.ids.{CpuId.CpuId, Tid.Tid}, Actions.{Action, phase}}
use Rattle.layer_traits.specs.{declared.queues.QueueEvent.QueueEvent, Polling.Plans.is_in_section}
use Rattle.scheduler.specs.Parts.{sched_under}

-- a call is pending exactly if a call at the shared queues is
pub under_is_some : {E : Type 0} (under : Option (QueueEvent E)) (current : Option Tid)
    → is_some (sched_under under current) ≡ is_some under
under_is_some under current = grind arith

-- therefore, if none is pending here, none is pending at the shared queues
pub none_under : {E : Type 0} (under : Option (QueueEvent E)) (current : Option Tid)
    → sched_under under current ≡ None → under ≡ None
none_under under current given = grind arith

-- if a poll is one action, a part is inside exactly while this CPU waits at a lock or holds one
pub busy_under : {N : Type 0} (acts : List (Action N)) (inside : Bool) (c below : CpuId) → below ≡ c
    → inside ≡ is_in_section (phase below acts) → inside ≡ is_in_section (phase c acts)
busy_under acts inside c below is busy = busy ∙ ap (λ d. is_in_section (phase d acts)) is
