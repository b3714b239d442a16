-- Passes: the scheduling operations of a CPU. What they do to a CPU's own threads and to the
-- places, where each is allowed, and what one poll of a pass means.
use Rattle.std.specs.Prelude.{◌≡◌, ◌≢◌, List, [], ◌∷◌, ◌++◌, Option, Some, None, IsSome, is_some}
use Rattle.std.specs.Prelude.{option_to_list, if◌then◌else◌}
use Rattle.event_log.specs.{declared.ids.{CpuId.CpuId, Tid.Tid}, History.AreForeign}
use Rattle.{thread_blocks.specs.Queues.{first, rest}, layer_traits.specs.Threads.RunQueue.joins}
use Rattle.layer_traits.specs.Threads.Places.{Threads, Step, Pushed, Took, step_with, cpu_of_step}
use Rattle.layer_traits.specs.Threads.Places.{home_of, is_cpu, pending_by}
use Rattle.layer_traits.specs.declared.{moves.WaitList.WaitList, passes.Pass.Pass}
use Rattle.layer_traits.specs.declared.passes.Pass.TheVariants.{Switch, YieldNow, Drain, MakeReady}
use Rattle.layer_traits.specs.declared.passes.Pass.TheVariants.{End}

-- the home, or this CPU if there is none
abbrev pub or_else : CpuId → Option CpuId → CpuId
or_else c None = c
or_else c (Some home) = home

-- the CPU whose pending queue is for a thread: the thread's home
abbrev pub queue_for : List CpuId → CpuId → Tid → CpuId
queue_for homes c t = or_else c (home_of homes t)

-- context switch: the thread at the head of the run queue runs
abbrev pub switched : Threads → Threads
switched local =
    record {
      current = first local.ready;
      hand = local.hand;
      ready = rest local.ready;
      ended = local.ended;
    }

-- the pending threads join the run queue, and after them the thread that ran
abbrev pub took_pending : List Tid → Threads → Threads
took_pending queue local =
    record {
      current = None;
      hand = local.hand;
      ready = joins (option_to_list local.current) (joins queue local.ready);
      ended = local.ended;
    }

-- the hand is empty: its thread was forwarded
abbrev pub passed_on : Threads → Threads
passed_on local =
    record { current = local.current; hand = None; ready = local.ready; ended = local.ended }

-- the thread that ran has ended
abbrev pub finished : Threads → Threads
finished local =
    record {
      current = None;
      hand = local.hand;
      ready = local.ready;
      ended = local.ended ++ option_to_list local.current;
    }

-- the thread that ran has gone to sleep, if it did
abbrev pub own_slept : Option WaitList → Threads → Threads
own_slept None local = local
own_slept (Some line) local =
    record { current = None; hand = local.hand; ready = local.ready; ended = local.ended }

-- a thread that this CPU woke is ready if this CPU is its home, and otherwise in the hand
abbrev pub own_woken : List CpuId → CpuId → Option Tid → Threads → Threads
own_woken homes c None local = local
own_woken homes c (Some u) local = record {
  current = local.current;
  hand = if is_cpu c (home_of homes u) then local.hand else Some u;
  ready = if is_cpu c (home_of homes u) then joins (u ∷ []) local.ready else local.ready;
  ended = local.ended;
}

-- a CPU's private state after a pass, if this was its pending queue
abbrev pub pass_after : Pass → List Tid → Threads → Threads
pass_after Switch queue local = switched local
pass_after YieldNow queue local = took_pending queue local
pass_after Drain queue local = took_pending queue local
pass_after (MakeReady t) queue local = passed_on local
pass_after End queue local = finished local

-- a pass is allowed: a switch if no thread runs and some thread is ready, a drain if no thread runs
-- and none is ready. A yield and an end are allowed if a thread runs. None of them is allowed while
-- a woken thread is in the hand: that thread is made ready first
abbrev pub MayPass : Pass → Threads → Type 0
MayPass Switch local = (local.current ≡ None) × (local.hand ≡ None) × (local.ready ≢ [])
MayPass YieldNow local = IsSome local.current × (local.hand ≡ None)
MayPass Drain local = (local.current ≡ None) × (local.hand ≡ None) × (local.ready ≡ [])
MayPass (MakeReady t) local = local.hand ≡ Some t
MayPass End local = IsSome local.current × (local.hand ≡ None)

-- the steps of a pass, if it is done
abbrev pub pass_steps : List CpuId → CpuId → Pass → List Step
pass_steps homes c Switch = []
pass_steps homes c YieldNow = step_with c (Took c) ∷ []
pass_steps homes c Drain = step_with c (Took c) ∷ []
pass_steps homes c (MakeReady t) = step_with c (Pushed (queue_for homes c t) t) ∷ []
pass_steps homes c End = []

-- a pass that touches nothing shared
abbrev pub IsLocalPass : Pass → Type 0
IsLocalPass Switch = Unit {0}
IsLocalPass YieldNow = ⊥
IsLocalPass Drain = ⊥
IsLocalPass (MakeReady t) = ⊥
IsLocalPass End = Unit {0}

-- a poll of a pass: environment steps are first, then the pass's own exactly if the poll returns a
-- result. The CPU's own threads change with it and only then. A pass that touches nothing shared
-- returns at once
pub record PassPolled (homes : List CpuId) (ActsFor : CpuId → Type 0) (c : CpuId) (call : Pass)
    {A : Type 0} (result : Option A) (old new : List Step)
    (local local' : Threads) : Type 0 where
  pub others : List Step
  pub foreign : AreForeign ActsFor cpu_of_step others
  pub is : new ≡ (if is_some result then pass_steps homes c call ++ (others ++ old)
      else others ++ old)
  pub after : local' ≡ (if is_some result then pass_after call (pending_by (others ++ old) c) local
      else local)
  pub at_once : IsLocalPass call → IsSome result
