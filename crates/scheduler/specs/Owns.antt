-- What each change of a CPU's private scheduling state requires, and what a call leaves that
-- touches nothing shared.
use Rattle.std.specs.Prelude.{◌≡◌, ◌<◌, false, List, Option, Some}
use Rattle.event_log.specs.declared.ids.{Tid.Tid, TheConstants.THREADS}
use Rattle.thread_blocks.specs.Queues.{is_in, AreApart}
use Rattle.layer_traits.specs.declared.passes.Pass.{Pass, TheVariants.{Switch, YieldNow, Drain}}
use Rattle.layer_traits.specs.declared.passes.Pass.TheVariants.{MakeReady, End}
use Rattle.layer_traits.specs.declared.queue_edits.QueueAnswer.{QueueAnswer, TheVariants.Done}
use Rattle.layer_traits.specs.declared.queue_edits.QueueAnswer.TheVariants.{Taken, Answer}
use Rattle.layer_traits.specs.{declared.scheds.SchedCall.SchedCall, Threads.MoveRules.MoveRules}
use Rattle.layer_traits.specs.Threads.{Passes.{switched, finished}, Places.Threads, RunQueue.joins}
use Rattle.layer_traits.specs.declared.scheds.SchedCall.TheVariants as call

-- the thread that runs may end: it has not ended yet
abbrev pub MayFinish : Threads → Type 0
MayFinish local =
    (t : Tid) → local.current ≡ Some t → (t.0 < THREADS) × (is_in t local.ended ≡ false)

-- the threads of a queue, and after them the thread that runs, may join the run queue: none of them
-- is in it
abbrev pub MayJoin : List Tid → Threads → Type 0
MayJoin queue local =
    AreApart queue local.ready
    × ((t : Tid) → local.current ≡ Some t
    → (t.0 < THREADS) × (is_in t (joins queue local.ready) ≡ false))

-- a thread that was woken may become ready: it is not ready yet
abbrev pub MaySettle : Option Tid → Threads → Type 0
MaySettle woke local = (t : Tid) → woke ≡ Some t → (t.0 < THREADS) × (is_in t local.ready ≡ false)

-- a result of the shared queues may be taken up
abbrev pub MayTake : {E O : Type 0} → MoveRules E O → QueueAnswer O → Threads → Type 0
MayTake mv Done local = Unit {0}
MayTake mv (Taken queue) local = MayJoin queue local
MayTake mv (Answer out) local = MaySettle (mv.woke out) local

-- what a pass leaves that touches nothing shared; any other changes nothing
abbrev pub passed_locally : Pass → Threads → Threads
passed_locally Switch local = switched local
passed_locally YieldNow local = local
passed_locally Drain local = local
passed_locally (MakeReady t) local = local
passed_locally End local = finished local

-- what a call leaves that touches nothing shared; any other changes nothing
abbrev pub local_after : {E : Type 0} → SchedCall E → Threads → Threads
local_after (call.Pass p) local = passed_locally p local
local_after (call.OnBuffer b e) local = local
