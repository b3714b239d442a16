-- A layer that wraps its edits in those of the lower layer: the same blocks, events and calls under
-- the layer's own names.
use Rattle.std.specs.Prelude.{List, Option, map, option_map}
use Rattle.event_log.specs.declared.ids.LockId.{LockId}
use Rattle.layer_traits.specs.declared.queue_edits.{QueueBlock.QueueBlock, QueueEdit.QueueEdit}
use Rattle.layer_traits.specs.declared.queues.{QueueCall.QueueCall, QueueEvent.QueueEvent}
use Rattle.layer_traits.specs.{declared.scheds.SchedCall.SchedCall, Polling.Plans.{Plan, Now, Act}}
use Rattle.layer_traits.specs.Layers.Queues.{event}
use Rattle.layer_traits.specs.declared.queue_edits.QueueBlock.TheVariants as block
use Rattle.layer_traits.specs.declared.queue_edits.QueueEdit.TheVariants as edit
use Rattle.layer_traits.specs.declared.queues.QueueCall.TheVariants as queue
use Rattle.layer_traits.specs.declared.scheds.SchedCall.TheVariants as call

-- a block, with this view of a buffer's
abbrev pub viewed_block : {A B : Type 0} → (A → B) → QueueBlock A → QueueBlock B
viewed_block view (block.Queue queue homes) = block.Queue queue homes
viewed_block view (block.Above above) = block.Above (view above)

-- the opening blocks, with this view of those of buffers
abbrev pub viewed : {A B : Type 0} → (A → B) → (LockId → Option (QueueBlock A)) → LockId
    → Option (QueueBlock B)
viewed view opening lock = option_map (viewed_block view) (opening lock)

-- an edit under another name
abbrev pub renamed_edit : {D E : Type 0} → (D → E) → QueueEdit D → QueueEdit E
renamed_edit name (edit.Push t) = edit.Push t
renamed_edit name edit.TakeAll = edit.TakeAll
renamed_edit name (edit.Above d) = edit.Above (name d)

-- a call at the shared queues, its edit under another name
abbrev pub renamed_call : {D E : Type 0} → (D → E) → QueueCall D → QueueCall E
renamed_call name (queue.Push c t) = queue.Push c t
renamed_call name (queue.TakeAll c) = queue.TakeAll c
renamed_call name (queue.OnBuffer b d) = queue.OnBuffer b (name d)

-- an event, its edit under another name
abbrev pub renamed_event : {D E : Type 0} → (D → E) → QueueEvent D → QueueEvent E
renamed_event name e = event e.cpu (renamed_call name e.call)

-- a history, its edits under other names
abbrev pub renamed_events : {D E : Type 0} → (D → E) → List (QueueEvent D) → List (QueueEvent E)
renamed_events name past = map (renamed_event name) past

-- a scheduler's call, its edit under another name
abbrev pub renamed_sched : {D E : Type 0} → (D → E) → SchedCall D → SchedCall E
renamed_sched name (call.Pass p) = call.Pass p
renamed_sched name (call.OnBuffer b d) = call.OnBuffer b (name d)

-- a plan, its section under another name
abbrev pub plan_named : {M N R S A : Type 0} → (M → N) → Plan M R S A → Plan N R S A
plan_named name (Now left) = Now left
plan_named name (Act lock m react) = Act lock (name m) react
