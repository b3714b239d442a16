-- The layers viewed as the step table (abstraction functions): the table's name of each section,
-- its block and its result.
use Rattle.std.specs.Prelude.{◌≡◌, ℕ}
use Rattle.event_log.specs.{declared.{entries.Kind.Kind, ids.Tid.Tid}, Messages.Message}
use Rattle.layer_traits.specs.declared.locked.QLockCall.TheVariants.{Acquire, Inside, Release}
use Rattle.layer_traits.specs.declared.locked.{QLockReply.QLockReply, Side.Side}
use Rattle.layer_traits.specs.declared.locked.Side.TheVariants.{Receivers, Senders}
use Rattle.layer_traits.specs.declared.conditions.CvEdit.TheVariants.{Edit, SignalFront}
use Rattle.layer_traits.specs.declared.conditions.CvLeave.TheVariants.{Leave, Wait}
use Rattle.layer_traits.specs.declared.conditions.CvReply.{CvReply}
use Rattle.layer_traits.specs.declared.buffer_edits.{BufferEdit.BufferEdit, BufferReply.BufferReply}
use Rattle.layer_traits.specs.declared.queue_edits.{QueueBlock.QueueBlock, QueueEdit.QueueEdit}
use Rattle.layer_traits.specs.declared.{queue_edits.QueueAnswer.QueueAnswer, sleeps.Outcome.Outcome}
use Rattle.layer_traits.specs.Blocks.{BufferBlocks.BufferState, BufferProtocol.buffer_rules}
use Rattle.layer_traits.specs.{Blocks.QueueRules.queue_rules, Layers.Conditions.CvCall}
use Rattle.layer_traits.specs.Layers.QLocking.{LockState, lock_moves, lock_rules}
use Rattle.{layer_traits.specs.Polling.Plans.{Table, table_of}, cpu.specs.Table.Blocks.Buffer}
use Rattle.cpu.specs.Table.Blocks.{Block, OfBuffer, OfPending, Name, AcqQ, Enter, TryPut, TryTake}
use Rattle.cpu.specs.Table.Blocks.{Shut, WaitOn, SigRecv, SigSend, RelQ, Pend, TakeAll, Reported}
use Rattle.cpu.specs.Table.Blocks.{Nothing, Position, Done, WasClosed, DidShut, NotYet, Drained}
use Rattle.cpu.specs.Table.{Blocks.Answer, Edits.{edited, answer, reports}}
use Rattle.event_log.specs.declared.entries.Kind.TheVariants as kind
use Rattle.layer_traits.specs.declared.locked.QLockReply.TheVariants as lock
use Rattle.layer_traits.specs.declared.conditions.CvReply.TheVariants as cv
use Rattle.layer_traits.specs.declared.buffer_edits.BufferEdit.TheVariants as edit
use Rattle.layer_traits.specs.declared.buffer_edits.BufferReply.TheVariants as out
use Rattle.layer_traits.specs.declared.queue_edits.QueueBlock.TheVariants as block
use Rattle.layer_traits.specs.declared.queue_edits.QueueEdit.TheVariants as queue
use Rattle.layer_traits.specs.declared.queue_edits.QueueAnswer.TheVariants as told

-- the names, results and blocks of the layers' sections
abbrev pub TowerName : Type 0
TowerName = QueueEdit (CvCall BufferEdit)

abbrev pub TowerReply : Type 0
TowerReply = Outcome (QLockReply (CvReply BufferReply))

abbrev pub TowerAnswer : Type 0
TowerAnswer = QueueAnswer TowerReply

abbrev pub TowerBlock : Type 0
TowerBlock = QueueBlock (LockState BufferState)

-- what the layers' sections mean
abbrev pub tower : Table TowerName TowerBlock TowerAnswer
tower = table_of (queue_rules (lock_rules buffer_rules) (lock_moves buffer_rules))

-- a signal to the front of a side
abbrev pub signal_on : Tid → Side → Name
signal_on t Receivers = SigRecv t
signal_on t Senders = SigSend t

-- the table's name of a section of the layers
abbrev pub name_of : TowerName → Name
name_of (queue.Push t) = Pend t
name_of queue.TakeAll = TakeAll
name_of (queue.Above (Acquire t)) = AcqQ t
name_of (queue.Above (Inside (Edit (edit.Enter t side)))) = Enter t side
name_of (queue.Above (Inside (Edit (edit.TryPut t m)))) = TryPut t m
name_of (queue.Above (Inside (Edit (edit.TryTake t)))) = TryTake t
name_of (queue.Above (Inside (Edit (edit.Shut t)))) = Shut t
name_of (queue.Above (Inside (SignalFront t side))) = signal_on t side
name_of (queue.Above (Release (Leave t))) = RelQ t
name_of (queue.Above (Release (Wait t side))) = WaitOn t side

-- the layers' section of a name of the table
abbrev pub code : Name → TowerName
code (Pend t) = queue.Push t
code TakeAll = queue.TakeAll
code (AcqQ t) = queue.Above (Acquire t)
code (Enter t side) = queue.Above (Inside (Edit (edit.Enter t side)))
code (TryPut t m) = queue.Above (Inside (Edit (edit.TryPut t m)))
code (TryTake t) = queue.Above (Inside (Edit (edit.TryTake t)))
code (Shut t) = queue.Above (Inside (Edit (edit.Shut t)))
code (SigRecv t) = queue.Above (Inside (SignalFront t Receivers))
code (SigSend t) = queue.Above (Inside (SignalFront t Senders))
code (RelQ t) = queue.Above (Release (Leave t))
code (WaitOn t side) = queue.Above (Release (Wait t side))

-- a lock with its lists around a buffer
abbrev pub buffer_view : LockState BufferState → Buffer
buffer_view state = record {
  busy = state.owner;
  sleepers = state.sleepers;
  waiting_receivers = state.receivers;
  waiting_senders = state.senders;
  receive_line = state.above.receive_line;
  send_line = state.above.send_line;
  items = state.above.items;
  capacity = state.above.capacity;
  closed = state.above.closed;
  effects = state.above.effects;
  send_positions = state.above.sends;
  receive_positions = state.above.receives;
  closes = state.above.closes;
}

-- a block of the layers
abbrev pub view : TowerBlock → Block
view (block.Queue threads homes) = OfPending threads
view (block.Above state) = OfBuffer (buffer_view state)

-- what an effect of this kind reports: a try that found the buffer closed reports no message
abbrev pub report_of : Kind → ℕ → Message → Reported
report_of kind.Send op m = Done op m
report_of kind.Recv op m = Done op m
report_of kind.Close op m = Done op m
report_of kind.SendClosed op m = WasClosed op
report_of kind.RecvClosed op m = WasClosed op

-- what the results of the layers report
abbrev pub report_above : BufferReply → Reported
report_above (out.Entered pos) = Position pos
report_above out.NotYet = NotYet
report_above (out.Done kind op m) = report_of kind op m
report_above (out.WasShut op pos) = DidShut op pos

abbrev pub report_inside : CvReply BufferReply → Reported
report_inside (cv.Did o) = report_above o
report_inside (cv.Signalled side front) = Nothing
report_inside cv.Left = Nothing
report_inside (cv.Waited side) = Nothing

abbrev pub report_in : QLockReply (CvReply BufferReply) → Reported
report_in lock.Acquired = Nothing
report_in lock.Queued = Nothing
report_in (lock.Did o) = report_inside o
report_in (lock.Released o) = Nothing

-- a result of the layers
abbrev pub answer_view : TowerAnswer → Answer
answer_view told.Done = reports Nothing
answer_view (told.Taken threads) = reports (Drained threads)
answer_view (told.Answer o) = record { told = report_in o.out; slept = o.slept; woke = o.woke }

-- the layers' sections are the table's, each with one name; the blocks that they leave and their
-- results are viewed as the table's, for every section on every block
pub record TablesAgree : Type 0 where
  pub names : (n : Name) → name_of (code n) ≡ n
  pub codes : (e : TowerName) → code (name_of e) ≡ e
  pub edits : (e : TowerName) (x : TowerBlock)
      → view (tower.edited e x) ≡ edited (name_of e) (view x)
  pub answers : (e : TowerName) (x : TowerBlock)
      → answer_view (tower.answer e x) ≡ answer (name_of e) (view x)
