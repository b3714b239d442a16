-- What a section of a monitor does to its block, stated for the block before and after it: which
-- thread may have an effect, what an effect is, which thread waits or is woken, and what is owed.
use Rattle.std.specs.Prelude.{◌≡◌, ◌⊎◌, true, false, List, [], ◌||◌, Option, Some, None}
use Rattle.std.specs.Prelude.{if◌then◌else◌}
use Rattle.event_log.specs.{declared.ids.Tid.Tid, Buffers.{IsAllowedEffect, after_effect}}
use Rattle.event_log.specs.Runs.{Group, Closes, Receives, Sends, group_of, same_group}
use Rattle.layer_traits.specs.declared.{calls.Effect.Effect, locked.Side.Side}
use Rattle.layer_traits.specs.declared.locked.Side.TheVariants.{Receivers, Senders}
use Rattle.layer_traits.specs.{declared.sleeps.Wake.Wake, Blocks.BufferBlocks.{counted, may_go}}
use Rattle.{layer_traits.specs.Layers.Sleeping.joined, thread_blocks.specs.Queues.{first, rest}}
use Rattle.fifo_buffer.specs.{Tallies.drawn_by, declared.monitor_blocks.Front.TheVariants.Asleep}
use Rattle.fifo_buffer.specs.declared.monitor_blocks.Front.TheVariants.{Owed, Awake}
use Rattle.fifo_buffer.specs.declared.monitor_blocks.MonitorAsk.{MonitorAsk}
use Rattle.fifo_buffer.specs.declared.monitor_blocks.MonitorReply.{MonitorReply}
use Rattle.fifo_buffer.specs.Monitors.{MonitorState, buffer_alone, front_of, is_owed_by, leaving_of}
use Rattle.fifo_buffer.specs.Monitors.{monitor_line, opposite}
use Rattle.fifo_buffer.specs.declared.monitor_blocks.MonitorAsk.TheVariants as ask
use Rattle.fifo_buffer.specs.declared.monitor_blocks.MonitorReply.TheVariants as out

-- no thread waits in a line before this one: the line is empty, or the thread is its first
abbrev pub NobodyBefore : Tid → List Tid → Type 0
NobodyBefore t queue = (queue ≡ []) ⊎ (first queue ≡ Some t)

-- the side in whose line the thread of a call waits for its turn; a close never waits
abbrev pub turn_side : MonitorAsk → Option Side
turn_side (ask.Send m) = Some Senders
turn_side ask.Receive = Some Receivers
turn_side ask.Close = None
turn_side (ask.WakeFirst side) = None

-- an effect is one of the call: a send's offers its message
abbrev pub IsEffectOfAsk : MonitorAsk → Effect → Type 0
IsEffectOfAsk (ask.Send m) f = (group_of f.kind ≡ Sends) × (f.value ≡ m)
IsEffectOfAsk ask.Receive f = group_of f.kind ≡ Receives
IsEffectOfAsk ask.Close f = group_of f.kind ≡ Closes
IsEffectOfAsk (ask.WakeFirst side) f = ⊥

-- the line of a side after an effect: its first leaves if the call is of this side
abbrev pub line_served : Option Side → Side → List Tid → List Tid
line_served None side queue = queue
line_served (Some Receivers) Receivers queue = rest queue
line_served (Some Receivers) Senders queue = queue
line_served (Some Senders) Receivers queue = queue
line_served (Some Senders) Senders queue = rest queue

-- the call of a thread had this effect. It was the thread's turn, and the buffer allowed the
-- effect. Each first that sleeps and whose call is allowed is then owed a wake-up. If the thread
-- owes one, the result says so
pub record HasEffect (t : Tid) (call : MonitorAsk) (f : Effect) (next : Option Side)
    (x y : MonitorState) : Type 0 where
  pub asked : IsEffectOfAsk call f
  pub turn : (side : Side) → turn_side call ≡ Some side → NobodyBefore t (monitor_line side x)
  pub allowed : IsAllowedEffect f.kind x.closed x.capacity x.items f.value
  pub op : f.op ≡ x.effects
  pub pos : f.pos ≡ drawn_by (group_of f.kind) (buffer_alone x)
  pub items : y.items ≡ after_effect f.kind x.items f.value
  pub capacity : y.capacity ≡ x.capacity
  pub closed : y.closed ≡ (same_group (group_of f.kind) Closes || x.closed)
  pub effects : y.effects ≡ counted x.effects
  pub counts : (g : Group)
      → drawn_by g (buffer_alone y)
      ≡ (if same_group (group_of f.kind) g then counted (drawn_by g (buffer_alone x))
      else drawn_by g (buffer_alone x))
  pub lines : (side : Side)
      → monitor_line side y ≡ line_served (turn_side call) side (monitor_line side x)
  pub heeded : (side : Side) (u : Tid) → first (monitor_line side y) ≡ Some u
      → may_go side (buffer_alone y) ≡ true
      → (front_of side y ≡ Awake) ⊎ ((v : Tid) × (front_of side y ≡ Owed v))
  pub abstract_answer : next ≡ None → (side : Side) → is_owed_by t (front_of side y) ≡ false

-- the thread waits at the end of a side's line: another thread was before it, or the buffer does
-- not allow its call. Nothing else changes, except that the thread sleeps if it is the first
pub record JoinsLine (t : Tid) (side : Side) (x y : MonitorState) : Type 0 where
  pub barred : NobodyBefore t (monitor_line side x) → may_go side (buffer_alone x) ≡ false
  pub line : monitor_line side y ≡ joined t (monitor_line side x)
  pub alone : NobodyBefore t (monitor_line side x) → front_of side y ≡ Asleep
  pub behind : (NobodyBefore t (monitor_line side x) → ⊥) → front_of side y ≡ front_of side x
  pub opposite_line : monitor_line (opposite side) y ≡ monitor_line (opposite side) x
  pub opposite_front : front_of (opposite side) y ≡ front_of (opposite side) x
  pub buffer : buffer_alone y ≡ buffer_alone x

-- the first of a side, if it was owed a wake-up, is woken and stays in its line
pub record WakesFirst (t : Tid) (side : Side) (woke : Wake) (next : Option Side)
    (x y : MonitorState) : Type 0 where
  pub woken : (v : Tid) → front_of side x ≡ Owed v
      → (woke ≡ leaving_of side (first (monitor_line side x))) × (front_of side y ≡ Awake)
  pub nobody : ((v : Tid) → front_of side x ≡ Owed v → ⊥)
      → (woke ≡ leaving_of side None) × (front_of side y ≡ front_of side x)
  pub lines : (at : Side) → monitor_line at y ≡ monitor_line at x
  pub opposite_front : front_of (opposite side) y ≡ front_of (opposite side) x
  pub buffer : buffer_alone y ≡ buffer_alone x
  pub abstract_answer : next ≡ None → (at : Side) → is_owed_by t (front_of at y) ≡ false

-- a section of a thread with this ask had this result, and made y of x
pub data IsMonitorSection (t : Tid) : MonitorAsk → MonitorReply → MonitorState → MonitorState
    → Type 0 where
  effect_had : {call : MonitorAsk} {f : Effect} {next : Option Side} {x y : MonitorState}
      → HasEffect t call f next x y
      → IsMonitorSection t call (out.Acted f next) x y
  line_joined : {call : MonitorAsk} {side : Side} {x y : MonitorState} → turn_side call ≡ Some side
      → JoinsLine t side x y
      → IsMonitorSection t call (out.Refused side) x y
  first_called : {side : Side} {woke : Wake} {next : Option Side} {x y : MonitorState}
      → WakesFirst t side woke next x y
      → IsMonitorSection t (ask.WakeFirst side) (out.Woke woke next) x y
