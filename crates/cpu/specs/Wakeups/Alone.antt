-- A call without contention: how many steps it takes if only its CPU steps.
use Rattle.std.specs.Prelude.{◌≡◌, ℕ, ◌+◌, ◌≤◌, ◌<◌, Bool, false, not, [], ◌∷◌, ◌++◌, Option, Some}
use Rattle.std.specs.Prelude.{None, slice_get, if◌then◌else◌}
use Rattle.event_log.specs.declared.ids.{CpuId.CpuId, Tid.Tid, BufId.BufId}
use Rattle.event_log.specs.declared.{ids.LockId.TheVariants.Buffer as AtBuffer, entries.Kind.Kind}
use Rattle.event_log.specs.declared.entries.Kind.TheVariants.{Send as SendKind, Recv as RecvKind}
use Rattle.event_log.specs.declared.entries.Kind.TheVariants.{Close as CloseKind, SendClosed}
use Rattle.event_log.specs.declared.entries.{Kind.TheVariants.RecvClosed, Entry.Entry}
use Rattle.event_log.specs.{Messages.Message, Runs.{Group, Sends, Receives, Closes, group_of}}
use Rattle.event_log.specs.{Actions.{phase, Rests, AreFree}, History.same_cpu}
use Rattle.guest.specs.declared.instructions.Instruction.{Instruction, TheVariants.{Send, Recv}}
use Rattle.guest.specs.declared.instructions.Instruction.TheVariants.{Close}
use Rattle.layer_traits.specs.declared.locked.Side.{Side, TheVariants.{Receivers, Senders}}
use Rattle.cpu.specs.Table.{Blocks.{Buffer, OfBuffer, front, front_stands_in}, Setups.Call}
use Rattle.cpu.specs.Table.Setups.{SystemConfig, CpuLocal, home_cpu, thread_at, stands_at}
use Rattle.cpu.specs.Table.Steps.{SystemState, IsReached, block_at, halted_at, steps_by}
use Rattle.cpu.specs.{Table.Edits.{line_on, waiting_of}, Wakeups.{Lost.Allows, Quiet.AreFew}}

-- the instruction is a send, a receive, or a close, of this buffer
abbrev pub IsCallOn : Group → BufId → Instruction → Type 0
IsCallOn Sends b (Send d from k) = d ≡ b
IsCallOn Receives b (Recv d into k) = d ≡ b
IsCallOn Closes b (Close d) = d ≡ b
IsCallOn asks b line = ⊥

-- the line of such a call is empty; a close has none
abbrev pub HasEmptyLine : Group → Buffer → Type 0
HasEmptyLine Sends k = k.send_line ≡ []
HasEmptyLine Receives k = k.receive_line ≡ []
HasEmptyLine Closes k = Unit {0}

-- CPU c rests and is not halted, no spin lock is held or requested, and the running thread t is at
-- a call that has not begun; no thread owns its buffer, which allows the call, and the call's line
-- is empty
pub record IsReady (setup : SystemConfig) (c : CpuId) (s : SystemState) (p : CpuLocal)
    (t : Tid) : Type 0 where
  pub free : AreFree s.log
  pub rests : phase c s.log ≡ Rests
  pub here : slice_get s.cpus c.0 ≡ Some p
  pub runs : p.current ≡ Some t
  pub outside : (thread_at p t).call ≡ None
  pub goes : halted_at setup c p ≡ None
  pub asks : Group
  pub buffer : BufId
  pub at_call : IsCallOn asks buffer (stands_at setup p t)
  pub block : Buffer
  pub is : block_at setup (AtBuffer buffer) s.log ≡ Some (OfBuffer block)
  pub unowned : block.busy ≡ None
  pub effect : Kind
  pub of_call : group_of effect ≡ asks
  pub message : Message
  pub allowed : Allows block effect message
  pub empty_line : HasEmptyLine asks block

-- the thread is inside no call, and the trace of its CPU has one entry more, of this thread, kind
-- and buffer
pub record HasReturned (s : SystemState) (c : CpuId) (p : CpuLocal) (t : Tid) (kind : Kind)
    (b : BufId) : Type 0 where
  pub now : CpuLocal
  pub here : slice_get s.cpus c.0 ≡ Some now
  pub outside : (thread_at now t).call ≡ None
  pub entry : Entry
  pub adds : now.trace ≡ p.trace ++ entry ∷ []
  pub is_of : (entry.thread ≡ t) × (entry.kind ≡ kind) × (entry.buffer ≡ b)

-- thread t of CPU c is inside a call
pub record IsInCall (s : SystemState) (c : CpuId) (t : Tid) : Type 0 where
  pub now : CpuLocal
  pub here : slice_get s.cpus c.0 ≡ Some now
  pub call : Call
  pub inside : (thread_at now t).call ≡ Some call

-- the first of a line, if it waits
abbrev pub first_waiter : Side → Buffer → Option Tid
first_waiter side k =
    if front_stands_in (line_on side k) (waiting_of side k) then front (line_on side k) else None

-- whether the first of a line waits and is of another CPU
abbrev pub is_away : SystemConfig → CpuId → Option Tid → Bool
is_away setup c None = false
is_away setup c (Some u) = not (same_cpu (home_cpu setup u) c)

-- three steps more for a woken thread of another CPU, to append it to the pending threads there
abbrev pub steps_to_move : SystemConfig → CpuId → Option Tid → ℕ
steps_to_move setup c woke = if is_away setup c woke then 3 else 0

-- How many steps such a call takes. A send and a receive have six sections of three steps each, and
-- wake the first of the other side's line, if that thread waits. A call that finds its buffer
-- closed wakes no thread. A close has five sections, and wakes the first of each line.
abbrev pub steps_to_return : SystemConfig → CpuId → Kind → Buffer → ℕ
steps_to_return setup c SendKind k = 18 + steps_to_move setup c (first_waiter Receivers k)
steps_to_return setup c RecvKind k = 18 + steps_to_move setup c (first_waiter Senders k)
steps_to_return setup c SendClosed k = 18
steps_to_return setup c RecvClosed k = 18
steps_to_return setup c CloseKind k =
    15 + (steps_to_move setup c (first_waiter Receivers k)
    + steps_to_move setup c (first_waiter Senders k))

-- such a call takes effect and returns after exactly so many steps of its CPU: one step earlier it
-- is still under way
abbrev pub CallsReturnAlone : Type 0
CallsReturnAlone =
    (setup : SystemConfig) (room : ℕ) (s : SystemState) (c : CpuId) (p : CpuLocal) (t : Tid)
    → AreFew setup
    → IsReached setup room s
    → (ready : IsReady setup c s p t) → s.taken + 21 ≤ s.room
    → HasReturned (steps_by setup c (steps_to_return setup c ready.effect ready.block) s) c p t
    ready.effect ready.buffer
    × ((n : ℕ) → n + 1 ≡ steps_to_return setup c ready.effect ready.block
    → IsInCall (steps_by setup c n s) c t)
    -- a close wakes a thread of both lines only if the buffer has no room at all
    × (ready.effect ≡ CloseKind → 18 < steps_to_return setup c ready.effect ready.block
    → ready.block.capacity ≡ 0)
