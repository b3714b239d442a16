-- A machine's setup, a CPU's private state, the state at boot and the opening blocks.
use Rattle.std.specs.Prelude.{ℕ, ◌+◌, Bool, true, false, ◌&&◌, List, [], ◌∷◌, map, Option, Some}
use Rattle.std.specs.Prelude.{None, slice_get, slice_index_or, slice_set, if◌then◌else◌}
use Rattle.event_log.specs.declared.ids.{CpuId.CpuId, Tid.Tid, BufId.BufId, LockId.LockId}
use Rattle.event_log.specs.declared.ids.LockId.TheVariants.{Pending, Buffer as AtBuffer}
use Rattle.event_log.specs.{declared.entries.Entry.Entry, History.same_cpu, Messages.Message}
use Rattle.{event_log.specs.Runs.Group, guest.specs.declared.instructions.Instruction.Instruction}
use Rattle.{guest.specs.State.{State, at_start, next_of}, cpu.specs.Table.Blocks.{Buffer, Block}}
use Rattle.cpu.specs.Table.Blocks.{OfBuffer, OfPending}
use Rattle.layer_traits.specs.{declared.call_states.Stage.Stage, Threads.Passes.or_else}

-- the number of CPUs, the home CPU of each thread, its program, the capacity of each buffer, and
-- how many entries a CPU's trace may have
pub record SystemConfig : Type 0 where
  pub cpus : ℕ
  pub homes : List CpuId
  pub programs : List (List Instruction)
  pub caps : List ℕ
  pub trace_room : ℕ

-- A call under way. What it asks of which buffer. Its message: what it sends, or has received. Its
-- position in its line; of a close, among the closes. The number of its effect once it has one, and
-- whether it then found the buffer closed. Its stage, which is its next section. A call at Idle has
-- done its last section; it returns after the thread that this section woke is appended to its home
-- CPU's pending threads.
pub record Call : Type 0 where
  pub asks : Group
  pub buffer : BufId
  pub message : Message
  pub position : ℕ
  pub effect : Option ℕ
  pub closed : Bool
  pub stage : Stage

-- a thread: its line and registers, its call under way, and whether it has ended
pub record Thread : Type 0 where
  pub guest : State
  pub call : Option Call
  pub ended : Bool

-- A CPU's private state: the running thread; the ready threads, head first; the woken thread in its
-- hand, which it has yet to append to another CPU's pending threads; all threads by number; and its
-- trace, oldest first. Threads of other homes stay as at boot.
pub record CpuLocal : Type 0 where
  pub current : Option Tid
  pub ready : List Tid
  pub hand : Option Tid
  pub threads : List Thread
  pub trace : List Entry

-- a thread at boot
abbrev pub new_thread : Thread
new_thread = record { guest = at_start; call = None; ended = false }

-- a thread by its number
abbrev pub thread_at : CpuLocal → Tid → Thread
thread_at p t = slice_index_or p.threads t.0 new_thread

-- the same private state, with one thread replaced
abbrev pub with_thread : CpuLocal → Tid → Thread → CpuLocal
with_thread p t x = record p { threads = slice_set p.threads t.0 x }

-- the CPU on which a thread runs
abbrev pub home_cpu : SystemConfig → Tid → CpuId
home_cpu setup t = or_else (record { 0 = 0 }) (slice_get setup.homes t.0)

abbrev pub program_or : Option (List Instruction) → List Instruction
program_or None = []
program_or (Some program) = program

-- the program of a thread
abbrev pub program_of : SystemConfig → Tid → List Instruction
program_of setup t = program_or (slice_get setup.programs t.0)

-- the instruction at which a thread is
abbrev pub stands_at : SystemConfig → CpuLocal → Tid → Instruction
stands_at setup p t = next_of (program_of setup t) (thread_at p t).guest

-- the threads of these homes, numbered from i upwards, whose home CPU is c
abbrev pub home_threads_from : CpuId → List CpuId → ℕ → List Tid
home_threads_from c [] i = []
home_threads_from c (home ∷ homes) i =
    if same_cpu home c then record { 0 = i } ∷ home_threads_from c homes (i + 1)
    else home_threads_from c homes (i + 1)

-- the threads whose home CPU is c, by rising number
abbrev pub home_threads : SystemConfig → CpuId → List Tid
home_threads setup c = home_threads_from c setup.homes 0

-- a CPU at boot: its home threads are ready, and nothing has happened
abbrev pub boot_of : SystemConfig → CpuId → CpuLocal
boot_of setup c =
    record {
      current = None;
      ready = home_threads setup c;
      hand = None;
      threads = map (λ home. new_thread) setup.homes;
      trace = [];
    }

-- a buffer at boot
abbrev pub buffer_at_boot : ℕ → Buffer
buffer_at_boot capacity = record {
  busy = None;
  sleepers = [];
  waiting_receivers = [];
  waiting_senders = [];
  receive_line = [];
  send_line = [];
  items = [];
  capacity = capacity;
  closed = false;
  effects = 0;
  send_positions = 0;
  receive_positions = 0;
  closes = 0;
}

abbrev pub opening_buffer : Option ℕ → Option Block
opening_buffer None = None
opening_buffer (Some capacity) = Some (OfBuffer (buffer_at_boot capacity))

-- the opening block of each lock
abbrev pub opening : SystemConfig → LockId → Option Block
opening setup (Pending c) = Some (OfPending [])
opening setup (AtBuffer b) = opening_buffer (slice_get setup.caps b.0)

-- there is no effect yet
abbrev pub has_none : Option ℕ → Bool
has_none None = true
has_none (Some op) = false

-- whether a thread is inside a call that has not taken effect
abbrev pub is_open_call : Option Call → Bool
is_open_call None = false
is_open_call (Some call) = has_none call.effect

-- how many of these threads are inside a call that has not taken effect
abbrev pub open_calls : CpuLocal → List Tid → ℕ
open_calls p [] = 0
open_calls p (t ∷ ts) =
    if is_open_call (thread_at p t).call then open_calls p ts + 1 else open_calls p ts

-- whether all of these threads have ended
abbrev pub have_ended : CpuLocal → List Tid → Bool
have_ended p [] = true
have_ended p (t ∷ ts) = (thread_at p t).ended && have_ended p ts
