-- A quiescent system: no CPU has anything to do, and no thread can make progress. No call of a live
-- thread can take effect, under any schedule.
use Rattle.std.specs.Prelude.{◌≡◌, ◌≢◌, ℕ, ◌<◌, ◌≤◌, true, false, [], length, Option, Some, None}
use Rattle.std.specs.Prelude.{slice_get}
use Rattle.event_log.specs.declared.ids.{CpuId.CpuId, Tid.Tid, BufId.BufId}
use Rattle.event_log.specs.declared.ids.LockId.TheVariants.{Pending, Buffer as AtBuffer}
use Rattle.event_log.specs.declared.{ids.TheConstants.THREADS, entries.Kind.Kind}
use Rattle.event_log.specs.{Messages.Message, Runs.{Group, Sends, Receives, Closes, group_of}}
use Rattle.{event_log.specs.Actions.phase, layer_traits.specs.declared.steps.Reason.Reason}
use Rattle.layer_traits.specs.Polling.Plans.{is_in_section}
use Rattle.guest.specs.declared.instructions.Instruction.{Instruction, TheVariants.{Set, Add, Sub}}
use Rattle.guest.specs.declared.instructions.Instruction.TheVariants.{Jnz, Send, Recv, Close}
use Rattle.guest.specs.declared.instructions.Instruction.TheVariants.{Yield as YieldLine, Exit}
use Rattle.{guest.specs.State.{State, message_from}, cpu.specs.Table.Blocks.{Buffer, OfBuffer}}
use Rattle.cpu.specs.Table.{Blocks.OfPending, Setups.{SystemConfig, Call, CpuLocal, thread_at}}
use Rattle.cpu.specs.Table.{Setups.{home_cpu, stands_at}, Steps.{SystemState, IsReached, block_at}}
use Rattle.cpu.specs.{Table.Steps.halted_at, Wakeups.Lost.Allows}

-- no more threads than a machine may have
abbrev pub AreFew : SystemConfig → Type 0
AreFew setup = length setup.homes ≤ THREADS

-- and the home CPU of each is one of this machine
abbrev pub HomesExist : SystemConfig → Type 0
HomesExist setup =
    AreFew setup × ((t : Tid) → t.0 < length setup.homes → (home_cpu setup t).0 < setup.cpus)

-- a halted CPU is quiet if each of its threads has ended, any other if no thread runs on it, is
-- ready or is in its hand
abbrev pub IsQuietBy : SystemConfig → CpuId → CpuLocal → Option Reason → Type 0
IsQuietBy setup c p (Some reason) =
    (u : Tid) → home_cpu setup u ≡ c → u.0 < length setup.homes → (thread_at p u).ended ≡ true
IsQuietBy setup c p None = (p.current ≡ None) × (p.ready ≡ []) × (p.hand ≡ None)

-- no section is under way, each CPU is quiet, and no thread is pending
pub record IsQuietTable (setup : SystemConfig) (s : SystemState) : Type 0 where
  pub outside : (c : CpuId) → c.0 < setup.cpus → is_in_section (phase c s.log) ≡ false
  pub cpus : (c : CpuId) (p : CpuLocal) → slice_get s.cpus c.0 ≡ Some p
      → IsQuietBy setup c p (halted_at setup c p)
  pub pending : (c : CpuId) → c.0 < setup.cpus
      → block_at setup (Pending c) s.log ≡ Some (OfPending [])

-- what a thread at this instruction asks for next: a send, a receive or a close of this buffer,
-- with this message if it sends
abbrev pub IsNextEffect : Instruction → State → Group → BufId → Message → Type 0
IsNextEffect (Send b from k) s asks d m = (asks ≡ Sends) × (d ≡ b) × (m ≡ message_from s from)
IsNextEffect (Recv b into k) s asks d m = (asks ≡ Receives) × (d ≡ b)
IsNextEffect (Close b) s asks d m = (asks ≡ Closes) × (d ≡ b)
IsNextEffect (Set r n) s asks d m = ⊥
IsNextEffect (Add r q) s asks d m = ⊥
IsNextEffect (Sub r q) s asks d m = ⊥
IsNextEffect (Jnz r k) s asks d m = ⊥
IsNextEffect YieldLine s asks d m = ⊥
IsNextEffect Exit s asks d m = ⊥

-- a call that has not taken effect, is what its thread asks for next, and whose buffer allows no
-- effect of it: therefore it is no close, and its buffer is not closed
pub record IsStuckCall (setup : SystemConfig) (s : SystemState) (p : CpuLocal) (u : Tid)
    (call : Call) : Type
    0 where
  pub unfinished : call.effect ≡ None
  pub next : IsNextEffect (stands_at setup p u) (thread_at p u).guest call.asks call.buffer
      call.message
  pub refused : (k : Buffer) (m : Message) (e : Kind) → group_of e ≡ call.asks
      → block_at setup (AtBuffer call.buffer) s.log ≡ Some (OfBuffer k) → Allows k e m → ⊥
  pub no_close : call.asks ≢ Closes
  pub stays_open : (k : Buffer) → block_at setup (AtBuffer call.buffer) s.log ≡ Some (OfBuffer k)
      → k.closed ≡ false

-- a thread that has not ended, whose home is a CPU with this private state
pub record IsLive (setup : SystemConfig) (s : SystemState) (p : CpuLocal) (u : Tid) : Type 0 where
  pub known : u.0 < length setup.homes
  pub here : slice_get s.cpus (home_cpu setup u).0 ≡ Some p
  pub alive : (thread_at p u).ended ≡ false

-- no thread owns a lock or sleeps at one; each live thread is inside a call that its buffer does
-- not allow; and no next effect of a live thread is allowed
pub record IsStuck (setup : SystemConfig) (s : SystemState) : Type 0 where
  pub unowned : (b : BufId) (k : Buffer) → block_at setup (AtBuffer b) s.log ≡ Some (OfBuffer k)
      → (k.busy ≡ None) × (k.sleepers ≡ [])
  pub threads : (p : CpuLocal) (u : Tid) → IsLive setup s p u
      → (call : Call) × ((thread_at p u).call ≡ Some call) × IsStuckCall setup s p u call
  pub effects : (p : CpuLocal) (u : Tid) → IsLive setup s p u
      → (e : Kind) (asks : Group) (b : BufId) (m : Message)
      → group_of e ≡ asks → IsNextEffect (stands_at setup p u) (thread_at p u).guest asks b m
      → (k : Buffer) → block_at setup (AtBuffer b) s.log ≡ Some (OfBuffer k) → Allows k e m → ⊥

-- in a quiescent state that a system reaches, no thread can make progress
abbrev pub QuietIsStuck : Type 0
QuietIsStuck =
    (setup : SystemConfig) (room : ℕ) (s : SystemState) → HomesExist setup → IsReached setup room s
    → IsQuietTable setup s → IsStuck setup s
