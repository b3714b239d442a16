-- No lost wake-up: no thread that is the first of its line and can take effect sleeps beside a free
-- lock.
use Rattle.std.specs.Prelude.{◌≡◌, ℕ, ◌≤◌, ◌<◌, true, List, [], Some, None}
use Rattle.event_log.specs.declared.ids.{CpuId.CpuId, Tid.Tid, BufId.BufId}
use Rattle.event_log.specs.declared.{ids.LockId.TheVariants.Buffer as AtBuffer, entries.Kind.Kind}
use Rattle.event_log.specs.{Messages.Message, Buffers.IsAllowedEffect, Runs.{Sends, Receives}}
use Rattle.event_log.specs.{Runs.group_of, History.own_events, Actions.{Action, cpu_of_action}}
use Rattle.{event_log.specs.Sections.{Section, sections_in}, cpu.specs.Table.Blocks.Buffer}
use Rattle.cpu.specs.Table.{Blocks.{OfBuffer, Name, front, stands_in}, Setups.SystemConfig}
use Rattle.cpu.specs.Table.{Setups.CpuLocal, Steps.{SystemState, IsReached, block_at, AlongTable}}
use Rattle.cpu.specs.{Table.Edits.{line_on, waiting_of, on_side}, Wakeups.Order.block_of}
use Rattle.{cpu.specs.Wakeups.Order.IsInOrder, layer_traits.specs.declared.locked.Side.Side}

-- the buffer allows an effect of this kind with this message
abbrev pub Allows : Buffer → Kind → Message → Type 0
Allows k e m = IsAllowedEffect e k.closed k.capacity k.items m

-- while no thread owns the lock, the first of neither line waits although the buffer allows an
-- effect of its call: one that serves it, or the reply that the buffer is closed
pub record NoWakeUpIsLost (k : Buffer) : Type 0 where
  pub on : (side : Side) → k.busy ≡ None → (t : Tid) (m : Message) → front (line_on side k) ≡ Some t
      → stands_in t (waiting_of side k) ≡ true
      → (e : Kind) → group_of e ≡ on_side side Receives Sends → Allows k e m → ⊥

-- after these actions no wake-up is lost
abbrev pub LosesNoWakeUp : SystemConfig → List (Action Name) → Type 0
LosesNoWakeUp setup log =
    (b : BufId) (k : Buffer) → block_at setup (AtBuffer b) log ≡ Some (OfBuffer k)
    → NoWakeUpIsLost k

-- sections in the order that their calls prescribe lose no wake-up, under every interleaving
abbrev pub OrderLosesNoWakeUp : Type 0
OrderLosesNoWakeUp =
    (setup : SystemConfig) (sections : List (Section Name)) → IsInOrder setup sections
    → (b : BufId) (k : Buffer) → block_of setup (AtBuffer b) sections ≡ Some (OfBuffer k)
    → NoWakeUpIsLost k

-- in every state that a system reaches, the sections are in the order that their calls prescribe
abbrev pub SystemsKeepOrder : Type 0
SystemsKeepOrder =
    (setup : SystemConfig) (room : ℕ) (s : SystemState) → IsReached setup room s
    → IsInOrder setup (sections_in s.log)

-- therefore no state that a system reaches has lost a wake-up
abbrev pub SystemsLoseNoWakeUp : Type 0
SystemsLoseNoWakeUp =
    (setup : SystemConfig) (room : ℕ) (s : SystemState) → IsReached setup room s
    → LosesNoWakeUp setup s.log

-- while no thread owns a lock, no thread sleeps at it
abbrev pub FreeLocksHaveNoSleepers : Type 0
FreeLocksHaveNoSleepers =
    (setup : SystemConfig) (room : ℕ) (s : SystemState) → IsReached setup room s
    → (b : BufId) (k : Buffer) → block_at setup (AtBuffer b) s.log ≡ Some (OfBuffer k)
    → k.busy ≡ None → k.sleepers ≡ []

-- a CPU has done its share of this list of actions according to the table
pub record RanItsPart (setup : SystemConfig) (c : CpuId) (log : List (Action Name)) : Type 0 where
  pub count : ℕ
  pub last : CpuLocal
  pub steps : AlongTable setup c count last log

-- each CPU has done its share of this list according to the table, and every action of the list is
-- of one of these CPUs
pub record IsWorked (setup : SystemConfig) (log : List (Action Name)) : Type 0 where
  pub ran : (c : CpuId) → c.0 < setup.cpus → RanItsPart setup c log
  pub rest : (c : CpuId) → setup.cpus ≤ c.0 → own_events cpu_of_action c log ≡ []

-- CPUs that each work according to the table on one list lose no wake-up
abbrev pub CpusLoseNoWakeUp : Type 0
CpusLoseNoWakeUp =
    (setup : SystemConfig) (log : List (Action Name)) → IsWorked setup log → LosesNoWakeUp setup log
