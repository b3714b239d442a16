-- A CPU at one moment with its invariant, as the lemmas about its steps take it.
use Rattle.std.proofs.Common.{◌≡◌, ℕ, Bool, false, List, slice_get, Option, Some, None, IsSome}
use Rattle.layer_traits.specs.{Views.OwnParts.threads_in, declared.call_states.CallState.CallState, Threads.Places.{Threads, home_of}}
use Rattle.{layer_traits.specs.{Polling.Plans.is_in_section, Layers.BufferLaw.{Buffering, UnderWay}}, event_log.specs.declared.entries.Entry.Entry}
use Rattle.{event_log.specs.{declared.ids.{CpuId.CpuId, LockId.LockId, Tid.Tid}, Actions.{Action, phase}}, cpu.specs.{declared.guests.Guest.Guest, Cpus.IsCpu}}
use Rattle.cpu.specs.{Tables.IsTabled, Tower.Views.{TowerBlock, TowerName}}

-- all but its part of the layer: its machine's homes, how many buffers it has and the effects seen
-- in it, and what the CPU keeps for itself
pub record CpuState : Type 0 where
  pub homes : List CpuId
  pub buffers : ℕ
  pub history : List Entry
  pub under_way : Option UnderWay
  pub number : CpuId
  pub guests : List (Option Guest)
  pub trace : List Entry
  pub limit : ℕ
  pub capacity : ℕ

-- a CPU, given by the threads and call states that its part reports, that satisfies the invariant
-- of CPUs
pub record ValidCpu : Type 0 where
  pub state : CpuState
  pub open state use *
  pub local : Threads
  pub call_states : List CallState
  pub is : IsCpu homes buffers history local call_states under_way number guests trace limit capacity

-- the CPU whose invariant this fact is
abbrev pub valid_cpu : {homes : List CpuId} {buffers : ℕ} {history : List Entry} {local : Threads} {call_states : List CallState} {under_way : Option UnderWay}
    {number : CpuId} {guests : List (Option Guest)} {trace : List Entry} {limit capacity : ℕ}
    → IsCpu homes buffers history local call_states under_way number guests trace limit capacity → ValidCpu
valid_cpu {homes} {buffers} {history} {local} {call_states} {under_way} {number} {guests} {trace} {limit} {capacity} is = record {
  state = record {
    homes = homes;
    buffers = buffers;
    history = history;
    under_way = under_way;
    number = number;
    guests = guests;
    trace = trace;
    limit = limit;
    capacity = capacity;
  };
  local = local;
  call_states = call_states;
  is = is;
}

-- a CPU over the tower, given by the whole state of its part, that is as the step table requires
pub record TabledCpu : Type 0 where
  pub state : CpuState
  pub open state use *
  pub caps : List ℕ
  pub local : Buffering
  pub opening : LockId → Option TowerBlock
  pub is : IsCpu homes buffers history (threads_in local) local.call_states under_way number guests trace limit capacity
  pub tabled : IsTabled homes caps number local under_way guests opening
  pub home : (u : Tid) → (threads_in local).current ≡ Some u → home_of homes u ≡ Some number

abbrev pub valid : TabledCpu → ValidCpu
valid cpu = record { state = cpu.state; local = threads_in cpu.local; call_states = cpu.local.call_states; is = cpu.is }

-- the machine's holder acts for a CPU, of whose part it is known whether a section is under way and
-- that the thread in its hand has a home
pub record Outset (ActsFor : CpuId → Type 0) (cpu : TabledCpu) (old : List (Action TowerName)) : Type 0 where
  pub inside : Bool
  pub acts : ActsFor cpu.number
  pub idle : cpu.under_way ≡ None → inside ≡ false
  pub busy : inside ≡ is_in_section (phase cpu.number old)
  pub known : (u : Tid) → (threads_in cpu.local).hand ≡ Some u → IsSome (slice_get cpu.homes u.0)
