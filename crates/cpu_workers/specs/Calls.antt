-- Message calls of native code: what a CPU polls for one thread's call, and the call's progress.
use Rattle.std.specs.Prelude.{◌≡◌, ◌≢◌, List, ◌++◌, [], ◌∷◌, Option, Some, None}
use Rattle.event_log.specs.declared.{entries.Entry.Entry, ids.{CpuId.CpuId, Tid.Tid}}
use Rattle.layer_traits.specs.declared.calls.{Call.Call, Effect.Effect, Reply.Reply}
use Rattle.layer_traits.specs.declared.call_states.CallState.{CallState}
use Rattle.layer_traits.specs.{declared.passes.Pass.TheVariants.End, Threads.Passes.MayPass}
use Rattle.layer_traits.specs.{Threads.Places.Threads, Layers.BufferLaw.{Calling, IsEffectOf}}
use Rattle.layer_traits.specs.Layers.BufferLaw.{MayPollCall, Passing, UnderWay, buffer_of}
use Rattle.layer_traits.specs.Layers.BufferLaw.{call_state_of, entry_of, going, reply_of}
use Rattle.cpu.specs.{Cpus.of_cpu, Guests.entries_of}
use Rattle.cpu_workers.specs.declared.workers.calling.Begun.{Begun, TheVariants.{Calls, Passes}}

-- what is under way on the CPU of a thread that has begun this, or nothing
abbrev pub begun_under_way : Tid → Option Begun → Option UnderWay
begun_under_way t None = None
begun_under_way t (Some Calls) = Some (Calling t)
begun_under_way t (Some (Passes pass)) = Some (Passing pass)

-- the CPU with these threads may begin this: the call if its thread runs, or a pass that is allowed
-- and does not end that thread
abbrev pub MayBegin : Tid → Threads → Begun → Type 0
MayBegin t local Calls = local.current ≡ Some t
MayBegin t local (Passes pass) = MayPass pass local × (pass ≢ End)

-- the same of a CPU that has begun this, or nothing
abbrev pub MayPollBegun : Tid → Threads → Option Begun → Type 0
MayPollBegun t local None = Unit {0}
MayPollBegun t local (Some begun) = MayBegin t local begun

-- an effect, if there is one, is that of the call
abbrev pub IsOne : Call → Option Effect → Type 0
IsOne call None = Unit {0}
IsOne call (Some f) = IsEffectOf call f

-- what was seen has grown, by exactly these entries of this CPU, newest first
pub record Went (cpu : CpuId) (old new : List Entry) (mine : List Entry) : Type 0 where
  pub more : List Entry
  pub grows : new ≡ more ++ old
  pub local : of_cpu cpu new ≡ mine ++ of_cpu cpu old

-- A call's progress since these entries were seen. It may be polled. If it took effect, what was
-- seen has grown by the entry of its effect.
pub record IsOn (cpu : CpuId) (t : Tid) (call : Call) (call_state : CallState)
    (old now : List Entry) : Type 0 where
  pub may : MayPollCall call_state call
  pub one : IsOne call (going call_state call).effect
  pub went : Went cpu old now (entries_of cpu t (buffer_of call) (going call_state call).effect)

-- the call has returned: it had exactly one effect, which is this CPU's one new entry, and the
-- reply is that effect's
pub record Returned (cpu : CpuId) (t : Tid) (call : Call) (reply : Reply)
    (old new : List Entry) : Type 0 where
  pub effect : Effect
  pub is : IsEffectOf call effect
  pub replies : reply ≡ reply_of call effect
  pub went : Went cpu old new (entry_of cpu t (buffer_of call) effect ∷ [])

-- whatever the call's progress, the call has the same progress after a poll that saw these entries
abbrev pub KeepsOn : CpuId → Tid → Call → List CallState → List CallState → List Entry → List Entry
    → Type 0
KeepsOn cpu t call before after history new
    = (old : List Entry) → IsOn cpu t call (call_state_of before t) old history
    → IsOn cpu t call (call_state_of after t) old new

-- whatever the call's progress, the call has returned with a poll that saw these entries
abbrev pub EndsCall : CpuId → Tid → Call → Reply → List CallState → List Entry → List Entry → Type 0
EndsCall cpu t call reply before history new =
    (old : List Entry) → IsOn cpu t call (call_state_of before t) old history
    → Returned cpu t call reply old new
