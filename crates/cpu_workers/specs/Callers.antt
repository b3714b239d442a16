-- Callers: native threads that send to buffers and receive from them, each on its own CPU.
use Rattle.std.specs.Prelude.{◌≡◌, ℕ, ◌≤◌, List, ◌++◌, [], ◌∷◌, length}
use Rattle.event_log.specs.declared.entries.{Entry.Entry, Kind.{Kind, TheVariants.{Send, Recv}}}
use Rattle.event_log.specs.declared.entries.Kind.TheVariants.{Close, SendClosed, RecvClosed}
use Rattle.event_log.specs.{declared.ids.{BufId.BufId, CpuId.CpuId, Tid.Tid}, Messages.Message}
use Rattle.{event_log.specs.Messages.no_message, layer_traits.specs.declared.calls.Call.Call}
use Rattle.layer_traits.specs.declared.calls.{Effect.Effect, Reply.Reply}
use Rattle.layer_traits.specs.{Blocks.BufferEffects.entry, Layers.BufferLaw.{IsEffectOf, buffer_of}}
use Rattle.{layer_traits.specs.Layers.BufferLaw.{entry_of, reply_of}, cpu.specs.Cpus.of_cpu}
use Rattle.cpu_workers.specs.declared.workers.callers.TheConstants.{MOST_CALLS}

-- a caller as its users see it: its CPU and thread, the buffers' capacities, which machine it is,
-- and its calls' entries, oldest first
pub record CallerView : Type 0 where
  pub cpu : CpuId
  pub thread : Tid
  pub caps : List ℕ
  pub machine_id : List ℕ
  pub calls : List Entry

-- The invariant of a caller. Its part agrees with its machine, which has room at any time. Nothing
-- is under way, and its thread is in no call. Each buffer opened empty. It counts its calls, which
-- are at most `MOST_CALLS`.
pub record IsCaller (PartFits Roomy Nothing Rests Opens : Type 0) (cpu : CpuId)
    (history : List Entry)
    (made : ℕ) : Type 0 where
  pub coupled : PartFits
  pub room : Roomy
  pub nothing : Nothing
  pub rests : Rests
  pub opens : Opens
  pub counted : length (of_cpu cpu history) ≡ made
  pub few : made ≤ MOST_CALLS

-- a caller after one more entry
abbrev pub with_entry : CallerView → Entry → CallerView
with_entry caller e =
    record {
      cpu = caller.cpu;
      thread = caller.thread;
      caps = caller.caps;
      machine_id = caller.machine_id;
      calls = caller.calls ++ e ∷ [];
    }

-- an effect without a message carries none
abbrev pub CarriesNone : Kind → Message → Type 0
CarriesNone Send value = Unit {0}
CarriesNone Recv value = Unit {0}
CarriesNone Close value = value ≡ no_message
CarriesNone SendClosed value = Unit {0}
CarriesNone RecvClosed value = value ≡ no_message

-- the caller has done this call, which had one effect, and this is its reply
pub record HasCalled (old new : CallerView) (call : Call) (reply : Reply) : Type 0 where
  pub effect : Effect
  pub is : IsEffectOf call effect
  pub carries : CarriesNone effect.kind effect.value
  pub replies : reply ≡ reply_of call effect
  pub grows : new ≡ with_entry old (entry_of old.cpu old.thread (buffer_of call) effect)

-- the caller has one entry more, of this kind on this buffer with this message
pub record HasMadeCall (old new : CallerView) (kind : Kind) (b : BufId) (value : Message) : Type
    0 where
  pub op : ℕ
  pub pos : ℕ
  pub grows : new ≡ with_entry old (entry old.cpu old.thread kind b value op pos)

-- it is the same caller, which may have made more calls
pub record IsSameCaller (old new : CallerView) : Type 0 where
  pub cpu : new.cpu ≡ old.cpu
  pub thread : new.thread ≡ old.thread
  pub caps : new.caps ≡ old.caps
  pub machine_id : new.machine_id ≡ old.machine_id
