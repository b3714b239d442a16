-- Consecutive polls of a layer of calls, stated for the layer.
use Rattle.{std.specs.Prelude.{ℕ, Bool, List, Option}, event_log.specs.declared.ids.CpuId.CpuId}
use Rattle.event_log.specs.declared.ids.Tid.{Tid}
use Rattle.layer_traits.specs.declared.{call_layers.CallLayer.Ghosts, calls.Call.Call}
use Rattle.layer_traits.specs.declared.calls.{Reply.Reply, ReplyKind.ReplyKind}
use Rattle.layer_traits.specs.Layers.BufferLaw.{BufferPlan, Buffering, answer_in}
use Rattle.layer_traits.specs.Polling.PollRuns.{IsBegun, Looked, LookedOn, Polled, PolledOn}

module _ {P L M : Type 0} (I : Ghosts P L M)
    (plan : ℕ → List CpuId → CpuId → Tid → Call → Buffering → BufferPlan Reply) where
  -- a poll of the lock took the layer's part and machine to the last two, and returned whether it
  -- polled
  abbrev pub LookedAt : Bool → P → M → P → M → Type 0
  LookedAt =
      Looked I.Coupled I.cpu_of I.opening I.machine_id I.room I.ActsFor I.MayHold I.local
      I.is_inside
      I.under_way I.history
      I.moves I.acts I.IsWhole I.IsStepwise plan

  -- and so did such polls, with so many actions taken before them and after
  abbrev pub LookedOnAt : P → M → ℕ → ℕ → P → M → Type 0
  LookedOnAt =
      LookedOn I.Coupled I.cpu_of I.opening I.machine_id I.room I.ActsFor I.MayHold I.local
      I.is_inside
      I.under_way I.history
      I.moves I.acts I.IsWhole I.IsStepwise plan

  -- and so did a poll of this call, which returned this kind
  abbrev pub PolledAt : Tid → Call → P → M → P → M → Option ReplyKind → Type 0
  PolledAt t call p m q n abstract_answer =
      Polled I.Coupled I.cpu_of I.opening I.machine_id I.room I.ActsFor I.MayHold I.local
      I.is_inside
      I.under_way I.history
      I.moves I.acts I.IsWhole I.IsStepwise plan t call p m q n
      (answer_in (I.local q).call_states t abstract_answer)

  -- the call has had no effect since the first part, and its thread runs
  abbrev pub IsBegunAt : Tid → Call → P → P → Type 0
  IsBegunAt =
      IsBegun I.Coupled I.cpu_of I.opening I.machine_id I.room I.ActsFor I.MayHold I.local
      I.is_inside
      I.under_way I.history
      I.moves I.acts I.IsWhole I.IsStepwise plan

  -- and so did so many polls of this call and of its section's lock
  abbrev pub PolledOnAt : Tid → Call → P → M → ℕ → P → M → Option ReplyKind → Type 0
  PolledOnAt =
      PolledOn I.Coupled I.cpu_of I.opening I.machine_id I.room I.ActsFor I.MayHold I.local
      I.is_inside
      I.under_way I.history
      I.moves I.acts I.IsWhole I.IsStepwise plan
