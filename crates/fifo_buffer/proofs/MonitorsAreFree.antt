-- A monitor at which no thread owes a wake-up strands no thread.
use Rattle.std.proofs.Common.{◌≡◌, Bool, true, false, Some, None, refl, ap}
use Rattle.{event_log.specs.declared.ids.Tid.Tid, layer_traits.specs.declared.locked.Side.{Side, TheVariants.{Receivers, Senders}}}
use Rattle.{layer_traits.specs.Blocks.BufferBlocks.may_go, fifo_buffer.specs.declared.monitor_blocks.Front.{Front, TheVariants.{Asleep, Owed, Awake}}}
use Rattle.fifo_buffer.{specs.{Monitors.{MonitorState, buffer_alone, debtor, debtor_of, front_of}, MonitorWakeUps.FreeMonitorsStrandNoThread}}
use Rattle.fifo_buffer.proofs.MonitorLines.{loses_no_wake_up}

-- a thread that owes a wake-up is a debtor
debtor_there : (side : Side) (x : MonitorState) (t : Tid) → front_of side x ≡ Owed t → debtor_of x ≡ None → ⊥
debtor_there Receivers x t is none =
    let some : debtor_of x ≡ Some t = ap (λ (f : Front). debtor f x.first_sender) is in
    cc (some, none)
debtor_there Senders x t is none = go x.first_receiver none
  where
    go : (f : Front) → debtor f x.first_sender ≡ None → ⊥
    go Asleep nothing = let some : debtor Asleep x.first_sender ≡ Some t = ap (debtor Asleep) is in cc (some, nothing)
    go (Owed v) nothing = cc nothing
    go Awake nothing = let some : debtor Awake x.first_sender ≡ Some t = ap (debtor Awake) is in cc (some, nothing)

pub strands_no_thread : FreeMonitorsStrandNoThread
strands_no_thread opening caps past fresh b side state at free u leads asleep = go (may_go side (buffer_alone state.above)) refl
  where
    go : (v : Bool) → may_go side (buffer_alone state.above) ≡ v → v ≡ false
    go false may = refl
    go true may =
        let owing = loses_no_wake_up opening caps past fresh b side state at u leads asleep may in
        absurd (debtor_there side state.above owing.0 owing.1 free)
