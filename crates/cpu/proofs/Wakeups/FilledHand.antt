-- A CPU whose hand holds a thread runs none, or runs a thread inside its call.
use Rattle.std.proofs.Common.{◌≡◌, ℕ, ◌<◌, Bool, true, List, length, slice_get, Option, Some, None, is_some, ap, arith}
use Rattle.{event_log.specs.{declared.ids.{CpuId.CpuId, Tid.Tid}, Actions.Action}, layer_traits.specs.declared.call_states.Stage.Stage}
use Rattle.cpu.specs.Table.{Blocks.{Name, Reported}, Setups.{SystemConfig, Call, CpuLocal, thread_at}, Choice.{Choice, with_call, choice, with_told, slept_if}}
use Rattle.cpu.specs.Table.{Choice.{woken, returned_in, settled}, Steps.{acting, cpu_step, SystemState, system_step, IsReached, boots, steps_once}}
use Rattle.cpu.proofs.Wakeups.{Lists.refuted, Agreement.{at_same, runs_within}, SectionsAgree.slept_hand, ChosenSteps.OfChoice, ReachedStates.{step_keeps, Ok}}
use Rattle.cpu.proofs.Wakeups.{ReachedStates.{all_set, boots_at, reached_sound, Sound}, SystemInv.{NextIs, same, went, next_is}}

abbrev pub IsFilled : CpuLocal → Type 0
IsFilled p = (t : Tid) → is_some p.hand ≡ true → p.current ≡ Some t → is_some (thread_at p t).call ≡ true

empty_filled : (p : CpuLocal) → p.hand ≡ None → IsFilled p
empty_filled p empty t full runs_now = refuted (ap is_some empty) full

module _ (setup : SystemConfig) (c : CpuId) where
  -- a state whose hand is empty keeps it so when it settles
  settled_empty : (p : CpuLocal) → p.hand ≡ None → (hand current : Option Tid) → (returned_in setup p hand current).hand ≡ None
  settled_empty p empty hand current = grind arith

  -- the call of a thread that got a result is there, and it runs with the hand as it was
  record RecordedSome (p q : CpuLocal) (t : Tid) : Type 0 where
    pub hand : q.hand ≡ p.hand
    pub current : q.current ≡ p.current
    pub some : is_some (thread_at q t).call ≡ true

  called : (p : CpuLocal) (t : Tid) (call : Call) → t.0 < length p.threads → RecordedSome p (with_call p t (Some call)) t
  called p t call known = grind (arith, at_same)

  recorded_some : (p : CpuLocal) (t : Tid) (call : Call) → t.0 < length p.threads → (thread_at p t).call ≡ Some call
      → (stage : Stage) (told : Reported) → RecordedSome p (with_told c p t call stage told) t
  recorded_some p t call known is stage told = grind (arith, called)

  some_inside : (p q : CpuLocal) (t : Tid) → p.current ≡ Some t → RecordedSome p q t → (slept : Bool) → (u : Tid)
      → (slept_if slept q).current ≡ Some u → is_some (thread_at (slept_if slept q) u).call ≡ true
  some_inside p q t runs_now now slept u at = grind arith

  filled_woken : (woke : Option Tid) (q : CpuLocal) → q.hand ≡ None → ((u : Tid) → q.current ≡ Some u → is_some (thread_at q u).call ≡ true)
      → IsFilled (settled setup (woken setup c woke q))
  filled_woken woke q empty inside = grind (arith, empty_filled, settled_empty)

  filled_acting : (p : CpuLocal) → IsFilled p → ((t : Tid) → p.current ≡ Some t → t.0 < length p.threads)
      → (log : List (Action Name)) → IsFilled (acting setup c p log).next
  filled_acting p filled known log = grind (arith, empty_filled, recorded_some, filled_woken, slept_hand, some_inside, settled_empty)

  abbrev FilledChoice : Choice → Type 0
  FilledChoice = OfChoice IsFilled

  filled_choice : (p : CpuLocal) → IsFilled p → FilledChoice (choice setup c p)
  filled_choice p filled = grind (arith, empty_filled, refuted)

  filled_step : (p : CpuLocal) (log : List (Action Name)) → Ok setup c p log → IsFilled p → IsFilled (cpu_step setup c p log).next
  filled_step p log ok filled =
      step_keeps setup c p log IsFilled ok filled (filled_choice p filled) (λ q agrees now. filled_acting q now (runs_within setup c q _ _ agrees) log)

abbrev pub AllFilled : SystemState → Type 0
AllFilled s = (e : CpuId) (p : CpuLocal) → slice_get s.cpus e.0 ≡ Some p → IsFilled p

filled_next : (setup : SystemConfig) (c : CpuId) (s next : SystemState) → Sound setup s → AllFilled s → NextIs setup c s next → AllFilled next
filled_next setup c s next sound filled same = filled
filled_next setup c s next sound filled (went p here) =
    all_set (λ e. IsFilled) s.cpus c (cpu_step setup c p s.log).next (filled_step setup c p s.log (sound.cpus c p here) (filled c p here))
    (λ e q off. filled e q)

pub reached_filled : (setup : SystemConfig) (room : ℕ) (s : SystemState) → IsReached setup room s → AllFilled s
reached_filled setup room s boots = grind (arith, boots_at, empty_filled)
reached_filled setup room s (steps_once {s = before} c reached known) =
    filled_next setup c before (system_step setup c before).next (reached_sound setup room before reached)
    (reached_filled setup room before reached) (next_is setup c before)
