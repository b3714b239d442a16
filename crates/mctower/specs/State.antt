-- What the state lines report of a system.
use Rattle.std.specs.Prelude.{◌≡◌, ◌↔◌, ℕ, true, List, length, take, Some, slice_get}
use Rattle.{layer_traits.specs.declared.calls.Place.Place, cpu.specs.Quiescent.IsQuiet}
use Rattle.cpu.specs.{Claims.{IsPlaceOf, SystemView, listed}, Sound.IsSetupFor, Systems.halted_in}
use Rattle.cpu.specs.{Systems.whole_of, Table.Setups.SystemConfig, Observed.NoThreadCanProceed}
use Rattle.{cpu.specs.Wakeups.Quiet.IsQuietTable, mctower.specs.StateLines.state_text}
use Rattle.mctower.specs.declared.tell.state_lines.State.{State}

-- where each thread is
abbrev pub places_in : State → List Place
places_in state = take state.threads state.places

-- the state lines
abbrev pub text_of_state : State → List ℕ
text_of_state state = state_text state.halted.items (places_in state) state.is_quiet

-- What is reported of a system is true: why each CPU is halted, and where each thread is. It is
-- reported quiet exactly if it is quiet (quiescent). If its machine does one action a step, it is
-- reported quiet exactly if the step table has it quiet. Then no thread can make progress. No live
-- thread has a next call that its buffer allows, no thread owns the lock of a buffer, and none
-- sleeps at one.
pub record IsStateOf (IsStepwise : Type 0) (s : SystemView) (state : State) : Type 0 where
  pub halted : state.halted.items ≡ listed (λ c. halted_in (record { 0 = c }) s) 0 (length s.cpus)
  pub count : state.threads ≡ length s.homes
  pub many : length (places_in state) ≡ length s.homes
  pub places : (t : ℕ) (place : Place) → slice_get (places_in state) t ≡ Some place
      → IsPlaceOf s (record { 0 = t }) place
  pub quiet : (state.is_quiet ≡ true) ↔ IsQuiet s
  pub table : IsStepwise → (setup : SystemConfig) → IsSetupFor setup s
      → ((state.is_quiet ≡ true) ↔ IsQuietTable setup (whole_of s))
  pub still : IsStepwise → state.is_quiet ≡ true → NoThreadCanProceed s
