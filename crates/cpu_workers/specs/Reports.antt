-- What a worker did: so many turns, and why it stopped.
use Rattle.std.specs.Prelude.{◌≡◌, ◌⊎◌, ℕ, ◌+◌, ◌-◌, ◌^◌, ◌<◌, ◌≤◌, ◌==◌, List, [], ◌∷◌, ◌++◌}
use Rattle.std.specs.Prelude.{Option, Some, None, false, true, if◌then◌else◌}
use Rattle.event_log.specs.{declared.ids.CpuId.CpuId, Actions.{Action, cpu_of_action, phase}}
use Rattle.{event_log.specs.History.same_cpu, layer_traits.specs.declared.steps.Reason.Reason}
use Rattle.layer_traits.specs.{declared.steps.Step.TheVariants.Stepped, Polling.Along.Outcome}
use Rattle.layer_traits.specs.Polling.{Along.Along, Plans.is_in_section}
use Rattle.cpu.specs.Table.{Setups.SystemConfig, Steps.{cpu_step, halted_at}}
use Rattle.cpu_workers.specs.declared.workers.gates.Go.{Go, TheVariants.{Limit, Pass}}
use Rattle.cpu_workers.specs.declared.workers.stops.Stop.{Stop, TheVariants.{AllEnded, TurnsUsed}}
use Rattle.cpu_workers.specs.declared.workers.stops.Stop.TheVariants.{TraceFull, Held}
use Rattle.cpu_workers.specs.Working.{IsPlanned, IsSame, Working, is_inside, log}
use Rattle.layer_traits.specs.declared.steps.Reason.TheVariants as reason

-- the most that a number of turns shows
abbrev pub most : ℕ
most = 2 ^ 64 - 1

-- one turn more: the number stays at the most
abbrev pub counted_on : ℕ → ℕ
counted_on shown = if shown == most then shown else shown + 1

-- so many turns are shown where there were so many: at the most there may have been more
pub record CountsTurns (shown count : ℕ) : Type 0 where
  pub least : shown ≤ count
  pub exact : shown < most → count ≡ shown

-- a CPU went along a list of actions under a table of steps, from its first state to its last, in
-- so many steps
pub record Walked {P N : Type 0} (table : P → List (Action N) → Outcome P N) (cpu : CpuId)
    (first last : P) (log : List (Action N)) (shown : ℕ) : Type 0 where
  pub count : ℕ
  pub steps : Along table cpu first count last log
  pub counted : CountsTurns shown count

-- how a CPU went along a list of actions, as `Along`; each step between two of its sections is
-- taken only if so many steps allow one more
pub data Within {P N : Type 0} (table : P → List (Action N) → Outcome P N) (cpu : CpuId)
    (May : ℕ → Type 0) (start : P) :
    ℕ → P → List (Action N) → Type 0 where
  none_taken : Within table cpu May start 0 start []
  another : {n : ℕ} {p : P} {log : List (Action N)} (a : Action N)
      → Within table cpu May start n p log → same_cpu (cpu_of_action a) cpu ≡ false
      → Within table cpu May start n p (a ∷ log)
  one_taken : {n : ℕ} {p : P} {log : List (Action N)} → Within table cpu May start n p log
      → (is_in_section (phase cpu log) ≡ true) ⊎ May n
      → (table p log).answer ≡ Stepped
      → Within table cpu May start (n + 1) (table p log).next ((table p log).acts ++ log)

-- and in as many steps as are shown
pub record TookWithin {P N : Type 0} (table : P → List (Action N) → Outcome P N) (cpu : CpuId)
    (May : ℕ → Type 0) (first last : P)
    (log : List (Action N)) (shown : ℕ) : Type 0 where
  pub count : ℕ
  pub steps : Within table cpu May first count last log
  pub counted : CountsTurns shown count

-- fewer steps than these were taken
abbrev pub below : ℕ → ℕ → Type 0
below turns count = count < turns

-- The gate was asked at each turn up to the one after so many, with the number of turns taken. Each
-- time it may have let the CPU pass.
abbrev pub WasAsked : (ℕ → Type 0) → ℕ → Type 0
WasAsked MayPass count = (shown : ℕ) × CountsTurns shown count × ((k : ℕ) → k ≤ shown → MayPass k)

-- A CPU was held. After so many turns the gate may have returned `Limit`, and after that the CPU
-- took no turn except to end its section.
pub record WasHeld {P N : Type 0} (table : P → List (Action N) → Outcome P N) (cpu : CpuId)
    (May : ℕ → Type 0) (first last : P)
    (log : List (Action N)) (taken : ℕ) : Type 0 where
  pub turn : ℕ
  pub before : turn ≤ taken
  pub may : May turn
  pub count : ℕ
  pub counted : CountsTurns turn count
  pub within : TookWithin table cpu (below count) first last log taken

-- the gate may have returned `Limit` at some turn that was asked for
abbrev pub MayHold : (ℕ → Type 0) → ℕ → Type 0
MayHold May taken = (turn : ℕ) × (turn ≤ taken) × May turn

-- The gate was asked before each of so many turns, until it returned `Limit`. At each it may have
-- let the CPU pass, or have returned `Limit` there or earlier.
abbrev pub AskedAtEach : (Go → ℕ → Type 0) → ℕ → Type 0
AskedAtEach May taken = (k : ℕ) → k < taken → May Pass k ⊎ MayHold (May Limit) k

-- before each of so many turns the gate may have let the CPU pass
abbrev pub PassedAtEach : (ℕ → Type 0) → ℕ → Type 0
PassedAtEach MayPass taken = (k : ℕ) → k < taken → MayPass k

-- a stop is true: it says why the CPU takes no step, or the CPU could take one
abbrev pub IsTrueStop : Option Reason → (ℕ → Type 0) → (turns taken : ℕ) → Stop → Type 0
IsTrueStop halted May turns taken AllEnded = halted ≡ Some reason.AllEnded
IsTrueStop halted May turns taken TraceFull = halted ≡ Some reason.TraceFull
IsTrueStop halted May turns taken TurnsUsed = (halted ≡ None) × (turns ≤ taken)
IsTrueStop halted May turns taken Held = (halted ≡ None) × MayHold May taken

-- After so many turns a worker may take one more between two sections. Fewer than `turns` were
-- taken. The gate was asked at each turn so far and at this one, and may have let it pass each
-- time.
abbrev pub MayTakeTurn : ℕ → (ℕ → Type 0) → ℕ → Type 0
MayTakeTurn turns MayPass count = below turns count × WasAsked MayPass count

-- A worker has run by the step table. Between two sections it took a turn only below so many, and
-- only if the gate may have let it pass at each turn. The gate was asked with the number of turns
-- taken. If the worker was held, it took no turn after a `Limit` except to end its section. The
-- gate was asked before each turn, also inside a section, until it returned `Limit`. If all turns
-- are used, it may have let the worker pass at each.
pub record WentBy (setup : SystemConfig) (May : Go → ℕ → Type 0) (turns : ℕ) (old new : Working)
    (taken : ℕ) (stop : Stop) : Type 0 where
  pub took : Walked (cpu_step setup old.cpu) old.cpu old.cpu_local new.cpu_local (log new) taken
  pub within : TookWithin (cpu_step setup old.cpu) old.cpu (MayTakeTurn turns (May Pass))
      old.cpu_local new.cpu_local (log new) taken
  pub held : stop ≡ Held → WasHeld (cpu_step setup old.cpu) old.cpu (May Limit) old.cpu_local
      new.cpu_local (log new) taken
  pub asked : AskedAtEach May taken
  pub used : stop ≡ TurnsUsed → PassedAtEach (May Pass) taken
  pub stop_is : IsTrueStop (halted_at setup old.cpu new.cpu_local) (May Limit) turns taken stop

-- A worker has run. It is the same one, and none of its sections is under way. Each table of its
-- plan gives its steps and its stop.
pub record HasRun (May : CpuId → Go → ℕ → Type 0) (turns : ℕ) (old new : Working) (taken : ℕ)
    (stop : Stop) : Type 0 where
  pub same : IsSame old new
  pub rests : is_inside new ≡ false
  pub went : (setup : SystemConfig) → IsPlanned setup old.plan
      → WentBy setup (May old.cpu) turns old new taken stop

-- each element of the one list has its own in the other, in order
abbrev pub Both : {A B : Type 0} → (A → B → Type 0) → List A → List B → Type 0
Both Coupled [] [] = Unit {0}
Both Coupled [] (y ∷ ys) = ⊥
Both Coupled (x ∷ xs) [] = ⊥
Both Coupled (x ∷ xs) (y ∷ ys) = Coupled x y × Both Coupled xs ys
