-- Tables of steps: what one step of a CPU makes of its private state, as a function of that state
-- and of the actions before it. A step taken according to the table, and the execution of a CPU
-- along one list of actions, in which other CPUs act between its steps.
use Rattle.std.specs.Prelude.{◌≡◌, ℕ, ◌+◌, false, List, [], ◌∷◌, ◌++◌}
use Rattle.event_log.specs.{declared.ids.CpuId.CpuId, History.{same_cpu, AreForeign}}
use Rattle.event_log.specs.Actions.{Action, cpu_of_action}
use Rattle.layer_traits.specs.declared.steps.Step.{Step, TheVariants.Stepped}

-- what one step leaves: the private state, the actions that it did (one or none), and its result
pub record Outcome (P N : Type 0) : Type 0 where
  pub next : P
  pub acts : List (Action N)
  pub answer : Step

-- a step according to the table: environment actions are first, then the CPU changed from p to q,
-- did what the table says, with that result
pub record IsStep {P N : Type 0} (ActsFor : CpuId → Type 0)
    (table : P → List (Action N) → Outcome P N) (p q : P)
    (old new : List (Action N)) (answer : Step) : Type 0 where
  pub others : List (Action N)
  pub foreign : AreForeign ActsFor cpu_of_action others
  pub next : q ≡ (table p (others ++ old)).next
  pub grows : new ≡ (table p (others ++ old)).acts ++ (others ++ old)
  pub answers : answer ≡ (table p (others ++ old)).answer

-- the execution of a CPU along a list of actions: from its first state on, in so many steps of the
-- table, while other CPUs act between them
pub data Along {P N : Type 0} (table : P → List (Action N) → Outcome P N) (cpu : CpuId)
    (start : P) : ℕ → P → List (Action N) → Type 0 where
  starts : Along table cpu start 0 start []
  others : {n : ℕ} {p : P} {log : List (Action N)} (a : Action N) → Along table cpu start n p log
      → same_cpu (cpu_of_action a) cpu ≡ false
      → Along table cpu start n p (a ∷ log)
  steps : {n : ℕ} {p : P} {log : List (Action N)} → Along table cpu start n p log
      → (table p log).answer ≡ Stepped
      → Along table cpu start (n + 1) (table p log).next ((table p log).acts ++ log)
