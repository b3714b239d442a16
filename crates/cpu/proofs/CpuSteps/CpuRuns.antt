-- Runs of steps of one CPU: one after the other, and what is left of the machine's room.
use Rattle.std.proofs.Common.{◌≡◌, ℕ, ◌+◌, ◌-◌, ◌<◌, ◌≤◌, ◌⊎◌, inl, inr, None, subst, arith}
use Rattle.{layer_traits.specs.declared.call_layers.CallLayer.Ghosts, cpu.specs.declared.cpus.Cpu.Cpu}
use Rattle.cpu.specs.CpuSteps.{AgreesAt, GoesAt, RanWithin, RunsAt, SteppedAt, stops_at}

module _ {P L M : Type 0} {I : Ghosts P L M} {m : M} {p : Cpu P M} where
  -- a step is a run of one
  pub one_run : {n : M} {q : Cpu P M} → SteppedAt I m p n q → RunsAt I m p 1 n q
  one_run s = RunsAt.then_step RunsAt.no_steps s

  -- a run of one step is that step
  pub one_step : {n : M} {q : Cpu P M} {k : ℕ} → RunsAt I m p k n q → k ≡ 1 → SteppedAt I m p n q
  one_step RunsAt.no_steps one = absurd (cc one)
  one_step (RunsAt.then_step RunsAt.no_steps s) one = s
  one_step (RunsAt.then_step (RunsAt.then_step runs first) s) one = absurd (omega (arith, one))

  -- a run after another
  pub runs_on : {n : M} {q : Cpu P M} {j k : ℕ} {o : M} {r : Cpu P M} → RunsAt I m p j n q → RunsAt I n q k o r → RunsAt I m p (j + k) o r
  runs_on {n = n} {q = q} {j = j} first RunsAt.no_steps =
      let same : j ≡ j + 0 = omega arith in
      subst (λ (i : ℕ). RunsAt I m p i n q) same first
  runs_on {j = j} {o = o} {r = r} first (RunsAt.then_step {k = k} second s) =
      let sum : (j + k) + 1 ≡ j + (k + 1) = omega arith in
      subst (λ (i : ℕ). RunsAt I m p i o r) sum (RunsAt.then_step (runs_on first second) s)

  -- each step takes room for one event
  pub runs_room : {n : M} {q : Cpu P M} {k : ℕ} → RunsAt I m p k n q → I.room m ≤ I.room n + k
  runs_room RunsAt.no_steps = omega arith
  runs_room (RunsAt.then_step runs s) = let before = runs_room runs in let one = s.leaves.room in omega (arith, before, one)

  -- they agree after a run
  pub runs_agree : {n : M} {q : Cpu P M} {k : ℕ} → AgreesAt I m p → RunsAt I m p k n q → AgreesAt I n q
  runs_agree agrees RunsAt.no_steps = agrees
  runs_agree agrees (RunsAt.then_step runs s) = s.agrees

  -- one step that it may take, and that it took
  pub goes_once : {most : ℕ} → GoesAt I m p most → GoesAt I m p 1
  goes_once goes =
      let some = goes.some in
      let room = goes.room in
      record { agrees = goes.agrees; some = omega arith; room = omega (arith, some, room); live = goes.live }

  pub ran_once : {most : ℕ} {n : M} {q : Cpu P M} → GoesAt I m p most → SteppedAt I m p n q → RanWithin I m p most 1 n q
  ran_once goes s = let some = goes.some in record { some = omega arith; few = omega (arith, some); ran = one_run s }

  -- what is left for it after fewer steps
  pub goes_later : {most k : ℕ} {n : M} {q : Cpu P M} → GoesAt I m p most → RunsAt I m p k n q → k < most → stops_at I q ≡ None → GoesAt I n q (most - k)
  goes_later goes ran few live =
      let room = goes.room in
      let left = runs_room ran in
      record { agrees = runs_agree goes.agrees ran; some = omega (arith, few); room = omega (arith, room, left); live = live }

-- a run that ended with polls of a lock took steps
pub some_taken : (before taken most : ℕ) → 0 < most → (taken ≡ most) ⊎ (taken ≡ before + 2) → 0 < taken
some_taken before taken most some (inl is) = omega (arith, some, is)
some_taken before taken most some (inr is) = omega (arith, is)
