-- What a machine of locks and the stages of its CPUs state of a block is what the sections make of
-- it.
use Rattle.std.specs.Prelude.{◌≡◌, Bool, true, false, List, Option, Some, None, MatchOption}
use Rattle.std.{specs.Prelude.{if◌then◌else◌, refl}, proofs.Common.{arith, ap, sym, ◌∙◌, subst}}
use Rattle.event_log.specs.{declared.ids.{CpuId.CpuId, LockId.LockId}, Actions.{Action, Holds}}
use Rattle.event_log.specs.{Actions.{AreLegal, phase}, History.same_lock, Sections.block_after}
use Rattle.event_log.{specs.Sections.sections_in, proofs.Exclusion.{is_at, cpu_is_known}}
use Rattle.event_log.proofs.Same.{same_lock_self, same_lock_true}
use Rattle.layer_traits.specs.{Views.Owned.{IsHeld, IsObserved}, Polling.Plans.is_in_section}
use Rattle.layer_traits.specs.Protocols.Protocol.{Rules}
use Rattle.spinlock.specs.declared.stages.TicketPhase.{TicketPhase, TheVariants.{Out, Waiting}}
use Rattle.spinlock.specs.{declared.stages.TicketPhase.TheVariants.Holding, OwnedLaws.SomeoneHolds}
use Rattle.spinlock.specs.Stages.{StageFits, held_block}

module _ {E B O : Type 0} (protocol : Rules E B O) (opening : LockId → Option B)
    (acts : List (Action E)) (lock : LockId) where
  abbrev truth : Option B
  truth = block_after protocol.edited opening lock (sections_in acts)

  -- a block that a stage holds is the lock's
  held_is : (cpu : CpuId) (stage : TicketPhase E B) (x : B)
      → StageFits protocol opening acts cpu stage
      → held_block lock stage ≡ Some x → truth ≡ Some x
  held_is cpu Out x coupled is = absurd cc
  held_is cpu (Waiting at edit ticket) x coupled is = absurd cc
  held_is cpu (Holding at edit block) x coupled is = go (same_lock lock at) refl is
    where
      go : (b : Bool) → same_lock lock at ≡ b → (if b then Some block else None) ≡ Some x
          → truth ≡ Some x
      go true same is = rw (same_lock_true lock at same) coupled.2 ∙ is
      go false other is = absurd cc

  -- a CPU that holds a lock holds its block
  holder_has : (cpu : CpuId) → phase cpu acts ≡ Holds lock → (stage : TicketPhase E B)
      → StageFits protocol opening acts cpu stage
      → held_block lock stage ≡ None → ⊥
  holder_has cpu holds Out coupled none = absurd (cc (holds, coupled))
  holder_has cpu holds (Waiting at edit drawn) coupled none = let waits =
      coupled.0.0 in absurd (cc (holds, waits))
  holder_has cpu holds (Holding at edit block) coupled none =
      let both : Holds lock ≡ Holds at = sym holds ∙ coupled.0 in
      let one : lock ≡ at = cc both in
      let same : same_lock lock at ≡ true = rw (← one) (same_lock_self lock) in
      let held : Some block ≡ None = rw same at none in absurd (cc held)

  -- what the machine and the stages state is true
  pub spin_lock_shows : {P : Type 0} (ActsFor : CpuId → Type 0) (cpu_of : P → CpuId)
      (stage_of : P → TicketPhase E B) (home : Option B)
      → AreLegal acts
      → MatchOption home (SomeoneHolds lock acts)
      (λ block. block_after protocol.edited opening lock (sections_in acts) ≡ Some block)
      → IsObserved (λ (p : P). ActsFor (cpu_of p)
      × StageFits protocol opening acts (cpu_of p) (stage_of p)) cpu_of
      (λ d. is_in_section (phase d acts) ≡ true) (λ p. held_block lock (stage_of p)) home
      (block_after protocol.edited opening lock (sections_in acts))
  spin_lock_shows {P} ActsFor cpu_of stage_of home legal tells = record {
    by_machine = by_machine home tells;
    by_part = λ p x coupled is. held_is (cpu_of p) (stage_of p) x coupled.1 is;
    somewhere = somewhere home tells;
  }
    where
      by_machine : (h : Option B)
          → MatchOption h (SomeoneHolds lock acts) (λ block. truth ≡ Some block) → (x : B)
          → h ≡ Some x → truth ≡ Some x
      by_machine h tells x is = grind arith

      held : SomeoneHolds lock acts
          → IsHeld (λ (p : P). ActsFor (cpu_of p)
          × StageFits protocol opening acts (cpu_of p) (stage_of p)) cpu_of
          (λ d. is_in_section (phase d acts) ≡ true) (λ p. held_block lock (stage_of p))
      held holds = record {
        cpu = holds.0;
        known =
            cpu_is_known acts legal holds.0 lock (ap (is_at lock) holds.1 ∙ same_lock_self lock);
        inside = ap is_in_section holds.1;
        has = λ p same coupled none. holder_has holds.0 holds.1 (stage_of p)
            (subst (λ c. StageFits protocol opening acts c (stage_of p)) same coupled.1) none;
      }

      somewhere : (h : Option B)
          → MatchOption h (SomeoneHolds lock acts) (λ block. truth ≡ Some block) → h ≡ None
          → IsHeld (λ (p : P). ActsFor (cpu_of p)
          × StageFits protocol opening acts (cpu_of p) (stage_of p)) cpu_of
          (λ d. is_in_section (phase d acts) ≡ true) (λ p. held_block lock (stage_of p))
      somewhere None holds none = held holds
      somewhere (Some block) is none = absurd cc
