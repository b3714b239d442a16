-- Consecutive failed polls of a word are failed tries, and a stage of a section fits after them.
use Rattle.std.proofs.Common.{arith, ◌≡◌, ℕ, zero, suc, Bool, false, List, ◌∷◌, ◌++◌, Option, map, replicate, if◌then◌else◌, refl, ap, sym, ◌∙◌}
use Rattle.event_log.specs.{declared.ids.{CpuId.CpuId, LockId.LockId}, Actions.{Action, Try, Waits, phase}, Sections.block_after, WordsLog.{LockPhase, Waiting}}
use Rattle.{event_log.specs.WordsLog.Holding, layer_traits.{proofs.SpinLemmas.left_same, specs.{Protocols.Protocol.Rules, Polling.Spins.Misses}}}
use Rattle.spinlock.{proofs.StageLemmas.stage_stays, specs.{declared.stages.TicketPhase.TicketPhase, Stages.StageFits}}

-- a poll after which its CPU still waits has failed
leaves_waiting : (hit : Bool) (lock : LockId) (ticket : ℕ) → (if hit then Holding lock ticket else Waiting lock ticket) ≡ Waiting lock ticket → hit ≡ false
leaves_waiting hit lock ticket waits = grind arith

-- the same event, repeated so often, maps to its action, repeated so often
told_again : {X N : Type 0} (f : X → Action N) (e : X) (a : Action N) → f e ≡ a → (looks : ℕ) (old : List X)
    → map f (replicate looks e ++ old) ≡ replicate looks a ++ map f old
told_again f e a is zero old = refl
told_again f e a is (suc looks) old = ap (λ b. b ∷ map f (replicate looks e ++ old)) is ∙ ap (λ l. a ∷ l) (told_again f e a is looks old)

-- events of one kind that leave the CPU waiting are failed tries. The function `f` maps each event
-- to an action, and `phase_at` is the phase in which a log leaves the CPU
pub all_missed : {X E : Type 0} (f : X → Action E) (phase_at : List X → LockPhase) (e : X) (cpu : CpuId) (lock : LockId) (ticket : ℕ) (hit : Bool)
    → f e ≡ Try cpu lock hit → ((log : List X) → phase_at (e ∷ log) ≡ (if hit then Holding lock ticket else Waiting lock ticket))
    → (looks : ℕ) (old new : List X) → new ≡ replicate looks e ++ old → phase_at new ≡ Waiting lock ticket → phase cpu (map f old) ≡ Waits lock
    → Misses cpu looks (map f old) (map f new)
all_missed f phase_at e cpu lock ticket hit is local zero old new grows waits before =
    record { lock = lock; waits = λ some. before; grows = ap (map f) grows }
all_missed f phase_at e cpu lock ticket hit is local (suc looks) old new grows waits before =
    let missed = leaves_waiting hit lock ticket (sym (local (replicate looks e ++ old)) ∙ (sym (ap phase_at grows) ∙ waits)) in
    record {
      lock = lock;
      waits = λ some. before;
      grows = ap (map f) grows ∙ told_again f e (Try cpu lock false) (is ∙ ap (Try cpu lock) missed) (suc looks) old;
    }

-- each stage fits after tries that all failed
pub spun_fits : {E B O : Type 0} (protocol : Rules E B O) (opening opening' : LockId → Option B) → opening' ≡ opening → (cpu : CpuId) (looks : ℕ)
    (old new : List (Action E)) → Misses cpu looks old new → (c : CpuId) (stage : TicketPhase E B) → StageFits protocol opening old c stage
    → StageFits protocol opening' new c stage
spun_fits protocol opening opening' same cpu looks old new misses c stage coupled =
    let left = left_same cpu looks old new misses in
    rw same (stage_stays protocol opening c stage old new (left.phases c) (left.indices c) (λ s its stays. rw left.sections stays)
    (λ lock holds. ap (block_after protocol.edited opening lock) left.sections) coupled)
