-- Looks that all miss: they read what the first one reads, and the table agrees with the log that
-- has them.
use Rattle.std.proofs.Common.{arith, ◌≡◌, ℕ, zero, suc, ◌+◌, ◌%◌, ◌^◌, ◌<◌, ◌≤◌, Bool, true, false, List, ◌∷◌, ◌++◌, ◌==◌, Option, IsSome, IfSome, replicate}
use Rattle.std.proofs.Common.{refl, ap, sym, ◌∙◌}
use Rattle.event_log.specs.{declared.{ids.{CpuId.CpuId, LockId.LockId, TheConstants.CPUS}, events.Event.{Event, TheVariants.Look}}, Grants.ticket_in}
use Rattle.event_log.{specs.{History.same_lock, WordsLog.{Waiting, frees, draws, lock_phase}}, proofs.Same.same_lock_true}
use Rattle.layer_traits.proofs.{OneLockLemmas.{lock_phase_own, home_elsewhere, home_after_miss, serves_exactly}, Seen.words_legal}
use Rattle.{layer_traits.specs.{declared.edits.Mark.Mark, Protocols.{OneLock.HomeFits, Protocol.Rules}}, plain_machine.specs.declared.cells.Cell.Cell}
use Rattle.plain_machine.specs.{Machine.IsSound, Table.cell_at}

module _ {M : Type 0} (cpu : CpuId) (lock : LockId) (ticket read : ℕ) (old : List (Event M)) where
  abbrev pub noted : ℕ → List (Event M)
  noted looks = replicate looks (Look cpu lock ticket read) ++ old

  frees_stay : (at : LockId) (looks : ℕ) → frees at (noted looks) ≡ frees at old
  frees_stay at zero = refl
  frees_stay at (suc looks) = frees_stay at looks

  -- the notes of polls of a CPU that waits have its ticket
  pub grown_by : (new : List (Event M)) (looks : ℕ) → lock_phase cpu old ≡ Waiting lock ticket
      → new ≡ replicate looks (Look cpu lock (ticket_in (lock_phase cpu old)) read) ++ old → new ≡ noted looks
  grown_by new looks waiting grows = grows ∙ ap (λ s. replicate looks (Look cpu lock (ticket_in s) read) ++ old) waiting

  module _ (waiting : lock_phase cpu old ≡ Waiting lock ticket) (misses : (read == ticket) ≡ false) where
    -- the CPU waits on
    pub waits_on : (looks : ℕ) → lock_phase cpu (noted looks) ≡ Waiting lock ticket
    waits_on looks = grind (arith, lock_phase_own)

module _ {E B O K : Type 0} (Coupling : ℕ → ℕ → K → Type 0) (protocol : Rules E B O) (opening : LockId → Option B) (cells : List (Option (Cell K B)))
    (cpu : CpuId) (lock : LockId) (ticket read : ℕ) where
  -- the table agrees with a log that has one failed poll more
  still_sound : (log : List (Event (Mark E))) → lock_phase cpu log ≡ Waiting lock ticket → read ≡ frees lock log % 2 ^ 64 → (read == ticket) ≡ false
      → IsSound Coupling protocol opening log cells → IsSound Coupling protocol opening (Look cpu lock ticket read ∷ log) cells
  still_sound log waiting reads misses sound = record {
    legal = (((waiting, reads), tt), sound.legal);
    coupled = λ l some. let had = sound.coupled l some in record {
      cell = had.cell;
      is = had.is;
      words = had.words;
      home_is = go l (same_lock l lock) refl had.cell.home had.home_is;
    };
  }
    where
      go : (l : LockId) (b : Bool) → same_lock l lock ≡ b → (home : Option B) → HomeFits protocol.edited opening log l home
          → HomeFits protocol.edited opening (Look cpu lock ticket read ∷ log) l home
      go l true same home coupled = rw (same_lock_true l lock same)
          (home_after_miss protocol.edited opening lock cpu ticket read log waiting misses home (rw (same_lock_true l lock same) at coupled))
      go l false other home coupled = home_elsewhere protocol.edited opening l (Look cpu lock ticket read) log (waiting, reads) other home coupled

  pub spun_sound : (log : List (Event (Mark E))) → lock_phase cpu log ≡ Waiting lock ticket → read ≡ frees lock log % 2 ^ 64 → (read == ticket) ≡ false
      → IsSound Coupling protocol opening log cells → (looks : ℕ) → IsSound Coupling protocol opening (noted cpu lock ticket read log looks) cells
  spun_sound log waiting reads misses sound zero = sound
  spun_sound log waiting reads misses sound (suc looks) =
      still_sound (noted cpu lock ticket read log looks) (waits_on cpu lock ticket read log waiting misses looks)
      (reads ∙ ap (λ n. n % 2 ^ 64) (sym (frees_stay cpu lock ticket read log lock looks))) misses
      (spun_sound log waiting reads misses sound looks)

  -- if the words say that the ticket index is not yet served, the polls fail
  pub misses_by : (log : List (Event (Mark E))) → IsSound Coupling protocol opening log cells → IsSome (opening lock) → lock_phase cpu log ≡ Waiting lock ticket
      → (served : Bool) → served ≡ false
      → IfSome (cell_at cells lock)
      (λ c. (taken given ticket_index : ℕ) → Coupling taken given c.words → given ≤ ticket_index → ticket_index < given + CPUS
      → ticket ≡ ticket_index % 2 ^ 64
      → served ≡ (given == ticket_index))
      → (frees lock log % 2 ^ 64 == ticket) ≡ false
  misses_by log sound there waiting served not_served tells =
      let had = sound.coupled lock there in
      let law = rw had.is at tells in
      sym (serves_exactly log (words_legal (protocol.allowed opening) log sound.legal) cpu lock ticket waiting served
      (λ ticket_index. law (draws lock log) (frees lock log) ticket_index had.words)) ∙ not_served
