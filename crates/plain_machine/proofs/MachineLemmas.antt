-- Each action keeps the table of the owned machine in agreement with its log.
use Rattle.std.proofs.Common.{◌≡◌, ℕ, ◌+◌, ◌%◌, ◌^◌, ◌<◌, ◌≤◌, Bool, true, false, List, [], ◌∷◌, ◌==◌, Option, Some, None, IsSome, IfSome, MatchOption}
use Rattle.std.proofs.Common.{if◌then◌else◌, option_map, refl, ap, sym, ◌∙◌}
use Rattle.event_log.specs.declared.{ids.{CpuId.CpuId, LockId.LockId, TheConstants.CPUS}, events.Event.{Event, TheVariants.{Draw, Look, Free}}}
use Rattle.event_log.specs.{Grants.ticket_in, History.same_lock, WordsLog.{IsLegalWords, Idle, Waiting, Holding, draws, frees, lock_phase}}
use Rattle.{event_log.{specs.Sections.block_after, proofs.Same.{same_lock_self, same_lock_true}}, layer_traits.proofs.OneLockLemmas.counts_elsewhere}
use Rattle.layer_traits.proofs.OneLockLemmas.{event_lock, lock_phase_own, home_elsewhere, home_after_draw, home_after_miss, home_after_hit, home_after_free}
use Rattle.layer_traits.proofs.{OneLockLemmas.{hit_finds, home_at_start, serves_exactly}, Seen.{words_legal, sections_allowed}}
use Rattle.layer_traits.specs.{declared.edits.Mark.Mark, Protocols.{OneLock.{HomeFits, opened}, Protocol.{Rules, StaysAllowed, section}, WordsProtocol.MayCome}}
use Rattle.{layer_traits.specs.Protocols.WordsProtocol.sections, plain_machine.proofs.TableLemmas.{cell_within, cell_put, cell_other}}
use Rattle.plain_machine.specs.{declared.cells.Cell.Cell, Machine.{HasCell, IsSound, looked}, Table.{cell_at, with_cell, worded_cell, looked_cell, given_cell}}
use Rattle.plain_machine.specs.Table.{HasFresh, AreFresh}

-- a filled table has a fresh cell for each lock that opens
opens_at : {K B : Type 0} (IsNew : K → Type 0) (blocks : List (LockId × B)) (cells : List (Option (Cell K B))) (lock : LockId)
    → AreFresh IsNew blocks cells → IsSome (opened blocks lock) → (block : B) × (opened blocks lock ≡ Some block) × HasFresh IsNew block (cell_at cells lock)
opens_at IsNew [] cells lock all some = absurd (cc some)
opens_at {B = B} IsNew (o ∷ rest) cells lock all some = go (opens_at IsNew rest cells lock all.1) (same_lock o.0 lock) refl
  where
    go : (IsSome (opened rest lock) → (block : B) × (opened rest lock ≡ Some block) × HasFresh IsNew block (cell_at cells lock))
        → (b : Bool) → same_lock o.0 lock ≡ b → (block : B) × (opened (o ∷ rest) lock ≡ Some block) × HasFresh IsNew block (cell_at cells lock)
    go later true same = (o.1, rw same refl, rw (same_lock_true o.0 lock same) at all.0)
    go later false other = let found = later (rw other at some) in (found.0, rw other found.1, found.2)

-- a filled table agrees with an empty log
pub fresh_sound : {E B O K : Type 0} (Coupling : ℕ → ℕ → K → Type 0) (protocol : Rules E B O) (blocks : List (LockId × B)) (cells : List (Option (Cell K B)))
    → AreFresh (Coupling 0 0) blocks cells → IsSound Coupling protocol (opened blocks) [] cells
fresh_sound Coupling protocol blocks cells all = record {
  legal = tt;
  coupled = λ lock some.
      let found = opens_at (Coupling 0 0) blocks cells lock all some in
      record {
        cell = given_cell found.2.words found.0;
        is = found.2.is;
        words = found.2.new;
        home_is = home_at_start protocol.edited (opened blocks) lock found.0 found.1;
      };
}

-- a machine that is sound, and one of its locks
module _ {E B O K : Type 0} {Coupling : ℕ → ℕ → K → Type 0} {protocol : Rules E B O} {opening : LockId → Option B} {log : List (Event (Mark E))}
    {cells : List (Option (Cell K B))} (sound : IsSound Coupling protocol opening log cells) (lock : LockId) (exists : IsSome (opening lock)) where
  open sound.coupled lock exists use {cell, is as cell_is, words as cell_words, home_is as cell_home}

  legal : IsLegalWords log
  legal = words_legal (protocol.allowed opening) log sound.legal

  -- the words that the table shows are those of the counts
  pub shown_words : (found : K) → IfSome (cell_at cells lock) (λ c. found ≡ c.words) → Coupling (draws lock log) (frees lock log) found
  shown_words found shows = let same = rw cell_is at shows in rw same cell_words

  -- one event at one lock, and its cell as the event leaves it
  step_sound : (e : Event (Mark E)) → event_lock e ≡ lock → MayCome (protocol.allowed opening) log e → (after : Cell K B)
      → Coupling (draws lock (e ∷ log)) (frees lock (e ∷ log)) after.words → HomeFits protocol.edited opening (e ∷ log) lock after.home
      → IsSound Coupling protocol opening (e ∷ log) (with_cell cells lock after)
  step_sound e at may after words home = record {
    legal = (may, sound.legal);
    coupled = λ l some. go l some (same_lock l lock) refl;
  }
    where
      go : (l : LockId) → IsSome (opening l) → (b : Bool) → same_lock l lock ≡ b
          → HasCell Coupling protocol.edited opening (e ∷ log) (with_cell cells lock after) l
      go l some true same =
          rw (same_lock_true l lock same)
          (record { cell = after; is = cell_put cells lock after (cell_within cells lock (rw cell_is refl)); words = words; home_is = home })
      go l some false other =
          let had = sound.coupled l some in
          let there : same_lock l (event_lock e) ≡ false = rw at other in
          record {
            cell = had.cell;
            is = cell_other cells lock after l other ∙ had.is;
            words = counts_elsewhere (λ taken given. Coupling taken given had.cell.words) e log l there had.words;
            home_is = home_elsewhere protocol.edited opening l e log may.0 there had.cell.home had.home_is;
          }

  -- a draw gives the number of earlier draws
  pub machine_draws : (cpu : CpuId) → cpu.0 < CPUS → lock_phase cpu log ≡ Idle → (ticket : ℕ) (cells' : List (Option (Cell K B)))
      → IfSome (cell_at cells lock) (λ c. (words : K)
      × ((taken given : ℕ) → Coupling taken given c.words → (ticket ≡ taken % 2 ^ 64) × Coupling (taken + 1) given words)
      × (cells' ≡ with_cell cells lock (worded_cell c words)))
      → (log' : List (Event (Mark E))) → log' ≡ Draw cpu lock (draws lock log % 2 ^ 64) ∷ log
      → (log' ≡ Draw cpu lock ticket ∷ log) × IsSound Coupling protocol opening log' cells'
  machine_draws cpu known outside ticket cells' did log' grew =
      let here = rw cell_is at did in
      let law = here.1 (draws lock log) (frees lock log) cell_words in
      let is : log' ≡ Draw cpu lock ticket ∷ log = grew ∙ ap (λ t. Draw cpu lock t ∷ log) (sym law.0) in (
        is,
        rw (is, here.2) (step_sound (Draw cpu lock ticket) refl ((known, outside, law.0), tt) (worded_cell cell here.0) (rw (same_lock_self lock) law.1)
            (home_after_draw protocol.edited opening lock cpu ticket log outside cell.home cell_home)),
      )

  module _ (cpu : CpuId) (ticket : ℕ) (waiting : lock_phase cpu log ≡ Waiting lock ticket) where
    look_may : MayCome (protocol.allowed opening) log (Look cpu lock ticket (frees lock log % 2 ^ 64))
    look_may = ((waiting, refl), tt)

    -- a poll reads the number of earlier frees
    look_sound : (served : Bool) → served ≡ (frees lock log % 2 ^ 64 == ticket)
        → IsSound Coupling protocol opening (looked cpu lock ticket log) (with_cell cells lock (looked_cell cell served))
    look_sound true is = step_sound (Look cpu lock ticket (frees lock log % 2 ^ 64)) refl look_may (looked_cell cell true) cell_words
        (home_after_hit protocol.edited opening lock cpu ticket (frees lock log % 2 ^ 64) log (sym is))
    look_sound false is = step_sound (Look cpu lock ticket (frees lock log % 2 ^ 64)) refl look_may (looked_cell cell false) cell_words
        (home_after_miss protocol.edited opening lock cpu ticket (frees lock log % 2 ^ 64) log waiting (sym is) cell.home cell_home)

    -- a poll returns the block exactly if it enters
    look_finds : (served : Bool) → served ≡ (frees lock log % 2 ^ 64 == ticket)
        → MatchOption (if served then cell.home else None)
        (lock_phase cpu (looked cpu lock ticket log) ≡ Waiting lock ticket)
        (λ block. (lock_phase cpu (looked cpu lock ticket log) ≡ Holding lock ticket) × (block_after protocol.edited opening lock (sections log) ≡ Some block))
    look_finds served is = go served cell.home cell_home
        (λ hits. hit_finds protocol.edited opening lock cpu ticket (frees lock log % 2 ^ 64) log (look_may.0, legal) (sym is ∙ hits) cell.home cell_home)
        (lock_phase_own (Look cpu lock ticket (frees lock log % 2 ^ 64)) log ∙ ap (λ b. if b then Holding lock ticket else Waiting lock ticket) (sym is))
      where
        go : (b : Bool) (home : Option B) → HomeFits protocol.edited opening log lock home → (b ≡ true → IsSome home)
            → lock_phase cpu (looked cpu lock ticket log) ≡ (if b then Holding lock ticket else Waiting lock ticket)
            → MatchOption (if b then home else None) (lock_phase cpu (looked cpu lock ticket log) ≡ Waiting lock ticket)
            (λ block. (lock_phase cpu (looked cpu lock ticket log) ≡ Holding lock ticket)
            × (block_after protocol.edited opening lock (sections log) ≡ Some block))
        go false home coupled there left = left
        go true None coupled there left = absurd (let some = there refl in cc some)
        go true (Some block) coupled there left = (left, coupled.1)

    pub machine_looks : (found : Option B) (cells' : List (Option (Cell K B)))
        → IfSome (cell_at cells lock) (λ c. (served : Bool)
        × ((taken given ticket_index : ℕ) → Coupling taken given c.words → given ≤ ticket_index → ticket_index < given + CPUS → ticket ≡ ticket_index % 2 ^ 64
        → served ≡ (given == ticket_index))
        × (found ≡ (if served then c.home else None)) × (cells' ≡ with_cell cells lock (looked_cell c served)))
        → (log' : List (Event (Mark E))) → log' ≡ Look cpu lock (ticket_in (lock_phase cpu log)) (frees lock log % 2 ^ 64) ∷ log
        → (log' ≡ looked cpu lock ticket log)
        × MatchOption found (lock_phase cpu log' ≡ Waiting lock ticket)
        (λ block. (lock_phase cpu log' ≡ Holding lock ticket) × (block_after protocol.edited opening lock (sections log') ≡ Some block))
        × IsSound Coupling protocol opening log' cells'
    machine_looks found cells' did log' grew =
        let here = rw cell_is at did in
        let is : here.0 ≡ (frees lock log % 2 ^ 64 == ticket)
        = serves_exactly log legal cpu lock ticket waiting here.0 (λ ticket_index. here.1 (draws lock log) (frees lock log) ticket_index cell_words) in
        let same : log' ≡ looked cpu lock ticket log = grew ∙ ap (λ s. Look cpu lock (ticket_in s) (frees lock log % 2 ^ 64) ∷ log) waiting in (
          same,
          rw (same, here.2) (look_finds here.0 is),
          rw (same, here.3) (look_sound here.0 is),
        )

  -- a free brings the edited block home
  pub machine_frees : (cpu : CpuId) (ticket : ℕ) (mark : Mark E) (block : B) → lock_phase cpu log ≡ Holding lock ticket
      → option_map (protocol.edited mark.edit) (block_after protocol.edited opening lock (sections log)) ≡ Some block
      → StaysAllowed (protocol.allowed opening) (sections log) (section cpu lock mark.edit) → (cells' : List (Option (Cell K B)))
      → IfSome (cell_at cells lock) (λ c. (words : K) × ((taken given : ℕ) → Coupling taken given c.words → Coupling taken (given + 1) words)
      × (cells' ≡ with_cell cells lock (given_cell words block)))
      → (log' : List (Event (Mark E))) → log' ≡ Free cpu lock mark ∷ log → IsSound Coupling protocol opening log' cells'
  machine_frees cpu ticket mark block inside edited stays cells' did log' grew =
      let here = rw cell_is at did in
      let law = here.1 (draws lock log) (frees lock log) cell_words in
      rw (grew, here.2) (step_sound (Free cpu lock mark) refl ((ticket, inside), stays [] tt (sections_allowed (protocol.allowed opening) log sound.legal))
      (given_cell here.0 block) (rw (same_lock_self lock) law) (home_after_free protocol.edited opening lock cpu ticket mark log legal inside block edited))
