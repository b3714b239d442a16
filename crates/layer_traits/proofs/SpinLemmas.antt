-- Failed polls change no CPU's phase or ticket index and no section, and are the same polls under
-- other names.
use Rattle.std.proofs.Common.{◌≡◌, ℕ, zero, suc, ◌<◌, ◌%◌, false, List, ◌∷◌, ◌++◌, map, replicate, refl, ap, ◌∙◌, arith}
use Rattle.event_log.specs.declared.{ids.{CpuId.CpuId, LockId.{LockId, TheVariants.Pending}, TheConstants.CPUS}, events.Event.{Event, TheVariants.Look}}
use Rattle.event_log.specs.{declared.grants.GrantEvent.{GrantEvent, TheVariants.Peek}, Actions.{Action, Try, Waits, phase, renamed, ticket_index_of}}
use Rattle.event_log.{specs.{Grants.grant_word, Sections.sections_in}, proofs.{Same.same_cpu_true, Renaming.phase_renamed}}
use Rattle.layer_traits.specs.{Protocols.AsGrants.as_grants, Polling.Spins.Misses}

-- zero polls are failed polls
pub none_missed : {N : Type 0} (cpu : CpuId) (acts : List (Action N)) → Misses cpu 0 acts acts
none_missed cpu acts = record { lock = Pending cpu; waits = λ some. absurd (omega arith); grows = refl }

module _ {N : Type 0} (cpu : CpuId) (lock : LockId) (old : List (Action N)) where
  abbrev missed : ℕ → List (Action N)
  missed looks = replicate looks (Try cpu lock false) ++ old

  phase_missed : (c : CpuId) (looks : ℕ) → phase cpu old ≡ Waits lock → phase c (missed looks) ≡ phase c old
  phase_missed c zero waits = refl
  phase_missed c (suc looks) waits = grind (arith, waits, same_cpu_true cpu c, phase_missed c looks waits)

  pub same_phase : (c : CpuId) (looks : ℕ) → (0 < looks → phase cpu old ≡ Waits lock) → phase c (missed looks) ≡ phase c old
  same_phase c looks given = grind (arith, phase_missed)

  pub same_spot : (c : CpuId) (looks : ℕ) → ticket_index_of c (missed looks) ≡ ticket_index_of c old
  same_spot c zero = refl
  same_spot c (suc looks) = same_spot c looks

  pub same_sections : (looks : ℕ) → sections_in (missed looks) ≡ sections_in old
  same_sections zero = refl
  same_sections (suc looks) = same_sections looks

-- what failed polls leave
pub record LeftSame {N : Type 0} (old new : List (Action N)) : Type 0 where
  pub phases : (c : CpuId) → phase c new ≡ phase c old
  pub indices : (c : CpuId) → ticket_index_of c new ≡ ticket_index_of c old
  pub sections : sections_in new ≡ sections_in old

pub left_same : {N : Type 0} (cpu : CpuId) (looks : ℕ) (old new : List (Action N)) → Misses cpu looks old new → LeftSame old new
left_same cpu looks old new misses = record {
  phases = λ c. ap (phase c) misses.grows ∙ same_phase cpu misses.lock old c looks misses.waits;
  indices = λ c. ap (ticket_index_of c) misses.grows ∙ same_spot cpu misses.lock old c looks;
  sections = ap sections_in misses.grows ∙ same_sections cpu misses.lock old looks;
}

missed_renamed : {M N : Type 0} (name : M → N) (cpu : CpuId) (lock : LockId) (old : List (Action M)) (looks : ℕ)
    → map (renamed name) (replicate looks (Try cpu lock false) ++ old) ≡ replicate looks (Try cpu lock false) ++ map (renamed name) old
missed_renamed name cpu lock old zero = refl
missed_renamed name cpu lock old (suc looks) = ap (λ l. Try cpu lock false ∷ l) (missed_renamed name cpu lock old looks)

-- under other names they are the same polls
pub misses_renamed : {M N : Type 0} (name : M → N) (cpu : CpuId) (looks : ℕ) (old new : List (Action M)) → Misses cpu looks old new
    → Misses cpu looks (map (renamed name) old) (map (renamed name) new)
misses_renamed name cpu looks old new misses = record {
  lock = misses.lock;
  waits = λ some. phase_renamed name cpu old ∙ misses.waits some;
  grows = ap (map (renamed name)) misses.grows ∙ missed_renamed name cpu misses.lock old looks;
}

module _ {M : Type 0} (cpu : CpuId) (lock : LockId) (ticket read : ℕ) (old : List (Event M)) where
  abbrev shown : ℕ
  shown = grant_word lock (ticket % CPUS) (as_grants old)

  word_peeked : (read_here : ℕ) (looks : ℕ) (past : List (GrantEvent M))
      → grant_word lock (ticket % CPUS) (replicate looks (Peek cpu lock ticket read_here) ++ past) ≡ grant_word lock (ticket % CPUS) past
  word_peeked read_here zero past = refl
  word_peeked read_here (suc looks) past = word_peeked read_here looks past

  -- polls of `serving`, translated into polls of a grant word
  pub as_peeks : (looks : ℕ) → as_grants (replicate looks (Look cpu lock ticket read) ++ old) ≡ replicate looks (Peek cpu lock ticket shown) ++ as_grants old
  as_peeks zero = refl
  as_peeks (suc looks) = grind (arith, as_peeks looks, word_peeked)
