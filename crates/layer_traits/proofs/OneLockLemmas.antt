-- The stored block and the counts of one lock, event by event.
use Rattle.std.proofs.Common.{◌≡◌, ℕ, ◌+◌, ◌%◌, ◌^◌, ◌<◌, ◌≤◌, Bool, true, false, List, [], ◌∷◌, ◌==◌, Option, Some, None, IsSome, option_map, if◌then◌else◌}
use Rattle.std.proofs.Common.{refl, ap, sym, ◌∙◌, subst, arith}
use Rattle.event_log.specs.declared.{ids.{CpuId.CpuId, LockId.LockId, TheConstants.CPUS}, events.Event.{Event, TheVariants.{Draw, Look, Free}}}
use Rattle.event_log.specs.{Actions.{acts_of, gives, phase, ticket_index_of}, History.{same_cpu, same_lock}, Sections.block_after, WordsLog.IsLegalWords}
use Rattle.event_log.{specs.WordsLog.{MayFollow, Idle, Waiting, Holding, cpu_of_event, left_by, lock_phase, draws, frees, is_free}, proofs.Exclusion.is_at}
use Rattle.event_log.proofs.{Exclusion.spot_is_near, Same.{same_cpu_self, same_cpu_true, same_lock_self}, Observed.{TicketOf, phase_of}, Tickets.gives_acts}
use Rattle.event_log.proofs.Tickets.{legal_acts, mutual_exclusion, phase_acts, same_rests, lock_phase_other, ticket_at}
use Rattle.layer_traits.specs.{declared.edits.Mark.Mark, Protocols.{OneLock.{SomeoneInside, NoneInside, HomeFits}, WordsProtocol.{edit_of, sections}}}

-- the lock whose word an event acts on
abbrev pub event_lock : {M : Type 0} → Event M → LockId
event_lock (Draw cpu lock ticket) = lock
event_lock (Look cpu lock ticket read) = lock
event_lock (Free cpu lock mark) = lock

pub lock_phase_own : {M : Type 0} (e : Event M) (log : List (Event M)) → lock_phase (cpu_of_event e) (e ∷ log) ≡ left_by e
lock_phase_own e log = ap (λ b. if b then left_by e else lock_phase (cpu_of_event e) log) (same_cpu_self (cpu_of_event e))

-- an event at another lock counts nothing here
pub counts_elsewhere : {M : Type 0} (Coupling : ℕ → ℕ → Type 0) (e : Event M) (log : List (Event M)) (lock : LockId) → same_lock lock (event_lock e) ≡ false
    → Coupling (draws lock log) (frees lock log) → Coupling (draws lock (e ∷ log)) (frees lock (e ∷ log))
counts_elsewhere Coupling e log lock other coupled = grind arith

-- for a CPU that waits, words that show which ticket index is served determine whether its poll
-- succeeds
pub serves_exactly : {E : Type 0} (log : List (Event (Mark E))) → IsLegalWords log → (cpu : CpuId) (lock : LockId) (ticket : ℕ)
    → lock_phase cpu log ≡ Waiting lock ticket → (served : Bool)
    → ((ticket_index : ℕ) → frees lock log ≤ ticket_index → ticket_index < frees lock log + CPUS → ticket ≡ ticket_index % 2 ^ 64
    → served ≡ (frees lock log == ticket_index))
    → served ≡ (frees lock log % 2 ^ 64 == ticket)
serves_exactly log legal cpu lock ticket waiting served tells =
    let acts = legal_acts edit_of log legal in
    let there : is_at lock (phase cpu (acts_of edit_of log)) ≡ true =
    ap (is_at lock) (phase_acts edit_of cpu log ∙ ap phase_of waiting) ∙ same_lock_self lock in
    let ticket_index = ticket_index_of cpu (acts_of edit_of log) in
    let has : ticket ≡ ticket_index % 2 ^ 64 = subst (λ s. TicketOf s ticket_index) waiting (ticket_at edit_of log legal cpu) in
    let count : gives lock (acts_of edit_of log) ≡ frees lock log = gives_acts edit_of lock log in
    let close = spot_is_near (acts_of edit_of log) acts cpu lock there in
    let ahead : frees lock log ≤ ticket_index = subst (λ n. n ≤ ticket_index) count close.0 in
    let behind : ticket_index < frees lock log + CPUS = subst (λ n. ticket_index < n + CPUS) count close.1 in
    tells ticket_index ahead behind has ∙ sym (same_rests (frees lock log) ticket_index (frees lock log % 2 ^ 64) ticket ahead behind refl has)

-- a CPU inside the lock is not the CPU that acts, if the latter was not inside, and therefore stays
-- inside
someone_stays : {M : Type 0} (lock : LockId) (e : Event M) (log : List (Event M)) → ((t : ℕ) → lock_phase (cpu_of_event e) log ≡ Holding lock t → ⊥)
    → SomeoneInside lock log → SomeoneInside lock (e ∷ log)
someone_stays lock e log was (c, t, inside) = (c, t, grind (arith, lock_phase_other e log c, was t, same_cpu_true (cpu_of_event e) c, inside))

-- if no CPU is inside, an event by which its CPU does not enter leaves none inside
nobody_stays : {M : Type 0} (lock : LockId) (e : Event M) (log : List (Event M)) → ((t : ℕ) → left_by e ≡ Holding lock t → ⊥)
    → NoneInside lock log → NoneInside lock (e ∷ log)
nobody_stays lock e log now nobody c t inside = grind (arith, lock_phase_own, lock_phase_other, same_cpu_true)

not_here : (lock at : LockId) (t s : ℕ) → same_lock lock at ≡ false → Holding at s ≡ Holding lock t → ⊥
not_here lock at t s other e = grind (arith, same_lock_self)

not_entered : (lock at : LockId) (b : Bool) (t s : ℕ) → same_lock lock at ≡ false → (if b then Holding at s else Waiting at s) ≡ Holding lock t → ⊥
not_entered lock at b t s other h = grind (arith, not_here)

module _ {E B : Type 0} (edited : E → B → B) (opening : LockId → Option B) (lock : LockId) where
  block_keeps : (e : Event (Mark E)) (log : List (Event (Mark E))) → is_free lock e ≡ false
      → block_after edited opening lock (sections (e ∷ log)) ≡ block_after edited opening lock (sections log)
  block_keeps e log other = grind arith

  -- an event that does not free this lock, and by which no CPU enters or leaves it
  lock_stays : (e : Event (Mark E)) (log : List (Event (Mark E))) → is_free lock e ≡ false → ((t : ℕ) → lock_phase (cpu_of_event e) log ≡ Holding lock t → ⊥)
      → ((t : ℕ) → left_by e ≡ Holding lock t → ⊥) → (home : Option B) → HomeFits edited opening log lock home → HomeFits edited opening (e ∷ log) lock home
  lock_stays e log not_freed was now home coupled = grind (arith, someone_stays, nobody_stays, block_keeps)

  -- an event at another lock changes nothing here
  pub home_elsewhere : (e : Event (Mark E)) (log : List (Event (Mark E))) → MayFollow log e → same_lock lock (event_lock e) ≡ false
      → (home : Option B) → HomeFits edited opening log lock home → HomeFits edited opening (e ∷ log) lock home
  home_elsewhere e log may other = grind (arith, lock_stays, not_entered, not_here)

  -- a draw leaves the stored block unchanged
  pub home_after_draw : (cpu : CpuId) (ticket : ℕ) (log : List (Event (Mark E))) → lock_phase cpu log ≡ Idle → (home : Option B)
      → HomeFits edited opening log lock home → HomeFits edited opening (Draw cpu lock ticket ∷ log) lock home
  home_after_draw cpu ticket log outside = lock_stays (Draw cpu lock ticket) log refl (λ t h. absurd (cc (outside, h))) (λ t h. absurd (cc h))

  -- and so does a failed poll
  pub home_after_miss : (cpu : CpuId) (ticket read : ℕ) (log : List (Event (Mark E))) → lock_phase cpu log ≡ Waiting lock ticket → (read == ticket) ≡ false
      → (home : Option B) → HomeFits edited opening log lock home → HomeFits edited opening (Look cpu lock ticket read ∷ log) lock home
  home_after_miss cpu ticket read log waiting misses = grind (arith, lock_stays)

  -- a successful poll removes the stored block
  pub home_after_hit : (cpu : CpuId) (ticket read : ℕ) (log : List (Event (Mark E))) → (read == ticket) ≡ true
      → HomeFits edited opening (Look cpu lock ticket read ∷ log) lock None
  home_after_hit cpu ticket read log hits =
      (cpu, ticket, lock_phase_own (Look cpu lock ticket read) log ∙ ap (λ b. if b then Holding lock ticket else Waiting lock ticket) hits)

  -- a free stores the edited block
  pub home_after_free : (cpu : CpuId) (ticket : ℕ) (mark : Mark E) (log : List (Event (Mark E))) → IsLegalWords log → lock_phase cpu log ≡ Holding lock ticket
      → (block : B) → option_map (edited mark.edit) (block_after edited opening lock (sections log)) ≡ Some block
      → HomeFits edited opening (Free cpu lock mark ∷ log) lock (Some block)
  home_after_free cpu ticket mark log legal inside block is =
      grind (arith, same_lock_self, lock_phase_own, same_cpu_true, lock_phase_other, mutual_exclusion, same_cpu_self)

  -- a successful poll finds the block stored
  pub hit_finds : (cpu : CpuId) (ticket read : ℕ) (log : List (Event (Mark E))) → IsLegalWords (Look cpu lock ticket read ∷ log) → (read == ticket) ≡ true
      → (home : Option B) → HomeFits edited opening log lock home → IsSome home
  hit_finds cpu ticket read log legal hits (Some block) coupled = refl
  hit_finds cpu ticket read log legal hits None coupled = absurd (go (same_cpu cpu coupled.0) refl)
    where
      entered : lock_phase cpu (Look cpu lock ticket read ∷ log) ≡ Holding lock ticket
      entered = lock_phase_own (Look cpu lock ticket read) log ∙ ap (λ b. if b then Holding lock ticket else Waiting lock ticket) hits

      go : (b : Bool) → same_cpu cpu coupled.0 ≡ b → ⊥
      go true same = cc (legal.0.0, coupled.2, same_cpu_true cpu coupled.0 same)
      go false other =
          let there = lock_phase_other (Look cpu lock ticket read) log coupled.0 other ∙ coupled.2 in
          let one = mutual_exclusion (Look cpu lock ticket read ∷ log) legal coupled.0 cpu lock coupled.1 ticket there entered in
          cc (other, ap (same_cpu cpu) one, same_cpu_self cpu)

  -- if no CPU is inside, the block is stored
  pub all_home : (log : List (Event (Mark E))) → NoneInside lock log → (home : Option B) → HomeFits edited opening log lock home → IsSome home
  all_home log nobody home coupled = grind arith

  -- before the first event the block is stored
  pub home_at_start : (block : B) → opening lock ≡ Some block → HomeFits edited opening [] lock (Some block)
  home_at_start block is = (λ c t h. absurd (cc h), is)
