-- What one event of a machine is at the lock's queue: an action, added after environment events, by
-- a CPU whose ticket is its ticket index modulo 2^64.
use Rattle.std.proofs.Common.{◌≡◌, ℕ, ◌%◌, ◌^◌, List, [], ◌∷◌, ◌++◌, Option, Some, None, MatchOption, map, ap, sym, ◌∙◌, if◌then◌else◌, arith}
use Rattle.std.proofs.lemmas.List.{map-append}
use Rattle.event_log.specs.declared.{ids.{CpuId.CpuId, LockId.LockId}, events.Event.{Event, TheVariants.Draw}, grants.GrantEvent.{GrantEvent, TheVariants.Take}}
use Rattle.event_log.specs.{Actions.{Action, Waits, Holds, cpu_of_action, phase, ticket_index_of, act_of, acts_of}, Grants.{IsLegalGrants, cpu_of_grant}}
use Rattle.event_log.specs.{Grants.{grant_lock_phase, act_of_grant, acts_of_grants}, History.{Adds, AreOthers, IsLawful}, Sections.Section}
use Rattle.event_log.{specs.WordsLog.{IsLegalWords, Waiting, Holding, cpu_of_event, lock_phase, LockPhase}, proofs.GrantWords.{grant_ticket_at, phase_grants}}
use Rattle.event_log.proofs.{Same.same_cpu_self, Tickets.{cpu_of_action_is, phase_acts, ticket_at}, Observed.phase_of}
use Rattle.layer_traits.{proofs.{OneLockLemmas.lock_phase_own, Seen.words_legal}, specs.{declared.edits.Mark.Mark, Protocols.WordsProtocol.{edit_of, MayCome}}}
use Rattle.{layer_traits.specs.Protocols.GrantProtocol.GrantMayCome, spinlock.specs.Laws.LineLaws.{grants_legal, line_waiting_with}}

others_mapped : {X Y : Type 0} (f : X → Y) (by : X → CpuId) (reported_by : Y → CpuId) → ((e : X) → reported_by (f e) ≡ by e) → (c : CpuId) (others : List X)
    → AreOthers by c others → AreOthers reported_by c (map f others)
others_mapped f by reported_by same c [] foreign = tt
others_mapped f by reported_by same c (e ∷ others) foreign =
    (rw (same e) foreign.0, others_mapped f by reported_by same c others foreign.1)

-- a history that grew by one event grew by one action, if each event is mapped to an action of its
-- CPU
adds_mapped : {X Y : Type 0} (f : X → Y) (by : X → CpuId) (reported_by : Y → CpuId) → ((e : X) → reported_by (f e) ≡ by e)
    → (ActsFor : CpuId → Type 0) (e : X) (old new : List X) → Adds ActsFor by e old new → Adds ActsFor reported_by (f e) (map f old) (map f new)
adds_mapped f by reported_by same ActsFor e old new adds = record {
  others = map f adds.others;
  foreign = λ c acts. others_mapped f by reported_by same c adds.others (adds.foreign c acts);
  is = ap (map f) adds.is ∙ ap (λ l. f e ∷ l) (map-append f adds.others old);
}

-- what a poll of a ticket word or of a grant word found, in terms of the queue
pub line_enters : {E B : Type 0} (acts : List (Action E)) (cpu : CpuId) (s : LockPhase) (lock : LockId) (ticket : ℕ) → phase cpu acts ≡ phase_of s
    → (abstract_answer truth : Option B) → truth ≡ abstract_answer → (found : Option B)
    → MatchOption found (s ≡ Waiting lock ticket) (λ block. (s ≡ Holding lock ticket) × (abstract_answer ≡ Some block))
    → MatchOption found (phase cpu acts ≡ Waits lock) (λ block. (phase cpu acts ≡ Holds lock) × (truth ≡ Some block))
line_enters acts cpu s lock ticket at abstract_answer truth same None waits = at ∙ ap phase_of waits
line_enters acts cpu s lock ticket at abstract_answer truth same (Some block) hit = (at ∙ ap phase_of hit.0, same ∙ hit.1)

module _ {E : Type 0} {ActsFor : CpuId → Type 0} {old new : List (Event (Mark E))} where
  pub event_adds : {e : Event (Mark E)} → Adds ActsFor cpu_of_event e old new
      → Adds ActsFor cpu_of_action (act_of edit_of e) (acts_of edit_of old) (acts_of edit_of new)
  event_adds {e} adds = adds_mapped (act_of edit_of) cpu_of_event cpu_of_action (cpu_of_action_is edit_of) ActsFor e old new adds

  -- a draw returns the ticket of the ticket index
  pub draws_spot : {cpu : CpuId} {lock : LockId} {ticket : ℕ} → Adds ActsFor cpu_of_event (Draw cpu lock ticket) old new → IsLegalWords new
      → ticket ≡ ticket_index_of cpu (acts_of edit_of new) % 2 ^ 64
  draws_spot {cpu} {lock} {ticket} adds legal =
      rw (ap (lock_phase cpu) adds.is ∙ lock_phase_own (Draw cpu lock ticket) (adds.others ++ old)) at (ticket_at edit_of new legal cpu)

-- a CPU that waits in the queue waits with the ticket of its ticket index
pub waits_by_ticket : {E : Type 0} (Allowed : List (Section E) → Section E → Type 0) (log : List (Event (Mark E))) → IsLawful (MayCome Allowed) log
    → (cpu : CpuId) (lock : LockId) (ticket : ℕ) → phase cpu (acts_of edit_of log) ≡ Waits lock → ticket ≡ ticket_index_of cpu (acts_of edit_of log) % 2 ^ 64
    → lock_phase cpu log ≡ Waiting lock ticket
waits_by_ticket Allowed log lawful cpu lock ticket waits is = line_waiting_with (lock_phase cpu log) lock (ticket_index_of cpu (acts_of edit_of log)) ticket
    (sym (phase_acts edit_of cpu log) ∙ waits) (ticket_at edit_of log (words_legal Allowed log lawful) cpu) is

cpu_of_act_of_grant : {E : Type 0} (e : GrantEvent (Mark E)) → cpu_of_action (act_of_grant edit_of e) ≡ cpu_of_grant e
cpu_of_act_of_grant e = grind arith

module _ {E : Type 0} {ActsFor : CpuId → Type 0} {old new : List (GrantEvent (Mark E))} where
  pub grant_adds : {e : GrantEvent (Mark E)} → Adds ActsFor cpu_of_grant e old new
      → Adds ActsFor cpu_of_action (act_of_grant edit_of e) (acts_of_grants edit_of old) (acts_of_grants edit_of new)
  grant_adds {e} adds = adds_mapped (act_of_grant edit_of) cpu_of_grant cpu_of_action cpu_of_act_of_grant ActsFor e old new adds

  -- a Take returns the ticket of the ticket index
  pub takes_spot : {cpu : CpuId} {lock : LockId} {ticket : ℕ} → Adds ActsFor cpu_of_grant (Take cpu lock ticket) old new → IsLegalGrants new
      → ticket ≡ ticket_index_of cpu (acts_of_grants edit_of new) % 2 ^ 64
  takes_spot {cpu} {lock} {ticket} adds legal = rw (ap (grant_lock_phase cpu) adds.is
      ∙ ap (λ b. if b then Waiting lock ticket else grant_lock_phase cpu (adds.others ++ old)) (same_cpu_self cpu)) at (grant_ticket_at edit_of new legal cpu)

pub waits_by_grant : {E : Type 0} (Allowed : List (Section E) → Section E → Type 0) (log : List (GrantEvent (Mark E)))
    → IsLawful (GrantMayCome Allowed) log
    → (cpu : CpuId) (lock : LockId) (ticket : ℕ) → phase cpu (acts_of_grants edit_of log) ≡ Waits lock
    → ticket ≡ ticket_index_of cpu (acts_of_grants edit_of log) % 2 ^ 64 → grant_lock_phase cpu log ≡ Waiting lock ticket
waits_by_grant Allowed log lawful cpu lock ticket waits is =
    line_waiting_with (grant_lock_phase cpu log) lock (ticket_index_of cpu (acts_of_grants edit_of log)) ticket (sym (phase_grants edit_of cpu log) ∙ waits)
    (grant_ticket_at edit_of log (grants_legal Allowed log lawful) cpu) is
