-- The log of grant words into which a words log is translated is legal, and has the same phases,
-- actions and sections.
use Rattle.std.proofs.Common.{◌≡◌, ℕ, ◌+◌, ◌%◌, ◌^◌, List, [], ◌∷◌, ◌==◌, if◌then◌else◌, refl, ap}
use Rattle.std.proofs.Common.{sym, subst, ◌∙◌, Option, Some, None, MatchOption}
use Rattle.event_log.specs.declared.ids.{CpuId.CpuId, LockId.LockId, TheConstants.CPUS}
use Rattle.event_log.specs.declared.{grants.GrantEvent.TheVariants.Peek, events.Event.Event}
use Rattle.event_log.specs.declared.events.Event.TheVariants.{Draw, Look, Free}
use Rattle.event_log.specs.Actions.{Take as TakeIndex, Try as TryEntry, Give as GiveOn, acts_of}
use Rattle.event_log.specs.{Actions.{takes, gives, ticket_index_of}, Grants.IsLegalGrants}
use Rattle.event_log.specs.{Grants.{acts_of_grants, grant_lock_phase, grant_word}, History.IsLawful}
use Rattle.event_log.specs.{History.same_cpu, Sections.{Section, block_after, sections_in}}
use Rattle.event_log.specs.WordsLog.{IsLegalWords, Idle, Holding, Waiting, lock_phase}
use Rattle.event_log.proofs.{Foreign.sections_acts, GrantWords.{legal_grants, takes_grants}}
use Rattle.event_log.proofs.Tickets.{legal_acts, takes_acts}
use Rattle.layer_traits.specs.{declared.edits.Mark.Mark, Protocols.AsGrants.GrantsAgree}
use Rattle.layer_traits.specs.Protocols.{AsGrants.as_grants, GrantProtocol.GrantMayCome}
use Rattle.layer_traits.specs.Protocols.GrantProtocol.{IsHeldBySome, grant_sections}
use Rattle.layer_traits.specs.Protocols.{OneLock.SomeoneInside, WordsProtocol.MayCome}
use Rattle.layer_traits.specs.Protocols.WordsProtocol.{KeepsProtocol, edit_of, sections}
use Rattle.layer_traits.specs.Protocols.WordsProtocol.{words_legal}

module _ {M : Type 0} where
  abbrev same : M → M
  same mark = mark

  -- a poll of the grant word succeeds exactly if the poll of `serving` does: both say that the
  -- ticket index is served
  hits_same : (cpu : CpuId) (lock : LockId) (ticket read : ℕ) (past : List (Event M))
      → IsLegalWords (Look cpu lock ticket read ∷ past)
      → (grants_agree : GrantsAgree past)
      → grant_lock_phase cpu (as_grants past) ≡ Waiting lock ticket
      → (grant_word lock (ticket % CPUS) (as_grants past) == (ticket + 1) % 2 ^ 64)
      ≡ (read == ticket)
  hits_same cpu lock ticket read past legal grants_agree waits =
      let peeks =
      legal_grants same
      (Peek cpu lock ticket (grant_word lock (ticket % CPUS) (as_grants past)) ∷ as_grants past)
      ((waits, refl), grants_agree.legal) in
      let looks = legal_acts same (Look cpu lock ticket read ∷ past) legal in
      peeks.0.1 ∙ (ap (λ l. gives lock l == ticket_index_of cpu l) (grants_agree.acts same)
      ∙ sym looks.0.1)

  pub grants_agree : (log : List (Event M)) → IsLegalWords log → GrantsAgree log
  grants_agree [] legal = record { legal = tt; stands = λ c. refl; acts = λ name. refl }
  grants_agree (Draw cpu lock ticket ∷ past) legal =
      let before = grants_agree past legal.1 in
      record {
        legal = (
          (
            legal.0.0,
            before.stands cpu ∙ legal.0.1,
            legal.0.2 ∙ ap (λ n. n % 2 ^ 64)
                (sym (takes_acts same lock past) ∙ (ap (takes lock) (sym (before.acts same))
                ∙ takes_grants same lock (as_grants past))),
          ),
          before.legal,
        );
        stands = λ c. ap (λ s. if same_cpu cpu c then Waiting lock ticket else s) (before.stands c);
        acts = λ name. ap (λ l. TakeIndex cpu lock ∷ l) (before.acts name);
      }
  grants_agree (Look cpu lock ticket read ∷ past) legal =
      let before = grants_agree past legal.1 in
      let waits = before.stands cpu ∙ legal.0.0 in
      let hits = hits_same cpu lock ticket read past legal before waits in
      record {
        legal = ((waits, refl), before.legal);
        stands =
            λ c. ap (λ b. if same_cpu cpu c
            then (if b then Holding lock ticket else Waiting lock ticket)
            else grant_lock_phase c (as_grants past)) hits
            ∙ ap (λ s. if same_cpu cpu c
            then (if read == ticket then Holding lock ticket else Waiting lock ticket)
            else s) (before.stands c);
        acts = λ name. ap (λ b. TryEntry cpu lock b ∷ acts_of_grants name (as_grants past)) hits
            ∙ ap (λ l. TryEntry cpu lock (read == ticket) ∷ l) (before.acts name);
      }
  grants_agree (Free cpu lock mark ∷ past) legal =
      let before = grants_agree past legal.1 in
      record {
        legal = ((legal.0.0, before.stands cpu ∙ legal.0.1), before.legal);
        stands = λ c. ap (λ s. if same_cpu cpu c then Idle else s) (before.stands c);
        acts = λ name. ap (λ l. GiveOn cpu lock (name mark) ∷ l) (before.acts name);
      }

  -- the translated log leaves each CPU where the other log does
  pub stands_as_grants : (log : List (Event M)) → IsLegalWords log → (c : CpuId)
      → grant_lock_phase c (as_grants log) ≡ lock_phase c log
  stands_as_grants log legal c = (grants_agree log legal).stands c

  -- and has the same actions
  pub acts_as_grants : {N : Type 0} (name : M → N) (log : List (Event M)) → IsLegalWords log
      → acts_of_grants name (as_grants log) ≡ acts_of name log
  acts_as_grants name log legal = (grants_agree log legal).acts name

-- and the same sections
pub sections_as_grants : {E : Type 0} (log : List (Event (Mark E))) → IsLegalWords log
    → grant_sections (as_grants log) ≡ sections log
sections_as_grants log legal =
    ap sections_in (acts_as_grants edit_of log legal) ∙ sections_acts edit_of log

module _ {E : Type 0} (Allowed : List (Section E) → Section E → Type 0) where
  keeps_as_grants : (e : Event (Mark E)) (past : List (Event (Mark E))) → IsLegalWords past
      → KeepsProtocol Allowed past e
      → IsLawful (GrantMayCome Allowed) (as_grants past) → IsLegalGrants (as_grants (e ∷ past))
      → IsLawful (GrantMayCome Allowed) (as_grants (e ∷ past))
  keeps_as_grants (Draw cpu lock ticket) past legal keeps before abstract_answer =
      ((abstract_answer.0, tt), before)
  keeps_as_grants (Look cpu lock ticket read) past legal keeps before abstract_answer =
      ((abstract_answer.0, tt), before)
  keeps_as_grants (Free cpu lock mark) past legal keeps before abstract_answer = (
    (
      abstract_answer.0,
      subst (λ l. Allowed l (record { cpu = cpu; lock = lock; edit = mark.edit }))
          (sym (sections_as_grants past legal)) keeps,
    ),
    before,
  )

  -- if each event of the log is allowed, so is each of the translated one
  pub as_grants_come : (log : List (Event (Mark E))) → IsLawful (MayCome Allowed) log
      → IsLawful (GrantMayCome Allowed) (as_grants log)
  as_grants_come [] lawful = tt
  as_grants_come (e ∷ past) lawful =
      let legal : IsLegalWords past = words_legal Allowed past lawful.1 in
      keeps_as_grants e past legal lawful.0.1 (as_grants_come past lawful.1)
      (grants_agree (e ∷ past) (lawful.0.0, legal)).legal

-- what one log says of a stored block, the other says too
pub home_as_grants : {E B : Type 0} (edited : E → B → B) (opening : LockId → Option B)
    (log : List (Event (Mark E))) → IsLegalWords log → (lock : LockId)
    (home : Option B) → MatchOption home (SomeoneInside lock log)
    (λ block. block_after edited opening lock (sections log) ≡ Some block)
    → MatchOption home (IsHeldBySome lock (as_grants log))
    (λ block. block_after edited opening lock (grant_sections (as_grants log)) ≡ Some block)
home_as_grants edited opening log legal lock None inside =
    (inside.0, inside.1, stands_as_grants log legal inside.0 ∙ inside.2)
home_as_grants edited opening log legal lock (Some block) is =
    ap (block_after edited opening lock) (sections_as_grants log legal) ∙ is
