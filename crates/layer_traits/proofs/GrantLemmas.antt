-- How the translated log of grant words grows, and what its counts and words are.
use Rattle.std.proofs.Common.{arith, ◌≡◌, ℕ, ◌<◌, List, [], ◌∷◌, ◌++◌, Option, Some, None, MatchOption, slice_index, refl, ap, sym, ◌∙◌}
use Rattle.event_log.specs.{declared.{ids.{CpuId.CpuId, LockId.LockId, TheConstants.CPUS}, grants.GrantEvent.GrantEvent, events.Event.Event}, Actions.gives}
use Rattle.event_log.specs.{Actions.takes, Grants.{WordFits, cpu_of_grant, grant_lock_phase, grant_word, tickets}, History.{AreOthers, Adds, same_cpu}}
use Rattle.event_log.specs.{Sections.block_after, WordsLog.{IsLegalWords, Holding, Waiting, cpu_of_event, draws, frees, lock_phase}}
use Rattle.event_log.proofs.{GrantWords.{legal_grants, one_word, takes_grants, words_fit}, Tickets.{gives_acts, takes_acts}}
use Rattle.layer_traits.specs.{declared.edits.Mark.Mark, Protocols.{GrantProtocol.grant_sections, AsGrants.{as_grant, as_grants}, WordsProtocol.sections}}
use Rattle.layer_traits.specs.Laws.AsGrants.{acts_as_grants, sections_as_grants, stands_as_grants, grants_agree}

module _ {M : Type 0} where
  -- the events after these, as they are translated
  record MoreAsGrants (others old : List (Event M)) : Type 0 where
    more : List (GrantEvent M)
    is : as_grants (others ++ old) ≡ more ++ as_grants old
    foreign : (c : CpuId) → AreOthers cpu_of_event c others → AreOthers cpu_of_grant c more

  cpu_as_grant : (e : Event M) (past : List (GrantEvent M)) → cpu_of_grant (as_grant e past) ≡ cpu_of_event e
  cpu_as_grant e past = grind arith

  more_as_grants : (others old : List (Event M)) → MoreAsGrants others old
  more_as_grants [] old = record { more = []; is = refl; foreign = λ c others. tt }
  more_as_grants (e ∷ others) old =
      let rest = more_as_grants others old in
      let one : GrantEvent M = as_grant e (as_grants (others ++ old)) in
      record {
        more = one ∷ rest.more;
        is = ap (λ l. one ∷ l) rest.is;
        foreign = λ c is. (ap (λ d. same_cpu d c) (cpu_as_grant e (as_grants (others ++ old))) ∙ is.0, rest.foreign c is.1);
      }

  -- if the log grew by an event, the translated one grew by that event's translation
  pub adds_mapped : (By : CpuId → Type 0) (e : Event M) (old new : List (Event M)) → (adds : Adds By cpu_of_event e old new)
      → Adds By cpu_of_grant (as_grant e (as_grants (adds.others ++ old))) (as_grants old) (as_grants new)
  adds_mapped By e old new adds =
      let rest = more_as_grants adds.others old in
      record {
        others = rest.more;
        foreign = λ c acts. rest.foreign c (adds.foreign c acts);
        is = ap as_grants adds.is ∙ ap (λ l. as_grant e (as_grants (adds.others ++ old)) ∷ l) rest.is;
      }

  module _ (log : List (Event M)) (legal : IsLegalWords log) (lock : LockId) where
    abbrev same : M → M
    same mark = mark

    -- the tickets are the draws
    pub tickets_as_grants : tickets lock (as_grants log) ≡ draws lock log
    tickets_as_grants = sym (takes_grants same lock (as_grants log)) ∙ (ap (takes lock) (acts_as_grants same log legal) ∙ takes_acts same lock log)

    -- words that agree with the number of frees are the grant words
    pub words_as_grants : (words : List ℕ) → ((k : ℕ) → k < CPUS → WordFits k (frees lock log) (slice_index words k))
        → (k : ℕ) → k < CPUS → slice_index words k ≡ grant_word lock k (as_grants log)
    words_as_grants words coupled k within =
        let abstract_answer = (grants_agree log legal).legal in
        let count = ap (gives lock) (acts_as_grants same log legal) ∙ gives_acts same lock log in
        one_word k (frees lock log) (slice_index words k) (grant_word lock k (as_grants log)) (coupled k within)
        (rw count at (words_fit same lock k within (as_grants log) abstract_answer (legal_grants same (as_grants log) abstract_answer)))

-- what a poll found, in terms of grant words
pub hits_as_grants : {E B : Type 0} (edited : E → B → B) (opening : LockId → Option B) (log : List (Event (Mark E))) → IsLegalWords log
    → (cpu : CpuId) (lock : LockId) (ticket : ℕ) (found : Option B)
    → MatchOption found (lock_phase cpu log ≡ Waiting lock ticket)
    (λ block. (lock_phase cpu log ≡ Holding lock ticket) × (block_after edited opening lock (sections log) ≡ Some block))
    → MatchOption found (grant_lock_phase cpu (as_grants log) ≡ Waiting lock ticket) (λ block. (grant_lock_phase cpu (as_grants log) ≡ Holding lock ticket)
    × (block_after edited opening lock (grant_sections (as_grants log)) ≡ Some block))
hits_as_grants edited opening log legal cpu lock ticket None waits = stands_as_grants log legal cpu ∙ waits
hits_as_grants edited opening log legal cpu lock ticket (Some block) hit = (
  stands_as_grants log legal cpu ∙ hit.0,
  ap (block_after edited opening lock) (sections_as_grants log legal) ∙ hit.1,
)
