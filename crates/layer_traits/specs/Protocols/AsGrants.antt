-- A words log, translated into the log of grant words that says the same: each request, poll and
-- release of the one is one of the other.
use Rattle.std.specs.Prelude.{◌≡◌, ◌%◌, List, [], ◌∷◌}
use Rattle.event_log.specs.declared.{ids.{CpuId.CpuId, TheConstants.CPUS}, events.Event.Event}
use Rattle.event_log.specs.declared.events.Event.TheVariants.{Draw, Look, Free}
use Rattle.event_log.specs.declared.grants.GrantEvent.{GrantEvent, TheVariants.{Take, Peek, Give}}
use Rattle.event_log.specs.{Actions.acts_of, Grants.{IsLegalGrants, acts_of_grants}}
use Rattle.event_log.specs.{Grants.{grant_lock_phase, grant_word}, WordsLog.lock_phase}

-- an event after this translated past: a Peek reads what the Gives before it left in its ticket's
-- word
abbrev pub as_grant : {M : Type 0} → Event M → List (GrantEvent M) → GrantEvent M
as_grant (Draw cpu lock ticket) past = Take cpu lock ticket
as_grant (Look cpu lock ticket read) past =
    Peek cpu lock ticket (grant_word lock (ticket % CPUS) past)
as_grant (Free cpu lock mark) past = Give cpu lock mark

-- the same log in terms of grant words
abbrev pub as_grants : {M : Type 0} → List (Event M) → List (GrantEvent M)
as_grants [] = []
as_grants (e ∷ past) = as_grant e (as_grants past) ∷ as_grants past

-- the translated log is legal, leaves each CPU where the other log does, and has the same actions
pub record GrantsAgree {M : Type 0} (log : List (Event M)) : Type 1 where
  pub legal : IsLegalGrants (as_grants log)
  pub stands : (c : CpuId) → grant_lock_phase c (as_grants log) ≡ lock_phase c log
  pub acts : {N : Type 0} (name : M → N) → acts_of_grants name (as_grants log) ≡ acts_of name log
