-- A legal log of grant words is a legal list of actions: what a word holds says exactly whether its
-- waiter is served.
use Rattle.std.proofs.Common.{◌≡◌, ℕ, ◌+◌, ◌%◌, ◌^◌, ◌<◌, ◌≤◌, ◌⊎◌, inl, inr, List, [], ◌∷◌, ◌==◌, if◌then◌else◌, refl, ap, sym, subst, ◌∙◌, arith}
use Rattle.std.proofs.lemmas.Bool.{eqb-true, eqb-false, cond_both, cases_Bool, Decides.nat_tests}
use Rattle.event_log.specs.declared.{ids.{CpuId.CpuId, LockId.LockId, TheConstants.CPUS}, grants.GrantEvent.{GrantEvent, TheVariants.{Take, Peek, Give}}}
use Rattle.event_log.specs.{History.same_lock, WordsLog.Holding, Grants.{tickets, grant_lock_phase, ticket_in, after_give, grant_word, MayFollowGrants}}
use Rattle.event_log.specs.{Grants.{IsLegalGrants, act_of_grant, acts_of_grants, WordFits}, Actions.{phase, ticket_index_of, takes, gives, MayAct, AreLegal}}
use Rattle.event_log.proofs.{Same.{same_cpu_true, same_lock_self, same_lock_true}, Exclusion.{is_at, line_at, one_holds, spot_is_near}, Observed.phase_of}
use Rattle.event_log.proofs.Observed.{TicketOf, eqb_same}

-- the lock phase of a CPU determines its phase
pub phase_grants : {M N : Type 0} (name : M → N) (c : CpuId) (log : List (GrantEvent M)) → phase c (acts_of_grants name log) ≡ phase_of (grant_lock_phase c log)
phase_grants name c [] = refl
phase_grants name c (e ∷ past) = grind (arith, phase_grants name c past)

-- the requests are the tickets
pub takes_grants : {M N : Type 0} (name : M → N) (lock : LockId) (log : List (GrantEvent M)) → takes lock (acts_of_grants name log) ≡ tickets lock log
takes_grants name lock [] = refl
takes_grants name lock (e ∷ past) = grind (arith, takes_grants name lock past)

-- in a legal log each ticket is the ticket index modulo 2^64
pub grant_ticket_at : {M N : Type 0} (name : M → N) (log : List (GrantEvent M)) → IsLegalGrants log → (c : CpuId)
    → TicketOf (grant_lock_phase c log) (ticket_index_of c (acts_of_grants name log))
grant_ticket_at name [] legal c = tt
grant_ticket_at name (Take cpu lock ticket ∷ past) legal c = grind (arith, same_cpu_true, takes_grants name lock past, grant_ticket_at name past legal.1 c)
grant_ticket_at name (Peek cpu lock ticket read ∷ past) legal c = grind (arith, same_cpu_true, grant_ticket_at name past legal.1 c)
grant_ticket_at name (Give cpu lock mark ∷ past) legal c = grind (arith, grant_ticket_at name past legal.1 c)

pub fits_at_start : (word : ℕ) → word < CPUS → WordFits word 0 (if word == 0 then 1 else 0)
fits_at_start word within = record {
  written = λ le. (0, omega arith, omega arith, omega arith, grind (arith, nat_tests));
  unwritten = λ lt. grind (arith, nat_tests);
}

-- a Give at the ticket index that is served writes the next index's word
fits_here : (word given ticket : ℕ) → word < CPUS → ticket ≡ given % 2 ^ 64 → word ≡ (ticket + 1) % CPUS → WordFits word (given + 1) ((ticket + 2) % 2 ^ 64)
fits_here word given ticket within is here = record {
  written = λ le. (given + 1, omega arith, omega arith, omega arith, omega arith);
  unwritten = λ lt. absurd (omega arith);
}

within_or_past : (word given : ℕ) → (word ≤ given) ⊎ (given < word)
within_or_past word given = grind arith

-- and no other word
fits_there : (word given ticket held : ℕ) → word < CPUS → ticket ≡ given % 2 ^ 64 → (word ≡ (ticket + 1) % CPUS → ⊥) → WordFits word given held
    → WordFits word (given + 1) held
fits_there word given ticket held within is there fits = record {
  written = λ le. elim (within_or_past word given) [
    | inl old ↦ let latest = fits.written old in (latest.0, omega arith, omega arith, latest.3, latest.4)
    | inr new ↦ absurd (there (omega arith))
  ];
  unwritten = λ lt. fits.unwritten (omega arith);
}

latest_is_served : (given ticket_index ticket word held k : ℕ) → given ≤ ticket_index → ticket_index < given + CPUS → ticket ≡ ticket_index % 2 ^ 64
    → word ≡ ticket % CPUS
    → k ≤ given → given < k + CPUS → k % CPUS ≡ word → held ≡ (k + 1) % 2 ^ 64 → held ≡ (ticket + 1) % 2 ^ 64 → given ≡ ticket_index
latest_is_served given ticket_index ticket word held k ahead close is at le lt same holds reads = omega arith

served_is_latest : (given ticket_index ticket word held k : ℕ) → given ≡ ticket_index → ticket ≡ ticket_index % 2 ^ 64 → word ≡ ticket % CPUS
    → k ≤ given → given < k + CPUS → k % CPUS ≡ word → held ≡ (k + 1) % 2 ^ 64 → held ≡ (ticket + 1) % 2 ^ 64
served_is_latest given ticket_index ticket word held k served is at le lt same holds = omega arith

-- a waiter near the head of the queue reads its ticket index plus 1 exactly if it is served
pub served_exactly : (given ticket_index ticket word held : ℕ) → given ≤ ticket_index → ticket_index < given + CPUS → ticket ≡ ticket_index % 2 ^ 64
    → word ≡ ticket % CPUS
    → WordFits word given held → (held == (ticket + 1) % 2 ^ 64) ≡ (given == ticket_index)
served_exactly given ticket_index ticket word held ahead close is at fits = grind (arith, eqb_same, within_or_past, latest_is_served, served_is_latest)

pub fits_after : (word given ticket held : ℕ) → word < CPUS → ticket ≡ given % 2 ^ 64 → WordFits word given held
    → WordFits word (given + 1) (after_give ticket word held)
fits_after word given ticket held within is fits = cond_both (word == (ticket + 1) % CPUS) ((ticket + 2) % 2 ^ 64) held (WordFits word (given + 1))
    (λ here. fits_here word given ticket within is (eqb-true word ((ticket + 1) % CPUS) here))
    (λ there. fits_there word given ticket held within is (eqb-false word ((ticket + 1) % CPUS) there) fits)

one_place : (word given j k : ℕ) → j ≤ given → given < j + CPUS → j % CPUS ≡ word → k ≤ given → given < k + CPUS → k % CPUS ≡ word → j ≡ k
one_place word given j k a b c d e f = omega arith

-- the count of releases determines what a word holds
pub one_word : (word given a b : ℕ) → WordFits word given a → WordFits word given b → a ≡ b
one_word word given a b first second = grind (arith, within_or_past, one_place)

-- a CPU inside a lock holds the ticket of the ticket index that is served
inside_is_served : {M N : Type 0} (name : M → N) (cpu : CpuId) (lock : LockId) (ticket : ℕ) (past : List (GrantEvent M)) → IsLegalGrants past
    → AreLegal (acts_of_grants name past)
    → grant_lock_phase cpu past ≡ Holding lock ticket → ticket_in (grant_lock_phase cpu past) ≡ gives lock (acts_of_grants name past) % 2 ^ 64
inside_is_served name cpu lock ticket past legal acts inside =
    let served = (line_at lock (acts_of_grants name past) acts).first cpu in
    grind (arith, served, phase_grants name cpu past, grant_ticket_at name past legal cpu, same_lock_self)

-- in a legal log each grant word holds what the number of releases says
pub words_fit : {M N : Type 0} (name : M → N) (lock : LockId) (word : ℕ) → word < CPUS → (log : List (GrantEvent M)) → IsLegalGrants log
    → AreLegal (acts_of_grants name log) → WordFits word (gives lock (acts_of_grants name log)) (grant_word lock word log)
words_fit name lock word within [] legal acts = fits_at_start word within
words_fit name lock word within (Take cpu at ticket ∷ past) legal acts = words_fit name lock word within past legal.1 acts.1
words_fit name lock word within (Peek cpu at ticket read ∷ past) legal acts = words_fit name lock word within past legal.1 acts.1
words_fit name lock word within (Give cpu at mark ∷ past) legal acts =
    let fits = words_fit name lock word within past legal.1 acts.1 in
    elim (cases_Bool (same_lock lock at)) [
      | inl here ↦ rw here (fits_after word _ _ _ within (inside_is_served name cpu lock legal.0.0 past legal.1 acts.1
          (legal.0.1 ∙ ap (λ l. Holding l legal.0.0) (sym (same_lock_true lock at here)))) fits)
      | inr elsewhere ↦ rw elsewhere fits
    ]

legal_grant : {M N : Type 0} (name : M → N) (e : GrantEvent M) (past : List (GrantEvent M)) → MayFollowGrants past e → IsLegalGrants past
    → AreLegal (acts_of_grants name past) → MayAct (acts_of_grants name past) (act_of_grant name e)
legal_grant name (Take cpu lock ticket) past may legal acts = (may.0, phase_grants name cpu past ∙ ap phase_of may.1)
legal_grant name (Peek cpu lock ticket read) past may legal acts =
    let waits = phase_grants name cpu past ∙ ap phase_of may.0 in
    let close = spot_is_near (acts_of_grants name past) acts cpu lock (ap (is_at lock) waits ∙ same_lock_self lock) in
    let has = subst (λ s. TicketOf s (ticket_index_of cpu (acts_of_grants name past))) may.0 (grant_ticket_at name past legal cpu) in
    let fits = words_fit name lock (ticket % CPUS) (omega arith) past legal acts in
    (waits, ap (λ r. r == (ticket + 1) % 2 ^ 64) may.1 ∙ served_exactly _ _ ticket _ _ close.0 close.1 has refl fits)
legal_grant name (Give cpu lock mark) past may legal acts = phase_grants name cpu past ∙ ap phase_of may.1

-- a legal log of grant words is a legal list of actions
pub legal_grants : {M N : Type 0} (name : M → N) (log : List (GrantEvent M)) → IsLegalGrants log → AreLegal (acts_of_grants name log)
legal_grants name [] legal = tt
legal_grants name (e ∷ past) legal = let acts = legal_grants name past legal.1 in (legal_grant name e past legal.0 legal.1 acts, acts)

-- mutual exclusion: two CPUs are never inside one lock
pub mutual_exclusion_grants : {M : Type 0} (log : List (GrantEvent M)) → IsLegalGrants log → (a b : CpuId) (lock : LockId) (s t : ℕ)
    → grant_lock_phase a log ≡ Holding lock s → grant_lock_phase b log ≡ Holding lock t → a ≡ b
mutual_exclusion_grants {M = M} log legal a b lock s t first second =
    let name : M → M = λ m. m in
    one_holds (acts_of_grants name log) (legal_grants name log legal) a b lock
    (phase_grants name a log ∙ ap phase_of first) (phase_grants name b log ∙ ap phase_of second)
