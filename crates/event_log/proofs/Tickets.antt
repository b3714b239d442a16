-- A legal words log is a legal list of actions: the numbers modulo 2^64 determine the true counts,
-- since at most CPUS ticket indices wait.
use Rattle.std.proofs.Common.{◌≡◌, ℕ, ◌+◌, ◌%◌, ◌^◌, ◌<◌, ◌≤◌, false, List, [], ◌∷◌, ◌==◌, if◌then◌else◌, refl, ap, subst, ◌∙◌, arith}
use Rattle.event_log.specs.declared.{ids.{CpuId.CpuId, LockId.LockId, TheConstants.CPUS}, events.Event.{Event, TheVariants.{Draw, Look, Free}}}
use Rattle.event_log.specs.{History.same_cpu, WordsLog.{cpu_of_event, draws, frees, Holding, left_by, lock_phase, MayFollow, IsLegalWords}, Actions.phase}
use Rattle.event_log.{specs.Actions.{cpu_of_action, ticket_index_of, takes, gives, MayAct, AreLegal, act_of, acts_of}, proofs.Same.same_cpu_true}
use Rattle.event_log.proofs.{Same.same_lock_self, Exclusion.{is_at, one_holds, spot_is_near}, Observed.eqb_same}
pub use Rattle.event_log.proofs.Observed.{phase_of, TicketOf}

pub cpu_of_action_is : {M N : Type 0} (name : M → N) (e : Event M) → cpu_of_action (act_of name e) ≡ cpu_of_event e
cpu_of_action_is name e = grind arith

-- the lock phase of a CPU determines its phase
pub phase_acts : {M N : Type 0} (name : M → N) (c : CpuId) (log : List (Event M)) → phase c (acts_of name log) ≡ phase_of (lock_phase c log)
phase_acts name c [] = refl
phase_acts name c (e ∷ past) = grind (arith, phase_acts name c past)

-- the requests are the draws
pub takes_acts : {M N : Type 0} (name : M → N) (lock : LockId) (log : List (Event M)) → takes lock (acts_of name log) ≡ draws lock log
takes_acts name lock [] = refl
takes_acts name lock (e ∷ past) = grind (arith, takes_acts name lock past)

-- the releases are the frees
pub gives_acts : {M N : Type 0} (name : M → N) (lock : LockId) (log : List (Event M)) → gives lock (acts_of name log) ≡ frees lock log
gives_acts name lock [] = refl
gives_acts name lock (e ∷ past) = grind (arith, gives_acts name lock past)

-- an event changes the lock phase of no other CPU
pub lock_phase_other : {M : Type 0} (e : Event M) (past : List (Event M)) (c : CpuId) → same_cpu (cpu_of_event e) c ≡ false
    → lock_phase c (e ∷ past) ≡ lock_phase c past
lock_phase_other e past c other = ap (λ b. if b then left_by e else lock_phase c past) other

-- in a legal log each ticket is the ticket index modulo 2^64
pub ticket_at : {M N : Type 0} (name : M → N) (log : List (Event M)) → IsLegalWords log → (c : CpuId)
    → TicketOf (lock_phase c log) (ticket_index_of c (acts_of name log))
ticket_at name [] legal c = tt
ticket_at name (Draw cpu lock ticket ∷ past) legal c = grind (arith, same_cpu_true, takes_acts name lock past, ticket_at name past legal.1 c)
ticket_at name (Look cpu lock ticket read ∷ past) legal c = grind (arith, same_cpu_true, ticket_at name past legal.1 c)
ticket_at name (Free cpu lock mark ∷ past) legal c = grind (arith, ticket_at name past legal.1 c)

-- the successor modulo 2^64 is the successor of the number modulo 2^64
pub next_rests : (count n : ℕ) → n ≡ count % 2 ^ 64 → (n + 1) % 2 ^ 64 ≡ (count + 1) % 2 ^ 64
next_rests count n is = omega arith

near_rests : (given ticket_index : ℕ) → given ≤ ticket_index → ticket_index < given + CPUS → given % 2 ^ 64 ≡ ticket_index % 2 ^ 64 → given ≡ ticket_index
near_rests given ticket_index ahead close same = omega arith

-- among ticket indices so near one another, equal numbers modulo 2^64 are equal indices
pub same_rests : (given ticket_index read ticket : ℕ) → given ≤ ticket_index → ticket_index < given + CPUS → read ≡ given % 2 ^ 64
    → ticket ≡ ticket_index % 2 ^ 64
    → (read == ticket) ≡ (given == ticket_index)
same_rests given ticket_index read ticket ahead close reads has = grind (arith, eqb_same, near_rests)

legal_act : {M N : Type 0} (name : M → N) (e : Event M) (past : List (Event M)) → MayFollow past e → IsLegalWords past → AreLegal (acts_of name past)
    → MayAct (acts_of name past) (act_of name e)
legal_act name (Draw cpu lock ticket) past may legal acts = (may.0, phase_acts name cpu past ∙ ap phase_of may.1)
legal_act name (Look cpu lock ticket read) past may legal acts =
    let waits = phase_acts name cpu past ∙ ap phase_of may.0 in
    let close = spot_is_near (acts_of name past) acts cpu lock (ap (is_at lock) waits ∙ same_lock_self lock) in
    let has = subst (λ s. TicketOf s (ticket_index_of cpu (acts_of name past))) may.0 (ticket_at name past legal cpu) in
    (waits, grind (arith, same_rests, gives_acts name lock past))
legal_act name (Free cpu lock mark) past may legal acts = phase_acts name cpu past ∙ ap phase_of may.1

-- a legal words log is a legal list of actions
pub legal_acts : {M N : Type 0} (name : M → N) (log : List (Event M)) → IsLegalWords log → AreLegal (acts_of name log)
legal_acts name [] legal = tt
legal_acts name (e ∷ past) legal = let acts = legal_acts name past legal.1 in (legal_act name e past legal.0 legal.1 acts, acts)

-- mutual exclusion: two CPUs are never inside one lock
pub mutual_exclusion : {M : Type 0} (log : List (Event M)) → IsLegalWords log → (a b : CpuId) (lock : LockId) (s t : ℕ)
    → lock_phase a log ≡ Holding lock s → lock_phase b log ≡ Holding lock t → a ≡ b
mutual_exclusion {M = M} log legal a b lock s t first second =
    let name : M → M = λ m. m in
    one_holds (acts_of name log) (legal_acts name log legal) a b lock (phase_acts name a log ∙ ap phase_of first) (phase_acts name b log ∙ ap phase_of second)
