-- While a CPU waits at a lock or holds it, no other CPU releases the lock twice: it would have to
-- overtake the first CPU.
use Rattle.std.proofs.Common.{◌≡◌, ℕ, ◌<◌, ◌≤◌, Bool, true, false, List, [], ◌∷◌, ◌++◌, if◌then◌else◌, refl, ap, sym, subst, ◌∙◌, arith}
use Rattle.event_log.specs.{declared.{ids.{CpuId.CpuId, LockId.LockId}, events.Event.{Event, TheVariants.Draw}}, History.{same_cpu, own_events}}
use Rattle.event_log.specs.{WordsLog.{cpu_of_event, frees, IsLegalWords}, Actions.{Action, Take, Try, Give, phase, phase_after, cpu_of_action, ticket_index_of}}
use Rattle.event_log.{specs.{Actions.{takes, gives, MayAct, AreLegal, acts_of}, Laws.{OnlyTries, OnlyLooks}}, proofs.Same.{same_cpu_self, same_cpu_true}}
use Rattle.event_log.proofs.{Same.{same_lock_self, same_lock_true}, Exclusion.{is_at, at_either, phase_own, phase_other, spot_other, line_at}}
use Rattle.event_log.proofs.{Tickets.{cpu_of_action_is, gives_acts, legal_acts}, Foreign.acts_of-append}

pub own_yes : {E : Type 0} (by : E → CpuId) (c : CpuId) (e : E) (past : List E) → same_cpu (by e) c ≡ true
    → own_events by c (e ∷ past) ≡ e ∷ own_events by c past
own_yes by c e past is = ap (λ b. if b then e ∷ own_events by c past else own_events by c past) is

pub own_not : {E : Type 0} (by : E → CpuId) (c : CpuId) (e : E) (past : List E) → same_cpu (by e) c ≡ false → own_events by c (e ∷ past) ≡ own_events by c past
own_not by c e past other = ap (λ b. if b then e ∷ own_events by c past else own_events by c past) other

-- an action leaves its own CPU as it says
pub left_own : {N : Type 0} (a : Action N) (log : List (Action N)) (c : CpuId) → cpu_of_action a ≡ c → phase c (a ∷ log) ≡ phase_after a
left_own a log c by = subst (λ d. phase d (a ∷ log) ≡ phase_after a) by (phase_own a log)

module _ {N : Type 0} (lock : LockId) (cpu other : CpuId) (first : ℕ) (differ : same_cpu cpu other ≡ false) where
  -- the first CPU still has its ticket index, and the other one, if it has released the lock, is
  -- after it in the queue
  pub record Meanwhile (between log : List (Action N)) : Type 0 where
    pub stands : is_at lock (phase cpu log) ≡ true
    pub ticket_index : ticket_index_of cpu log ≡ first
    once : gives lock (own_events cpu_of_action other between) ≤ 1
    behind : 1 ≤ gives lock (own_events cpu_of_action other between) → is_at lock (phase other log) ≡ true → first < ticket_index_of other log

  -- an action of a third CPU
  by_third : (a : Action N) (between log : List (Action N)) → Meanwhile between log → same_cpu (cpu_of_action a) cpu ≡ false
      → same_cpu (cpu_of_action a) other ≡ false → Meanwhile (a ∷ between) (a ∷ log)
  by_third a between log so_far not_cpu not_other = grind (arith, own_not, phase_other, spot_other)

  -- an action of the first CPU, which can only be a poll
  by_try : (a : Action N) (between log : List (Action N)) → MayAct log a → Meanwhile between log → OnlyTries (a ∷ own_events cpu_of_action cpu between)
      → cpu_of_action a ≡ cpu → same_cpu (cpu_of_action a) other ≡ false → Meanwhile (a ∷ between) (a ∷ log)
  by_try a between log may so_far tries by not_other = grind (arith, own_not, left_own, at_either, phase_other)

  -- an action of the other CPU
  by_other : (a : Action N) (between log : List (Action N)) → MayAct log a → AreLegal log → Meanwhile between log
      → cpu_of_action a ≡ other → same_cpu (cpu_of_action a) cpu ≡ false → Meanwhile (a ∷ between) (a ∷ log)
  by_other (Take d m) between log may legal so_far by not_cpu =
      let behind = (line_at lock log legal).behind cpu so_far.stands in
      grind (arith, same_cpu_self, own_yes, phase_other, spot_other, left_own, same_lock_true)
  by_other (Try d m hit) between log may legal so_far by not_cpu = grind (arith, same_cpu_self, own_yes, phase_other, at_either, left_own)
  by_other (Give d m name) between log may legal so_far by not_cpu =
      let line = line_at lock log legal in
      let ahead = line.ahead cpu so_far.stands in
      grind (arith, line.first other, same_cpu_self, own_yes, phase_other, left_own)

  by_any : (a : Action N) (between log : List (Action N)) → MayAct log a → AreLegal log → Meanwhile between log
      → OnlyTries (own_events cpu_of_action cpu (a ∷ between))
      → (b c : Bool) → same_cpu (cpu_of_action a) cpu ≡ b → same_cpu (cpu_of_action a) other ≡ c → Meanwhile (a ∷ between) (a ∷ log)
  by_any a between log may legal so_far tries true true is is_too = grind (arith, same_cpu_true, same_cpu_self)
  by_any a between log may legal so_far tries true false is not_other = grind (arith, by_try, own_yes, same_cpu_true)
  by_any a between log may legal so_far tries false true not_cpu is = by_other a between log may legal so_far (same_cpu_true (cpu_of_action a) other is) not_cpu
  by_any a between log may legal so_far tries false false not_cpu not_other = by_third a between log so_far not_cpu not_other

pub tries_before : {N : Type 0} (a : Action N) (past : List (Action N)) → OnlyTries (a ∷ past) → OnlyTries past
tries_before a past tries = grind arith

pub own_tries : {N : Type 0} (cpu : CpuId) (a : Action N) (between : List (Action N)) → OnlyTries (own_events cpu_of_action cpu (a ∷ between))
    → OnlyTries (own_events cpu_of_action cpu between)
own_tries cpu a between tries = grind (arith, tries_before)

pub meanwhile : {N : Type 0} (past between : List (Action N)) (cpu other : CpuId) (lock : LockId) (differ : same_cpu cpu other ≡ false)
    → AreLegal (between ++ (Take cpu lock ∷ past)) → OnlyTries (own_events cpu_of_action cpu between)
    → Meanwhile lock cpu other (takes lock past) differ between (between ++ (Take cpu lock ∷ past))
meanwhile past [] cpu other lock differ legal tries = grind (arith, phase_own, same_lock_self, same_cpu_self)
meanwhile past (a ∷ between) cpu other lock differ legal tries =
    by_any lock cpu other (takes lock past) differ a between (between ++ (Take cpu lock ∷ past)) legal.0 legal.1
    (meanwhile past between cpu other lock differ legal.1 (own_tries cpu a between tries)) tries (same_cpu (cpu_of_action a) cpu)
    (same_cpu (cpu_of_action a) other) refl refl

pub given_once : {N : Type 0} (past between : List (Action N)) (cpu other : CpuId) (lock : LockId) → AreLegal (between ++ (Take cpu lock ∷ past))
    → OnlyTries (own_events cpu_of_action cpu between) → same_cpu cpu other ≡ false → gives lock (own_events cpu_of_action other between) ≤ 1
given_once past between cpu other lock legal tries differ = (meanwhile past between cpu other lock differ legal tries).once

own_acts : {M N : Type 0} (name : M → N) (cpu : CpuId) (log : List (Event M))
    → own_events cpu_of_action cpu (acts_of name log) ≡ acts_of name (own_events cpu_of_event cpu log)
own_acts name cpu [] = refl
own_acts name cpu (e ∷ log) = grind (arith, cpu_of_action_is name e, own_acts name cpu log)

looks_try : {M N : Type 0} (name : M → N) (log : List (Event M)) → OnlyLooks log → OnlyTries (acts_of name log)
looks_try name [] looks = tt
looks_try name (e ∷ past) looks = grind (arith, looks_try name past)

-- from a CPU's Draw on, while it only polls, no other CPU frees that lock twice
pub freed_once : {M : Type 0} (past between : List (Event M)) (cpu other : CpuId) (lock : LockId) (ticket : ℕ)
    → IsLegalWords (between ++ (Draw cpu lock ticket ∷ past)) → OnlyLooks (own_events cpu_of_event cpu between) → same_cpu cpu other ≡ false
    → frees lock (own_events cpu_of_event other between) ≤ 1
freed_once {M = M} past between cpu other lock ticket legal looks differ =
    let name : M → M = λ m. m in
    let once = given_once (acts_of name past) (acts_of name between) cpu other lock
    (subst AreLegal (acts_of-append name between (Draw cpu lock ticket ∷ past)) (legal_acts name _ legal))
    (subst OnlyTries (sym (own_acts name cpu between)) (looks_try name (own_events cpu_of_event cpu between) looks)) differ in
    subst (λ k. k ≤ 1) (ap (gives lock) (own_acts name other between) ∙ gives_acts name lock (own_events cpu_of_event other between)) once
