-- Environment events: they do not change a CPU's private state, and if a holder acts for every CPU
-- there are none.
use Rattle.std.proofs.Common.{arith, ◌≡◌, ◌<◌, false, List, [], ◌∷◌, ◌++◌, if◌then◌else◌, refl, ap, sym, subst, ◌∙◌}
use Rattle.event_log.specs.{declared.{ids.{CpuId.CpuId, TheConstants.CPUS}, events.Event.Event}, History.{same_cpu, own_events, IsLawful, AreOthers}}
use Rattle.event_log.specs.{WordsLog.{cpu_of_event, lock_phase}, Actions.{Action, Take, Try, Give, phase, cpu_of_action, ticket_index_of, MayAct}}
use Rattle.event_log.{specs.{Actions.{AreLegal, act_of, acts_of}, Sections.{cpu_of_section, sections_of, sections_in}}, proofs.Same.same_lock_self}
use Rattle.event_log.proofs.{Exclusion.{is_at, phase_other, spot_other, cpu_is_known}, Tickets.{lock_phase_other, cpu_of_action_is}}

-- Any relation and any event.

-- what precedes a lawful history is lawful too
pub lawful_before : {E : Type 0} (May : List E → E → Type 0) (more past : List E) → IsLawful May (more ++ past) → IsLawful May past
lawful_before May [] past lawful = lawful
lawful_before May (e ∷ more) past lawful = lawful_before May more past lawful.1

pub others_both : {E : Type 0} (by : E → CpuId) (c : CpuId) (more past : List E) → AreOthers by c more → AreOthers by c past → AreOthers by c (more ++ past)
others_both by c [] past first second = second
others_both by c (e ∷ more) past first second = (first.0, others_both by c more past first.1 second)

pub own_append : {E : Type 0} (by : E → CpuId) (c : CpuId) (more past : List E) → own_events by c (more ++ past) ≡ own_events by c more ++ own_events by c past
own_append by c [] past = refl
own_append by c (e ∷ more) past = grind (arith, own_append by c more past)

-- a CPU has no events among those of others
pub own_none : {E : Type 0} (by : E → CpuId) (c : CpuId) (others : List E) → AreOthers by c others → own_events by c others ≡ []
own_none by c [] foreign = refl
own_none by c (e ∷ others) foreign = ap (λ b. if b then e ∷ own_events by c others else own_events by c others) foreign.0 ∙ own_none by c others foreign.1

pub own_others : {E : Type 0} (by : E → CpuId) (c : CpuId) (others past : List E) → AreOthers by c others
    → own_events by c (others ++ past) ≡ own_events by c past
own_others by c others past foreign = own_append by c others past ∙ ap (λ xs. xs ++ own_events by c past) (own_none by c others foreign)

-- A words log.

pub lock_phase_others : {M : Type 0} (c : CpuId) (others past : List (Event M)) → AreOthers cpu_of_event c others
    → lock_phase c (others ++ past) ≡ lock_phase c past
lock_phase_others c [] past foreign = refl
lock_phase_others c (e ∷ others) past foreign = lock_phase_other e (others ++ past) c foreign.0 ∙ lock_phase_others c others past foreign.1

-- Actions.

pub phase_others : {N : Type 0} (c : CpuId) (others past : List (Action N)) → AreOthers cpu_of_action c others → phase c (others ++ past) ≡ phase c past
phase_others c [] past foreign = refl
phase_others c (a ∷ others) past foreign = phase_other a (others ++ past) c foreign.0 ∙ phase_others c others past foreign.1

pub spot_others : {N : Type 0} (c : CpuId) (others past : List (Action N)) → AreOthers cpu_of_action c others
    → ticket_index_of c (others ++ past) ≡ ticket_index_of c past
spot_others c [] past foreign = refl
spot_others c (a ∷ others) past foreign = spot_other a (others ++ past) c foreign.0 ∙ spot_others c others past foreign.1

-- a CPU that acts is a CPU of the machine
pub cpu_of_action_known : {N : Type 0} (a : Action N) (past : List (Action N)) → MayAct past a → AreLegal past → (cpu_of_action a).0 < CPUS
cpu_of_action_known (Take cpu lock) past may legal = may.0
cpu_of_action_known (Try cpu lock hit) past may legal = cpu_is_known past legal cpu lock (ap (is_at lock) may.0 ∙ same_lock_self lock)
cpu_of_action_known (Give cpu lock name) past may legal = cpu_is_known past legal cpu lock (ap (is_at lock) may ∙ same_lock_self lock)

pub cpus_of_actions_known : {N : Type 0} (actions : List (Action N)) → AreLegal actions → IsLawful (λ before a. (cpu_of_action a).0 < CPUS) actions
cpus_of_actions_known [] legal = tt
cpus_of_actions_known (a ∷ past) legal = (cpu_of_action_known a past legal.0 legal.1, cpus_of_actions_known past legal.1)

-- Sections of logs, of actions and of both.

pub sections_of-append : {M E : Type 0} (edit : M → E) (more past : List (Event M))
    → sections_of edit (more ++ past) ≡ sections_of edit more ++ sections_of edit past
sections_of-append edit [] past = refl
sections_of-append edit (e ∷ more) past = grind (arith, sections_of-append edit more past)

pub sections_in-append : {N : Type 0} (more past : List (Action N)) → sections_in (more ++ past) ≡ sections_in more ++ sections_in past
sections_in-append [] past = refl
sections_in-append (a ∷ more) past = grind (arith, sections_in-append more past)

pub acts_of-append : {M N : Type 0} (name : M → N) (more past : List (Event M)) → acts_of name (more ++ past) ≡ acts_of name more ++ acts_of name past
acts_of-append name [] past = refl
acts_of-append name (e ∷ more) past = ap (λ acts. act_of name e ∷ acts) (acts_of-append name more past)

-- the sections of a words log are those of its actions
pub sections_acts : {M N : Type 0} (name : M → N) (log : List (Event M)) → sections_in (acts_of name log) ≡ sections_of name log
sections_acts name [] = refl
sections_acts name (e ∷ past) = grind (arith, sections_acts name past)

pub others_acts : {M N : Type 0} (name : M → N) (c : CpuId) (others : List (Event M)) → AreOthers cpu_of_event c others
    → AreOthers cpu_of_action c (acts_of name others)
others_acts name c [] foreign = tt
others_acts name c (e ∷ others) foreign = (subst (λ d. same_cpu d c ≡ false) (sym (cpu_of_action_is name e)) foreign.0, others_acts name c others foreign.1)

pub others_sections_in : {N : Type 0} (c : CpuId) (others : List (Action N)) → AreOthers cpu_of_action c others
    → AreOthers cpu_of_section c (sections_in others)
others_sections_in c [] foreign = tt
others_sections_in c (a ∷ others) foreign = grind (arith, others_sections_in c others foreign.1)

pub others_sections_of : {M E : Type 0} (edit : M → E) (c : CpuId) (others : List (Event M)) → AreOthers cpu_of_event c others
    → AreOthers cpu_of_section c (sections_of edit others)
others_sections_of edit c [] foreign = tt
others_sections_of edit c (e ∷ others) foreign = grind (arith, others_sections_of edit c others foreign.1)

-- the CPU of a section is a CPU of the machine
pub sections_in_known : {N : Type 0} (actions : List (Action N)) → IsLawful (λ before a. (cpu_of_action a).0 < CPUS) actions
    → IsLawful (λ before s. s.cpu.0 < CPUS) (sections_in actions)
sections_in_known [] known = tt
sections_in_known (a ∷ past) known = grind (arith, sections_in_known past known.1)
