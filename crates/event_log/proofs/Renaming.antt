-- Actions under other names: only the names of the sections change.
use Rattle.std.proofs.Common.{arith, ◌≡◌, List, [], ◌∷◌, ◌==◌, if◌then◌else◌, map, refl, sym, ◌∙◌}
use Rattle.event_log.specs.{declared.ids.{CpuId.CpuId, LockId.LockId}, History.{same_cpu, AreOthers}, Actions.{Action, Take, Try, Give, Phase, Rests, Waits}}
use Rattle.event_log.specs.Actions.{Holds, phase, cpu_of_action, ticket_index_of, takes, gives, MayAct, AreLegal, action_in, next_action, renamed}
use Rattle.event_log.specs.Sections.{renamed_section, sections_in}

module _ {N L : Type 0} (f : N → L) where
  pub phase_renamed : (c : CpuId) (past : List (Action N)) → phase c (map (renamed f) past) ≡ phase c past
  phase_renamed c [] = refl
  phase_renamed c (a ∷ past) = grind (arith, phase_renamed c past)

  pub takes_renamed : (lock : LockId) (past : List (Action N)) → takes lock (map (renamed f) past) ≡ takes lock past
  takes_renamed lock [] = refl
  takes_renamed lock (a ∷ past) = grind (arith, takes_renamed lock past)

  pub gives_renamed : (lock : LockId) (past : List (Action N)) → gives lock (map (renamed f) past) ≡ gives lock past
  gives_renamed lock [] = refl
  gives_renamed lock (a ∷ past) = grind (arith, gives_renamed lock past)

  pub spot_renamed : (c : CpuId) (past : List (Action N)) → ticket_index_of c (map (renamed f) past) ≡ ticket_index_of c past
  spot_renamed c [] = refl
  spot_renamed c (Take cpu lock ∷ past) = λ i. if same_cpu cpu c then takes_renamed lock past i else spot_renamed c past i
  spot_renamed c (Try cpu lock hit ∷ past) = spot_renamed c past
  spot_renamed c (Give cpu lock name ∷ past) = spot_renamed c past

  may_act_renamed : (a : Action N) (past : List (Action N)) → MayAct past a → MayAct (map (renamed f) past) (renamed f a)
  may_act_renamed (Take cpu lock) past may = (may.0, phase_renamed cpu past ∙ may.1)
  may_act_renamed (Try cpu lock hit) past may =
      (phase_renamed cpu past ∙ may.0, may.1 ∙ (λ i. sym (gives_renamed lock past) i == sym (spot_renamed cpu past) i))
  may_act_renamed (Give cpu lock name) past may = phase_renamed cpu past ∙ may

  -- legal actions are legal under other names
  pub legal_renamed : (actions : List (Action N)) → AreLegal actions → AreLegal (map (renamed f) actions)
  legal_renamed [] legal = tt
  legal_renamed (a ∷ past) legal = (may_act_renamed a past legal.0, legal_renamed past legal.1)

  action_in_renamed : (cpu : CpuId) (lock : LockId) (name : N) (past : List (Action N)) (p : Phase)
      → action_in cpu lock (f name) (map (renamed f) past) p ≡ renamed f (action_in cpu lock name past p)
  action_in_renamed cpu lock name past Rests = refl
  action_in_renamed cpu lock name past (Waits at) = λ i. Try cpu at (gives_renamed at past i == spot_renamed cpu past i)
  action_in_renamed cpu lock name past (Holds at) = refl

  -- the next action is the same, under the other name
  pub next_action_renamed : (cpu : CpuId) (lock : LockId) (name : N) (past : List (Action N))
      → next_action cpu lock (f name) (map (renamed f) past) ≡ renamed f (next_action cpu lock name past)
  next_action_renamed cpu lock name past = grind (arith, phase_renamed, action_in_renamed)

  pub others_renamed : (c : CpuId) (others : List (Action N)) → AreOthers cpu_of_action c others → AreOthers cpu_of_action c (map (renamed f) others)
  others_renamed c [] foreign = tt
  others_renamed c (a ∷ others) foreign = grind (arith, others_renamed c others foreign.1)

  pub sections_in_renamed : (past : List (Action N)) → sections_in (map (renamed f) past) ≡ map (renamed_section f) (sections_in past)
  sections_in_renamed [] = refl
  sections_in_renamed (a ∷ past) = grind (arith, sections_in_renamed past)
