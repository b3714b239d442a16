-- The form to read aloud and the recursion on the history say the same, for every relation.
use Rattle.std.proofs.{Common.{arith, ◌≡◌, List, [], ◌∷◌, ◌++◌, reverse, refl, ap, sym, subst, ◌∙◌, append_assoc}, lemmas.List.reverse-append}
use Rattle.{std.proofs.lemmas.List.reverse-reverse, event_log.specs.{History.IsLawful, Forms.IsLawfulLog}}

-- in a lawful history each event may follow what was before it
pub splits_from : {E : Type 0} (May : List E → E → Type 0) (event_list later : List E) (e : E) (past : List E)
    → IsLawful May event_list → event_list ≡ later ++ (e ∷ past) → May past e
splits_from May [] [] e past lawful split = absurd cc
splits_from May [] (l ∷ later) e past lawful split = absurd cc
splits_from May (x ∷ event_list) [] e past lawful split = let may = lawful.0 in grind arith
splits_from May (x ∷ event_list) (l ∷ later) e past lawful split = splits_from May event_list later e past lawful.1 (cc (split))

-- a history in which each event may follow what was before it is lawful
pub from_splits : {E : Type 0} (May : List E → E → Type 0) (event_list : List E)
    → ((later : List E) (e : E) (past : List E) → event_list ≡ later ++ (e ∷ past) → May past e) → IsLawful May event_list
from_splits May [] splits = tt
from_splits May (x ∷ event_list) splits =
    (splits [] x event_list refl, from_splits May event_list (λ later e past split. splits (x ∷ later) e past (ap (λ h. x ∷ h) split)))

-- a split of a log, reversed
turned : {E : Type 0} (before : List E) (e : E) (later : List E) → reverse (before ++ (e ∷ later)) ≡ reverse later ++ (e ∷ reverse before)
turned before e later =
    reverse-append before (e ∷ later) ∙ (ap (λ r. r ++ reverse before) (reverse-append (e ∷ []) later) ∙ append_assoc (reverse later) (e ∷ []) (reverse before))

pub log_from_history : {E : Type 0} (May : List E → E → Type 0) (log : List E) → IsLawful May (reverse log) → IsLawfulLog May log
log_from_history May log lawful before e later split = grind (arith, splits_from, turned)

pub history_from_log : {E : Type 0} (May : List E → E → Type 0) (log : List E) → IsLawfulLog May log → IsLawful May (reverse log)
history_from_log May log lawful = from_splits May (reverse log) (λ later e past split.
    let back : log ≡ reverse past ++ (e ∷ reverse later) = sym (reverse-reverse log) ∙ (ap reverse split ∙ turned later e past) in
    subst (λ h. May h e) (reverse-reverse past) (lawful (reverse past) e (reverse later) back))

-- an event that may follow a lawful log makes it a longer one
pub log_push : {E : Type 0} (May : List E → E → Type 0) (log : List E) (e : E) → IsLawfulLog May log → May (reverse log) e → IsLawfulLog May (log ++ (e ∷ []))
log_push May log e lawful may = log_from_history May (log ++ (e ∷ [])) (rw (reverse-append log (e ∷ [])) (may, history_from_log May log lawful))

-- the newest event of a lawful log may follow the rest of it
pub log_last : {E : Type 0} (May : List E → E → Type 0) (log : List E) (e : E) → IsLawfulLog May (log ++ (e ∷ [])) → IsLawfulLog May log × May (reverse log) e
log_last May log e lawful =
    let parts = rw (reverse-append log (e ∷ [])) at (history_from_log May (log ++ (e ∷ [])) lawful) in
    (log_from_history May log parts.1, parts.0)
