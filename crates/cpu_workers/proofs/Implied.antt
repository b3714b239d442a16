-- What follows from what.
use Rattle.std.proofs.Common.{◌≡◌, List, [], ◌∷◌, ◌++◌, Bool, true, false, ◌==◌, ap, sym, refl, ◌∙◌, subst, append_assoc, arith, reverse}
use Rattle.std.{proofs.lemmas.List.append-nil, specs.List.AllByRecursion}
use Rattle.{event_log.specs.{declared.{entries.Entry.Entry, ids.CpuId.CpuId}, Actions.{Action, cpu_of_action}, History.same_cpu}, cpu.specs.Cpus.of_cpu}
use Rattle.{cpu.specs.Tower.Views.TowerName, cpu_workers.specs.{Laws.{ActionsExtendOrder, PrefixesKeepOrder}, Orders.effects_of}}

-- entries of one CPU are none of another's
not_of : (c d : CpuId) (es : List Entry) → same_cpu d c ≡ false → AllByRecursion (λ e. e.cpu ≡ d) es → of_cpu c es ≡ []
not_of c d [] other all = refl
not_of c d (e ∷ es) other all =
    let away : (e.cpu.0 == c.0) ≡ false = ap (λ (x : CpuId). x.0 == c.0) all.0 ∙ other in
    rw away (not_of c d es other all.1)

both_none : (c : CpuId) (es fs : List Entry) → of_cpu c es ≡ [] → of_cpu c fs ≡ [] → of_cpu c (es ++ fs) ≡ []
both_none c [] fs none nor = nor
both_none c (e ∷ es) fs none nor = grind (arith, none, nor, both_none c es fs)

-- that fronts keep the order follows from what each action does to it
pub fronts_by_actions : ActionsExtendOrder → PrefixesKeepOrder
fronts_by_actions each caps [] earlier =
    record { more = []; is = sym (append-nil (reverse (effects_of caps earlier))); local = λ c others. refl }
fronts_by_actions each caps (a ∷ later) earlier =
    let before = fronts_by_actions each caps later earlier in
    let one = each caps a (later ++ earlier) in
    record {
      more = before.more ++ one.more;
      is = one.is ∙ ap (λ (es : List Entry). es ++ one.more) before.is ∙ append_assoc (reverse (effects_of caps earlier)) before.more one.more;
      local = λ c others. both_none c before.more one.more (before.local c others.1) (not_of c (cpu_of_action a) one.more others.0 one.local);
    }
