use Rattle.std.proofs.{Common.{◌≡◌, ◌∷◌, [], ◌∙◌, ap, rules}, lemmas.Result.IfOk-weaker}
use Rattle.{layer_traits.specs.Protocols.OneLock.opened, cpu_workers.specs.declared.counting.TheConstants.NUMBER}
use Rattle.mctower.proofs.locks.rounds.number_machine.Goals as goal

pub returns-clause-opening : goal.returns-clause-opening
returns-clause-opening g c =
    let items : c.push.new.self.items ≡ (NUMBER, 0) ∷ [] = search rules in
    IfOk-weaker c.open.result _ _ (λ m is. ap (λ blocks. blocks NUMBER) is ∙ ap (λ entries. opened entries NUMBER) items) c.open.ensures.opening
