use Rattle.std.proofs.Common.{[], arith, refl}
use Rattle.plain_layers.proofs.locks.PlainLockLayerLockLaw.poll.Goals as goal

-- a section that stays allowed is allowed now
pub done-requires-clause-allowed : goal.done-requires-clause-allowed
done-requires-clause-allowed g c = c.requires.call [] tt c.requires.coupled.1.lawful

-- nothing was added before it
pub returns-clause-history : goal.returns-clause-history
returns-clause-history g c = record { others = []; foreign = λ d acts. tt; is = c.done.ensures.history; answers = c.done.ensures.answer }

-- and the machine is otherwise the same
pub returns-clause-framed : goal.returns-clause-framed
returns-clause-framed g c =
    let said = c.done.ensures in
    record {
      coupled = (c.requires.coupled.0, said.sound);
      cpu = refl;
      stays = record { opening = said.opening; machine_id = refl; room = (let less = said.room in omega arith); acts = λ d acts. (acts.0, said.sound) };
      others = λ p other coupled. (coupled.0, said.sound);
      holders = λ d other acts held. held;
    }
