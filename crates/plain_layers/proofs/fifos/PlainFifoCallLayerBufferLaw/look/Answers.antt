use Rattle.std.proofs.Common.{[], refl, arith}
use Rattle.plain_layers.proofs.fifos.PlainFifoCallLayerBufferLaw.look.Goals as goal

-- nothing is done
pub returns : goal.returns
returns g c = record {
  still = λ no. (refl, refl);
  waits = λ yes. absurd cc;
  framed = record {
    coupled = c.requires.coupled;
    cpu = refl;
    stays = record { opening = refl; machine_id = refl; room = omega arith; acts = λ d acts. acts };
    others = λ p other coupled. coupled;
    holders = λ d other acts held. held;
  };
  local = refl;
  inside = refl;
  under_way = refl;
  history = record { others = []; foreign = λ d acts. tt; is = refl };
  moves = record { others = []; mine = []; foreign = λ d acts. tt; local = tt; is = refl };
  tries = λ step. absurd step;
}
