-- What a result means with the payload beside it.
use Rattle.std.proofs.Common.{arith, ◌≡◌, Option, is_some}
use Rattle.layer_traits.specs.Blocks.Payloads.{abstract_result}

-- a result means something exactly if there is one
pub told_some : {B P T : Type 0} (abstract_answer : B → P → T) (response : Option B) (payload : P)
    → is_some (abstract_result abstract_answer response payload) ≡ is_some response
told_some abstract_answer response payload = grind arith
