-- A machine that was opened.
use Rattle.std.specs.Prelude.{Result, Ok, Err, IfOk}

-- the facts of an opened machine, and further ones
pub both_ok : {T E : Type 0} (r : Result T E) (P Q : T → Type 0) → IfOk r P → IfOk r Q → IfOk r (λ x. P x × Q x)
both_ok (Ok x) P Q one other = (one, other)
both_ok (Err e) P Q one other = tt
