-- The facts of every opened machine.
use Rattle.std.proofs.Common.{◌≡◌, refl, Result, Ok, Err, IfOk}

pub where_ok : {M F : Type 0} (r : Result M F) (Q : M → Type 0) → ((m : M) → r ≡ Ok m → Q m) → IfOk r Q
where_ok (Ok m) Q follows = follows m refl
where_ok (Err e) Q follows = tt
