-- Lemmas on truth values.
use Rattle.std.proofs.Common.{arith, ◌≡◌, Bool, true, false, Option, None, is_some}

-- a test does not fail and pass
pub refuted : {A : Type 0} {b : Bool} → b ≡ false → b ≡ true → A
refuted off on = absurd (cc (off, on))

-- an option with nothing in it
pub none_of : {A : Type 0} (o : Option A) → is_some o ≡ false → o ≡ None
none_of o is = grind arith
