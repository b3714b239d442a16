-- What a read adds to what is held.
use Rattle.std.specs.{Prelude.{◌≡◌, ℕ, List, ◌++◌, Option}, Io.KnownBytes.Consumes}

-- what is held grew by what was read
pub record IsReadBehind (old new : List ℕ) (before now : Option (List ℕ)) : Type 0 where
  pub more : List ℕ
  pub read : Consumes before now more
  pub grown : new ≡ old ++ more
