-- Numbers written in decimal digits without a leading zero.
use Rattle.std.specs.Prelude.{ℕ, Bool, false, ◌&&◌, ◌==◌, List, [], ◌∷◌, length, nat_le, Option}
use Rattle.std.specs.{Prelude.{Some, None, if◌then◌else◌}, Str.all_ascii_digits}
use Rattle.std.specs.Str.Parse.{digits_value}

-- `0`, or digits of which the first is not `0` (48 is the code of `0`)
unfoldable pub is_number : List ℕ → Bool
is_number [] = false
is_number (c ∷ cs) = if c == 48 then length cs == 0 else all_ascii_digits (c ∷ cs)

-- the number that a text spells, if that is at most `most`
unfoldable pub number_to : ℕ → List ℕ → Option ℕ
number_to most text =
    if is_number text && nat_le (digits_value 10 text) most then Some (digits_value 10 text)
    else None
