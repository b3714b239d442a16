-- A call is pending exactly if its section is.
use Rattle.std.{proofs.{Common.arith, lemmas.Option.none-some}, specs.Prelude.{◌≡◌, Option, None}}
use Rattle.std.specs.Prelude.{option_map, is_some}

pub same_busy : {A B : Type 0} (f : A → B) (under : Option A)
    → is_some (option_map f under) ≡ is_some under
same_busy f under = grind arith

-- no call is pending exactly if no section is
pub no_section_beneath : {A B : Type 0} (f : A → B) (under : Option A) → option_map f under ≡ None
    → under ≡ None
no_section_beneath f under given = grind (arith, none-some)
