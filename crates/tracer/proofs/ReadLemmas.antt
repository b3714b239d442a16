-- What the readers of pieces take, and what they give again.
use Rattle.std.proofs.Common.{◌≡◌, ℕ, ◌<◌, ◌≤◌, ◌^◌, Bool, true, List, [], ◌∷◌, Option, Some, Result, Ok, Err, refl, eq-eqb, eqb-true, lit<, arith}
use Rattle.std.{proofs.lemmas.Slice.Eq.bytes_eq-Decides, specs.Prelude.decimal}
use Rattle.event_log.{specs.{Digits.{is_number}, Reading.{◌>>=◌}}, proofs.DigitsLemmas.{decimal-spelled, is_number-spelled, number_to-decimal}}
use Rattle.event_log.proofs.DigitsLemmas.{number_to-spelling, number_to-Some}
use Rattle.tracer.specs.{declared.verdicts.Reason.Reason, Judging.{or_reason, piece_at, expected_word, digits_at, ended, or_range, in_range, is_value}}

-- the value of a step without a fault
pub bind_ok : {A B : Type 0} (r : Result A Reason) (f : A → Result B Reason) (y : B) → (r >>= f) ≡ Ok y → (x : A) × (r ≡ Ok x) × (f x ≡ Ok y)
bind_ok (Ok x) f y e = (x, refl, e)
bind_ok (Err reason) f y e = absurd (cc)

pub wanted_ok : {A : Type 0} (test : Bool) (reason : Reason) (next : Result A Reason) (y : A) → or_reason test reason next ≡ Ok y
    → (test ≡ true) × (next ≡ Ok y)
wanted_ok test reason next y e = grind arith

abbrev pub fine : {A : Type 0} → A → Result A Reason
fine x = Ok x

pub same_ok : {A : Type 0} (x y : A) → fine x ≡ fine y → x ≡ y
same_ok x y e = cc

pub piece_taken : (ps : List (List ℕ)) (x : List ℕ × List (List ℕ)) → piece_at ps ≡ Ok x → ps ≡ x.0 ∷ x.1
piece_taken ps x e = grind arith

pub word_taken : (w : List ℕ) (ps rest : List (List ℕ)) → expected_word w ps ≡ Ok rest → ps ≡ w ∷ rest
word_taken w ps rest e = grind (arith, bytes_eq-Decides)

pub digits_taken : (ps : List (List ℕ)) (x : List ℕ × List (List ℕ)) → digits_at ps ≡ Ok x → ps ≡ x.0 ∷ x.1
digits_taken ps x e = grind arith

pub ended_taken : (ps : List (List ℕ)) (u : Unit {0}) → ended ps ≡ Ok u → ps ≡ []
ended_taken ps u e = grind arith

pub or_range_taken : {A : Type 0} (read : Option A) (n : A) → or_range read ≡ Ok n → read ≡ Some n
or_range_taken read n e = grind arith

-- the digits are those of a number in range
pub record IsInRange (most : ℕ) (digits : List ℕ) (n : ℕ) : Type 0 where
  pub spelled : digits ≡ decimal n
  pub within : n ≤ most

pub in_range_taken : (most : ℕ) (digits : List ℕ) (n : ℕ) → most < 2 ^ 64 → in_range most digits ≡ Ok n → IsInRange most digits n
in_range_taken most digits n small e = grind (arith, or_range_taken, number_to-spelling, number_to-Some)

pub is_value_taken : (digits : List ℕ) (n : ℕ) → is_value digits n ≡ true → digits ≡ decimal n
is_value_taken digits n e = number_to-spelling 18446744073709551615 digits n (lit< tt) (grind (arith, eqb-true))

-- ---- and back

pub decimal_is_number : (n : ℕ) → n < 2 ^ 64 → is_number (decimal n) ≡ true
decimal_is_number n small = is_number-spelled (decimal n) (decimal-spelled n small)

pub is_value_again : (n : ℕ) → n < 2 ^ 64 → is_value (decimal n) n ≡ true
is_value_again n small = rw (number_to-decimal 18446744073709551615 n small (omega arith)) (eq-eqb n n refl)
