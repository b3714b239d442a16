-- What a piece's number of 64 bits determines: whether the piece spells a number, and the number in
-- a range.
use Rattle.std.proofs.Common.{◌≡◌, ◌≢◌, ℕ, ◌^◌, ◌<◌, ◌≤◌, true, List, Some, None, Ok, Err, length, get_or, take, arith}
use Rattle.std.{proofs.lemmas.{Bool.{cases_Bool, cases_lt}, List.{get_or-take, length-take}, Str.Parse.digits_value_short}, specs.Str.all_ascii_digits}
use Rattle.{std.specs.Str.Parse.digits_value, event_log.{specs.Digits.{is_number, number_to}, proofs.DigitsLemmas.{ascii_digits, is_number-spelled}}}
use Rattle.event_log.proofs.DigitsLemmas.{number_to-beyond, number_to-not, number_to-Some, number_to-spelled, spelled_number}
use Rattle.tracer.specs.{declared.verdicts.Reason.TheVariants.Range, Judging.{in_range}}

pub is_number_read : (text : List ℕ) (n : ℕ) → number_to 18446744073709551615 text ≡ Some n → is_number text ≡ true
is_number_read text n is = is_number-spelled text (number_to-Some 18446744073709551615 text n is).spelled

pub in_range_read : (most : ℕ) (text : List ℕ) (n : ℕ) → number_to 18446744073709551615 text ≡ Some n → n ≤ most → in_range most text ≡ Ok n
in_range_read most text n is le = grind (arith, number_to-Some, number_to-spelled)

pub in_range_beyond : (most : ℕ) (text : List ℕ) (n : ℕ) → number_to 18446744073709551615 text ≡ Some n → most < n → in_range most text ≡ Err Range
in_range_beyond most text n is lt = grind (arith, number_to-Some, number_to-beyond)

-- a piece that spells no number of 64 bits spells none in a range
pub in_range_unread : (most : ℕ) (text : List ℕ) → most ≤ 18446744073709551615 → number_to 18446744073709551615 text ≡ None → in_range most text ≡ Err Range
in_range_unread most text le none = grind (arith, cases_Bool, cases_lt, number_to-beyond, number_to-spelled, spelled_number, number_to-not)

-- digits at the front of a text, at most 19, are the number that they write
pub front_number : (text : List ℕ) (count : ℕ) → all_ascii_digits (take count text) ≡ true → 0 < count → count ≤ length text → count ≤ 19
    → (1 < count → get_or text 0 0 ≢ 48) → number_to 18446744073709551615 (take count text) ≡ Some (digits_value 10 (take count text))
front_number text count digits some inside few lead =
    let small : digits_value 10 (take count text) < 10 ^ 19 = digits_value_short ascii_digits (take count text) 19 digits (grind (arith, length-take)) in
    grind (arith, number_to-spelled, length-take, get_or-take)
