-- Numbers in digits: what `number_to` reads, and the one text that spells a number.
use Rattle.std.proofs.Common.{◌≢◌, ◌==◌, ◌≡◌, ℕ, ◌+◌, ◌*◌, ◌^◌, ◌<◌, ◌≤◌, ◌-◌, true, false, ◌&&◌, List, [], ◌∷◌, length, get_or, take, Some, None, decimal}
use Rattle.std.proofs.{Common.{refl, sym, ◌∙◌, ap, arith, take_all}, lemmas.{Bool.Decides.nat_tests, Str.Parse.IsNumeralModel}}
use Rattle.std.proofs.lemmas.Str.{Parse.{numerals_by_value, tells_all_ascii_digits, digits_value-take-le, digit_at, digits_value_short}, digit_value_digit}
use Rattle.std.proofs.lemmas.{Int.Digits.{digits_value_more, digits_more}, Fmt.{decimal-digits_value, digits_decimal, digits_value-decimal, decimal_nonempty}}
use Rattle.std.{proofs.lemmas.{Fmt.{first_decimal, decimal_digit}, List.length-take}, specs.{Int.IsInRange, List.list_all, Str.all_ascii_digits}}
use Rattle.{std.specs.{Str.Parse.{digits_value, AllDigits}, Char.{is_ascii_digit, digit_value}}, event_log.specs.Digits.{is_number, number_to}}

-- the digits of the library, in terms of `is_number`
pub ascii_digits : IsNumeralModel (λ ds. all_ascii_digits ds ≡ true) (digits_value 10)
ascii_digits = numerals_by_value _ tells_all_ascii_digits

-- what it is for a text to spell a number
pub record IsSpelled (text : List ℕ) : Type 0 where
  pub digits : all_ascii_digits text ≡ true
  pub some : 0 < length text
  pub lead : get_or text 0 0 ≡ 48 → length text ≡ 1

pub is_number-spelled : (text : List ℕ) → IsSpelled text → is_number text ≡ true
unfolding is_number
is_number-spelled text s = grind (arith, nat_tests)

zero_alone : (c : ℕ) (cs : List ℕ) → c ≡ 48 → length cs ≡ 0 → all_ascii_digits (c ∷ cs) ≡ true
zero_alone c [] e none = rw e refl
zero_alone c (d ∷ ds) e none = absurd (omega arith)

pub spelled_number : (text : List ℕ) → is_number text ≡ true → IsSpelled text
unfolding is_number
spelled_number text s = grind (arith, nat_tests, zero_alone)

pub number_to-spelled : (most : ℕ) (text : List ℕ) → IsSpelled text → digits_value 10 text ≤ most → number_to most text ≡ Some (digits_value 10 text)
unfolding number_to
number_to-spelled most text s h = let yes = is_number-spelled text s in grind (arith, nat_tests)

pub number_to-not : (most : ℕ) (text : List ℕ) → is_number text ≡ false → number_to most text ≡ None
unfolding number_to
number_to-not most text h = grind (arith, nat_tests)

pub number_to-empty : (most : ℕ) (text : List ℕ) → length text ≡ 0 → number_to most text ≡ None
unfolding is_number
number_to-empty most text h = grind (arith, number_to-not)

pub number_to-leading_zero : (most : ℕ) (text : List ℕ) → get_or text 0 0 ≡ 48 → 1 < length text → number_to most text ≡ None
unfolding is_number
number_to-leading_zero most text e more = grind (arith, number_to-not, nat_tests)

pub number_to-beyond : (most : ℕ) (text : List ℕ) → most < digits_value 10 text → number_to most text ≡ None
unfolding number_to
number_to-beyond most text h = grind (arith, nat_tests)

pub is_number-empty : (text : List ℕ) → length text ≡ 0 → is_number text ≡ false
unfolding is_number
is_number-empty text h = grind arith

pub is_number-zero : (text : List ℕ) → 0 < length text → get_or text 0 0 ≡ 48 → is_number text ≡ (length text == 1)
unfolding is_number
is_number-zero text some e = grind (arith, nat_tests)

all_digits : (text : List ℕ) → all_ascii_digits text ≡ list_all is_ascii_digit text
all_digits [] = refl
all_digits (c ∷ cs) = ap (λ rest. is_ascii_digit c && rest) (all_digits cs)

pub is_number-digits : (text : List ℕ) → 0 < length text → get_or text 0 0 ≢ 48 → is_number text ≡ list_all is_ascii_digit text
unfolding is_number
is_number-digits text some other = grind (arith, all_digits)

-- what a text that is read as a number is
pub record IsRead (most : ℕ) (text : List ℕ) (n : ℕ) : Type 0 where
  pub spelled : IsSpelled text
  pub value : digits_value 10 text ≡ n
  pub within : n ≤ most

pub number_to-Some : (most : ℕ) (text : List ℕ) (n : ℕ) → number_to most text ≡ Some n → IsRead most text n
unfolding number_to
number_to-Some most text n h =
    let is : is_number text ≡ true = grind (arith, nat_tests) in
    let spelled = spelled_number text is in
    grind (arith, nat_tests)

-- `decimal` writes the one text that is read as a number
decimal-lead : (n : ℕ) → n < 2 ^ 64 → get_or (decimal n) 0 0 ≡ 48 → length (decimal n) ≡ 1
decimal-lead n small e = grind (arith, decimal_digit, first_decimal)

pub decimal-spelled : (n : ℕ) → n < 2 ^ 64 → IsSpelled (decimal n)
decimal-spelled n small = grind (arith, digits_decimal, ascii_digits, decimal_nonempty, decimal-lead)

pub number_to-decimal : (most n : ℕ) → n < 2 ^ 64 → n ≤ most → number_to most (decimal n) ≡ Some n
number_to-decimal most n small h = grind (arith, digits_value-decimal, ascii_digits, number_to-spelled, decimal-spelled)

pub number_to-spelling : (most : ℕ) (text : List ℕ) (n : ℕ) → most < 2 ^ 64 → number_to most text ≡ Some n → text ≡ decimal n
number_to-spelling most text n small h =
    let read = number_to-Some most text n h in
    let fits : digits_value 10 text < 2 ^ 64 = (let e = read.value in let le = read.within in omega arith) in
    sym (decimal-digits_value ascii_digits text read.spelled.digits read.spelled.some read.spelled.lead fits) ∙ ap decimal read.value

-- the loop has read the first `i` bytes of the text: they are digits, and `n` is their number
pub record ReadsUpTo (most : ℕ) (text : List ℕ) (i n : ℕ) : Type 0 where
  pub digits : AllDigits 10 (take i text)
  pub value : digits_value 10 (take i text) ≡ n
  pub within : n ≤ most

digit_range : (c : ℕ) → is_ascii_digit c ≡ true → IsInRange 48 57 c
digit_range c is = grind (arith, nat_tests)

range_digit : (c : ℕ) → IsInRange 48 57 c → is_ascii_digit c ≡ true
range_digit c is = grind (arith, nat_tests)

digit-value : (c : ℕ) → is_ascii_digit c ≡ true → digit_value c ≡ c - 48
digit-value c is = let r = digit_range c is in omega (arith, digit_value_digit c r)

-- one digit more
value-more : (text : List ℕ) (i n : ℕ) → i < length text → digits_value 10 (take i text) ≡ n → is_ascii_digit (get_or text i 0) ≡ true
    → digits_value 10 (take (i + 1) text) ≡ n * 10 + (get_or text i 0 - 48)
value-more text i n h e is = grind (arith, digits_value_more, digit-value)

pub reads_one_more : (most : ℕ) (text : List ℕ) (i n : ℕ) → ReadsUpTo most text i n → i < length text → is_ascii_digit (get_or text i 0) ≡ true
    → n * 10 + (get_or text i 0 - 48) ≤ most → ReadsUpTo most text (i + 1) (n * 10 + (get_or text i 0 - 48))
reads_one_more most text i n r h is fits = grind (arith, digit_range, digit-value, digits_more, value-more)

-- the whole text is read
pub reads_all : (most : ℕ) (text : List ℕ) (i n : ℕ) → ReadsUpTo most text i n → length text ≤ i → 0 < length text → (get_or text 0 0 ≡ 48 → length text ≡ 1)
    → number_to most text ≡ Some n
reads_all most text i n r end some lead =
    let whole = take_all i text end in
    let value = rw whole at r.value in
    let spelled = ascii_digits.from text (rw whole at r.digits) in
    number_to-spelled most text (record { digits = spelled; some = some; lead = lead }) (rw value r.within) ∙ ap Some value

-- a text of which a byte is no digit spells no number
pub number_to-not_a_digit : (most : ℕ) (text : List ℕ) (i : ℕ) → i < length text → is_ascii_digit (get_or text i 0) ≡ false → number_to most text ≡ None
number_to-not_a_digit most text i h other = number_to-not most text (grind (arith, ascii_digits, spelled_number text, range_digit, digit_at))

-- a number that grows too large at a digit
pub number_to-too_large : (most : ℕ) (text : List ℕ) (i n : ℕ) → ReadsUpTo most text i n → i < length text → is_ascii_digit (get_or text i 0) ≡ true
    → most < n * 10 + (get_or text i 0 - 48) → number_to most text ≡ None
number_to-too_large most text i n r h is large =
    let more = value-more text i n h r.value is in
    let front = digits_value-take-le 10 text (i + 1) (omega arith) in
    number_to-beyond most text (omega arith)

-- digits at the front
pub read_digits : (most : ℕ) (text : List ℕ) (i n : ℕ) → ReadsUpTo most text i n → all_ascii_digits (take i text) ≡ true
read_digits most text i n r = ascii_digits.from (take i text) r.digits

-- 19 digits stay below 2^64
pub short_stays_below : (text : List ℕ) (i n : ℕ) → ReadsUpTo 18446744073709551615 text i n → i < length text → i < 19
    → is_ascii_digit (get_or text i 0) ≡ true → n * 10 + (get_or text i 0 - 48) ≤ 18446744073709551615
short_stays_below text i n r h few is =
    let below : digit_value (get_or text i 0) < 10 = grind (arith, digit_range, digit-value) in
    let digits = digits_more 10 text i h r.digits below in
    let short : length (take (i + 1) text) ≤ 19 = omega (arith, length-take (i + 1) text) in
    let small : digits_value 10 (take (i + 1) text) < 10 ^ 19 =
    digits_value_short ascii_digits (take (i + 1) text) 19 (ascii_digits.from (take (i + 1) text) digits) short in
    omega (arith, small, value-more text i n h r.value is)

-- a text that is digits to its end
pub digits_spelled : (text : List ℕ) (count : ℕ) → all_ascii_digits (take count text) ≡ true → length text ≤ count → 0 < length text
    → (get_or text 0 0 ≡ 48 → length text ≡ 1) → IsSpelled text
digits_spelled text count digits end some lead = record { digits = rw take_all at digits; some = some; lead = lead }

-- the lemmas that give the results of readers of numbers
pub ruleset one_spelling = (number_to-decimal, number_to-spelling)

pub ruleset early_answers = (nat_tests, number_to-empty, number_to-leading_zero)
