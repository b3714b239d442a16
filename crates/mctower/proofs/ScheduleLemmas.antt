-- Facts on the reading of schedules.
use Rattle.std.proofs.Common.{◌≡◌, ◌≢◌, ◌≤◌, ◌<◌, ◌+◌, ◌-◌, ◌*◌, ◌==◌, ◌∙◌, ◌++◌, ◌∷◌, [], ℕ, true, false, List, Option, Some, None, refl, sym, ap, arith}
use Rattle.std.proofs.{Common.{length, drop, get_or, inl, inr, option_map, take, zero-add}, lemmas.Bool.{and_parts, cases_lt, ne_eqb, Decides.nat_tests}}
use Rattle.std.proofs.lemmas.List.{drop_more, get_or-take, length-take, take-append-drop, Elements.{All-from_recursion, All-from_get_or}, Splits.slice_split_at}
use Rattle.std.proofs.lemmas.{List.{Splits.{slice_split_first, slice_split_none}, Sums.position_or_len_is}, Str.Pattern.{IsSplitOnceResult, split_once_first}}
use Rattle.std.{proofs.lemmas.Str.Pattern.split_parts, specs.{Prelude.nat_lt, Borrow.Bor, Char.is_ascii_digit, List.{AllByRecursion, position_or_len}}}
use Rattle.std.specs.{List.slice_split, Str.all_ascii_digits}
use Rattle.event_log.{specs.declared.ids.CpuId.CpuId, proofs.DigitsLemmas.{IsSpelled, ReadsUpTo, ascii_digits, number_to-spelled, read_digits, reads_one_more}}
use Rattle.mctower.specs.Schedule.{has_star, is_comma, is_star, item_of, steps_in}

-- a text with no comma is one item
pub one_piece : (text : List ℕ) → IsSplitOnceResult 44 text None → slice_split is_comma text ≡ text ∷ []
one_piece text none =
    let lacks = split_parts 44 text None none (omega arith) in
    slice_split_none is_comma text (All-from_get_or (λ b. is_comma b ≡ false) text 0 (λ i low. ne_eqb _ _ (lacks i low)))

-- a text with a comma is an item and the pieces after the comma
pub first_piece : (text : List ℕ) (first after : Bor (List ℕ)) → IsSplitOnceResult 44 text (Some (first, after))
    → slice_split is_comma text ≡ first.now ∷ slice_split is_comma after.now
first_piece text first after found =
    let at = split_once_first 44 text (Some (first, after)) found (omega arith) in
    rw (at.1, at.2) (slice_split_first is_comma text 0 at.0)

-- ---- a step that is only a number

no_digit : (at c : ℕ) → at < 48 → is_ascii_digit c ≡ true → (c == at) ≡ false
no_digit at c low digit = grind (arith, nat_tests)

-- no digit is a byte below the digits, such as a comma or a star
digits_lack : (at : ℕ) (cs : List ℕ) → at < 48 → all_ascii_digits cs ≡ true → AllByRecursion (λ b. (b == at) ≡ false) cs
digits_lack at [] low digits = tt
digits_lack at (c ∷ cs) low digits =
    let parts = and_parts (is_ascii_digit c) (all_ascii_digits cs) digits in
    (no_digit at c low parts.0, digits_lack at cs low parts.1)

-- digits followed by a comma are the first piece
digits_cut : (text : List ℕ) (count : ℕ) → all_ascii_digits (take count text) ≡ true → count < length text → get_or text count 0 ≡ 44
    → slice_split is_comma text ≡ take count text ∷ slice_split is_comma (drop (count + 1) text)
digits_cut text count digits inside comma =
    let whole : take count text ++ get_or text count 0 ∷ drop (count + 1) text ≡ text = rw (← drop_more text count 0 inside) (take-append-drop count text) in
    let joined : take count text ++ 44 ∷ drop (count + 1) text ≡ text = rw comma at whole in
    let lacks = All-from_recursion (λ b. is_comma b ≡ false) (take count text) (digits_lack 44 (take count text) (omega arith) digits) in
    ap (slice_split is_comma) (sym joined) ∙ slice_split_at is_comma (take count text) 44 (drop (count + 1) text) lacks refl

-- digits have no star
no_star : (text : List ℕ) → all_ascii_digits text ≡ true → has_star text ≡ false
no_star text digits =
    let lacks = All-from_recursion (λ b. is_star b ≡ false) text (digits_lack 42 text (omega arith) digits) in
    let end : position_or_len is_star text ≡ length text =
    position_or_len_is is_star text (length text) 0 (omega arith) (λ k low. lacks k 0 low) (λ low. absurd (omega arith)) in
    let not : nat_lt (length text) (length text) ≡ false = grind (arith, nat_tests) in
    ap (λ at. nat_lt at (length text)) end ∙ not

digit_small : (c digit : ℕ) → is_ascii_digit c ≡ true → digit ≡ c - 48 → digit ≤ 9
digit_small c digit is value = grind (arith, nat_tests)

-- the first digit
pub first_digit : (text : List ℕ) (digit : ℕ) → 0 < length text → is_ascii_digit (get_or text 0 0) ≡ true → digit ≡ get_or text 0 0 - 48
    → ReadsUpTo 255 text 1 digit
first_digit text digit inside is value =
    let small = digit_small (get_or text 0 0) digit is value in
    let none : ReadsUpTo 255 text 0 0 = record { digits = ascii_digits.to [] refl; value = refl; within = omega arith } in
    let more = reads_one_more 255 text 0 0 none inside is (omega arith) in
    rw (value, ← zero-add (get_or text 0 0 - 48)) more

-- a digit more
pub digit_more : (text : List ℕ) (count number digit : ℕ) → ReadsUpTo 255 text count number → count < length text → is_ascii_digit (get_or text count 0) ≡ true
    → digit ≡ get_or text count 0 - 48 → number * 10 + digit ≤ 255 → ReadsUpTo 255 text (count + 1) (number * 10 + digit)
digit_more text count number digit read inside is value small = rw value (reads_one_more 255 text count number read inside is (rw value at small))

-- two digits
pub two_digits : (text : List ℕ) (first second : ℕ) → (0 < length text) × (is_ascii_digit (get_or text 0 0) ≡ true) → first ≡ get_or text 0 0 - 48
    → (1 < length text) × (is_ascii_digit (get_or text 1 0) ≡ true) → second ≡ get_or text 1 0 - 48 → ReadsUpTo 255 text 2 (first * 10 + second)
two_digits text first second one first_is two second_is =
    let small = digit_small (get_or text 0 0) first one.1 first_is in
    let next = digit_small (get_or text 1 0) second two.1 second_is in
    digit_more text 1 first second (first_digit text first one.0 one.1 first_is) two.0 two.1 second_is (omega (arith, small, next))

-- digits at the front of a text, with no leading zero, are one step of the CPU whose number they
-- are
pub front_item : (text : List ℕ) (count number : ℕ) → ReadsUpTo 255 text count number → 0 < count → count ≤ length text
    → (1 < count → get_or text 0 0 ≢ 48) → item_of (take count text) ≡ Some (record { cpu = record { 0 = number }; steps = 1 })
front_item text count number read some inside lead =
    let front = take count text in
    let long : length front ≡ count = length-take count text ∙ omega arith in
    let first : get_or front 0 0 ≡ get_or text 0 0 = get_or-take count text 0 0 some in
    let alone : get_or front 0 0 ≡ 48 → length front ≡ 1 = λ zero. elim (cases_lt 1 count) [
      | inl more ↦ absurd (lead more (sym first ∙ zero))
      | inr one ↦ omega arith
    ] in
    let digits = read_digits 255 text count number read in
    let spelled : IsSpelled front = record { digits = digits; some = omega arith; lead = alone } in
    let value = read.value in
    let within = read.within in
    rw (no_star front digits, number_to-spelled 255 front spelled (omega arith), value) refl

-- such a number, followed by a comma
pub step_cut : (text : List ℕ) (count : ℕ) (cpu : CpuId) → all_ascii_digits (take count text) ≡ true
    → item_of (take count text) ≡ Some (record { cpu = cpu; steps = 1 }) → count < length text → get_or text count 0 ≡ 44
    → steps_in (slice_split is_comma text) ≡ option_map (λ more. cpu ∷ more) (steps_in (slice_split is_comma (drop (count + 1) text)))
step_cut text count cpu digits item inside comma = rw (digits_cut text count digits inside comma, item) refl

-- ---- the loop over the items

-- the steps that are read, followed by those of the items still to be read
abbrev pub after : List CpuId → Option (List CpuId) → Option (List CpuId)
after done = option_map (λ more. done ++ more)
