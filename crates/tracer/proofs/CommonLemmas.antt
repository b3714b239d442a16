-- The line of a send or a receive of one word is read in one pass, up to the line feed that ends
-- the text.
use Rattle.std.proofs.Common.{◌≡◌, ◌≢◌, ℕ, ◌+◌, ◌-◌, ◌*◌, ◌%◌, ◌^◌, ◌<◌, ◌≤◌, ◌==◌, true, false, List, [], ◌∷◌, ◌++◌, length, get_or, take, drop, Option, Some}
use Rattle.std.proofs.{Common.{None, Result, refl, sym, ap, ◌∙◌, subst, lit<, inl, inr, append_assoc, length-append, arith, rules}, lemmas.Bool.cases_lt}
use Rattle.std.proofs.lemmas.{Bool.Decides.nat_tests, List.{get_or-append_right, get_or-drop, length-drop, take_rest, Elements.All-from_recursion}}
use Rattle.std.specs.{Prelude.{decimal, codes, IfNone, IsSome}, Char.is_ascii_digit, List.{join_with_byte, slice_split}}
use Rattle.event_log.{specs.declared.{ids.TheConstants.BUFFERS, entries.{Kind.Kind, Entry.Entry}}, proofs.DigitsLemmas.{ReadsUpTo, reads_one_more, read_digits}}
use Rattle.{event_log.proofs.DigitsLemmas.{short_stays_below, number_to-spelling}, tracer.specs.declared.verdicts.Reason.Reason}
use Rattle.tracer.specs.{declared.versions.Version.TheVariants.One, Versions.{version_of_kind, version_of_entry}, TraceText.{text_line, entry_pieces}}
use Rattle.tracer.specs.{TraceText.{value_piece, IsEntryOf}, Judging.{TextProgress, entry_line, step}, Lines.IsFirstLine, Tallies.StepsTo, Steps.EndsInLine}
use Rattle.tracer.{specs.Steps.{StepsOver, judged_entry}, proofs.{CutLemmas.{cut_whole, cut_none}, NumeralLemmas.front_number, SplitLemmas.join_lacks}}
use Rattle.tracer.proofs.{SplitLemmas.pieces_again, VersionLemmas.covers_first_one, EntryLemmas.{behind_e, of_version_again, entry_digits_again}}
use Rattle.tracer.proofs.{EntryLemmas.entry_in_again, StepLemmas.{entry_is_line, entries_e}}
use Rattle.tracer.specs.declared.next_lines.NextLine.TheVariants as wants

-- ---- the end of the text

digit_no_feed : (c : ℕ) → is_ascii_digit c ≡ true → c ≢ 10
digit_no_feed c is e = grind (arith, nat_tests)

-- after a byte that is no line feed the text continues
more_behind : (text : List ℕ) (at : ℕ) → EndsInLine text → at < length text → get_or text at 0 ≢ 10 → at + 1 < length text
more_behind text at is lt other = elim (cases_lt (at + 1) (length text)) [
  | inl more ↦ more
  | inr all ↦ absurd (other (let last : at ≡ length text - 1 = omega arith in ap (λ (k : ℕ). get_or text k 0) last ∙ is.last))
]

pub digit_goes_on : (text : List ℕ) (at : ℕ) → EndsInLine text → at < length text → is_ascii_digit (get_or text at 0) ≡ true → at + 1 < length text
digit_goes_on text at is lt digit = more_behind text at is lt (digit_no_feed (get_or text at 0) digit)

last_of : (text front : List ℕ) (b : ℕ) (rest : List ℕ) → EndsInLine text → text ≡ front ++ b ∷ rest → get_or (b ∷ rest) (length rest) 0 ≡ 10
last_of text front b rest is e =
    let long : length text ≡ length front + length (b ∷ rest) = ap length e ∙ length-append front (b ∷ rest) in
    let place : length text - 1 - length front ≡ length rest = omega arith in
    let behind : length front ≤ length text - 1 = omega arith in
    sym (ap (λ (k : ℕ). get_or (b ∷ rest) k 0) place) ∙ sym (get_or-append_right front (b ∷ rest) (length front) (length text - 1) 0 refl behind)
    ∙ ap (λ (t : List ℕ). get_or t (length text - 1) 0) (sym e) ∙ is.last

ends_some : (b : ℕ) (rest : List ℕ) → 0 < length rest → get_or (b ∷ rest) (length rest) 0 ≡ 10 → EndsInLine rest
ends_some b [] some last = absurd (omega arith)
ends_some b (y ∷ ys) some last = let e : length (y ∷ ys) - 1 ≡ length ys = omega arith in record { some = some; last = rw e last }

ends_with : (b : ℕ) (rest : List ℕ) → b ≢ 10 → get_or (b ∷ rest) (length rest) 0 ≡ 10 → EndsInLine rest
ends_with b [] other last = absurd (other last)
ends_with b (y ∷ ys) other last = ends_some b (y ∷ ys) (omega arith) last

pub ends_in_rest : (text front : List ℕ) (b : ℕ) (rest : List ℕ) → b ≢ 10 → EndsInLine text → text ≡ front ++ b ∷ rest → EndsInLine rest
ends_in_rest text front b rest other is e = ends_with b rest other (last_of text front b rest is e)

pub ends_behind_space : (text front rest : List ℕ) → EndsInLine text → text ≡ front ++ 32 ∷ rest → EndsInLine rest
ends_behind_space text front rest is e = ends_in_rest text front 32 rest (λ h. omega arith) is e

pub ends_behind_line : (text line behind : List ℕ) → EndsInLine text → IsFirstLine text line behind → 0 < length behind → EndsInLine behind
ends_behind_line text line behind is first some = ends_some 10 behind some (last_of text line 10 behind is first.whole)

no_last : (text : List ℕ) → EndsInLine text → ((k : ℕ) → k < length text → (get_or text k 0 == 10) ≡ false) → (get_or text (length text - 1) 0 == 10) ≡ false
no_last text is lacks = let some = is.some in lacks (length text - 1) (omega arith)

no_feed : (c : ℕ) → c ≡ 10 → (c == 10) ≡ false → {A : Type 0} → A
no_feed c e other = absurd (grind arith)

-- so it has a line
pub line_is_there : {A : Type 0} (r : Option A) (text : List ℕ) → EndsInLine text
    → IfNone r ((k : ℕ) → k < length text → (get_or text k 0 == 10) ≡ false) → IsSome r
line_is_there None text is lacks = no_feed (get_or text (length text - 1) 0) is.last (no_last text is lacks)
line_is_there (Some x) text is lacks = search rules

-- after the last line feed there is none
pub none_behind : (text : List ℕ) (end : ℕ) → ((k : ℕ) → end ≤ k → k < length text → (get_or text k 0 == 10) ≡ false)
    → slice_split (λ b. b == 10) (drop end text) ≡ drop end text ∷ []
none_behind text end lacks =
    cut_none 10 (drop end text) (λ k inside. rw (get_or-drop end text k 0) (lacks (end + k) (omega arith) (omega (arith, length-drop end text))))

-- ---- a number

wraps_not : (n d : ℕ) → n * 10 + d ≤ 18446744073709551615 → ((n * 10) % 2 ^ 64 + d) % 2 ^ 64 ≡ n * 10 + d
wraps_not n d le = omega arith

pub first_digit : (text : List ℕ) → 0 < length text → is_ascii_digit (get_or text 0 0) ≡ true → ReadsUpTo 18446744073709551615 text 1 (get_or text 0 0 - 48)
first_digit text some digit =
    let none : ReadsUpTo 18446744073709551615 text 0 0 = record { digits = search rules; value = search rules; within = omega arith } in
    let below = short_stays_below text 0 0 none some (lit< tt) digit in
    let same : 0 * 10 + (get_or text 0 0 - 48) ≡ get_or text 0 0 - 48 = omega arith in
    subst (λ (n : ℕ). ReadsUpTo 18446744073709551615 text 1 n) same (reads_one_more 18446744073709551615 text 0 0 none some digit below)

pub digits_more : (text : List ℕ) (count number digit : ℕ) → (count ≤ 19 → ReadsUpTo 18446744073709551615 text count number) → count < length text
    → is_ascii_digit (get_or text count 0) ≡ true → digit ≡ get_or text count 0 - 48
    → count + 1 ≤ 19 → ReadsUpTo 18446744073709551615 text (count + 1) (((number * 10) % 2 ^ 64 + digit) % 2 ^ 64)
digits_more text count number digit read inside is value few =
    let r = read (omega arith) in
    let below = short_stays_below text count number r inside (omega arith) is in
    let same : ((number * 10) % 2 ^ 64 + digit) % 2 ^ 64 ≡ number * 10 + (get_or text count 0 - 48) =
    rw value (wraps_not number (get_or text count 0 - 48) below) in
    subst (λ (n : ℕ). ReadsUpTo 18446744073709551615 text (count + 1) n) (sym same) (reads_one_more 18446744073709551615 text count number r inside is below)

pub digits_spell : (text : List ℕ) (count number : ℕ) → ReadsUpTo 18446744073709551615 text count number → 0 < count → count ≤ length text → count ≤ 19
    → (1 < count → get_or text 0 0 ≢ 48) → take count text ≡ decimal number
digits_spell text count number r some inside few lead =
    let digits = read_digits 18446744073709551615 text count number r in
    number_to-spelling 18446744073709551615 (take count text) number (lit< tt) (front_number text count digits some inside few lead ∙ ap Some r.value)

pub zero_spelled : (text : List ℕ) → 0 < length text → is_ascii_digit (get_or text 0 0) ≡ true → get_or text 0 0 - 48 ≡ 0 → take 1 text ≡ decimal 0
zero_spelled text some digit e =
    let read = subst (λ (n : ℕ). ReadsUpTo 18446744073709551615 text 1 n) e (first_digit text some digit) in
    digits_spell text 1 0 read (omega arith) (omega arith) (omega arith) (λ more. absurd (omega arith))

-- what was spelled, the byte after it, and what is after that
pub number_cut : (text : List ℕ) (count number end : ℕ) → take count text ≡ decimal number → count < length text → get_or text count 0 ≡ end
    → text ≡ decimal number ++ end ∷ take (length text - (count + 1)) (drop (count + 1) text)
number_cut text count number end spelled inside e =
    let cut : text ≡ take count text ++ get_or text count 0 ∷ drop (count + 1) text = sym (cut_whole text count inside) in
    rw (take_rest text (count + 1)) (rw (← spelled, ← e) cut)

-- the message of a send or a receive of one word
pub value_of_one : (kind : Kind) (word : ℕ) → version_of_kind kind ≡ One → value_piece kind (word ∷ []) ≡ decimal word
value_of_one kind word version = grind arith

-- ---- the line

pub line_joined : (a b c d e f g text t0 t1 t2 t3 t4 t5 t6 t7 : List ℕ) → text ≡ 101 ∷ 32 ∷ t0 → t0 ≡ a ++ 32 ∷ t1 → t1 ≡ b ++ 32 ∷ t2 → t2 ≡ c ++ 32 ∷ t3
    → t3 ≡ d ++ 32 ∷ t4 → t4 ≡ e ++ 32 ∷ t5 → t5 ≡ f ++ 32 ∷ t6 → t6 ≡ g ++ 10 ∷ t7
    → text ≡ (101 ∷ 32 ∷ (a ++ 32 ∷ (b ++ 32 ∷ (c ++ 32 ∷ (d ++ 32 ∷ (e ++ 32 ∷ (f ++ 32 ∷ g)))))) ++ 10 ∷ []) ++ t7
line_joined a b c d e f g text t0 t1 t2 t3 t4 t5 t6 t7 e0 e1 e2 e3 e4 e5 e6 e7 = rw (e0, e1, e2, e3, e4, e5, e6, e7) (simp append_assoc)

first_of_line : (text : List ℕ) (e : Entry) (behind : List ℕ) → text ≡ text_line (entry_pieces e) ++ behind → IsEntryOf BUFFERS e
    → IsFirstLine text (join_with_byte 32 (entry_pieces e)) behind
first_of_line text e behind is small = record {
  whole = is ∙ append_assoc (join_with_byte 32 (entry_pieces e)) (10 ∷ []) behind;
  first = All-from_recursion (λ b. (b == 10) ≡ false) (join_with_byte 32 (entry_pieces e))
      (join_lacks 10 32 (entry_pieces e) refl (entry_is_line BUFFERS e (omega arith) small 10 (lit< tt)));
}

line_entered : (e : Entry) (s : TextProgress) → IsEntryOf BUFFERS e → version_of_entry e ≡ One → entry_line (behind_e e) s ≡ judged_entry e s
unfolding entry_line judged_entry
line_entered e s small version = grind (arith, entry_digits_again, of_version_again, entry_in_again, covers_first_one)

step_common : (s : TextProgress) (e : Entry) → s.at ≡ wants.Entries → IsEntryOf BUFFERS e → version_of_entry e ≡ One
    → step s (join_with_byte 32 (entry_pieces e)) ≡ judged_entry e s
unfolding step
step_common s e at small version =
    let now : TextProgress = record s { at = wants.Entries } in
    rw (at, pieces_again (codes "e") (behind_e e) (entry_is_line BUFFERS e (omega arith) small)) (entries_e (behind_e e) now ∙ line_entered e now small version)

-- an entry that was read, and judged
pub common_step : (old : TextProgress) (text : List ℕ) (e : Entry) (judged : Result (Unit {0}) Reason) (now : TextProgress) (behind : List ℕ)
    → old.at ≡ wants.Entries → text ≡ text_line (entry_pieces e) ++ behind → IsEntryOf BUFFERS e → version_of_entry e ≡ One
    → StepsTo (judged_entry e old) judged now → StepsOver old text judged now behind
common_step old text e judged now behind at is small version steps = record {
  line = join_with_byte 32 (entry_pieces e);
  is = first_of_line text e behind is small;
  steps = subst (λ (r : Result TextProgress Reason). StepsTo r judged now) (sym (step_common old e at small version)) steps;
}
