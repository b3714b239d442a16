-- What is joined by a byte that no piece has is cut again into its pieces.
use Rattle.std.proofs.Common.{lit<}
use Rattle.std.proofs.Common.{◌≡◌, ℕ, ◌+◌, ◌<◌, ◌≤◌, ◌^◌, ◌==◌, true, false, List, [], ◌∷◌, ◌++◌, Ok, length, get_or, take, drop, refl, ap, sym, ◌∙◌}
use Rattle.std.proofs.{Common.{append_assoc, eq-eqb, arith, take_all}, lemmas.{Bool.{Decides.nat_tests, and_parts}, List.Elements.All-from_recursion}}
use Rattle.std.{proofs.lemmas.List.{Splits.{slice_split_at, slice_split_none}, drop_more, take-append-drop}, specs.{Prelude.decimal, Char.is_ascii_digit}}
use Rattle.{std.specs.{Str.all_ascii_digits, List.{AllByRecursion, slice_split, join_with_byte}}, event_log.proofs.DigitsLemmas.decimal-spelled}
use Rattle.tracer.{specs.{TraceText.text_line, Judging.{TextProgress, line_pieces, lines_in, step, verdict_from}}, proofs.VerdictLemmas.line_taken}

-- no byte of the text is this one
abbrev pub Lacks : ℕ → List ℕ → Type 0
Lacks at text = AllByRecursion (λ b. (b == at) ≡ false) text

Lacks-append : (at : ℕ) (xs ys : List ℕ) → Lacks at xs → Lacks at ys → Lacks at (xs ++ ys)
Lacks-append at [] ys p q = q
Lacks-append at (x ∷ xs) ys p q = (p.0, Lacks-append at xs ys p.1 q)

split_alone : (at : ℕ) (text : List ℕ) → Lacks at text → slice_split (λ b. b == at) text ≡ text ∷ []
split_alone at text lacks = slice_split_none (λ b. b == at) text (All-from_recursion (λ b. (b == at) ≡ false) text lacks)

split_behind : (at : ℕ) (front rest : List ℕ) → Lacks at front → slice_split (λ b. b == at) (front ++ at ∷ rest) ≡ front ∷ slice_split (λ b. b == at) rest
split_behind at front rest lacks = slice_split_at (λ b. b == at) front at rest (All-from_recursion (λ b. (b == at) ≡ false) front lacks) (eq-eqb at at refl)

pub split_join : (at : ℕ) (p : List ℕ) (ps : List (List ℕ)) → AllByRecursion (Lacks at) (p ∷ ps)
    → slice_split (λ b. b == at) (join_with_byte at (p ∷ ps)) ≡ p ∷ ps
split_join at p [] lacks = split_alone at p lacks.0
split_join at p (q ∷ qs) lacks = split_behind at p (join_with_byte at (q ∷ qs)) lacks.0 ∙ ap (λ (t : List (List ℕ)). p ∷ t) (split_join at q qs lacks.1)

pub join_lacks : (at sep : ℕ) (ps : List (List ℕ)) → (sep == at) ≡ false → AllByRecursion (Lacks at) ps → Lacks at (join_with_byte sep ps)
join_lacks at sep [] other lacks = tt
join_lacks at sep (p ∷ []) other lacks = lacks.0
join_lacks at sep (p ∷ q ∷ qs) other lacks = Lacks-append at p (sep ∷ join_with_byte sep (q ∷ qs)) lacks.0 (other, join_lacks at sep (q ∷ qs) other lacks.1)

no_digit : (at c : ℕ) → at < 48 → is_ascii_digit c ≡ true → (c == at) ≡ false
no_digit at c lt digit = grind (arith, nat_tests)

digits_lack : (at : ℕ) (cs : List ℕ) → at < 48 → all_ascii_digits cs ≡ true → Lacks at cs
digits_lack at [] lt digits = tt
digits_lack at (c ∷ cs) lt digits =
    let parts = and_parts (is_ascii_digit c) (all_ascii_digits cs) digits in
    (no_digit at c lt parts.0, digits_lack at cs lt parts.1)

pub decimal_lacks : (at n : ℕ) → at < 48 → n < 2 ^ 64 → Lacks at (decimal n)
decimal_lacks at n lt small = digits_lack at (decimal n) lt (decimal-spelled n small).digits

-- a text of digits is not cut at another byte
pub digits_alone : (at : ℕ) (cs : List ℕ) → at < 48 → all_ascii_digits cs ≡ true → slice_split (λ b. b == at) cs ≡ cs ∷ []
digits_alone at cs lt digits = split_alone at cs (digits_lack at cs lt digits)

-- digits and a space after them are the first piece
pub digits_cut : (text : List ℕ) (count : ℕ) → all_ascii_digits (take count text) ≡ true → count < length text → get_or text count 0 ≡ 32
    → line_pieces text ≡ take count text ∷ line_pieces (drop (count + 1) text)
digits_cut text count digits inside space =
    grind (arith, drop_more text count 0 inside, take-append-drop count text, split_behind 32 (take count text), digits_lack 32 (take count text))

-- digits to the end of the text are its one piece
pub digits_end : (text : List ℕ) (count : ℕ) → all_ascii_digits (take count text) ≡ true → length text ≤ count → line_pieces text ≡ text ∷ []
digits_end text count digits end = digits_alone 32 text (omega arith) (ap all_ascii_digits (sym (take_all count text end)) ∙ digits)

-- no piece has a byte below the comma, as a space or a line feed
abbrev pub IsLine : List (List ℕ) → Type 0
IsLine ps = (at : ℕ) → at < 44 → AllByRecursion (Lacks at) ps

pub pieces_again : (p : List ℕ) (ps : List (List ℕ)) → IsLine (p ∷ ps) → line_pieces (join_with_byte 32 (p ∷ ps)) ≡ p ∷ ps
pieces_again p ps line = split_join 32 p ps (line 32 (lit< tt))

line_again : (p : List ℕ) (ps : List (List ℕ)) (rest : List ℕ) → IsLine (p ∷ ps)
    → lines_in (text_line (p ∷ ps) ++ rest) ≡ join_with_byte 32 (p ∷ ps) ∷ lines_in rest
line_again p ps rest line =
    let text : text_line (p ∷ ps) ++ rest ≡ join_with_byte 32 (p ∷ ps) ++ 10 ∷ rest = append_assoc (join_with_byte 32 (p ∷ ps)) (10 ∷ []) rest in
    ap lines_in text ∙ split_behind 10 (join_with_byte 32 (p ∷ ps)) rest (join_lacks 10 32 (p ∷ ps) refl (line 10 (lit< tt)))

-- a line that is taken
pub line_read : (s after : TextProgress) (n : ℕ) (p : List ℕ) (ps : List (List ℕ)) (rest : List ℕ) → IsLine (p ∷ ps)
    → step s (join_with_byte 32 (p ∷ ps)) ≡ Ok after → verdict_from s n (lines_in (text_line (p ∷ ps) ++ rest)) ≡ verdict_from after (n + 1) (lines_in rest)
line_read s after n p ps rest line taken = line_taken s after n (text_line (p ∷ ps) ++ rest) (join_with_byte 32 (p ∷ ps)) rest (line_again p ps rest line) taken
