-- A line that reads as an instruction is the one spelling of it, and that spelling reads as it.
use Rattle.std.proofs.Common.{◌≡◌, ◌==◌, ℕ, ◌-◌, ◌<◌, ◌≤◌, ◌^◌, Bool, true, false, if◌then◌else◌, List, [], ◌∷◌, ◌++◌, All, Option, Some, None, Result, Ok, Err}
use Rattle.std.proofs.{Common.{codes, decimal, bytes_eq, ◌⊎◌, inl, inr, refl, sym, ◌∙◌, ap, subst, arith, lit<, ne_eqb}, lemmas.Bool.Decides.nat_tests}
use Rattle.std.proofs.lemmas.{Bool.or_parts, Slice.Eq.bytes_eq-Decides, List.Splits.{slice_split_none, slice_split_at, join_with_byte-slice_split}}
use Rattle.std.{proofs.lemmas.{List.Elements.{All-nil, All-cons, All-from_get_or}, Str.Parse.digit_at, Fmt.digits_decimal}, specs.List.slice_split}
use Rattle.std.specs.List.{join_with_byte, list_any}
use Rattle.event_log.specs.{declared.ids.{BufId.BufId, TheConstants.BUFFERS}, Digits.{is_number, number_to}, Reading.{◌>>=◌}}
use Rattle.event_log.proofs.DigitsLemmas.{ascii_digits, number_to-decimal, number_to-spelling, number_to-Some, decimal-spelled, is_number-spelled}
use Rattle.guest.specs.declared.instructions.{TheConstants.REGISTERS, Register.{Register, TheVariants.{Reg0, Reg1, Reg2, Reg3, Reg4, Reg5, Reg6, Reg7}}}
use Rattle.guest.specs.declared.instructions.{Source.TheVariants.{One as FromOne, First}, Target.TheVariants.{One as IntoOne, All as IntoAll}}
use Rattle.guest.specs.declared.instructions.Instruction.{Instruction, TheVariants.{Set, Add, Sub, Jnz, Send, Recv, Close, Yield, Exit}}
use Rattle.guest.specs.{declared.refusals.GuestFault.{GuestFault, TheVariants.{BadNumber, BadTarget, UnknownWord}}, Instructions.{IsSource, IsTarget, IsWithin}}
use Rattle.guest.specs.Language.{or_fault, register_in, word_in, buffer_in, words_in, target_in, pieces_in, line_in, one_piece, two_pieces, three_pieces}
use Rattle.guest.specs.{Language.four_pieces, Spelling.{register_name, target_of, pieces_of, instruction_line}}

-- one word of a chain of words: what is read is that of this word, or is read from the words after
-- it
word_or : {A P : Type 0} {y : A} {x rest : Result A GuestFault} (word name : List ℕ) → (if bytes_eq word name then x else rest) ≡ Ok y
    → (word ≡ name → x ≡ Ok y → P) → (rest ≡ Ok y → P) → P
word_or {P = P} {y = y} {x = x} {rest = rest} word name h here behind = go (bytes_eq word name) refl h
  where
    go : (b : Bool) → bytes_eq word name ≡ b → (if b then x else rest) ≡ Ok y → P
    go true same is = here ((bytes_eq-Decides word name).0 same) is
    go false other is = behind is

-- what was read, if something was made of it
part : {A B P : Type 0} {y : B} {S : A → Type 0} {read : Result A GuestFault} {f : A → Result B GuestFault} → ((x : A) → read ≡ Ok x → S x)
    → ((x : A) → S x → f x ≡ Ok y → P) → (read >>= f) ≡ Ok y → P
part {read = Ok x} spelled behind h = behind x (spelled x refl) h
part {read = Err e} spelled behind h = absurd (cc)

-- one name of the chain of the registers' names
name_or : (piece : List ℕ) (q r : Register) (rest : Result Register GuestFault) → (rest ≡ Ok r → (piece ≡ register_name r) × Unit {0})
    → (if bytes_eq piece (register_name q) then Ok q else rest) ≡ Ok r → (piece ≡ register_name r) × Unit {0}
name_or piece q r rest behind h = word_or piece (register_name q) h (λ same is. let e : q ≡ r = cc in (rw e at same, tt)) behind

register_spelled : (piece : List ℕ) (r : Register) → register_in piece ≡ Ok r → (piece ≡ register_name r) × Unit {0}
unfolding register_in
register_spelled piece r =
    name_or piece Reg0 r _ (name_or piece Reg1 r _ (name_or piece Reg2 r _ (name_or piece Reg3 r _ (
    name_or piece Reg4 r _ (name_or piece Reg5 r _ (name_or piece Reg6 r _ (name_or piece Reg7 r _ (λ bad. absurd (cc)))))))))

number_spelled : (fault : GuestFault) (most : ℕ) (piece : List ℕ) (n : ℕ) → most < 2 ^ 64 → or_fault fault (number_to most piece) ≡ Ok n
    → (piece ≡ decimal n) × (n ≤ most)
number_spelled fault most piece n small h =
    let read : number_to most piece ≡ Some n = grind arith in
    (number_to-spelling most piece n small read, (number_to-Some most piece n read).within)

word_spelled : (piece : List ℕ) (n : ℕ) → word_in piece ≡ Ok n → (piece ≡ decimal n) × (n < 2 ^ 64)
unfolding word_in
word_spelled piece n h = let spelled = number_spelled BadNumber 18446744073709551615 piece n (lit< tt) h in (spelled.0, omega arith)

buffer_spelled : (piece : List ℕ) (b : BufId) → buffer_in piece ≡ Ok b → (piece ≡ decimal b.0) × (b.0 < BUFFERS)
unfolding buffer_in
buffer_spelled piece b =
    part (λ n. number_spelled BadNumber (BUFFERS - 1) piece n (lit< tt)) (λ n spelled h.
    let same : record { 0 = n } ≡ b = cc in subst (λ (x : BufId). (piece ≡ decimal x.0) × (x.0 < BUFFERS)) same (spelled.0, omega arith))

words_spelled : (piece : List ℕ) (n : ℕ) → words_in piece ≡ Ok n → (piece ≡ decimal n) × IsSource (First n)
unfolding words_in
words_spelled piece n =
    part (λ m. number_spelled BadNumber REGISTERS piece m (lit< tt)) (λ m spelled h. grind (arith, nat_tests))

-- what it is that pieces are those of an instruction of a program of so many lines
abbrev IsSpelledBy : ℕ → List (List ℕ) → Instruction → Type 0
IsSpelledBy count pieces i = (pieces ≡ pieces_of i) × IsWithin count i

module _ (count : ℕ) (some : 0 < count) (most : count ≤ 2 ^ 64) where
  target_spelled : (piece : List ℕ) (k : ℕ) → target_in count piece ≡ Ok k → (piece ≡ decimal k) × (k < count)
  unfolding target_in
  target_spelled piece k h =
      let spelled = number_spelled BadTarget (count - 1) piece k (omega arith) in
      grind arith

  module _ (word : List ℕ) (i : Instruction) where
    done : {pieces : List (List ℕ)} (make : Instruction) → IsSpelledBy count pieces make → ◌≡◌ {A = Result Instruction GuestFault} (Ok make) (Ok i)
        → IsSpelledBy count pieces i
    done {pieces = pieces} make spelled h = let e : make ≡ i = cc in subst (IsSpelledBy count pieces) e spelled

    unknown : {P : Type 0} → ◌≡◌ {A = Result Instruction GuestFault} (Err UnknownWord) (Ok i) → P
    unknown bad = absurd (cc)

    one_spelled : one_piece word ≡ Ok i → IsSpelledBy count (word ∷ []) i
    unfolding one_piece
    one_spelled h = word_or word (codes "yield") h (λ w. done Yield (cc, tt)) (λ h. word_or word (codes "exit") h (λ w. done Exit (cc, tt)) unknown)

    two_spelled : (a : List ℕ) → two_pieces word a ≡ Ok i → IsSpelledBy count (word ∷ a ∷ []) i
    unfolding two_pieces
    two_spelled a h =
        word_or word (codes "close") h (λ w. part (buffer_spelled a) (λ b p. done (Close b) (cc, p.1))) (λ h.
        word_or word (codes "recvm") h (λ w. part (buffer_spelled a) (λ b p. done (Recv b IntoAll None) (cc, (p.1, tt)))) unknown)

    three_spelled : (a b : List ℕ) → three_pieces count word a b ≡ Ok i → IsSpelledBy count (word ∷ a ∷ b ∷ []) i
    unfolding three_pieces
    three_spelled a b h =
        word_or word (codes "set") h (λ w. part (register_spelled a) (λ r p. part (word_spelled b) (λ n q. done (Set r n) (cc, q.1)))) (λ h.
        word_or word (codes "add") h (λ w. part (register_spelled a) (λ r p. part (register_spelled b) (λ s q. done (Add r s) (cc, tt)))) (λ h.
        word_or word (codes "sub") h (λ w. part (register_spelled a) (λ r p. part (register_spelled b) (λ s q. done (Sub r s) (cc, tt)))) (λ h.
        word_or word (codes "jnz") h (λ w. part (register_spelled a) (λ r p. part (target_spelled b) (λ k q. done (Jnz r k) (cc, q.1)))) (λ h.
        word_or word (codes "send") h (λ w. part (buffer_spelled a) (λ n p. part (register_spelled b)
        (λ r q. done (Send n (FromOne r) None) (cc, (p.1, tt, tt))))) (λ h.
        word_or word (codes "recv") h (λ w. part (buffer_spelled a) (λ n p. part (register_spelled b)
        (λ r q. done (Recv n (IntoOne r) None) (cc, (p.1, tt))))) (λ h.
        word_or word (codes "sendm") h (λ w. part (buffer_spelled a) (λ n p. part (words_spelled b)
        (λ m q. done (Send n (First m) None) (cc, (p.1, q.1, tt))))) (λ h.
        word_or word (codes "recvm") h (λ w. part (buffer_spelled a) (λ n p. part (target_spelled b)
        (λ k q. done (Recv n IntoAll (Some k)) (cc, (p.1, q.1))))) unknown)))))))

    four_spelled : (a b c : List ℕ) → four_pieces count word a b c ≡ Ok i → IsSpelledBy count (word ∷ a ∷ b ∷ c ∷ []) i
    unfolding four_pieces
    four_spelled a b c h =
        word_or word (codes "send") h (λ w. part (buffer_spelled a) (λ n p. part (register_spelled b) (λ r q. part (target_spelled c)
        (λ k s. done (Send n (FromOne r) (Some k)) (cc, (p.1, tt, s.1)))))) (λ h.
        word_or word (codes "recv") h (λ w. part (buffer_spelled a) (λ n p. part (register_spelled b) (λ r q. part (target_spelled c)
        (λ k s. done (Recv n (IntoOne r) (Some k)) (cc, (p.1, s.1)))))) (λ h.
        word_or word (codes "sendm") h (λ w. part (buffer_spelled a) (λ n p. part (words_spelled b) (λ m q. part (target_spelled c)
        (λ k s. done (Send n (First m) (Some k)) (cc, (p.1, q.1, s.1)))))) unknown))

  pieces_spelled : (pieces : List (List ℕ)) (i : Instruction) → pieces_in count pieces ≡ Ok i → IsSpelledBy count pieces i
  pieces_spelled [] i h = absurd (cc)
  pieces_spelled (word ∷ []) i h = one_spelled word i h
  pieces_spelled (word ∷ a ∷ []) i h = two_spelled word i a h
  pieces_spelled (word ∷ a ∷ b ∷ []) i h = three_spelled word i a b h
  pieces_spelled (word ∷ a ∷ b ∷ c ∷ []) i h = four_spelled word i a b c h
  pieces_spelled (word ∷ a ∷ b ∷ c ∷ d ∷ more) i h = absurd (cc)

-- a line that reads as an instruction is its line
pub line_in-only : (count : ℕ) (text : List ℕ) (i : Instruction) → 0 < count → count ≤ 2 ^ 64 → line_in count text ≡ Ok i → text ≡ instruction_line i
unfolding line_in instruction_line
line_in-only count text i some most h =
    sym (join_with_byte-slice_split 32 text) ∙ ap (join_with_byte 32) (pieces_spelled count some most (slice_split (λ byte. byte == 32) text) i h).0

-- a piece has no space, and so each of these pieces
abbrev HasNoSpace : List ℕ → Type 0
HasNoSpace piece = All (λ byte. (byte == 32) ≡ false) piece

abbrev HaveNoSpace : List (List ℕ) → Type 0
HaveNoSpace [] = Unit {0}
HaveNoSpace (piece ∷ pieces) = HasNoSpace piece × HaveNoSpace pieces

no_space : (piece : List ℕ) → list_any (λ byte. byte == 32) piece ≡ false → HasNoSpace piece
no_space [] none = All-nil (λ byte. (byte == 32) ≡ false)
no_space (c ∷ piece) none =
    let parts = or_parts (c == 32) _ none in
    All-cons (λ byte. (byte == 32) ≡ false) c piece parts.0 (no_space piece parts.1)

decimal_no_space : (n : ℕ) → n < 2 ^ 64 → HasNoSpace (decimal n)
decimal_no_space n small =
    let digits = ascii_digits.to (decimal n) (digits_decimal ascii_digits n small) in
    All-from_get_or (λ byte. (byte == 32) ≡ false) (decimal n) 0 (λ i h. let range = digit_at (decimal n) i digits h in ne_eqb _ 32 (λ e. omega arith))

name_no_space : (r : Register) → HasNoSpace (register_name r)
name_no_space Reg0 = no_space (register_name Reg0) refl
name_no_space other = no_space (register_name other) refl

target_no_space : (count : ℕ) (k : Option ℕ) → count ≤ 2 ^ 64 → IsTarget count k → HaveNoSpace (target_of k)
target_no_space count None most below = tt
target_no_space count (Some k) most below = (decimal_no_space k (omega arith), tt)

-- pieces without spaces are read back
split_again : (word : List ℕ) (pieces : List (List ℕ)) → HaveNoSpace (word ∷ pieces)
    → slice_split (λ byte. byte == 32) (join_with_byte 32 (word ∷ pieces)) ≡ word ∷ pieces
split_again word [] none = slice_split_none (λ byte. byte == 32) word none.0
split_again word (a ∷ pieces) none =
    slice_split_at (λ byte. byte == 32) word 32 (join_with_byte 32 (a ∷ pieces)) none.0 refl ∙ ap (λ rest. word ∷ rest) (split_again a pieces none.1)

-- and so those of an instruction's line
line_split : (count : ℕ) (i : Instruction) → count ≤ 2 ^ 64 → IsWithin count i
    → slice_split (λ byte. byte == 32) (join_with_byte 32 (pieces_of i)) ≡ pieces_of i
line_split count (Set r n) most within = split_again _ _ (no_space (codes "set") refl, (name_no_space r, (decimal_no_space n within, tt)))
line_split count (Add r q) most within = split_again _ _ (no_space (codes "add") refl, (name_no_space r, (name_no_space q, tt)))
line_split count (Sub r q) most within = split_again _ _ (no_space (codes "sub") refl, (name_no_space r, (name_no_space q, tt)))
line_split count (Jnz r k) most within = split_again _ _ (no_space (codes "jnz") refl, (name_no_space r, target_no_space count (Some k) most within))
line_split count (Send b (FromOne r) k) most within =
    split_again _ _ (no_space (codes "send") refl, (decimal_no_space b.0 (omega arith), (name_no_space r, target_no_space count k most within.2)))
line_split count (Send b (First m) k) most within =
    split_again _ _ (
      no_space (codes "sendm") refl,
      (decimal_no_space b.0 (omega arith), (decimal_no_space m (omega arith), target_no_space count k most within.2)),
    )
line_split count (Recv b (IntoOne r) k) most within =
    split_again _ _ (no_space (codes "recv") refl, (decimal_no_space b.0 (omega arith), (name_no_space r, target_no_space count k most within.1)))
line_split count (Recv b IntoAll k) most within =
    split_again _ _ (no_space (codes "recvm") refl, (decimal_no_space b.0 (omega arith), target_no_space count k most within.1))
line_split count (Close b) most within = split_again _ _ (no_space (codes "close") refl, (decimal_no_space b.0 (omega arith), tt))
line_split count Yield most within = split_again _ _ (no_space (codes "yield") refl, tt)
line_split count Exit most within = split_again _ _ (no_space (codes "exit") refl, tt)

register_again : (r : Register) → register_in (register_name r) ≡ Ok r
unfolding register_in
register_again Reg0 = refl
register_again other = refl

word_again : (n : ℕ) → n < 2 ^ 64 → word_in (decimal n) ≡ Ok n
unfolding word_in
word_again n small = rw (number_to-decimal 18446744073709551615 n small (omega arith)) refl

buffer_again : (b : BufId) → b.0 < BUFFERS → buffer_in (decimal b.0) ≡ Ok b
unfolding buffer_in
buffer_again b small = rw (number_to-decimal (BUFFERS - 1) b.0 (omega arith) (omega arith)) refl

words_again : (n : ℕ) → IsSource (First n) → words_in (decimal n) ≡ Ok n
unfolding words_in
words_again n source =
    rw (number_to-decimal REGISTERS n (omega arith) source.1, ne_eqb n 0 (λ e. omega arith)) refl

target_again : (count k : ℕ) → count ≤ 2 ^ 64 → k < count → target_in count (decimal k) ≡ Ok k
unfolding target_in
target_again count k most below =
    rw (is_number-spelled (decimal k) (decimal-spelled k (omega arith)), number_to-decimal (count - 1) k (omega arith) (omega arith)) refl

-- the pieces of an instruction within the limits read as it
pieces_again : (count : ℕ) (i : Instruction) → count ≤ 2 ^ 64 → IsWithin count i → pieces_in count (pieces_of i) ≡ Ok i
unfolding one_piece two_pieces three_pieces four_pieces
pieces_again count (Set r n) most within = rw (register_again r, word_again n within) refl
pieces_again count (Add r q) most within = rw (register_again r) (rw (register_again q) refl)
pieces_again count (Sub r q) most within = rw (register_again r) (rw (register_again q) refl)
pieces_again count (Jnz r k) most within = rw (register_again r, target_again count k most within) refl
pieces_again count (Send b (FromOne r) None) most within = rw (buffer_again b within.0, register_again r) refl
pieces_again count (Send b (FromOne r) (Some k)) most within = rw (buffer_again b within.0, register_again r, target_again count k most within.2) refl
pieces_again count (Send b (First m) None) most within = rw (buffer_again b within.0, words_again m within.1) refl
pieces_again count (Send b (First m) (Some k)) most within = rw (buffer_again b within.0, words_again m within.1, target_again count k most within.2) refl
pieces_again count (Recv b (IntoOne r) None) most within = rw (buffer_again b within.0, register_again r) refl
pieces_again count (Recv b (IntoOne r) (Some k)) most within = rw (buffer_again b within.0, register_again r, target_again count k most within.1) refl
pieces_again count (Recv b IntoAll None) most within = rw (buffer_again b within.0) refl
pieces_again count (Recv b IntoAll (Some k)) most within = rw (buffer_again b within.0, target_again count k most within.1) refl
pieces_again count (Close b) most within = rw (buffer_again b within) refl
pieces_again count Yield most within = refl
pieces_again count Exit most within = refl

-- the line of an instruction within the limits reads as it
pub line_in-instruction_line : (count : ℕ) (i : Instruction) → count ≤ 2 ^ 64 → IsWithin count i → line_in count (instruction_line i) ≡ Ok i
unfolding line_in instruction_line
line_in-instruction_line count i most within = ap (pieces_in count) (line_split count i most within) ∙ pieces_again count i most within
