-- A message is spelled and read again, and what is read as a message is spelled so.
use Rattle.std.proofs.Common.{◌≡◌, ℕ, ◌<◌, ◌^◌, ◌==◌, Bool, true, false, not, ◌&&◌, List, [], ◌∷◌, length, map, Result, Ok, Some, refl, ap, subst, ◌∙◌}
use Rattle.std.proofs.{Common.{lit<, arith}, lemmas.{Bool.and_parts, List.{length-map, Splits.{length-slice_split, join_with_byte-slice_split}}}}
use Rattle.std.{proofs.lemmas.Slice.Eq.bytes_eq-Decides, specs.{Prelude.{decimal}, Str.bytes_eq, List.{AllByRecursion, list_all}}}
use Rattle.event_log.specs.{Messages.{Message, IsMessage, padded}, Digits.{is_number, number_to}, Rings.front_item}
use Rattle.event_log.{specs.Rings.items_behind, proofs.{DigitsLemmas.{IsSpelled, number_to-Some, number_to-decimal, spelled_number}, MessageLemmas.padded_eq}}
use Rattle.tracer.specs.{declared.{verdicts.Reason.{Reason}, versions.Version.{Version, TheVariants.Three}}, Versions.covers}
use Rattle.tracer.specs.{Versions.version_of_count, TraceText.{message_text, IsItemOf}, Judging.{take_first, comma_parts, spells_message, numbers_in}}
use Rattle.tracer.{specs.Judging.{message_in, is_same, is_message, is_within}, proofs.{VersionLemmas.covers_first_one, ReadLemmas.{same_ok}}}
use Rattle.tracer.proofs.{ReadLemmas.{in_range_taken, decimal_is_number}, SplitLemmas.{Lacks, digits_alone, split_join, join_lacks, decimal_lacks}}

-- words of 64 bits
abbrev pub AreWords : List ℕ → Type 0
AreWords ns = AllByRecursion (λ n. n < 2 ^ 64) ns

words_lack : (at : ℕ) (ns : List ℕ) → at < 48 → AreWords ns → AllByRecursion (Lacks at) (map decimal ns)
words_lack at [] lt small = tt
words_lack at (n ∷ ns) lt small = (decimal_lacks at n lt small.0, words_lack at ns lt small.1)

-- ---- equal

-- the first message is the wanted one
pub takes_first : (x m : Message) (items : List Message) (differs : Bool) → front_item items ≡ Some x
    → differs ≡ not (bytes_eq (padded x) (padded m) && (length x == length m)) → differs ≡ false → take_first m items ≡ Ok (items_behind items)
takes_first x m items differs is test equal = grind (arith, padded_eq)

-- a message that was read is this one
pub is_read : (read : Result Message Reason) (x m : Message) (same : Bool) → read ≡ Ok x
    → same ≡ (bytes_eq (padded x) (padded m) && (length x == length m)) → same ≡ is_same read m
is_read read x m same is test = rw is (test ∙ padded_eq x m)

-- ---- one word

alone : (piece : List ℕ) → IsSpelled piece → comma_parts piece ≡ piece ∷ []
alone piece spelled = digits_alone 44 piece (lit< tt) spelled.digits

pub spells_number : (v : Version) (piece : List ℕ) → is_number piece ≡ true → spells_message v piece ≡ true
spells_number v piece is = rw (alone piece (spelled_number piece is), is, covers_first_one v) refl

pub reads_number : (piece : List ℕ) (n : ℕ) → number_to 18446744073709551615 piece ≡ Some n → message_in piece ≡ Ok (n ∷ [])
reads_number piece n is = rw (alone piece (number_to-Some 18446744073709551615 piece n is).spelled, is) refl

-- ---- several words

several : (v : Version) (piece front behind : List ℕ) → comma_parts piece ≡ front ∷ comma_parts behind
    → covers v (version_of_count (length (comma_parts piece))) ≡ covers v Three
several v piece front behind cut = grind (arith, ap length cut, length-slice_split (λ b. b == 44) behind)

-- a text of a version that has no messages of several words
pub not_spelled : (v : Version) (piece front behind : List ℕ) (high : Bool) → comma_parts piece ≡ front ∷ comma_parts behind → high ≡ covers v Three
    → high ≡ false → high ≡ spells_message v piece
not_spelled v piece front behind high cut is low = grind (arith, several v piece front behind cut)

-- ---- spelled, and read again

cut_again : (m : Message) → 0 < length m → AreWords m → comma_parts (message_text m) ≡ map decimal m
cut_again [] some small = absurd (let z : 0 < 0 = some in omega arith)
cut_again (n ∷ ns) some small = split_join 44 (decimal n) (map decimal ns) (words_lack 44 (n ∷ ns) (lit< tt) small)

words_again : (m : Message) → IsMessage m → comma_parts (message_text m) ≡ map decimal m
words_again m is = cut_again m is.some is.words

are_numbers_again : (ns : List ℕ) → AreWords ns → list_all is_number (map decimal ns) ≡ true
are_numbers_again [] small = refl
are_numbers_again (n ∷ ns) small = rw (decimal_is_number n small.0, are_numbers_again ns small.1) refl

numbers_again : (ns : List ℕ) → AreWords ns → numbers_in (map decimal ns) ≡ Ok ns
numbers_again [] small = refl
numbers_again (n ∷ ns) small = grind (arith, number_to-decimal 18446744073709551615 n, numbers_again ns small.1)

pub spells_message_again : (v : Version) (m : Message) → IsItemOf v m → spells_message v (message_text m) ≡ true
spells_message_again v m is = rw (words_again m is.small, length-map m decimal, is.version, are_numbers_again m is.small.words) refl

pub message_again : (m : Message) → IsMessage m → message_in (message_text m) ≡ Ok m
message_again m is = grind (arith, words_again, length-map, numbers_again)

pub is_message_again : (m : Message) → IsMessage m → is_message (message_text m) m ≡ true
is_message_again m is = rw (message_again m is) ((bytes_eq-Decides m m).1 refl)

pub is_within_again : (m : Message) → IsMessage m → is_within (message_text m) ≡ true
is_within_again m is = rw (message_again m is) refl

-- no byte of a message is a space or a line feed
pub message_lacks : (at : ℕ) (m : Message) → at < 44 → IsMessage m → Lacks at (message_text m)
message_lacks at m lt is =
    let other : (44 == at) ≡ false = grind arith in
    join_lacks at 44 (map decimal m) other (words_lack at m (omega arith) is.words)

-- ---- read, and spelled so

-- what it says that these words were read as numbers
pub record NumbersTaken (words : List (List ℕ)) (ns : List ℕ) : Type 0 where
  pub spelled : words ≡ map decimal ns
  pub small : AreWords ns
  pub each : length ns ≡ length words

numbers_taken : (words : List (List ℕ)) (ns : List ℕ) → numbers_in words ≡ Ok ns → NumbersTaken words ns
numbers_taken [] ns e = subst (NumbersTaken []) (same_ok [] ns e) (record { spelled = refl; small = tt; each = refl })
numbers_taken (w ∷ ws) ns e = grind (arith, in_range_taken 18446744073709551615 w, numbers_taken ws)

-- what it says that a piece was read as a message
pub record MessageTaken (piece : List ℕ) (m : Message) : Type 0 where
  pub spelled : piece ≡ message_text m
  pub small : IsMessage m
  pub count : length (comma_parts piece) ≡ length m

pub message_taken : (piece : List ℕ) (m : Message) → message_in piece ≡ Ok m → MessageTaken piece m
message_taken piece m e = grind (arith, numbers_taken (comma_parts piece) m, join_with_byte-slice_split 44 piece, length-slice_split (λ b. b == 44) piece)

-- a message in a text of this version
pub record ItemTaken (v : Version) (piece : List ℕ) (m : Message) : Type 0 where
  pub spelled : piece ≡ message_text m
  pub is : IsItemOf v m

pub item_taken : (v : Version) (piece : List ℕ) (m : Message) → spells_message v piece ≡ true → message_in piece ≡ Ok m → ItemTaken v piece m
item_taken v piece m spells e =
    grind (arith, message_taken piece m e, and_parts (covers v (version_of_count (length (comma_parts piece)))) (list_all is_number (comma_parts piece)) spells)

pub is_message_taken : (piece : List ℕ) (m : Message) → is_message piece m ≡ true → message_in piece ≡ Ok m
is_message_taken piece m e = grind (arith, bytes_eq-Decides)
