-- Each line after the capacities is accepted at its place, and a line that is accepted is spelled
-- so.
use Rattle.std.proofs.{lemmas.{Bool.{cases_Bool, and_parts}, List.length_push, Slice.Eq.bytes_eq-Decides, Option.slice_get_within}, Common.{◌==◌, ◌≡◌, ℕ, ◌+◌}}
use Rattle.std.proofs.Common.{◌<◌, ◌≤◌, ◌^◌, true, false, cond, List, [], ◌∷◌, ◌++◌, length, get_or, map, Option, Some, None, Ok, refl, sym, ap, ◌∙◌, inl, inr}
use Rattle.std.{proofs.Common.{◌⊎◌, lt-ltb, ltb-true, lit<, arith}, specs.{Prelude.{decimal, codes, nat_lt, slice_get}, Str.bytes_eq, List.AllByRecursion}}
use Rattle.std.specs.List.{list_all, join_with_byte}
use Rattle.event_log.specs.{Messages.Message, declared.{ids.TheConstants.{BUFFERS, ENTRIES}, entries.{Entry.Entry, Kind.{Kind, TheVariants.Close}}}}
use Rattle.event_log.specs.{declared.entries.Kind.TheVariants.RecvClosed, Buffers.items_of, Runs.{IsNext, after_entry}}
use Rattle.tracer.specs.declared.{verdicts.Reason.TheVariants.{Spelling, Range, Left}, next_lines.NextLine.NextLine, versions.Version.Version}
use Rattle.tracer.specs.{TraceText.{kind_word, message_text, value_piece, entry_pieces, left_pieces, IsValueOf, IsEntryOf, AreItemsOf}, Versions.covers}
use Rattle.tracer.specs.{Versions.{version_of_kind, version_of_message, version_of_entry}, Judging.{Digits, Seen, TextProgress, or_reason, is_within}}
use Rattle.tracer.specs.Judging.{are_values, is_left, is_of_version, spells_message, spells_value, entry_digits, entry_in, entry_among, entry_line, left_digits}
use Rattle.tracer.{specs.Judging.{left_line, entries_line, step}, proofs.{SplitLemmas.{Lacks, IsLine, decimal_lacks, pieces_again}, ReadLemmas.bind_ok}}
use Rattle.tracer.proofs.{ReadLemmas.{wanted_ok, same_ok, piece_taken, word_taken, is_value_taken, is_value_again}, VersionLemmas.{covers_both, version_more}}
use Rattle.tracer.proofs.{KnownLemmas.{same_some, seen_of, length-known_from, slice_get-known, among_again, among_taken}, EntryLemmas.{progress, behind_e}}
use Rattle.tracer.proofs.EntryLemmas.{shape_of, of_version_again, entry_digits_taken, entry_digits_again, entry_in_taken, entry_in_again}
use Rattle.tracer.proofs.MessageLemmas.{spells_message_again, is_message_again, is_within_again, message_lacks, item_taken, is_message_taken}
use Rattle.tracer.specs.declared.next_lines.NextLine.TheVariants as wants

-- ---- an entry

kind_lacks : (at : ℕ) (kind : Kind) → at < 44 → Lacks at (kind_word kind)
kind_lacks at kind lt = grind arith

value_lacks : (at : ℕ) (kind : Kind) (value : Message) → at < 44 → IsValueOf kind value → Lacks at (value_piece kind value)
value_lacks at Close value lt fits = (grind arith, tt)
value_lacks at RecvClosed value lt fits = (grind arith, tt)
value_lacks at kind value lt fits = message_lacks at value lt fits

pub entry_is_line : (n : ℕ) (e : Entry) → n ≤ BUFFERS → IsEntryOf n e → IsLine (entry_pieces e)
entry_is_line n e few small at lt =
    let number : (m : ℕ) → m < ENTRIES → Lacks at (decimal m) = λ m small. decimal_lacks at m (omega arith) (omega arith) in
    let letter : (101 == at) ≡ false = grind arith in
    let cpu = number e.cpu.0 (let h = small.cpu in omega arith) in
    let thread = number e.thread.0 (let h = small.thread in omega arith) in
    let buffer = number e.buffer.0 (let h = small.buffer in omega arith) in
    let value = value_lacks at e.kind e.value lt small.value in
    let op = number e.op small.op in
    let pos = number e.pos small.pos in
    ((letter, tt), (cpu, (thread, (kind_lacks at e.kind lt, (buffer, (value, (op, (pos, tt))))))))

entry_line_again : (v : Version) (at : NextLine) (caps : List ℕ) (earlier : List Entry) (contents : List (List Message)) (e : Entry) → length caps ≤ BUFFERS
    → length earlier < ENTRIES → length contents ≡ length caps → IsEntryOf (length caps) e → covers v (version_of_entry e) ≡ true
    → IsNext caps earlier contents e
    → entry_line (behind_e e) (progress v at caps earlier contents) ≡ Ok (progress v at caps (earlier ++ e ∷ []) (after_entry contents e))
unfolding entry_line
entry_line_again v at caps earlier contents e few room long small high next =
    grind (arith, entry_digits_again, of_version_again, entry_in_again, lt-ltb, among_again, length_push, version_more)

pub entries_e : (ps : List (List ℕ)) (s : TextProgress) → entries_line (codes "e" ∷ ps) s ≡ entry_line ps s
unfolding entries_line
entries_e ps s = refl

pub step_entry : (v : Version) (caps : List ℕ) (earlier : List Entry) (contents : List (List Message)) (e : Entry) → length caps ≤ BUFFERS
    → length earlier < ENTRIES
    → length contents ≡ length caps → IsEntryOf (length caps) e → covers v (version_of_entry e) ≡ true → IsNext caps earlier contents e
    → step (progress v wants.Entries caps earlier contents) (join_with_byte 32 (entry_pieces e))
    ≡ Ok (progress v wants.Entries caps (earlier ++ e ∷ []) (after_entry contents e))
unfolding step
step_entry v caps earlier contents e few room long small high next =
    rw (pieces_again (codes "e") (behind_e e) (entry_is_line (length caps) e few small))
    (entries_e (behind_e e) _ ∙ entry_line_again v wants.Entries caps earlier contents e few room long small high next)

-- what it says that an entry was taken
pub record EntryTaken (v : Version) (caps : List ℕ) (earlier : List Entry) (contents : List (List Message)) (ps : List (List ℕ)) (after : TextProgress)
    (e : Entry) : Type 0 where
  pub spelled : ps ≡ entry_pieces e
  pub small : IsEntryOf (length caps) e
  pub high : covers v (version_of_entry e) ≡ true
  pub next : IsNext caps earlier contents e
  pub room : length earlier < ENTRIES
  pub is : after ≡ progress v wants.Entries caps (earlier ++ e ∷ []) (after_entry contents e)

entry_line_taken : (v : Version) (caps : List ℕ) (earlier : List Entry) (contents : List (List Message)) (ps : List (List ℕ)) (after : TextProgress)
    → length contents ≡ length caps → entry_line ps (progress v wants.Entries caps earlier contents) ≡ Ok after
    → (e : Entry) × EntryTaken v caps earlier contents (codes "e" ∷ ps) after e
unfolding entry_line
entry_line_taken v caps earlier contents ps after long taken =
    let s = progress v wants.Entries caps earlier contents in
    let digits = bind_ok (entry_digits ps) _ after taken in
    let entry = bind_ok (or_reason (is_of_version v digits.0) Spelling (entry_in digits.0)) _ after digits.2 in
    let e = entry.0 in
    let spells = wanted_ok (is_of_version v digits.0) Spelling (entry_in digits.0) e entry.1 in
    let parts = and_parts (covers v (version_of_kind digits.0.kind)) (spells_value v digits.0.kind digits.0.value) spells.0 in
    let small = entry_in_taken v digits.0 e parts.1 spells.1 in
    let among = bind_ok (or_reason (nat_lt (length earlier) ENTRIES) Range (entry_among e s.buffers)) _ after entry.2 in
    let room = wanted_ok (nat_lt (length earlier) ENTRIES) Range (entry_among e s.buffers) among.0 among.1 in
    let next = among_taken caps earlier contents e among.0 long small.value room.1 in (
      e,
      record {
        spelled = ap (λ (t : List (List ℕ)). codes "e" ∷ t) (entry_digits_taken ps digits.0 digits.1 ∙ ap shape_of small.spelled);
        small = grind (arith, next.0.known, small);
        high = covers_both v (version_of_kind e.kind) (version_of_message e.value)
            (ap (λ (d : Digits). covers v (version_of_kind d.kind)) (sym small.spelled) ∙ parts.0) small.version;
        next = next.0;
        room = ltb-true (length earlier) ENTRIES room.0;
        is = sym (same_ok _ after among.2) ∙ rw (next.1, length_push earlier e, version_more earlier e) refl;
      },
    )

-- ---- what is left

-- messages, spelled, are spelled as they may be, in range, and these
items_again : (v : Version) (items : List Message) → AreItemsOf v items → (list_all (spells_message v) (map message_text items) ≡ true)
    × (list_all is_within (map message_text items) ≡ true) × (are_values (map message_text items) items ≡ true)
items_again v [] small = (refl, refl, refl)
items_again v (m ∷ ms) small = grind (arith, spells_message_again v m, is_within_again m, is_message_again m, items_again v ms small.1)

left_digits_again : (v : Version) (b : ℕ) (items : List Message) → b < 2 ^ 64 → AreItemsOf v items
    → left_digits v b (left_pieces b items) ≡ Ok (map message_text items)
unfolding left_digits
left_digits_again v b items lt small = rw (is_value_again b lt, (items_again v items small).0) refl

-- which line follows what is left of buffer b
abbrev pub behind_left : ℕ → List ℕ → NextLine
behind_left b caps = cond (nat_lt (b + 1) (length caps)) (wants.Contents (b + 1)) wants.End

pub left_line_again : (v : Version) (at : NextLine) (b : ℕ) (caps : List ℕ) (earlier : List Entry) (contents : List (List Message)) → b < length caps
    → b < 2 ^ 64 → AreItemsOf v (items_of contents b)
    → left_line b (left_pieces b (items_of contents b)) (progress v at caps earlier contents) ≡ Ok (progress v (behind_left b caps) caps earlier contents)
unfolding left_line
left_line_again v at b caps earlier contents lt fits small =
    grind (arith, left_digits_again, items_again v (items_of contents b) small, slice_get-known, length-known_from)

values_taken : (v : Version) (ps : List (List ℕ)) (items : List Message) → list_all (spells_message v) ps ≡ true → are_values ps items ≡ true
    → (ps ≡ map message_text items) × AreItemsOf v items
values_taken v [] [] spells e = (refl, tt)
values_taken v (p ∷ ps) (m ∷ ms) spells e = grind (arith, item_taken v p m, is_message_taken p m, values_taken v ps ms)
values_taken v others items spells e = absurd (cc)

left_digits_taken : (v : Version) (b : ℕ) (ps values : List (List ℕ)) → left_digits v b ps ≡ Ok values
    → (ps ≡ codes "left" ∷ decimal b ∷ values) × (list_all (spells_message v) values ≡ true)
unfolding left_digits
left_digits_taken v b ps values taken = grind (arith, wanted_ok, same_ok, word_taken, piece_taken, is_value_taken)

-- what it says that what is left of buffer b was taken
pub record LeftTaken (v : Version) (b : ℕ) (caps : List ℕ) (earlier : List Entry) (contents : List (List Message)) (ps : List (List ℕ))
    (after : TextProgress) : Type 0 where
  pub known : b < length caps
  pub spelled : ps ≡ left_pieces b (items_of contents b)
  pub small : AreItemsOf v (items_of contents b)
  pub is : after ≡ progress v (behind_left b caps) caps earlier contents

holds_of : (values : List (List ℕ)) (found : Option Seen) → is_left values found ≡ true
    → (history : Seen) × (found ≡ Some history) × (are_values values history.items ≡ true)
holds_of values None e = absurd (cc)
holds_of values (Some history) e = (history, refl, e)

pub left_line_taken : (v : Version) (at : NextLine) (b : ℕ) (caps : List ℕ) (earlier : List Entry) (contents : List (List Message)) (ps : List (List ℕ))
    (after : TextProgress) → left_line b ps (progress v at caps earlier contents) ≡ Ok after → LeftTaken v b caps earlier contents ps after
unfolding left_line
left_line_taken v at b caps earlier contents ps after taken =
    let s = progress v at caps earlier contents in
    let next : TextProgress = record s { at = cond (nat_lt (b + 1) (length s.buffers)) (wants.Contents (b + 1)) wants.End } in
    let digits = bind_ok (left_digits v b ps) _ after taken in
    let range = wanted_ok (list_all is_within digits.0) Range (or_reason (is_left digits.0 (slice_get s.buffers b)) Left (Ok next)) after digits.2 in
    let left = wanted_ok (is_left digits.0 (slice_get s.buffers b)) Left (Ok next) after range.1 in
    let holds = holds_of digits.0 (slice_get s.buffers b) left.0 in
    let spelled = left_digits_taken v b ps digits.0 digits.1 in
    let inside : b < length caps = omega (arith, slice_get_within s.buffers b holds.0 holds.1, length-known_from earlier contents 0 caps) in
    let same : holds.0 ≡ seen_of earlier contents b (get_or caps b 0) = same_some holds.0 _ (sym holds.1 ∙ slice_get-known earlier contents caps b inside) in
    let read = values_taken v digits.0 (items_of contents b) spelled.1 (ap (λ (x : Seen). are_values digits.0 x.items) (sym same) ∙ holds.2) in
    record {
      known = inside;
      spelled = spelled.0 ∙ ap (λ (t : List (List ℕ)). codes "left" ∷ decimal b ∷ t) read.0;
      small = read.1;
      is = sym (same_ok next after left.1) ∙ rw (length-known_from earlier contents 0 caps) refl;
    }

items_lack : (at : ℕ) (v : Version) (items : List Message) → at < 44 → AreItemsOf v items → AllByRecursion (Lacks at) (map message_text items)
items_lack at v [] lt small = tt
items_lack at v (m ∷ ms) lt small = (message_lacks at m lt small.0.small, items_lack at v ms lt small.1)

pub left_is_line : (v : Version) (b : ℕ) (items : List Message) → b < 2 ^ 64 → AreItemsOf v items → IsLine (left_pieces b items)
left_is_line v b items fits small at lt = grind (arith, decimal_lacks at, items_lack at v items)

entries_left : (ps : List (List ℕ)) (s : TextProgress) → entries_line (codes "left" ∷ ps) s ≡ left_line 0 (codes "left" ∷ ps) s
unfolding entries_line
entries_left ps s = refl

-- what is left of the first buffer, after the entries
pub step_first_left : (v : Version) (caps : List ℕ) (earlier : List Entry) (contents : List (List Message)) → 0 < length caps
    → AreItemsOf v (items_of contents 0)
    → step (progress v wants.Entries caps earlier contents) (join_with_byte 32 (left_pieces 0 (items_of contents 0)))
    ≡ Ok (progress v (behind_left 0 caps) caps earlier contents)
unfolding step
step_first_left v caps earlier contents lt small =
    rw (pieces_again (codes "left") (decimal 0 ∷ map message_text (items_of contents 0)) (left_is_line v 0 (items_of contents 0) (lit< tt) small))
    (entries_left (decimal 0 ∷ map message_text (items_of contents 0)) _ ∙ left_line_again v wants.Entries 0 caps earlier contents lt (lit< tt) small)

pub step_left : (v : Version) (b : ℕ) (caps : List ℕ) (earlier : List Entry) (contents : List (List Message)) → b < length caps → length caps ≤ BUFFERS
    → AreItemsOf v (items_of contents b) → step (progress v (wants.Contents b) caps earlier contents) (join_with_byte 32 (left_pieces b (items_of contents b)))
    ≡ Ok (progress v (behind_left b caps) caps earlier contents)
unfolding step
step_left v b caps earlier contents lt few small =
    rw (pieces_again (codes "left") (decimal b ∷ map message_text (items_of contents b)) (left_is_line v b (items_of contents b) (omega arith) small))
    (left_line_again v (wants.Contents b) b caps earlier contents lt (omega arith) small)

-- a line after the entries is an entry, or what is left of the first buffer
pub entries_taken : (v : Version) (caps : List ℕ) (earlier : List Entry) (contents : List (List Message)) (ps : List (List ℕ)) (after : TextProgress)
    → length contents ≡ length caps → entries_line ps (progress v wants.Entries caps earlier contents) ≡ Ok after
    → ((e : Entry) × EntryTaken v caps earlier contents ps after e) ⊎ LeftTaken v 0 caps earlier contents ps after
unfolding entries_line
entries_taken v caps earlier contents [] after long taken = absurd (cc)
entries_taken v caps earlier contents (p ∷ ps) after long taken = elim (cases_Bool (bytes_eq p (codes "e"))) [
  | inl first ↦ inl (rw ((bytes_eq-Decides p (codes "e")).0 first) (entry_line_taken v caps earlier contents ps after long (rw first at taken)))
  | inr other ↦ inr (left_line_taken v wants.Entries 0 caps earlier contents (p ∷ ps) after (rw other at taken))
]
