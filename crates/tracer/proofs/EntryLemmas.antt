-- Each line of a trace text is accepted at its place, and a line that is accepted is spelled so.
use Rattle.std.proofs.Common.{◌-◌, ◌≡◌, ℕ, ◌<◌, ◌≤◌, ◌^◌, true, List, [], ◌∷◌, length, Ok, refl, subst, lit<, arith}
use Rattle.std.{proofs.lemmas.Slice.Eq.bytes_eq-Decides, specs.{Prelude.{decimal, codes}, Str.bytes_eq}}
use Rattle.event_log.specs.declared.{ids.TheConstants.{CPUS, THREADS, BUFFERS, ENTRIES}, entries.{Kind.{Kind, TheVariants.{Close, RecvClosed}}, Entry.Entry}}
use Rattle.{event_log.{specs.Messages.{Message, no_message}, proofs.DigitsLemmas.number_to-decimal}, tracer.specs.declared.next_lines.NextLine.NextLine}
use Rattle.tracer.specs.{declared.versions.Version.Version, Versions.{covers, version_of_message, version_of_entry, version_of}}
use Rattle.tracer.specs.{TraceText.{kind_word, value_piece, IsValueOf}, Judging.{Digits, TextProgress, in_range, kind_in}}
use Rattle.tracer.{specs.Judging.{spells_value, value_in, is_of_version, entry_digits, entry_in}, proofs.ReadLemmas.{bind_ok, fine, same_ok, in_range_taken}}
use Rattle.tracer.proofs.{ReadLemmas.{decimal_is_number, piece_taken, digits_taken, ended_taken}, KnownLemmas.known_from, VersionLemmas.covers_first_one}
use Rattle.tracer.proofs.{VersionLemmas.{covers_first, covers_second}, MessageLemmas.{message_again, spells_message_again, item_taken}}

-- after the earlier entries, in a text of this version
abbrev pub progress : Version → NextLine → List ℕ → List Entry → List (List Message) → TextProgress
progress v at caps earlier contents = record {
  at = at;
  version = v;
  lowest = version_of earlier;
  buffers = known_from earlier contents 0 caps;
  entries = length earlier;
}

-- ---- an entry

abbrev pub behind_e : Entry → List (List ℕ)
behind_e e = decimal e.cpu.0 ∷ decimal e.thread.0 ∷ kind_word e.kind ∷ decimal e.buffer.0 ∷ value_piece e.kind e.value ∷ decimal e.op ∷ decimal e.pos ∷ []

abbrev pub digits_in : Entry → Digits
digits_in e = record {
  cpu = decimal e.cpu.0;
  thread = decimal e.thread.0;
  kind = e.kind;
  buffer = decimal e.buffer.0;
  value = value_piece e.kind e.value;
  op = decimal e.op;
  pos = decimal e.pos;
}

kind_again : (kind : Kind) → kind_in (kind_word kind) ≡ Ok kind
kind_again kind = grind arith

kind_taken : (word : List ℕ) (kind : Kind) → kind_in word ≡ Ok kind → word ≡ kind_word kind
kind_taken word kind e = grind (arith, bytes_eq-Decides)

-- ---- the message of an entry

-- what it says that the message of an entry was taken, in a text of this version
pub record ValueTaken (v : Version) (kind : Kind) (piece : List ℕ) (value : Message) : Type 0 where
  pub spelled : piece ≡ value_piece kind value
  pub fits : IsValueOf kind value
  pub version : covers v (version_of_message value) ≡ true

dash_taken : (v : Version) (piece : List ℕ) (value : Message) → bytes_eq piece (codes "-") ≡ true → fine no_message ≡ Ok value
    → (piece ≡ codes "-") × (value ≡ no_message) × (covers v (version_of_message value) ≡ true)
dash_taken v piece value dash e = grind (arith, bytes_eq-Decides, covers_first_one)

value_taken : (v : Version) (kind : Kind) (piece : List ℕ) (value : Message) → spells_value v kind piece ≡ true → value_in kind piece ≡ Ok value
    → ValueTaken v kind piece value
value_taken v Close piece value spells e = grind (arith, dash_taken v piece value spells e)
value_taken v RecvClosed piece value spells e = grind (arith, dash_taken v piece value spells e)
value_taken v kind piece value spells e = grind (arith, item_taken v piece value)

value_again : (kind : Kind) (value : Message) → IsValueOf kind value → value_in kind (value_piece kind value) ≡ Ok value
value_again kind value fits = grind (arith, message_again)

spells_again : (v : Version) (kind : Kind) (value : Message) → IsValueOf kind value → covers v (version_of_message value) ≡ true
    → spells_value v kind (value_piece kind value) ≡ true
spells_again v kind value fits high = grind (arith, spells_message_again)

-- the entry's line is one of this version
pub of_version_again : (v : Version) (e : Entry) → covers v (version_of_entry e) ≡ true → IsValueOf e.kind e.value → is_of_version v (digits_in e) ≡ true
of_version_again v e high fits = grind (arith, covers_first, covers_second, spells_again)

-- ---- the pieces of an entry

abbrev pub shape_of : Digits → List (List ℕ)
shape_of d = d.cpu ∷ d.thread ∷ kind_word d.kind ∷ d.buffer ∷ d.value ∷ d.op ∷ d.pos ∷ []

pub entry_digits_taken : (pieces : List (List ℕ)) (d : Digits) → entry_digits pieces ≡ Ok d → pieces ≡ shape_of d
unfolding entry_digits
entry_digits_taken pieces d e = grind (arith, same_ok, digits_taken, piece_taken, kind_taken, ended_taken)

pub entry_digits_again : (e : Entry) → e.cpu.0 < 2 ^ 64 → e.thread.0 < 2 ^ 64 → e.buffer.0 < 2 ^ 64 → e.op < 2 ^ 64 → e.pos < 2 ^ 64
    → entry_digits (behind_e e) ≡ Ok (digits_in e)
unfolding entry_digits
entry_digits_again e cpu thread buffer op pos = grind (arith, decimal_is_number, kind_again)

-- the numbers of an entry, where there may be so many buffers as there can be
pub record IsSmall (v : Version) (digits : Digits) (e : Entry) : Type 0 where
  pub spelled : digits ≡ digits_in e
  pub cpu : e.cpu.0 ≤ CPUS - 1
  pub thread : e.thread.0 ≤ THREADS - 1
  pub value : IsValueOf e.kind e.value
  pub version : covers v (version_of_message e.value) ≡ true
  pub op : e.op ≤ ENTRIES - 1
  pub pos : e.pos ≤ ENTRIES - 1

pub entry_in_taken : (v : Version) (digits : Digits) (e : Entry) → spells_value v digits.kind digits.value ≡ true → entry_in digits ≡ Ok e → IsSmall v digits e
unfolding entry_in
entry_in_taken v digits e spells taken =
    let a0 = bind_ok (in_range (CPUS - 1) digits.cpu) _ e taken in
    let a1 = bind_ok (in_range (THREADS - 1) digits.thread) _ e a0.2 in
    let a2 = bind_ok (in_range (BUFFERS - 1) digits.buffer) _ e a1.2 in
    let a3 = bind_ok (value_in digits.kind digits.value) _ e a2.2 in
    let a4 = bind_ok (in_range (ENTRIES - 1) digits.op) _ e a3.2 in
    let a5 = bind_ok (in_range (ENTRIES - 1) digits.pos) _ e a4.2 in
    let r0 = in_range_taken (CPUS - 1) digits.cpu a0.0 (lit< tt) a0.1 in
    let r1 = in_range_taken (THREADS - 1) digits.thread a1.0 (lit< tt) a1.1 in
    let r2 = in_range_taken (BUFFERS - 1) digits.buffer a2.0 (lit< tt) a2.1 in
    let r3 = value_taken v digits.kind digits.value a3.0 spells a3.1 in
    let r4 = in_range_taken (ENTRIES - 1) digits.op a4.0 (lit< tt) a4.1 in
    let r5 = in_range_taken (ENTRIES - 1) digits.pos a5.0 (lit< tt) a5.1 in
    let made : Entry = record {
      cpu = record { 0 = a0.0 };
      thread = record { 0 = a1.0 };
      kind = digits.kind;
      buffer = record { 0 = a2.0 };
      value = a3.0;
      op = a4.0;
      pos = a5.0;
    } in
    let shape : digits ≡ digits_in made = rw (← r0.spelled, ← r1.spelled, ← r2.spelled, ← r3.spelled, ← r4.spelled, ← r5.spelled) refl in
    subst (λ (x : Entry). IsSmall v digits x) (same_ok made e a5.2)
    (record { spelled = shape; cpu = r0.within; thread = r1.within; value = r3.fits; version = r3.version; op = r4.within; pos = r5.within })

pub entry_in_again : (e : Entry) → e.cpu.0 ≤ CPUS - 1 → e.thread.0 ≤ THREADS - 1 → e.buffer.0 ≤ BUFFERS - 1 → IsValueOf e.kind e.value
    → e.op ≤ ENTRIES - 1 → e.pos ≤ ENTRIES - 1 → entry_in (digits_in e) ≡ Ok e
unfolding entry_in
entry_in_again e cpu thread buffer value op pos = grind (arith, number_to-decimal, value_again)
