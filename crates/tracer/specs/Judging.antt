-- How a trace text is judged: line by line, up to the first fault.
use Rattle.std.specs.Prelude.{◌-◌, ◌≡◌, ℕ, ◌+◌, Bool, true, false, ◌&&◌, ◌==◌, nat_lt, nat_le, List}
use Rattle.std.specs.Prelude.{[], ◌∷◌, ◌++◌, length, codes, is_ok, Option, Some, None, Result, Ok}
use Rattle.std.specs.{Prelude.{Err, slice_get, slice_set, if◌then◌else◌}, List.list_all}
use Rattle.std.specs.{List.slice_split, Str.bytes_eq}
use Rattle.event_log.specs.{Messages.{Message, no_message}, declared.messages.TheConstants.WORDS}
use Rattle.event_log.specs.declared.ids.TheConstants.{CPUS, THREADS, BUFFERS, CAPACITY, ENTRIES}
use Rattle.event_log.specs.declared.entries.Kind.{Kind, TheVariants.{Send, Recv, Close, SendClosed}}
use Rattle.event_log.specs.{declared.entries.{Kind.TheVariants.RecvClosed, Entry.Entry}, Runs.Group}
use Rattle.event_log.specs.{Runs.{Sends, Receives, Closes, group_of, same_group}, Digits.is_number}
use Rattle.event_log.specs.{Digits.number_to, Reading.{◌>>=◌}}
use Rattle.tracer.specs.declared.verdicts.Reason.{Reason, TheVariants.{Spelling, Range, Op, Pos}}
use Rattle.tracer.specs.declared.verdicts.Reason.TheVariants.{Full, EmptyTake, WrongValue, Left}
use Rattle.tracer.specs.declared.verdicts.Reason.TheVariants.{OfVersion, CloseState, NotEmpty}
use Rattle.tracer.specs.declared.verdicts.Verdict.{Verdict, TheVariants.{Yes, No}}
use Rattle.tracer.specs.declared.{next_lines.NextLine.NextLine, versions.Version.Version}
use Rattle.tracer.specs.{declared.versions.Version.TheVariants.{One, Two, Three}, Versions.covers}
use Rattle.tracer.specs.Versions.{both, version_of_kind, version_of_count, version_of_entry}
use Rattle.tracer.specs.declared.next_lines.NextLine.TheVariants as wants

-- what a function returned, under its view, is what reading gives
abbrev pub GivesOrReason : {X Y : Type 0} → (X → Y) → Result X Reason → Result Y Reason → Type 0
GivesOrReason view (Ok x) read = read ≡ Ok (view x)
GivesOrReason view (Err reason) read = read ≡ Err reason

-- continues if the test holds, else returns the reason
abbrev pub or_reason : {A : Type 0} → Bool → Reason → Result A Reason → Result A Reason
or_reason test reason next = if test then next else Err reason

-- ---- the pieces of a line

-- the pieces between spaces
abbrev pub line_pieces : List ℕ → List (List ℕ)
line_pieces line = slice_split (λ b. b == 32) line

-- a piece, and the pieces after it
abbrev pub piece_at : List (List ℕ) → Result (List ℕ × List (List ℕ)) Reason
piece_at [] = Err Spelling
piece_at (piece ∷ rest) = Ok (piece, rest)

-- this word, and the pieces after it
abbrev pub expected_word : List ℕ → List (List ℕ) → Result (List (List ℕ)) Reason
expected_word word pieces = piece_at pieces >>= λ p. or_reason (bytes_eq p.0 word) Spelling (Ok p.1)

-- a piece that spells a number of any size
abbrev pub digits_at : List (List ℕ) → Result (List ℕ × List (List ℕ)) Reason
digits_at pieces = piece_at pieces >>= λ p. or_reason (is_number p.0) Spelling (Ok p)

-- no piece is left
abbrev pub ended : List (List ℕ) → Result (Unit {0}) Reason
ended [] = Ok tt
ended (piece ∷ rest) = Err Spelling

-- the number, if it is at most so much
abbrev pub or_range : {A : Type 0} → Option A → Result A Reason
or_range None = Err Range
or_range (Some x) = Ok x

abbrev pub in_range : ℕ → List ℕ → Result ℕ Reason
in_range most digits = or_range (number_to most digits)

-- exactly this number
abbrev pub is_just : Option ℕ → ℕ → Bool
is_just None n = false
is_just (Some m) n = m == n

abbrev pub is_value : List ℕ → ℕ → Bool
is_value digits n = is_just (number_to 18446744073709551615 digits) n

-- ---- what is known of the buffers

-- one buffer: its capacity, its items, front first, and how many effects it had
pub record Seen : Type 0 where
  pub capacity : ℕ
  pub items : List Message
  pub ops : ℕ
  pub sends : ℕ
  pub recvs : ℕ
  pub closes : ℕ

-- a buffer that had no effect
abbrev pub fresh : ℕ → Seen
fresh capacity =
    record { capacity = capacity; items = []; ops = 0; sends = 0; recvs = 0; closes = 0 }

-- The judge's progress in the text: which line is expected, and the version of the head. Further it
-- has the lowest version that can spell the entries so far, the buffers, and how many entries there
-- were.
pub record TextProgress : Type 0 where
  pub at : NextLine
  pub version : Version
  pub lowest : Version
  pub buffers : List Seen
  pub entries : ℕ

abbrev pub text_start : TextProgress
text_start = record { at = wants.Head; version = One; lowest = One; buffers = []; entries = 0 }

-- whether the buffer was closed
abbrev pub was_closed : Seen → Bool
was_closed history = nat_lt 0 history.closes

-- the pos that an effect of this group must have
abbrev pub next_pos : Group → Seen → ℕ
next_pos Sends history = history.sends
next_pos Receives history = history.recvs
next_pos Closes history = history.closes

-- one more, if it counts
abbrev pub bumped : Bool → ℕ → ℕ
bumped counts n = if counts then n + 1 else n

-- a buffer after an effect of this group that leaves these items
abbrev pub seen_behind : Group → List Message → Seen → Seen
seen_behind group items history = record {
  capacity = history.capacity;
  items = items;
  ops = history.ops + 1;
  sends = bumped (same_group group Sends) history.sends;
  recvs = bumped (same_group group Receives) history.recvs;
  closes = bumped (same_group group Closes) history.closes;
}

-- a send needs room
abbrev pub put_if_room : Message → ℕ → List Message → Result (List Message) Reason
put_if_room value capacity items =
    or_reason (nat_lt (length items) capacity) Full (Ok (items ++ value ∷ []))

-- a receive needs its value as the first item
abbrev pub take_first : Message → List Message → Result (List Message) Reason
take_first value [] = Err EmptyTake
take_first value (first ∷ rest) = or_reason (bytes_eq first value) WrongValue (Ok rest)

-- the items that an effect leaves, of a buffer that is closed or not
abbrev pub item_effect : Kind → Message → Bool → ℕ → List Message → Result (List Message) Reason
item_effect Send value closed capacity items =
    if closed then Err CloseState else put_if_room value capacity items
item_effect Recv value closed capacity items = take_first value items
item_effect Close value closed capacity items = Ok items
item_effect SendClosed value closed capacity items = or_reason closed CloseState (Ok items)
item_effect RecvClosed value closed capacity items =
    or_reason closed CloseState (or_reason (length items == 0) NotEmpty (Ok items))

-- the buffer after an entry
unfoldable pub entry_on : Entry → Seen → Result Seen Reason
entry_on e history = or_reason (e.op == history.ops) Op
    (or_reason (e.pos == next_pos (group_of e.kind) history) Pos
    (item_effect e.kind e.value (was_closed history) history.capacity history.items >>= λ items. Ok
    (seen_behind (group_of e.kind) items history)))

-- ---- the lines

-- the digits of an entry
pub record Digits : Type 0 where
  pub cpu : List ℕ
  pub thread : List ℕ
  pub kind : Kind
  pub buffer : List ℕ
  pub value : List ℕ
  pub op : List ℕ
  pub pos : List ℕ

abbrev pub kind_in : List ℕ → Result Kind Reason
kind_in word = if bytes_eq word (codes "send")
    then Ok Send
    else (if bytes_eq word (codes "recv")
    then Ok Recv
    else (if bytes_eq word (codes "close")
    then Ok Close
    else (if bytes_eq word (codes "sendc")
    then Ok SendClosed
    else (if bytes_eq word (codes "recvc") then Ok RecvClosed else Err Spelling))))

-- whether effects of this kind have a message
abbrev pub has_message : Kind → Bool
has_message Send = true
has_message Recv = true
has_message Close = false
has_message SendClosed = true
has_message RecvClosed = false

-- the parts between commas
abbrev pub comma_parts : List ℕ → List (List ℕ)
comma_parts piece = slice_split (λ b. b == 44) piece

-- whether the piece spells a message, of any size, as a text of this version may
abbrev pub spells_message : Version → List ℕ → Bool
spells_message v piece =
    covers v (version_of_count (length (comma_parts piece)))
    && list_all is_number (comma_parts piece)

-- the numbers, if each of them has 64 bits
abbrev pub numbers_in : List (List ℕ) → Result (List ℕ) Reason
numbers_in [] = Ok []
numbers_in (word ∷ words) =
    in_range 18446744073709551615 word >>= λ n. numbers_in words >>= λ ns. Ok (n ∷ ns)

-- the message that the piece spells, if it has no more words than a message has
abbrev pub message_in : List ℕ → Result Message Reason
message_in piece =
    or_reason (nat_le (length (comma_parts piece)) WORDS) Range (numbers_in (comma_parts piece))

-- whether the piece spells a message of an effect of this kind, of any size, as a text of this
-- version may
abbrev pub spells_value : Version → Kind → List ℕ → Bool
spells_value v kind piece =
    if has_message kind then spells_message v piece else bytes_eq piece (codes "-")

-- the message that it spells
abbrev pub value_in : Kind → List ℕ → Result Message Reason
value_in kind piece = if has_message kind then message_in piece else Ok no_message

-- an entry, spelled, with numbers of any size, and any piece for its message
unfoldable pub entry_digits : List (List ℕ) → Result Digits Reason
entry_digits pieces = digits_at pieces
    >>= λ cpu. digits_at cpu.1
    >>= λ thread. piece_at thread.1
    >>= λ word. kind_in word.0
    >>= λ kind. digits_at word.1
    >>= λ buffer. piece_at buffer.1
    >>= λ value. digits_at value.1
    >>= λ op. digits_at op.1
    >>= λ pos. ended pos.1
    >>= λ _. Ok (record {
      cpu = cpu.0;
      thread = thread.0;
      kind = kind;
      buffer = buffer.0;
      value = value.0;
      op = op.0;
      pos = pos.0;
    })

-- whether a text of this version may have such an entry, and its message is spelled as its kind
-- requires
abbrev pub is_of_version : Version → Digits → Bool
is_of_version v digits =
    covers v (version_of_kind digits.kind) && spells_value v digits.kind digits.value

-- its numbers, if each is in its range
unfoldable pub entry_in : Digits → Result Entry Reason
entry_in digits = in_range (CPUS - 1) digits.cpu
    >>= λ cpu. in_range (THREADS - 1) digits.thread
    >>= λ thread. in_range (BUFFERS - 1) digits.buffer
    >>= λ buffer. value_in digits.kind digits.value
    >>= λ value. in_range (ENTRIES - 1) digits.op
    >>= λ op. in_range (ENTRIES - 1) digits.pos
    >>= λ pos. Ok (record {
      cpu = record { 0 = cpu };
      thread = record { 0 = thread };
      kind = digits.kind;
      buffer = record { 0 = buffer };
      value = value;
      op = op;
      pos = pos;
    })

-- the buffers after an entry of one of them
unfoldable pub entry_among : Entry → List Seen → Result (List Seen) Reason
entry_among e buffers = or_range (slice_get buffers e.buffer.0)
    >>= λ history. entry_on e history
    >>= λ next. Ok (slice_set buffers e.buffer.0 next)

unfoldable pub entry_line : List (List ℕ) → TextProgress → Result TextProgress Reason
entry_line pieces s = entry_digits pieces
    >>= λ digits. or_reason (is_of_version s.version digits) Spelling (entry_in digits)
    >>= λ e. or_reason (nat_lt s.entries ENTRIES) Range (entry_among e s.buffers)
    >>= λ buffers. Ok (record
    s {
      lowest = both s.lowest (version_of_entry e);
      buffers = buffers;
      entries = s.entries + 1;
    })

-- the digits of the number of buffers
unfoldable pub count_digits : List (List ℕ) → Result (List ℕ) Reason
count_digits pieces = expected_word (codes "buffers") pieces
    >>= λ rest. digits_at rest
    >>= λ n. ended n.1
    >>= λ _. Ok n.0

unfoldable pub count_line : List (List ℕ) → TextProgress → Result TextProgress Reason
count_line pieces s = count_digits pieces
    >>= λ digits. in_range BUFFERS digits
    >>= λ count. or_reason (nat_lt 0 count) Range
    (Ok (record s { at = wants.Capacities count; buffers = [] }))

-- the digits of the capacity of buffer b
unfoldable pub capacity_digits : ℕ → List (List ℕ) → Result (List ℕ) Reason
capacity_digits b pieces = expected_word (codes "cap") pieces
    >>= λ rest. piece_at rest
    >>= λ number. or_reason (is_value number.0 b) Spelling (digits_at number.1)
    >>= λ capacity. ended capacity.1
    >>= λ _. Ok capacity.0

unfoldable pub capacity_line : ℕ → List (List ℕ) → TextProgress → Result TextProgress Reason
capacity_line count pieces s = capacity_digits (length s.buffers) pieces
    >>= λ digits. in_range CAPACITY digits
    >>= λ capacity. or_reason (nat_lt 0 capacity) Range
    (Ok (record s {
      at = if nat_lt (length s.buffers + 1) count then wants.Capacities count else wants.Entries;
      buffers = s.buffers ++ fresh capacity ∷ [];
    }))

-- the pieces of the items of buffer b, in a text of this version
unfoldable pub left_digits : Version → ℕ → List (List ℕ) → Result (List (List ℕ)) Reason
left_digits v b pieces = expected_word (codes "left") pieces
    >>= λ rest. piece_at rest
    >>= λ number. or_reason (is_value number.0 b) Spelling
    (or_reason (list_all (spells_message v) number.1) Spelling (Ok number.1))

-- exactly this message
abbrev pub is_same : Result Message Reason → Message → Bool
is_same (Err reason) m = false
is_same (Ok read) m = bytes_eq read m

abbrev pub is_message : List ℕ → Message → Bool
is_message piece m = is_same (message_in piece) m

-- the pieces are these messages
abbrev pub are_values : List (List ℕ) → List Message → Bool
are_values [] [] = true
are_values [] (m ∷ ms) = false
are_values (p ∷ ps) [] = false
are_values (p ∷ ps) (m ∷ ms) = is_message p m && are_values ps ms

-- the piece spells a message whose words are in range, and no more than a message has
abbrev pub is_within : List ℕ → Bool
is_within piece = is_ok (message_in piece)

-- the items of buffer b are what the pieces say
abbrev pub is_left : List (List ℕ) → Option Seen → Bool
is_left values None = false
is_left values (Some history) = are_values values history.items

unfoldable pub left_line : ℕ → List (List ℕ) → TextProgress → Result TextProgress Reason
left_line b pieces s = left_digits s.version b pieces
    >>= λ values. or_reason (list_all is_within values) Range
    (or_reason (is_left values (slice_get s.buffers b)) Left
    (Ok (record s {
      at = if nat_lt (b + 1) (length s.buffers) then wants.Contents (b + 1)
          else wants.End;
    })))

-- a line whose first piece is `e` is an entry; any other is what is left of the first buffer
unfoldable pub entries_line : List (List ℕ) → TextProgress → Result TextProgress Reason
entries_line pieces s =
    piece_at pieces >>= λ p. if bytes_eq p.0 (codes "e") then entry_line p.1 s
    else left_line 0 pieces s

-- the version that the head names
abbrev pub version_in : List ℕ → Result Version Reason
version_in line = if bytes_eq line (codes "mctower-trace 1")
    then Ok One
    else (if bytes_eq line (codes "mctower-trace 2")
    then Ok Two
    else (if bytes_eq line (codes "mctower-trace 3") then Ok Three else Err Spelling))

unfoldable pub head_line : List ℕ → TextProgress → Result TextProgress Reason
head_line line s = version_in line >>= λ v. Ok (record s { at = wants.Count; version = v })

-- the last line, if no lower version than the head's can spell the text
unfoldable pub end_line : List ℕ → TextProgress → Result TextProgress Reason
end_line line s =
    or_reason (bytes_eq line (codes "end")) Spelling
    (or_reason (covers s.lowest s.version) OfVersion (Ok (record s { at = wants.Done })))

-- a line after which the text may continue, or the first reason against it
abbrev pub judged_line : NextLine → TextProgress → List ℕ → Result TextProgress Reason
judged_line wants.Head s line = head_line line s
judged_line wants.Count s line = count_line (line_pieces line) s
judged_line (wants.Capacities count) s line = capacity_line count (line_pieces line) s
judged_line wants.Entries s line = entries_line (line_pieces line) s
judged_line (wants.Contents b) s line = left_line b (line_pieces line) s
judged_line wants.End s line = end_line line s
judged_line wants.Done s line = Err Spelling

unfoldable pub step : TextProgress → List ℕ → Result TextProgress Reason
step s line = judged_line s.at s line

abbrev pub is_done : NextLine → Bool
is_done wants.Done = true
is_done wants.Head = false
is_done wants.Count = false
is_done (wants.Capacities count) = false
is_done wants.Entries = false
is_done (wants.Contents b) = false
is_done wants.End = false

-- ---- the text

abbrev pub after_line : Result TextProgress Reason → ℕ → (TextProgress → Verdict) → Verdict
after_line (Ok s) n next = next s
after_line (Err reason) n next = No n reason

-- the lines from line n on; the last of them is the rest after the last line feed
abbrev pub verdict_from : TextProgress → ℕ → List (List ℕ) → Verdict
verdict_from s n [] = No n Spelling
verdict_from s n (rest ∷ []) = if is_done s.at && length rest == 0 then Yes else No n Spelling
verdict_from s n (line ∷ next ∷ more) =
    after_line (step s line) n (λ after. verdict_from after (n + 1) (next ∷ more))

-- the parts between line feeds
abbrev pub lines_in : List ℕ → List (List ℕ)
lines_in text = slice_split (λ b. b == 10) text

-- the verdict on a text: the first line with a fault, and its first reason
unfoldable pub verdict_of : List ℕ → Verdict
verdict_of text = verdict_from text_start 1 (lines_in text)
