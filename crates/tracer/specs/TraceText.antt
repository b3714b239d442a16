-- The text of a trace: the one spelling of capacities, entries and what is left. The capacities are
-- a list by buffer number; what is left is a list by buffer number of the buffer's items, front
-- first.
use Rattle.std.specs.Prelude.{◌≡◌, ℕ, ◌+◌, ◌<◌, ◌≤◌, true, List, [], ◌∷◌, ◌++◌, length, map, codes}
use Rattle.std.specs.{Prelude.{decimal, flat_map}, List.{AllByRecursion, join_with_byte}}
use Rattle.event_log.specs.{Messages.{Message, no_message, IsMessage}, Buffers.IsCapacity}
use Rattle.event_log.specs.declared.ids.TheConstants.{CPUS, THREADS, BUFFERS, ENTRIES}
use Rattle.event_log.specs.declared.entries.Kind.{Kind, TheVariants.{Send, Recv, Close, SendClosed}}
use Rattle.event_log.specs.declared.entries.{Kind.TheVariants.RecvClosed, Entry.Entry}
use Rattle.tracer.specs.declared.versions.Version.{Version, TheVariants.{One, Two, Three}}
use Rattle.tracer.specs.Versions.{covers, version_of_message, version_of}

-- a line: its pieces with one space between each two, and a line feed
abbrev pub text_line : List (List ℕ) → List ℕ
text_line pieces = join_with_byte 32 pieces ++ 10 ∷ []

-- the head line names the format and its version
abbrev pub version_word : Version → List ℕ
version_word One = codes "1"
version_word Two = codes "2"
version_word Three = codes "3"

abbrev pub head_pieces : Version → List (List ℕ)
head_pieces v = codes "mctower-trace" ∷ version_word v ∷ []

-- how many buffers there are
abbrev pub count_pieces : ℕ → List (List ℕ)
count_pieces n = codes "buffers" ∷ decimal n ∷ []

-- a buffer's capacity
abbrev pub cap_pieces : ℕ → ℕ → List (List ℕ)
cap_pieces b capacity = codes "cap" ∷ decimal b ∷ decimal capacity ∷ []

abbrev pub kind_word : Kind → List ℕ
kind_word Send = codes "send"
kind_word Recv = codes "recv"
kind_word Close = codes "close"
kind_word SendClosed = codes "sendc"
kind_word RecvClosed = codes "recvc"

-- a message: its words with one comma between each two
abbrev pub message_text : Message → List ℕ
message_text m = join_with_byte 44 (map decimal m)

-- the message of an effect that has one, and a dash for one that has none
abbrev pub value_piece : Kind → Message → List ℕ
value_piece Send value = message_text value
value_piece Recv value = message_text value
value_piece Close value = codes "-"
value_piece SendClosed value = message_text value
value_piece RecvClosed value = codes "-"

-- an entry
abbrev pub entry_pieces : Entry → List (List ℕ)
entry_pieces e =
    codes "e" ∷ decimal e.cpu.0 ∷ decimal e.thread.0 ∷ kind_word e.kind ∷ decimal e.buffer.0
    ∷ value_piece e.kind e.value ∷ decimal e.op
    ∷ decimal e.pos ∷ []

-- what is left in a buffer, front first
abbrev pub left_pieces : ℕ → List Message → List (List ℕ)
left_pieces b items = codes "left" ∷ decimal b ∷ map message_text items

abbrev pub end_pieces : List (List ℕ)
end_pieces = codes "end" ∷ []

-- a line for each item, with the number of its buffer, from b on
abbrev pub numbered : {X : Type 0} → (ℕ → X → List (List ℕ)) → ℕ → List X → List (List (List ℕ))
numbered line b [] = []
numbered line b (x ∷ xs) = line b x ∷ numbered line (b + 1) xs

-- all lines of a trace, each as its pieces; the head has the lowest version that can spell the
-- entries
unfoldable pub lines_of : List ℕ → List Entry → List (List Message) → List (List (List ℕ))
lines_of caps es left = head_pieces (version_of es) ∷ count_pieces
    (length caps) ∷ (numbered cap_pieces 0 caps
    ++ (map entry_pieces es ++ (numbered left_pieces 0 left ++ end_pieces ∷ [])))

-- the one spelling
unfoldable pub spelling : List ℕ → List Entry → List (List Message) → List ℕ
spelling caps es left = flat_map text_line (lines_of caps es left)

-- a message that a text of this version can spell
pub record IsItemOf (v : Version) (m : Message) : Type 0 where
  pub small : IsMessage m
  pub version : covers v (version_of_message m) ≡ true

-- messages that a text of this version can spell
abbrev pub AreItemsOf : Version → List Message → Type 0
AreItemsOf v items = AllByRecursion (IsItemOf v) items

-- an effect that has a message has one to eight words of 64 bits; one that has none has no other
abbrev pub IsValueOf : Kind → Message → Type 0
IsValueOf Send value = IsMessage value
IsValueOf Recv value = IsMessage value
IsValueOf Close value = value ≡ no_message
IsValueOf SendClosed value = IsMessage value
IsValueOf RecvClosed value = value ≡ no_message

-- the numbers of an entry are in range, if there are n buffers
pub record IsEntryOf (n : ℕ) (e : Entry) : Type 0 where
  pub cpu : e.cpu.0 < CPUS
  pub thread : e.thread.0 < THREADS
  pub buffer : e.buffer.0 < n
  pub value : IsValueOf e.kind e.value
  pub op : e.op < ENTRIES
  pub pos : e.pos < ENTRIES

-- what has a spelling: the version is that of the entries, so nothing that is left needs a higher
-- one
pub record IsSpellable (caps : List ℕ) (es : List Entry) (left : List (List Message)) : Type 0 where
  pub some_buffer : 1 ≤ length caps
  pub few_buffers : length caps ≤ BUFFERS
  pub capacities : AllByRecursion IsCapacity caps
  pub few_entries : length es ≤ ENTRIES
  pub entries : AllByRecursion (IsEntryOf (length caps)) es
  pub each_left : length left ≡ length caps
  pub values : AllByRecursion (AreItemsOf (version_of es)) left

-- the text is the trace text of these capacities, entries and contents
pub record IsTraceText (text : List ℕ) (caps : List ℕ) (es : List Entry)
    (left : List (List Message)) : Type 0 where
  pub spellable : IsSpellable caps es left
  pub spelled : text ≡ spelling caps es left
