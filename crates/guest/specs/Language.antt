-- The guest language: which line is which instruction, and the first fault of a line and of a
-- program.
use Rattle.std.specs.Prelude.{◌≡◌, ℕ, ◌==◌, ◌-◌, List, [], ◌∷◌, length, codes, bytes_eq, nat_lt}
use Rattle.std.specs.Prelude.{Option, Some, None, Result, Ok, Err, if◌then◌else◌}
use Rattle.std.specs.List.{slice_split}
use Rattle.event_log.specs.{declared.ids.{BufId.BufId, TheConstants.BUFFERS}, Digits.is_number}
use Rattle.event_log.specs.{Digits.number_to, Reading.{◌>>=◌, read_from}}
use Rattle.guest.specs.declared.instructions.{TheConstants.REGISTERS, Register.Register}
use Rattle.guest.specs.declared.instructions.Register.TheVariants.{Reg0, Reg1, Reg2, Reg3, Reg4}
use Rattle.guest.specs.declared.instructions.Register.TheVariants.{Reg5, Reg6, Reg7}
use Rattle.guest.specs.declared.instructions.Source.TheVariants.{One as FromOne, First}
use Rattle.guest.specs.declared.instructions.Target.TheVariants.{One as IntoOne, All}
use Rattle.guest.specs.declared.instructions.Instruction.{Instruction, TheVariants.{Set, Add, Sub}}
use Rattle.guest.specs.declared.instructions.Instruction.TheVariants.{Jnz, Send, Recv, Close, Yield}
use Rattle.guest.specs.declared.instructions.Instruction.TheVariants.{Exit}
use Rattle.guest.specs.declared.refusals.GuestFault.{GuestFault, TheVariants.UnknownWord}
use Rattle.guest.specs.declared.refusals.GuestFault.TheVariants.{BadRegister, BadNumber, BadTarget}
use Rattle.guest.specs.declared.refusals.GuestFault.TheVariants.{TooLong, Empty}
use Rattle.guest.specs.declared.refusals.GuestError.{GuestError, TheVariants.{NoMemory, At}}

-- the value, if there is one, otherwise this fault
abbrev pub or_fault : {A : Type 0} → GuestFault → Option A → Result A GuestFault
or_fault fault None = Err fault
or_fault fault (Some x) = Ok x

-- the register that a piece names
unfoldable pub register_in : List ℕ → Result Register GuestFault
register_in piece =
    if bytes_eq piece (codes "r0") then Ok Reg0
    else if bytes_eq piece (codes "r1") then Ok Reg1
    else if bytes_eq piece (codes "r2") then Ok Reg2
    else if bytes_eq piece (codes "r3") then Ok Reg3
    else if bytes_eq piece (codes "r4") then Ok Reg4
    else if bytes_eq piece (codes "r5") then Ok Reg5
    else if bytes_eq piece (codes "r6") then Ok Reg6
    else if bytes_eq piece (codes "r7") then Ok Reg7
    else Err BadRegister

-- the number of 64 bits that a piece spells
unfoldable pub word_in : List ℕ → Result ℕ GuestFault
word_in piece = or_fault BadNumber (number_to 18446744073709551615 piece)

-- the buffer that a piece spells
unfoldable pub buffer_in : List ℕ → Result BufId GuestFault
buffer_in piece = or_fault BadNumber (number_to (BUFFERS - 1) piece) >>= λ b. Ok (record { 0 = b })

-- how many words a message has, as a piece spells it: at least one, and no more than there are
-- registers
unfoldable pub words_in : List ℕ → Result ℕ GuestFault
words_in piece =
    or_fault BadNumber (number_to REGISTERS piece) >>= λ n. if n == 0 then Err BadNumber else Ok n

-- the line that a piece spells, of so many
unfoldable pub target_in : ℕ → List ℕ → Result ℕ GuestFault
target_in count piece =
    if is_number piece then or_fault BadTarget (number_to (count - 1) piece) else Err BadNumber

-- the instruction of one piece
unfoldable pub one_piece : List ℕ → Result Instruction GuestFault
one_piece word =
    if bytes_eq word (codes "yield") then Ok Yield
    else if bytes_eq word (codes "exit") then Ok Exit
    else Err UnknownWord

-- the instruction of two pieces
unfoldable pub two_pieces : List ℕ → List ℕ → Result Instruction GuestFault
two_pieces word a =
    if bytes_eq word (codes "close") then (buffer_in a >>= λ n. Ok (Close n))
    else if bytes_eq word (codes "recvm") then (buffer_in a >>= λ n. Ok (Recv n All None))
    else Err UnknownWord

-- the instruction of three pieces, of a program of so many lines
unfoldable pub three_pieces : ℕ → List ℕ → List ℕ → List ℕ → Result Instruction GuestFault
three_pieces count word a b =
    if bytes_eq word (codes "set") then (register_in a >>= λ d. word_in b >>= λ n. Ok (Set d n))
    else if bytes_eq word (codes "add")
    then (register_in a >>= λ d. register_in b >>= λ s. Ok (Add d s))
    else if bytes_eq word (codes "sub")
    then (register_in a >>= λ d. register_in b >>= λ s. Ok (Sub d s))
    else if bytes_eq word (codes "jnz")
    then (register_in a >>= λ s. target_in count b >>= λ k. Ok (Jnz s k))
    else if bytes_eq word (codes "send")
    then (buffer_in a >>= λ n. register_in b >>= λ s. Ok (Send n (FromOne s) None))
    else if bytes_eq word (codes "recv")
    then (buffer_in a >>= λ n. register_in b >>= λ d. Ok (Recv n (IntoOne d) None))
    else if bytes_eq word (codes "sendm")
    then (buffer_in a >>= λ n. words_in b >>= λ m. Ok (Send n (First m) None))
    else if bytes_eq word (codes "recvm")
    then (buffer_in a >>= λ n. target_in count b >>= λ k. Ok (Recv n All (Some k)))
    else Err UnknownWord

-- the instruction of four pieces, of a program of so many lines
unfoldable pub four_pieces : ℕ → List ℕ → List ℕ → List ℕ → List ℕ → Result Instruction GuestFault
four_pieces count word a b c =
    if bytes_eq word (codes "send")
    then (buffer_in a >>= λ n. register_in b >>= λ s. target_in count c >>= λ k. Ok
    (Send n (FromOne s) (Some k)))
    else if bytes_eq word (codes "recv")
    then (buffer_in a >>= λ n. register_in b >>= λ d. target_in count c >>= λ k. Ok
    (Recv n (IntoOne d) (Some k)))
    else if bytes_eq word (codes "sendm")
    then (buffer_in a >>= λ n. words_in b >>= λ m. target_in count c >>= λ k. Ok
    (Send n (First m) (Some k)))
    else Err UnknownWord

-- the instruction of a line's pieces: their number is tested first
abbrev pub pieces_in : ℕ → List (List ℕ) → Result Instruction GuestFault
pieces_in count (word ∷ []) = one_piece word
pieces_in count (word ∷ a ∷ []) = two_pieces word a
pieces_in count (word ∷ a ∷ b ∷ []) = three_pieces count word a b
pieces_in count (word ∷ a ∷ b ∷ c ∷ []) = four_pieces count word a b c
pieces_in count _ = Err UnknownWord

-- the instruction of a line of a program of so many lines: its pieces are separated by single
-- spaces
unfoldable pub line_in : ℕ → List ℕ → Result Instruction GuestFault
line_in count text = pieces_in count (slice_split (λ byte. byte == 32) text)

-- a fault at its line
abbrev pub at_line : {A : Type 0} → ℕ → Result A GuestFault → Result A GuestError
at_line line (Ok x) = Ok x
at_line line (Err fault) = Err (At line fault)

-- a line by its number, of a program of so many lines
abbrev pub numbered_line : ℕ → ℕ → List ℕ → Result Instruction GuestError
numbered_line count line text = at_line line (line_in count text)

-- the instructions of a program's lines, or the first line's fault
unfoldable pub program_lines : List (List ℕ) → Result (List Instruction) GuestError
program_lines lines = read_from (numbered_line (length lines)) 0 lines

-- the program of some lines, or its first fault
unfoldable pub program_in : List (List ℕ) → Result (List Instruction) GuestError
program_in lines =
    if length lines == 0 then Err (At 0 Empty)
    else if nat_lt 256 (length lines) then Err (At 256 TooLong)
    else program_lines lines

-- what an error says of the intended result: it is that fault. An error of memory says nothing
abbrev pub FaultsAs : {Y : Type 0} → GuestError → Result Y GuestError → Type 0
FaultsAs (NoMemory _) ghost_of = Unit {0}
FaultsAs (At line fault) ghost_of = ghost_of ≡ Err (At line fault)

-- a call returns the intended value, as it is viewed, or the intended fault; out of memory is the
-- exception
abbrev pub GivesOrFaults : {X Y : Type 0} → (X → Y) → Result X GuestError → Result Y GuestError
    → Type 0
GivesOrFaults view (Ok x) ghost_of = ghost_of ≡ Ok (view x)
GivesOrFaults view (Err e) ghost_of = FaultsAs e ghost_of
