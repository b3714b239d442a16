-- Registers by their numbers, and the instruction of a line.
use Rattle.std.specs.Prelude.{ℕ, Bool, true, nat_lt, ◌<◌, ◌≤◌, ◌^◌, List, length, All, Option, Some}
use Rattle.std.specs.Prelude.{None, slice_get, unwrap_or}
use Rattle.event_log.specs.declared.ids.TheConstants.{BUFFERS}
use Rattle.guest.specs.declared.instructions.{TheConstants.REGISTERS, Register.Register}
use Rattle.guest.specs.declared.instructions.Register.TheVariants.{Reg0, Reg1, Reg2, Reg3, Reg4}
use Rattle.guest.specs.declared.instructions.Register.TheVariants.{Reg5, Reg6, Reg7}
use Rattle.guest.specs.declared.instructions.Source.{Source, TheVariants.{One, First}}
use Rattle.guest.specs.declared.instructions.Instruction.{Instruction, TheVariants.{Set, Add, Sub}}
use Rattle.guest.specs.declared.instructions.Instruction.TheVariants.{Jnz, Send, Recv, Close, Yield}
use Rattle.guest.specs.declared.instructions.Instruction.TheVariants.{Exit}

-- a register's number
abbrev pub number_of : Register → ℕ
number_of Reg0 = 0
number_of Reg1 = 1
number_of Reg2 = 2
number_of Reg3 = 3
number_of Reg4 = 4
number_of Reg5 = 5
number_of Reg6 = 6
number_of Reg7 = 7

-- the instruction of a line; past the last line it is `exit`
abbrev pub instruction_at : List Instruction → ℕ → Instruction
instruction_at program line = unwrap_or (slice_get program line) Exit

-- the line at which a thread continues whose call found its buffer closed, in a program of so many
-- lines; none means the following line
abbrev pub IsTarget : ℕ → Option ℕ → Type 0
IsTarget lines None = Unit {0}
IsTarget lines (Some k) = k < lines

-- a send's words are those of one register, or of the first registers, at least one
abbrev pub IsSource : Source → Type 0
IsSource (One r) = Unit {0}
IsSource (First n) = (1 ≤ n) × (n ≤ REGISTERS)

-- an instruction of a program of so many lines: it sets a number of 64 bits, jumps to one of the
-- lines, or calls one of the buffers
abbrev pub IsWithin : ℕ → Instruction → Type 0
IsWithin lines (Set r n) = n < 2 ^ 64
IsWithin lines (Add r q) = Unit {0}
IsWithin lines (Sub r q) = Unit {0}
IsWithin lines (Jnz r k) = k < lines
IsWithin lines (Send b from k) = (b.0 < BUFFERS) × IsSource from × IsTarget lines k
IsWithin lines (Recv b into k) = (b.0 < BUFFERS) × IsTarget lines k
IsWithin lines (Close b) = b.0 < BUFFERS
IsWithin lines Yield = Unit {0}
IsWithin lines Exit = Unit {0}

-- 1 to 256 instructions, each within the limits
pub record IsProgram (program : List Instruction) : Type 0 where
  pub some : 0 < length program
  pub most : length program ≤ 256
  pub within : All (IsWithin (length program)) program

-- whether an instruction names no buffer past these
abbrev pub names_below : ℕ → Instruction → Bool
names_below buffers (Send b from k) = nat_lt b.0 buffers
names_below buffers (Recv b into k) = nat_lt b.0 buffers
names_below buffers (Close b) = nat_lt b.0 buffers
names_below buffers (Set r n) = true
names_below buffers (Add r q) = true
names_below buffers (Sub r q) = true
names_below buffers (Jnz r k) = true
names_below buffers Yield = true
names_below buffers Exit = true
