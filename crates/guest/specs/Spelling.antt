-- The one spelling of an instruction.
use Rattle.std.specs.Prelude.{◌≡◌, ℕ, List, [], ◌∷◌, Option, Some, None, Ok, codes, decimal}
use Rattle.std.specs.List.{join_with_byte}
use Rattle.guest.specs.declared.instructions.Register.{Register, TheVariants.{Reg0, Reg1, Reg2}}
use Rattle.guest.specs.declared.instructions.Register.TheVariants.{Reg3, Reg4, Reg5, Reg6, Reg7}
use Rattle.guest.specs.declared.instructions.Source.TheVariants.{One as FromOne, First}
use Rattle.guest.specs.declared.instructions.Target.TheVariants.{One as IntoOne, All}
use Rattle.guest.specs.declared.instructions.Instruction.{Instruction, TheVariants.{Set, Add, Sub}}
use Rattle.guest.specs.declared.instructions.Instruction.TheVariants.{Jnz, Send, Recv, Close, Yield}
use Rattle.guest.specs.{declared.instructions.Instruction.TheVariants.Exit, Instructions.IsWithin}
use Rattle.guest.specs.Language.{line_in}

-- the name of a register
abbrev pub register_name : Register → List ℕ
register_name Reg0 = codes "r0"
register_name Reg1 = codes "r1"
register_name Reg2 = codes "r2"
register_name Reg3 = codes "r3"
register_name Reg4 = codes "r4"
register_name Reg5 = codes "r5"
register_name Reg6 = codes "r6"
register_name Reg7 = codes "r7"

-- the piece of a target, where there is one
abbrev pub target_of : Option ℕ → List (List ℕ)
target_of None = []
target_of (Some k) = decimal k ∷ []

-- the pieces of an instruction's line
abbrev pub pieces_of : Instruction → List (List ℕ)
pieces_of (Set r n) = codes "set" ∷ register_name r ∷ decimal n ∷ []
pieces_of (Add r q) = codes "add" ∷ register_name r ∷ register_name q ∷ []
pieces_of (Sub r q) = codes "sub" ∷ register_name r ∷ register_name q ∷ []
pieces_of (Jnz r k) = codes "jnz" ∷ register_name r ∷ decimal k ∷ []
pieces_of (Send b (FromOne r) k) = codes "send" ∷ decimal b.0 ∷ register_name r ∷ target_of k
pieces_of (Send b (First n) k) = codes "sendm" ∷ decimal b.0 ∷ decimal n ∷ target_of k
pieces_of (Recv b (IntoOne r) k) = codes "recv" ∷ decimal b.0 ∷ register_name r ∷ target_of k
pieces_of (Recv b All k) = codes "recvm" ∷ decimal b.0 ∷ target_of k
pieces_of (Close b) = codes "close" ∷ decimal b.0 ∷ []
pieces_of Yield = codes "yield" ∷ []
pieces_of Exit = codes "exit" ∷ []

-- the line of an instruction: its pieces with one space (32) between
unfoldable pub instruction_line : Instruction → List ℕ
instruction_line i = join_with_byte 32 (pieces_of i)

-- each instruction within the limits of a program of so many lines has one line that reads as it
pub record HasOneLine (count : ℕ) (i : Instruction) : Type 0 where
  pub read_back : IsWithin count i → line_in count (instruction_line i) ≡ Ok i
  pub only : (text : List ℕ) → line_in count text ≡ Ok i → text ≡ instruction_line i
