-- A thread's private state, and what each instruction makes of it.
use Rattle.std.specs.Prelude.{ℕ, ◌+◌, ◌-◌, ◌^◌, ◌%◌, ◌==◌, List, [], ◌∷◌, take, replicate, Option}
use Rattle.std.specs.Prelude.{Some, None, slice_index, slice_set, if◌then◌else◌}
use Rattle.event_log.specs.Messages.{Message, first_word, padded}
use Rattle.guest.specs.declared.instructions.{TheConstants.REGISTERS, Register.Register}
use Rattle.guest.specs.declared.instructions.Source.{Source, TheVariants.{One as FromOne, First}}
use Rattle.guest.specs.declared.instructions.Target.{Target, TheVariants.{One as IntoOne, All}}
use Rattle.guest.specs.declared.instructions.Instruction.{Instruction, TheVariants.{Set, Add, Sub}}
use Rattle.guest.specs.declared.instructions.Instruction.TheVariants.{Jnz, Send, Recv, Close, Yield}
use Rattle.guest.specs.{declared.instructions.Instruction.TheVariants.Exit, Instructions.number_of}
use Rattle.guest.specs.Instructions.{instruction_at}

-- the line of a thread, and its registers by number
pub record State : Type 0 where
  pub line : ℕ
  pub registers : List ℕ

-- line 0, with registers 0
abbrev pub at_start : State
at_start = record { line = 0; registers = replicate REGISTERS 0 }

-- the instruction of the thread's line
abbrev pub next_of : List Instruction → State → Instruction
next_of program s = instruction_at program s.line

-- what a register holds
abbrev pub register_value : State → Register → ℕ
register_value s r = slice_index s.registers (number_of r)

-- the message that a thread at a send sends: one register's number, or the first registers' numbers
abbrev pub message_from : State → Source → Message
message_from s (FromOne r) = register_value s r ∷ []
message_from s (First n) = take n s.registers

-- at the following line
abbrev pub moved_on : State → State
moved_on s = record { line = s.line + 1; registers = s.registers }

-- at the following line, with a number in a register
abbrev pub moved_with : State → Register → ℕ → State
moved_with s r n = record { line = s.line + 1; registers = slice_set s.registers (number_of r) n }

-- at the following line, with what a receive brings: the message's first word in one register, or
-- its words in the first registers and 0 in the others
abbrev pub moved_into : State → Target → Message → State
moved_into s (IntoOne r) message = moved_with s r (first_word message)
moved_into s All message = record { line = s.line + 1; registers = padded message }

-- at another line
abbrev pub moved_to : State → ℕ → State
moved_to s line = record { line = line; registers = s.registers }

-- at the target, or at the following line if there is none
abbrev pub moved_aside : State → Option ℕ → State
moved_aside s None = moved_on s
moved_aside s (Some k) = moved_to s k

-- sums and differences of 64 bits
abbrev pub wrapped_sum : ℕ → ℕ → ℕ
wrapped_sum a b = (a + b) % 2 ^ 64

abbrev pub wrapped_difference : ℕ → ℕ → ℕ
wrapped_difference a b = (a + 2 ^ 64 - b) % 2 ^ 64

-- after an instruction that shares nothing; the others leave the state as it is
abbrev pub after_local : Instruction → State → State
after_local (Set r n) s = moved_with s r n
after_local (Add r q) s = moved_with s r (wrapped_sum (register_value s r) (register_value s q))
after_local (Sub r q) s =
    moved_with s r (wrapped_difference (register_value s r) (register_value s q))
after_local (Jnz r k) s = if register_value s r == 0 then moved_on s else moved_to s k
after_local (Send b from k) s = s
after_local (Recv b into k) s = s
after_local (Close b) s = s
after_local Yield s = s
after_local Exit s = s

-- after a send has returned
abbrev pub after_send : Instruction → State → State
after_send (Send b from k) s = moved_on s
after_send _ s = s

-- after a receive has returned with this message
abbrev pub after_recv : Instruction → Message → State → State
after_recv (Recv b into k) message s = moved_into s into message
after_recv _ message s = s

-- after a close has returned
abbrev pub after_close : Instruction → State → State
after_close (Close b) s = moved_on s
after_close _ s = s

-- after a send or a receive has returned that found its buffer closed: no register changes
abbrev pub after_closed : Instruction → State → State
after_closed (Send b from k) s = moved_aside s k
after_closed (Recv b into k) s = moved_aside s k
after_closed _ s = s

-- after the thread has let another one run
abbrev pub after_yield : Instruction → State → State
after_yield Yield s = moved_on s
after_yield _ s = s
