-- The calls that a program makes, given what it receives. Lists of entries are newest first.
use Rattle.std.specs.Prelude.{◌≡◌, ◌≢◌, ℕ, List, [], ◌∷◌, Option, reverse}
use Rattle.event_log.specs.declared.{ids.BufId.BufId, entries.Entry.Entry}
use Rattle.event_log.specs.declared.entries.Kind.TheVariants.{Send as SendKind, Recv as RecvKind}
use Rattle.event_log.specs.declared.entries.Kind.TheVariants.{Close as CloseKind, SendClosed}
use Rattle.event_log.specs.declared.entries.Kind.TheVariants.{RecvClosed}
use Rattle.guest.specs.declared.instructions.{Register.Register, Source.Source, Target.Target}
use Rattle.guest.specs.declared.instructions.Instruction.{Instruction, TheVariants.{Set, Add, Sub}}
use Rattle.guest.specs.declared.instructions.Instruction.TheVariants.{Jnz, Send, Recv, Close, Yield}
use Rattle.guest.specs.{declared.instructions.Instruction.TheVariants.Exit, State.{State, at_start}}
use Rattle.guest.specs.State.{next_of, register_value, message_from, moved_on, moved_with}
use Rattle.guest.specs.State.{moved_into, moved_to, moved_aside, wrapped_sum, wrapped_difference}

-- the program has made exactly the calls of these entries, newest first, when it is in this state
pub data IsProgramsCalls (program : List Instruction) : List Entry → State → Type 0 where
  made_none : IsProgramsCalls program [] at_start
  sets : {es : List Entry} {s : State} (r : Register) (n : ℕ) → IsProgramsCalls program es s
      → next_of program s ≡ Set r n
      → IsProgramsCalls program es (moved_with s r n)
  adds : {es : List Entry} {s : State} (r q : Register) → IsProgramsCalls program es s
      → next_of program s ≡ Add r q
      → IsProgramsCalls program es
      (moved_with s r (wrapped_sum (register_value s r) (register_value s q)))
  subtracts : {es : List Entry} {s : State} (r q : Register) → IsProgramsCalls program es s
      → next_of program s ≡ Sub r q
      → IsProgramsCalls program es
      (moved_with s r (wrapped_difference (register_value s r) (register_value s q)))
  jumps : {es : List Entry} {s : State} (r : Register) (k : ℕ) → IsProgramsCalls program es s
      → next_of program s ≡ Jnz r k → register_value s r ≢ 0
      → IsProgramsCalls program es (moved_to s k)
  goes_on : {es : List Entry} {s : State} (r : Register) (k : ℕ) → IsProgramsCalls program es s
      → next_of program s ≡ Jnz r k → register_value s r ≡ 0
      → IsProgramsCalls program es (moved_on s)
  yields : {es : List Entry} {s : State} → IsProgramsCalls program es s → next_of program s ≡ Yield
      → IsProgramsCalls program es (moved_on s)
  sends : {es : List Entry} {s : State} (b : BufId) (from : Source) (k : Option ℕ) (e : Entry)
      → IsProgramsCalls program es s
      → next_of program s ≡ Send b from k
      → e.kind ≡ SendKind → e.buffer ≡ b → e.value ≡ message_from s from
      → IsProgramsCalls program (e ∷ es) (moved_on s)
  receives : {es : List Entry} {s : State} (b : BufId) (into : Target) (k : Option ℕ) (e : Entry)
      → IsProgramsCalls program es s
      → next_of program s ≡ Recv b into k
      → e.kind ≡ RecvKind → e.buffer ≡ b
      → IsProgramsCalls program (e ∷ es) (moved_into s into e.value)
  closes : {es : List Entry} {s : State} (b : BufId) (e : Entry) → IsProgramsCalls program es s
      → next_of program s ≡ Close b
      → e.kind ≡ CloseKind → e.buffer ≡ b → IsProgramsCalls program (e ∷ es) (moved_on s)
  offers : {es : List Entry} {s : State} (b : BufId) (from : Source) (k : Option ℕ) (e : Entry)
      → IsProgramsCalls program es s
      → next_of program s ≡ Send b from k
      → e.kind ≡ SendClosed → e.buffer ≡ b → e.value ≡ message_from s from
      → IsProgramsCalls program (e ∷ es) (moved_aside s k)
  asks_in_vain : {es : List Entry} {s : State} (b : BufId) (into : Target) (k : Option ℕ)
      (e : Entry)
      → IsProgramsCalls program es s
      → next_of program s ≡ Recv b into k
      → e.kind ≡ RecvClosed → e.buffer ≡ b → IsProgramsCalls program (e ∷ es) (moved_aside s k)

-- the program has ended: it is at `exit`, or past its last line
abbrev pub HasEnded : List Instruction → State → Type 0
HasEnded program s = next_of program s ≡ Exit

-- a thread's entries, oldest first as a trace has them, are the program's calls up to some state
abbrev pub AreProgramsCalls : List Instruction → List Entry → Type 0
AreProgramsCalls program entries = (s : State) × IsProgramsCalls program (reverse entries) s
