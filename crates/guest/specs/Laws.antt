-- What holds of every program: statements of this crate's laws.
use Rattle.std.specs.Prelude.{◌≡◌, ℕ, List, ◌∷◌, Option}
use Rattle.event_log.specs.declared.{ids.BufId.BufId, entries.Entry.Entry}
use Rattle.event_log.specs.declared.entries.Kind.TheVariants.{Send as SendKind, Recv as RecvKind}
use Rattle.event_log.specs.declared.entries.Kind.TheVariants.{Close as CloseKind, SendClosed}
use Rattle.event_log.specs.declared.entries.Kind.TheVariants.{RecvClosed}
use Rattle.guest.specs.declared.instructions.{Source.Source, Target.Target, Instruction.Instruction}
use Rattle.guest.specs.declared.instructions.Instruction.TheVariants.{Send, Recv, Close}
use Rattle.guest.specs.State.{State, next_of, message_from, after_local, after_send, after_recv}
use Rattle.guest.specs.{State.{after_close, after_closed, after_yield}, Calls.IsProgramsCalls}

-- each kind of step keeps the relation of a program to its calls
pub record StepsKeepCalls : Type 0 where
  pub at_local : (program : List Instruction) (es : List Entry) (s : State)
      → IsProgramsCalls program es s
      → IsProgramsCalls program es (after_local (next_of program s) s)
  pub at_yield : (program : List Instruction) (es : List Entry) (s : State)
      → IsProgramsCalls program es s
      → IsProgramsCalls program es (after_yield (next_of program s) s)
  pub at_send : (program : List Instruction) (es : List Entry) (s : State) (b : BufId)
      (from : Source) (k : Option ℕ) (e : Entry)
      → IsProgramsCalls program es s → next_of program s ≡ Send b from k
      → e.kind ≡ SendKind → e.buffer ≡ b → e.value ≡ message_from s from
      → IsProgramsCalls program (e ∷ es) (after_send (next_of program s) s)
  pub at_recv : (program : List Instruction) (es : List Entry) (s : State) (b : BufId)
      (into : Target)
      (k : Option ℕ) (e : Entry)
      → IsProgramsCalls program es s → next_of program s ≡ Recv b into k
      → e.kind ≡ RecvKind → e.buffer ≡ b
      → IsProgramsCalls program (e ∷ es) (after_recv (next_of program s) e.value s)
  pub at_close : (program : List Instruction) (es : List Entry) (s : State) (b : BufId) (e : Entry)
      → IsProgramsCalls program es s
      → next_of program s ≡ Close b → e.kind ≡ CloseKind → e.buffer ≡ b
      → IsProgramsCalls program (e ∷ es) (after_close (next_of program s) s)
  pub at_offer : (program : List Instruction) (es : List Entry) (s : State) (b : BufId)
      (from : Source) (k : Option ℕ) (e : Entry)
      → IsProgramsCalls program es s → next_of program s ≡ Send b from k
      → e.kind ≡ SendClosed → e.buffer ≡ b → e.value ≡ message_from s from
      → IsProgramsCalls program (e ∷ es) (after_closed (next_of program s) s)
  pub at_ask : (program : List Instruction) (es : List Entry) (s : State) (b : BufId)
      (into : Target)
      (k : Option ℕ) (e : Entry)
      → IsProgramsCalls program es s → next_of program s ≡ Recv b into k
      → e.kind ≡ RecvClosed → e.buffer ≡ b
      → IsProgramsCalls program (e ∷ es) (after_closed (next_of program s) s)
