-- One step of a thread keeps the relation of its program to its calls.
use Rattle.std.proofs.{Common.{◌≡◌, ◌==◌, ℕ, Bool, true, false, List, ◌∷◌, Option, refl, sym, ◌∙◌, subst, if◌then◌else◌, eqb-true}, lemmas.Bool.false≢true}
use Rattle.event_log.specs.declared.{ids.BufId.BufId, entries.{Entry.Entry, Kind.TheVariants.{Send as SendKind, Recv as RecvKind, Close as CloseKind}}}
use Rattle.{event_log.specs.declared.entries.Kind.TheVariants.{SendClosed, RecvClosed}, guest.specs.declared.instructions.{Register.Register, Source.Source}}
use Rattle.guest.specs.declared.instructions.{Target.Target, Instruction.{Instruction, TheVariants.{Set, Add, Sub, Jnz, Send, Recv, Close, Yield}}}
use Rattle.guest.specs.{State.{State, next_of, register_value, moved_on, moved_to, after_local, after_yield}, Calls.{IsProgramsCalls, sets, adds, subtracts}}
use Rattle.guest.specs.Calls.{jumps, goes_on, yields}

after_jump : (program : List Instruction) (es : List Entry) (s : State) (r : Register) (k : ℕ) (b : Bool) → b ≡ (register_value s r == 0)
    → IsProgramsCalls program es s → next_of program s ≡ Jnz r k
    → IsProgramsCalls program es (if b then moved_on s else moved_to s k)
after_jump program es s r k true e calls at = goes_on r k calls at (eqb-true _ _ (sym e))
after_jump program es s r k false e calls at = jumps r k calls at (λ zero. false≢true (e ∙ rw zero refl))

local_at : (program : List Instruction) (es : List Entry) (s : State) (i : Instruction) → next_of program s ≡ i → IsProgramsCalls program es s
    → IsProgramsCalls program es (after_local i s)
local_at program es s (Set r n) at calls = sets r n calls at
local_at program es s (Add r q) at calls = adds r q calls at
local_at program es s (Sub r q) at calls = subtracts r q calls at
local_at program es s (Jnz r k) at calls = after_jump program es s r k (register_value s r == 0) refl calls at
local_at program es s other at calls = calls

-- an instruction that shares nothing leaves the list
pub calls-local_is : (program : List Instruction) (es : List Entry) (s : State) → IsProgramsCalls program es s
    → IsProgramsCalls program es (after_local (next_of program s) s)
calls-local_is program es s calls = local_at program es s (next_of program s) refl calls

yield_at : (program : List Instruction) (es : List Entry) (s : State) (i : Instruction) → next_of program s ≡ i → IsProgramsCalls program es s
    → IsProgramsCalls program es (after_yield i s)
yield_at program es s Yield at calls = yields calls at
yield_at program es s other at calls = calls

-- and so does a yield
pub calls-yield : (program : List Instruction) (es : List Entry) (s : State) → IsProgramsCalls program es s
    → IsProgramsCalls program es (after_yield (next_of program s) s)
calls-yield program es s calls = yield_at program es s (next_of program s) refl calls
