-- What a lock's log says of its actions, whatever its events are: the phases, and that a ticket is
-- the ticket index modulo 2^64.
use Rattle.std.proofs.{Common.{arith, ◌≡◌, ℕ, ◌%◌, ◌^◌, ◌==◌}, lemmas.Bool.{eqb-true, eq-eqb}}
use Rattle.event_log.specs.{WordsLog.{LockPhase, Idle, Waiting, Holding}, Actions.{Phase, Rests, Waits, Holds}}

-- what a CPU in this lock phase does
abbrev pub phase_of : LockPhase → Phase
phase_of Idle = Rests
phase_of (Waiting lock ticket) = Waits lock
phase_of (Holding lock ticket) = Holds lock

-- a ticket is the ticket index modulo 2^64
abbrev pub TicketOf : LockPhase → ℕ → Type 0
TicketOf Idle ticket_index = Unit {0}
TicketOf (Waiting lock ticket) ticket_index = ticket ≡ ticket_index % 2 ^ 64
TicketOf (Holding lock ticket) ticket_index = ticket ≡ ticket_index % 2 ^ 64

-- tests that say the same of two pairs of numbers agree
pub eqb_same : (a b c d : ℕ) → (a ≡ b → c ≡ d) → (c ≡ d → a ≡ b) → (a == b) ≡ (c == d)
eqb_same a b c d there back = grind (arith, eq-eqb, eqb-true)
