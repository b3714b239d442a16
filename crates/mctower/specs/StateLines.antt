-- The state lines: for each CPU why it is halted, for each thread where it is, and whether the
-- system is quiet.
use Rattle.std.specs.Prelude.{ℕ, Bool, List, [], ◌∷◌, ◌++◌, Option, Some, None, codes, decimal}
use Rattle.std.specs.{Prelude.if◌then◌else◌, List.flat_map}
use Rattle.layer_traits.specs.declared.steps.Reason.{Reason, TheVariants.{AllEnded, TraceFull}}
use Rattle.layer_traits.specs.declared.{steps.Reason.TheVariants.StepsUsed, calls.Place.Place}
use Rattle.layer_traits.specs.declared.calls.Place.TheVariants.{Running, Ready, Pending, Hand}
use Rattle.layer_traits.specs.declared.calls.Place.TheVariants.{LockSleeper, WaitRecv, WaitSend}
use Rattle.layer_traits.specs.declared.calls.Place.TheVariants.{Ended}
use Rattle.tracer.specs.TraceText.{text_line, numbered}

-- the word for a CPU: it is live, or why it is halted
abbrev pub halted_word : Option Reason → List ℕ
halted_word None = codes "live"
halted_word (Some AllEnded) = codes "AllEnded"
halted_word (Some TraceFull) = codes "TraceFull"
halted_word (Some StepsUsed) = codes "StepsUsed"

-- the name of a place
abbrev pub place_name : Place → List ℕ
place_name (Running c) = codes "Running"
place_name (Ready c) = codes "Ready"
place_name (Pending c) = codes "Pending"
place_name (Hand c) = codes "Hand"
place_name (LockSleeper b) = codes "LockSleeper"
place_name (WaitRecv b) = codes "WaitRecv"
place_name (WaitSend b) = codes "WaitSend"
place_name Ended = codes "Ended"

-- the number of the CPU or of the buffer at which the place is
abbrev pub place_number : Place → Option ℕ
place_number (Running c) = Some c.0
place_number (Ready c) = Some c.0
place_number (Pending c) = Some c.0
place_number (Hand c) = Some c.0
place_number (LockSleeper b) = Some b.0
place_number (WaitRecv b) = Some b.0
place_number (WaitSend b) = Some b.0
place_number Ended = None

-- a name, followed by a number in parentheses, if there is one
abbrev pub with_number : List ℕ → Option ℕ → List ℕ
with_number name None = name
with_number name (Some n) = name ++ (codes "(" ++ (decimal n ++ codes ")"))

-- how a place is spelled, as `WaitSend(0)`
abbrev pub place_word : Place → List ℕ
place_word place = with_number (place_name place) (place_number place)

-- the line of a CPU, with this word
abbrev pub cpu_pieces : ℕ → List ℕ → List (List ℕ)
cpu_pieces c word = codes "cpu" ∷ decimal c ∷ word ∷ []

-- the line of a CPU that is live or halted
abbrev pub halted_pieces : ℕ → Option Reason → List (List ℕ)
halted_pieces c halted = cpu_pieces c (halted_word halted)

-- the line of a thread
abbrev pub thread_pieces : ℕ → Place → List (List ℕ)
thread_pieces t place = codes "thread" ∷ decimal t ∷ place_word place ∷ []

-- the line on the whole system
abbrev pub quiet_pieces : Bool → List (List ℕ)
quiet_pieces quiet = codes "quiet" ∷ (if quiet then codes "yes" else codes "no") ∷ []

-- the state lines: a line for each CPU and one for each thread, each by rising number, and a last
-- one on the whole system
abbrev pub state_text : List (Option Reason) → List Place → Bool → List ℕ
state_text halted places quiet =
    flat_map text_line (numbered halted_pieces 0 halted)
    ++ (flat_map text_line (numbered thread_pieces 0 places) ++ text_line (quiet_pieces quiet))
