-- First come, first served: at each buffer the calls of one side take effect in the order in which
-- their threads entered its line (wait queue).
use Rattle.std.specs.Prelude.{◌≡◌, ℕ, ◌%◌, ◌^◌, List, [], ◌∷◌, ◌++◌, length, Option, Some, None}
use Rattle.std.specs.Prelude.{if◌then◌else◌}
use Rattle.event_log.specs.declared.ids.{BufId.BufId, LockId.TheVariants.Buffer as AtBuffer}
use Rattle.event_log.specs.{declared.ids.Tid.Tid, History.same_lock, Sections.Section}
use Rattle.event_log.specs.Sections.{sections_in}
use Rattle.layer_traits.specs.declared.locked.Side.{Side, TheVariants.{Receivers, Senders}}
use Rattle.cpu.specs.Table.{Blocks.{Buffer, Block, OfBuffer, Name, Enter, TryPut, TryTake}}
use Rattle.cpu.specs.Table.{Edits.{line_on, may_try, drawn_position}, Setups.SystemConfig}
use Rattle.cpu.specs.Table.Steps.{SystemState, IsReached, block_at}
use Rattle.cpu.specs.Wakeups.{Order.block_of, Quiet.AreFew}

-- the thread that enters the line of a side in this section, if one does
abbrev pub entrant : Side → Name → Option Tid
entrant Receivers (Enter t Receivers) = Some t
entrant Senders (Enter t Senders) = Some t
entrant side name = None

-- the thread whose call of a side takes effect in this section, if one does
abbrev pub served_now : Side → Name → Option Block → Option Tid
served_now Receivers (TryTake t) (Some (OfBuffer k)) =
    if may_try Receivers t k then Some t else None
served_now Senders (TryPut t m) (Some (OfBuffer k)) = if may_try Senders t k then Some t else None
served_now side name block = None

-- a list behind which this thread is appended, if there is one
abbrev pub followed_by : List Tid → Option Tid → List Tid
followed_by list None = list
followed_by list (Some t) = list ++ t ∷ []

-- the threads that entered the line of a side at buffer b in these sections, oldest first
abbrev pub entrants : Side → BufId → List (Section Name) → List Tid
entrants side b [] = []
entrants side b (s ∷ past) =
    if same_lock (AtBuffer b) s.lock then followed_by (entrants side b past) (entrant side s.edit)
    else entrants side b past

-- the threads whose calls of a side took effect at buffer b in these sections, in the order of
-- the effects
abbrev pub served_at : SystemConfig → Side → BufId → List (Section Name) → List Tid
served_at setup side b [] = []
served_at setup side b (s ∷ past) =
    if same_lock (AtBuffer b) s.lock
    then followed_by (served_at setup side b past)
    (served_now side s.edit (block_of setup (AtBuffer b) past))
    else served_at setup side b past

-- The threads that entered a line, oldest first, are those whose calls of its side took effect, in
-- the order of these effects, followed by those in the line. The position that the next thread
-- draws is the number of those that entered, modulo 2^64.
pub record IsInTurn (setup : SystemConfig) (side : Side) (b : BufId)
    (sections : List (Section Name))
    (k : Buffer) : Type 0 where
  pub order : entrants side b sections ≡ served_at setup side b sections ++ line_on side k
  pub position : drawn_position side k ≡ length (entrants side b sections) % 2 ^ 64

-- this holds in every state that a system reaches: no call takes effect before one of its side that
-- entered earlier
abbrev pub SystemsServeInOrder : Type 0
SystemsServeInOrder =
    (setup : SystemConfig) (room : ℕ) (s : SystemState) → AreFew setup → IsReached setup room s
    → (side : Side) (b : BufId) (k : Buffer) → block_at setup (AtBuffer b) s.log ≡ Some (OfBuffer k)
    → IsInTurn setup side b (sections_in s.log) k
