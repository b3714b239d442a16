-- How a buffer's block accounts for its effects. A close draws its position when it takes effect,
-- so that no thread waits for one in a line.
use Rattle.std.specs.Prelude.{◌≡◌, ℕ, ◌+◌, ◌<◌, ◌%◌, ◌^◌, List, [], ◌∷◌, length, slice_index}
use Rattle.event_log.specs.declared.{entries.{Entry.Entry, Kind.Kind}, ids.BufId.BufId}
use Rattle.event_log.specs.{declared.ids.{CpuId.CpuId, Tid.Tid}, Buffers.items_of, Runs.count_of}
use Rattle.event_log.specs.Runs.{Group, Sends, Receives, Closes, count_of_kind, group_of, is_closed}
use Rattle.layer_traits.specs.declared.locked.Side.{Side, TheVariants.{Receivers, Senders}}
use Rattle.layer_traits.specs.Blocks.{BufferBlocks.BufferState, BufferEffects.contents_of}

-- how many positions of a group's effects were drawn, modulo 2^64
abbrev pub drawn_by : Group → BufferState → ℕ
drawn_by Sends x = x.sends
drawn_by Receives x = x.receives
drawn_by Closes x = x.closes

-- the threads that have drawn a position and have had no effect, oldest first
abbrev pub line_by : Group → BufferState → List Tid
line_by Sends x = x.send_line
line_by Receives x = x.receive_line
line_by Closes x = []

-- the positions that threads drew last, by the group of their effects
abbrev pub by_side : (Side → Tid → ℕ) → Group → Tid → ℕ
by_side position Sends = position Senders
by_side position Receives = position Receivers
by_side position Closes = λ t. 0

-- the threads of a line have drawn the positions n, n + 1 and so on, and the position after them is
-- next, modulo 2^64
abbrev pub IsNumbered : (Tid → ℕ) → ℕ → ℕ → List Tid → Type 0
IsNumbered position n next [] = next ≡ n % 2 ^ 64
IsNumbered position n next (t ∷ queue) =
    (position t ≡ n % 2 ^ 64) × IsNumbered position (n + 1) next queue

-- A buffer's block accounts for its effects: its items are what they leave, it is closed exactly if
-- one of them closed it, and it counts them. The threads in a line have the positions after those
-- of the effects of their group.
pub record Tally (caps : List ℕ) (b : ℕ) (es : List Entry) (position : Group → Tid → ℕ)
    (x : BufferState) : Type 0 where
  pub known : b < length caps
  pub wide : length (contents_of caps es) ≡ length caps
  pub items : items_of (contents_of caps es) b ≡ x.items
  pub capacity : slice_index caps b ≡ x.capacity
  pub closed : is_closed es b ≡ x.closed
  pub effects : x.effects ≡ count_of es b % 2 ^ 64
  pub lines : (k : Kind) → IsNumbered (position (group_of k)) (count_of_kind es b k)
      (drawn_by (group_of k) x) (line_by (group_of k) x)

-- an effect is of its section's CPU, on its section's buffer
abbrev pub IsPlaced : CpuId → BufId → Entry → Type 0
IsPlaced cpu d e = (e.cpu ≡ cpu) × (e.buffer ≡ d)
