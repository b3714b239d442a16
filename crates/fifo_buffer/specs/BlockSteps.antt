-- What an effect makes of a buffer's block, for every group with which it is counted, and whether
-- or not it finds the buffer closed.
use Rattle.std.specs.Prelude.{◌≡◌, ℕ, ◌+◌, ◌%◌, ◌^◌, Bool, nat_lt, if◌then◌else◌}
use Rattle.event_log.specs.declared.entries.{Entry.Entry, Kind.{Kind, TheVariants.{Send, Recv}}}
use Rattle.event_log.specs.{declared.ids.Tid.Tid, Buffers.{IsAllowedEffect, after_effect}}
use Rattle.event_log.specs.Runs.{Group, Closes, group_of, same_group}
use Rattle.layer_traits.specs.declared.locked.Side.{Side, TheVariants.{Receivers, Senders}}
use Rattle.layer_traits.specs.Blocks.BufferBlocks.{BufferState, counted}
use Rattle.fifo_buffer.specs.Tallies.{IsNumbered, drawn_by, line_by}

-- the kind with which a side's effects are counted
abbrev pub kind_on : Side → Kind
kind_on Receivers = Recv
kind_on Senders = Send

-- one more, or as many
abbrev pub one_on : Bool → ℕ → ℕ
one_on more n = if more then n + 1 else n

-- the block y is x after the effect e of this group: its position is the first of the group's line,
-- and the lines continue after it
pub record BlockStep (g : Group) (e : Entry) (position : Group → Tid → ℕ) (x y : BufferState) : Type
    0 where
  pub counts : group_of e.kind ≡ g
  pub allowed : IsAllowedEffect e.kind x.closed x.capacity x.items e.value
  pub op : e.op ≡ x.effects
  pub items : y.items ≡ after_effect e.kind x.items e.value
  pub capacity : y.capacity ≡ x.capacity
  pub effects : y.effects ≡ counted x.effects
  pub closed : (n : ℕ) → nat_lt 0 n ≡ x.closed
      → nat_lt 0 (one_on (same_group g Closes) n) ≡ y.closed
  pub pos : (n : ℕ) → IsNumbered (position g) n (drawn_by g x) (line_by g x) → e.pos ≡ n % 2 ^ 64
  pub lines : (at : Group) (n : ℕ) → IsNumbered (position at) n (drawn_by at x) (line_by at x)
      → IsNumbered (position at) (one_on (same_group g at) n) (drawn_by at y) (line_by at y)
