-- A buffer never holds more than it may.
use Rattle.std.proofs.{Common.{◌≡◌, ℕ, ◌≤◌, Bool, true, ◌||◌, nat_lt, List, length, Some, arith, length-append}, lemmas.Bool.{and_parts, ltb-true}}
use Rattle.event_log.specs.{declared.ids.{BufId.BufId, LockId.TheVariants.Buffer as AtBuffer}, Messages.Message, Sections.Section}
use Rattle.{layer_traits.specs.Blocks.BufferBlocks.{items_put, other_items}, cpu.specs.Table.{Blocks.{Buffer, OfBuffer, Name}, Edits.edited}}
use Rattle.cpu.{specs.{Table.Setups.{SystemConfig, opening}, Wakeups.Order.block_of}, proofs.{ListFacts.ListReads.blocks_keep, Wakeups.Ordered.same_buffer}}

-- a buffer holds no more than it may
abbrev pub Coupled : Buffer → Type 0
Coupled k = length k.items ≤ k.capacity

fewer : (items : List Message) → length (other_items items) ≤ length items
fewer items = grind arith

-- nor after a put, which a closed buffer does not take
fits_put : (closed : Bool) (m : Message) (items : List Message) (capacity : ℕ) → length items ≤ capacity
    → (closed || nat_lt (length items) capacity) ≡ true → length (items_put closed m items) ≤ capacity
fits_put closed m items capacity coupled can = grind (arith, ltb-true, length-append)

-- after any sections
pub holds_no_more : (setup : SystemConfig) (sections : List (Section Name)) (b : BufId) (k : Buffer) → block_of setup (AtBuffer b) sections ≡ Some (OfBuffer k)
    → Coupled k
holds_no_more setup sections b =
    blocks_keep (λ o. (k : Buffer) → o ≡ Some (OfBuffer k) → Coupled k) edited (opening setup) (AtBuffer b)
    (λ k is. grind (arith, same_buffer, is)) (λ e o before k is. grind (arith, same_buffer, fits_put, and_parts, fewer)) sections
