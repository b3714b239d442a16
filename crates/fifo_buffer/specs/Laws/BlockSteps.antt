-- A put and a take at their section polls, and a close, are steps of a buffer's block.
use Rattle.std.proofs.Common.{◌≡◌, ℕ, ◌+◌, ◌%◌, ◌^◌, Bool, true, false, ◌||◌, List, [], ◌∷◌, length}
use Rattle.std.proofs.Common.{nat_lt, if◌then◌else◌, refl, sym, ap, ◌∙◌, arith, lt-ltb}
use Rattle.std.proofs.lemmas.Bool.{and_parts, ltb-true}
use Rattle.event_log.specs.declared.entries.Kind.TheVariants.{Send, Recv, Close, SendClosed}
use Rattle.event_log.specs.declared.{entries.Kind.TheVariants.RecvClosed, ids.BufId.BufId}
use Rattle.event_log.specs.{declared.ids.{CpuId.CpuId, Tid.Tid}, Buffers.IsAllowedEffect}
use Rattle.event_log.specs.{Buffers.after_effect, Messages.{Message, no_message}, Runs.Group}
use Rattle.event_log.specs.Runs.{Closes, Receives, Sends, group_of, same_group}
use Rattle.layer_traits.specs.declared.locked.Side.{Side, TheVariants.{Receivers, Senders}}
use Rattle.layer_traits.specs.Blocks.BufferBlocks.{BufferState, effect_kind, first_item, is_first}
use Rattle.layer_traits.specs.Blocks.BufferBlocks.{is_next, items_put, may_go, other_items, put_in}
use Rattle.layer_traits.specs.Blocks.{BufferBlocks.{shut, taken_out}, BufferEffects.entry}
use Rattle.{layer_traits.proofs.ItemLemmas.{drop_one, one_more}, thread_blocks.specs.Queues.rest}
use Rattle.{thread_blocks.proofs.Members.same_tid_true, fifo_buffer.specs.BlockSteps.BlockStep}
use Rattle.fifo_buffer.specs.{BlockSteps.{kind_on, one_on}, Tallies.{IsNumbered, drawn_by, line_by}}

-- the first thread of a line has the line's first number, and the others have those after it
first_numbered : (position : Tid → ℕ) (n next : ℕ) (t : Tid) (queue : List Tid)
    → is_first t queue ≡ true → IsNumbered position n next queue
    → (position t ≡ n % 2 ^ 64) × IsNumbered position (n + 1) next (rest queue)
first_numbered position n next t [] leads numbered = absurd cc
first_numbered position n next t (u ∷ queue) leads numbered =
    (ap position (same_tid_true t u leads) ∙ numbered.0, numbered.1)

pub put_counts : (closed : Bool) → group_of (if closed then SendClosed else Send) ≡ Sends
put_counts true = refl
put_counts false = refl

some_item : (m : Message) (items : List Message) → nat_lt 0 (length (m ∷ items)) ≡ true
some_item m items = lt-ltb 0 (length (m ∷ items)) (omega arith)

pub take_counts : (items : List Message)
    → group_of (if nat_lt 0 (length items) then Recv else RecvClosed) ≡ Receives
take_counts [] = refl
take_counts (m ∷ items) = rw (some_item m items) refl

-- the effect of the first of a side is counted with that side's
pub kind_counts : (side : Side) (x : BufferState)
    → group_of (effect_kind side x) ≡ group_of (kind_on side)
kind_counts Receivers x = take_counts x.items
kind_counts Senders x = put_counts x.closed

put_allowed : (closed : Bool) (capacity : ℕ) (items : List Message) (m : Message)
    → (closed || nat_lt (length items) capacity) ≡ true
    → IsAllowedEffect (if closed then SendClosed else Send) closed capacity items m
put_allowed true capacity items m may = refl
put_allowed false capacity items m may = (refl, ltb-true (length items) capacity may)

put_items : (closed : Bool) (items : List Message) (m : Message)
    → items_put closed m items ≡ after_effect (if closed then SendClosed else Send) items m
put_items true items m = refl
put_items false items m = refl

take_allowed : (closed : Bool) (capacity : ℕ) (items : List Message)
    → (closed || nat_lt 0 (length items)) ≡ true
    → IsAllowedEffect (if nat_lt 0 (length items) then Recv else RecvClosed) closed capacity items
    (first_item items)
take_allowed true capacity [] may = (refl, refl, refl)
take_allowed false capacity [] may = absurd cc
take_allowed closed capacity (m ∷ items) may = rw (some_item m items) refl

take_items : (items : List Message)
    → other_items items ≡ after_effect (if nat_lt 0 (length items) then Recv else RecvClosed) items
    (first_item items)
take_items [] = refl
take_items (m ∷ items) = rw (some_item m items) (sym (drop_one (m ∷ items)))

module _ (cpu : CpuId) (d : BufId) (t : Tid) (position : Group → Tid → ℕ) (x : BufferState) where
  -- a put at its section poll is a step of the sends: if the buffer is closed, nothing is put
  pub put_step : (m : Message) → is_next Senders t x ≡ true
      → BlockStep Sends (entry cpu t (effect_kind Senders x) d m x.effects (position Sends t))
      position x (put_in m x)
  put_step m next =
      let both = and_parts (is_first t x.send_line) (may_go Senders x) next in
      record {
        counts = put_counts x.closed;
        allowed = put_allowed x.closed x.capacity x.items m both.1;
        op = refl;
        items = put_items x.closed x.items m;
        capacity = refl;
        effects = refl;
        closed = λ n is. is;
        pos =
            λ n numbered. (first_numbered (position Sends) n x.sends t x.send_line both.0
            numbered).0;
        lines = lines both.0;
      }
    where
      lines : is_first t x.send_line ≡ true → (at : Group) (n : ℕ)
          → IsNumbered (position at) n (drawn_by at x) (line_by at x)
          → IsNumbered (position at) (one_on (same_group Sends at) n) (drawn_by at (put_in m x))
          (line_by at (put_in m x))
      lines leads Sends n numbered =
          (first_numbered (position Sends) n x.sends t x.send_line leads numbered).1
      lines leads Receives n numbered = numbered
      lines leads Closes n numbered = numbered

  -- a take at its section poll is a step of the receives: if there is no item, the buffer is
  -- closed, and nothing is taken
  pub take_step : is_next Receivers t x ≡ true
      → BlockStep Receives (entry cpu t (effect_kind Receivers x) d (first_item x.items) x.effects
      (position Receives t)) position x (taken_out x)
  take_step next =
      let both = and_parts (is_first t x.receive_line) (may_go Receivers x) next in
      record {
        counts = take_counts x.items;
        allowed = take_allowed x.closed x.capacity x.items both.1;
        op = refl;
        items = take_items x.items;
        capacity = refl;
        effects = refl;
        closed = λ n is. is;
        pos =
            λ n numbered. (first_numbered (position Receives) n x.receives t x.receive_line both.0
            numbered).0;
        lines = lines both.0;
      }
    where
      lines : is_first t x.receive_line ≡ true → (at : Group) (n : ℕ)
          → IsNumbered (position at) n (drawn_by at x) (line_by at x)
          → IsNumbered (position at) (one_on (same_group Receives at) n) (drawn_by at (taken_out x))
          (line_by at (taken_out x))
      lines leads Sends n numbered = numbered
      lines leads Receives n numbered =
          (first_numbered (position Receives) n x.receives t x.receive_line leads numbered).1
      lines leads Closes n numbered = numbered

  -- a close is a step of the closes, and the items stay
  pub shut_step : BlockStep Closes (entry cpu t Close d no_message x.effects x.closes) position x
      (shut x)
  shut_step = record {
    counts = refl;
    allowed = refl;
    op = refl;
    items = refl;
    capacity = refl;
    effects = refl;
    closed = λ n is. lt-ltb 0 (n + 1) (omega arith);
    pos = λ n numbered. numbered;
    lines = lines;
  }
    where
      lines : (at : Group) (n : ℕ) → IsNumbered (position at) n (drawn_by at x) (line_by at x)
          → IsNumbered (position at) (one_on (same_group Closes at) n) (drawn_by at (shut x))
          (line_by at (shut x))
      lines Sends n numbered = numbered
      lines Receives n numbered = numbered
      lines Closes n numbered = one_more x.closes n numbered
