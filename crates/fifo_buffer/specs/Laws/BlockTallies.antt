-- A block accounts for its effects, and still does after any further section. Therefore, after any
-- sections each buffer does, and each effect may follow those before it.
use Rattle.std.proofs.Common.{◌≡◌, ℕ, ◌+◌, ◌<◌, ◌%◌, ◌^◌, Bool, true, false, ◌&&◌, ◌==◌, List, []}
use Rattle.std.proofs.Common.{◌∷◌, ◌++◌, length, Option, Some, None, option_map, option_to_list}
use Rattle.std.proofs.Common.{slice_get, if◌then◌else◌, refl, ap, sym, ◌∙◌, subst, arith}
use Rattle.std.proofs.lemmas.{Bool.{eqb-false, eqb-true, ne_eqb, or_parts}, List.get_or-set_other}
use Rattle.std.proofs.lemmas.List.{get_or-set_same, length-map, length-set}
use Rattle.std.proofs.lemmas.Option.{get_or_from_slice_get, same_Some, slice_get_within}
use Rattle.std.specs.{Prelude.nat_lt, List.AllByRecursion}
use Rattle.event_log.specs.declared.entries.Kind.TheVariants.{Send, Recv, Close, SendClosed}
use Rattle.event_log.specs.declared.entries.{Kind.{TheVariants.RecvClosed, Kind}, Entry.Entry}
use Rattle.event_log.specs.declared.ids.{BufId.BufId, CpuId.CpuId, LockId.LockId}
use Rattle.event_log.specs.{declared.ids.{LockId.TheVariants.Buffer, Tid.Tid}, Buffers.after_effect}
use Rattle.event_log.specs.{Buffers.items_of, Runs.{Group, Sends, Receives, Closes, count_of}}
use Rattle.event_log.specs.{Runs.{count_of_kind, group_of, kind_eq, same_group}, Sections.Section}
use Rattle.event_log.specs.{Sections.block_after, History.IsLawful, Messages.Message}
use Rattle.event_log.proofs.RunLemmas.{count_cons, counts_here, items_none, kind_cons, kinds_here}
use Rattle.layer_traits.specs.declared.locked.Side.{Side, TheVariants.{Receivers, Senders}}
use Rattle.layer_traits.specs.Blocks.BufferBlocks.{BufferState, counted, drawn_of, empty_block}
use Rattle.layer_traits.specs.Blocks.{BufferBlocks.entered, BufferEffects.MayTakeEffect}
use Rattle.layer_traits.specs.{Blocks.BufferEffects.contents_of, Protocols.Protocol.section}
use Rattle.{layer_traits.proofs.ItemLemmas.one_more, thread_blocks.specs.Queues.{same_tid, is_in}}
use Rattle.fifo_buffer.specs.{BlockSteps.{BlockStep, one_on}, Tallies.{IsNumbered, Tally, by_side}}
use Rattle.fifo_buffer.specs.Tallies.{drawn_by, line_by}

-- Numbers along a line.

-- what holds of each thread, or of each except one that is not in a line, holds along the line
pub all_along : (P : Tid → Type 0) (queue : List Tid) → ((t : Tid) → P t) → AllByRecursion P queue
all_along P [] each = tt
all_along P (t ∷ queue) each = (each t, all_along P queue each)

pub all_but : (P : Tid → Type 0) (u : Tid) (queue : List Tid) → is_in u queue ≡ false
    → ((t : Tid) → same_tid u t ≡ false → P t) → AllByRecursion P queue
all_but P u [] out each = tt
all_but P u (t ∷ queue) out each =
    let parts = or_parts (same_tid u t) (is_in u queue) out in
    (each t parts.0, all_but P u queue parts.1 each)

renumbered : (p q : Tid → ℕ) (n next : ℕ) (queue : List Tid) → AllByRecursion (λ t. q t ≡ p t) queue
    → IsNumbered p n next queue → IsNumbered q n next queue
renumbered p q n next [] same numbered = numbered
renumbered p q n next (t ∷ queue) same numbered =
    (same.0 ∙ numbered.0, renumbered p q (n + 1) next queue same.1 numbered.1)

-- a thread that enters draws the position after the line's last
numbered_behind : (p : Tid → ℕ) (n next : ℕ) (u : Tid) (queue : List Tid) → p u ≡ next
    → IsNumbered p n next queue
    → IsNumbered p n (counted next) (queue ++ u ∷ [])
numbered_behind p n next u [] drew numbered = (drew ∙ numbered, one_more next n numbered)
numbered_behind p n next u (t ∷ queue) drew numbered =
    (numbered.0, numbered_behind p (n + 1) next u queue drew numbered.1)

-- What a block records, one section further.

-- the threads in the line have these positions in both
abbrev pub Agree : (Group → Tid → ℕ) → (Group → Tid → ℕ) → BufferState → Type 0
Agree p q x = (g : Group) → AllByRecursion (λ t. q g t ≡ p g t) (line_by g x)

-- an effect, if there is one, may occur, and the block accounts for the effects with it
abbrev pub Steps : List ℕ → ℕ → List Entry → Option Entry → (Group → Tid → ℕ) → BufferState → Type 0
Steps caps b es effect position x =
    ((e : Entry) → effect ≡ Some e → MayTakeEffect caps es e)
    × Tally caps b (option_to_list effect ++ es) position x

module _ {caps : List ℕ} {b : ℕ} {es : List Entry} {p : Group → Tid → ℕ} {x : BufferState}
    (tally : Tally caps b es p x) where
  -- the lines change, and nothing else
  relined : (q : Group → Tid → ℕ) (y : BufferState) → y.items ≡ x.items → y.capacity ≡ x.capacity
      → y.closed ≡ x.closed → y.effects ≡ x.effects
      → ((g : Group) (n : ℕ) → IsNumbered (p g) n (drawn_by g x) (line_by g x)
      → IsNumbered (q g) n (drawn_by g y) (line_by g y)) → Tally caps b es q y
  relined q y items capacity closed effects lines = record {
    known = tally.known;
    wide = tally.wide;
    items = tally.items ∙ sym items;
    capacity = tally.capacity ∙ sym capacity;
    closed = tally.closed ∙ sym closed;
    effects = effects ∙ tally.effects;
    lines = λ k. lines (group_of k) (count_of_kind es b k) (tally.lines k);
  }

  pub agreed : (q : Group → Tid → ℕ) → Agree p q x → Tally caps b es q x
  agreed q agree =
      relined q x refl refl refl refl
      (λ g n. renumbered (p g) (q g) n (drawn_by g x) (line_by g x) (agree g))

  -- no effect
  pub stays : (q : Group → Tid → ℕ) → Agree p q x → Steps caps b es None q x
  stays q agree = (λ e none. absurd (cc none), agreed q agree)

  -- a thread entered a line
  pub enters : (q : Side → Tid → ℕ) (side : Side) (u : Tid) → Agree p (by_side q) x
      → q side u ≡ drawn_of side x
      → Tally caps b es (by_side q) (entered side u x)
  enters q Senders u agree drew =
      relined (by_side q) (entered Senders u x) refl refl refl refl lines
    where
      lines : (g : Group) (n : ℕ) → IsNumbered (p g) n (drawn_by g x) (line_by g x)
          → IsNumbered (by_side q g) n (drawn_by g (entered Senders u x))
          (line_by g (entered Senders u x))
      lines Sends n numbered =
          numbered_behind (q Senders) n x.sends u x.send_line drew
          (renumbered (p Sends) (q Senders) n x.sends x.send_line (agree Sends) numbered)
      lines Receives n numbered =
          renumbered (p Receives) (q Receivers) n x.receives x.receive_line (agree Receives)
          numbered
      lines Closes n numbered = numbered
  enters q Receivers u agree drew =
      relined (by_side q) (entered Receivers u x) refl refl refl refl lines
    where
      lines : (g : Group) (n : ℕ) → IsNumbered (p g) n (drawn_by g x) (line_by g x)
          → IsNumbered (by_side q g) n (drawn_by g (entered Receivers u x))
          (line_by g (entered Receivers u x))
      lines Sends n numbered =
          renumbered (p Sends) (q Senders) n x.sends x.send_line (agree Sends) numbered
      lines Receives n numbered =
          numbered_behind (q Receivers) n x.receives u x.receive_line drew
          (renumbered (p Receives) (q Receivers) n x.receives x.receive_line (agree Receives)
          numbered)
      lines Closes n numbered = numbered

  -- an effect on another buffer
  elsewhere : (e : Entry) → (e.buffer.0 == b) ≡ false → Tally caps b (e ∷ es) p x
  elsewhere e other = record {
    known = tally.known;
    wide = length-set (contents_of caps es) e.buffer.0 _ ∙ tally.wide;
    items =
        get_or-set_other (contents_of caps es) e.buffer.0 b _ []
        (λ at. eqb-false e.buffer.0 b other (sym at)) ∙ tally.items;
    capacity = tally.capacity;
    closed = ap (nat_lt 0) (kinds Close) ∙ tally.closed;
    effects = tally.effects ∙ ap (λ n. n % 2 ^ 64) (sym count);
    lines = λ k. rw (kinds k) (tally.lines k);
  }
    where
      count : count_of (e ∷ es) b ≡ count_of es b
      count =
          count_cons e es b ∙ ap (λ (v : Bool). (if v then 1 else 0) + count_of es b) other
          ∙ omega arith

      kinds : (k : Kind) → count_of_kind (e ∷ es) b k ≡ count_of_kind es b k
      kinds k =
          kind_cons e es b k
          ∙ ap (λ (v : Bool). (if v && kind_eq e.kind k then 1 else 0) + count_of_kind es b k) other
          ∙ omega arith

  apart : (effect : Option Entry) → ((e : Entry) → effect ≡ Some e → (e.buffer.0 == b) ≡ false)
      → Tally caps b (option_to_list effect ++ es) p x
  apart None other = tally
  apart (Some e) other = elsewhere e (other e refl)

-- an effect on this buffer
module _ {caps : List ℕ} {es : List Entry} {p : Group → Tid → ℕ} {x y : BufferState} {g : Group}
    {e : Entry} (step : BlockStep g e p x y)
    (tally : Tally caps e.buffer.0 es p x) where
  may_come : MayTakeEffect caps es e
  may_come = record {
    known = tally.known;
    allowed = rw (tally.closed, tally.capacity, tally.items) step.allowed;
    op = step.op ∙ tally.effects;
    pos = step.pos (count_of_kind es e.buffer.0 e.kind)
        (subst (λ h. IsNumbered (p h) (count_of_kind es e.buffer.0 e.kind) (drawn_by h x)
        (line_by h x)) step.counts (tally.lines e.kind));
  }

  -- how many there are with it
  more : (k : Kind) → count_of_kind (e ∷ es) e.buffer.0 k
      ≡ one_on (same_group g (group_of k)) (count_of_kind es e.buffer.0 k)
  more k = kinds_here e es e.buffer.0 k refl
      ∙ ap (λ h. (if same_group h (group_of k) then 1 else 0) + count_of_kind es e.buffer.0 k)
      step.counts
      ∙ swap (same_group g (group_of k)) (count_of_kind es e.buffer.0 k)
    where
      swap : (v : Bool) (n : ℕ) → (if v then 1 else 0) + n ≡ one_on v n
      swap true n = omega arith
      swap false n = omega arith

  tallied : Tally caps e.buffer.0 (e ∷ es) p y
  tallied = record {
    known = tally.known;
    wide = length-set (contents_of caps es) e.buffer.0 _ ∙ tally.wide;
    items =
        get_or-set_same (contents_of caps es) e.buffer.0
        (after_effect e.kind (items_of (contents_of caps es) e.buffer.0) e.value) []
        (omega (arith, inside, wide))
        ∙ ap (λ l. after_effect e.kind l e.value) tally.items ∙ sym step.items;
    capacity = tally.capacity ∙ sym step.capacity;
    closed =
        ap (nat_lt 0) (more Close) ∙ step.closed (count_of_kind es e.buffer.0 Close) tally.closed;
    effects = step.effects ∙ one_more x.effects (count_of es e.buffer.0) tally.effects
        ∙ ap (λ n. n % 2 ^ 64) (sym (counts_here e es e.buffer.0 refl));
    lines =
        λ k. rw (more k) (step.lines (group_of k) (count_of_kind es e.buffer.0 k) (tally.lines k));
  }
    where
      inside : e.buffer.0 < length caps
      inside = tally.known

      wide : length (contents_of caps es) ≡ length caps
      wide = tally.wide

  pub takes : (q : Group → Tid → ℕ) → Agree p q y → Steps caps e.buffer.0 es (Some e) q y
  takes q agree =
      (λ o is. subst (MayTakeEffect caps es) (same_Some e o is) may_come, agreed tallied q agree)

-- After any sections.

abbrev no_items : List Message
no_items = []

module _ {E B : Type 0} (edited : E → B → B) (O : LockId → Option B) (caps : List ℕ)
    (view : B → BufferState)
    (position : BufId → List (Section E) → Group → Tid → ℕ) where
  -- after these sections each buffer accounts for these effects, and each of them may follow those
  -- before it
  abbrev pub Kept : List (Section E) → List Entry → Type 0
  Kept past es =
      ((b : BufId) (x : B) → block_after edited O (Buffer b) past ≡ Some x
      → Tally caps b.0 es (position b past) (view x))
      × IsLawful (MayTakeEffect caps) es

  -- at the start
  pub kept_start : (fresh : ℕ → B)
      → ((b : BufId) → O (Buffer b) ≡ option_map fresh (slice_get caps b.0))
      → ((n : ℕ) → view (fresh n) ≡ empty_block n)
      → Kept [] []
  kept_start fresh opens empty =
      (λ b x at. go b x (slice_get caps b.0) refl (sym (opens b) ∙ at), tt)
    where
      start : (b : BufId) (n : ℕ) → slice_get caps b.0 ≡ Some n
          → Tally caps b.0 [] (position b []) (empty_block n)
      start b n is = record {
        known = slice_get_within caps b.0 n is;
        wide = length-map caps (λ (m : ℕ). no_items);
        items = items_none caps b.0;
        capacity = get_or_from_slice_get caps b.0 n 0 is;
        closed = refl;
        effects = refl;
        lines = lines;
      }
        where
          lines : (k : Kind)
              → IsNumbered (position b [] (group_of k)) (count_of_kind [] b.0 k)
              (drawn_by (group_of k) (empty_block n))
              (line_by (group_of k) (empty_block n))
          lines Send = refl
          lines Recv = refl
          lines Close = refl
          lines SendClosed = refl
          lines RecvClosed = refl

      go : (b : BufId) (x : B) (o : Option ℕ) → slice_get caps b.0 ≡ o → option_map fresh o ≡ Some x
          → Tally caps b.0 [] (position b []) (view x)
      go b x None is at = absurd cc
      go b x (Some n) is at =
          subst (λ y. Tally caps b.0 [] (position b []) y)
          (sym (empty n) ∙ ap view (same_Some (fresh n) x at)) (start b n is)

  -- and one section further
  module _ (es : List Entry) (past : List (Section E)) (kept : Kept past es) (c : CpuId) (d : BufId)
      (a : E) (effect : Option B → Option Entry)
      (none : effect None ≡ None)
      (placed : (o : Option B) (e : Entry) → effect o ≡ Some e → e.buffer ≡ d)
      (same : (b : BufId) → (b.0 == d.0) ≡ false → (g : Group) (t : Tid)
      → position b (section c (Buffer d) a ∷ past) g t ≡ position b past g t)
      (here : (x : B) → block_after edited O (Buffer d) past ≡ Some x
      → Tally caps d.0 es (position d past) (view x)
      → Steps caps d.0 es (effect (Some x)) (position d (section c (Buffer d) a ∷ past))
      (view (edited a x))) where
    abbrev found : Option B
    found = block_after edited O (Buffer d) past

    tells : (b : BufId) (x : B)
        → block_after edited O (Buffer b) (section c (Buffer d) a ∷ past) ≡ Some x
        → Tally caps b.0 (option_to_list (effect found) ++ es)
        (position b (section c (Buffer d) a ∷ past)) (view x)
    tells b x at = go (b.0 == d.0) refl at
      where
        mine : (o : Option B) → found ≡ o → option_map (edited a) o ≡ Some x
            → Tally caps d.0 (option_to_list (effect o) ++ es)
            (position d (section c (Buffer d) a ∷ past)) (view x)
        mine None is at = absurd cc
        mine (Some y) is at =
            subst (λ z. Tally caps d.0 (option_to_list (effect (Some y)) ++ es)
            (position d (section c (Buffer d) a ∷ past)) (view z))
            (same_Some (edited a y) x at) (here y is (kept.0 d y is)).1

        go : (v : Bool) → (b.0 == d.0) ≡ v
            → (if v then option_map (edited a) (block_after edited O (Buffer b) past)
            else block_after edited O (Buffer b) past) ≡ Some x
            → Tally caps b.0 (option_to_list (effect found) ++ es)
            (position b (section c (Buffer d) a ∷ past)) (view x)
        go true is at =
            let one : d ≡ b =
            ap (λ (n : ℕ). let made : BufId = record { 0 = n } in made)
            (sym (eqb-true b.0 d.0 is)) in
            subst (λ (n : BufId). option_map (edited a) (block_after edited O (Buffer n) past)
            ≡ Some x
            → Tally caps n.0 (option_to_list (effect found) ++ es)
            (position n (section c (Buffer d) a ∷ past)) (view x)) one
            (mine found refl) at
        go false other at =
            agreed (apart (kept.0 b x at) (effect found)
            (λ e is. ne_eqb e.buffer.0 b.0
            (λ one. eqb-false b.0 d.0 other
            (sym one ∙ ap (λ (n : BufId). n.0) (placed found e is)))))
            (position b (section c (Buffer d) a ∷ past))
            (λ g. all_along _ (line_by g (view x)) (same b other g))

    pub kept_step : Kept (section c (Buffer d) a ∷ past) (option_to_list (effect found) ++ es)
    kept_step = (tells, lawful found refl)
      where
        added : (o : Option Entry) → ((e : Entry) → o ≡ Some e → MayTakeEffect caps es e)
            → IsLawful (MayTakeEffect caps) (option_to_list o ++ es)
        added None may = kept.1
        added (Some e) may = (may e refl, kept.1)

        lawful : (o : Option B) → found ≡ o
            → IsLawful (MayTakeEffect caps) (option_to_list (effect o) ++ es)
        lawful None is =
            subst (λ o. IsLawful (MayTakeEffect caps) (option_to_list o ++ es)) (sym none) kept.1
        lawful (Some x) is = added (effect (Some x)) (here x is (kept.0 d x is)).0
