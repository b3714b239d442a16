-- The effects of the sections of a log, and how each buffer accounts for those at it: each effect
-- may follow those before it.
use Rattle.std.proofs.Common.{◌≡◌, ℕ, ◌+◌, ◌<◌, ◌%◌, ◌^◌, Bool, true, false, ◌&&◌, ◌||◌, ◌==◌, List, [], ◌∷◌, ◌++◌, length, ◌⊎◌, inl, inr, Option, Some, None}
use Rattle.std.proofs.{Common.{option_map, option_to_list, slice_get, if◌then◌else◌, nat_lt, refl, ap, sym, ◌∙◌, subst, arith, lt-ltb}, lemmas.Bool.eq-eqb}
use Rattle.std.proofs.lemmas.{Bool.{and_parts, eqb-false, eqb-true, ltb-true, ne_eqb}, List.{get_or-set_other, get_or-set_same, length-map, length-set}}
use Rattle.std.{proofs.lemmas.Option.{get_or_from_slice_get, same_Some, slice_get_within}, specs.{Prelude.slice_index, List.AllByRecursion}}
use Rattle.event_log.specs.declared.entries.{Entry.Entry, Kind.{Kind, TheVariants.{Send as SendKind, Recv as RecvKind, Close as CloseKind, SendClosed}}}
use Rattle.event_log.specs.declared.{entries.Kind.TheVariants.RecvClosed, ids.{BufId.BufId, CpuId.CpuId, Tid.Tid, LockId.LockId}}
use Rattle.event_log.specs.{declared.ids.LockId.TheVariants.Buffer as AtBuffer, Buffers.{IsAllowedEffect, after_effect, items_of}, Messages.Message}
use Rattle.event_log.specs.{Messages.no_message, Runs.{count_of, count_of_kind, is_closed, kind_eq}, History.{same_lock, IsLawful}, Sections.Section}
use Rattle.{event_log.proofs.{RunLemmas.{count_cons, kind_cons, items_none}, Same.{buffer_numbered, same_lock_true}}, thread_blocks.specs.Queues.same_tid}
use Rattle.{thread_blocks.{specs.Queues.rest, proofs.Members.{same_tid_self, same_tid_true}}, layer_traits.specs.declared.locked.Side.Side}
use Rattle.layer_traits.specs.{declared.locked.Side.TheVariants.{Receivers, Senders}, Blocks.BufferBlocks.{counted, is_first, items_put, may_join, other_items}}
use Rattle.layer_traits.{specs.{Blocks.BufferEffects.{MayTakeEffect, contents_of, entry}, Threads.Places.count_in}, proofs.CountLemmas.count_append}
use Rattle.{layer_traits.proofs.{CountLemmas.{in_counted, not_counted}, ItemLemmas.{drop_one, one_more}}, cpu.specs.Table.Blocks.{Buffer, Block, OfBuffer}}
use Rattle.cpu.specs.Table.{Blocks.{Name, AcqQ, Enter, TryPut, TryTake, Shut, WaitOn, SigRecv, SigSend, RelQ, Pend, TakeAll}, Setups.SystemConfig}
use Rattle.cpu.specs.Table.{Setups.buffer_at_boot, Edits.{edited, edited_buffer, acquired, lined_up, released, waiting, signal_sent, put, taken, shut_off}}
use Rattle.cpu.{specs.{Table.Edits.{line_on, may_try, front_may_go, drawn_position}, Wakeups.Order.block_of}, proofs.Wakeups.Ordered.same_buffer}
use Rattle.cpu.proofs.Wakeups.Lists.{refuted}

-- Positions.

-- whether a section enters a side's line for this thread
abbrev pub enters_for : Side → Tid → Name → Bool
enters_for Receivers u (Enter t Receivers) = same_tid t u
enters_for Senders u (Enter t Senders) = same_tid t u
enters_for side u name = false

abbrev pub next_position : Side → Option Block → ℕ
next_position side (Some (OfBuffer k)) = drawn_position side k
next_position side o = 0

-- the position that a thread drew last in a side's line of buffer b
abbrev pub drawn : SystemConfig → BufId → List (Section Name) → Side → Tid → ℕ
drawn setup b [] side u = 0
drawn setup b (s ∷ past) side u =
    if same_lock (AtBuffer b) s.lock && enters_for side u s.edit then next_position side (block_of setup (AtBuffer b) past) else drawn setup b past side u

-- Effects.

abbrev pub take_entry : CpuId → Tid → BufId → List Message → ℕ → ℕ → Entry
take_entry c t b [] op pos = entry c t RecvClosed b no_message op pos
take_entry c t b (m ∷ items) op pos = entry c t RecvKind b m op pos

-- the effect of a section on a buffer, if it has one, given the positions of threads
abbrev pub effect_on : CpuId → BufId → Name → (Side → Tid → ℕ) → Buffer → Option Entry
effect_on c b (TryPut t m) position k =
    if may_try Senders t k then Some (entry c t (if k.closed then SendClosed else SendKind) b m k.effects (position Senders t)) else None
effect_on c b (TryTake t) position k = if may_try Receivers t k then Some (take_entry c t b k.items k.effects (position Receivers t)) else None
effect_on c b (Shut t) position k = Some (entry c t CloseKind b no_message k.effects k.closes)
effect_on c b name position k = None

abbrev pub effect_in : CpuId → BufId → Name → (Side → Tid → ℕ) → Option Block → Option Entry
effect_in c b name position (Some (OfBuffer k)) = effect_on c b name position k
effect_in c b name position o = None

abbrev pub effect_at : SystemConfig → CpuId → LockId → Name → List (Section Name) → Option Entry
effect_at setup c (AtBuffer b) name past =
    effect_in c b name (drawn setup b (record { cpu = c; lock = AtBuffer b; edit = name } ∷ past)) (block_of setup (AtBuffer b) past)
effect_at setup c lock name past = None

-- the effects of these sections, newest first
abbrev pub effects : SystemConfig → List (Section Name) → List Entry
effects setup [] = []
effects setup (s ∷ past) = option_to_list (effect_at setup s.cpu s.lock s.edit past) ++ effects setup past

-- an effect is of its section's CPU and buffer
pub effect_placed : (c : CpuId) (b : BufId) (name : Name) (position : Side → Tid → ℕ) (o : Option Block) (e : Entry)
    → effect_in c b name position o ≡ Some e → (e.cpu ≡ c) × (e.buffer ≡ b)
effect_placed c b name position o e is = grind arith

-- Numbers along a line.

-- the threads of a line have drawn the positions n, n + 1 and so on, and the position after them is
-- next, modulo 2^64
abbrev pub IsNumbered : (Tid → ℕ) → ℕ → ℕ → List Tid → Type 0
IsNumbered position n next [] = next ≡ n % 2 ^ 64
IsNumbered position n next (t ∷ line) = (position t ≡ n % 2 ^ 64) × IsNumbered position (n + 1) next line

renumbered : (p q : Tid → ℕ) (n next : ℕ) (line : List Tid) → ((t : Tid) → 0 < count_in t line → q t ≡ p t)
    → IsNumbered p n next line → IsNumbered q n next line
renumbered p q n next [] same numbered = numbered
renumbered p q n next (t ∷ line) same numbered =
    (same t (grind (arith, same_tid_self)) ∙ numbered.0, renumbered p q (n + 1) next line (λ u some. same u (grind (arith, some))) numbered.1)

-- a thread that enters draws the position after the line's last
numbered_behind : (p : Tid → ℕ) (n next : ℕ) (u : Tid) (line : List Tid) → p u ≡ next → IsNumbered p n next line
    → IsNumbered p n (counted next) (line ++ u ∷ [])
numbered_behind p n next u [] drew numbered = (drew ∙ numbered, one_more next n numbered)
numbered_behind p n next u (t ∷ line) drew numbered = (numbered.0, numbered_behind p (n + 1) next u line drew numbered.1)

-- the first of a line has the line's first number, and the others have those after it
first_numbered : (p : Tid → ℕ) (n next : ℕ) (t : Tid) (line : List Tid) → is_first t line ≡ true → IsNumbered p n next line
    → (p t ≡ n % 2 ^ 64) × IsNumbered p (n + 1) next (rest line)
first_numbered p n next t [] leads numbered = absurd cc
first_numbered p n next t (u ∷ line) leads numbered = (ap p (same_tid_true t u leads) ∙ numbered.0, numbered.1)

-- A buffer's account.

-- A buffer accounts for its effects: its items are what they leave, it is closed exactly if one of
-- them closed it, and it counts them. The threads in a line have the positions after those of the
-- effects of their side.
pub record Tally (caps : List ℕ) (b : BufId) (es : List Entry) (position : Side → Tid → ℕ) (k : Buffer) : Type 0 where
  pub known : b.0 < length caps
  pub wide : length (contents_of caps es) ≡ length caps
  pub items : items_of (contents_of caps es) b.0 ≡ k.items
  pub capacity : slice_index caps b.0 ≡ k.capacity
  pub closed : is_closed es b.0 ≡ k.closed
  pub effects : k.effects ≡ count_of es b.0 % 2 ^ 64
  pub closes : k.closes ≡ count_of_kind es b.0 CloseKind % 2 ^ 64
  pub sends : IsNumbered (position Senders) (count_of_kind es b.0 SendKind) k.send_positions k.send_line
  pub receives : IsNumbered (position Receivers) (count_of_kind es b.0 RecvKind) k.receive_positions k.receive_line

module _ {caps : List ℕ} {b : BufId} {es : List Entry} {p : Side → Tid → ℕ} {k : Buffer} (tally : Tally caps b es p k) where
  -- an effect on another buffer
  elsewhere : (e : Entry) → (e.buffer.0 == b.0) ≡ false → Tally caps b (e ∷ es) p k
  elsewhere e other = record {
    known = tally.known;
    wide = length-set (contents_of caps es) e.buffer.0 _ ∙ tally.wide;
    items = get_or-set_other (contents_of caps es) e.buffer.0 b.0 _ [] (λ at. eqb-false e.buffer.0 b.0 other (sym at)) ∙ tally.items;
    capacity = tally.capacity;
    closed = ap (nat_lt 0) (kinds CloseKind) ∙ tally.closed;
    effects = tally.effects ∙ ap (λ n. n % 2 ^ 64) (sym count);
    closes = tally.closes ∙ ap (λ n. n % 2 ^ 64) (sym (kinds CloseKind));
    sends = rw (kinds SendKind) tally.sends;
    receives = rw (kinds RecvKind) tally.receives;
  }
    where
      count : count_of (e ∷ es) b.0 ≡ count_of es b.0
      count = count_cons e es b.0 ∙ ap (λ (v : Bool). (if v then 1 else 0) + count_of es b.0) other ∙ omega arith

      kinds : (kind : Kind) → count_of_kind (e ∷ es) b.0 kind ≡ count_of_kind es b.0 kind
      kinds kind = kind_cons e es b.0 kind ∙ ap (λ (v : Bool). (if v && kind_eq e.kind kind then 1 else 0) + count_of_kind es b.0 kind) other ∙ omega arith

  pub apart : (effect : Option Entry) → ((e : Entry) → effect ≡ Some e → (e.buffer.0 == b.0) ≡ false) → Tally caps b (option_to_list effect ++ es) p k
  apart None other = tally
  apart (Some e) other = elsewhere e (other e refl)

  -- the positions of threads that are not in a line do not matter
  pub repositioned : (q : Side → Tid → ℕ) → ((side : Side) (t : Tid) → 0 < count_in t (line_on side k) → q side t ≡ p side t) → Tally caps b es q k
  repositioned q same = record {
    known = tally.known;
    wide = tally.wide;
    items = tally.items;
    capacity = tally.capacity;
    closed = tally.closed;
    effects = tally.effects;
    closes = tally.closes;
    sends = renumbered (p Senders) (q Senders) _ _ k.send_line (same Senders) tally.sends;
    receives = renumbered (p Receivers) (q Receivers) _ _ k.receive_line (same Receivers) tally.receives;
  }

  -- a thread entered a line
  pub enters : (side : Side) (u : Tid) → p side u ≡ drawn_position side k → Tally caps b es p (lined_up u side k)
  enters Senders u drew = record {
    known = tally.known;
    wide = tally.wide;
    items = tally.items;
    capacity = tally.capacity;
    closed = tally.closed;
    effects = tally.effects;
    closes = tally.closes;
    sends = numbered_behind (p Senders) _ k.send_positions u k.send_line drew tally.sends;
    receives = tally.receives;
  }
  enters Receivers u drew = record {
    known = tally.known;
    wide = tally.wide;
    items = tally.items;
    capacity = tally.capacity;
    closed = tally.closed;
    effects = tally.effects;
    closes = tally.closes;
    sends = tally.sends;
    receives = numbered_behind (p Receivers) _ k.receive_positions u k.receive_line drew tally.receives;
  }

-- a buffer whose items, lines and counters are the same
pub repositioned_as : {caps : List ℕ} {b : BufId} {es : List Entry} {p : Side → Tid → ℕ} {k : Buffer} {busy : Option Tid} {asleep receivers senders : List Tid}
    → Tally caps b es p k → Tally caps b es p (record k { busy = busy; sleepers = asleep; waiting_receivers = receivers; waiting_senders = senders })
repositioned_as tally = record {
  known = tally.known;
  wide = tally.wide;
  items = tally.items;
  capacity = tally.capacity;
  closed = tally.closed;
  effects = tally.effects;
  closes = tally.closes;
  sends = tally.sends;
  receives = tally.receives;
}

-- the parts of a buffer's account that an effect at it changes
module _ {caps : List ℕ} {b : BufId} {es : List Entry} {p : Side → Tid → ℕ} {k : Buffer} (tally : Tally caps b es p k) (e : Entry) (here : e.buffer ≡ b) where
  same_number : (e.buffer.0 == b.0) ≡ true
  same_number = grind (arith, here, eq-eqb)

  count_here : count_of (e ∷ es) b.0 ≡ count_of es b.0 + 1
  count_here = count_cons e es b.0 ∙ ap (λ (v : Bool). (if v then 1 else 0) + count_of es b.0) same_number ∙ omega arith

  kinds_here : (kind : Kind) → count_of_kind (e ∷ es) b.0 kind ≡ (if kind_eq e.kind kind then 1 else 0) + count_of_kind es b.0 kind
  kinds_here kind = kind_cons e es b.0 kind ∙ ap (λ (v : Bool). (if v && kind_eq e.kind kind then 1 else 0) + count_of_kind es b.0 kind) same_number

  items_here : items_of (contents_of caps (e ∷ es)) b.0 ≡ after_effect e.kind k.items e.value
  items_here =
      let known : b.0 < length (contents_of caps es) = omega (arith, tally.known, tally.wide) in
      subst (λ (d : BufId). items_of (contents_of caps (record e { buffer = d } ∷ es)) b.0 ≡ after_effect e.kind k.items e.value) (sym here)
      (get_or-set_same (contents_of caps es) b.0 (after_effect e.kind (items_of (contents_of caps es) b.0) e.value) [] known
      ∙ ap (λ l. after_effect e.kind l e.value) tally.items)

  wide_here : length (contents_of caps (e ∷ es)) ≡ length caps
  wide_here = length-set (contents_of caps es) e.buffer.0 _ ∙ tally.wide

  -- it may follow those before it
  may_come : IsAllowedEffect e.kind k.closed k.capacity k.items e.value → e.op ≡ k.effects → e.pos ≡ count_of_kind es b.0 e.kind % 2 ^ 64
      → MayTakeEffect caps es e
  may_come allowed op pos = subst (λ (d : BufId). MayTakeEffect caps es (record e { buffer = d })) (sym here) (record {
    known = tally.known;
    allowed = rw (tally.closed, tally.capacity, tally.items) allowed;
    op = op ∙ tally.effects;
    pos = pos;
  })

-- an effect may occur, if there is one, and the buffer accounts for the effects with it
pub record Steps (caps : List ℕ) (b : BufId) (es : List Entry) (effect : Option Entry) (p : Side → Tid → ℕ) (k : Buffer) : Type 0 where
  pub may : (e : Entry) → effect ≡ Some e → MayTakeEffect caps es e
  pub tally : Tally caps b (option_to_list effect ++ es) p k

send_kind : Bool → Kind
send_kind closed = if closed then SendClosed else SendKind

put_allowed : (closed : Bool) (capacity : ℕ) (items : List Message) (m : Message) → (closed || nat_lt (length items) capacity) ≡ true
    → IsAllowedEffect (if closed then SendClosed else SendKind) closed capacity items m
put_allowed true capacity items m may = refl
put_allowed false capacity items m may = (refl, ltb-true (length items) capacity may)

put_items : (closed : Bool) (items : List Message) (m : Message) → after_effect (if closed then SendClosed else SendKind) items m ≡ items_put closed m items
put_items true items m = refl
put_items false items m = refl

module _ {caps : List ℕ} {b : BufId} {es : List Entry} {p : Side → Tid → ℕ} {k : Buffer} (tally : Tally caps b es p k) (c : CpuId) (t : Tid) where
  none_takes : (y : Buffer) → Tally caps b es p y → Steps caps b es None p y
  none_takes y now = record { may = λ e none. absurd (cc none); tally = now }

  put_step : (m : Message) → may_try Senders t k ≡ true → Steps caps b es (effect_on c b (TryPut t m) p k) p (edited_buffer (TryPut t m) k)
  put_step m turn = by_closed k.closed refl
    where
      leads : is_first t k.send_line ≡ true
      leads = (and_parts (is_first t k.send_line) (front_may_go Senders k) turn).0

      numbers : (p Senders t ≡ count_of_kind es b.0 SendKind % 2 ^ 64)
          × IsNumbered (p Senders) (count_of_kind es b.0 SendKind + 1) k.send_positions (rest k.send_line)
      numbers = first_numbered (p Senders) (count_of_kind es b.0 SendKind) k.send_positions t k.send_line leads tally.sends

      allowed : (k.closed || nat_lt (length k.items) k.capacity) ≡ true
      allowed = (and_parts (is_first t k.send_line) (front_may_go Senders k) turn).1

      by_closed : (closed : Bool) → k.closed ≡ closed → Steps caps b es (effect_on c b (TryPut t m) p k) p (edited_buffer (TryPut t m) k)
      by_closed closed is =
          let e : Entry = entry c t (if k.closed then SendClosed else SendKind) b m k.effects (p Senders t) in
          let now : Tally caps b (e ∷ es) p (put m k) = record {
            known = tally.known;
            wide = wide_here tally e refl;
            items = items_here tally e refl ∙ put_items k.closed k.items m;
            capacity = tally.capacity;
            closed = grind (arith, is, kinds_here tally e refl CloseKind, tally.closed);
            effects = one_more k.effects (count_of es b.0) tally.effects ∙ ap (λ n. n % 2 ^ 64) (sym (count_here tally e refl));
            closes = grind (arith, is, kinds_here tally e refl CloseKind, tally.closes);
            sends = subst (λ n. IsNumbered (p Senders) n k.send_positions (rest k.send_line)) (grind (arith, is, kinds_here tally e refl SendKind)) numbers.1;
            receives =
                subst (λ n. IsNumbered (p Receivers) n k.receive_positions k.receive_line) (grind (arith, is, kinds_here tally e refl RecvKind)) tally.receives;
          } in
          let may : MayTakeEffect caps es e = may_come tally e refl (put_allowed k.closed k.capacity k.items m allowed) refl (numbers.0 ∙ grind (arith, is)) in
          rw turn (record { may = λ f same. subst (MayTakeEffect caps es) (same_Some e f same) may; tally = now })

  take_step : may_try Receivers t k ≡ true → Steps caps b es (effect_on c b (TryTake t) p k) p (edited_buffer (TryTake t) k)
  take_step turn = rw turn (by_items k.items refl)
    where
      both : (is_first t k.receive_line ≡ true) × ((k.closed || nat_lt 0 (length k.items)) ≡ true)
      both = and_parts (is_first t k.receive_line) (front_may_go Receivers k) turn

      numbers : (p Receivers t ≡ count_of_kind es b.0 RecvKind % 2 ^ 64)
          × IsNumbered (p Receivers) (count_of_kind es b.0 RecvKind + 1) k.receive_positions (rest k.receive_line)
      numbers = first_numbered (p Receivers) (count_of_kind es b.0 RecvKind) k.receive_positions t k.receive_line both.0 tally.receives

      with_entry : (e : Entry) → e.buffer ≡ b → e.op ≡ k.effects → e.pos ≡ p Receivers t → e.kind ≡ RecvKind ⊎ e.kind ≡ RecvClosed
          → IsAllowedEffect e.kind k.closed k.capacity k.items e.value → after_effect e.kind k.items e.value ≡ other_items k.items
          → Steps caps b es (Some e) p (taken k)
      with_entry e here op pos kind allowed leaves =
          let now : Tally caps b (e ∷ es) p (taken k) = record {
            known = tally.known;
            wide = wide_here tally e here;
            items = items_here tally e here ∙ leaves;
            capacity = tally.capacity;
            closed = grind (arith, kind, kinds_here tally e here CloseKind, tally.closed);
            effects = one_more k.effects (count_of es b.0) tally.effects ∙ ap (λ n. n % 2 ^ 64) (sym (count_here tally e here));
            closes = grind (arith, kind, kinds_here tally e here CloseKind, tally.closes);
            sends = subst (λ n. IsNumbered (p Senders) n k.send_positions k.send_line) (grind (arith, kind, kinds_here tally e here SendKind)) tally.sends;
            receives =
                subst (λ n. IsNumbered (p Receivers) n k.receive_positions (rest k.receive_line)) (grind (arith, kind, kinds_here tally e here RecvKind))
                numbers.1;
          } in
          let may : MayTakeEffect caps es e = may_come tally e here allowed op (pos ∙ numbers.0 ∙ grind (arith, kind)) in
          record { may = λ f same. subst (MayTakeEffect caps es) (same_Some e f same) may; tally = now }

      by_items : (items : List Message) → k.items ≡ items → Steps caps b es (Some (take_entry c t b items k.effects (p Receivers t))) p (taken k)
      by_items [] is =
          with_entry (entry c t RecvClosed b no_message k.effects (p Receivers t)) refl refl refl (inr refl) (grind (arith, is, both), is, refl)
          (is ∙ sym (ap other_items is))
      by_items (m ∷ items) is =
          with_entry (entry c t RecvKind b m k.effects (p Receivers t)) refl refl refl (inl refl) (ap (λ l. slice_get l 0) is) (drop_one k.items)

  shut_step : Steps caps b es (effect_on c b (Shut t) p k) p (shut_off k)
  shut_step =
      let e : Entry = entry c t CloseKind b no_message k.effects k.closes in
      let now : Tally caps b (e ∷ es) p (shut_off k) = record {
        known = tally.known;
        wide = wide_here tally e refl;
        items = items_here tally e refl;
        capacity = tally.capacity;
        closed = ap (nat_lt 0) (kinds_here tally e refl CloseKind) ∙ lt-ltb 0 (1 + count_of_kind es b.0 CloseKind) (omega arith);
        effects = one_more k.effects (count_of es b.0) tally.effects ∙ ap (λ n. n % 2 ^ 64) (sym (count_here tally e refl));
        closes = one_more k.closes (count_of_kind es b.0 CloseKind) tally.closes ∙ ap (λ n. n % 2 ^ 64) (sym (kinds_here tally e refl CloseKind ∙ omega arith));
        sends = subst (λ n. IsNumbered (p Senders) n k.send_positions k.send_line) (grind (arith, kinds_here tally e refl SendKind)) tally.sends;
        receives = subst (λ n. IsNumbered (p Receivers) n k.receive_positions k.receive_line) (grind (arith, kinds_here tally e refl RecvKind)) tally.receives;
      } in
      record { may = λ f same. subst (MayTakeEffect caps es) (same_Some e f same) (may_come tally e refl refl refl tally.closes); tally = now }

-- any section: a thread that enters a line may enter it, and draws the position
pub section_step : {caps : List ℕ} {b : BufId} {es : List Entry} {p : Side → Tid → ℕ} {k : Buffer} (tally : Tally caps b es p k) (c : CpuId) (name : Name)
    → ((u : Tid) (at : Side) → name ≡ Enter u at → (may_join u (line_on at k) ≡ true) × (p at u ≡ drawn_position at k))
    → Steps caps b es (effect_on c b name p k) p (edited_buffer name k)
section_step {caps = caps} {b = b} {es = es} {p = p} {k = k} tally c (AcqQ u) may = by_owner k.busy
  where
    by_owner : (o : Option Tid) → Steps caps b es None p (acquired u o k)
    by_owner None = none_takes tally c u (acquired u None k) (repositioned_as tally)
    by_owner (Some owner) = none_takes tally c u (acquired u (Some owner) k) (repositioned_as tally)
section_step {caps = caps} {b = b} {es = es} {p = p} {k = k} tally c (Enter u at) may =
    let joins = may u at refl in rw joins.0 (none_takes tally c u (lined_up u at k) (enters tally at u joins.1))
section_step {caps = caps} {b = b} {es = es} {p = p} {k = k} tally c (TryPut u m) may = by_turn (may_try Senders u k) refl
  where
    by_turn : (turn : Bool) → may_try Senders u k ≡ turn → Steps caps b es (effect_on c b (TryPut u m) p k) p (edited_buffer (TryPut u m) k)
    by_turn true is = put_step tally c u m is
    by_turn false is = rw is (none_takes tally c u k tally)
section_step {caps = caps} {b = b} {es = es} {p = p} {k = k} tally c (TryTake u) may = by_turn (may_try Receivers u k) refl
  where
    by_turn : (turn : Bool) → may_try Receivers u k ≡ turn → Steps caps b es (effect_on c b (TryTake u) p k) p (edited_buffer (TryTake u) k)
    by_turn true is = take_step tally c u is
    by_turn false is = rw is (none_takes tally c u k tally)
section_step tally c (Shut u) may = shut_step tally c u
section_step {caps = caps} {b = b} {es = es} {p = p} {k = k} tally c (WaitOn u Senders) may =
    none_takes tally c u (released (waiting u Senders k)) (repositioned_as tally)
section_step {caps = caps} {b = b} {es = es} {p = p} {k = k} tally c (WaitOn u Receivers) may =
    none_takes tally c u (released (waiting u Receivers k)) (repositioned_as tally)
section_step {caps = caps} {b = b} {es = es} {p = p} {k = k} tally c (SigRecv u) may = none_takes tally c u (signal_sent Receivers k) (repositioned_as tally)
section_step {caps = caps} {b = b} {es = es} {p = p} {k = k} tally c (SigSend u) may = none_takes tally c u (signal_sent Senders k) (repositioned_as tally)
section_step {caps = caps} {b = b} {es = es} {p = p} {k = k} tally c (RelQ u) may = none_takes tally c u (released k) (repositioned_as tally)
section_step {caps = caps} {b = b} {es = es} {p = p} {k = k} tally c (Pend u) may = none_takes tally c u k tally
section_step {caps = caps} {b = b} {es = es} {p = p} {k = k} tally c TakeAll may = none_takes tally c (record { 0 = 0 }) k tally
