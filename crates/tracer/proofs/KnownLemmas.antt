-- What the judge knows of the buffers is what the earlier entries and the contents say.
use Rattle.std.proofs.Common.{◌≡◌, ◌≢◌, ℕ, zero, suc, ◌+◌, ◌<◌, ◌==◌, Bool, true, false, cond, List, [], ◌∷◌, ◌++◌, length, get_or, set, map, Some, Ok}
use Rattle.std.proofs.{Common.{refl, sym, ap, ◌∙◌, eq-eqb, ne_eqb, eqb-true, add-zero, inl, inr, arith}, lemmas.{Bool.cases_eq, Slice.Eq.bytes_eq-Decides}}
use Rattle.std.proofs.lemmas.{List.{get_or-set_same, get_or-set_other, length-set, nil_from_length, same_lists}, Option.{slice_get-get_or, slice_get_within}}
use Rattle.{std.specs.Prelude.{slice_get, slice_set}, event_log.specs.{Messages.Message, declared.entries.Kind.{Kind, TheVariants.{Send, Recv, Close}}}}
use Rattle.event_log.specs.{declared.entries.Entry.Entry, Buffers.{items_of, empty_buffers, IsAllowedEffect, after_effect}, Runs.{kind_eq, group_of, count_of}}
use Rattle.event_log.{specs.{Runs.{count_of_kind, IsNext, after_entry}, Reading.{◌>>=◌}}, proofs.RunLemmas.{count_more, count_kind_more, items_none}}
use Rattle.tracer.specs.{TraceText.IsValueOf, declared.verdicts.Reason.TheVariants.{Op, Pos}, Judging.{Seen, fresh, or_reason, or_range, was_closed, next_pos}}
use Rattle.tracer.{specs.Judging.{bumped, seen_behind, item_effect, entry_on, entry_among}, proofs.ReadLemmas.{or_range_taken, bind_ok, wanted_ok}}
use Rattle.tracer.proofs.ReadLemmas.{same_ok}

-- what is known of buffer b, after the earlier entries
abbrev pub seen_of : List Entry → List (List Message) → ℕ → ℕ → Seen
seen_of earlier contents b capacity = record {
  capacity = capacity;
  items = items_of contents b;
  ops = count_of earlier b;
  sends = count_of_kind earlier b Send;
  recvs = count_of_kind earlier b Recv;
  closes = count_of_kind earlier b Close;
}

-- what is known of the buffers from b on
abbrev pub known_from : List Entry → List (List Message) → ℕ → List ℕ → List Seen
known_from earlier contents b [] = []
known_from earlier contents b (k ∷ ks) = seen_of earlier contents b k ∷ known_from earlier contents (b + 1) ks

pub length-known_from : (earlier : List Entry) (contents : List (List Message)) (b : ℕ) (caps : List ℕ)
    → length (known_from earlier contents b caps) ≡ length caps
length-known_from earlier contents b [] = refl
length-known_from earlier contents b (k ∷ ks) = ap suc (length-known_from earlier contents (b + 1) ks)

get_or-known_from : (earlier : List Entry) (contents : List (List Message)) (b : ℕ) (caps : List ℕ) (i : ℕ) (d : Seen) → i < length caps
    → get_or (known_from earlier contents b caps) i d ≡ seen_of earlier contents (b + i) (get_or caps i 0)
get_or-known_from earlier contents b [] i d lt = absurd (omega arith)
get_or-known_from earlier contents b (k ∷ ks) zero d lt = rw (add-zero b) refl
get_or-known_from earlier contents b (k ∷ ks) (suc i) d lt =
    let shift : b + 1 + i ≡ b + suc i = omega arith in
    get_or-known_from earlier contents (b + 1) ks i d (omega arith) ∙ ap (λ (j : ℕ). seen_of earlier contents j (get_or ks i 0)) shift

get_or-known : (earlier : List Entry) (contents : List (List Message)) (caps : List ℕ) (i : ℕ) (d : Seen) → i < length caps
    → get_or (known_from earlier contents 0 caps) i d ≡ seen_of earlier contents i (get_or caps i 0)
get_or-known earlier contents caps i d lt =
    let none : 0 + i ≡ i = omega arith in
    get_or-known_from earlier contents 0 caps i d lt ∙ ap (λ (j : ℕ). seen_of earlier contents j (get_or caps i 0)) none

pub slice_get-known : (earlier : List Entry) (contents : List (List Message)) (caps : List ℕ) (i : ℕ) → i < length caps
    → slice_get (known_from earlier contents 0 caps) i ≡ Some (seen_of earlier contents i (get_or caps i 0))
slice_get-known earlier contents caps i lt =
    let inside : i < length (known_from earlier contents 0 caps) = omega (arith, length-known_from earlier contents 0 caps) in
    slice_get-get_or (known_from earlier contents 0 caps) i (fresh 0) inside ∙ ap Some (get_or-known earlier contents caps i (fresh 0) lt)

-- ---- the numbers after one more entry

bumped_by : (counts : Bool) (n : ℕ) → n + cond counts 1 0 ≡ bumped counts n
bumped_by counts n = grind arith

-- a buffer after an effect on it
abbrev after_seen : Kind → Message → Seen → Seen
after_seen kind value history = seen_behind (group_of kind) (after_effect kind history.items value) history

seen_here : (earlier : List Entry) (contents : List (List Message)) (e : Entry) (capacity : ℕ) → e.buffer.0 < length contents
    → seen_of (earlier ++ e ∷ []) (after_entry contents e) e.buffer.0 capacity ≡ after_seen e.kind e.value (seen_of earlier contents e.buffer.0 capacity)
seen_here earlier contents e capacity lt =
    let same : (e.buffer.0 == e.buffer.0) ≡ true = eq-eqb e.buffer.0 e.buffer.0 refl in
    let items : items_of (after_entry contents e) e.buffer.0 ≡ after_effect e.kind (items_of contents e.buffer.0) e.value =
    get_or-set_same contents e.buffer.0 (after_effect e.kind (items_of contents e.buffer.0) e.value) [] lt in
    let ops : count_of (earlier ++ e ∷ []) e.buffer.0 ≡ count_of earlier e.buffer.0 + 1 = count_more earlier e e.buffer.0 ∙ rw same refl in
    let of_kind : (kind : Kind) → count_of_kind (earlier ++ e ∷ []) e.buffer.0 kind ≡ bumped (kind_eq e.kind kind) (count_of_kind earlier e.buffer.0 kind) =
    λ kind. count_kind_more earlier e e.buffer.0 kind ∙ rw same (bumped_by (kind_eq e.kind kind) (count_of_kind earlier e.buffer.0 kind)) in
    rw (items, ops, of_kind Send, of_kind Recv, of_kind Close) refl

seen_elsewhere : (earlier : List Entry) (contents : List (List Message)) (e : Entry) (b capacity : ℕ) → b ≢ e.buffer.0
    → seen_of (earlier ++ e ∷ []) (after_entry contents e) b capacity ≡ seen_of earlier contents b capacity
seen_elsewhere earlier contents e b capacity other =
    let apart : (e.buffer.0 == b) ≡ false = ne_eqb e.buffer.0 b (λ h. other (sym h)) in
    let items : items_of (after_entry contents e) b ≡ items_of contents b =
    get_or-set_other contents e.buffer.0 b (after_effect e.kind (items_of contents e.buffer.0) e.value) [] other in
    let ops : count_of (earlier ++ e ∷ []) b ≡ count_of earlier b = count_more earlier e b ∙ rw (apart, add-zero (count_of earlier b)) refl in
    let of_kind : (kind : Kind) → count_of_kind (earlier ++ e ∷ []) b kind ≡ count_of_kind earlier b kind = λ kind. count_kind_more earlier e b kind
    ∙ rw (apart, add-zero (count_of_kind earlier b kind)) refl in
    rw (items, ops, of_kind Send, of_kind Recv, of_kind Close) refl

-- the buffers after an entry
known_after : (caps : List ℕ) (earlier : List Entry) (contents : List (List Message)) (e : Entry) → length contents ≡ length caps → e.buffer.0 < length caps
    → slice_set (known_from earlier contents 0 caps) e.buffer.0 (after_seen e.kind e.value (seen_of earlier contents e.buffer.0 (get_or caps e.buffer.0 0)))
    ≡ known_from (earlier ++ e ∷ []) (after_entry contents e) 0 caps
known_after caps earlier contents e long known =
    let old = known_from earlier contents 0 caps in
    let new = known_from (earlier ++ e ∷ []) (after_entry contents e) 0 caps in
    let here = after_seen e.kind e.value (seen_of earlier contents e.buffer.0 (get_or caps e.buffer.0 0)) in
    let old_long : length old ≡ length caps = length-known_from earlier contents 0 caps in
    let new_long : length new ≡ length caps = length-known_from (earlier ++ e ∷ []) (after_entry contents e) 0 caps in
    let set_long : length (set old e.buffer.0 here) ≡ length caps = length-set old e.buffer.0 here ∙ old_long in
    let each : (k : ℕ) (d : Seen) → k < length (set old e.buffer.0 here) → get_or (set old e.buffer.0 here) k d ≡ get_or new k d = λ k d inside.
    let within : k < length caps = omega arith in
    elim (cases_eq k e.buffer.0) [
      | inl same ↦ rw same (get_or-set_same old e.buffer.0 here d (omega arith)
          ∙ sym (get_or-known (earlier ++ e ∷ []) (after_entry contents e) caps e.buffer.0 d known
          ∙ seen_here earlier contents e (get_or caps e.buffer.0 0) (omega arith)))
      | inr other ↦ get_or-set_other old e.buffer.0 k here d other ∙ get_or-known earlier contents caps k d within
          ∙ sym (get_or-known (earlier ++ e ∷ []) (after_entry contents e) caps k d within ∙ seen_elsewhere earlier contents e k (get_or caps k 0) other)
    ] in
    same_lists (set old e.buffer.0 here) new (set_long ∙ sym new_long) each

-- ---- an effect

effect_again : (kind : Kind) (value : Message) (closed : Bool) (capacity : ℕ) (items : List Message) → IsAllowedEffect kind closed capacity items value
    → item_effect kind value closed capacity items ≡ Ok (after_effect kind items value)
effect_again kind value closed capacity items may = grind (arith, bytes_eq-Decides)

effect_taken : (kind : Kind) (value : Message) (closed : Bool) (capacity : ℕ) (items after : List Message) → IsValueOf kind value
    → item_effect kind value closed capacity items ≡ Ok after → IsAllowedEffect kind closed capacity items value × (after ≡ after_effect kind items value)
effect_taken kind value closed capacity items after none e = grind (arith, bytes_eq-Decides, nil_from_length)

pos_of : (earlier : List Entry) (contents : List (List Message)) (b capacity : ℕ) (kind : Kind)
    → next_pos (group_of kind) (seen_of earlier contents b capacity) ≡ count_of_kind earlier b kind
pos_of earlier contents b capacity Send = refl
pos_of earlier contents b capacity other = refl

-- an entry that may be next is accepted
pub among_again : (caps : List ℕ) (earlier : List Entry) (contents : List (List Message)) (e : Entry) → length contents ≡ length caps
    → IsNext caps earlier contents e → entry_among e (known_from earlier contents 0 caps) ≡ Ok (known_from (earlier ++ e ∷ []) (after_entry contents e) 0 caps)
unfolding entry_among entry_on
among_again caps earlier contents e long next =
    let history = seen_of earlier contents e.buffer.0 (get_or caps e.buffer.0 0) in
    let op : (e.op == history.ops) ≡ true = eq-eqb e.op history.ops next.op in
    let pos : (e.pos == next_pos (group_of e.kind) history) ≡ true =
    eq-eqb e.pos (next_pos (group_of e.kind) history) (next.pos ∙ sym (pos_of earlier contents e.buffer.0 (get_or caps e.buffer.0 0) e.kind)) in
    let effect = effect_again e.kind e.value (was_closed history) history.capacity history.items next.allowed in
    rw (slice_get-known earlier contents caps e.buffer.0 next.known, op, pos, effect) (ap Ok (known_after caps earlier contents e long next.known))

pub same_some : (x y : Seen) → Some x ≡ Some y → x ≡ y
same_some x y e = cc

-- an entry that is accepted may be next
pub among_taken : (caps : List ℕ) (earlier : List Entry) (contents : List (List Message)) (e : Entry) (after : List Seen) → length contents ≡ length caps
    → IsValueOf e.kind e.value → entry_among e (known_from earlier contents 0 caps) ≡ Ok after → IsNext caps earlier contents e
    × (after ≡ known_from (earlier ++ e ∷ []) (after_entry contents e) 0 caps)
unfolding entry_among entry_on
among_taken caps earlier contents e after long none taken =
    let found = bind_ok (or_range (slice_get (known_from earlier contents 0 caps) e.buffer.0)) _ after taken in
    let at = or_range_taken (slice_get (known_from earlier contents 0 caps) e.buffer.0) found.0 found.1 in
    let inside : e.buffer.0 < length caps =
    omega (arith, slice_get_within (known_from earlier contents 0 caps) e.buffer.0 found.0 at, length-known_from earlier contents 0 caps) in
    let history = seen_of earlier contents e.buffer.0 (get_or caps e.buffer.0 0) in
    let same : found.0 ≡ history = same_some found.0 history (sym at ∙ slice_get-known earlier contents caps e.buffer.0 inside) in
    let stepped = bind_ok (entry_on e found.0) _ after found.2 in
    let read : entry_on e history ≡ Ok stepped.0 = ap (entry_on e) (sym same) ∙ stepped.1 in
    let group = group_of e.kind in
    let effects = item_effect e.kind e.value (was_closed history) history.capacity history.items in
    let done = effects >>= λ items. Ok (seen_behind group items history) in
    let op = wanted_ok (e.op == history.ops) Op (or_reason (e.pos == next_pos group history) Pos done) stepped.0 read in
    let pos = wanted_ok (e.pos == next_pos group history) Pos done stepped.0 op.1 in
    let items = bind_ok effects _ stepped.0 pos.1 in
    let effect = effect_taken e.kind e.value (was_closed history) history.capacity history.items items.0 none items.1 in
    let now : stepped.0 ≡ after_seen e.kind e.value history = sym (same_ok (seen_behind group items.0 history) stepped.0 items.2)
    ∙ ap (λ (l : List Message). seen_behind group l history) effect.1 in (
      record {
        known = inside;
        allowed = effect.0;
        op = eqb-true e.op history.ops op.0;
        pos = eqb-true e.pos (next_pos group history) pos.0 ∙ pos_of earlier contents e.buffer.0 (get_or caps e.buffer.0 0) e.kind;
      },
      sym (same_ok _ after stepped.2) ∙ ap (λ (next : Seen). slice_set (known_from earlier contents 0 caps) e.buffer.0 next) now
          ∙ known_after caps earlier contents e long inside,
    )

-- before the first entry
pub known_fresh_from : (b : ℕ) (all caps : List ℕ) → known_from [] (empty_buffers all) b caps ≡ map fresh caps
known_fresh_from b all [] = refl
known_fresh_from b all (k ∷ ks) = rw (items_none all b, known_fresh_from (b + 1) all ks) refl
