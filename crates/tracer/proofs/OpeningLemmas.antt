-- The lines before the entries, and the last line: each is accepted at its place, and what is
-- accepted is spelled so.
use Rattle.std.proofs.{Common.{◌≡◌, ℕ, ◌+◌, ◌<◌, ◌≤◌, ◌^◌, true, cond, List, [], ◌∷◌, ◌++◌, length, map, Ok, refl, lt-ltb, arith}, lemmas.List.length-map}
use Rattle.std.{proofs.lemmas.{List.map_push, Slice.Eq.bytes_eq-Decides}, specs.{Prelude.{decimal, codes, nat_lt}, List.join_with_byte}}
use Rattle.event_log.{specs.{Buffers.IsCapacity, declared.ids.TheConstants.{BUFFERS, CAPACITY}}, proofs.DigitsLemmas.number_to-decimal}
use Rattle.tracer.specs.{declared.{next_lines.NextLine.NextLine, versions.Version.{Version, TheVariants.One}}, Versions.covers, TraceText.head_pieces}
use Rattle.tracer.specs.{TraceText.{cap_pieces, count_pieces}, Judging.{TextProgress, fresh, in_range, count_digits, count_line, capacity_digits}}
use Rattle.tracer.{specs.Judging.{capacity_line, version_in, head_line, end_line, step}, proofs.SplitLemmas.{IsLine, decimal_lacks, pieces_again}}
use Rattle.tracer.proofs.ReadLemmas.{bind_ok, wanted_ok, same_ok, piece_taken, word_taken, digits_taken, ended_taken, IsInRange, in_range_taken, is_value_taken}
use Rattle.tracer.proofs.ReadLemmas.{decimal_is_number, is_value_again}
use Rattle.tracer.specs.declared.next_lines.NextLine.TheVariants as wants

-- ---- the head and the last line

version_taken : (line : List ℕ) (v : Version) → version_in line ≡ Ok v → line ≡ join_with_byte 32 (head_pieces v)
version_taken line v e = grind (arith, bytes_eq-Decides)

-- a head that is taken names its version
pub head_taken : (line : List ℕ) (s after : TextProgress) → head_line line s ≡ Ok after
    → (v : Version) × (line ≡ join_with_byte 32 (head_pieces v)) × (after ≡ record s { at = wants.Count; version = v })
unfolding head_line
head_taken line s after taken = grind (arith, version_taken)

pub step_head : (v : Version) (s : TextProgress) → s.at ≡ wants.Head
    → step s (join_with_byte 32 (head_pieces v)) ≡ Ok (record s { at = wants.Count; version = v })
unfolding step head_line
step_head v s at = grind arith

-- the last line is taken where no lower version can spell the text
pub end_taken : (line : List ℕ) (s after : TextProgress) → end_line line s ≡ Ok after
    → (line ≡ codes "end") × (covers s.lowest s.version ≡ true) × (after ≡ record s { at = wants.Done })
unfolding end_line
end_taken line s after taken = grind (arith, wanted_ok, bytes_eq-Decides, same_ok)

pub step_end : (s : TextProgress) → s.at ≡ wants.End → covers s.lowest s.version ≡ true → step s (codes "end") ≡ Ok (record s { at = wants.Done })
unfolding step end_line
step_end s at low = rw (at, low) refl

-- ---- the number of buffers

count_digits_again : (n : ℕ) → n < 2 ^ 64 → count_digits (count_pieces n) ≡ Ok (decimal n)
unfolding count_digits
count_digits_again n small = rw (decimal_is_number n small) refl

pub count_line_again : (n : ℕ) (s : TextProgress) → 1 ≤ n → n ≤ BUFFERS
    → count_line (count_pieces n) s ≡ Ok (record s { at = wants.Capacities n; buffers = [] })
unfolding count_line
count_line_again n s some few = rw (count_digits_again n (omega arith), number_to-decimal BUFFERS n (omega arith) few, lt-ltb 0 n (omega arith)) refl

count_digits_taken : (ps : List (List ℕ)) (digits : List ℕ) → count_digits ps ≡ Ok digits → ps ≡ codes "buffers" ∷ digits ∷ []
unfolding count_digits
count_digits_taken ps digits taken = grind (arith, word_taken, digits_taken, ended_taken)

-- what it says that the number of buffers was taken
pub record CountTaken (ps : List (List ℕ)) (s after : TextProgress) (n : ℕ) : Type 0 where
  pub spelled : ps ≡ count_pieces n
  pub some : 1 ≤ n
  pub few : n ≤ BUFFERS
  pub is : after ≡ record s { at = wants.Capacities n; buffers = [] }

pub count_line_taken : (ps : List (List ℕ)) (s after : TextProgress) → count_line ps s ≡ Ok after → (n : ℕ) × CountTaken ps s after n
unfolding count_line
count_line_taken ps s after taken =
    let digits = bind_ok (count_digits ps) _ after taken in
    let count = bind_ok (in_range BUFFERS digits.0) _ after digits.2 in
    (count.0, grind (arith, count_digits_taken, in_range_taken BUFFERS digits.0 count.0))

pub count_is_line_of : (n : ℕ) → n ≤ BUFFERS → IsLine (count_pieces n)
count_is_line_of n few at lt = grind (arith, decimal_lacks at)

pub step_count : (n : ℕ) (s : TextProgress) → s.at ≡ wants.Count → 1 ≤ n → n ≤ BUFFERS
    → step s (join_with_byte 32 (count_pieces n)) ≡ Ok (record s { at = wants.Capacities n; buffers = [] })
unfolding step count_line
step_count n s at some few = rw (at, pieces_again (codes "buffers") (decimal n ∷ []) (count_is_line_of n few)) (count_line_again n s some few)

-- ---- a capacity

-- before the first entry of a text of this version, with these capacities known
abbrev pub opened : Version → NextLine → List ℕ → TextProgress
opened v at caps = record { at = at; version = v; lowest = One; buffers = map fresh caps; entries = 0 }

-- which line follows a capacity
abbrev pub behind_cap : ℕ → ℕ → NextLine
behind_cap known count = cond (nat_lt known count) (wants.Capacities count) wants.Entries

capacity_digits_again : (b capacity : ℕ) → b < 2 ^ 64 → capacity < 2 ^ 64 → capacity_digits b (cap_pieces b capacity) ≡ Ok (decimal capacity)
unfolding capacity_digits
capacity_digits_again b capacity fits small = rw (is_value_again b fits, decimal_is_number capacity small) refl

pub capacity_line_again : (v : Version) (at : NextLine) (count : ℕ) (caps : List ℕ) (capacity : ℕ) → IsCapacity capacity → length caps ≤ BUFFERS
    → capacity_line count (cap_pieces (length caps) capacity) (opened v at caps) ≡ Ok (opened v (behind_cap (length caps + 1) count) (caps ++ capacity ∷ []))
unfolding capacity_line
capacity_line_again v at count caps capacity small few = grind (arith, length-map, capacity_digits_again, number_to-decimal, lt-ltb, map_push)

capacity_digits_taken : (b : ℕ) (ps : List (List ℕ)) (digits : List ℕ) → capacity_digits b ps ≡ Ok digits → ps ≡ codes "cap" ∷ decimal b ∷ digits ∷ []
unfolding capacity_digits
capacity_digits_taken b ps digits taken = grind (arith, wanted_ok, word_taken, piece_taken, is_value_taken, digits_taken, ended_taken)

-- what it says that a capacity was taken
pub record CapacityTaken (v : Version) (count : ℕ) (caps : List ℕ) (ps : List (List ℕ)) (after : TextProgress) (capacity : ℕ) : Type 0 where
  pub spelled : ps ≡ cap_pieces (length caps) capacity
  pub small : IsCapacity capacity
  pub is : after ≡ opened v (behind_cap (length caps + 1) count) (caps ++ capacity ∷ [])

pub capacity_line_taken : (v : Version) (at : NextLine) (count : ℕ) (caps : List ℕ) (ps : List (List ℕ)) (after : TextProgress)
    → capacity_line count ps (opened v at caps) ≡ Ok after → (capacity : ℕ) × CapacityTaken v count caps ps after capacity
unfolding capacity_line
capacity_line_taken v at count caps ps after taken =
    let digits = bind_ok (capacity_digits (length (map fresh caps)) ps) _ after taken in
    let capacity = bind_ok (in_range CAPACITY digits.0) _ after digits.2 in
    (capacity.0, grind (arith, capacity_digits_taken, in_range_taken CAPACITY digits.0 capacity.0, length-map, map_push))

pub cap_is_line : (b capacity : ℕ) → b ≤ BUFFERS → IsCapacity capacity → IsLine (cap_pieces b capacity)
cap_is_line b capacity few small at lt = grind (arith, decimal_lacks at)

pub step_cap : (v : Version) (count : ℕ) (caps : List ℕ) (capacity : ℕ) → IsCapacity capacity → length caps ≤ BUFFERS
    → step (opened v (wants.Capacities count) caps) (join_with_byte 32 (cap_pieces (length caps) capacity))
    ≡ Ok (opened v (behind_cap (length caps + 1) count) (caps ++ capacity ∷ []))
unfolding step
step_cap v count caps capacity small few =
    rw (pieces_again (codes "cap") (decimal (length caps) ∷ decimal capacity ∷ []) (cap_is_line (length caps) capacity few small))
    (capacity_line_again v (wants.Capacities count) count caps capacity small few)
