-- A text that gets yes is the trace text of a run, and of where it ends.
use Rattle.std.proofs.Common.{lt-ltb, ◌≡◌, inl, inr, ℕ, ◌+◌, ◌<◌, ◌≤◌, Bool, true, false, cond, List, [], ◌∷◌, ◌++◌, length, drop, map, Result, Ok, Err, refl}
use Rattle.std.proofs.{Common.{sym, ap, subst, ◌∙◌, append_assoc, eqb-true, ltb-true, ltb-false, arith}, lemmas.List.{append-nil, length_push, length-set}}
use Rattle.std.proofs.lemmas.List.{length-map, drop_more, drop_all, nil_from_length, Concat.flat_map-append, Splits.join_with_byte-slice_split}
use Rattle.std.specs.{Prelude.nat_lt, List.{AllByRecursion, flat_map, join_with_byte}}
use Rattle.event_log.specs.{Messages.Message, declared.{ids.TheConstants.{BUFFERS, ENTRIES}, entries.Entry.Entry}, Buffers.{items_of, empty_buffers}}
use Rattle.event_log.{specs.{Buffers.IsCapacity, Runs.{IsNext, after_entry, IsRunFrom, IsLegalHistory}}, proofs.Streams.taken_put}
use Rattle.tracer.specs.{declared.{verdicts.{Reason.Reason, Verdict.{Verdict, TheVariants.Yes}}, versions.Version.{Version, TheVariants.One}}, Versions.covers}
use Rattle.tracer.specs.{Versions.{version_of_entry, version_from, version_of}, Verdicts.IsTraceOfRun, Judging.{TextProgress, text_start, step, after_line}}
use Rattle.tracer.specs.Judging.{line_pieces, lines_in, verdict_from, verdict_of, head_line, end_line, count_line, capacity_line, entries_line, left_line}
use Rattle.tracer.specs.TraceText.{text_line, head_pieces, count_pieces, cap_pieces, entry_pieces, left_pieces, end_pieces, numbered, lines_of, spelling}
use Rattle.tracer.{specs.TraceText.{IsEntryOf, IsSpellable, AreItemsOf}, proofs.{KnownLemmas.known_fresh_from, EntryLemmas.progress}}
use Rattle.tracer.proofs.{StepLemmas.{left_line_taken, entries_taken}, VersionLemmas.{covers_first_one, covers_both, version_more}, OpeningLemmas.head_taken}
use Rattle.tracer.proofs.OpeningLemmas.{end_taken, count_line_taken, opened, capacity_line_taken}
use Rattle.tracer.specs.declared.next_lines.NextLine.TheVariants as wants

-- ---- one line

went : (r : Result TextProgress Reason) (n : ℕ) (next : TextProgress → Verdict) → after_line r n next ≡ Yes
    → (after : TextProgress) × (r ≡ Ok after) × (next after ≡ Yes)
went (Ok after) n next e = (after, refl, e)
went (Err reason) n next e = absurd (cc)

-- a line of these pieces
line_spelled : (line : List ℕ) (ps : List (List ℕ)) (rest : List ℕ) → line_pieces line ≡ ps → line ++ 10 ∷ rest ≡ text_line ps ++ rest
line_spelled line ps rest e =
    let same : line ≡ join_with_byte 32 ps = sym (join_with_byte-slice_split 32 line) ∙ ap (join_with_byte 32) e in
    rw same (sym (append_assoc (join_with_byte 32 ps) (10 ∷ []) rest))

-- ---- the end

done_end : (v low : Version) (buffers : _) (entries n : ℕ) (lines : List (List ℕ))
    → verdict_from (record { at = wants.Done; version = v; lowest = low; buffers = buffers; entries = entries }) n lines ≡ Yes
    → join_with_byte 10 lines ≡ []
unfolding step
done_end v low buffers entries n (rest ∷ []) e = nil_from_length rest (eqb-true (length rest) 0 (grind arith))
done_end v low buffers entries n others e = absurd (cc)

sound_end : (v low : Version) (buffers : _) (entries n : ℕ) (lines : List (List ℕ))
    → verdict_from (record { at = wants.End; version = v; lowest = low; buffers = buffers; entries = entries }) n lines ≡ Yes
    → (join_with_byte 10 lines ≡ flat_map text_line (end_pieces ∷ [])) × (covers low v ≡ true)
unfolding step
sound_end v low buffers entries n (line ∷ next ∷ more) e =
    let s : TextProgress = record { at = wants.End; version = v; lowest = low; buffers = buffers; entries = entries } in
    let go = went (end_line line s) n (λ after. verdict_from after (n + 1) (next ∷ more)) e in
    let word = end_taken line s go.0 go.1 in
    let rest = done_end v low buffers entries (n + 1) (next ∷ more) (rw word.2 at go.2) in
    (rw (word.0, rest) refl, word.1)
sound_end v low buffers entries n others e = absurd (cc)

-- ---- what is left

-- the lines are what is left from buffer b on, and the end of a text of a version that is no higher
-- than the entries need
abbrev LeftText : Version → Version → ℕ → List (List Message) → List (List ℕ) → Type 0
LeftText v low b contents lines = (join_with_byte 10 lines ≡ flat_map text_line (numbered left_pieces b (drop b contents) ++ end_pieces ∷ []))
    × AllByRecursion (AreItemsOf v) (drop b contents) × (covers low v ≡ true)

-- a line of what is left of buffer b, and the lines after it
left_text : (v low : Version) (b : ℕ) (contents : List (List Message)) (line next : List ℕ) (more : List (List ℕ)) → b < length contents
    → line_pieces line ≡ left_pieces b (items_of contents b) → AreItemsOf v (items_of contents b) → LeftText v low (b + 1) contents (next ∷ more)
    → LeftText v low b contents (line ∷ next ∷ more)
left_text v low b contents line next more inside spelled small behind = grind (arith, drop_more, line_spelled)

-- if what is left of buffer b was accepted, the lines after it are what is left of the others
sound_left : (v : Version) (b : ℕ) (caps : List ℕ) (earlier : List Entry) (contents : List (List Message)) (n : ℕ) (line next : List ℕ) (rest : List (List ℕ))
    (more : Bool) → nat_lt (b + 1) (length caps) ≡ more → length contents ≡ length caps → b < length caps
    → line_pieces line ≡ left_pieces b (items_of contents b) → AreItemsOf v (items_of contents b)
    → verdict_from (progress v (cond more (wants.Contents (b + 1)) wants.End) caps earlier contents) n (next ∷ rest) ≡ Yes
    → LeftText v (version_of earlier) b contents (line ∷ next ∷ rest)
unfolding step
sound_left v b caps earlier contents n line next rest false is long inside spelled small e =
    let past : length contents ≤ b + 1 = (let h = ltb-false (b + 1) (length caps) is in omega arith) in
    let last = sound_end v (version_of earlier) _ _ n (next ∷ rest) e in
    left_text v (version_of earlier) b contents line next rest (omega arith) spelled small (rw (drop_all (b + 1) contents past) (last.0, tt, last.1))
sound_left v b caps earlier contents n line next [] true is long inside spelled small e = absurd (cc)
sound_left v b caps earlier contents n line next (third ∷ others) true is long inside spelled small e =
    let s = progress v (wants.Contents (b + 1)) caps earlier contents in
    let go = went (left_line (b + 1) (line_pieces next) s) n (λ after. verdict_from after (n + 1) (third ∷ others)) e in
    let taken = left_line_taken v (wants.Contents (b + 1)) (b + 1) caps earlier contents (line_pieces next) go.0 go.1 in
    left_text v (version_of earlier) b contents line next (third ∷ others) (omega arith) spelled small
    (sound_left v (b + 1) caps earlier contents (n + 1) next third others (nat_lt (b + 1 + 1) (length caps)) refl long taken.known taken.spelled taken.small
    (rw taken.is at go.2))

-- ---- the entries

-- what it implies that the lines after the capacities get yes
pub record Judged (v : Version) (caps : List ℕ) (earlier : List Entry) (contents : List (List Message)) (lines : List (List ℕ)) (es : List Entry)
    (left : List (List Message)) : Type 0 where
  pub run : IsRunFrom caps earlier contents es left
  pub small : AllByRecursion (IsEntryOf (length caps)) es
  pub few : length earlier + length es ≤ ENTRIES
  pub each : length left ≡ length caps
  pub values : AllByRecursion (AreItemsOf v) left
  pub lowest : v ≡ version_from (version_of earlier) es
  pub text : join_with_byte 10 lines ≡ flat_map text_line (map entry_pieces es ++ (numbered left_pieces 0 left ++ end_pieces ∷ []))

abbrev IsJudged : Version → List ℕ → List Entry → List (List Message) → List (List ℕ) → Type 0
IsJudged v caps earlier contents lines = (es : List Entry) × (left : List (List Message)) × Judged v caps earlier contents lines es left

-- an entry, and the lines after it
judged_more : (v : Version) (caps : List ℕ) (earlier : List Entry) (contents : List (List Message)) (line next : List ℕ) (more : List (List ℕ)) (e : Entry)
    → line_pieces line ≡ entry_pieces e → IsEntryOf (length caps) e → IsNext caps earlier contents e
    → IsJudged v caps (earlier ++ e ∷ []) (after_entry contents e) (next ∷ more) → IsJudged v caps earlier contents (line ∷ next ∷ more)
judged_more v caps earlier contents line next more e spelled small can behind =
    (e ∷ behind.0, behind.1, grind (arith, line_spelled, length_push earlier e, version_more earlier e))

judged_left : (v : Version) (caps : List ℕ) (earlier : List Entry) (contents : List (List Message)) (lines : List (List ℕ)) → length earlier ≤ ENTRIES
    → length contents ≡ length caps → covers v (version_of earlier) ≡ true → LeftText v (version_of earlier) 0 contents lines
    → IsJudged v caps earlier contents lines
judged_left v caps earlier contents lines few long high left = ([], contents, grind arith)

sound_entries : (v : Version) (caps : List ℕ) (earlier : List Entry) (contents : List (List Message)) (n : ℕ) (lines : List (List ℕ)) → length earlier ≤ ENTRIES
    → length contents ≡ length caps → covers v (version_of earlier) ≡ true → verdict_from (progress v wants.Entries caps earlier contents) n lines ≡ Yes
    → IsJudged v caps earlier contents lines
unfolding step
sound_entries v caps earlier contents n (line ∷ next ∷ more) few long high e =
    let s = progress v wants.Entries caps earlier contents in
    let go = went (entries_line (line_pieces line) s) n (λ after. verdict_from after (n + 1) (next ∷ more)) e in
    elim (entries_taken v caps earlier contents (line_pieces line) go.0 long go.1) [
      | inl entry ↦
          let here = entry.1 in
          judged_more v caps earlier contents line next more entry.0 here.spelled here.small here.next
          (sound_entries v caps (earlier ++ entry.0 ∷ []) (after_entry contents entry.0) (n + 1) (next ∷ more)
          (let room = here.room in omega (arith, length_push earlier entry.0)) (length-set contents entry.0.buffer.0 _ ∙ long)
          (rw (version_more earlier entry.0) (covers_both v (version_of earlier) (version_of_entry entry.0) high here.high)) (rw here.is at go.2))
      | inr left ↦
          judged_left v caps earlier contents (line ∷ next ∷ more) few long high
          (sound_left v 0 caps earlier contents (n + 1) line next more (nat_lt (0 + 1) (length caps)) refl long left.known left.spelled left.small
          (rw left.is at go.2))
    ]
sound_entries v caps earlier contents n others few long high e = absurd (cc)

-- ---- the capacities

-- what it says that the lines from a capacity on get yes
pub record CapsJudged (v : Version) (count : ℕ) (caps : List ℕ) (lines : List (List ℕ)) (more : List ℕ) (m : ℕ) (rest : List (List ℕ)) : Type 0 where
  pub counted : length caps + length more ≡ count
  pub small : AllByRecursion IsCapacity more
  pub judged : verdict_from (opened v wants.Entries (caps ++ more)) m rest ≡ Yes
  pub text : join_with_byte 10 lines ≡ flat_map text_line (numbered cap_pieces (length caps) more) ++ join_with_byte 10 rest

abbrev AreCaps : Version → ℕ → List ℕ → List (List ℕ) → Type 0
AreCaps v count caps lines = (more : List ℕ) × (m : ℕ) × (rest : List (List ℕ)) × CapsJudged v count caps lines more m rest

caps_more : (v : Version) (count : ℕ) (caps : List ℕ) (line next : List ℕ) (more : List (List ℕ)) (k : ℕ) → line_pieces line ≡ cap_pieces (length caps) k
    → IsCapacity k → AreCaps v count (caps ++ k ∷ []) (next ∷ more) → AreCaps v count caps (line ∷ next ∷ more)
caps_more v count caps line next more k spelled small behind = grind (arith, length_push, append_assoc, line_spelled)

sound_caps : (v : Version) (count : ℕ) (caps : List ℕ) (n : ℕ) (lines : List (List ℕ)) (goes : Bool) → nat_lt (length caps) count ≡ goes
    → length caps ≤ count → verdict_from (opened v (cond goes (wants.Capacities count) wants.Entries) caps) n lines ≡ Yes → AreCaps v count caps lines
unfolding step
sound_caps v count caps n lines false is le e =
    let past = ltb-false (length caps) count is in
    ([], n, lines, record { counted = omega arith; small = tt; judged = rw (append-nil caps) e; text = refl })
sound_caps v count caps n (line ∷ next ∷ more) true is le e =
    let s = opened v (wants.Capacities count) caps in
    let go = went (capacity_line count (line_pieces line) s) n (λ after. verdict_from after (n + 1) (next ∷ more)) e in
    let taken = capacity_line_taken v (wants.Capacities count) count caps (line_pieces line) go.0 go.1 in
    let k = taken.0 in
    let longer : length (caps ++ k ∷ []) ≡ length caps + 1 = length_push caps k in
    let below = ltb-true (length caps) count is in
    caps_more v count caps line next more k taken.1.spelled taken.1.small
    (sound_caps v count (caps ++ k ∷ []) (n + 1) (next ∷ more) (nat_lt (length (caps ++ k ∷ [])) count) refl (omega arith)
    (rw longer (rw taken.1.is at go.2)))
sound_caps v count caps n others true is le e = absurd (cc)

-- ---- the whole text

-- what it says that the lines from the number of buffers on get yes
abbrev IsTail : Version → List ℕ → Type 0
IsTail v text =
    (caps : List ℕ) × (es : List Entry) × (left : List (List Message)) × IsSpellable caps es left × IsLegalHistory caps es left × (v ≡ version_of es)
    × (text ≡ text_line (count_pieces (length caps)) ++ flat_map text_line
    (numbered cap_pieces 0 caps ++ (map entry_pieces es ++ (numbered left_pieces 0 left ++ end_pieces ∷ []))))

tail_of : (v : Version) (line next : List ℕ) (more : List (List ℕ)) (n : ℕ) (caps : List ℕ) (rest : List (List ℕ)) (es : List Entry)
    (left : List (List Message)) → line_pieces line ≡ count_pieces n → 1 ≤ n → n ≤ BUFFERS → length caps ≡ n → AllByRecursion IsCapacity caps
    → join_with_byte 10 (next ∷ more) ≡ flat_map text_line (numbered cap_pieces 0 caps) ++ join_with_byte 10 rest
    → Judged v caps [] (empty_buffers caps) rest es left → IsTail v (join_with_byte 10 (line ∷ next ∷ more))
tail_of v line next more n caps rest es left spelled some few counted small text judged = grind (arith, line_spelled, flat_map-append)

sound_count : (v : Version) (n : ℕ) (lines : List (List ℕ)) → verdict_from (record text_start { at = wants.Count; version = v }) n lines ≡ Yes
    → IsTail v (join_with_byte 10 lines)
unfolding step
sound_count v n (line ∷ next ∷ more) e =
    let s : TextProgress = record text_start { at = wants.Count; version = v } in
    let go = went (count_line (line_pieces line) s) n (λ after. verdict_from after (n + 1) (next ∷ more)) e in
    let taken = count_line_taken (line_pieces line) s go.0 go.1 in
    let count = taken.0 in
    let some : 0 < count = (let h = taken.1.some in omega arith) in
    let all = sound_caps v count [] (n + 1) (next ∷ more) true (lt-ltb 0 count some) (omega arith) (rw taken.1.is at go.2) in
    let caps = all.0 in
    let long : length (empty_buffers caps) ≡ length caps = length-map caps (λ (k : ℕ). []) in
    let opens : opened v wants.Entries caps ≡ progress v wants.Entries caps [] (empty_buffers caps) =
    ap (λ buffers. record { at = wants.Entries; version = v; lowest = One; buffers = buffers; entries = 0 }) (sym (known_fresh_from 0 caps caps)) in
    let entries = sound_entries v caps [] (empty_buffers caps) all.1 all.2 (omega arith) long (covers_first_one v)
    (subst (λ (a : TextProgress). verdict_from a all.1 all.2 ≡ Yes) opens all.3.judged) in
    tail_of v line next more count caps all.2 entries.0 entries.1 taken.1.spelled taken.1.some taken.1.few (let h = all.3.counted in omega arith) all.3.small
    all.3.text entries.2
sound_count v n others e = absurd (cc)

head_text : (v : Version) (es : List Entry) (line rest body : List ℕ) → line ≡ join_with_byte 32 (head_pieces v) → v ≡ version_of es → rest ≡ body
    → line ++ 10 ∷ rest ≡ text_line (head_pieces (version_of es)) ++ body
head_text v es line rest body e1 e2 e3 = rw (e1, e3, ← e2) (sym (append_assoc (join_with_byte 32 (head_pieces v)) (10 ∷ []) body))

sound_lines : (n : ℕ) (lines : List (List ℕ)) → verdict_from text_start n lines ≡ Yes → IsTraceOfRun (join_with_byte 10 lines)
unfolding step spelling lines_of
sound_lines n (line ∷ next ∷ more) e =
    let go = went (head_line line text_start) n (λ after. verdict_from after (n + 1) (next ∷ more)) e in
    let head = head_taken line text_start go.0 go.1 in
    let tail = sound_count head.0 (n + 1) (next ∷ more) (rw head.2 at go.2) in (
      tail.0,
      tail.1,
      tail.2,
      record { spellable = tail.3; spelled = head_text head.0 tail.1 line (join_with_byte 10 (next ∷ more)) _ head.1 tail.5 tail.6 },
      tail.4,
      taken_put tail.0 tail.1 tail.2 tail.4,
    )
sound_lines n others e = absurd (cc)

pub sound : (text : List ℕ) → verdict_of text ≡ Yes → IsTraceOfRun text
unfolding verdict_of
sound text e = subst IsTraceOfRun (join_with_byte-slice_split 10 text) (sound_lines 1 (lines_in text) e)
