-- The trace text of a run, and of where it ends, gets yes.
use Rattle.std.{specs.{Prelude.{decimal, codes, nat_lt}, List.{AllByRecursion, flat_map}}, proofs.Common.{cond, lit<, append-nil, ◌≡◌, ℕ, ◌+◌, ◌<◌, ◌≤◌, true}}
use Rattle.std.proofs.Common.{false, List, [], ◌∷◌, ◌++◌, length, drop, map, refl, sym, ap, subst, ◌∙◌, append_assoc, lt-ltb, le-ltb, arith}
use Rattle.std.proofs.lemmas.List.{length_push, length-drop, length-set, length-map, get_or-drop, drop-drop}
use Rattle.tracer.specs.TraceText.{message_text, text_line, version_word, count_pieces, cap_pieces, entry_pieces, left_pieces, end_pieces, numbered, lines_of}
use Rattle.tracer.specs.{TraceText.{spelling, IsEntryOf, IsSpellable, IsTraceText, AreItemsOf}, declared.verdicts.Verdict.TheVariants.Yes}
use Rattle.tracer.specs.{declared.versions.Version.{Version, TheVariants.One}, Judging.{TextProgress, text_start, lines_in, verdict_from, verdict_of}}
use Rattle.tracer.{specs.Versions.{covers, version_from, version_of}, proofs.OpeningLemmas.{behind_cap, step_head, step_end, count_is_line_of, step_count}}
use Rattle.tracer.proofs.{OpeningLemmas.{opened, cap_is_line, step_cap}, VersionLemmas.{covers_next, version_more}, SplitLemmas.{IsLine, line_read}}
use Rattle.tracer.proofs.{KnownLemmas.known_fresh_from, EntryLemmas.{progress, behind_e}, StepLemmas.{entry_is_line, step_entry, behind_left, left_is_line}}
use Rattle.{tracer.proofs.StepLemmas.{step_first_left, step_left}, event_log.specs.{Messages.Message, declared.ids.TheConstants.{BUFFERS, ENTRIES}}}
use Rattle.event_log.specs.{declared.entries.Entry.Entry, Buffers.{items_of, empty_buffers, after_effect, IsCapacity}, Runs.{after_entry, IsRunFrom}}
use Rattle.event_log.specs.Runs.{IsLegalHistory}
use Rattle.tracer.specs.declared.next_lines.NextLine.TheVariants as wants

-- the last line
end_is_line : IsLine end_pieces
end_is_line at lt = grind arith

complete_end : (s : TextProgress) (n : ℕ) → s.at ≡ wants.End → covers s.lowest s.version ≡ true
    → verdict_from s n (lines_in (flat_map text_line (end_pieces ∷ []))) ≡ Yes
complete_end s n at low = line_read s (record s { at = wants.Done }) n (codes "end") [] [] end_is_line (step_end s at low)

-- what is left of a buffer, and of those after it
first_of : (contents : List (List Message)) (b : ℕ) (x : List Message) (xs : List (List Message)) → drop b contents ≡ x ∷ xs → items_of contents b ≡ x
first_of contents b x xs e = grind (arith, get_or-drop b contents 0, e)

behind_first : (contents : List (List Message)) (b : ℕ) (x : List Message) (xs : List (List Message)) → drop b contents ≡ x ∷ xs → drop (b + 1) contents ≡ xs
behind_first contents b x xs e = grind (arith, drop-drop 1 b contents, e)

complete_left : (v : Version) (caps : List ℕ) (earlier : List Entry) (contents : List (List Message)) (b n : ℕ) (left : List (List Message))
    → length contents ≡ length caps → length caps ≤ BUFFERS → drop b contents ≡ left → AllByRecursion (AreItemsOf v) left → covers (version_of earlier) v ≡ true
    → verdict_from (progress v (cond (nat_lt b (length caps)) (wants.Contents b) wants.End) caps earlier contents) n
    (lines_in (flat_map text_line (numbered left_pieces b left ++ end_pieces ∷ []))) ≡ Yes
complete_left v caps earlier contents b n [] long few rest small low =
    let stops : nat_lt b (length caps) ≡ false = le-ltb b (length caps) (omega (arith, ap length rest, length-drop b contents)) in
    rw stops (complete_end (progress v wants.End caps earlier contents) n refl low)
complete_left v caps earlier contents b n (x ∷ xs) long few rest small low =
    let inside : b < length caps = omega (arith, ap length rest, length-drop b contents) in
    let here = first_of contents b x xs rest in
    let fits : AreItemsOf v (items_of contents b) = rw here small.0 in
    let s = progress v (wants.Contents b) caps earlier contents in
    let after = progress v (behind_left b caps) caps earlier contents in
    rw (lt-ltb b (length caps) inside, ← here)
    (line_read s after n (codes "left") (decimal b ∷ map message_text (items_of contents b))
    (flat_map text_line (numbered left_pieces (b + 1) xs ++ end_pieces ∷ []))
    (left_is_line v b (items_of contents b) (omega arith) fits) (step_left v b caps earlier contents inside few fits)
    ∙ complete_left v caps earlier contents (b + 1) (n + 1) xs long few (behind_first contents b x xs rest) small.1 low)

-- the entries
complete_first : (v : Version) (caps : List ℕ) (earlier : List Entry) (contents left : List (List Message)) (n : ℕ) → contents ≡ left
    → length contents ≡ length caps → 1 ≤ length caps → length caps ≤ BUFFERS → AllByRecursion (AreItemsOf v) left → v ≡ version_of earlier
    → verdict_from (progress v wants.Entries caps earlier contents) n (lines_in (flat_map text_line (numbered left_pieces 0 left ++ end_pieces ∷ []))) ≡ Yes
complete_first v caps earlier contents [] n same long some few small lowest = absurd (omega (arith, ap length same))
complete_first v caps earlier contents (x ∷ xs) n same long some few small lowest =
    let here = first_of contents 0 x xs same in
    let fits : AreItemsOf v (items_of contents 0) = rw here small.0 in
    let s = progress v wants.Entries caps earlier contents in
    let after = progress v (behind_left 0 caps) caps earlier contents in
    rw (← here)
    (line_read s after n (codes "left") (decimal 0 ∷ map message_text (items_of contents 0)) (flat_map text_line (numbered left_pieces 1 xs ++ end_pieces ∷ []))
    (left_is_line v 0 (items_of contents 0) (lit< tt) fits) (step_first_left v caps earlier contents (omega arith) fits)
    ∙ complete_left v caps earlier contents 1 (n + 1) xs long few (behind_first contents 0 x xs same) small.1 (rw lowest (grind arith)))

pub complete_entries : (v : Version) (caps : List ℕ) (earlier : List Entry) (contents : List (List Message)) (es : List Entry) (left : List (List Message))
    (n : ℕ) → IsRunFrom caps earlier contents es left → AllByRecursion (IsEntryOf (length caps)) es → length earlier + length es ≤ ENTRIES
    → length contents ≡ length caps → 1 ≤ length caps → length caps ≤ BUFFERS → AllByRecursion (AreItemsOf v) left → v ≡ version_from (version_of earlier) es
    → verdict_from (progress v wants.Entries caps earlier contents) n
    (lines_in (flat_map text_line (map entry_pieces es ++ (numbered left_pieces 0 left ++ end_pieces ∷ [])))) ≡ Yes
complete_entries v caps earlier contents [] left n run each room long some few small lowest =
    complete_first v caps earlier contents left n run long some few small lowest
complete_entries v caps earlier contents (e ∷ es) left n run each room long some few small lowest =
    let here : length earlier < ENTRIES = omega arith in
    let after = after_entry contents e in
    let after_long : length after ≡ length caps = length-set contents e.buffer.0 (after_effect e.kind (items_of contents e.buffer.0) e.value) ∙ long in
    let less : length (earlier ++ e ∷ []) + length es ≤ ENTRIES = omega (arith, length_push earlier e) in
    let high = rw (← lowest) at (covers_next (version_of earlier) e es) in
    let onwards : v ≡ version_from (version_of (earlier ++ e ∷ [])) es = lowest ∙ ap (λ (u : Version). version_from u es) (sym (version_more earlier e)) in
    line_read (progress v wants.Entries caps earlier contents) (progress v wants.Entries caps (earlier ++ e ∷ []) after) n (codes "e") (behind_e e)
    (flat_map text_line (map entry_pieces es ++ (numbered left_pieces 0 left ++ end_pieces ∷ []))) (entry_is_line (length caps) e few each.0)
    (step_entry v caps earlier contents e few here long each.0 high run.0)
    ∙ complete_entries v caps (earlier ++ e ∷ []) after es left (n + 1) run.1 each.1 less after_long some few small onwards

-- the capacities
complete_caps : (v : Version) (count : ℕ) (caps more : List ℕ) (tail : List (List (List ℕ))) (n : ℕ) → length caps + length more ≡ count → count ≤ BUFFERS
    → AllByRecursion IsCapacity more → ((m : ℕ) → verdict_from (opened v wants.Entries (caps ++ more)) m (lines_in (flat_map text_line tail)) ≡ Yes)
    → verdict_from (opened v (behind_cap (length caps) count) caps) n (lines_in (flat_map text_line (numbered cap_pieces (length caps) more ++ tail))) ≡ Yes
complete_caps v count caps [] tail n all few small behind = rw (le-ltb (length caps) count (omega arith)) (rw append-nil at (behind n))
complete_caps v count caps (k ∷ ks) tail n all few small behind =
    let longer : length (caps ++ k ∷ []) ≡ length caps + 1 = length_push caps k in
    rw (lt-ltb (length caps) count (omega arith))
    (line_read (opened v (wants.Capacities count) caps) (opened v (behind_cap (length caps + 1) count) (caps ++ k ∷ [])) n (codes "cap")
    (decimal (length caps) ∷ decimal k ∷ []) (flat_map text_line (numbered cap_pieces (length caps + 1) ks ++ tail))
    (cap_is_line (length caps) k (omega arith) small.0) (step_cap v count caps k small.0 (omega arith))
    ∙ rw longer at (complete_caps v count (caps ++ k ∷ []) ks tail (n + 1) (omega arith) few small.1 (λ m. rw append_assoc (behind m))))

complete_lines : (caps : List ℕ) (es : List Entry) (left : List (List Message)) → IsSpellable caps es left → IsLegalHistory caps es left
    → verdict_from text_start 1 (lines_in (spelling caps es left)) ≡ Yes
unfolding spelling lines_of
complete_lines caps es left fits run =
    let v = version_of es in
    let opens : TextProgress = record text_start { at = wants.Count; version = v } in
    let tail = map entry_pieces es ++ (numbered left_pieces 0 left ++ end_pieces ∷ []) in
    let long : length (empty_buffers caps) ≡ length caps = length-map caps (λ (k : ℕ). []) in
    let room : length {A = Entry} [] + length es ≤ ENTRIES = (let h = fits.few_entries in omega arith) in
    let entries : (m : ℕ) → verdict_from (opened v wants.Entries caps) m (lines_in (flat_map text_line tail)) ≡ Yes = λ m.
    subst (λ (s : TextProgress). verdict_from s m (lines_in (flat_map text_line tail)) ≡ Yes)
    (ap (λ buffers. record { at = wants.Entries; version = v; lowest = One; buffers = buffers; entries = 0 }) (known_fresh_from 0 caps caps))
    (complete_entries v caps [] (empty_buffers caps) es left m run fits.entries room long fits.some_buffer fits.few_buffers fits.values refl) in
    let goes : nat_lt 0 (length caps) ≡ true = lt-ltb 0 (length caps) (let h = fits.some_buffer in omega arith) in
    let none : 0 + length caps ≡ length caps = omega arith in
    let all = complete_caps v (length caps) [] caps tail (1 + 1 + 1) none fits.few_buffers fits.capacities entries in
    line_read text_start opens 1 (codes "mctower-trace") (version_word v ∷ [])
    (text_line (count_pieces (length caps)) ++ flat_map text_line (numbered cap_pieces 0 caps ++ tail)) (λ at lt. grind arith) (step_head v text_start refl)
    ∙ line_read opens (opened v (wants.Capacities (length caps)) []) (1 + 1) (codes "buffers") (decimal (length caps) ∷ [])
    (flat_map text_line (numbered cap_pieces 0 caps ++ tail)) (count_is_line_of (length caps) fits.few_buffers)
    (step_count (length caps) opens refl fits.some_buffer fits.few_buffers) ∙ rw goes at all

pub complete : (text caps : List ℕ) (es : List Entry) (left : List (List Message)) → IsTraceText text caps es left → IsLegalHistory caps es left
    → verdict_of text ≡ Yes
unfolding verdict_of
complete text caps es left spelled run = rw spelled.spelled (complete_lines caps es left spelled.spellable run)
