-- The messages sent to a buffer are those received from it, followed by those left: one entry after
-- the other.
use Rattle.std.proofs.Common.{arith, length-set, ◌≡◌, ℕ, ◌==◌, Bool, if◌then◌else◌, List, [], ◌∷◌, ◌++◌, length, refl, sym, ap, ◌∙◌, append_assoc}
use Rattle.{std.proofs.lemmas.{Bool.{eqb-true, eqb-false}, List.{get_or-set_same, get_or-set_other, append-nil, length-map}}, event_log.specs.Messages.Message}
use Rattle.event_log.specs.{declared.entries.{Entry.Entry, Kind.Kind}, Buffers.{empty_buffers, items_of, IsAllowedEffect, after_effect}, Runs.IsNext}
use Rattle.event_log.specs.{Runs.{IsRunFrom, IsLegalHistory, after_entry}, Streams.{put_by, taken_by, sent_to, taken_from, IsFirstInFirstOut}}
use Rattle.event_log.proofs.RunLemmas.{items_none}

-- one effect at its buffer
step : (k : Kind) (closed : Bool) (capacity : ℕ) (v : Message) (items sent taken left : List Message) → IsAllowedEffect k closed capacity items v
    → after_effect k items v ++ sent ≡ taken ++ left → items ++ put_by k v sent ≡ taken_by k v taken ++ left
step k closed capacity v items sent taken left may same = grind (arith, append_assoc)

-- one entry, of this buffer or of another
one_more : (caps : List ℕ) (earlier : List Entry) (contents : List (List Message)) (e : Entry) (left : List (List Message)) → length contents ≡ length caps
    → IsNext caps earlier contents e → (b : ℕ) (sent taken : List Message) → items_of (after_entry contents e) b ++ sent ≡ taken ++ items_of left b
    → (same : Bool) → (e.buffer.0 == b) ≡ same
    → items_of contents b ++ (if same then put_by e.kind e.value sent else sent) ≡ (if same then taken_by e.kind e.value taken else taken) ++ items_of left b
one_more caps earlier contents e left many next b sent taken more same other = grind (arith, get_or-set_other, eqb-false, eqb-true, get_or-set_same, step)

-- entries from these contents on
stream_from : (caps : List ℕ) (earlier : List Entry) (contents : List (List Message)) (es : List Entry) (left : List (List Message))
    → length contents ≡ length caps → IsRunFrom caps earlier contents es left → (b : ℕ)
    → items_of contents b ++ sent_to b es ≡ taken_from b es ++ items_of left b
stream_from caps earlier contents [] left many run b = append-nil (items_of contents b) ∙ ap (λ all. items_of all b) run
stream_from caps earlier contents (e ∷ es) left many run b =
    one_more caps earlier contents e left many run.0 b (sent_to b es) (taken_from b es)
    (stream_from caps (earlier ++ e ∷ []) (after_entry contents e) es left
    (length-set contents e.buffer.0 (after_effect e.kind (items_of contents e.buffer.0) e.value) ∙ many) run.1 b)
    (e.buffer.0 == b) refl

-- a whole run
pub taken_put : (caps : List ℕ) (es : List Entry) (left : List (List Message)) → IsLegalHistory caps es left → IsFirstInFirstOut es left
taken_put caps es left run b =
    ap (λ items. items ++ sent_to b es) (sym (items_none caps b))
    ∙ stream_from caps [] (empty_buffers caps) es left (length-map {B = List Message} caps (λ n. [])) run b
