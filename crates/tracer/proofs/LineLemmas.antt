-- A line's text as it is written, and lines that have the number of their item.
use Rattle.std.proofs.Common.{◌-◌, ◌≡◌, ℕ, zero, suc, ◌+◌, ◌<◌, Bool, true, List, [], ◌∷◌, ◌++◌, Option, length, get_or, take, drop, map, refl, sym, ap}
use Rattle.std.proofs.{Common.{append_assoc, add-zero, arith}, lemmas.List.{append-nil, take_all, Concat.flat_map-append}}
use Rattle.std.specs.{Borrow.Bor, Io.KnownBytes.Appends, List.{flat_map, join_with_byte}, Prelude.decimal}
use Rattle.tracer.specs.{Gather.entries_in, Sinks.Outs, declared.writing.Piece.Piece}
use Rattle.tracer.specs.{Pieces.{text_of, spaced, behind_comma}, Versions.version_of, TraceText.{text_line, numbered, message_text, head_pieces, count_pieces}}
use Rattle.tracer.{specs.TraceText.{cap_pieces, entry_pieces, left_pieces, end_pieces, spelling, lines_of}, proofs.SinkLemmas.{appends_then, outs_then}}
use Rattle.{tracer.proofs.SinkLemmas.outs_before, event_log.specs.{Messages.{Message, first_word}, declared.entries.Entry.Entry}}

-- pieces with a space between each two: the first, and each other after a space
pub join_spaced : (w : List ℕ) (ps : List (List ℕ)) → join_with_byte 32 (w ∷ ps) ≡ w ++ flat_map spaced ps
join_spaced w [] = sym (append-nil w)
join_spaced w (p ∷ ps) = ap (λ (t : List ℕ). w ++ 32 ∷ t) (join_spaced p ps)

pub flat_map-map : {X Y : Type 0} (f : Y → List ℕ) (g : X → Y) (xs : List X) → flat_map f (map g xs) ≡ flat_map (λ x. f (g x)) xs
flat_map-map f g [] = refl
flat_map-map f g (x ∷ xs) = ap (λ (t : List ℕ). f (g x) ++ t) (flat_map-map f g xs)

-- a line as its first word, its pieces, its messages and a line feed
pub line_text : (w : List ℕ) (ps : List Piece) (ms : List Message) → text_line (w ∷ (map text_of ps ++ map message_text ms))
    ≡ w ++ (flat_map (λ p. spaced (text_of p)) ps ++ (flat_map (λ m. spaced (message_text m)) ms ++ 10 ∷ []))
line_text w ps ms = grind (arith, join_spaced, flat_map-append, flat_map-map, append_assoc)

-- an entry's line with the line feed after its last piece
pub line_end : (a b c d e f g : List ℕ) → 101 ∷ 32 ∷ (a ++ 32 ∷ (b ++ 32 ∷ (c ++ 32 ∷ (d ++ 32 ∷ (e ++ 32 ∷ (f ++ 32 ∷ (g ++ 10 ∷ [])))))))
    ≡ 101 ∷ 32 ∷ (a ++ 32 ∷ (b ++ 32 ∷ (c ++ 32 ∷ (d ++ 32 ∷ (e ++ 32 ∷ (f ++ 32 ∷ g)))))) ++ 10 ∷ []
line_end a b c d e f g = simp append_assoc

-- a message as its first word, and each other after a comma
join_words : (w : ℕ) (ws : List ℕ) → join_with_byte 44 (map decimal (w ∷ ws)) ≡ decimal w ++ flat_map behind_comma ws
join_words w [] = sym (append-nil (decimal w))
join_words w (v ∷ ws) = ap (λ (t : List ℕ). decimal w ++ 44 ∷ t) (join_words v ws)

pub message_parts : (m : Message) (count : ℕ) → count ≡ length m → 0 < count
    → spaced (message_text m) ≡ spaced (decimal (first_word m)) ++ flat_map behind_comma (take (count - 1) (drop 1 m))
message_parts m count is some = grind (arith, take_all, join_words)

-- numbered lines, cut round the item at i
pub numbered_at : {X : Type 0} (line : ℕ → X → List (List ℕ)) (b : ℕ) (xs : List X) (i : ℕ) (d : X) → i < length xs
    → numbered line b xs ≡ numbered line b (take i xs) ++ (line (b + i) (get_or xs i d) ∷ numbered line (b + i + 1) (drop (i + 1) xs))
numbered_at line b [] i d lt = absurd (omega arith)
numbered_at line b (x ∷ xs) zero d lt = rw (add-zero b) refl
numbered_at line b (x ∷ xs) (suc i) d lt = grind (arith, numbered_at line (b + 1) xs i d)

-- one item more
pub numbered_more : {X : Type 0} (line : ℕ → X → List (List ℕ)) (b : ℕ) (xs : List X) (i : ℕ) (d : X) → i < length xs
    → numbered line b (take (i + 1) xs) ≡ numbered line b (take i xs) ++ line (b + i) (get_or xs i d) ∷ []
numbered_more line b [] i d lt = absurd (omega arith)
numbered_more line b (x ∷ xs) zero d lt = rw (add-zero b) refl
numbered_more line b (x ∷ xs) (suc i) d lt = grind (arith, numbered_more line (b + 1) xs i d)

pub numbered-map : {X Y : Type 0} (line : ℕ → Y → List (List ℕ)) (f : X → Y) (b : ℕ) (xs : List X)
    → numbered line b (map f xs) ≡ numbered (λ k x. line k (f x)) b xs
numbered-map line f b [] = refl
numbered-map line f b (x ∷ xs) = ap (λ (t : List (List (List ℕ))). line b (f x) ∷ t) (numbered-map line f (b + 1) xs)

-- the lines before are out, and this one
pub numbered_out : {X : Type 0} (line : ℕ → X → List (List ℕ)) (xs : List X) (i : ℕ) (d : X) (old mid new : Option (List ℕ)) → i < length xs
    → Appends old mid (flat_map text_line (numbered line 0 (take i xs))) → Appends mid new (text_line (line i (get_or xs i d)))
    → Appends old new (flat_map text_line (numbered line 0 (take (i + 1) xs)))
numbered_out line xs i d old mid new lt front here = grind (arith, numbered_more line 0 xs i d lt, flat_map-append, append-nil, appends_then)

-- the lines before are out, and this one failed
pub numbered_failed : {X : Type 0} (line : ℕ → X → List (List ℕ)) (xs : List X) (i : ℕ) (d : X) (failed : Bool) (old mid new : Option (List ℕ)) → i < length xs
    → Appends old mid (flat_map text_line (numbered line 0 (take i xs))) → failed ≡ true → Outs failed mid new (text_line (line i (get_or xs i d)))
    → Outs failed old new (flat_map text_line (numbered line 0 xs))
numbered_failed line xs i d failed old mid new lt front e here = grind (arith, numbered_at line 0 xs i d lt, flat_map-append, outs_then, outs_before)

-- the text of a trace in the parts in which it is written
pub spelling_parts : {V : Type 0} (items : V → List Message) (caps : List ℕ) (places : List (Bor Entry)) (left : List V)
    → spelling caps (entries_in places) (map items left) ≡ text_line (head_pieces (version_of (entries_in places)))
    ++ (text_line (count_pieces (length caps)) ++ (flat_map text_line (numbered cap_pieces 0 caps) ++ (flat_map (λ e. text_line (entry_pieces e.now)) places
    ++ (flat_map text_line (numbered (λ b v. left_pieces b (items v)) 0 left) ++ text_line end_pieces))))
unfolding spelling lines_of
spelling_parts items caps places left = grind (arith, flat_map-append, numbered-map, flat_map-map)
