-- A text cut at the first place of a byte.
use Rattle.std.proofs.Common.{◌≡◌, ℕ, ◌+◌, ◌-◌, ◌<◌, ◌≤◌, ◌==◌, true, false, List, [], ◌∷◌, ◌++◌, length, get_or, take, drop, sym, ap, ◌∙◌, arith}
use Rattle.std.proofs.lemmas.{Bool.{cases_lt}, List.{take-append-drop, take_rest, drop_more, get_or-take, get_or-drop}}
use Rattle.std.proofs.lemmas.List.{length-take, length-drop, get_or_default, Folds.list_any_at, Splits.{slice_split_at, slice_split_none}}
use Rattle.{std.specs.{Array.IsFirstChunk, List.{list_any, slice_split}}, tracer.specs.Lines.IsFirstLine}

-- before the first place the byte does not occur
before_first : (at : ℕ) (text : List ℕ) (i : ℕ) → i < length text → ((k : ℕ) → k < i → (get_or text k 0 == at) ≡ false)
    → (k d : ℕ) → k < length (take i text) → (get_or (take i text) k d == at) ≡ false
before_first at text i lt before k d inside = grind (arith, length-take i text, get_or-take i text k d, get_or_default text k d 0, before k)

pub cut_whole : (text : List ℕ) (i : ℕ) → i < length text → take i text ++ get_or text i 0 ∷ drop (i + 1) text ≡ text
cut_whole text i lt = rw (← drop_more text i 0 lt) (take-append-drop i text)

pub cut_at : (at : ℕ) (text : List ℕ) (i : ℕ) → i < length text → ((k : ℕ) → k < i → (get_or text k 0 == at) ≡ false) → (get_or text i 0 == at) ≡ true
    → slice_split (λ b. b == at) text ≡ take i text ∷ slice_split (λ b. b == at) (drop (i + 1) text)
cut_at at text i lt before here =
    ap (slice_split (λ b. b == at)) (sym (cut_whole text i lt))
    ∙ slice_split_at (λ b. b == at) (take i text) (get_or text i 0) (drop (i + 1) text) (before_first at text i lt before) here

-- the text up to its first line feed
pub line_at : (text : List ℕ) (i : ℕ) → i < length text → ((k : ℕ) → k < i → (get_or text k 0 == 10) ≡ false) → get_or text i 0 ≡ 10
    → IsFirstLine text (take i text) (drop (i + 1) text)
line_at text i lt before here = grind (arith, cut_whole, before_first)

pub cut_none : (at : ℕ) (text : List ℕ) → ((k : ℕ) → k < length text → (get_or text k 0 == at) ≡ false) → slice_split (λ b. b == at) text ≡ text ∷ []
cut_none at text before =
    let none : (k : ℕ) (d : ℕ) → k < length text → (get_or text k d == at) ≡ false = λ k d inside. rw (get_or_default text k d 0 inside) (before k inside) in
    slice_split_none (λ b. b == at) text none

-- the n bytes from start on are in the text
pub chunk_inside : (text : List ℕ) (start n : ℕ) (chunk : List ℕ) → start ≤ length text → IsFirstChunk (take (length text - start) (drop start text)) chunk n
    → start + n ≤ length text
chunk_inside text start n chunk inside first = omega (arith, first.enough, ap length (take_rest text start), length-drop start text)

-- where they lack a byte that nothing before start is, nothing before their end is that byte
pub chunk_passed : (at : ℕ) (text : List ℕ) (start n : ℕ) (chunk : List ℕ) → start ≤ length text
    → IsFirstChunk (take (length text - start) (drop start text)) chunk n → list_any (λ b. b == at) chunk ≡ false
    → ((k : ℕ) → k < start → (get_or text k 0 == at) ≡ false) → (k : ℕ) → k < start + n → (get_or text k 0 == at) ≡ false
chunk_passed at text start n chunk inside first lacks before k below =
    grind (
      arith,
      cases_lt k start,
      take_rest text start,
      list_any_at (λ b. b == at) chunk (k - start) 0,
      get_or-take n (drop start text) (k - start) 0,
      get_or-drop start text (k - start) 0,
      length-take n (drop start text),
      length-drop start text,
      before k,
    )
