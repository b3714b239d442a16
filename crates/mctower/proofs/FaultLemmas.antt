-- Facts on what is wrong with the words of a command line.
use Rattle.std.proofs.Common.{◌≡◌, ◌≢◌, ◌∙◌, ◌<◌, ℕ, Bool, true, false, List, Option, Some, None, refl, sym, subst, ap, option_map, arith, get_or, length, lit≤}
use Rattle.std.{proofs.lemmas.{Bool.leb-true, List.{Elements.All-from_recursion, get_or-take, length-take, Sums.fails_before_first}}, specs.Prelude.All}
use Rattle.std.specs.{Prelude.{codes, if◌then◌else◌, nat_le, unwrap_or}, Borrow.Bor, List.{before_first, position_or_len}}
use Rattle.mctower.specs.{Faults.IsShown, Print.{is_line_feed, shown_line}}

-- what is read of a reference or of another in its place
pub behind : (value : Option (Bor (List ℕ))) (other : Bor (List ℕ))
    → (unwrap_or value other).now ≡ unwrap_or (option_map (λ (s : Bor (List ℕ)). s.now) value) other.now
behind None other = refl
behind (Some text) other = refl

-- ---- what is shown in a line

-- a byte that ends no line is no line feed
other : (byte : ℕ) → is_line_feed byte ≡ false → byte ≢ 10
other byte ends_none same = absurd (cc (rw same at ends_none))

-- no byte before the first line feed is one
before : (text : List ℕ) → All (λ byte. byte ≢ 10) (before_first is_line_feed text)
before text k d below =
    let at = position_or_len is_line_feed text in
    let within : k < at = (let long = length-take at text in omega (arith, long, below)) in
    other (get_or (before_first is_line_feed text) k d) (ap is_line_feed (get_or-take at text k d within) ∙ fails_before_first is_line_feed text k d within)

-- two dots may be shown
dots : IsShown (codes "..")
dots = (lit≤ tt, All-from_recursion (λ byte. byte ≢ 10) (codes "..") ((λ same. omega (arith, same)), ((λ same. omega (arith, same)), tt)))

-- and so may what is shown of any text
pub may_be_shown : (text : List ℕ) → IsShown (shown_line text)
may_be_shown text = go (nat_le (length (before_first is_line_feed text)) 200) refl
  where
    go : (b : Bool) → nat_le (length (before_first is_line_feed text)) 200 ≡ b → IsShown (if b then before_first is_line_feed text else codes "..")
    go true short = (leb-true (length (before_first is_line_feed text)) 200 short, before text)
    go false long = dots

-- a text that is shown so may be
pub shown_so : (shown text : List ℕ) → shown ≡ shown_line text → IsShown shown
shown_so shown text is = subst IsShown (sym is) (may_be_shown text)
