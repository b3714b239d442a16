-- How the program shows a text of the caller's in a line.
use Rattle.std.specs.Prelude.{◌==◌, ℕ, Bool, List, codes, if◌then◌else◌, length, nat_le}
use Rattle.std.specs.List.{before_first}

-- the byte ends a line
abbrev pub is_line_feed : ℕ → Bool
is_line_feed byte = byte == 10

-- a text as it is shown in a line: what is before its first line feed, or two dots if that has more
-- than 200 bytes
abbrev pub shown_line : List ℕ → List ℕ
shown_line text =
    if nat_le (length (before_first is_line_feed text)) 200 then before_first is_line_feed text
    else codes ".."
