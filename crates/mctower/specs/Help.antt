-- Which help and which usage the words of a command line get.
use Rattle.std.specs.Prelude.{ℕ, List, [], ◌∷◌, codes, bytes_eq, if◌then◌else◌}
use Rattle.mctower.specs.declared.line.help_texts.TheConstants.{PROGRAM, COUNT, RUN, THREADS, CHECK}
use Rattle.mctower.specs.declared.line.help_texts.TheConstants.{PROGRAM_USAGE, COUNT_USAGE}
use Rattle.mctower.specs.declared.line.help_texts.TheConstants.{RUN_USAGE, THREADS_USAGE}
use Rattle.mctower.specs.declared.line.help_texts.TheConstants.{CHECK_USAGE}

-- the command that the words name: the first word, or the one after `help`
abbrev pub topic_of : List (List ℕ) → List ℕ
topic_of [] = []
topic_of (word ∷ []) = word
topic_of (word ∷ name ∷ more) = if bytes_eq word (codes "help") then name else word

-- the help on a command; on the whole program where no command has the name
abbrev pub help_of : List ℕ → List ℕ
help_of name =
    if bytes_eq name (codes "count") then COUNT.now
    else if bytes_eq name (codes "run") then RUN.now
    else if bytes_eq name (codes "threads") then THREADS.now
    else if bytes_eq name (codes "check") then CHECK.now
    else PROGRAM.now

-- the two lines of usage of a command; of the whole program where no command has the name
abbrev pub usage_of : List ℕ → List ℕ
usage_of name =
    if bytes_eq name (codes "count") then COUNT_USAGE.now
    else if bytes_eq name (codes "run") then RUN_USAGE.now
    else if bytes_eq name (codes "threads") then THREADS_USAGE.now
    else if bytes_eq name (codes "check") then CHECK_USAGE.now
    else PROGRAM_USAGE.now
