-- The command line: which order the words after the program's name mean, by clap's reading of them.
use Rattle.std.specs.Prelude.{◌≡◌, ℕ, Bool, true, false, List, [], ◌∷◌, codes, Option, Some, None}
use Rattle.std.specs.Prelude.{Result, Ok, Err, option_map, option_and_then, if◌then◌else◌}
use Rattle.std.specs.{Prelude.string_bytes, Str.{bytes_eq, Parse.digits_value}}
use Rattle.std.specs.Str.Parse.{without_leading_plus}
use Rattle.clap.specs.{Walk.{Row, Rule, Text, first_of}, ValueTests.is_unsigned_in, Simple.App}
use Rattle.clap.specs.Simple.{Shape, new_app, new_rule, on_top, subcommand_of, with_rule}
use Rattle.clap.specs.{Simple.{with_subcommand, subcommand_rows_of}, declared.error.Error.Error}
use Rattle.clap.specs.{declared.parser.matches.ArgMatches.ArgMatches, Faults.fault_of}
use Rattle.{clap.specs.Kinds.{HasKind, Kinds}, boot.specs.declared.locks.LockKind.LockKind}
use Rattle.boot.specs.{declared.locks.LockKind.TheVariants.Grant, Locks.lock_named}
use Rattle.event_log.specs.declared.ids.TheConstants.{CPUS}
use Rattle.mctower.specs.declared.line.{TheConstants.{MOST_TIMES, MOST_TURNS}, Order.Order}
use Rattle.mctower.specs.declared.line.Order.TheVariants.{Count, Run, Threads, Check}
use Rattle.mctower.specs.declared.line.LineError.{LineError, TheVariants.{NoMemory, Refused}}

-- ---- the commands and their options

-- an option `--name VALUE` that has to be there
abbrev pub required_option : Text → Rule
required_option name = record (new_rule name) { long = Some name; required = true }

-- an option `--name VALUE` that may be left out
abbrev pub optional : Text → Rule
optional name = record (new_rule name) { long = Some name }

-- `count --cpus n --times k [--lock L]`
abbrev pub count_app : App
count_app =
    with_rule (with_rule (with_rule (new_app (codes "count")) (required_option (codes "cpus")))
    (required_option (codes "times")))
    (optional (codes "lock"))

-- `run [--schedule S]`
abbrev pub run_app : App
run_app = with_rule (new_app (codes "run")) (optional (codes "schedule"))

-- `threads --turns n`
abbrev pub threads_app : App
threads_app = with_rule (new_app (codes "threads")) (required_option (codes "turns"))

-- `check`
abbrev pub check_app : App
check_app = new_app (codes "check")

-- the words begin after the program's name
abbrev pub without_binary_name : Shape → Shape
without_binary_name s = record s { no_binary_name = true }

-- the program has a version, which `--version` asks for
abbrev pub with_version : Shape → Shape
with_version s = record s { has_version = true }

-- the program before its commands
abbrev pub bare_program : App
bare_program = on_top with_version (on_top without_binary_name (new_app (codes "mctower")))

-- the program with its four commands
unfoldable pub program : App
program =
    with_subcommand (with_subcommand
    (with_subcommand (with_subcommand bare_program count_app.top) run_app.top) threads_app.top)
    check_app.top

-- ---- the order that the words mean

-- an order as its command and values
pub data Ghost : Type 0 where
  count : ℕ → ℕ → LockKind → Ghost
  run : Option Text → Ghost
  threads : ℕ → Ghost
  check : Ghost

-- the number that a text spells by clap's rules (with or without a plus sign and leading zeros), in
-- this range
abbrev pub number_in : ℕ → ℕ → Text → Option ℕ
number_in least most text =
    if is_unsigned_in least most text then Some (digits_value 10 (without_leading_plus text))
    else None

-- the number that the option of this name has, in this range
abbrev pub option_number : ℕ → ℕ → Text → List Row → Option ℕ
option_number least most name rows = option_and_then (number_in least most) (first_of name rows)

-- the lock that is asked for by its name: one with a grant word for each waiter, if none is named
abbrev pub lock_asked : Option Text → Option LockKind
lock_asked None = Some Grant
lock_asked (Some name) = lock_named name

-- the order of the command `count` with these values: 1 to CPUS CPUs, 1 to MOST_TIMES sections for
-- each, and the lock
abbrev pub count_meant : List Row → Option Ghost
count_meant rows =
    option_and_then (λ cpus. option_and_then (λ times. option_map (λ lock. count cpus times lock)
    (lock_asked (first_of (codes "lock") rows))) (option_number 1 MOST_TIMES (codes "times") rows))
    (option_number 1 CPUS (codes "cpus") rows)

-- the order of the command `run` with these values
abbrev pub run_in : List Row → Option Ghost
run_in rows = Some (run (first_of (codes "schedule") rows))

-- the order of the command `threads` with these values: 1 to MOST_TURNS turns
abbrev pub threads_meant : List Row → Option Ghost
threads_meant rows =
    option_map (λ turns. threads turns) (option_number 1 MOST_TURNS (codes "turns") rows)

-- the order of a command by its name and its values
abbrev pub order_in : Text × List Row → Option Ghost
order_in found = if bytes_eq found.0 (codes "count") then count_meant found.1
    else (if bytes_eq found.0 (codes "run") then run_in found.1
    else (if bytes_eq found.0 (codes "threads") then threads_meant found.1
    else (if bytes_eq found.0 (codes "check") then Some check else None)))

-- the command that the words name, with its values
unfoldable pub found_in : List Text → Option (Text × List Row)
found_in words = subcommand_of program words

-- there is no kind of fault
abbrev pub is_faultless : Kinds → Bool
is_faultless [] = true
is_faultless (kind ∷ kinds) = false

-- The kinds of fault that clap's rules find in the words. An error has one of these kinds. A
-- request for help or for the version counts as a fault.
unfoldable pub faults_of : List Text → Kinds
faults_of words = fault_of program words

-- clap's rules find no fault in the words
unfoldable pub is_taken : List Text → Bool
is_taken words = is_faultless (faults_of words)

-- the order that the words mean, if the rules take them and each number is in its range
abbrev pub order_of : List Text → Option Ghost
order_of words = if is_taken words then option_and_then order_in (found_in words) else None

-- what an order means
abbrev pub ghost_by : Order → Ghost
ghost_by (Count cpus times lock) = count cpus times lock
ghost_by (Run schedule) = run (option_map string_bytes schedule)
ghost_by (Threads turns) = threads turns
ghost_by Check = check

-- a reading gives the order that is meant, or fails if none is meant, unless memory ran out
abbrev pub Reads : Option Ghost → Result Order LineError → Type 0
Reads ghost_of (Ok order) = ghost_of ≡ Some (ghost_by order)
Reads ghost_of (Err (NoMemory refused)) = Unit {0}
Reads ghost_of (Err Refused) = ghost_of ≡ None

-- Unless memory ran out, clap's parse accepts the words exactly if its rules do, and finds their
-- command and values. Else it names a fault according to these rules.
abbrev pub Parses : List Text → Result ArgMatches Error → Type 0
Parses words (Ok matches) = (is_taken words ≡ true) × (subcommand_rows_of matches ≡ found_in words)
Parses words (Err error) = HasKind (faults_of words) error

-- the same, with only the error for out of memory separated from the others
abbrev pub Finds : List Text → Result ArgMatches LineError → Type 0
Finds words (Ok matches) = (is_taken words ≡ true) × (subcommand_rows_of matches ≡ found_in words)
Finds words (Err (NoMemory refused)) = Unit {0}
Finds words (Err Refused) = is_taken words ≡ false
