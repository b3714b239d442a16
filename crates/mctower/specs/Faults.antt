-- Why the words of a command line make no order, and the lines that report it.
use Rattle.std.specs.Prelude.{◌≡◌, ◌≢◌, ◌≤◌, ◌++◌, ◌||◌, All, Bool, false, true, List, [], ◌∷◌}
use Rattle.std.specs.Prelude.{Option, Some, Result, Ok, Err, IfSome, IsSomeAnd, codes, bytes_eq}
use Rattle.std.specs.{Prelude.{decimal, if◌then◌else◌, length, unwrap_or}, List.find}
use Rattle.std.specs.Option.{is_none}
use Rattle.clap.specs.{Kinds.IsAmong, Walk.{Row, Text, first_of}}
use Rattle.clap.specs.declared.error.kind.ErrorKind.{ErrorKind, TheVariants.UnknownArgument}
use Rattle.clap.specs.declared.error.kind.ErrorKind.TheVariants.{InvalidSubcommand}
use Rattle.clap.specs.declared.error.kind.ErrorKind.TheVariants.{MissingRequiredArgument}
use Rattle.clap.specs.declared.error.kind.ErrorKind.TheVariants.{ArgumentConflict, InvalidValue}
use Rattle.clap.specs.declared.error.kind.ErrorKind.TheVariants.{TooManyValues, DisplayHelp}
use Rattle.clap.specs.declared.error.kind.ErrorKind.TheVariants.{DisplayVersion, OutOfMemory}
use Rattle.event_log.specs.declared.{ids.TheConstants.CPUS, refusals.NoMemory.NoMemory}
use Rattle.mctower.specs.{Help.{topic_of, usage_of}, Line.{faults_of, found_in, is_taken}}
use Rattle.mctower.specs.{Line.{lock_asked, option_number}, Print.shown_line}
use Rattle.mctower.specs.declared.line.TheConstants.{MOST_TIMES, MOST_TURNS}
use Rattle.mctower.specs.declared.refusals.line_faults.NoOrder.{NoOrder, TheVariants.AsksHelp}
use Rattle.mctower.specs.declared.refusals.line_faults.NoOrder.TheVariants.{AsksVersion, Faulty}
use Rattle.mctower.specs.declared.refusals.line_faults.LineFault.{LineFault, TheVariants.NotText}
use Rattle.mctower.specs.declared.refusals.line_faults.LineFault.TheVariants.{NoCommand, Words}
use Rattle.mctower.specs.declared.refusals.line_faults.LineFault.TheVariants.{Value}
use Rattle.mctower.specs.declared.refusals.line_faults.ValueOption.{ValueOption, TheVariants.Cpus}
use Rattle.mctower.specs.declared.refusals.line_faults.ValueOption.TheVariants.{Times, Lock, Turns}

-- ---- options with a value to be tested

-- the name of an option, without its dashes
abbrev pub option_name : ValueOption → Text
option_name Cpus = codes "cpus"
option_name Times = codes "times"
option_name Lock = codes "lock"
option_name Turns = codes "turns"

-- which values an option takes: its limits, or its names
abbrev pub expected_of : ValueOption → Text
expected_of Cpus = codes "1 to " ++ decimal CPUS
expected_of Times = codes "1 to " ++ decimal MOST_TIMES
expected_of Lock = codes "ticket or grant"
expected_of Turns = codes "1 to " ++ decimal MOST_TURNS

-- the value that an option has is none that it takes
abbrev pub is_bad : List Row → ValueOption → Bool
is_bad rows Cpus = is_none (option_number 1 CPUS (codes "cpus") rows)
is_bad rows Times = is_none (option_number 1 MOST_TIMES (codes "times") rows)
is_bad rows Lock = is_none (lock_asked (first_of (codes "lock") rows))
is_bad rows Turns = is_none (option_number 1 MOST_TURNS (codes "turns") rows)

-- the options of a command, in the order in which they are tested
abbrev pub options_of : Text → List ValueOption
options_of name = if bytes_eq name (codes "count") then Cpus ∷ Times ∷ Lock ∷ []
    else (if bytes_eq name (codes "threads") then Turns ∷ [] else [])

-- the first option of a command whose value is none that it takes
abbrev pub first_bad : Text × List Row → Option ValueOption
first_bad found = find (is_bad found.1) (options_of found.0)

-- the value of an option; the empty text where it has none
abbrev pub value_at : ValueOption → List Row → Text
value_at option rows = unwrap_or (first_of (option_name option) rows) []

-- ---- what is wrong

-- the name is one of the four commands'
abbrev pub is_command : Text → Bool
is_command name =
    bytes_eq name (codes "count")
    || (bytes_eq name (codes "run")
    || (bytes_eq name (codes "threads") || bytes_eq name (codes "check")))

-- This is wrong with a command, according to its name and its values. No command has the name, or
-- an option is the first with a value that it does not take.
abbrev pub IsFaultIn : Text × List Row → LineFault → Type 0
IsFaultIn found NoCommand = is_command found.0 ≡ false
IsFaultIn found (Value option shown) =
    (first_bad found ≡ Some option) × (shown.bytes ≡ shown_line (value_at option found.1))
IsFaultIn found fault = ⊥

-- a text as it may be shown in a line: at most 200 bytes, none of them a line feed
abbrev pub IsShown : Text → Type 0
IsShown text = (length text ≤ 200) × All (λ byte. byte ≢ 10) text

-- This is wrong with the words. Either clap's rules find a fault of this kind, which is no request
-- for help or the version, and what clap names fits in a line. Or they find none, and no command is
-- named, or the value of an option is the first that it does not take.
abbrev pub IsFault : List Text → LineFault → Type 0
IsFault words (Words kind named) =
    IsAmong kind (faults_of words) × (kind ≢ DisplayHelp) × (kind ≢ DisplayVersion)
    × IsShown named.bytes
IsFault words NoCommand =
    (is_taken words ≡ true) × IfSome (found_in words) (λ found. is_command found.0 ≡ false)
IsFault words (Value option shown) =
    (is_taken words ≡ true)
    × IsSomeAnd (found_in words) (λ found. IsFaultIn found (Value option shown))
IsFault words NotText = ⊥

-- the words ask for help, or for the version, by clap's rules; or this is wrong with them
abbrev pub IsWhy : List Text → NoOrder → Type 0
IsWhy words AsksHelp = IsAmong DisplayHelp (faults_of words)
IsWhy words AsksVersion = IsAmong DisplayVersion (faults_of words)
IsWhy words (Faulty fault) = IsFault words fault

-- why the words make no order is reported, unless memory ran out
abbrev pub TellsWhy : List Text → Result NoOrder NoMemory → Type 0
TellsWhy words (Ok why) = IsWhy words why
TellsWhy words (Err refused) = Unit {0}

-- an error of clap of this kind is reported as what it is, unless memory ran out
abbrev pub TellsKind : ErrorKind → Result NoOrder NoMemory → Type 0
TellsKind kind (Ok AsksHelp) = kind ≡ DisplayHelp
TellsKind kind (Ok AsksVersion) = kind ≡ DisplayVersion
TellsKind kind (Ok (Faulty (Words told named))) =
    (kind ≡ told) × (kind ≢ OutOfMemory) × (kind ≢ DisplayHelp) × (kind ≢ DisplayVersion)
    × IsShown named.bytes
TellsKind kind (Ok (Faulty fault)) = ⊥
TellsKind kind (Err refused) = Unit {0}

-- ---- the lines that report it

-- what is wrong with the words, by the kind of the fault that clap's rules find
abbrev pub kind_words : ErrorKind → Text
kind_words UnknownArgument = codes "unexpected argument"
kind_words InvalidSubcommand = codes "unknown command"
kind_words MissingRequiredArgument = codes "required option missing"
kind_words ArgumentConflict = codes "an option is given twice"
kind_words InvalidValue = codes "an option has no value"
kind_words TooManyValues = codes "an option takes no value"
kind_words kind = codes "the words are no command line"

-- a line with what is wrong and what it names, and two lines of usage of the words' command
abbrev pub fault_lines : List Text → Text → Text → Text
fault_lines words what named =
    codes "error: " ++ (what ++ (named ++ (10 ∷ usage_of (topic_of words))))

-- a line with an option, its value and what is expected there, and two lines of usage of the words'
-- command
abbrev pub value_lines : List Text → ValueOption → Text → Text
value_lines words option value =
    codes "error: --" ++ (option_name option
    ++ (32 ∷ (value ++ (codes ": expected "
    ++ (expected_of option ++ (10 ∷ usage_of (topic_of words)))))))

-- the whole text that reports what is wrong with the words; what clap names is shown as it names it
abbrev pub fault_text : List Text → LineFault → Text
fault_text words NotText = fault_lines words (codes "a word is not UTF-8 text") []
fault_text words NoCommand = fault_lines words (codes "no command is given") []
fault_text words (Words kind named) = fault_lines words (kind_words kind) named.bytes
fault_text words (Value option value) = value_lines words option value.bytes
