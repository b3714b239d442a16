-- Facts on the reading of the command line.
use Rattle.std.proofs.Common.{◌≡◌, ◌≤◌, ◌<◌, ◌^◌, ◌∙◌, ◌∷◌, [], inl, inr, ℕ, true, false, List, Some, None, refl, sym, subst, ap, ap₂}
use Rattle.std.{proofs.lemmas.Bool.false_from_ne_true, specs.{Prelude.{if◌then◌else◌, IfOk, Result, Ok, Err}, Str.Parse.{IsNumeral, digits_value}}}
use Rattle.std.specs.Str.Parse.{without_leading_plus}
use Rattle.clap.specs.{Built.AddsSubcommand, Faults.{fault_of, is_simple_and_free}, Kinds.{FailsBy, HasKind, Kinds}, Simple.{App, HasMatchesOf, app_of}}
use Rattle.clap.specs.{Simple.{is_simple, subcommand_of, subcommand_rows_of, with_subcommand}, Values.kind_of, ValueTests.is_unsigned_in, Walk.Text}
use Rattle.clap.specs.declared.{builder.command.Command.{Command, TheViews.out-Command}, error.{Error.Error, kind.ErrorKind.TheVariants.OutOfMemory}}
use Rattle.clap.{specs.declared.parser.matches.ArgMatches.ArgMatches, proofs.{OnLiterals.clap_on_literals, ValueTestLemmas.{accepts-Accepts, Accepts-accepts}}}
use Rattle.mctower.specs.Line.{Parses, faults_of, found_in, is_faultless, is_taken, number_in, program}
use Rattle.clap.specs.declared.builder.value_parser.ValueParser.TheVariants as vp

-- ---- numbers

-- a number in range is the one that the text spells
pub number_taken : (least most n : ℕ) (text : Text) → IsNumeral 10 (without_leading_plus text) → digits_value 10 (without_leading_plus text) < 2 ^ 64
    → n ≡ digits_value 10 (without_leading_plus text) → least ≤ n → n ≤ most → Some n ≡ number_in least most text
number_taken least most n text numeral below same low high =
    ap Some same ∙ ap (λ b. if b then Some (digits_value 10 (without_leading_plus text)) else None)
    (sym (Accepts-accepts false (vp.Unsigned least most) text (numeral, below, rw (← same) low, rw (← same) high)))

-- a text that is no number of 64 bits has no number in any range
pub number_refused : (least most : ℕ) (text : Text) → ((IsNumeral 10 (without_leading_plus text) × (digits_value 10 (without_leading_plus text) < 2 ^ 64)) → ⊥)
    → None ≡ number_in least most text
number_refused least most text none =
    rw (false_from_ne_true (is_unsigned_in least most text) (λ e.
    let all = accepts-Accepts false (vp.Unsigned least most) text e in none (all.0, all.1))) refl

-- ---- the program's commands

-- what a program with one command more reads
pub program_grown : (old sub new : Command) (a b : App) → AddsSubcommand old sub new → app_of old ≡ a → app_of sub ≡ b
    → (out-Command sub).has_globals ≡ false → app_of new ≡ with_subcommand a b.top
program_grown old sub new a b adds above below local_is = adds.shape local_is ∙ ap₂ with_subcommand above (ap (λ (x : App). x.top) below)

-- ---- what clap makes of the words

-- clap returns the faults of the program's commands exactly
exact : is_simple_and_free program ≡ true
unfolding program clap_on_literals
exact = refl

-- clap returns the matches of the program's commands
simple : is_simple program ≡ true
unfolding program clap_on_literals
simple = refl

-- a parse that succeeds has the command and the values that its rules find, and they find no fault
pub parse_taken : (a : App) (words : List Text) (matches : ArgMatches) → a ≡ program → HasMatchesOf a words matches
    → (is_simple_and_free a ≡ true → fault_of a words ≡ []) → (is_taken words ≡ true) × (subcommand_rows_of matches ≡ found_in words)
unfolding is_taken faults_of found_in
parse_taken a words matches same has free = (
  ap (λ p. is_faultless (fault_of p words)) (sym same) ∙ ap is_faultless (free (ap is_simple_and_free same ∙ exact)),
  (has (ap is_simple same ∙ simple)).1 ∙ ap (λ p. subcommand_of p words) same,
)

-- a parse that fails has a fault that the rules find, unless memory ran out
pub parse_refused : (a : App) (words : List Text) (error : Error) → a ≡ program
    → (is_simple_and_free a ≡ true → HasKind (fault_of a words) error) → HasKind (faults_of words) error
unfolding faults_of
parse_refused a words error same has = subst (λ p. HasKind (fault_of p words) error) same (has (ap is_simple_and_free same ∙ exact))

-- a parse by the program's commands takes the words, or has a fault that the rules find
pub words_parsed : (a : App) (words : List Text) (result : Result ArgMatches Error) → a ≡ program
    → IfOk result (HasMatchesOf a words) → (is_simple_and_free a ≡ true → FailsBy (fault_of a words) result) → Parses words result
words_parsed a words (Ok matches) same has fails = parse_taken a words matches same has fails
words_parsed a words (Err error) same has fails = parse_refused a words error same fails

-- words with a fault for another cause than memory are not taken
pub not_taken : (words : List Text) (error : Error) → HasKind (faults_of words) error → (kind_of error ≡ OutOfMemory → ⊥) → is_taken words ≡ false
unfolding is_taken
not_taken words error has other = go (faults_of words) has where
  go : (kinds : Kinds) → HasKind kinds error → is_faultless kinds ≡ false
  go [] (inl memory) = absurd (other memory)
  go [] (inr among) = absurd among
  go (k ∷ ks) has = refl
