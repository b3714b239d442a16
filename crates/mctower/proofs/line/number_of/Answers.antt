use Rattle.{std.proofs.Common.refl, clap.{specs.Matches.found_of, proofs.WalkLemmas.first_value-rows}}
use Rattle.mctower.proofs.line.number_of.Goals as goal

pub returns-in_err-get_str : goal.returns-in_err-get_str
returns-in_err-get_str c =
    rw (c.from_residual.ensures, ← first_value-rows (found_of c.args.matches.now) c.args.name.now, ← c.get_str.ensures, c.in_err-get_str.was) refl

pub returns : goal.returns
returns c =
    rw (c.number.ensures, ← first_value-rows (found_of c.args.matches.now) c.args.name.now, ← c.get_str.ensures, c.in_ok-get_str.was) refl
