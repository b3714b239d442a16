use Rattle.{std.proofs.Common.{refl, codes}, clap.{specs.Matches.found_of, proofs.WalkLemmas.first_value-rows}}
use Rattle.mctower.proofs.line.run_order.Goals as goal

pub returns-in_ok-from_str-in-Some : goal.returns-in_ok-from_str-in-Some
returns-in_ok-from_str-in-Some c =
    rw (← first_value-rows (found_of c.args.matches.now) (codes "schedule"), ← c.get_str.ensures, c.in-Some.is, c.in_ok-from_str-in-Some.ensures.ok) refl

pub returns-in-None : goal.returns-in-None
returns-in-None c = rw (← first_value-rows (found_of c.args.matches.now) (codes "schedule"), ← c.get_str.ensures, c.in-None.is) refl
