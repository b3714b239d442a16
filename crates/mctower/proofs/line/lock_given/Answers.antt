use Rattle.{std.proofs.Common.{refl, codes}, clap.{specs.Matches.found_of, proofs.WalkLemmas.first_value-rows}}
use Rattle.mctower.proofs.line.lock_given.Goals as goal

pub returns-in-Some : goal.returns-in-Some
returns-in-Some c =
    rw (← first_value-rows (found_of c.args.matches.now) (codes "lock"), ← c.get_str.ensures, c.in-Some.is) c.named.ensures

pub returns-in-None : goal.returns-in-None
returns-in-None c = rw (← first_value-rows (found_of c.args.matches.now) (codes "lock"), ← c.get_str.ensures, c.in-None.is) refl
