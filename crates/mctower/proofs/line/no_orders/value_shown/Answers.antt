use Rattle.{clap.{specs.Matches.found_of, proofs.WalkLemmas.first_value-rows}, mctower.{specs.Faults.option_name, proofs.FaultLemmas.behind}}
use Rattle.mctower.proofs.line.no_orders.value_shown.Goals as goal

pub returns : goal.returns
returns c =
    rw (c.shown.ensures, c.unwrap_or.ensures, behind c.get_str.result _, c.get_str.ensures, c.option_name.ensures)
    (rw (first_value-rows (found_of c.args.matches.now) (option_name c.args.option)))
