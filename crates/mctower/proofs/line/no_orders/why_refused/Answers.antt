use Rattle.{std.proofs.Common.rules, mctower.proofs.FaultLemmas.shown_so}
use Rattle.mctower.proofs.line.no_orders.why_refused.Goals as goal

pub returns-in_ok-named-in_default-kind : goal.returns-in_ok-named-in_default-kind
returns-in_ok-named-in_default-kind c =
    search (rules, shown_so c.shown.result.bytes c.as_str-in_default-kind.result.now c.shown.ensures)
