use Rattle.{std.proofs.Common.{arith, ap}, cpu.{specs.Claims.SystemView, proofs.ListFacts.ListReads.{read_at, shown_index}}}
use Rattle.cpu.proofs.OverLayer.SystemOverLayer.{shown_by}
use Rattle.cpu.proofs.systems.System.trace.Goals as goal

pub returns : goal.returns
returns g c =
    let items = c.self.inside.cpus.items in
    let p = c.index-at.result.now in
    let shown = shown_by g.I.CallLayer in
    let at = read_at shown items c.args.self.now.cpus c.from.result c.args.cpu.0 p (ap (λ (s : SystemView). s.cpus) c.self.view_is) c.from.ensures c.requires
    c.index-at.ensures in
    grind (arith, shown_index, shown, items, p, at)
