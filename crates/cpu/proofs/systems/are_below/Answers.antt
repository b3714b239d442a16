use Rattle.std.proofs.Common.{◌≡◌, ◌<◌, length, rules}
use Rattle.cpu.proofs.ListFacts.GreatestCpu.{all_below, below_too}
use Rattle.cpu.proofs.systems.are_below.Goals as goal

pub returns-else-is_empty : goal.returns-else-is_empty
returns-else-is_empty c =
    let cpus = c.args.cpus.now in
    let end : c.loop-cpu.cpu-index ≡ length cpus = search rules in
    let some : 0 < length cpus = search rules in
    let is = c.loop-cpu.invariant in (
      (λ less. all_below cpus c.loop-cpu.most c.args.count c.loop-cpu.cpu-index end is (search (rules, less))),
      (λ all. let less = below_too cpus c.loop-cpu.most c.args.count c.loop-cpu.cpu-index end is some all in search (rules, less)),
    )
