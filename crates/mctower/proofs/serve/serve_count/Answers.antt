use Rattle.std.proofs.Common.{inr, rules}
use Rattle.mctower.proofs.serve.serve_count.Goals as goal

pub returns-clause-counts : goal.returns-clause-counts
returns-clause-counts g c =
    let plain = c.in-Ok.ensures in
    let table = c.in-Ok-count_table.ensures in
    inr (inr (
      c.in-Ok.counted,
      c.in-Ok-count_table.counted,
      (plain.all, plain.times, plain.lock, plain.at),
      (table.all, table.times, table.lock, table.at),
      search rules,
    ))
