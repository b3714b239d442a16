use Rattle.cpu_workers.{specs.declared.counting.TheConstants.NUMBER, proofs.Counts.{left_by_frees, made_back, number_is_left, number_read}}
use Rattle.{cpu_workers.proofs.TableKeys.{all_covered, all_over}, std.proofs.Common.refl}
use Rattle.cpu_workers.proofs.counting.counted.closed.Goals as goal

pub close-blocks-requires-clause-covers : goal.close-blocks-requires-clause-covers
close-blocks-requires-clause-covers g c = all_covered (made_back NUMBER c.args.times c.requires.came) refl

pub close-blocks-requires-clause-keys : goal.close-blocks-requires-clause-keys
close-blocks-requires-clause-keys g c = all_over (made_back NUMBER c.args.times c.requires.came)

pub returns-clause-number : goal.returns-clause-number
returns-clause-number g c =
    let is = number_is_left c.args.times c.args.shared c.args.keys.items c.close-blocks.result.items c.requires.came c.close-blocks.ensures
    c.requires.start c.requires.cpus c.requires.times in
    number_read c.close-blocks.result.items _ c.index.result.now is.0 c.index.ensures

pub returns-clause-frees : goal.returns-clause-frees
returns-clause-frees g c =
    left_by_frees c.args.times c.args.shared c.args.keys.items c.close-blocks.result.items c.requires.came c.close-blocks.ensures _ (returns-clause-number g c)
