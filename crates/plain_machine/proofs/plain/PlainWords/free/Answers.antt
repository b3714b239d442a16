use Rattle.{std.proofs.Common.{[]}, plain_machine.{specs.Machine.event_list, proofs.MachineLemmas.machine_frees}}
use Rattle.plain_machine.proofs.plain.PlainWords.free.Goals as goal

pub returns-clause-adds : goal.returns-clause-adds
returns-clause-adds g c = record { others = []; foreign = λ cpu acts. tt; is = c.free.ensures.event_list }

pub returns-clause-acts : goal.returns-clause-acts
returns-clause-acts g c = λ cpu acts. (
  acts.0,
  machine_frees c.requires.cpu.1 c.args.lock c.requires.lock c.args.cpu c.requires.inside.0 c.args.mark c.args.block c.requires.inside.1 c.requires.edited
      c.requires.allowed c.give.new.cells.items c.give.ensures (event_list c.free.new.self) c.free.ensures.event_list,
)
