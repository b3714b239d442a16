use Rattle.std.proofs.Common.{[], ◌%◌, ◌^◌}
use Rattle.{event_log.specs.WordsLog.frees, plain_machine.{specs.Machine.event_list, proofs.MachineLemmas.machine_looks}}
use Rattle.plain_machine.proofs.plain.PlainWords.look.Goals as goal

pub returns-clause-adds : goal.returns-clause-adds
returns-clause-adds g c =
    let did = machine_looks c.requires.cpu.1 c.args.lock c.requires.lock c.args.cpu c.args.ticket c.requires.waiting c.look-2.result c.look-2.new.cells.items
    c.look-2.ensures (event_list c.look.new.self) c.look.ensures.event_list in
    (frees c.args.lock (event_list c.args.self.now.log) % 2 ^ 64, record { others = []; foreign = λ cpu acts. tt; is = did.0 })

pub returns-clause-hits : goal.returns-clause-hits
returns-clause-hits g c =
    (machine_looks c.requires.cpu.1 c.args.lock c.requires.lock c.args.cpu c.args.ticket c.requires.waiting c.look-2.result c.look-2.new.cells.items
    c.look-2.ensures (event_list c.look.new.self) c.look.ensures.event_list).1

pub returns-clause-acts : goal.returns-clause-acts
returns-clause-acts g c = λ cpu acts.
    let did = machine_looks c.requires.cpu.1 c.args.lock c.requires.lock c.args.cpu c.args.ticket c.requires.waiting c.look-2.result c.look-2.new.cells.items
    c.look-2.ensures (event_list c.look.new.self) c.look.ensures.event_list in
    (acts.0, did.2)
