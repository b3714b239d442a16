use Rattle.{std.proofs.Common.{[]}, plain_machine.{specs.Machine.event_list, proofs.MachineLemmas.machine_draws}}
use Rattle.plain_machine.proofs.plain.PlainWords.draw.Goals as goal

pub returns-clause-adds : goal.returns-clause-adds
returns-clause-adds g c =
    let did = machine_draws c.requires.cpu.1 c.args.lock c.requires.lock c.args.cpu c.requires.cpu.0 c.requires.outside c.take-ticket.result
    c.take-ticket.new.cells.items c.take-ticket.ensures (event_list c.draw.new.self) c.draw.ensures.event_list in
    record { others = []; foreign = λ cpu acts. tt; is = did.0 }

pub returns-clause-acts : goal.returns-clause-acts
returns-clause-acts g c = λ cpu acts.
    let did = machine_draws c.requires.cpu.1 c.args.lock c.requires.lock c.args.cpu c.requires.cpu.0 c.requires.outside c.take-ticket.result
    c.take-ticket.new.cells.items c.take-ticket.ensures (event_list c.draw.new.self) c.draw.ensures.event_list in
    (acts.0, did.1)
