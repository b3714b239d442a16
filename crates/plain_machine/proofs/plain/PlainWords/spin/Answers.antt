use Rattle.std.proofs.Common.{◌%◌, ◌^◌, ap, refl, ◌∙◌}
use Rattle.{event_log.specs.WordsLog.{frees, lock_phase}, layer_traits.specs.Protocols.OneLock.opened, plain_machine.specs.Machine.event_list}
use Rattle.plain_machine.proofs.SpinLemmas.{grown_by, misses_by, spun_sound, waits_on}
use Rattle.plain_machine.proofs.plain.PlainWords.spin.Goals as goal

pub returns-clause-still : goal.returns-clause-still
returns-clause-still g c = λ none. λ i. record c.args.self.now { log = c.looks.ensures.still none i }

pub returns-clause-adds : goal.returns-clause-adds
returns-clause-adds g c =
    let old = event_list c.args.self.now.log in (
      frees c.args.lock old % 2 ^ 64,
      grown_by c.args.cpu c.args.lock c.args.ticket (frees c.args.lock old % 2 ^ 64) old (event_list c.looks.new.self) c.steps_of-looks.result
          c.requires.waiting
          c.looks.ensures.event_list,
    )

pub returns-clause-waits : goal.returns-clause-waits
returns-clause-waits g c =
    let w = c.args.self.now in
    let old = event_list w.log in
    let read = frees c.args.lock old % 2 ^ 64 in
    let grown = grown_by c.args.cpu c.args.lock c.args.ticket read old (event_list c.looks.new.self) c.steps_of-looks.result c.requires.waiting
    c.looks.ensures.event_list in
    let misses =
    misses_by g.K.LockQueueWords.Coupling g.E.SplitEdit.protocol (opened w.opening.value.items) w.cells.items c.args.cpu c.args.lock c.args.ticket read old
    c.requires.cpu.1 c.requires.lock c.requires.waiting c.serves.result c.if-serves.false c.serves.ensures in
    ap (lock_phase c.args.cpu) grown ∙ waits_on c.args.cpu c.args.lock c.args.ticket read old c.requires.waiting misses c.steps_of-looks.result

pub returns-clause-acts : goal.returns-clause-acts
returns-clause-acts g c = λ d acts.
    let w = c.args.self.now in
    let old = event_list w.log in
    let read = frees c.args.lock old % 2 ^ 64 in
    let grown = grown_by c.args.cpu c.args.lock c.args.ticket read old (event_list c.looks.new.self) c.steps_of-looks.result c.requires.waiting
    c.looks.ensures.event_list in
    let misses =
    misses_by g.K.LockQueueWords.Coupling g.E.SplitEdit.protocol (opened w.opening.value.items) w.cells.items c.args.cpu c.args.lock c.args.ticket read old
    c.requires.cpu.1 c.requires.lock c.requires.waiting c.serves.result c.if-serves.false c.serves.ensures in (
      acts.0,
      rw grown (spun_sound g.K.LockQueueWords.Coupling g.E.SplitEdit.protocol (opened w.opening.value.items) w.cells.items c.args.cpu c.args.lock c.args.ticket
          read
          old c.requires.waiting refl misses acts.1 c.steps_of-looks.result),
    )
