use Rattle.std.proofs.Common.{◌%◌, ◌^◌, ap, sym, ◌∙◌}
use Rattle.layer_traits.{specs.Protocols.{OneLock.opened, WordsProtocol.words_legal}, proofs.GrantLemmas.{tickets_as_grants, words_as_grants}}
use Rattle.plain_machine.{specs.Machine.event_list, proofs.MachineLemmas.shown_words}
use Rattle.plain_machine.proofs.plain.Plain+E+Granting.words.Goals as goal

pub returns-clause-next : goal.returns-clause-next
returns-clause-next g c =
    let w = c.args.self.now in
    let sound = c.requires.acts.1.1 in
    (shown_words sound c.args.lock c.requires.lock c.words-granting.result c.words-granting.ensures).0 ∙ ap (λ n. n % 2 ^ 64) (sym (tickets_as_grants
    (event_list w.log) (words_legal (g.E.SplitEdit.protocol.allowed (opened w.opening.value.items)) (event_list w.log) sound.legal) c.args.lock))

pub returns-clause-words : goal.returns-clause-words
returns-clause-words g c =
    let w = c.args.self.now in
    let sound = c.requires.acts.1.1 in
    words_as_grants (event_list w.log) (words_legal (g.E.SplitEdit.protocol.allowed (opened w.opening.value.items)) (event_list w.log) sound.legal) c.args.lock
    c.words-granting.result.lock.words (shown_words sound c.args.lock c.requires.lock c.words-granting.result c.words-granting.ensures).3
