use Rattle.std.proofs.Common.{arith, ◌%◌, ◌++◌}
use Rattle.{event_log.specs.{declared.{events.Event.TheVariants.Look, ids.TheConstants.CPUS}, Grants.grant_word}, layer_traits.proofs.GrantLemmas.adds_mapped}
use Rattle.layer_traits.{proofs.GrantLemmas.hits_as_grants, specs.{Protocols.{AsGrants.as_grants, WordsProtocol.words_legal}, Laws.AsGrants.stands_as_grants}}
use Rattle.layer_traits.proofs.uses_grant_words.AnyGrantWords.peek.Goals as goal

pub look-requires-clause-waiting : goal.look-requires-clause-waiting
look-requires-clause-waiting g c = grind (arith, words_legal, stands_as_grants, g.met.W.Words.legal)

pub returns-clause-adds : goal.returns-clause-adds
returns-clause-adds g c =
    let W = g.W.Words in
    let m = c.args.self.now in
    let adds = c.look.ensures.adds.1 in (
      grant_word c.args.lock (c.args.ticket % CPUS) (as_grants (adds.others ++ W.history m)),
      adds_mapped (W.ActsFor m) (Look c.args.cpu c.args.lock c.args.ticket c.look.ensures.adds.0) (W.history m) (W.history c.look.new.self) adds,
    )

pub returns-clause-hits : goal.returns-clause-hits
returns-clause-hits g c =
    let W = g.W.Words in
    let n = c.look.new.self in
    let acts = c.look.ensures.acts c.args.cpu c.requires.cpu in
    let legal = words_legal (g.W.Edit.SplitEdit.protocol.allowed (W.opening n)) (W.history n) (g.met.W.Words.legal n c.args.cpu acts) in
    hits_as_grants g.W.Edit.SplitEdit.protocol.edited (W.opening n) (W.history n) legal c.args.cpu c.args.lock c.args.ticket c.look.result c.look.ensures.hits
