use Rattle.{std.proofs.Common.arith, event_log.specs.declared.events.Event.TheVariants.Draw, layer_traits.proofs.GrantLemmas.adds_mapped}
use Rattle.layer_traits.specs.{Laws.AsGrants.stands_as_grants, Protocols.WordsProtocol.words_legal}
use Rattle.layer_traits.proofs.uses_grant_words.AnyGrantWords.take.Goals as goal

pub draw-requires-clause-outside : goal.draw-requires-clause-outside
draw-requires-clause-outside g c = grind (arith, words_legal, stands_as_grants, g.met.W.Words.legal)

pub returns-clause-adds : goal.returns-clause-adds
returns-clause-adds g c =
    let W = g.W.Words in
    let m = c.args.self.now in
    adds_mapped (W.ActsFor m) (Draw c.args.cpu c.args.lock c.draw.result) (W.history m) (W.history c.draw.new.self) c.draw.ensures.adds
