use Rattle.{std.proofs.Common.arith, event_log.specs.declared.events.Event.TheVariants.Free, layer_traits.proofs.GrantLemmas.adds_mapped}
use Rattle.layer_traits.specs.{Laws.AsGrants.{sections_as_grants, stands_as_grants}, Protocols.WordsProtocol.{mark_of, words_legal}}
use Rattle.layer_traits.proofs.uses_grant_words.AnyGrantWords.give.Goals as goal

pub free-requires-clause-inside : goal.free-requires-clause-inside
free-requires-clause-inside g c = grind (arith, words_legal, stands_as_grants, g.met.W.Words.legal)

pub free-requires-clause-edited : goal.free-requires-clause-edited
free-requires-clause-edited g c = grind (arith, words_legal, sections_as_grants, g.met.W.Words.legal)

pub free-requires-clause-allowed : goal.free-requires-clause-allowed
free-requires-clause-allowed g c = grind (arith, words_legal, sections_as_grants, g.met.W.Words.legal)

pub returns-clause-adds : goal.returns-clause-adds
returns-clause-adds g c =
    let W = g.W.Words in
    let m = c.args.self.now in
    adds_mapped (W.ActsFor m) (Free c.args.cpu c.args.lock (mark_of (W.edit_in c.args.mark))) (W.history m) (W.history c.free.new.self) c.free.ensures.adds
