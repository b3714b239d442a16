use Rattle.std.proofs.Common.{arith, ◌%◌, ◌++◌, replicate, ap, ◌∙◌}
use Rattle.{event_log.specs.{declared.{ids.TheConstants.CPUS, events.Event.TheVariants.Look}, Grants.grant_word}, layer_traits.proofs.SpinLemmas.as_peeks}
use Rattle.layer_traits.specs.{Protocols.{AsGrants.as_grants, WordsProtocol.words_legal}, Laws.AsGrants.stands_as_grants}
use Rattle.layer_traits.proofs.uses_grant_words.AnyGrantWords.spin.Goals as goal

pub spin-requires-clause-waiting : goal.spin-requires-clause-waiting
spin-requires-clause-waiting g c = grind (arith, words_legal, stands_as_grants, g.met.W.Words.legal)

pub returns-clause-adds : goal.returns-clause-adds
returns-clause-adds g c =
    let W = g.W.Words in
    let m = c.args.self.now in
    let adds = c.spin.ensures.adds in (
      grant_word c.args.lock (c.args.ticket % CPUS) (as_grants (W.history m)),
      ap as_grants {y = replicate c.spin.result (Look c.args.cpu c.args.lock c.args.ticket adds.0) ++ W.history m} adds.1
          ∙ as_peeks c.args.cpu c.args.lock c.args.ticket adds.0 (W.history m) c.spin.result,
    )

pub returns-clause-waits : goal.returns-clause-waits
returns-clause-waits g c = grind (arith, words_legal, stands_as_grants, g.met.W.Words.legal)
