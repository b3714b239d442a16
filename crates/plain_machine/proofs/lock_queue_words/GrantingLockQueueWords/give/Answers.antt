use Rattle.std.proofs.{Common.{◌∙◌}, Math.ListN.length-set}
use Rattle.{plain_machine.proofs.GrantLemmas.words_granted, event_log.proofs.Tickets.next_rests}
use Rattle.plain_machine.proofs.lock_queue_words.GrantingLockQueueWords.give.Goals as goal

pub returns : goal.returns
returns c = λ taken given coupled.
    let w = c.args.self.now in (
      coupled.0,
      next_rests given w.served coupled.1,
      length-set w.lock.words c.word_of.result _ ∙ coupled.2,
      words_granted w.lock.words coupled.2 given w.served c.word_of.result coupled.1 c.word_of.ensures.is coupled.3,
    )
