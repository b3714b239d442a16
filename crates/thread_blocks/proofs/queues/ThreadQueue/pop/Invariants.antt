use Rattle.thread_blocks.proofs.queues.ThreadQueue.pop.Given as goal

abbrev pub ghosts-pop_from : goal.ghosts-pop_from
ghosts-pop_from a = record { name = a.blank.name; parts = a.blank.parts }
