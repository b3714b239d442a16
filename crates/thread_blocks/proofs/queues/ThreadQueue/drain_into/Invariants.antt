use Rattle.thread_blocks.proofs.queues.ThreadQueue.drain_into.Given as goal

abbrev pub ghosts-drain_from : goal.ghosts-drain_from
ghosts-drain_from a = record { name = a.blank.name; parts = a.blank.parts }
