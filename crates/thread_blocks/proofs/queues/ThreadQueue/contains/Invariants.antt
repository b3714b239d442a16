use Rattle.thread_blocks.proofs.queues.ThreadQueue.contains.Given as goal

abbrev pub ghosts-contains_from : goal.ghosts-contains_from
ghosts-contains_from a = record { name = a.blank.name; parts = a.blank.parts }
