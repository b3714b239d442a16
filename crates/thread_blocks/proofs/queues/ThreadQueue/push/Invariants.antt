use Rattle.thread_blocks.proofs.queues.ThreadQueue.push.Given as goal

abbrev pub ghosts-push_from : goal.ghosts-push_from
ghosts-push_from a = record { name = a.blank.name; parts = a.blank.parts }
