use Rattle.event_log.proofs.rings.Ring.put.Given as goal

abbrev pub ghosts-put_from : goal.ghosts-put_from
ghosts-put_from g a = record { name = a.blank.name; parts = a.blank.parts }
