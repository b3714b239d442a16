use Rattle.event_log.proofs.rings.Ring.items.Given as goal

abbrev pub ghosts-items_from : goal.ghosts-items_from
ghosts-items_from g a = record { name = a.blank.name; parts = a.blank.parts }
