use Rattle.std.proofs.{Common.{◌≡◌, ◌+◌, ◌*◌, ◌/◌, ◌%◌, ◌∷◌, [], reverse, ap, ◌∙◌, arith}, lemmas.List.reverse-append}
use Rattle.{event_log.specs.Log.events_in, plain_machine.specs.{Stored.{repeated, told}, declared.notes.Note.TheVariants.Again, Machine.event_list}}
use Rattle.plain_machine.proofs.NoteLemmas.{told_again, repeated_more}
use Rattle.plain_machine.proofs.notes.Notes.again.Goals as goal

pub returns-then-rest-ne0-clause-event_list : goal.returns-then-rest-ne0-clause-event_list
returns-then-rest-ne0-clause-event_list g c =
    let marks = reverse (events_in c.args.self.now.marks) in
    let times = c.args.times in
    let full = events_in c.push_copies.new.self in
    let whole : times % 65535 + times / 65535 * 65535 ≡ times = omega arith in
    ap (told (reverse (events_in c.put.new.self.notes))) (ap (λ ms. reverse (events_in ms)) c.put.ensures.marks)
    ∙ (ap (λ notes. told (reverse notes) marks) c.put.ensures.notes
    ∙ (ap (λ notes. told notes marks) (reverse-append full (Again (times % 65535) ∷ []))
    ∙ (ap (λ notes. repeated (times % 65535) (told (reverse notes) marks)) c.push_copies.ensures.pushed
    ∙ (ap (repeated (times % 65535)) (told_again 65535 (times / 65535) (events_in c.args.self.now.notes) marks)
    ∙ (repeated_more (times % 65535) (times / 65535 * 65535) (event_list c.args.self.now)
    ∙ ap (λ n. repeated n (event_list c.args.self.now)) whole)))))

pub returns-else-rest-ne0-clause-event_list : goal.returns-else-rest-ne0-clause-event_list
returns-else-rest-ne0-clause-event_list g c =
    let marks = reverse (events_in c.args.self.now.marks) in
    let times = c.args.times in
    let whole : times / 65535 * 65535 ≡ times = omega (arith, c.if-rest-ne0.false) in
    ap (λ notes. told (reverse notes) marks) c.push_copies.ensures.pushed
    ∙ (told_again 65535 (times / 65535) (events_in c.args.self.now.notes) marks
    ∙ ap (λ n. repeated n (event_list c.args.self.now)) whole)
