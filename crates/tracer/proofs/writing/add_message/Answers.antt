use Rattle.std.proofs.Common.{List, ℕ, ◌++◌, drop, decimal, sym, ap, ◌∙◌, append_assoc}
use Rattle.{event_log.specs.Messages.first_word, tracer.{specs.Pieces.spaced, proofs.LineLemmas.message_parts}}
use Rattle.tracer.proofs.writing.add_message.Goals as goal

pub returns-clause-line : goal.returns-clause-line
returns-clause-line c =
    let m = c.args.message.now in
    let behind = drop c.args.end c.args.line.now in
    let others = rw c.words.ensures at c.add_words-at.ensures.line in
    rw (c.add_number.ensures.line, c.first.ensures, others) (sym (append_assoc (spaced (decimal (first_word m))) _ behind)
    ∙ ap (λ (t : List ℕ). t ++ behind) (sym (message_parts m c.len-count.result c.len-count.ensures.length c.len-count.ensures.some)))
