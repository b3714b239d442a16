-- The pieces that were read one after another are the line of the entry that they make.
use Rattle.std.{proofs.Common.{◌≡◌, ◌∙◌, ap}, specs.Prelude.decimal}
use Rattle.{event_log.specs.Messages.Message, tracer.{specs.TraceText.{kind_word, value_piece}, proofs.CommonLemmas.{line_joined, value_of_one}}}
use Rattle.tracer.proofs.common_lines.common_entry.Goals as goal

pub returns-clause-text : goal.returns-clause-text
returns-clause-text c =
    let value : value_piece c.in_ok-kind.kind c.one.result ≡ decimal c.in_ok-word.word = ap (λ (m : Message). value_piece c.in_ok-kind.kind m) c.one.ensures
    ∙ value_of_one c.in_ok-kind.kind c.in_ok-word.word c.in_ok-kind.ensures.version in
    rw value (line_joined (decimal c.in_ok-cpu.cpu) (decimal c.in_ok-thread.thread) (kind_word c.in_ok-kind.kind) (decimal c.in_ok-buffer.buffer)
    (decimal c.in_ok-word.word) (decimal c.in_ok-op.op) (decimal c.in_ok-pos.pos) c.args.text.now c.in_ok-rest.rest.now c.in_ok-cpu.rest.now
    c.in_ok-thread.rest.now c.in_ok-kind.rest.now c.in_ok-buffer.rest.now c.in_ok-word.rest.now c.in_ok-op.rest.now c.in_ok-pos.behind.now
    c.in_ok-rest.ensures.text c.in_ok-cpu.ensures.text c.in_ok-thread.ensures.text c.in_ok-kind.ensures.text c.in_ok-buffer.ensures.text
    c.in_ok-word.ensures.text c.in_ok-op.ensures.text c.in_ok-pos.ensures.text)
