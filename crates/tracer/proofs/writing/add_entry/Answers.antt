use Rattle.std.proofs.{Common.{◌≡◌, ◌+◌, ◌-◌, ◌≤◌, length, arith}, lemmas.List.{drop-set, drop_all}}
use Rattle.{event_log.specs.declared.entries.Kind.{Kind}, tracer.{specs.TraceText.kind_word, proofs.LineLemmas.line_end}}
use Rattle.tracer.proofs.writing.add_entry.Goals as goal

kind_word_short : (k : Kind) → length (kind_word k) ≤ 5
kind_word_short k = grind arith

pub returns-clause-line : goal.returns-clause-line
returns-clause-line c =
    let short : length c.word_of.result.now ≤ 5 = rw c.word_of.ensures (kind_word_short c.args.entry.now.kind) in
    let next : c.add_number-cpu.result - 1 + 1 ≡ c.add_number-cpu.result = omega arith in
    rw (
      drop-set c.add_number-cpu.new.line (c.add_number-cpu.result - 1) 101 (omega arith),
      next,
      c.add_number-cpu.ensures.line,
      c.from-3.ensures,
      c.add_number-thread.ensures.line,
      c.from-2.ensures,
      c.add_word-kind.ensures.line,
      c.word_of.ensures,
      c.add_number-buffer.ensures.line,
      c.from.ensures,
      c.add_value-value.ensures.line,
      c.add_number-op.ensures.line,
      c.add_number-pos.ensures.line,
      drop-set c.args.line.now 287 10 (omega arith),
      drop_all 288 c.args.line.now (omega arith),
    ) (line_end _ _ _ _ _ _ _)
