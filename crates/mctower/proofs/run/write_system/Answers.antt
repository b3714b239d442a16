use Rattle.std.proofs.Common.{length, ap, sym, ◌∙◌}
use Rattle.mctower.proofs.{OrderNumbers.contents_length, SpellingLemmas.system_has}
use Rattle.mctower.proofs.run.write_system.Goals as goal

pub contents-left-requires-clause-all : goal.contents-left-requires-clause-all
contents-left-requires-clause-all g c =
    contents_length c.args.system.now c.holds.ensures.linearization ∙ ap length (c.requires.plan.system.caps ∙ sym c.requires.plan.caps)

pub write_text-requires-clause-text : goal.write_text-requires-clause-text
write_text-requires-clause-text g c =
    rw (c.deref.ensures.value, c.in_ok-traces.ensures, c.deref-2.ensures.0, c.contents-left.ensures)
    (system_has c.args.cpus c.args.caps.now c.args.system.now c.requires.plan c.traces_fit.ensures c.holds.ensures.stay c.holds.ensures.linearization)

pub returns : goal.returns
returns g c = rw (c.deref.ensures.value, c.in_ok-traces.ensures, c.deref-2.ensures.0, c.contents-left.ensures) at c.write_text.ensures
