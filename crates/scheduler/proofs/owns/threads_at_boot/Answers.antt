use Rattle.std.proofs.Common.{[], ◌∷◌, ◌++◌, ap, sym, ◌∙◌}
use Rattle.{event_log.proofs.Same.cpu_numbered, thread_blocks.proofs.Members.tid_numbered, scheduler.proofs.BootLemmas.{next_new, homed_joins, homed_stays}}
use Rattle.scheduler.proofs.owns.threads_at_boot.Goals.{then-cpu-homes, else-cpu-homes}
use Rattle.scheduler.proofs.owns.threads_at_boot.Goals as goal

pub push-requires-clause-new : goal.push-requires-clause-new
push-requires-clause-new c = rw c.loop-i.invariant (next_new c.args.cpu c.args.homes.now c.loop-i.i)

pub loop-i-preserved : goal.loop-i-preserved
loop-i-preserved c = elim c.if-cpu-homes.branch [
  | then-cpu-homes w ↦
      let is = homed_joins c.args.cpu c.args.homes.now c.loop-i.i (cpu_numbered 0) c.loop-i-test.true w.if-cpu-homes.true in
      w.ready-is ∙ (w.push.ensures ∙ (ap (λ q. q ++ tid_numbered c.loop-i.i ∷ []) c.loop-i.invariant ∙ sym is))
  | else-cpu-homes w ↦
      let is = homed_stays c.args.cpu c.args.homes.now c.loop-i.i (cpu_numbered 0) c.loop-i-test.true w.if-cpu-homes.false in
      w.ready-is ∙ (c.loop-i.invariant ∙ sym is)
]
