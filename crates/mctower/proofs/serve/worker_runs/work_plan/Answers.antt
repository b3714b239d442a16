use Rattle.std.proofs.Common.{inr, ℕ, length, map, Ok, Err, refl, ap, sym, ◌∙◌, subst}
use Rattle.{boot.specs.Plan.plan_of, cpu.specs.Claims.{buffer_at, listed}, cpu_workers.specs.Seating.items_of_block, mctower.specs.Output.between}
use Rattle.mctower.{specs.{Serve.WorksPlan, Texts.{HaveText, Writes}}, proofs.ThreadsLemmas.{not_written, of_read, report_has, plan_worked}}
use Rattle.mctower.proofs.serve.worker_runs.work_plan.Goals as goal

pub write_lists-requires-clause-text : goal.write_lists-requires-clause-text
write_lists-requires-clause-text g c =
    let caps = c.as_slice.ensures.value ∙ c.caps-caps.ensures.caps in
    let traces = ap (map (λ trace. trace.items)) (c.deref.ensures.value ∙ ap (λ v. v.items) c.into_parts-traces.ensures.traces) in
    let left = ap (map (λ v. v.items)) c.deref-2.ensures.0 ∙ c.left_in-left.ensures
    ∙ ap (λ (n : ℕ). listed (λ b. items_of_block c.in-Ok-run_workers.report.blocks.items (buffer_at b)) 0 n)
    (c.len.ensures.value ∙ ap length c.caps-caps.ensures.caps) in
    subst (λ x. x) (λ i. HaveText (sym caps i) (sym traces i) (sym left i))
    (report_has c.in-Ok.boot c.args.turns _ c.in-Ok.ensures.within c.in-Ok-run_workers.ensures.words.tells.report)

pub returns-in-Err-write_lists-clause-works : goal.returns-in-Err-write_lists-clause-works
returns-in-Err-write_lists-clause-works g c =
    let caps = c.as_slice.ensures.value ∙ c.caps-caps.ensures.caps in
    let traces = ap (map (λ trace. trace.items)) (c.deref.ensures.value ∙ ap (λ v. v.items) c.into_parts-traces.ensures.traces) in
    let left = ap (map (λ v. v.items)) c.deref-2.ensures.0 ∙ c.left_in-left.ensures
    ∙ ap (λ (n : ℕ). listed (λ b. items_of_block c.in-Ok-run_workers.report.blocks.items (buffer_at b)) 0 n)
    (c.len.ensures.value ∙ ap length c.caps-caps.ensures.caps) in
    of_read (WorksPlan c.args.turns) c.in-Ok.boot (plan_of c.args.plan.now) _ _ c.in-Ok.ensures.plan
    (not_written (Unit {0}) c.args.turns c.in-Ok.boot _ c.in-Ok-run_workers.report.stops c.in-Err-write_lists.fault _ _ c.in-Ok-run_workers.ensures.words refl
    (subst (λ x. x) (λ i. Writes {A = Unit {0}} (caps i) (traces i) (left i) (Err c.in-Err-write_lists.fault)
    (between g.O.Write.contents c.args.out.now c.write_lists.new.sink)) c.in-Err-write_lists.ensures) c.run_refused-in-Err-write_lists.ensures)

pub returns-clause-works : goal.returns-clause-works
returns-clause-works g c =
    let caps = c.as_slice.ensures.value ∙ c.caps-caps.ensures.caps in
    let traces = ap (map (λ trace. trace.items)) (c.deref.ensures.value ∙ ap (λ v. v.items) c.into_parts-traces.ensures.traces) in
    let left = ap (map (λ v. v.items)) c.deref-2.ensures.0 ∙ c.left_in-left.ensures
    ∙ ap (λ (n : ℕ). listed (λ b. items_of_block c.in-Ok-run_workers.report.blocks.items (buffer_at b)) 0 n)
    (c.len.ensures.value ∙ ap length c.caps-caps.ensures.caps) in
    of_read (WorksPlan c.args.turns) c.in-Ok.boot (plan_of c.args.plan.now) _ _ c.in-Ok.ensures.plan (inr
    (plan_worked c.args.turns c.in-Ok.boot _ c.into_parts-traces.result.1 c.write_output.result
    (between g.O.Write.contents c.args.out.now c.write_lists.new.sink)
    (between g.O.Write.contents c.args.out.now c.write_output.new.out) c.in-Ok-run_workers.ensures.words (ap (λ v. v.items) c.into_parts-traces.ensures.stops)
    (subst (λ x. x) (λ i. Writes {A = Unit {0}} (caps i) (traces i) (left i) (Ok c.in_default.field-0)
    (between g.O.Write.contents c.args.out.now c.write_lists.new.sink)) c.in_default.ensures)
    c.write_output.ensures.put.0 c.write_output.ensures.put.1.0 refl c.write_output.ensures.put.1.1))
