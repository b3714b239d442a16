use Rattle.std.proofs.Common.{option_map, ◌∙◌}
use Rattle.{layer_traits.specs.Blocks.Payloads.{abstract_sched_answer, abstract_result}, sleep_wakeup.specs.Nested.abstract_nested_answer}
use Rattle.sleep_wakeup.{specs.Parts.abstract_deferred, proofs.PollLemmas.{done_told, nested_pass_follows, nested_passed}}
use Rattle.sleep_wakeup.proofs.sleeper.SleeperThreadLayerSleepLaw.pass.Goals as goal

pub returns-clause-history : goal.returns-clause-history
returns-clause-history g c =
    let abstract_answer = abstract_sched_answer (abstract_nested_answer g.E.Sleeps.abstract_answer) in
    let answered = c.poll-answer in
    nested_passed g.E.Sleeps.protocol _ _ _ (abstract_result abstract_answer answered.result answered.new.payload) _ _ _ _ c.args.call c.done.result
    (c.done.ensures ∙ done_told abstract_answer answered.result answered.new.payload) answered.ensures.history

pub returns-clause-follows : goal.returns-clause-follows
returns-clause-follows g c = λ step.
    let S = g.S.Layer in
    let m = c.args.m.now in
    let abstract_answer = abstract_sched_answer (abstract_nested_answer g.E.Sleeps.abstract_answer) in
    let answered = c.poll-answer in
    nested_pass_follows g.E.Sleeps.protocol (S.opening m) (λ d. S.ActsFor m d) (S.cpu_of c.args.self.now.lower) (S.acts m) (S.acts answered.new.m) _ _
    (abstract_result abstract_answer answered.result answered.new.payload) (option_map (abstract_deferred g.E.Sleeps.abstract_answer) c.args.self.now.deferred)
    c.args.call c.done.result
    (c.done.ensures ∙ done_told abstract_answer answered.result answered.new.payload) (answered.ensures.follows step)
