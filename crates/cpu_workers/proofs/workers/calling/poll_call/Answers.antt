use Rattle.std.proofs.Common.{◌≡◌, is_some, true, false, rules, ◌∙◌}
use Rattle.{layer_traits.specs.Views.OwnParts.threads_in, cpu_workers.proofs.Going.{answers_run, calls_on, done_rests, call_ends, called_on, ended_idles}}
use Rattle.cpu_workers.proofs.Going.{runs_on, asleep_calls_no_more}
use Rattle.cpu_workers.proofs.workers.calling.poll_call.Goals as goal

pub returns-in-Some-clause-ends : goal.returns-in-Some-clause-ends
returns-in-Some-clause-ends g c =
    let acts = g.met.I.CallLayer.own_cpu _ _ c.requires.coupled in
    let e = c.poll.ensures in
    let some = c.in-Some.is in
    let called = e.called c.requires.buffer in
    (e.under_way c.requires.buffer ∙ done_rests c.args.t _ _ _ some, ended_idles _ _ acts some called, call_ends _ _ acts some called)

pub returns-in-None-clause-goes : goal.returns-in-None-clause-goes
returns-in-None-clause-goes g c =
    let e = c.poll.ensures in
    let some : is_some ((threads_in (g.I.CallLayer.local c.poll.new.self)).current) ≡ true = search rules in
    let runs = runs_on c.args.t _ _ _ (e.runs c.requires.buffer) some in (
      e.under_way c.requires.buffer ∙ calls_on c.args.t _ _ c.in-None.is runs,
      runs,
      called_on _ _ (g.met.I.CallLayer.own_cpu _ _ c.requires.coupled) c.in-None.is (e.called c.requires.buffer),
    )

pub returns-in-None-2-clause-goes : goal.returns-in-None-2-clause-goes
returns-in-None-2-clause-goes g c =
    let e = c.poll.ensures in
    let none : is_some ((threads_in (g.I.CallLayer.local c.poll.new.self)).current) ≡ false = search rules in (
      e.under_way c.requires.buffer ∙ asleep_calls_no_more c.args.t _ _ c.in-None-2.is none,
      tt,
      called_on _ _ (g.met.I.CallLayer.own_cpu _ _ c.requires.coupled) c.in-None-2.is (e.called c.requires.buffer),
    )

pub returns-in-Some-clause-runs : goal.returns-in-Some-clause-runs
returns-in-Some-clause-runs g c = answers_run c.args.t _ _ _ _ c.in-Some.is (c.poll.ensures.runs c.requires.buffer)

pub returns-in-Some-clause-ended : goal.returns-in-Some-clause-ended
returns-in-Some-clause-ended g c = (c.poll.ensures.runs c.requires.buffer).ended

pub returns-in-None-clause-ended : goal.returns-in-None-clause-ended
returns-in-None-clause-ended g c = (c.poll.ensures.runs c.requires.buffer).ended

pub returns-in-None-2-clause-ended : goal.returns-in-None-2-clause-ended
returns-in-None-2-clause-ended g c = (c.poll.ensures.runs c.requires.buffer).ended
