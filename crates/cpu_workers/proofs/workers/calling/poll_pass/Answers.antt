use Rattle.cpu_workers.proofs.Going.{ended_on, keeps_on}
use Rattle.cpu_workers.proofs.workers.calling.poll_pass.Goals as goal

-- a pass sees only effects of others, and leaves the call as it is

pub returns-in-Some-clause-on : goal.returns-in-Some-clause-on
returns-in-Some-clause-on g c =
    keeps_on _ _ (g.met.I.CallLayer.own_cpu _ _ c.requires.coupled) c.args.t c.args.call.now c.pass.ensures.history c.pass.ensures.call_states

pub returns-in-None-clause-on : goal.returns-in-None-clause-on
returns-in-None-clause-on g c =
    keeps_on _ _ (g.met.I.CallLayer.own_cpu _ _ c.requires.coupled) c.args.t c.args.call.now c.pass.ensures.history c.pass.ensures.call_states

pub returns-in-Some-clause-ended : goal.returns-in-Some-clause-ended
returns-in-Some-clause-ended g c = ended_on c.args.pass _ _ _ c.pass.result c.requires.keeps c.pass.ensures.passed.after

pub returns-in-None-clause-ended : goal.returns-in-None-clause-ended
returns-in-None-clause-ended g c = ended_on c.args.pass _ _ _ c.pass.result c.requires.keeps c.pass.ensures.passed.after
