use Rattle.std.proofs.Common.{◌∙◌, ap}
use Rattle.layer_traits.proofs.Alone.{acts_alone}
use Rattle.spinlock.proofs.sections.alone.Goals as goal

pub returns-clause-acts : goal.returns-clause-acts
returns-clause-acts g c =
    let said = c.poll-response.ensures in
    let cpu = g.L.Layer.cpu_of c.args.part.now in
    let local = g.met.L.Layer.own_cpu c.args.part.now c.args.m.now c.requires.coupled in
    let legal = g.met.L.Layer.legal c.poll-response.new.m cpu (said.framed.stays.acts cpu local) in
    rw c.hand_on-handed.ensures at (acts_alone _ _ _ _ _ _ _ _ _ _ c.requires.all legal (said.follows c.requires.stepwise)).0

pub returns-clause-answer : goal.returns-clause-answer
returns-clause-answer g c =
    let said = c.poll-response.ensures in
    let cpu = g.L.Layer.cpu_of c.args.part.now in
    let local = g.met.L.Layer.own_cpu c.args.part.now c.args.m.now c.requires.coupled in
    let legal = g.met.L.Layer.legal c.poll-response.new.m cpu (said.framed.stays.acts cpu local) in
    c.answer_in.ensures ∙ ap (λ left. left.answer)
    (rw c.hand_on-handed.ensures at (acts_alone _ _ _ _ _ _ _ _ _ _ c.requires.all legal (said.follows c.requires.stepwise)).1)
