use Rattle.std.proofs.Common.{subst, sym, ◌∙◌, refl}
use Rattle.{event_log.specs.declared.ids.CpuId.CpuId, scheduler.proofs.StepLemmas.looked_fits}
use Rattle.scheduler.proofs.sched.SchedLayerSchedLaw.look.Goals as goal

pub returns-clause-framed : goal.returns-clause-framed
returns-clause-framed g c =
    let Q = g.Q.Layer in
    let law = g.met.Q.Layer in
    let protocol = g.E.SplitEdit.protocol in
    let mv = g.E.Moves.moves in
    let wakes = g.met.E.Moves.wakes_sleepers in
    let self = c.args.self.now in
    let m = c.args.m.now in
    let coupled = c.requires.coupled in
    let said = c.look.ensures in
    let acts = subst (λ d. Q.ActsFor m d) coupled.1.cpu (law.own_cpu self.lower m coupled.0) in
    let opens = law.opens m self.cpu acts in
    let legal = λ (cpu : CpuId) (acts : Q.ActsFor m cpu). rw said.framed.stays.opening at (law.lawful c.look.new.m cpu (said.framed.stays.acts cpu acts)) in
    record {
      coupled = (
        said.framed.coupled,
        rw said.framed.stays.opening
            (looked_fits protocol mv (Q.opening m) wakes opens said.history acts (legal self.cpu acts) said.framed.cpu said.call coupled.1),
      );
      cpu = refl;
      stays = said.framed.stays;
      others = λ p other theirs. let their = subst (λ d. Q.ActsFor m d) theirs.1.cpu (law.own_cpu p.lower m theirs.0) in (
        said.framed.others p.lower (λ e. other (sym theirs.1.cpu ∙ (e ∙ coupled.1.cpu))) theirs.0,
        rw said.framed.stays.opening (looked_fits protocol mv (Q.opening m) wakes opens said.history their (legal p.cpu their) refl refl theirs.1),
      );
      holders = λ d other acts held. said.framed.holders d (λ e. other (e ∙ coupled.1.cpu)) acts held;
    }
