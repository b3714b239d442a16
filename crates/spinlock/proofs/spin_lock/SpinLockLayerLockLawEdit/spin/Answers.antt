use Rattle.std.proofs.Common.{ap, sym, ◌∙◌}
use Rattle.{layer_traits.{proofs.SpinLemmas.{left_same, none_missed}, specs.Polling.Plans.is_in_section}, spinlock.proofs.MissLemmas.spun_fits}
use Rattle.spinlock.proofs.spin_lock.SpinLockLayerLockLawEdit.spin.Goals as goal

-- tries that all failed leave each stage unchanged
pub returns-in-Waiting-clause-spun : goal.returns-in-Waiting-clause-spun
returns-in-Waiting-clause-spun g c =
    let M = g.M.FifoLock in
    let m = c.args.m.now in
    let n = c.spin.new.self in
    let cpu = c.args.self.now.cpu in
    let said = c.spin.ensures in
    let same = left_same cpu c.spin.result (M.acts m) (M.acts n) said.misses in
    record {
      opening = said.opening;
      machine_id = said.machine_id;
      history = same.sections;
      room = said.room;
      acts = said.acts;
      coupled = λ p coupled. (
        said.acts p.cpu coupled.0,
        spun_fits g.M.Edit.SplitEdit.protocol (M.opening m) (M.opening n) said.opening cpu c.spin.result (M.acts m) (M.acts n) said.misses p.cpu p.stage
            coupled.1,
      );
      holders = λ d held. ap is_in_section (sym (same.phases d)) ∙ held;
    }

pub returns-in-Waiting-clause-outside : goal.returns-in-Waiting-clause-outside
returns-in-Waiting-clause-outside g c = λ d outside.
    let M = g.M.FifoLock in
    let same = left_same c.args.self.now.cpu c.spin.result (M.acts c.args.m.now) (M.acts c.spin.new.self) c.spin.ensures.misses in
    (g.met.M.FifoLock.rests c.spin.new.self d).1 (same.phases d ∙ (g.met.M.FifoLock.rests c.args.m.now d).0 outside)

-- and no other section does anything
pub returns-in-Out-clause-tries : goal.returns-in-Out-clause-tries
returns-in-Out-clause-tries g c = λ step. none_missed c.args.self.now.cpu (g.M.FifoLock.acts c.args.m.now)

pub returns-in-Holding-clause-tries : goal.returns-in-Holding-clause-tries
returns-in-Holding-clause-tries g c = λ step. none_missed c.args.self.now.cpu (g.M.FifoLock.acts c.args.m.now)
