use Rattle.std.proofs.Common.{◌≡◌, ℕ, Some, None, refl, ap}
use Rattle.{event_log.specs.{declared.ids.LockId.LockId, Actions.Try, Sections.{cpu_of_section, sections_in}}, spinlock.proofs.StageLemmas.acted_framed}
use Rattle.spinlock.{proofs.StageLemmas.{tried_fits, tried_again, unended, grown_by_none}, specs.declared.stages.TicketPhase.TicketPhase}
use Rattle.spinlock.specs.declared.stages.TicketPhase.TheVariants.{Holding, Waiting}
use Rattle.spinlock.proofs.spin_lock.SpinLockLayerLockLawEdit.look.Goals as goal

-- the edit that was taken out is the one that waited
same_edit : {E B : Type 0} {lock at : LockId} {edit kept : E} {ticket drawn : ℕ} (stage : TicketPhase E B) → stage ≡ Waiting lock edit ticket
    → stage ≡ Waiting at kept drawn → edit ≡ kept
same_edit stage is was = cc

-- a section that waits tries again, and enters
pub returns-in-Waiting-replace-clause-framed : goal.returns-in-Waiting-replace-clause-framed
returns-in-Waiting-replace-clause-framed g c =
    let cpu = c.args.self.now.cpu in
    let said = c.enter.ensures in
    let legal = g.met.M.FifoLock.legal c.enter.new.self cpu (said.acts cpu c.requires.coupled.0) in
    let was = rw c.in-Waiting.is at c.requires.coupled.1 in
    let edit_is = same_edit c.replace.result c.in-Waiting-replace.is (rw c.in-Waiting.is at c.replace.ensures.value) in
    acted_framed g.M.Edit.SplitEdit.protocol g.M.FifoLock.acts _ legal
    (record { opening = said.opening; machine_id = said.machine_id; room = said.room; acts = said.acts })
    c.requires.coupled.0 (Try cpu c.in-Waiting.lock said.adds.0) refl said.adds.1 refl
    (tried_fits g.M.Edit.SplitEdit.protocol said.opening legal c.in-Waiting.lock c.in-Waiting.edit c.in-Waiting.ticket said.adds.0 said.adds.1 was.0.1
    c.requires.coupled.0 was.1 was.2 (Some c.in-Some.block) c.in-Some.ensures.hits (Holding c.in-Waiting.lock c.in-Waiting-replace.edit c.in-Some.block)
    (ap (λ e. Holding c.in-Waiting.lock e c.in-Some.block) edit_is))

pub returns-in-Waiting-replace-clause-history : goal.returns-in-Waiting-replace-clause-history
returns-in-Waiting-replace-clause-history g c =
    unended (Try c.args.self.now.cpu c.in-Waiting.lock c.enter.ensures.adds.0) (λ past. refl) c.enter.ensures.adds.1

pub returns-in-Waiting-replace-clause-tries : goal.returns-in-Waiting-replace-clause-tries
returns-in-Waiting-replace-clause-tries g c = λ step looked.
    let said = c.enter.ensures in
    tried_again (g.met.M.FifoLock.legal c.enter.new.self c.args.self.now.cpu (said.acts c.args.self.now.cpu c.requires.coupled.0)) c.in-Waiting.lock said.adds.0
    said.adds.1

-- or the try fails
pub returns-in_default-clause-framed : goal.returns-in_default-clause-framed
returns-in_default-clause-framed g c =
    let cpu = c.args.self.now.cpu in
    let said = c.enter.ensures in
    let legal = g.met.M.FifoLock.legal c.enter.new.self cpu (said.acts cpu c.requires.coupled.0) in
    let was = rw c.in-Waiting.is at c.requires.coupled.1 in
    acted_framed g.M.Edit.SplitEdit.protocol g.M.FifoLock.acts _ legal
    (record { opening = said.opening; machine_id = said.machine_id; room = said.room; acts = said.acts })
    c.requires.coupled.0 (Try cpu c.in-Waiting.lock said.adds.0) refl said.adds.1 refl
    (tried_fits g.M.Edit.SplitEdit.protocol said.opening legal c.in-Waiting.lock c.in-Waiting.edit c.in-Waiting.ticket said.adds.0 said.adds.1 was.0.1
    c.requires.coupled.0 was.1 was.2 None c.in_default.ensures.hits c.args.self.now.stage c.in-Waiting.is)

pub returns-in_default-clause-history : goal.returns-in_default-clause-history
returns-in_default-clause-history g c =
    unended (Try c.args.self.now.cpu c.in-Waiting.lock c.enter.ensures.adds.0) (λ past. refl) c.enter.ensures.adds.1

pub returns-in_default-clause-tries : goal.returns-in_default-clause-tries
returns-in_default-clause-tries g c = λ step looked.
    let said = c.enter.ensures in
    tried_again (g.met.M.FifoLock.legal c.enter.new.self c.args.self.now.cpu (said.acts c.args.self.now.cpu c.requires.coupled.0)) c.in-Waiting.lock said.adds.0
    said.adds.1

-- and no other section does anything
pub returns-in-Out-clause-history : goal.returns-in-Out-clause-history
returns-in-Out-clause-history g c = grown_by_none (g.M.FifoLock.ActsFor c.args.m.now) cpu_of_section (sections_in (g.M.FifoLock.acts c.args.m.now))

pub returns-in-Holding-clause-history : goal.returns-in-Holding-clause-history
returns-in-Holding-clause-history g c = grown_by_none (g.M.FifoLock.ActsFor c.args.m.now) cpu_of_section (sections_in (g.M.FifoLock.acts c.args.m.now))
