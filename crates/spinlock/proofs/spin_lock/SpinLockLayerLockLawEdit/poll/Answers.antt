use Rattle.std.proofs.Common.{refl, ap, ◌∙◌}
use Rattle.{event_log.specs.{Actions.{Take, Try, Give}, Sections.Section}, spinlock.proofs.StageLemmas.{acted_framed, joined_fits, joined_follows}}
use Rattle.spinlock.proofs.StageLemmas.{tried_fits, tried_follows, left_fits, left_polled, left_follows, unended, poll_unanswered}
use Rattle.spinlock.proofs.spin_lock.SpinLockLayerLockLawEdit.poll.Goals as goal

-- a section begins, which stays allowed: its CPU joins the queue
pub returns-in-Out-clause-framed : goal.returns-in-Out-clause-framed
returns-in-Out-clause-framed g c =
    let cpu = c.args.self.now.cpu in
    let said = c.join-ticket.ensures in
    let legal = g.met.M.FifoLock.legal c.join-ticket.new.self cpu (said.acts cpu c.requires.coupled.0) in
    acted_framed g.M.Edit.SplitEdit.protocol g.M.FifoLock.acts _ legal
    (record { opening = said.opening; machine_id = said.machine_id; room = said.room; acts = said.acts })
    c.requires.coupled.0 (Take cpu c.args.call.lock) refl said.adds refl
    (rw (c.of-edit.ensures ∙ c.whole.ensures) (joined_fits g.M.Edit.SplitEdit.protocol said.opening legal c.args.call.lock _ c.join-ticket.result said.adds
    said.ticket c.requires.coupled.0 (rw c.in-Out.is at c.requires.call) c.requires.there))

pub returns-in-Out-clause-history : goal.returns-in-Out-clause-history
returns-in-Out-clause-history g c = poll_unanswered g.M.Edit.SplitEdit.protocol (g.M.FifoLock.opening c.args.m.now) _
    (unended (Take c.args.self.now.cpu c.args.call.lock) (λ past. refl) c.join-ticket.ensures.adds)

pub returns-in-Out-clause-follows : goal.returns-in-Out-clause-follows
returns-in-Out-clause-follows g c = λ step.
    let cpu = c.args.self.now.cpu in
    let said = c.join-ticket.ensures in
    joined_follows g.M.Edit.SplitEdit.protocol said.opening (g.met.M.FifoLock.legal c.join-ticket.new.self cpu (said.acts cpu c.requires.coupled.0))
    c.args.call.lock
    (g.M.Edit.SplitEdit.abstract_call c.args.call.edit c.args.payload.now) said.adds

-- the CPU tries to enter: the section continues
pub returns-in-Waiting-clause-framed : goal.returns-in-Waiting-clause-framed
returns-in-Waiting-clause-framed g c =
    let cpu = c.args.self.now.cpu in
    let said = c.enters.ensures in
    let legal = g.met.M.FifoLock.legal c.enters.new.m cpu (said.acts cpu c.requires.coupled.0) in
    let coupled = rw c.in-Waiting.is at c.requires.coupled.1 in
    acted_framed g.M.Edit.SplitEdit.protocol g.M.FifoLock.acts _ legal
    (record { opening = said.opening; machine_id = said.machine_id; room = said.room; acts = said.acts })
    c.requires.coupled.0 (Try cpu c.in-Waiting.lock said.adds.0) refl said.adds.1 refl
    (tried_fits g.M.Edit.SplitEdit.protocol said.opening legal c.in-Waiting.lock c.in-Waiting.edit c.in-Waiting.ticket said.adds.0 said.adds.1 coupled.0.1
    c.requires.coupled.0 coupled.1 coupled.2 said.hits.0 said.hits.2 c.enters.new.stage (rw c.in-Waiting.is at said.hits.1))

pub returns-in-Waiting-clause-history : goal.returns-in-Waiting-clause-history
returns-in-Waiting-clause-history g c = poll_unanswered g.M.Edit.SplitEdit.protocol (g.M.FifoLock.opening c.args.m.now) _
    (unended (Try c.args.self.now.cpu c.in-Waiting.lock c.enters.ensures.adds.0) (λ past. refl) c.enters.ensures.adds.1)

pub returns-in-Waiting-clause-follows : goal.returns-in-Waiting-clause-follows
returns-in-Waiting-clause-follows g c = λ step.
    let cpu = c.args.self.now.cpu in
    let said = c.enters.ensures in
    let one = rw c.in-Waiting.is at c.requires.call in
    rw (← (ap (λ (s : Section _). s.lock) one), ← (ap (λ (s : Section _). s.edit) one)) (tried_follows g.M.Edit.SplitEdit.protocol said.opening
    (g.met.M.FifoLock.legal c.enters.new.m cpu (said.acts cpu c.requires.coupled.0)) c.in-Waiting.lock c.in-Waiting.edit said.adds.0 said.adds.1)

-- the CPU releases the lock: the section ends with its result
pub returns-in-Holding-replace-clause-history : goal.returns-in-Holding-replace-clause-history
returns-in-Holding-replace-clause-history g c =
    let cpu = c.args.self.now.cpu in
    let said = c.leave.ensures in
    let coupled = rw (← c.in-Holding-replace.ensures.value) at c.requires.coupled.1 in
    let began = rw (← c.in-Holding-replace.ensures.value) at c.requires.call in
    let marked = c.mark-mark.ensures ∙ c.whole-edit.ensures in
    rw (← (ap (λ (s : Section _). s.lock) began), ← marked) (left_polled g.M.Edit.SplitEdit.protocol said.opening
    (g.met.M.FifoLock.legal c.leave.new.self cpu (said.acts cpu c.requires.coupled.0)) _ _ said.adds c.requires.coupled.0 coupled.0 c.in-Holding-replace.block
    coupled.2
    (g.M.Edit.SplitEdit.abstract_answer c.apply_request-out.result c.apply_request-out.new.payload) (rw marked c.apply_request-out.ensures.answer))

pub returns-in-Holding-replace-clause-framed : goal.returns-in-Holding-replace-clause-framed
returns-in-Holding-replace-clause-framed g c =
    let cpu = c.args.self.now.cpu in
    let said = c.leave.ensures in
    let legal = g.met.M.FifoLock.legal c.leave.new.self cpu (said.acts cpu c.requires.coupled.0) in
    let mark = g.M.FifoLock.edit_in c.mark-mark.result in
    acted_framed g.M.Edit.SplitEdit.protocol g.M.FifoLock.acts _ legal
    (record { opening = said.opening; machine_id = said.machine_id; room = said.room; acts = said.acts })
    c.requires.coupled.0 (Give cpu c.in-Holding-replace.lock mark) refl said.adds refl
    (rw c.replace.ensures.after (left_fits g.M.Edit.SplitEdit.protocol said.opening legal c.in-Holding-replace.lock mark said.adds))

pub returns-in-Holding-replace-clause-follows : goal.returns-in-Holding-replace-clause-follows
returns-in-Holding-replace-clause-follows g c = λ step.
    let cpu = c.args.self.now.cpu in
    let said = c.leave.ensures in
    let coupled = rw (← c.in-Holding-replace.ensures.value) at c.requires.coupled.1 in
    let began = rw (← c.in-Holding-replace.ensures.value) at c.requires.call in
    let marked = c.mark-mark.ensures ∙ c.whole-edit.ensures in
    rw (← (ap (λ (s : Section _). s.lock) began), ← marked) (left_follows g.M.Edit.SplitEdit.protocol said.opening
    (g.met.M.FifoLock.legal c.leave.new.self cpu (said.acts cpu c.requires.coupled.0)) _ _ said.adds c.requires.coupled.0 coupled.0 c.in-Holding-replace.block
    coupled.2
    (g.M.Edit.SplitEdit.abstract_answer c.apply_request-out.result c.apply_request-out.new.payload) (rw marked c.apply_request-out.ensures.answer))
