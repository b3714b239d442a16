use Rattle.std.proofs.Common.{◌≡◌, None, Some, if◌then◌else◌, is_some, sym, subst}
use Rattle.layer_traits.{proofs.NestedLemmas.{may_section, polled_event}, specs.Blocks.Payloads.{abstract_queue_call, abstract_queue_answer, abstract_result}}
use Rattle.layer_traits.specs.{Blocks.{QueueBlocks.StartsWell, QueueRules.{SectionAllowed, queue_rules}}, Polling.Polls.{MayPoll, PolledAtLock}}
use Rattle.shared_queue.proofs.{FrameLemmas.{call_proper, frame_raised}, MeantLemmas.meant_section}
use Rattle.shared_queue.proofs.shared.SharedQueuesLayerQueueLaw.poll.Goals as goal

-- a call that may be polled is a section that may
pub poll-requires-clause-call : goal.poll-requires-clause-call
poll-requires-clause-call g c =
    let L = g.L.Layer in
    let m = c.args.m.now in
    let lower = c.args.self.now.lower in
    let is = c.section_of.ensures in
    subst (λ s. MayPoll (SectionAllowed g.E.SplitEdit.protocol g.E.Moves.moves (L.opening m)) (L.history m) (L.under_way lower) s)
    (sym (meant_section g.E.SplitEdit.abstract_call c.args.payload.now (L.cpu_of lower) c.args.call _ _ is.lock is.edit))
    (may_section _ _ (L.opening m) _ _ _ (abstract_queue_call g.E.SplitEdit.abstract_call c.args.call c.args.payload.now) c.requires.coupled.2 c.requires.call)

-- and its poll is a poll of the call
pub returns-clause-history : goal.returns-clause-history
returns-clause-history g c =
    let L = g.L.Layer in
    let protocol = g.E.SplitEdit.protocol in
    let mv = g.E.Moves.moves in
    let m = c.args.m.now in
    let n = c.poll.new.m in
    let cpu = L.cpu_of c.args.self.now.lower in
    let said = c.poll.ensures in
    let is = c.section_of.ensures in
    let call = abstract_queue_call g.E.SplitEdit.abstract_call c.args.call c.args.payload.now in
    let result = abstract_result (abstract_queue_answer g.E.SplitEdit.abstract_answer) c.poll.result c.poll.new.payload in
    let acts = said.framed.stays.acts cpu (g.met.L.Layer.own_cpu c.args.self.now.lower m c.requires.coupled.0) in
    polled_event protocol mv (L.opening m) c.requires.coupled.1 g.met.E.Moves.wakes_sleepers (L.ActsFor m) (λ d. L.ActsFor m d × StartsWell (L.opening m))
    (λ d both. both.0) cpu call result (L.history m) (L.history n) (rw said.framed.stays.opening at (g.met.L.Layer.lawful n cpu acts))
    (subst (λ s. PolledAtLock (queue_rules protocol mv) (L.opening m) (L.ActsFor m) s result (L.history m) (L.history n))
    (meant_section g.E.SplitEdit.abstract_call c.args.payload.now cpu c.args.call _ _ is.lock is.edit) said.history)

-- the queues have no state
pub returns-clause-framed : goal.returns-clause-framed
returns-clause-framed g c =
    let L = g.L.Layer in
    let cpu = L.cpu_of c.args.self.now.lower in
    let is = c.section_of.ensures in
    let call = abstract_queue_call g.E.SplitEdit.abstract_call c.args.call c.args.payload.now in
    let under = L.under_way c.poll.new.self in
    let ends = is_some c.poll.result in
    frame_raised L.opening L.under_way c.requires.coupled.1 c.poll.ensures.framed (call_proper cpu call ends under
    (subst (λ s. under ≡ (if ends then None else Some s)) (meant_section g.E.SplitEdit.abstract_call c.args.payload.now cpu c.args.call _ _ is.lock is.edit)
    c.poll.ensures.call))
