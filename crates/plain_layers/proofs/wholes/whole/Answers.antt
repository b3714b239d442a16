use Rattle.{std.proofs.{Math.Path.transport, Common.{Option, inl, inr, refl, ap}}, layer_traits.specs.declared.sleeps.Outcome.Outcome}
use Rattle.layer_traits.specs.{Blocks.Payloads.{abstract_outcome, abstract_result}, Layers.SleepLaw.{SleepPolled, Sleeping, sleep_kernel}}
use Rattle.plain_layers.{specs.Wholes.asked_edit, proofs.WholeLemmas.{first_answers, first_sends, second_sends, both_polls}}
use Rattle.plain_layers.proofs.wholes.whole.Goals as goal

-- one poll did it all
pub returns-in-Some-clause-done : goal.returns-in-Some-clause-done
returns-in-Some-clause-done g c =
    let S = g.S.ThreadLayer in
    let part = c.args.part.now in
    let m = c.args.m.now in
    let n = c.poll.new.m in
    let said = c.in-Some.ensures in
    let known = g.met.S.ThreadLayer.known n (S.cpu_of part) (said.framed.stays.acts (S.cpu_of part) (g.met.S.ThreadLayer.own_cpu part m c.requires.coupled)) in
    let edit = g.E.Sleeps.abstract_call c.args.edit c.args.payload.now.message_slot in
    inl (first_answers (asked_edit (sleep_kernel g.E.Sleeps.protocol (S.opening m)) (S.cpu_of part) c.args.buffer edit) (λ d. S.ActsFor m d) c.requires.all
    (S.history m) (S.history n) (S.local part) (S.local c.poll.new.self)
    (abstract_outcome g.E.Sleeps.abstract_answer c.in-Some.outcome c.poll.new.payload.message_slot)
    c.requires.deferred known said.history)

-- the second sent the woken thread home
pub returns-in-None-clause-done : goal.returns-in-None-clause-done
returns-in-None-clause-done g c =
    let S = g.S.ThreadLayer in
    let part = c.args.part.now in
    let m = c.args.m.now in
    let n = c.poll.new.m in
    let p = c.poll.new.self in
    let said = c.in-None.ensures in
    let more = c.poll-in-None.ensures in
    let k = sleep_kernel g.E.Sleeps.protocol (S.opening m) in
    let edit = g.E.Sleeps.abstract_call c.args.edit c.args.payload.now.message_slot in
    let section = asked_edit k (S.cpu_of part) c.args.buffer edit in
    let acts = said.framed.stays.acts (S.cpu_of part) (g.met.S.ThreadLayer.own_cpu part m c.requires.coupled) in
    let known = g.met.S.ThreadLayer.known n (S.cpu_of part) acts in
    let keeps = (said.prompt c.requires.whole refl).after in
    let begun = first_sends section (λ d. S.ActsFor m d) c.requires.all (S.history m) (S.history n)
    (S.local part) (S.local p) c.requires.deferred keeps known said.history in
    let n' = c.poll-in-None.new.m in
    let p' = c.poll-in-None.new.self in
    let now_known = g.met.S.ThreadLayer.known n' (S.cpu_of part) (more.framed.stays.acts (S.cpu_of part) acts) in
    let tells =
    λ (r : Option (Outcome g.row.E-Response.Denot)). abstract_result (λ o p. abstract_outcome g.E.Sleeps.abstract_answer o p.message_slot) r
    c.poll-in-None.new.payload in
    let polled = transport (λ i. SleepPolled (sleep_kernel g.E.Sleeps.protocol (said.framed.stays.opening i)) (λ d. S.ActsFor n d) (said.framed.cpu i)
    c.args.buffer edit (S.history n) (S.history n') (S.local p) (record { local = S.local p'; answer = tells (c.unwrap.ensures i) })) more.history in
    let outcome = abstract_outcome g.E.Sleeps.abstract_answer c.unwrap.result c.poll-in-None.new.payload.message_slot in
    let sent = second_sends section (λ d. S.ActsFor n d) (λ d small. said.framed.stays.acts d (c.requires.all d small))
    (S.history n) (S.history n') (S.local p) (S.local p') begun.0 outcome (ap (λ (s : Sleeping g.row.E-Out.Denot). s.deferred) begun.1.leaves) now_known
    polled in
    inr (both_polls section (S.history m) (S.history n) (S.history n') (S.local part).threads (S.local p) (S.local p') begun.0 outcome begun.1 sent)
