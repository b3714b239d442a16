use Rattle.std.proofs.Common.{◌≡◌, ◌∷◌, ap, reverse, ◌∙◌}
use Rattle.{event_log.specs.Log.events_in, layer_traits.specs.{Blocks.Payloads.{abstract_queue_call, abstract_queue_answer}, Layers.Queues.event}}
use Rattle.plain_layers.{proofs.KernelLemmas.{can_do, can_handed, log_grown, kernel_after, kernel_answers, lock_handed}, specs.Kernels.calls_in}
use Rattle.plain_layers.proofs.kernel.PlainKernel.done.Goals as goal

pub do_call-answer-requires : goal.do_call-answer-requires
do_call-answer-requires g c =
    let abstract_call = g.E.SplitEdit.abstract_call in
    let payload = c.args.payload.now in
    can_handed abstract_call c.args.call payload _
    (can_do _ _ g.met.E.Moves.wakes_sleepers _ _ _ c.requires.sound c.args.cpu (abstract_queue_call abstract_call c.args.call payload)
    (rw lock_handed c.requires.lock) c.requires.call)

pub returns-clause-history : goal.returns-clause-history
returns-clause-history g c = log_grown c.push.result c.unwrap.result (events_in c.args.self.now.log) _ _ c.unwrap.ensures c.push.ensures.pushed
    ∙ ap (λ k. event c.args.cpu k ∷ calls_in c.args.self.now) c.whole_call-abstract_call.ensures

pub returns-clause-sound : goal.returns-clause-sound
returns-clause-sound g c =
    let m = c.args.self.now in
    let call = abstract_queue_call g.E.SplitEdit.abstract_call c.args.call c.args.payload.now in
    let history : reverse (events_in c.push.new.self) ≡ event c.args.cpu call ∷ calls_in m
    = log_grown c.push.result c.unwrap.result (events_in m.log) _ _ c.unwrap.ensures c.push.ensures.pushed
    ∙ ap (λ k. event c.args.cpu k ∷ calls_in m) c.whole_call-abstract_call.ensures in
    rw history (kernel_after _ _ g.met.E.Moves.wakes_sleepers _ _ _ c.requires.sound c.args.cpu call c.do_call-answer.new.lists
    (abstract_queue_answer g.E.SplitEdit.abstract_answer c.do_call-answer.result c.do_call-answer.new.payload) c.requires.cpu (rw lock_handed c.requires.lock)
    c.requires.call
    c.do_call-answer.ensures)

pub returns-clause-answer : goal.returns-clause-answer
returns-clause-answer g c = kernel_answers _ _ g.met.E.Moves.wakes_sleepers _ _ _ c.requires.sound
    (abstract_queue_call g.E.SplitEdit.abstract_call c.args.call c.args.payload.now) c.do_call-answer.new.lists
    (abstract_queue_answer g.E.SplitEdit.abstract_answer c.do_call-answer.result c.do_call-answer.new.payload) (rw lock_handed c.requires.lock)
    c.do_call-answer.ensures
