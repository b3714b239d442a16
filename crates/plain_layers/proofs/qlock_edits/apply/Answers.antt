use Rattle.std.proofs.Common.{◌≡◌, ap, ◌∙◌}
use Rattle.layer_traits.specs.{declared.locked.{QLockCall.TheVariants.Release, Side.TheVariants.{Receivers, Senders}}, Layers.QLocking.list_with_waiter}
use Rattle.{layer_traits.specs.Layers.QLocking.lock_edited, plain_layers.specs.QLocks.lock_in}
use Rattle.plain_layers.proofs.qlock_edits.apply.Goals as goal

-- a release does its last edit, lets its caller wait and hands the lock to the first sleeper
pub returns-in-Release-clause-lock : goal.returns-in-Release-clause-lock
returns-in-Release-clause-lock g c =
    let protocol = g.F.Locked.protocol in
    let was = c.block-in-Release.inside in
    let side : c.waits-side.result ≡ protocol.waits (protocol.last_answer c.in-Release.last was.above)
    = c.waits-side.ensures c.args.payload.now.message_slot ∙ ap protocol.waits (c.apply_last-out.ensures.answer c.args.payload.now.message_slot) in
    rw c.in-Release.is ((λ i. record {
      owner = c.pop-woke.ensures.value i;
      sleepers = c.pop-woke.ensures.rest i;
      receivers = (c.wait.ensures.receivers ∙ λ j. list_with_waiter Receivers (side j) (c.last_caller-t.ensures j) was.receivers) i;
      senders = (c.wait.ensures.senders ∙ λ j. list_with_waiter Senders (side j) (c.last_caller-t.ensures j) was.senders) i;
      above = c.apply_last-out.ensures.block i;
    }) ∙ ap (λ b. lock_edited protocol (Release c.in-Release.last) (lock_in b)) c.block-in-Release.view_is)
