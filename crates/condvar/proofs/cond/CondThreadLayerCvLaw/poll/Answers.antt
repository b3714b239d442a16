use Rattle.std.proofs.Common.{arith, ◌≡◌, ◌<◌, List, Option, None, if◌then◌else◌, is_some, slice_set, true, false, Some}
use Rattle.layer_traits.specs.{declared.{conditions.CvReply.CvReply, locked.QLockReply.QLockReply, sleeps.Outcome.Outcome}, Layers.Conditions.CvCall}
use Rattle.layer_traits.specs.Layers.{Conditions.cv_rules, CvLaw.Waiting, QLocking.{lock_caller, lock_moves, lock_rules}, QLockLaw.{lock_kernel, slept_for}}
use Rattle.layer_traits.specs.{Blocks.{Payloads.{abstract_cv_edit, abstract_lock_call}, QueueRules.queue_rules}, Polling.Plans.table_of}
use Rattle.{event_log.specs.declared.ids.{BufId.BufId, TheConstants.THREADS, LockId.TheVariants.Buffer}, condvar.specs.Waiting.is_wait}
use Rattle.condvar.proofs.CondLemmas.{complete_told, current_awake, current_small, lock_tells, over_polled, waits_follow, waits_polled, waits_told, wake_ended}
use Rattle.condvar.proofs.{CondLemmas.{wake_kept, wake_told}, cond.CondThreadLayerCvLaw.poll.{Given.Over, Goals.{After-caller_of-t, After-complete}}}
use Rattle.condvar.proofs.cond.CondThreadLayerCvLaw.poll.Goals as goal

-- the caller is a thread of the machine
small : (g : Over) (c : After-caller_of-t g) → c.caller_of-t.result.0 < THREADS
small g c = grind (arith, current_small)

pub ends_wait-requires : goal.ends_wait-requires
ends_wait-requires g c = small g (goal.at.ends_wait-requires g c).After-caller_of-t

pub complete-requires : goal.complete-requires
complete-requires g c = small g (goal.at.complete-requires g c).After-caller_of-t

pub returns-then-ends_wait-clause-history : goal.returns-then-ends_wait-clause-history
returns-then-ends_wait-clause-history g c =
    let Q = g.Q.ThreadLayer in
    let law = g.met.Q.ThreadLayer in
    let m = c.args.m.now in
    let p = c.args.self.now.lower in
    let cpu = Q.cpu_of p in
    let protocol = cv_rules g.G.Guarded.monitor_rules in
    let k = lock_kernel protocol (Q.opening m) in
    let G = g.G.Guarded in
    let call = abstract_lock_call (abstract_cv_edit G.abstract_call) c.args.call.edit c.args.payload.now.message_slot in
    let t = lock_caller protocol call in
    let waits = c.args.self.now.waits.buffers in
    let local : Waiting _ = record { lock = Q.local p; waits = waits } in
    let caller = c.caller_of-t.ensures in
    let acts = law.own_cpu p m c.requires.coupled in
    let stands = law.stands p m c.requires.coupled in
    let awake =
    current_awake G.monitor_rules (Q.opening m) (Q.history m) cpu (Q.local p).sleep.threads t (law.moves_legal m cpu acts) stands.stands stands.lists
    c.requires.call.runs (Buffer c.args.call.buffer) in
    let some =
    wake_told G.monitor_rules k cpu c.args.call.buffer local (Q.under_way p) G.abstract_call c.args.payload.now.message_slot c.args.call.edit (Q.history m)
    c.ends_wait.result true c.caller_of-t.result c.requires.call c.ends_wait.ensures.was c.if-ends_wait.true caller in
    let now = wake_ended waits c.ends_wait.new.self.buffers c.ends_wait.result t c.caller_of-t.result c.ends_wait.ensures.now c.if-ends_wait.true caller in
    over_polled G.monitor_rules k cpu c.args.call.buffer local (Q.under_way p) (λ d. Q.ActsFor m d) call (Q.history m) c.ends_wait.new.self.buffers _
    c.side_of.result (slept_for waits t) some c.requires.call.may awake c.side_of.ensures now

-- the thread does not wait: what the poll below leaves
module _ (g : Over) (c : After-complete g) where
  open g.G.Guarded use {monitor_rules, abstract_call, abstract_answer}

  abbrev call : CvCall g.row.G.Denot
  call = abstract_lock_call (abstract_cv_edit abstract_call) c.args.call.edit c.args.payload.now.message_slot

  abbrev waits : List (Option BufId)
  waits = c.args.self.now.waits.buffers

  abbrev local : Waiting g.row.G-Out.Denot
  local = record { lock = g.Q.ThreadLayer.local c.args.self.now.lower; waits = waits }

  abbrev answer : Option (Outcome (QLockReply (CvReply g.row.G-Out.Denot)))
  answer = lock_tells abstract_answer c.poll-answer.new.payload.message_slot c.poll-answer.result

  none : is_some (slept_for waits (lock_caller (cv_rules monitor_rules) call)) ≡ false
  none = grind (arith, wake_told)

  noted : c.complete.new.self.buffers
      ≡ (if is_wait answer then slice_set waits (lock_caller (cv_rules monitor_rules) call).0 (Some c.args.call.buffer) else waits)
  noted = grind (arith, wake_kept, waits_told)

  gives : lock_tells abstract_answer c.poll-answer.new.payload.message_slot c.complete.result ≡ (if is_wait answer then None else answer)
  gives = complete_told abstract_answer c.poll-answer.new.payload.message_slot c.poll-answer.result c.complete.result c.complete.ensures.complete

pub returns-clause-history : goal.returns-clause-history
returns-clause-history g c =
    let d = (goal.at.returns-clause-history g c).After-complete in
    waits_polled g.G.Guarded.monitor_rules _ _ c.args.call.buffer (local g d) _ _ (call g d) _ _ _ _ (answer g d) _ _ (none g d) c.poll-answer.ensures.history
    (noted g d) (gives g d)

pub returns-clause-follows : goal.returns-clause-follows
returns-clause-follows g c stepwise =
    let d = (goal.at.returns-clause-follows g c).After-complete in
    let protocol = cv_rules g.G.Guarded.monitor_rules in
    waits_follow _ (table_of (queue_rules (lock_rules protocol) (lock_moves protocol))) _ (lock_moves protocol) _ _ c.args.call.buffer (call g d) (local g d) _
    _ _ _
    (answer g d) _ _ (none g d) (c.poll-answer.ensures.follows stepwise) (noted g d) (gives g d)
