-- Conditions: what the edits that signal and wait make of the block of a queuing lock.
use Rattle.std.specs.Prelude.{List, Option, Some, None}
use Rattle.event_log.specs.{declared.ids.{LockId.LockId, Tid.Tid}, Sections.Section}
use Rattle.layer_traits.specs.declared.locked.{QLockCall.QLockCall, Side.Side}
use Rattle.layer_traits.specs.declared.locked.Side.TheVariants.{Receivers, Senders}
use Rattle.layer_traits.specs.declared.locked.WakeWaiter.{WakeWaiter, TheVariants.Nobody}
use Rattle.layer_traits.specs.declared.locked.WakeWaiter.TheVariants.{Receiver, Sender}
use Rattle.layer_traits.specs.declared.conditions.CvEdit.{CvEdit, TheVariants.{Edit, SignalFront}}
use Rattle.layer_traits.specs.declared.conditions.CvLeave.{CvLeave, TheVariants.{Leave, Wait}}
use Rattle.layer_traits.specs.declared.conditions.CvReply.{CvReply, TheVariants.{Did, Signalled}}
use Rattle.layer_traits.specs.declared.conditions.CvReply.TheVariants.{Left, Waited}
use Rattle.layer_traits.specs.Layers.QLocking.{LockState, LockRules}

-- the calls on a lock with conditions: Acquire, an edit or a signal inside, and a leave or a wait
-- as its release
abbrev pub CvCall : Type 0 → Type 0
CvCall G = QLockCall (CvEdit G) CvLeave

-- what an edit of the block means: its caller, the block that it leaves and its result. Which
-- thread is at the head of a side's queue and may proceed. After which sections which CPU may do
-- which section
pub record MonitorRules (G B O : Type 0) : Type 1 where
  pub caller : G → Tid
  pub edited : G → B → B
  pub answer : G → B → O
  pub ready : Side → B → Option Tid
  pub allowed : (LockId → Option (LockState B)) → List (Section (CvCall G)) → Section (CvCall G)
      → Type 0

-- the signal to the thread that was found on this side, if one was
abbrev pub signal_to : Side → Option Tid → WakeWaiter
signal_to Receivers None = Nobody
signal_to Senders None = Nobody
signal_to Receivers (Some t) = Receiver t
signal_to Senders (Some t) = Sender t

-- which thread a result wakes
abbrev pub signals_in : {O : Type 0} → CvReply O → WakeWaiter
signals_in (Did out) = Nobody
signals_in (Signalled side front) = signal_to side front
signals_in Left = Nobody
signals_in (Waited side) = Nobody

-- on which side the caller of a release waits
abbrev pub waits_in : {O : Type 0} → CvReply O → Option Side
waits_in (Did out) = None
waits_in (Signalled side front) = None
waits_in Left = None
waits_in (Waited side) = Some side

-- the thread that acts inside
abbrev pub cv_caller : {G B O : Type 0} → MonitorRules G B O → CvEdit G → Tid
cv_caller monitor_rules (Edit e) = monitor_rules.caller e
cv_caller monitor_rules (SignalFront t side) = t

-- the block that it leaves: a signal changes no block
abbrev pub cv_edited : {G B O : Type 0} → MonitorRules G B O → CvEdit G → B → B
cv_edited monitor_rules (Edit e) block = monitor_rules.edited e block
cv_edited monitor_rules (SignalFront t side) block = block

-- its result: a signal says which thread it found
abbrev pub cv_answer : {G B O : Type 0} → MonitorRules G B O → CvEdit G → B → CvReply O
cv_answer monitor_rules (Edit e) block = Did (monitor_rules.answer e block)
cv_answer monitor_rules (SignalFront t side) block = Signalled side (monitor_rules.ready side block)

-- the thread that releases the lock
abbrev pub leave_caller : CvLeave → Tid
leave_caller (Leave t) = t
leave_caller (Wait t side) = t

-- the result of its release
abbrev pub leave_answer : {B O : Type 0} → CvLeave → B → CvReply O
leave_answer (Leave t) block = Left
leave_answer (Wait t side) block = Waited side

-- the rules of a queuing lock with conditions
abbrev pub cv_rules : {G B O : Type 0} → MonitorRules G B O
    → LockRules (CvEdit G) CvLeave B (CvReply O)
cv_rules monitor_rules = record {
  caller = cv_caller monitor_rules;
  edited = cv_edited monitor_rules;
  answer = cv_answer monitor_rules;
  signals = signals_in;
  last_caller = leave_caller;
  last_edited = λ leave block. block;
  last_answer = leave_answer;
  waits = waits_in;
  allowed = monitor_rules.allowed;
}
