-- Which call waits, on which side, and which result says that its caller waits.
use Rattle.std.specs.Prelude.{Bool, true, false, List, Option, Some, None}
use Rattle.layer_traits.specs.declared.conditions.CvLeave.TheVariants.{Leave, Wait}
use Rattle.layer_traits.specs.declared.conditions.CvReply.{CvReply}
use Rattle.layer_traits.specs.declared.locked.QLockCall.TheVariants.{Acquire, Inside, Release}
use Rattle.layer_traits.specs.declared.locked.QLockReply.{QLockReply, TheVariants.Acquired}
use Rattle.layer_traits.specs.declared.locked.QLockReply.TheVariants.{Queued, Did, Released}
use Rattle.layer_traits.specs.declared.locked.Side.{Side, TheVariants.Receivers}
use Rattle.layer_traits.specs.{declared.sleeps.Outcome.Outcome, Layers.Conditions.CvCall}
use Rattle.layer_traits.specs.Layers.{CvLaw.Waiting, QLockLaw.Locking}
use Rattle.event_log.specs.declared.ids.BufId.{BufId}
use Rattle.layer_traits.specs.declared.conditions.CvReply.TheVariants as answer

-- the side of a wait; Receivers of a call that is no wait
abbrev pub side_in : {G : Type 0} → CvCall G → Side
side_in (Acquire t) = Receivers
side_in (Inside e) = Receivers
side_in (Release (Leave t)) = Receivers
side_in (Release (Wait t side)) = side

-- whether a call waits
abbrev pub calls_wait : {G : Type 0} → CvCall G → Bool
calls_wait (Acquire t) = false
calls_wait (Inside e) = false
calls_wait (Release (Leave t)) = false
calls_wait (Release (Wait t side)) = true

-- whether an inner result is that of a wait
abbrev pub is_waited : {O : Type 0} → CvReply O → Bool
is_waited (answer.Did out) = false
is_waited (answer.Signalled side front) = false
is_waited answer.Left = false
is_waited (answer.Waited side) = true

-- whether a lock's result is that of a release by which its caller waits
abbrev pub is_waiting : {O : Type 0} → QLockReply (CvReply O) → Bool
is_waiting Acquired = false
is_waiting Queued = false
is_waiting (Did out) = false
is_waiting (Released out) = is_waited out

-- whether a lock's poll returned such a result
abbrev pub is_wait : {O : Type 0} → Option (Outcome (QLockReply (CvReply O))) → Bool
is_wait None = false
is_wait (Some outcome) = is_waiting outcome.out

-- a CPU's private state: that of its locks, and which thread waits at which buffer
abbrev pub with_waits : {O : Type 0} → Locking (CvReply O) → List (Option BufId) → Waiting O
with_waits lock waits = record { lock = lock; waits = waits }
