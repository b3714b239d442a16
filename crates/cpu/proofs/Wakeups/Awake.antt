-- One buffer and the progress of its owner: a thread that is due to be woken is the owner itself,
-- or will be signalled before the lock is released.
use Rattle.std.proofs.{Common.{◌≡◌, Bool, true, false, ◌&&◌, List, [], Option, Some, None, refl, sym, ◌∙◌, subst, arith}, lemmas.Bool.{and_parts, and_from}}
use Rattle.std.proofs.lemmas.{Bool.false_from_ne_true, Option.same_Some}
use Rattle.{event_log.specs.declared.ids.Tid.Tid, thread_blocks.{specs.Queues.{first, rest}, proofs.Members.{same_tid_self, same_tid_true}}}
use Rattle.{thread_blocks.proofs.Distinct.taken_absent, layer_traits.specs.{declared.locked.Side.TheVariants.{Receivers, Senders}, Layers.Sleeping.joined}}
use Rattle.{layer_traits.specs.Blocks.BufferBlocks.is_first, cpu.specs.Table.Blocks.{Buffer, Name, AcqQ, Enter, TryPut, TryTake, Shut, WaitOn, SigRecv}}
use Rattle.cpu.specs.{Table.{Blocks.{SigSend, RelQ, front_stands_in}, Edits.{may_try, is_due, shut_off, released, edited_buffer}}, Wakeups.Order.Progress}
use Rattle.cpu.{specs.Wakeups.Order.{Begins, HasEntered, WasRefused, Owes, progress_after, MayEdit}, proofs.Wakeups.Lists.{refuted, none_is_not, in_joined}}

-- no thread is due
abbrev pub IsQuiescent : Buffer → Type 0
IsQuiescent k = (is_due Senders k ≡ false) × (is_due Receivers k ≡ false)

-- what the owner's progress implies for the threads that are due: at the start of a section none
-- is; after it has entered a line, at most the owner; after its try failed none is, and its try
-- would fail again; and while it owes signals, only those that it owes a signal
abbrev pub Coupled : Buffer → Progress → Type 0
Coupled k Begins = IsQuiescent k
Coupled k (HasEntered Senders) = (is_due Senders k ≡ true → (t : Tid) → k.busy ≡ Some t → is_first t k.send_line ≡ true) × (is_due Receivers k ≡ false)
Coupled k (HasEntered Receivers) = (is_due Receivers k ≡ true → (t : Tid) → k.busy ≡ Some t → is_first t k.receive_line ≡ true) × (is_due Senders k ≡ false)
Coupled k (WasRefused Senders) = IsQuiescent k × ((t : Tid) → k.busy ≡ Some t → may_try Senders t k ≡ false)
Coupled k (WasRefused Receivers) = IsQuiescent k × ((t : Tid) → k.busy ≡ Some t → may_try Receivers t k ≡ false)
Coupled k (Owes receivers senders) = (senders ≡ false → is_due Senders k ≡ false) × (receivers ≡ false → is_due Receivers k ≡ false)

-- the invariant of a buffer
pub record IsAwake (k : Buffer) (g : Progress) : Type 0 where
  pub coupled : Coupled k g
  pub idle : k.busy ≡ None → (g ≡ Begins) × (k.sleepers ≡ [])

-- An owner, so not idle.
owned : {A : Type 0} {t : Tid} (o : Option Tid) → o ≡ Some t → o ≡ None → A
owned {A = A} {t = t} o some none = none_is_not (sym none ∙ some)

-- a thread that closes the buffer owes both signals
after_shut : (t : Tid) (k : Buffer) → k.busy ≡ Some t → IsAwake (shut_off k) (Owes true true)
after_shut t k owner = record { coupled = (λ e. absurd (cc e), λ e. absurd (cc e)); idle = λ e. owned k.busy owner e }

-- a lock that no thread owns after its release had no sleepers
nobody_left : (sleepers : List Tid) → first sleepers ≡ None → rest sleepers ≡ []
nobody_left sleepers none = grind arith

after_release : (k : Buffer) → IsQuiescent k → IsAwake (released k) Begins
after_release k quiescent = record { coupled = quiescent; idle = λ e. (refl, nobody_left k.sleepers e) }

-- a thread that begins to wait is not due, because its try would fail
quiescent_wait : (t : Tid) (line list : List Tid) (can : Bool) → (front_stands_in line list && can) ≡ false → (is_first t line && can) ≡ false
    → (front_stands_in line (joined t list) && can) ≡ false
quiescent_wait t line list can quiescent vain = grind (arith, false_from_ne_true, and_parts, in_joined, refuted, same_tid_true, same_tid_self)

-- each section in its order keeps the invariant
pub stays_awake : (name : Name) (k : Buffer) (g : Progress) → MayEdit name k g → IsAwake k g → IsAwake (edited_buffer name k) (progress_after name k g)
stays_awake (AcqQ t) k g may awake = grind (arith, awake)
stays_awake (Enter t side) k g may awake = grind (arith, same_Some, refuted, may.0, subst (Coupled k) may.1 awake.coupled, same_tid_self)
stays_awake (TryPut t m) k g may awake = grind (arith, same_Some, may.0, may.1, awake.coupled, false_from_ne_true, refuted, and_from, and_parts)
stays_awake (TryTake t) k g may awake = grind (arith, same_Some, may.0, may.1, awake.coupled, false_from_ne_true, refuted, and_from, and_parts)
stays_awake (Shut t) k g may awake = after_shut t k may.0
stays_awake (WaitOn t side) k g may awake = grind (arith, after_release, quiescent_wait, may.0, subst (Coupled k) may.1 awake.coupled)
stays_awake (SigRecv t) k g may awake = grind (arith, may.0, may.1, awake.coupled, taken_absent)
stays_awake (SigSend t) k g may awake = grind (arith, may.0, may.1, awake.coupled, taken_absent)
stays_awake (RelQ t) k g may awake = grind (arith, after_release)
stays_awake name k g may awake = absurd may
