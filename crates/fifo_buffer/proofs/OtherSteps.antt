-- What others leave of a thread's stance and call state: a section of another caller, and events of
-- other CPUs; and what its stance lets it do.
use Rattle.std.proofs.Common.{◌≡◌, ◌≢◌, ℕ, Bool, true, false, ◌&&◌, ◌||◌, List, [], ◌∷◌, ◌++◌, Option, Some, None, option_map, is_some, if◌then◌else◌, refl, ap}
use Rattle.std.proofs.{Common.{sym, ◌∙◌, subst, arith, rules}, lemmas.Bool.{and_parts, and_right}, Math.Bool.and-true}
use Rattle.event_log.specs.{declared.ids.{BufId.BufId, LockId.{LockId, TheVariants.Buffer}, Tid.Tid, CpuId.CpuId}, History.{same_lock, AreOthers, same_cpu}}
use Rattle.{event_log.proofs.Same.{same_lock_true, same_cpu_self, same_lock_self}, layer_traits.specs.declared.buffer_edits.BufferEdit.BufferEdit}
use Rattle.layer_traits.specs.declared.{calls.{Call.{Call, TheVariants.{Send, Recv, Close}}, Effect.Effect}, conditions.CvLeave.TheVariants.{Leave, Wait}}
use Rattle.layer_traits.specs.declared.locked.{QLockCall.TheVariants.{Acquire, Inside, Release}, Side.{Side, TheVariants.{Receivers, Senders}}}
use Rattle.layer_traits.specs.declared.call_states.{CallState.CallState, Stage.{Stage, TheVariants.{Idle, Acquires, Enters, Tries, Waits, AcquiresAgain}}}
use Rattle.layer_traits.specs.declared.{queue_edits.QueueBlock.QueueBlock, queues.QueueCall.{QueueCall, TheVariants.{Push, TakeAll, OnBuffer}}}
use Rattle.layer_traits.specs.Blocks.BufferProtocol.{BufferLock, BufferSection, buffer_lock_at, buffer_rules, has_tried_in_vain, IsDue, is_in_line}
use Rattle.layer_traits.specs.{Blocks.QueueBlocks.{homes_in, inner}, Layers.{BufferLaw.{buffer_of, side_of, section_at}, Conditions.CvCall, QLocking.IsOwners}}
use Rattle.layer_traits.specs.Layers.{QLocking.{lock_caller, lock_edited, owner_in}, Queues.{QueueAllowed, buffer_sections, cpu_of_queue_event, with_section}}
use Rattle.layer_traits.{specs.{Threads.Places.{count_in, one_if, home_of}, Protocols.Protocol.section}, proofs.CountLemmas.{same_tid_sym, count_behind}}
use Rattle.{layer_traits.proofs.{CountLemmas.{count_other, not_counted}, ListsLemmas.counted_in}, thread_blocks.specs.Queues.{same_tid, is_in}}
use Rattle.{thread_blocks.proofs.{Members.{same_tid_self, same_tid_true}, Distinct.out_of_rest}, fifo_buffer.specs.Stances.{LockHolding, Stance, CallStateFits}}
use Rattle.fifo_buffer.{specs.{Stances.{holds_at, line_at, lined_at, same_side, InCall}, SectionPolls.BufferEvent}, proofs.Callers.{monitored, kernel_of}}
use Rattle.fifo_buffer.proofs.Callers.{AreLawful}

pub not_some : (t u : Tid) → same_tid u t ≡ false → Some u ≢ Some t
not_some t u other is = let one : u ≡ t = cc in absurd (cc (other, subst (λ v. same_tid u v ≡ true) one (same_tid_self u)))

pub in_append : (t u : Tid) (q : List Tid) → same_tid u t ≡ false → is_in t (q ++ u ∷ []) ≡ is_in t q
in_append t u [] other = rw (same_tid_sym t u, other) refl
in_append t u (x ∷ q) other = ap (λ b. same_tid t x || b) (in_append t u q other)

pub side_self : (side : Side) → same_side side side ≡ true
side_self side = grind arith

grip_edit : (t : Tid) (e : CvCall BufferEdit) (lock : BufferLock) (holds asks : Bool) → same_tid (lock_caller buffer_rules e) t ≡ false
    → IsOwners buffer_rules e lock.owner → LockHolding t holds asks (Some lock) → LockHolding t holds asks (Some (lock_edited buffer_rules e lock))
grip_edit t e lock false true other owns grip = tt
grip_edit t (Acquire u) lock true asks other owns grip = grind (arith, in_append)
grip_edit t (Acquire u) lock false false other owns grip = grind (arith, not_some, in_append)
grip_edit t (Inside f) lock true asks other owns grip = grip
grip_edit t (Inside f) lock false false other owns grip = grip
grip_edit t (Release (Leave u)) lock true asks other owns grip = absurd (not_some t u other (sym owns ∙ grip.0))
grip_edit t (Release (Wait u side)) lock true asks other owns grip = absurd (not_some t u other (sym owns ∙ grip.0))
grip_edit t (Release (Leave u)) lock false false other owns grip = out_of_rest t lock.sleepers grip.1
grip_edit t (Release (Wait u side)) lock false false other owns grip = out_of_rest t lock.sleepers grip.1

pub grip_apart : (t : Tid) (e : CvCall BufferEdit) (x : Option BufferLock) (holds asks : Bool) → same_tid (lock_caller buffer_rules e) t ≡ false
    → IsOwners buffer_rules e (owner_in x) → LockHolding t holds asks x → LockHolding t holds asks (option_map (lock_edited buffer_rules e) x)
grip_apart t e None holds asks other owns grip = grip
grip_apart t e (Some lock) holds asks other owns grip = grip_edit t e lock holds asks other owns grip

pub line_apart : (t : Tid) (e : CvCall BufferEdit) (x : Option BufferLock) (side : Side) → same_tid (lock_caller buffer_rules e) t ≡ false
    → count_in t (line_at side (option_map (lock_edited buffer_rules e) x)) ≡ count_in t (line_at side x)
line_apart t e x side other = grind (arith, count_behind, same_tid_true, count_other, and_parts)

module _ (opening : LockId → Option BufferLock) (past : List BufferSection) (s : BufferSection) (t : Tid) where
  pub vain_apart : (lock : LockId) (side : Side) → same_tid (lock_caller buffer_rules s.edit) t ≡ false
      → has_tried_in_vain opening lock side t (s ∷ past) ≡ has_tried_in_vain opening lock side t past
  vain_apart lock side other = rw other refl

  -- what a predicate of the lock keeps over the section, the lock after it keeps
  pub at_after : (lock : LockId) (P : Option BufferLock → Type 0)
      → (lock ≡ s.lock → P (buffer_lock_at opening past s.lock) → P (option_map (lock_edited buffer_rules s.edit) (buffer_lock_at opening past s.lock)))
      → P (buffer_lock_at opening past lock) → P (buffer_lock_at opening (s ∷ past) lock)
  at_after lock P over now = go (same_lock lock s.lock) refl
    where
      go : (b : Bool) → same_lock lock s.lock ≡ b
          → P (if b then option_map (lock_edited buffer_rules s.edit) (buffer_lock_at opening past lock) else buffer_lock_at opening past lock)
      go true is =
          let one : lock ≡ s.lock = same_lock_true lock s.lock is in
          subst (λ l. P (option_map (lock_edited buffer_rules s.edit) (buffer_lock_at opening past l))) (sym one)
          (over one (subst (λ l. P (buffer_lock_at opening past l)) one now))
      go false is = now

  module _ (other : same_tid (lock_caller buffer_rules s.edit) t ≡ false)
      (owns : IsOwners buffer_rules s.edit (owner_in (buffer_lock_at opening past s.lock))) where
    pub stance_apart : (b : BufId) (side : Side) (holds asks lined : Bool) (position : ℕ) → Stance opening past t b side holds asks lined position
        → Stance opening (s ∷ past) t b side holds asks lined position
    stance_apart b side holds asks lined position stance = record {
      grip = λ lock. at_after lock (LockHolding t (holds && same_lock lock (Buffer b)) (asks && same_lock lock (Buffer b)))
          (λ one. grip_apart t s.edit (buffer_lock_at opening past s.lock) (holds && same_lock lock (Buffer b))
          (asks && same_lock lock (Buffer b)) other owns) (stance.grip lock);
      line = λ lock at. at_after lock (λ x. count_in t (line_at at x) ≡ one_if (lined && (same_lock lock (Buffer b) && same_side at side)))
          (λ one is. line_apart t s.edit (buffer_lock_at opening past s.lock) at other ∙ is) (stance.line lock at);
      drawn_is = λ is. stance.drawn_is is ∙ sym (grind (arith, and_right));
    }

    pub fits_apart : (call : Option Call) (slept waits : Option BufId) (call_state : CallState) → CallStateFits opening past t call slept waits call_state
        → CallStateFits opening (s ∷ past) t call slept waits call_state
    fits_apart None slept waits call_state coupled = search (rules, stance_apart)
    fits_apart (Some call) slept waits call_state coupled = record {
      called = coupled.called;
      stance =
          stance_apart (buffer_of call) (side_of call) (holds_at call_state.stage (is_some waits)) (is_some slept)
          (lined_at call_state.stage) call_state.position coupled.stance;
      vain = λ is. vain_apart (Buffer (buffer_of call)) (side_of call) other ∙ coupled.vain is;
      joins = coupled.joins;
      effect_is = coupled.effect_is;
      slept_here = coupled.slept_here;
      waits_here = coupled.waits_here;
    }

module _ (opening : LockId → Option (QueueBlock BufferLock)) where
  -- one event, none of whose callers is this thread
  pub one_event : (past : List BufferEvent) (e : BufferEvent) (u : Tid) → QueueAllowed (kernel_of opening) past e
      → ((t : Tid) → home_of (homes_in opening) t ≡ Some e.cpu → same_tid t u ≡ false) → (of : Option Call) (slept waits : Option BufId)
      (call_state : CallState) → CallStateFits (inner opening) (buffer_sections past) u of slept waits call_state
      → CallStateFits (inner opening) (buffer_sections (e ∷ past)) u of slept waits call_state
  one_event past e u allowed other of slept waits call_state coupled = go e.call allowed
    where
      go : (call : QueueCall (CvCall BufferEdit)) → QueueAllowed (kernel_of opening) past
          (record { cpu = e.cpu; call = call })
          → CallStateFits (inner opening) (with_section e.cpu call (buffer_sections past)) u of slept waits call_state
      go (Push d t) may = coupled
      go (TakeAll d) may = coupled
      go (OnBuffer b call) may =
          fits_apart (inner opening) (buffer_sections past) (section e.cpu (Buffer b) call) u (other (lock_caller buffer_rules call) may.caller.home)
          may.upper.owners of slept waits call_state coupled

  home_apart : (c : CpuId) (e : BufferEvent) (u t : Tid) → home_of (homes_in opening) u ≡ Some c → same_cpu e.cpu c ≡ false
      → home_of (homes_in opening) t ≡ Some e.cpu → same_tid t u ≡ false
  home_apart c e u t home other there = grind (arith, same_tid_true, same_cpu_self)

  -- events of other CPUs
  pub keeps_fits : (c : CpuId) (u : Tid) → home_of (homes_in opening) u ≡ Some c → (more past : List BufferEvent) → AreOthers cpu_of_queue_event c more
      → AreLawful opening (more ++ past) → (of : Option Call) (slept waits : Option BufId) (call_state : CallState)
      → CallStateFits (inner opening) (buffer_sections past) u of slept waits call_state
      → CallStateFits (inner opening) (buffer_sections (more ++ past)) u of slept waits call_state
  keeps_fits c u home [] past others lawful of slept waits call_state coupled = coupled
  keeps_fits c u home (e ∷ more) past others lawful of slept waits call_state coupled =
      one_event (more ++ past) e u lawful.0 (λ t there. home_apart c e u t home others.0 there) of slept waits call_state
      (keeps_fits c u home more past others.1 lawful.1 of slept waits call_state coupled)

-- the thread that calls
pub caller_is : (t : Tid) (call : Call) (stage : Stage) → lock_caller monitored (section_at t call stage) ≡ t
caller_is t call stage = grind arith

-- what a stance lets its thread do
module _ (O : LockId → Option BufferLock) (past : List BufferSection) (t : Tid) where
  grip_here : (b : BufId) (side : Side) (holds asks lined : Bool) (position : ℕ) → Stance O past t b side holds asks lined position
      → LockHolding t holds asks (buffer_lock_at O past (Buffer b))
  grip_here b side holds asks lined position stance =
      subst (λ v. LockHolding t v asks (buffer_lock_at O past (Buffer b))) (and-true holds)
      (subst (λ v. LockHolding t (holds && true) v (buffer_lock_at O past (Buffer b)))
      (and-true asks) (subst (λ v. LockHolding t (holds && v) (asks && v) (buffer_lock_at O past (Buffer b))) (same_lock_self (Buffer b))
      (stance.grip (Buffer b))))

  owned : (x : Option BufferLock) → LockHolding t true false x → owner_in x ≡ Some t
  owned x grip = grind arith

  not_owned : (x : Option BufferLock) → LockHolding t false false x → owner_in x ≢ Some t
  not_owned None grip is = absurd (cc is)
  not_owned (Some lock) grip is = grip.0 is

  -- the owner of its buffer's lock is as its section requires
  pub owner_due : (call : Call) (stage : Stage) (position : ℕ) (effect : Option Effect) → InCall O past t call None None stage position effect
      → IsOwners buffer_rules (section_at t call stage) (owner_in (buffer_lock_at O past (Buffer (buffer_of call))))
  owner_due call Idle position effect now = grind arith
  owner_due call Acquires position effect now = not_owned _ (grip_here (buffer_of call) (side_of call) false false false position now.stance)
  owner_due (Send b m) Enters position effect now = owned _ (grip_here b Senders true false false position now.stance)
  owner_due (Recv b) Enters position effect now = owned _ (grip_here b Receivers true false false position now.stance)
  owner_due (Close b) Enters position effect now = owned _ (grip_here b Senders true false false position now.stance)
  owner_due (Send b m) Tries position effect now = owned _ (grip_here b Senders true false true position now.stance)
  owner_due (Recv b) Tries position effect now = owned _ (grip_here b Receivers true false true position now.stance)
  owner_due (Close b) Tries position effect now = absurd (now.joins refl)
  owner_due call Waits position effect now = owned _ (grip_here (buffer_of call) (side_of call) true false true position now.stance)
  owner_due call AcquiresAgain position effect now = not_owned _ (grip_here (buffer_of call) (side_of call) false false true position now.stance)
  owner_due call other position effect now = owned _ (grip_here (buffer_of call) (side_of call) true false false position now.stance)

  out_of_line : (side : Side) (x : Option BufferLock) → count_in t (line_at side x) ≡ 0 → is_in_line side t x ≡ false
  out_of_line side x none = grind (arith, not_counted)

  in_line : (side : Side) (x : Option BufferLock) → count_in t (line_at side x) ≡ 1 → is_in_line side t x ≡ true
  in_line side x once = grind (arith, counted_in)

  once_there : (b : BufId) (side : Side) (position : ℕ) → Stance O past t b side true false true position
      → count_in t (line_at side (buffer_lock_at O past (Buffer b))) ≡ 1
  once_there b side position stance =
      stance.line (Buffer b) side ∙ ap (λ v. one_if (true && (v && same_side side side))) (same_lock_self (Buffer b)) ∙ ap one_if (side_self side)

  -- its section is due
  pub due_now : (call : Call) (stage : Stage) (position : ℕ) (effect : Option Effect) → InCall O past t call None None stage position effect
      → IsDue O past (Buffer (buffer_of call)) (section_at t call stage)
  due_now call Idle position effect now = tt
  due_now call Acquires position effect now = tt
  due_now (Send b m) Enters position effect now =
      (out_of_line Senders _ (now.stance.line (Buffer b) Senders), out_of_line Receivers _ (now.stance.line (Buffer b) Receivers))
  due_now (Recv b) Enters position effect now =
      (out_of_line Senders _ (now.stance.line (Buffer b) Senders), out_of_line Receivers _ (now.stance.line (Buffer b) Receivers))
  due_now (Close b) Enters position effect now = tt
  due_now (Send b m) Tries position effect now = in_line Senders _ (once_there b Senders position now.stance)
  due_now (Recv b) Tries position effect now = in_line Receivers _ (once_there b Receivers position now.stance)
  due_now (Close b) Tries position effect now = absurd (now.joins refl)
  due_now call Waits position effect now = now.vain refl
  due_now call other position effect now = tt
