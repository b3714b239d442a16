-- A buffer's block accounts for its effects after any lawful sections; therefore each effect may
-- follow those before it.
use Rattle.std.proofs.Common.{◌≡◌, ℕ, Bool, true, false, ◌&&◌, ◌==◌, List, [], ◌∷◌, Option, Some}
use Rattle.std.proofs.Common.{None, if◌then◌else◌, refl, ap, sym, ◌∙◌, subst}
use Rattle.event_log.specs.declared.entries.{Kind.{Kind, TheVariants.Close}, Entry.Entry}
use Rattle.event_log.specs.declared.ids.{BufId.BufId, CpuId.CpuId, LockId.LockId}
use Rattle.event_log.specs.{declared.ids.{LockId.TheVariants.Buffer, Tid.Tid}, History.IsLawful}
use Rattle.event_log.specs.{Messages.{Message, no_message}, Runs.{Group, Sends, Receives, Closes}}
use Rattle.event_log.proofs.Same.{same_lock_self}
use Rattle.layer_traits.specs.declared.buffer_edits.BufferEdit.{BufferEdit, TheVariants.Enter}
use Rattle.layer_traits.specs.declared.buffer_edits.BufferEdit.TheVariants.{TryPut, TryTake, Shut}
use Rattle.layer_traits.specs.declared.conditions.CvEdit.TheVariants.{Edit, SignalFront}
use Rattle.layer_traits.specs.declared.locked.QLockCall.TheVariants.{Acquire, Inside, Release}
use Rattle.layer_traits.specs.declared.locked.Side.{Side, TheVariants.{Receivers, Senders}}
use Rattle.layer_traits.specs.declared.queues.QueueCall.{QueueCall, TheVariants.{Push, TakeAll}}
use Rattle.layer_traits.specs.declared.queues.QueueCall.TheVariants.{OnBuffer}
use Rattle.layer_traits.specs.declared.queue_edits.QueueBlock.{QueueBlock}
use Rattle.layer_traits.specs.Blocks.BufferBlocks.{BufferState, effect_kind, entered, first_item}
use Rattle.layer_traits.specs.Blocks.BufferBlocks.{is_next, line_of, may_join, put_in, shut}
use Rattle.layer_traits.specs.Blocks.{BufferBlocks.taken_out, BufferEffects.{MayTakeEffect, drawn}}
use Rattle.layer_traits.specs.Blocks.BufferEffects.{drawn_in, effect_on, effects_in, entry}
use Rattle.layer_traits.specs.Blocks.BufferEffects.{fresh_lock, is_enter, opening_locks}
use Rattle.layer_traits.specs.Blocks.BufferProtocol.{BufferLock, BufferSection, IsDue}
use Rattle.layer_traits.specs.Blocks.BufferProtocol.{buffer_lock_at, buffer_monitor_rules}
use Rattle.layer_traits.specs.Blocks.{BufferProtocol.{buffer_rules, is_in_line}, QueueBlocks.inner}
use Rattle.layer_traits.specs.Layers.{Conditions.{CvCall, cv_rules}, QLocking.lock_asked_by}
use Rattle.layer_traits.specs.Layers.{QLocking.lock_edited, Queues.{QueueAllowed, buffer_sections}}
use Rattle.layer_traits.specs.Layers.{Queues.with_section, QLockLaw.lock_kernel}
use Rattle.{layer_traits.specs.Protocols.Protocol.section, thread_blocks.specs.Queues.same_tid}
use Rattle.thread_blocks.{specs.Queues.is_in, proofs.Members.same_tid_self}
use Rattle.fifo_buffer.specs.Laws.{BlockSteps.{put_step, shut_step, take_step}, BlockTallies.Agree}
use Rattle.fifo_buffer.specs.Laws.BlockTallies.{Kept, Steps, all_along, all_but, enters, kept_start}
use Rattle.fifo_buffer.specs.{Laws.BlockTallies.{kept_step, agreed, stays, takes}, Tallies.IsPlaced}
use Rattle.fifo_buffer.specs.{Tallies.{Tally, by_side}, SectionPolls.BufferEvent}

placed_as : (cpu : CpuId) (d : BufId) (t : Tid) (kind : Kind) (m : Message) (op pos : ℕ) (v : Bool)
    (e : Entry)
    → (if v then Some (entry cpu t kind d m op pos) else None) ≡ Some e → IsPlaced cpu d e
placed_as cpu d t kind m op pos true e is =
    let one : entry cpu t kind d m op pos ≡ e = cc in
    (sym (ap (λ (y : Entry). y.cpu) one), sym (ap (λ (y : Entry). y.buffer) one))
placed_as cpu d t kind m op pos false e is = absurd cc

pub effect_position : (cpu : CpuId) (d : BufId) (call : CvCall BufferEdit) (p : Side → Tid → ℕ)
    (x : Option BufferLock) (e : Entry)
    → effect_on cpu d call p x ≡ Some e → IsPlaced cpu d e
effect_position cpu d call p None e is = absurd cc
effect_position cpu d (Acquire u) p (Some lock) e is = absurd cc
effect_position cpu d (Inside (Edit (Enter u side))) p (Some lock) e is = absurd cc
effect_position cpu d (Inside (Edit (TryPut u m))) p (Some lock) e is =
    placed_as cpu d u (effect_kind Senders lock.above) m lock.above.effects (p Senders u)
    (is_next Senders u lock.above) e is
effect_position cpu d (Inside (Edit (TryTake u))) p (Some lock) e is =
    placed_as cpu d u (effect_kind Receivers lock.above) (first_item lock.above.items)
    lock.above.effects (p Receivers u) (is_next Receivers u lock.above) e is
effect_position cpu d (Inside (Edit (Shut u))) p (Some lock) e is =
    placed_as cpu d u Close no_message lock.above.effects lock.above.closes true e is
effect_position cpu d (Inside (SignalFront u side)) p (Some lock) e is = absurd cc
effect_position cpu d (Release leave) p (Some lock) e is = absurd cc

enter_other : (u t : Tid) (side to : Side) → same_tid u t ≡ false
    → is_enter to t (Inside (Edit (Enter u side))) ≡ false
enter_other u t Receivers Receivers other = other
enter_other u t Receivers Senders other = refl
enter_other u t Senders Receivers other = refl
enter_other u t Senders Senders other = other

enter_self : (u : Tid) (side : Side) → is_enter side u (Inside (Edit (Enter u side))) ≡ true
enter_self u Receivers = same_tid_self u
enter_self u Senders = same_tid_self u

-- the positions that the threads drew last at a buffer in these sections
abbrev positions : (LockId → Option BufferLock) → BufId → List BufferSection → Group → Tid → ℕ
positions O b past = by_side (λ side t. drawn O (Buffer b) side t past)

-- One section at a buffer.
module _ (O : LockId → Option BufferLock) (past : List BufferSection) (cpu : CpuId)
    (d : BufId) where
  abbrev before : Side → Tid → ℕ
  before side t = drawn O (Buffer d) side t past

  abbrev after : CvCall BufferEdit → Side → Tid → ℕ
  after call side t = drawn O (Buffer d) side t (section cpu (Buffer d) call ∷ past)

  -- a thread that enters no line keeps its position, and one that enters draws the next
  drawn_is : (call : CvCall BufferEdit) (side : Side) (t : Tid) (v : Bool)
      → is_enter side t call ≡ v
      → after call side t ≡ (if v then drawn_in side (buffer_lock_at O past (Buffer d))
      else before side t)
  drawn_is call side t v is =
      ap (λ w. if w && is_enter side t call then drawn_in side (buffer_lock_at O past (Buffer d))
      else before side t) (same_lock_self (Buffer d))
      ∙ ap (λ w. if w then drawn_in side (buffer_lock_at O past (Buffer d)) else before side t) is

  agree : (call : CvCall BufferEdit) → ((side : Side) (t : Tid) → is_enter side t call ≡ false)
      → (x : BufferState)
      → Agree (by_side before) (by_side (after call)) x
  agree call none x Sends =
      all_along (λ t. after call Senders t ≡ before Senders t) x.send_line
      (λ t. drawn_is call Senders t false (none Senders t))
  agree call none x Receives =
      all_along (λ t. after call Receivers t ≡ before Receivers t) x.receive_line
      (λ t. drawn_is call Receivers t false (none Receivers t))
  agree call none x Closes = tt

  -- a thread that enters a line was in none
  agree_but : (call : CvCall BufferEdit) (u : Tid) (x : BufferState)
      → ((side : Side) → is_in u (line_of side x) ≡ false)
      → ((side : Side) (t : Tid) → same_tid u t ≡ false → is_enter side t call ≡ false)
      → Agree (by_side before) (by_side (after call)) x
  agree_but call u x out none Sends =
      all_but (λ t. after call Senders t ≡ before Senders t) u x.send_line (out Senders)
      (λ t other. drawn_is call Senders t false (none Senders t other))
  agree_but call u x out none Receives =
      all_but (λ t. after call Receivers t ≡ before Receivers t) u x.receive_line (out Receivers)
      (λ t other. drawn_is call Receivers t false (none Receivers t other))
  agree_but call u x out none Closes = tt

  above_same : (u : Tid) (owner : Option Tid) (lock : BufferLock)
      → lock.above ≡ (lock_asked_by u owner lock).above
  above_same u None lock = refl
  above_same u (Some o) lock = refl

  -- its effect may occur, and the block accounts for the effects with it
  module _ (caps : List ℕ) (es : List Entry) (lock : BufferLock)
      (at : buffer_lock_at O past (Buffer d) ≡ Some lock)
      (tally : Tally caps d.0 es (by_side before) lock.above) where
    abbrev StepHere : CvCall BufferEdit → Option Entry → BufferState → Type 0
    StepHere call effect x = Steps caps d.0 es effect (by_side (after call)) x

    no_effect : (call : CvCall BufferEdit)
        → ((side : Side) (t : Tid) → is_enter side t call ≡ false) → StepHere call None lock.above
    no_effect call none = stays tally (by_side (after call)) (agree call none lock.above)

    here_step : (call : CvCall BufferEdit) → IsDue O past (Buffer d) call
        → StepHere call (effect_on cpu d call before (Some lock))
        (lock_edited buffer_rules call lock).above
    here_step (Acquire u) due =
        subst (StepHere (Acquire u) None) (above_same u lock.owner lock)
        (no_effect (Acquire u) (λ side t. refl))
    here_step (Inside (Edit (Enter u side))) due =
        (λ e none. absurd (cc none), go (may_join u (line_of side lock.above)))
      where
        call : CvCall BufferEdit
        call = Inside (Edit (Enter u side))

        nowhere : (to : Side) → is_in u (line_of to lock.above) ≡ false
        nowhere Receivers = sym (ap (is_in_line Receivers u) at) ∙ due.1
        nowhere Senders = sym (ap (is_in_line Senders u) at) ∙ due.0

        same : Agree (by_side before) (by_side (after call)) lock.above
        same = agree_but call u lock.above nowhere (λ to t. enter_other u t side to)

        go : (v : Bool) → Tally caps d.0 es (by_side (after call))
            (if v then entered side u lock.above else lock.above)
        go true =
            enters tally (after call) side u same
            (drawn_is call side u true (enter_self u side) ∙ ap (drawn_in side) at)
        go false = agreed tally (by_side (after call)) same
    here_step (Inside (Edit (TryPut u m))) due = go (is_next Senders u lock.above) refl
      where
        call : CvCall BufferEdit
        call = Inside (Edit (TryPut u m))

        go : (v : Bool) → is_next Senders u lock.above ≡ v
            → StepHere call
            (if v then Some
            (entry cpu u (effect_kind Senders lock.above) d m lock.above.effects (before Senders u))
            else None)
            (if v then put_in m lock.above else lock.above)
        go true next =
            takes (put_step cpu d u (by_side before) lock.above m next) tally (by_side (after call))
            (agree call (λ side t. refl) (put_in m lock.above))
        go false next = no_effect call (λ side t. refl)
    here_step (Inside (Edit (TryTake u))) due = go (is_next Receivers u lock.above) refl
      where
        call : CvCall BufferEdit
        call = Inside (Edit (TryTake u))

        item : Message
        item = first_item lock.above.items

        go : (v : Bool) → is_next Receivers u lock.above ≡ v
            → StepHere call
            (if v then Some
            (entry cpu u (effect_kind Receivers lock.above) d item lock.above.effects
            (before Receivers u)) else None)
            (if v then taken_out lock.above else lock.above)
        go true next =
            takes (take_step cpu d u (by_side before) lock.above next) tally (by_side (after call))
            (agree call (λ side t. refl) (taken_out lock.above))
        go false next = no_effect call (λ side t. refl)
    here_step (Inside (Edit (Shut u))) due =
        takes (shut_step cpu d u (by_side before) lock.above) tally
        (by_side (after (Inside (Edit (Shut u)))))
        (agree (Inside (Edit (Shut u))) (λ side t. refl) (shut lock.above))
    here_step (Inside (SignalFront u side)) due =
        no_effect (Inside (SignalFront u side)) (λ to t. refl)
    here_step (Release leave) due = no_effect (Release leave) (λ side t. refl)

  -- a section leaves the positions at each other buffer
  apart_same : (call : CvCall BufferEdit) (b : BufId) → (b.0 == d.0) ≡ false → (g : Group) (t : Tid)
      → positions O b (section cpu (Buffer d) call ∷ past) g t ≡ positions O b past g t
  apart_same call b other Sends t =
      ap (λ v. if v && is_enter Senders t call
      then drawn_in Senders (buffer_lock_at O past (Buffer b))
      else drawn O (Buffer b) Senders t past) other
  apart_same call b other Receives t =
      ap (λ v. if v && is_enter Receivers t call
      then drawn_in Receivers (buffer_lock_at O past (Buffer b))
      else drawn O (Buffer b) Receivers t past) other
  apart_same call b other Closes t = refl

module _ (opening : LockId → Option (QueueBlock BufferLock)) (caps : List ℕ)
    (boots : inner opening ≡ opening_locks caps) where
  -- the blocks account for these effects of these sections, each of which may follow those before
  -- it
  abbrev AreKept : List BufferSection → List Entry → Type 0
  AreKept past es =
      Kept (lock_edited buffer_rules) (inner opening) caps (λ (lock : BufferLock). lock.above)
      (positions (inner opening)) past es

  all_kept : (past : List BufferEvent)
      → IsLawful (QueueAllowed (lock_kernel (cv_rules buffer_monitor_rules) opening)) past
      → AreKept (buffer_sections past) (effects_in (inner opening) (buffer_sections past))
  all_kept [] lawful =
      kept_start (lock_edited buffer_rules) (inner opening) caps (λ (lock : BufferLock). lock.above)
      (positions (inner opening)) fresh_lock
      (λ b. ap (λ locks. locks (Buffer b)) boots) (λ n. refl)
  all_kept (e ∷ past) lawful = go e.call lawful.0 (all_kept past lawful.1)
    where
      go : (call : QueueCall (CvCall BufferEdit))
          → QueueAllowed (lock_kernel (cv_rules buffer_monitor_rules) opening) past
          (record { cpu = e.cpu; call = call })
          → AreKept (buffer_sections past) (effects_in (inner opening) (buffer_sections past))
          → AreKept (with_section e.cpu call (buffer_sections past))
          (effects_in (inner opening) (with_section e.cpu call (buffer_sections past)))
      go (Push q t) may kept = kept
      go (TakeAll q) may kept = kept
      go (OnBuffer d call) may kept =
          kept_step (lock_edited buffer_rules) (inner opening) caps
          (λ (lock : BufferLock). lock.above) (positions (inner opening))
          (effects_in (inner opening) (buffer_sections past)) (buffer_sections past) kept e.cpu d
          call
          (effect_on e.cpu d call
          (λ side t. drawn (inner opening) (Buffer d) side t (buffer_sections past))) refl
          (λ o f is. (effect_position e.cpu d call
          (λ side t. drawn (inner opening) (Buffer d) side t (buffer_sections past)) o f is).1)
          (apart_same (inner opening) (buffer_sections past) e.cpu d call)
          (λ lock at tally. here_step (inner opening) (buffer_sections past) e.cpu d caps
          (effects_in (inner opening) (buffer_sections past)) lock at
          tally call may.upper.granted)

  pub all_tallied : (past : List BufferEvent)
      → IsLawful (QueueAllowed (lock_kernel (cv_rules buffer_monitor_rules) opening)) past
      → (b : BufId) (lock : BufferLock)
      → buffer_lock_at (inner opening) (buffer_sections past) (Buffer b) ≡ Some lock
      → Tally caps b.0 (effects_in (inner opening) (buffer_sections past))
      (positions (inner opening) b (buffer_sections past)) lock.above
  all_tallied past lawful = (all_kept past lawful).0

  pub effects_lawful : (past : List BufferEvent)
      → IsLawful (QueueAllowed (lock_kernel (cv_rules buffer_monitor_rules) opening)) past
      → IsLawful (MayTakeEffect caps) (effects_in (inner opening) (buffer_sections past))
  effects_lawful past lawful = (all_kept past lawful).1
