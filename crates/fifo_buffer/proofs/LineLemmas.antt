-- A line's counter counts the threads that entered it; and the calls of one side take effect in the
-- order in which their threads joined its line.
use Rattle.std.proofs.Common.{ℕ, ◌≡◌, ◌+◌, ◌<◌, ◌%◌, ◌^◌, Bool, true, false, not, ◌&&◌, List, [], ◌∷◌, length, Option, Some, option_map, if◌then◌else◌, get_or}
use Rattle.std.proofs.{Common.{refl, ap, sym, ◌∙◌, arith, lt-ltb, ◌++◌, None, subst, append_assoc, option_to_list}, lemmas.Option.slice_get_within}
use Rattle.std.{proofs.lemmas.Option.{slice_get-get_or, same_Some}, specs.Prelude.{◌==◌}}
use Rattle.fifo_buffer.{proofs.Callers.{kernel_of, AreLawful}, specs.{FifoFits.BootsSo, Laws.{OwnedLaws.found, Tallies.effect_position}}}
use Rattle.fifo_buffer.specs.{Positions.{PositionsAreCounts, enters_side, entered_count}, SectionPolls.BufferEvent, Served.{FirstComeFirstServed, group_on}}
use Rattle.{fifo_buffer.specs.{Served.{joiners_of, served}, Stances.same_side}, layer_traits.specs.Blocks.{Capacities.caps_in, BufferEffects.fresh_lock}}
use Rattle.layer_traits.specs.Blocks.{BufferEffects.{drawn_in, effect_of, effect_on, effects_in, drawn}, BufferProtocol.{BufferLock, BufferSection, IsDue}}
use Rattle.layer_traits.specs.Blocks.{BufferProtocol.{buffer_lock_at, buffer_rules, is_in_line}, QueueBlocks.{StartsWell, inner}, BufferBlocks.counted}
use Rattle.layer_traits.specs.Blocks.BufferBlocks.{may_join, drawn_of, BufferState, entered, is_first, is_next, line_of}
use Rattle.layer_traits.specs.declared.{buffer_edits.BufferEdit.{BufferEdit, TheVariants.{Enter, TryPut, TryTake, Shut}}, locked.Side.Side}
use Rattle.layer_traits.specs.declared.locked.{Side.TheVariants.{Receivers, Senders}, QLockCall.TheVariants.{Acquire, Inside, Release}}
use Rattle.layer_traits.specs.declared.{queue_edits.QueueBlock.QueueBlock, queues.QueueCall.{QueueCall, TheVariants.{Push, TakeAll, OnBuffer}}}
use Rattle.layer_traits.specs.{declared.conditions.CvEdit.TheVariants.{Edit, SignalFront}, Layers.{Conditions.CvCall, QLocking.{lock_caller, lock_edited}}}
use Rattle.layer_traits.specs.{Layers.{QLocking.lock_asked_by, Queues.{QueueAllowed, buffer_sections, with_section}}, Protocols.Protocol.section}
use Rattle.event_log.specs.declared.{ids.{BufId.BufId, CpuId.CpuId, LockId.{LockId, TheVariants.Buffer}, Tid.Tid, TheConstants.THREADS}, entries.Entry.Entry}
use Rattle.{event_log.{specs.{History.same_lock, Messages.Message, Runs.{group_of, same_group}}, proofs.Same.same_lock_true}, thread_blocks.specs.Queues.is_in}
use Rattle.thread_blocks.{specs.Queues.rest, proofs.Members.same_tid_true}

-- one more thread entered, or none
abbrev more : Bool → ℕ → ℕ
more v n = if v then counted n else n

pub joins_now : (t : Tid) (queue : List Tid) → t.0 < THREADS → is_in t queue ≡ false → may_join t queue ≡ true
joins_now t queue small out = ap (λ v. v && not (is_in t queue)) (lt-ltb t.0 THREADS small) ∙ ap not out

-- a section counts a thread that enters, which may enter: it is one of the machine's and in neither
-- line
section_counts : (side : Side) (O : LockId → Option BufferLock) (past : List BufferSection) (d : BufId) (call : CvCall BufferEdit) (lock : BufferLock)
    → buffer_lock_at O past (Buffer d) ≡ Some lock → IsDue O past (Buffer d) call → (lock_caller buffer_rules call).0 < THREADS
    → drawn_of side (lock_edited buffer_rules call lock).above ≡ more (enters_side side call) (drawn_of side lock.above)
section_counts side O past d call lock at due small = grind (arith, joins_now)

counts_more : (v : Bool) (a n : ℕ) → a ≡ n % 2 ^ 64 → more v a ≡ (if v then n + 1 else n) % 2 ^ 64
counts_more v a n is = grind arith

-- What a section makes of a line.

-- the first of a line, and those after it
first_in_line : (t : Tid) (line : List Tid) → is_first t line ≡ true → line ≡ t ∷ rest line
first_in_line t [] first = absurd cc
first_in_line t (u ∷ line) first = let same = same_tid_true t u first in ap (λ x. x ∷ line) (sym same)

asked_stays : (side : Side) (t : Tid) (owner : Option Tid) (lock : BufferLock) → line_of side (lock_asked_by t owner lock).above ≡ line_of side lock.above
asked_stays side t owner lock = grind arith

entered_line : (side at : Side) (t : Tid) (x : BufferState)
    → line_of side (entered at t x) ≡ (if same_side side at then line_of side x ++ t ∷ [] else line_of side x)
entered_line side at t x = grind arith

-- the threads that entered are those that were served, then those in the line; so it stays if one
-- more enters
joins : (v : Bool) (t : Tid) (all before line : List Tid) → all ≡ before ++ line
    → (if v then all ++ t ∷ [] else all) ≡ before ++ (if v then line ++ t ∷ [] else line)
joins true t all before line is = ap (λ l. l ++ t ∷ []) is ∙ append_assoc before line (t ∷ [])
joins false t all before line is = is

-- and if the first in line is served
serves : (t : Tid) (all before line : List Tid) → all ≡ before ++ line → is_first t line ≡ true → all ≡ (before ++ t ∷ []) ++ rest line
serves t all before line is first = is ∙ ap (λ l. before ++ l) (first_in_line t line first) ∙ sym (append_assoc before (t ∷ []) (rest line))

-- The lines of a buffer, and what a section makes of them.

module _ (side : Side) (b : BufId) (c : CpuId) (position : Side → Tid → ℕ) (all : List Tid) (es : List Entry) (lock : BufferLock)
    (is : all ≡ served side b.0 es ++ line_of side lock.above) where
  abbrev Keeps : CvCall BufferEdit → Option Entry → Type 0
  Keeps call effect =
      (if enters_side side call then all ++ lock_caller buffer_rules call ∷ [] else all)
      ≡ served side b.0 (option_to_list effect ++ es) ++ line_of side (lock_edited buffer_rules call lock).above

  abbrev effect : CvCall BufferEdit → Option Entry
  effect call = effect_on c b call position (Some lock)

  abbrev line : List Tid
  line = line_of side lock.above

  keeps_acquire : (t : Tid) → Keeps (Acquire t) (effect (Acquire t))
  keeps_acquire t = is ∙ ap (λ l. served side b.0 es ++ l) (sym (asked_stays side t lock.owner lock))

  keeps_enter : (t : Tid) (at : Side) → may_join t (line_of at lock.above) ≡ true → Keeps (Inside (Edit (Enter t at))) (effect (Inside (Edit (Enter t at))))
  keeps_enter t at may =
      joins (same_side side at) t all (served side b.0 es) line is ∙ ap (λ l. served side b.0 es ++ l)
      (sym (ap (λ v. line_of side (if v then entered at t lock.above else lock.above)) may ∙ entered_line side at t lock.above))

  -- a try that is not its thread's turn changes nothing; at its turn the first in line is served
  keeps_put : (t : Tid) (m : Message) (v : Bool) → is_next Senders t lock.above ≡ v → Keeps (Inside (Edit (TryPut t m))) (effect (Inside (Edit (TryPut t m))))
  keeps_put t m v next = grind (arith, serves)

  keeps_take : (t : Tid) (v : Bool) → is_next Receivers t lock.above ≡ v → Keeps (Inside (Edit (TryTake t))) (effect (Inside (Edit (TryTake t))))
  keeps_take t v next = grind (arith, serves)

  keeps_shut : (t : Tid) → Keeps (Inside (Edit (Shut t))) (effect (Inside (Edit (Shut t))))
  keeps_shut t = grind arith

  keeps_call : (O : LockId → Option BufferLock) (past : List BufferSection) (call : CvCall BufferEdit) → buffer_lock_at O past (Buffer b) ≡ Some lock
      → IsDue O past (Buffer b) call → (lock_caller buffer_rules call).0 < THREADS → Keeps call (effect call)
  keeps_call O past (Acquire t) at due small = keeps_acquire t
  keeps_call O past (Inside (Edit (Enter t Receivers))) at due small =
      keeps_enter t Receivers (joins_now t lock.above.receive_line small (subst (λ o. is_in_line Receivers t o ≡ false) at due.1))
  keeps_call O past (Inside (Edit (Enter t Senders))) at due small =
      keeps_enter t Senders (joins_now t lock.above.send_line small (subst (λ o. is_in_line Senders t o ≡ false) at due.0))
  keeps_call O past (Inside (Edit (TryPut t m))) at due small = keeps_put t m (is_next Senders t lock.above) refl
  keeps_call O past (Inside (Edit (TryTake t))) at due small = keeps_take t (is_next Receivers t lock.above) refl
  keeps_call O past (Inside (Edit (Shut t))) at due small = keeps_shut t
  keeps_call O past (Inside (SignalFront t at_side)) at due small = is
  keeps_call O past (Release leave) at due small = is

-- The history of a buffer.

-- effects elsewhere serve no thread of this line
elsewhere : (side : Side) (b : BufId) (d : BufId) (o : Option Entry) (es : List Entry) → same_lock (Buffer b) (Buffer d) ≡ false
    → ((e : Entry) → o ≡ Some e → e.buffer ≡ d) → served side b.0 (option_to_list o ++ es) ≡ served side b.0 es
elsewhere side b d None es other its = refl
elsewhere side b d (Some e) es other its =
    let apart : (b.0 == e.buffer.0) ≡ false = ap (λ (x : BufId). b.0 == x.0) (its e refl) ∙ other in
    ap (λ v. if v && same_group (group_of e.kind) (group_on side) then served side b.0 es ++ e.thread ∷ [] else served side b.0 es) apart

module _ (opening : LockId → Option (QueueBlock BufferLock)) (starts : StartsWell opening) (boots : BootsSo opening) (b : BufId) (side : Side)
    (within : b.0 < length (caps_in opening)) where
  abbrev Counted : List BufferSection → Type 0
  Counted past = drawn_in side (buffer_lock_at (inner opening) past (Buffer b)) ≡ entered_count side (Buffer b) past % 2 ^ 64

  -- at the start no thread has entered
  none_yet : Counted []
  none_yet =
      ap (drawn_in side) (ap (λ locks. locks (Buffer b)) boots ∙ ap (option_map fresh_lock) (slice_get-get_or (caps_in opening) b.0 0 within)) ∙ none side
    where
      none : (s : Side) → drawn_in s (Some (fresh_lock (get_or (caps_in opening) b.0 0))) ≡ 0
      none s = grind arith

  abbrev drawn_if : List BufferSection → CvCall BufferEdit → Bool → ℕ
  drawn_if past call v =
      drawn_in side (if v then option_map (lock_edited buffer_rules call) (buffer_lock_at (inner opening) past (Buffer b))
      else buffer_lock_at (inner opening) past (Buffer b))

  abbrev count_if : List BufferSection → CvCall BufferEdit → Bool → ℕ
  count_if past call v = (if v && enters_side side call then entered_count side (Buffer b) past + 1 else entered_count side (Buffer b) past) % 2 ^ 64

  one_section : (past : List BufferEvent) (c : CpuId) (d : BufId) (call : CvCall BufferEdit) → IsDue (inner opening) (buffer_sections past) (Buffer d) call
      → (lock_caller buffer_rules call).0 < THREADS → Counted (buffer_sections past) → Counted (section c (Buffer d) call ∷ buffer_sections past)
  one_section past c d call due small before = go (same_lock (Buffer b) (Buffer d)) refl
    where
      go : (v : Bool) → same_lock (Buffer b) (Buffer d) ≡ v → Counted (section c (Buffer d) call ∷ (buffer_sections past))
      go true is =
          let lock = found opening boots b within past in
          let here : buffer_lock_at (inner opening) (buffer_sections past) (Buffer d) ≡ Some lock.0
          = ap (buffer_lock_at (inner opening) (buffer_sections past)) (sym (same_lock_true (Buffer b) (Buffer d) is)) ∙ lock.1 in
          let counts : drawn_of side lock.0.above ≡ entered_count side (Buffer b) (buffer_sections past) % 2 ^ 64 = sym (ap (drawn_in side) lock.1) ∙ before in
          ap (drawn_if (buffer_sections past) call) is
          ∙ ap (λ (x : Option BufferLock). drawn_in side (option_map (lock_edited buffer_rules call) x)) lock.1
          ∙ section_counts side (inner opening) (buffer_sections past) d call lock.0 here due small
          ∙ counts_more (enters_side side call) (drawn_of side lock.0.above) (entered_count side (Buffer b) (buffer_sections past)) counts
          ∙ ap (count_if (buffer_sections past) call) (sym is)
      go false is = ap (drawn_if (buffer_sections past) call) is ∙ before ∙ ap (count_if (buffer_sections past) call) (sym is)

  -- what each section keeps that is due, and whose caller is one of the machine's, holds after all
  -- lawful events
  pub by_sections : (P : List BufferSection → Type 0) → P [] → ((past : List BufferEvent) (c : CpuId) (d : BufId) (call : CvCall BufferEdit)
      → IsDue (inner opening) (buffer_sections past) (Buffer d) call → (lock_caller buffer_rules call).0 < THREADS → P (buffer_sections past)
      → P (section c (Buffer d) call ∷ buffer_sections past)) → (past : List BufferEvent) → AreLawful opening past → P (buffer_sections past)
  by_sections P start keeps [] lawful = start
  by_sections P start keeps (e ∷ past) lawful = go e.call lawful.0 (by_sections P start keeps past lawful.1)
    where
      go : (call : QueueCall (CvCall BufferEdit)) → QueueAllowed (kernel_of opening) past (record { cpu = e.cpu; call = call }) → P (buffer_sections past)
          → P (with_section e.cpu call (buffer_sections past))
      go (Push q t) may before = before
      go (TakeAll q) may before = before
      go (OnBuffer d call) may before = keeps past e.cpu d call may.upper.granted (grind (arith, slice_get_within)) before

  abbrev lock_at : List BufferSection → Option BufferLock
  lock_at past = buffer_lock_at (inner opening) past (Buffer b)

  -- the threads that entered are those that were served, then those in the line
  IsServed : List BufferSection → Type 0
  IsServed past = (lock : BufferLock) → lock_at past ≡ Some lock
      → joiners_of side (Buffer b) past ≡ served side b.0 (effects_in (inner opening) past) ++ line_of side lock.above

  nobody_yet : IsServed []
  unfolding IsServed
  nobody_yet lock at =
      let fresh : lock ≡ fresh_lock (get_or (caps_in opening) b.0 0) = same_Some lock (fresh_lock (get_or (caps_in opening) b.0 0)) (sym at
      ∙ ap (λ locks. locks (Buffer b)) boots
      ∙ ap (option_map fresh_lock) (slice_get-get_or (caps_in opening) b.0 0 within)) in
      sym (ap (λ (l : BufferLock). line_of side l.above) fresh ∙ empty side)
    where
      empty : (s : Side) → line_of s (fresh_lock (get_or (caps_in opening) b.0 0)).above ≡ []
      empty s = grind arith

  one_more_section : (past : List BufferEvent) (c : CpuId) (d : BufId) (call : CvCall BufferEdit) → IsDue (inner opening) (buffer_sections past) (Buffer d) call
      → (lock_caller buffer_rules call).0 < THREADS → IsServed (buffer_sections past) → IsServed (section c (Buffer d) call ∷ buffer_sections past)
  unfolding IsServed
  one_more_section past c d call due small before = go (same_lock (Buffer b) (Buffer d)) refl
    where
      here : Option Entry
      here = effect_of (inner opening) (buffer_sections past) (section c (Buffer d) call)

      go : (v : Bool) → same_lock (Buffer b) (Buffer d) ≡ v → (lock : BufferLock) → lock_at (section c (Buffer d) call ∷ (buffer_sections past)) ≡ Some lock
          → joiners_of side (Buffer b) (section c (Buffer d) call ∷ (buffer_sections past))
          ≡ served side b.0 (effects_in (inner opening) (section c (Buffer d) call ∷ (buffer_sections past))) ++ line_of side lock.above
      go true is lock at =
          let was = found opening boots b within past in
          let one : Buffer b ≡ Buffer d = same_lock_true (Buffer b) (Buffer d) is in
          let there : buffer_lock_at (inner opening) (buffer_sections past) (Buffer d) ≡ Some was.0
          = ap (buffer_lock_at (inner opening) (buffer_sections past)) (sym one) ∙ was.1 in
          let same : d ≡ b = buffer_same d b (sym one) in
          let edited : lock ≡ lock_edited buffer_rules call was.0 = same_Some lock (lock_edited buffer_rules call was.0) (sym at
          ∙ ap (λ (v : Bool). if v then option_map (lock_edited buffer_rules call) (lock_at (buffer_sections past)) else lock_at (buffer_sections past)) is
          ∙ ap (option_map (lock_edited buffer_rules call)) was.1) in
          let kept =
          keeps_call side b c (λ s t. drawn (inner opening) (Buffer d) s t (buffer_sections past)) (joiners_of side (Buffer b) (buffer_sections past))
          (effects_in (inner opening) (buffer_sections past)) was.0 (before was.0 was.1) (inner opening) (buffer_sections past) call was.1
          (subst (λ (x : BufId). IsDue (inner opening) (buffer_sections past) (Buffer x) call) same due) small in
          ap (λ (v : Bool). if v && enters_side side call then joiners_of side (Buffer b) (buffer_sections past)
          ++ lock_caller buffer_rules call ∷ [] else joiners_of side (Buffer b) (buffer_sections past))
          is ∙ kept
          ∙ ap (λ (o : Option Entry). served side b.0 (option_to_list o ++ effects_in (inner opening) (buffer_sections past))
          ++ line_of side (lock_edited buffer_rules call was.0).above) (sym (effect_here was.0 there same))
          ∙ ap (λ (l : BufferLock). served side b.0 (effects_in (inner opening) (section c (Buffer d) call ∷ (buffer_sections past)))
          ++ line_of side l.above) (sym edited)
        where
          buffer_same : (x y : BufId) → Buffer x ≡ Buffer y → x ≡ y
          buffer_same x y same = cc same

          effect_here : (l : BufferLock) → buffer_lock_at (inner opening) (buffer_sections past) (Buffer d) ≡ Some l → d ≡ b
              → here ≡ effect_on c b call (λ s t. drawn (inner opening) (Buffer d) s t (buffer_sections past)) (Some l)
          effect_here l there same =
              ap (λ (o : Option BufferLock). effect_on c d call (λ s t. drawn (inner opening) (Buffer d) s t (buffer_sections past)) o) there
              ∙ ap (λ (x : BufId). effect_on c x call (λ s t. drawn (inner opening) (Buffer d) s t (buffer_sections past)) (Some l)) same
      go false is lock at =
          let was : lock_at (buffer_sections past) ≡ Some lock
          = sym (ap (λ (v : Bool). if v then option_map (lock_edited buffer_rules call) (lock_at (buffer_sections past)) else lock_at
          (buffer_sections past)) is) ∙ at in
          ap (λ (v : Bool). if v && enters_side side call then joiners_of side (Buffer b) (buffer_sections past)
          ++ lock_caller buffer_rules call ∷ [] else joiners_of side (Buffer b) (buffer_sections past))
          is ∙ before lock was
          ∙ ap (λ (l : List Tid). l ++ line_of side lock.above) (sym (elsewhere side b d here (effects_in (inner opening) (buffer_sections past)) is (λ e at_e.
          (effect_position c d call (λ s t. drawn (inner opening) (Buffer d) s t (buffer_sections past))
          (buffer_lock_at (inner opening) (buffer_sections past) (Buffer d)) e at_e).1)))

  served_all : (past : List BufferEvent) → AreLawful opening past → IsServed (buffer_sections past)
  served_all = by_sections IsServed nobody_yet one_more_section

pub positions_are_counts : PositionsAreCounts
positions_are_counts opening past starts boots lawful b side within =
    by_sections opening starts boots b side within (Counted opening starts boots b side within) (none_yet opening starts boots b side within)
    (one_section opening starts boots b side within) past lawful

pub served_in_line : FirstComeFirstServed
unfolding IsServed
served_in_line opening past starts boots lawful b side within lock at = served_all opening starts boots b side within past lawful lock at
