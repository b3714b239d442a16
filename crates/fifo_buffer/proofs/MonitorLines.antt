-- The laws of a monitor's sections: what each does, first come, first served, and no lost wake-up.
use Rattle.std.proofs.Common.{◌≡◌, ℕ, ◌<◌, Bool, true, false, not, ◌&&◌, ◌||◌, ◌⊎◌, inl, inr, List, [], ◌∷◌, ◌++◌, Option, Some, None, option_map, is_some}
use Rattle.std.proofs.{Common.{if◌then◌else◌, refl, ap, sym, ◌∙◌, subst, append_assoc, option_to_list, lt-ltb, nat_lt, ◌==◌, slice_get}, lemmas.Bool.and_parts}
use Rattle.std.proofs.lemmas.{Bool.{eq-eqb, eqb-false, eqb-true, ne_eqb}, List.append-nil, Option.same_Some}
use Rattle.event_log.specs.declared.{entries.Entry.Entry, ids.{BufId.BufId, CpuId.CpuId, LockId.{LockId, TheVariants.{Pending, Buffer}}, Tid.Tid}}
use Rattle.event_log.specs.{declared.ids.TheConstants.THREADS, History.same_lock, Messages.Message, Runs.{Group, Sends, Receives, Closes, group_of, same_group}}
use Rattle.{event_log.specs.Sections.Section, layer_traits.specs.declared.{calls.Effect.Effect, locked.Side.{Side, TheVariants.{Receivers, Senders}}}}
use Rattle.layer_traits.specs.{Blocks.BufferBlocks.{counted, entered, may_go}, Layers.{BufferLaw.entry_of, Sleeping.{joined, left, sleep_edited}}}
use Rattle.{layer_traits.specs.Layers.Sleeping.{wait_list_joined, wait_list_of}, thread_blocks.specs.Queues.{first, is_in, rest, same_tid, without}}
use Rattle.{thread_blocks.proofs.{Members.{same_tid_self, same_tid_true}, Distinct.{pushed_in, taken_absent}}, fifo_buffer.specs.Laws.BlockSteps.put_counts}
use Rattle.fifo_buffer.specs.{Laws.BlockSteps.{put_step, take_counts, take_step}, Served.{group_on, served}, Tallies.drawn_by}
use Rattle.fifo_buffer.specs.declared.monitor_blocks.{Front.{Front, TheVariants.{Asleep, Owed, Awake}}, MonitorAsk.{MonitorAsk, TheVariants.{Send, Receive}}}
use Rattle.fifo_buffer.specs.declared.monitor_blocks.{MonitorAsk.TheVariants.{Close, WakeFirst}, MonitorEdit.MonitorEdit, MonitorReply.MonitorReply}
use Rattle.fifo_buffer.specs.{declared.monitor_blocks.MonitorReply.TheVariants.{Acted, Refused}, Monitors.{MonitorState, buffer_alone, close_effect}}
use Rattle.fifo_buffer.specs.Monitors.{closed_now, first_woken, front_of, front_joined, front_woken, goes_now, is_at_head, is_owed, is_owed_by, leaving_of}
use Rattle.fifo_buffer.specs.Monitors.{monitor_edited_by, monitor_effect, monitor_joins, monitor_leaves, monitor_line, monitor_rules, monitor_told_by, opposite}
use Rattle.fifo_buffer.specs.Monitors.{owed_by, owed_first, owed_next, owing, receive_effect, received, send_effect, monitor_sent, waiting_at}
use Rattle.fifo_buffer.specs.MonitorSections.{HasEffect, IsMonitorSection, effect_had, first_called, line_joined, JoinsLine, NobodyBefore, WakesFirst}
use Rattle.fifo_buffer.specs.{MonitorSections.{line_served, turn_side}, MonitorHistories.{AreOfThreads, MonitorLocked, MonitorLosesNoWakeUp}}
use Rattle.fifo_buffer.specs.MonitorHistories.{MonitorServesInOrder, comers, joins_monitor, fresh_monitor, fresh_monitors, is_on_side, monitor_after}
use Rattle.fifo_buffer.specs.MonitorHistories.{monitor_effect_by, monitor_entries, monitor_entry, sleeping_on}
use Rattle.layer_traits.specs.declared.moves.WaitList.TheVariants as wait_list

-- What a section does.

head_turn : (t : Tid) (queue : List Tid) → is_at_head t queue ≡ true → NobodyBefore t queue
head_turn t [] is = inl refl
head_turn t (u ∷ queue) is = inr (ap Some (sym (same_tid_true t u is)))

turn_head : (t : Tid) (queue : List Tid) → NobodyBefore t queue → is_at_head t queue ≡ true
turn_head t [] turn = refl
turn_head t (u ∷ queue) (inl none) = absurd (cc none)
turn_head t (u ∷ queue) (inr is) = subst (λ v. same_tid t v ≡ true) (sym (same_Some u t is)) (same_tid_self t)

-- a first that sleeps and whose call is allowed is owed its wake-up
heed : (t u : Tid) (queue : List Tid) (may : Bool) (front : Front) → first queue ≡ Some u → may ≡ true
    → (owed_by t (is_some (first queue) && may) front ≡ Awake) ⊎ ((v : Tid) × (owed_by t (is_some (first queue) && may) front ≡ Owed v))
heed t u [] may front is goes = absurd (cc is)
heed t u (w ∷ queue) true Asleep is goes = inr (t, refl)
heed t u (w ∷ queue) true (Owed v) is goes = inr (v, refl)
heed t u (w ∷ queue) true Awake is goes = inl refl
heed t u (w ∷ queue) false front is goes = absurd (cc goes)

-- a thread whose result names no side owes no wake-up
neither : (v w : Bool) (one other : Side) → (if v then Some one else if w then Some other else None) ≡ None → (v ≡ false) × (w ≡ false)
neither true w one other none = absurd (cc none)
neither false true one other none = absurd (cc none)
neither false false one other none = (refl, refl)

owes_nobody : (t : Tid) (side : Side) (y : MonitorState) → owed_next t side y ≡ None → (at : Side) → is_owed_by t (front_of at y) ≡ false
owes_nobody t Receivers y none Receivers = (neither (is_owed_by t y.first_receiver) (is_owed_by t y.first_sender) Receivers Senders none).0
owes_nobody t Receivers y none Senders = (neither (is_owed_by t y.first_receiver) (is_owed_by t y.first_sender) Receivers Senders none).1
owes_nobody t Senders y none Receivers = (neither (is_owed_by t y.first_sender) (is_owed_by t y.first_receiver) Senders Receivers none).1
owes_nobody t Senders y none Senders = (neither (is_owed_by t y.first_sender) (is_owed_by t y.first_receiver) Senders Receivers none).0

cpu_zero : CpuId
cpu_zero = record { 0 = 0 }

buffer_zero : BufId
buffer_zero = record { 0 = 0 }

first_may : (t : Tid) (may : Bool) → may ≡ true → (same_tid t t && may) ≡ true
first_may t may is = rw (same_tid_self t, is) refl

send_acts : (t : Tid) (m : Message) (x : MonitorState) → goes_now t Senders x ≡ true
    → HasEffect t (Send m) (send_effect m x) (owed_next t Receivers (owing t (monitor_sent m x))) x (owing t (monitor_sent m x))
send_acts t m x goes =
    let both = and_parts (is_at_head t x.send_line) (may_go Senders (buffer_alone x)) goes in
    let step = put_step cpu_zero buffer_zero t (λ g u. 0) (entered Senders t (buffer_alone x)) m (first_may t (may_go Senders (buffer_alone x)) both.1) in
    let kind : group_of (send_effect m x).kind ≡ Sends = step.counts in
    record {
      asked = (kind, refl);
      turn = λ side is. subst (λ (s : Side). NobodyBefore t (monitor_line s x)) (same_Some Senders side is) (head_turn t x.send_line both.0);
      allowed = step.allowed;
      op = refl;
      pos = rw kind refl;
      items = step.items;
      capacity = refl;
      closed = rw kind refl;
      effects = refl;
      counts = λ g. rw kind (go g);
      lines = lines;
      heeded = heed_at;
      abstract_answer = λ none at. owes_nobody t Receivers (owing t (monitor_sent m x)) none at;
    }
  where
    go : (g : Group) → drawn_by g (buffer_alone (owing t (monitor_sent m x)))
        ≡ (if same_group Sends g then counted (drawn_by g (buffer_alone x)) else drawn_by g (buffer_alone x))
    go Sends = refl
    go Receives = refl
    go Closes = refl

    lines : (side : Side) → monitor_line side (owing t (monitor_sent m x)) ≡ line_served (turn_side (Send m)) side (monitor_line side x)
    lines Receivers = refl
    lines Senders = refl

    heed_at : (side : Side) (u : Tid) → first (monitor_line side (owing t (monitor_sent m x))) ≡ Some u
        → may_go side (buffer_alone (owing t (monitor_sent m x))) ≡ true
        → (front_of side (owing t (monitor_sent m x)) ≡ Awake) ⊎ ((v : Tid) × (front_of side (owing t (monitor_sent m x)) ≡ Owed v))
    heed_at Receivers u is may = heed t u x.receive_line (may_go Receivers (buffer_alone (monitor_sent m x))) x.first_receiver is may
    heed_at Senders u is may = heed t u (rest x.send_line) (may_go Senders (buffer_alone (monitor_sent m x))) Asleep is may

receive_acts : (t : Tid) (x : MonitorState) → goes_now t Receivers x ≡ true
    → HasEffect t Receive (receive_effect x) (owed_next t Senders (owing t (received x))) x (owing t (received x))
receive_acts t x goes =
    let both = and_parts (is_at_head t x.receive_line) (may_go Receivers (buffer_alone x)) goes in
    let step = take_step cpu_zero buffer_zero t (λ g u. 0) (entered Receivers t (buffer_alone x)) (first_may t (may_go Receivers (buffer_alone x)) both.1) in
    let kind : group_of (receive_effect x).kind ≡ Receives = step.counts in
    record {
      asked = kind;
      turn = λ side is. subst (λ (s : Side). NobodyBefore t (monitor_line s x)) (same_Some Receivers side is) (head_turn t x.receive_line both.0);
      allowed = step.allowed;
      op = refl;
      pos = rw kind refl;
      items = step.items;
      capacity = refl;
      closed = rw kind refl;
      effects = refl;
      counts = λ g. rw kind (go g);
      lines = lines;
      heeded = heed_at;
      abstract_answer = λ none at. owes_nobody t Senders (owing t (received x)) none at;
    }
  where
    go : (g : Group) → drawn_by g (buffer_alone (owing t (received x)))
        ≡ (if same_group Receives g then counted (drawn_by g (buffer_alone x)) else drawn_by g (buffer_alone x))
    go Sends = refl
    go Receives = refl
    go Closes = refl

    lines : (side : Side) → monitor_line side (owing t (received x)) ≡ line_served (turn_side Receive) side (monitor_line side x)
    lines Receivers = refl
    lines Senders = refl

    heed_at : (side : Side) (u : Tid) → first (monitor_line side (owing t (received x))) ≡ Some u → may_go side (buffer_alone (owing t (received x))) ≡ true
        → (front_of side (owing t (received x)) ≡ Awake) ⊎ ((v : Tid) × (front_of side (owing t (received x)) ≡ Owed v))
    heed_at Receivers u is may = heed t u (rest x.receive_line) (may_go Receivers (buffer_alone (received x))) Asleep is may
    heed_at Senders u is may = heed t u x.send_line (may_go Senders (buffer_alone (received x))) x.first_sender is may

close_acts : (t : Tid) (x : MonitorState) → HasEffect t Close (close_effect x) (owed_next t Receivers (owing t (closed_now x))) x (owing t (closed_now x))
close_acts t x = record {
  asked = refl;
  turn = λ side is. absurd (cc is);
  allowed = refl;
  op = refl;
  pos = refl;
  items = refl;
  capacity = refl;
  closed = refl;
  effects = refl;
  counts = go;
  lines = lines;
  heeded = heed_at;
  abstract_answer = λ none at. owes_nobody t Receivers (owing t (closed_now x)) none at;
}
  where
    go : (g : Group) → drawn_by g (buffer_alone (owing t (closed_now x)))
        ≡ (if same_group Closes g then counted (drawn_by g (buffer_alone x)) else drawn_by g (buffer_alone x))
    go Sends = refl
    go Receives = refl
    go Closes = refl

    lines : (side : Side) → monitor_line side (owing t (closed_now x)) ≡ line_served (turn_side Close) side (monitor_line side x)
    lines Receivers = refl
    lines Senders = refl

    heed_at : (side : Side) (u : Tid) → first (monitor_line side (owing t (closed_now x))) ≡ Some u → may_go side (buffer_alone (owing t (closed_now x))) ≡ true
        → (front_of side (owing t (closed_now x)) ≡ Awake) ⊎ ((v : Tid) × (front_of side (owing t (closed_now x)) ≡ Owed v))
    heed_at Receivers u is may = heed t u x.receive_line (may_go Receivers (buffer_alone (closed_now x))) x.first_receiver is may
    heed_at Senders u is may = heed t u x.send_line (may_go Senders (buffer_alone (closed_now x))) x.first_sender is may

joined_front : (v : Bool) (front : Front) → v ≡ true → front_joined v front ≡ Asleep
joined_front v front is = rw is refl

kept_front : (v : Bool) (front : Front) → v ≡ false → front_joined v front ≡ front
kept_front v front is = rw is refl

is_false : (v : Bool) → (v ≡ true → ⊥) → v ≡ false
is_false true never = absurd (never refl)
is_false false never = refl

other_false : (v w : Bool) → (v && w) ≡ false → v ≡ true → w ≡ false
other_false true w is holds = is
other_false false w is holds = absurd (cc holds)

joins_line : (t : Tid) (side : Side) (x : MonitorState) → goes_now t side x ≡ false → JoinsLine t side x (waiting_at t side x)
joins_line t Receivers x stays = record {
  barred = λ turn. other_false (is_at_head t x.receive_line) (may_go Receivers (buffer_alone x)) stays (turn_head t x.receive_line turn);
  line = refl;
  alone = λ turn. joined_front (is_at_head t x.receive_line) x.first_receiver (turn_head t x.receive_line turn);
  behind = λ other. kept_front (is_at_head t x.receive_line) x.first_receiver
      (is_false (is_at_head t x.receive_line) (λ head. other (head_turn t x.receive_line head)));
  opposite_line = refl;
  opposite_front = refl;
  buffer = refl;
}
joins_line t Senders x stays = record {
  barred = λ turn. other_false (is_at_head t x.send_line) (may_go Senders (buffer_alone x)) stays (turn_head t x.send_line turn);
  line = refl;
  alone = λ turn. joined_front (is_at_head t x.send_line) x.first_sender (turn_head t x.send_line turn);
  behind = λ other. kept_front (is_at_head t x.send_line) x.first_sender
      (is_false (is_at_head t x.send_line) (λ head. other (head_turn t x.send_line head)));
  opposite_line = refl;
  opposite_front = refl;
  buffer = refl;
}

wakes_first : (t : Tid) (side : Side) (x : MonitorState)
    → WakesFirst t side (leaving_of side (owed_first side x)) (owed_next t (opposite side) (first_woken side x)) x (first_woken side x)
wakes_first t Receivers x = record {
  woken = λ v is. (rw is refl, rw is refl);
  nobody = nobody x.first_receiver;
  lines = lines;
  opposite_front = refl;
  buffer = refl;
  abstract_answer = λ none at. owes_nobody t Senders (first_woken Receivers x) none at;
}
  where
    lines : (at : Side) → monitor_line at (first_woken Receivers x) ≡ monitor_line at x
    lines Receivers = refl
    lines Senders = refl

    nobody : (front : Front) → ((v : Tid) → front ≡ Owed v → ⊥)
        → (leaving_of Receivers (if is_owed front then first x.receive_line else None) ≡ leaving_of Receivers None) × (front_woken front ≡ front)
    nobody Asleep unowed = (refl, refl)
    nobody (Owed v) unowed = absurd (unowed v refl)
    nobody Awake unowed = (refl, refl)
wakes_first t Senders x = record {
  woken = λ v is. (rw is refl, rw is refl);
  nobody = nobody x.first_sender;
  lines = lines;
  opposite_front = refl;
  buffer = refl;
  abstract_answer = λ none at. owes_nobody t Receivers (first_woken Senders x) none at;
}
  where
    lines : (at : Side) → monitor_line at (first_woken Senders x) ≡ monitor_line at x
    lines Receivers = refl
    lines Senders = refl

    nobody : (front : Front) → ((v : Tid) → front ≡ Owed v → ⊥)
        → (leaving_of Senders (if is_owed front then first x.send_line else None) ≡ leaving_of Senders None) × (front_woken front ≡ front)
    nobody Asleep unowed = (refl, refl)
    nobody (Owed v) unowed = absurd (unowed v refl)
    nobody Awake unowed = (refl, refl)

-- each section does what one may do
pub sections_lawful : (t : Tid) (call : MonitorAsk) (x : MonitorState) → IsMonitorSection t call (monitor_told_by t call x) x (monitor_edited_by t call x)
sections_lawful t (Send m) x = go (goes_now t Senders x) refl
  where
    go : (v : Bool) → goes_now t Senders x ≡ v
        → IsMonitorSection t (Send m) (if v then Acted (send_effect m x) (owed_next t Receivers (owing t (monitor_sent m x))) else Refused Senders) x
        (if v then owing t (monitor_sent m x) else waiting_at t Senders x)
    go true is = effect_had (send_acts t m x is)
    go false is = line_joined refl (joins_line t Senders x is)
sections_lawful t Receive x = go (goes_now t Receivers x) refl
  where
    go : (v : Bool) → goes_now t Receivers x ≡ v
        → IsMonitorSection t Receive (if v then Acted (receive_effect x) (owed_next t Senders (owing t (received x))) else Refused Receivers) x
        (if v then owing t (received x) else waiting_at t Receivers x)
    go true is = effect_had (receive_acts t x is)
    go false is = line_joined refl (joins_line t Receivers x is)
sections_lawful t Close x = effect_had (close_acts t x)
sections_lawful t (WakeFirst side) x = first_called (wakes_first t side x)

-- No lost wake-up.

-- a side is heeded: if its first sleeps and no thread owes it a wake-up, its call is not allowed;
-- and it does not sleep once it was woken
record IsHeeded (queue : List Tid) (front : Front) (asleep : List Tid) (may : Bool) : Type 0 where
  quiet : (u : Tid) → first queue ≡ Some u → front ≡ Asleep → may ≡ false
  awake : (u : Tid) → first queue ≡ Some u → front ≡ Awake → is_in u asleep ≡ false

abbrev Heeded : Side → MonitorLocked → Type 0
Heeded side s = IsHeeded (monitor_line side s.above) (front_of side s.above) (wait_list_of (sleeping_on side) s) (may_go side (buffer_alone s.above))

-- after an effect
owed_heeded : (t : Tid) (queue asleep : List Tid) (front : Front) (may : Bool)
    → ((u : Tid) → first queue ≡ Some u → front ≡ Awake → is_in u asleep ≡ false)
    → IsHeeded queue (owed_by t (is_some (first queue) && may) front) asleep may
owed_heeded t [] asleep front may awake = record { quiet = λ u is. absurd (cc is); awake = λ u is. absurd (cc is) }
owed_heeded t (w ∷ queue) asleep Asleep true awake = record { quiet = λ u is none. absurd (cc none); awake = λ u is none. absurd (cc none) }
owed_heeded t (w ∷ queue) asleep Asleep false awake = record { quiet = λ u is none. refl; awake = λ u is none. absurd (cc none) }
owed_heeded t (w ∷ queue) asleep (Owed v) may awake = record { quiet = λ u is none. absurd (cc none); awake = λ u is none. absurd (cc none) }
owed_heeded t (w ∷ queue) asleep Awake may awake = record { quiet = λ u is none. absurd (cc none); awake = awake }

-- after a thread joined the line
in_joined : (u t : Tid) (asleep : List Tid) → same_tid t u ≡ false → is_in u asleep ≡ false → is_in u (joined t asleep) ≡ false
in_joined u t asleep other out = go (nat_lt t.0 THREADS && not (is_in t asleep))
  where
    apart : same_tid u t ≡ false
    apart = ne_eqb u.0 t.0 (λ one. eqb-false t.0 u.0 other (sym one))

    go : (v : Bool) → is_in u (if v then asleep ++ t ∷ [] else asleep) ≡ false
    go true = rw (pushed_in u t asleep, out, apart) refl
    go false = out

first_joined : (t w : Tid) (queue : List Tid) → first (joined t (w ∷ queue)) ≡ Some w
first_joined t w queue = go (nat_lt t.0 THREADS && not (is_in t (w ∷ queue)))
  where
    go : (v : Bool) → first (if v then (w ∷ queue) ++ t ∷ [] else w ∷ queue) ≡ Some w
    go true = refl
    go false = refl

joined_heeded : (t : Tid) (queue asleep : List Tid) (front : Front) (may : Bool) → (is_at_head t queue && may) ≡ false
    → IsHeeded queue front asleep may → IsHeeded (joined t queue) (front_joined (is_at_head t queue) front) (joined t asleep) may
joined_heeded t [] asleep front may barred before = record { quiet = λ u is none. barred; awake = λ u is none. absurd (cc none) }
joined_heeded t (w ∷ queue) asleep front may barred before = go (same_tid t w) refl barred
  where
    go : (v : Bool) → same_tid t w ≡ v → (v && may) ≡ false → IsHeeded (joined t (w ∷ queue)) (front_joined v front) (joined t asleep) may
    go true same off = record { quiet = λ u is none. off; awake = λ u is none. absurd (cc none) }
    go false other off = record {
      quiet = λ u is none. before.quiet w refl none;
      awake = λ u is none.
          let at : w ≡ u = same_Some w u (sym (first_joined t w queue) ∙ is) in
          in_joined u t asleep (subst (λ z. same_tid t z ≡ false) at other) (subst (λ z. is_in z asleep ≡ false) at (before.awake w refl none));
    }

-- after a wake-up
woken_heeded : (queue asleep : List Tid) (front : Front) (may : Bool) (left : Option Tid → List Tid)
    → left None ≡ asleep → ((u : Tid) → left (Some u) ≡ without u asleep)
    → IsHeeded queue front asleep may → IsHeeded queue (front_woken front) (left (if is_owed front then first queue else None)) may
woken_heeded queue asleep Asleep may left none some before = rw none (record { quiet = before.quiet; awake = before.awake })
woken_heeded queue asleep (Owed v) may left none some before = record {
  quiet = λ u is none. absurd (cc none);
  awake = λ u is woken. rw (is, some u) (taken_absent u asleep);
}
woken_heeded queue asleep Awake may left none some before = rw none (record { quiet = before.quiet; awake = before.awake })

-- a wake-up of one side leaves the list of the other
left_there : (side : Side) (o : Option Tid) (asleep : List Tid) → left (sleeping_on (opposite side)) (leaving_of side o) asleep ≡ asleep
left_there Receivers None asleep = refl
left_there Receivers (Some u) asleep = refl
left_there Senders None asleep = refl
left_there Senders (Some u) asleep = refl

section_heeded : (t : Tid) (call : MonitorAsk) (s : MonitorLocked) (side : Side) → Heeded side s
    → Heeded side (sleep_edited monitor_rules (record { thread = t; ask = call }) s)
section_heeded t (Send m) s Receivers before = go (goes_now t Senders s.above)
  where
    abstract_answer : Bool → MonitorReply
    abstract_answer v = if v then Acted (send_effect m s.above) (owed_next t Receivers (owing t (monitor_sent m s.above))) else Refused Senders

    block : Bool → MonitorState
    block v = if v then owing t (monitor_sent m s.above) else waiting_at t Senders s.above

    go : (v : Bool) → IsHeeded (block v).receive_line (block v).first_receiver
        (wait_list_joined wait_list.Receivers (monitor_joins (abstract_answer v)) t (left wait_list.Receivers (monitor_leaves (abstract_answer v)) s.receivers))
        (may_go Receivers (buffer_alone (block v)))
    go true = owed_heeded t s.above.receive_line s.receivers s.above.first_receiver (may_go Receivers (buffer_alone (monitor_sent m s.above))) before.awake
    go false = before
section_heeded t (Send m) s Senders before = go (goes_now t Senders s.above) refl
  where
    abstract_answer : Bool → MonitorReply
    abstract_answer v = if v then Acted (send_effect m s.above) (owed_next t Receivers (owing t (monitor_sent m s.above))) else Refused Senders

    block : Bool → MonitorState
    block v = if v then owing t (monitor_sent m s.above) else waiting_at t Senders s.above

    go : (v : Bool) → goes_now t Senders s.above ≡ v → IsHeeded (block v).send_line (block v).first_sender
        (wait_list_joined wait_list.Senders (monitor_joins (abstract_answer v)) t (left wait_list.Senders (monitor_leaves (abstract_answer v)) s.senders))
        (may_go Senders (buffer_alone (block v)))
    go true is =
        owed_heeded t (rest s.above.send_line) s.senders Asleep (may_go Senders (buffer_alone (monitor_sent m s.above))) (λ u at none. absurd (cc none))
    go false is = joined_heeded t s.above.send_line s.senders s.above.first_sender (may_go Senders (buffer_alone s.above)) is before
section_heeded t Receive s Senders before = go (goes_now t Receivers s.above)
  where
    abstract_answer : Bool → MonitorReply
    abstract_answer v = if v then Acted (receive_effect s.above) (owed_next t Senders (owing t (received s.above))) else Refused Receivers

    block : Bool → MonitorState
    block v = if v then owing t (received s.above) else waiting_at t Receivers s.above

    go : (v : Bool) → IsHeeded (block v).send_line (block v).first_sender
        (wait_list_joined wait_list.Senders (monitor_joins (abstract_answer v)) t (left wait_list.Senders (monitor_leaves (abstract_answer v)) s.senders))
        (may_go Senders (buffer_alone (block v)))
    go true = owed_heeded t s.above.send_line s.senders s.above.first_sender (may_go Senders (buffer_alone (received s.above))) before.awake
    go false = before
section_heeded t Receive s Receivers before = go (goes_now t Receivers s.above) refl
  where
    abstract_answer : Bool → MonitorReply
    abstract_answer v = if v then Acted (receive_effect s.above) (owed_next t Senders (owing t (received s.above))) else Refused Receivers

    block : Bool → MonitorState
    block v = if v then owing t (received s.above) else waiting_at t Receivers s.above

    go : (v : Bool) → goes_now t Receivers s.above ≡ v → IsHeeded (block v).receive_line (block v).first_receiver
        (wait_list_joined wait_list.Receivers (monitor_joins (abstract_answer v)) t (left wait_list.Receivers (monitor_leaves (abstract_answer v)) s.receivers))
        (may_go Receivers (buffer_alone (block v)))
    go true is =
        owed_heeded t (rest s.above.receive_line) s.receivers Asleep (may_go Receivers (buffer_alone (received s.above))) (λ u at none. absurd (cc none))
    go false is = joined_heeded t s.above.receive_line s.receivers s.above.first_receiver (may_go Receivers (buffer_alone s.above)) is before
section_heeded t Close s Receivers before =
    owed_heeded t s.above.receive_line s.receivers s.above.first_receiver (may_go Receivers (buffer_alone (closed_now s.above))) before.awake
section_heeded t Close s Senders before =
    owed_heeded t s.above.send_line s.senders s.above.first_sender (may_go Senders (buffer_alone (closed_now s.above))) before.awake
section_heeded t (WakeFirst Receivers) s Receivers before =
    woken_heeded s.above.receive_line s.receivers s.above.first_receiver (may_go Receivers (buffer_alone s.above))
    (λ o. left wait_list.Receivers (leaving_of Receivers o) s.receivers) refl (λ u. refl) before
section_heeded t (WakeFirst Receivers) s Senders before =
    subst (λ l. IsHeeded s.above.send_line s.above.first_sender l (may_go Senders (buffer_alone s.above)))
    (sym (left_there Receivers (owed_first Receivers s.above) s.senders)) before
section_heeded t (WakeFirst Senders) s Senders before =
    woken_heeded s.above.send_line s.senders s.above.first_sender (may_go Senders (buffer_alone s.above))
    (λ o. left wait_list.Senders (leaving_of Senders o) s.senders) refl (λ u. refl) before
section_heeded t (WakeFirst Senders) s Receivers before =
    subst (λ l. IsHeeded s.above.receive_line s.above.first_receiver l (may_go Receivers (buffer_alone s.above)))
    (sym (left_there Senders (owed_first Senders s.above) s.receivers)) before

-- The history of a monitor.

module _ (opening : LockId → Option MonitorLocked) (caps : List ℕ) (fresh : opening ≡ fresh_monitors caps) (b : BufId) where
  -- at the start it is fresh
  starts_as : (state : MonitorLocked) → opening (Buffer b) ≡ Some state → (n : ℕ) × (state ≡ fresh_monitor n)
  starts_as state at = go (slice_get caps b.0) (sym (ap (λ (locks : LockId → Option MonitorLocked). locks (Buffer b)) fresh) ∙ at)
    where
      go : (o : Option ℕ) → option_map fresh_monitor o ≡ Some state → (n : ℕ) × (state ≡ fresh_monitor n)
      go None is = absurd (cc is)
      go (Some n) is = (n, sym (same_Some (fresh_monitor n) state is))

  fresh_heeded : (n : ℕ) (side : Side) → Heeded side (fresh_monitor n)
  fresh_heeded n Receivers = record { quiet = λ u is. absurd (cc is); awake = λ u is. absurd (cc is) }
  fresh_heeded n Senders = record { quiet = λ u is. absurd (cc is); awake = λ u is. absurd (cc is) }

  all_heeded : (side : Side) (past : List (Section MonitorEdit)) (state : MonitorLocked) → monitor_after opening (Buffer b) past ≡ Some state
      → Heeded side state
  all_heeded side [] state at = let start = starts_as state at in subst (Heeded side) (sym start.1) (fresh_heeded start.0 side)
  all_heeded side (s ∷ past) state at =
      go (all_heeded side past) (same_lock (Buffer b) s.lock) (monitor_after opening (Buffer b) past) refl at
    where
      go : ((x : MonitorLocked) → monitor_after opening (Buffer b) past ≡ Some x → Heeded side x) → (v : Bool) (o : Option MonitorLocked)
          → monitor_after opening (Buffer b) past ≡ o
          → (if v then option_map (sleep_edited monitor_rules s.edit) o else o) ≡ Some state → Heeded side state
      go before true None is was = absurd (cc was)
      go before true (Some x) is was =
          subst (Heeded side) (same_Some (sleep_edited monitor_rules s.edit x) state was)
          (section_heeded s.edit.thread s.edit.ask x side (before x is))
      go before false o is was = before state (is ∙ was)

pub loses_no_wake_up : MonitorLosesNoWakeUp
loses_no_wake_up opening caps past fresh b side state at u leads asleep may =
    go (front_of side state.above) refl (all_heeded opening caps fresh b side past state at)
  where
    go : (front : Front) → front_of side state.above ≡ front → Heeded side state → (t : Tid) × (front_of side state.above ≡ Owed t)
    go Asleep is heeded = absurd (cc (heeded.quiet u leads is, may))
    go (Owed t) is heeded = (t, is)
    go Awake is heeded = absurd (cc (heeded.awake u leads is, asleep))

-- First come, first served.

same_number : (n : ℕ) → (n == n) ≡ true
same_number n = eq-eqb n n refl

-- the thread at the head of a line is served: it arrived now, or before
serves_head : (t : Tid) (all before queue : List Tid) → all ≡ before ++ queue → is_at_head t queue ≡ true
    → (if not (is_in t queue) then all ++ t ∷ [] else all) ≡ (before ++ t ∷ []) ++ rest queue
serves_head t all before [] is head =
    ap (λ l. l ++ t ∷ []) (is ∙ append-nil before) ∙ sym (append-nil (before ++ t ∷ []))
serves_head t all before (u ∷ queue) is head =
    let here : is_in t (u ∷ queue) ≡ true = ap (λ v. v || is_in t queue) head in
    ap (λ v. if not v then all ++ t ∷ [] else all) here
    ∙ is ∙ ap (λ v. before ++ v ∷ queue) (sym (same_tid_true t u head)) ∙ sym (append_assoc before (t ∷ []) queue)

-- and another thread waits after the others: it arrives now, or arrived before
waits_behind : (t : Tid) (all before queue : List Tid) → all ≡ before ++ queue → t.0 < THREADS
    → (if not (is_in t queue) then all ++ t ∷ [] else all) ≡ before ++ joined t queue
waits_behind t all before queue is small = go (is_in t queue) refl
  where
    go : (v : Bool) → is_in t queue ≡ v → (if not v then all ++ t ∷ [] else all) ≡ before ++ (if nat_lt t.0 THREADS && not v then queue ++ t ∷ [] else queue)
    go true there = is ∙ ap (λ w. before ++ (if w then queue ++ t ∷ [] else queue)) (sym (ap (λ w. w && false) (lt-ltb t.0 THREADS small)))
    go false new =
        ap (λ l. l ++ t ∷ []) is ∙ append_assoc before queue (t ∷ [])
        ∙ ap (λ w. before ++ (if w then queue ++ t ∷ [] else queue)) (sym (ap (λ w. w && true) (lt-ltb t.0 THREADS small)))

-- an effect on this buffer, and on another one
served_here : (side : Side) (c : CpuId) (t : Tid) (b : BufId) (f : Effect) (g : Group) (es : List Entry) → group_of f.kind ≡ g
    → served side b.0 (entry_of c t b f ∷ es) ≡ (if same_group g (group_on side) then served side b.0 es ++ t ∷ [] else served side b.0 es)
served_here side c t b f g es is =
    ap (λ v. if v && same_group (group_of f.kind) (group_on side) then served side b.0 es ++ t ∷ [] else served side b.0 es) (same_number b.0)
    ∙ ap (λ h. if same_group h (group_on side) then served side b.0 es ++ t ∷ [] else served side b.0 es) is

served_there : (side : Side) (c : CpuId) (t : Tid) (b d : BufId) (o : Option Effect) (es : List Entry) → (b.0 == d.0) ≡ false
    → served side b.0 (option_to_list (option_map (entry_of c t d) o) ++ es) ≡ served side b.0 es
served_there side c t b d None es other = refl
served_there side c t b d (Some f) es other =
    ap (λ v. if v && same_group (group_of f.kind) (group_on side) then served side b.0 es ++ t ∷ [] else served side b.0 es) other

module _ (b : BufId) (c : CpuId) (t : Tid) (small : t.0 < THREADS) (es : List Entry) (x : MonitorState) (all : List Tid) where
  -- the threads that arrived are those that were served and those in the line, one section further
  abbrev KeepsOrder : Side → Bool → MonitorReply → MonitorState → Type 0
  KeepsOrder side new abstract_answer y =
      (if new then all ++ t ∷ [] else all)
      ≡ served side b.0 (option_to_list (option_map (entry_of c t b) (monitor_effect abstract_answer)) ++ es) ++ monitor_line side y

  keeps_order : (side : Side) (call : MonitorAsk) → all ≡ served side b.0 es ++ monitor_line side x
      → KeepsOrder side (is_on_side side (turn_side call) && not (is_in t (monitor_line side x))) (monitor_told_by t call x) (monitor_edited_by t call x)
  keeps_order Senders (Send m) is = go (goes_now t Senders x) refl
    where
      go : (v : Bool) → goes_now t Senders x ≡ v → KeepsOrder Senders (not (is_in t x.send_line))
          (if v then Acted (send_effect m x) (owed_next t Receivers (owing t (monitor_sent m x))) else Refused Senders)
          (if v then owing t (monitor_sent m x) else waiting_at t Senders x)
      go true goes =
          serves_head t all (served Senders b.0 es) x.send_line is (and_parts (is_at_head t x.send_line) (may_go Senders (buffer_alone x)) goes).0
          ∙ ap (λ l. l ++ rest x.send_line) (sym (served_here Senders c t b (send_effect m x) Sends es (put_counts x.closed)))
      go false stays = waits_behind t all (served Senders b.0 es) x.send_line is small
  keeps_order Receivers (Send m) is = go (goes_now t Senders x)
    where
      go : (v : Bool) → KeepsOrder Receivers false
          (if v then Acted (send_effect m x) (owed_next t Receivers (owing t (monitor_sent m x))) else Refused Senders)
          (if v then owing t (monitor_sent m x) else waiting_at t Senders x)
      go true = is ∙ ap (λ l. l ++ x.receive_line) (sym (served_here Receivers c t b (send_effect m x) Sends es (put_counts x.closed)))
      go false = is
  keeps_order Receivers Receive is = go (goes_now t Receivers x) refl
    where
      go : (v : Bool) → goes_now t Receivers x ≡ v → KeepsOrder Receivers (not (is_in t x.receive_line))
          (if v then Acted (receive_effect x) (owed_next t Senders (owing t (received x))) else Refused Receivers)
          (if v then owing t (received x) else waiting_at t Receivers x)
      go true goes =
          serves_head t all (served Receivers b.0 es) x.receive_line is (and_parts (is_at_head t x.receive_line) (may_go Receivers (buffer_alone x)) goes).0
          ∙ ap (λ l. l ++ rest x.receive_line) (sym (served_here Receivers c t b (receive_effect x) Receives es (take_counts x.items)))
      go false stays = waits_behind t all (served Receivers b.0 es) x.receive_line is small
  keeps_order Senders Receive is = go (goes_now t Receivers x)
    where
      go : (v : Bool) → KeepsOrder Senders false
          (if v then Acted (receive_effect x) (owed_next t Senders (owing t (received x))) else Refused Receivers)
          (if v then owing t (received x) else waiting_at t Receivers x)
      go true = is ∙ ap (λ l. l ++ x.send_line) (sym (served_here Senders c t b (receive_effect x) Receives es (take_counts x.items)))
      go false = is
  keeps_order Receivers Close is =
      is ∙ ap (λ l. l ++ x.receive_line) (sym (served_here Receivers c t b (close_effect x) Closes es refl))
  keeps_order Senders Close is = is ∙ ap (λ l. l ++ x.send_line) (sym (served_here Senders c t b (close_effect x) Closes es refl))
  keeps_order Receivers (WakeFirst Receivers) is = is
  keeps_order Receivers (WakeFirst Senders) is = is
  keeps_order Senders (WakeFirst Receivers) is = is
  keeps_order Senders (WakeFirst Senders) is = is

module _ (opening : LockId → Option MonitorLocked) (caps : List ℕ) (fresh : opening ≡ fresh_monitors caps) (b : BufId) (side : Side) where
  abbrev InOrder : List (Section MonitorEdit) → MonitorLocked → Type 0
  InOrder past state = comers side (Buffer b) opening past ≡ served side b.0 (monitor_entries opening past) ++ monitor_line side state.above

  -- the order one section further, given the lock of the section
  abbrev Further : CpuId → LockId → MonitorEdit → List (Section MonitorEdit) → MonitorLocked → Type 0
  Further c lock e past state =
      (if same_lock (Buffer b) lock && joins_monitor side e (monitor_after opening (Buffer b) past)
      then comers side (Buffer b) opening past ++ e.thread ∷ [] else comers side (Buffer b) opening past)
      ≡ served side b.0 (option_to_list (monitor_entry c lock e (monitor_after opening lock past)) ++ monitor_entries opening past)
      ++ monitor_line side state.above

  further : (c : CpuId) (lock : LockId) (e : MonitorEdit) (past : List (Section MonitorEdit)) → e.thread.0 < THREADS
      → ((state : MonitorLocked) → monitor_after opening (Buffer b) past ≡ Some state → InOrder past state) → (state : MonitorLocked)
      → (if same_lock (Buffer b) lock then option_map (sleep_edited monitor_rules e) (monitor_after opening (Buffer b) past)
      else monitor_after opening (Buffer b) past) ≡ Some state → Further c lock e past state
  further c (Pending d) e past small before state at = before state at
  further c (Buffer d) e past small before state at = go (b.0 == d.0) refl
    where
      here : (o : Option MonitorLocked) → monitor_after opening (Buffer b) past ≡ o → option_map (sleep_edited monitor_rules e) o ≡ Some state
          → (if joins_monitor side e o then comers side (Buffer b) opening past ++ e.thread ∷ [] else comers side (Buffer b) opening past)
          ≡ served side b.0 (option_to_list (monitor_entry c (Buffer b) e o) ++ monitor_entries opening past) ++ monitor_line side state.above
      here None is was = absurd (cc was)
      here (Some x) is was =
          keeps_order b c e.thread small (monitor_entries opening past) x.above (comers side (Buffer b) opening past) side e.ask (before x is)
          ∙ ap (λ (l : MonitorLocked). served side b.0 (option_to_list (monitor_entry c (Buffer b) e (Some x)) ++ monitor_entries opening past)
          ++ monitor_line side l.above) (same_Some (sleep_edited monitor_rules e x) state was)

      go : (v : Bool) → (b.0 == d.0) ≡ v → Further c (Buffer d) e past state
      go true same =
          let one : b ≡ d = ap (λ (n : ℕ). let made : BufId = record { 0 = n } in made) (eqb-true b.0 d.0 same) in
          ap (λ v. if v && joins_monitor side e (monitor_after opening (Buffer b) past)
          then comers side (Buffer b) opening past ++ e.thread ∷ [] else comers side (Buffer b) opening past) same
          ∙ here (monitor_after opening (Buffer b) past) refl
          (ap (λ v. if v then option_map (sleep_edited monitor_rules e) (monitor_after opening (Buffer b) past)
          else monitor_after opening (Buffer b) past) (sym same) ∙ at)
          ∙ ap (λ (n : BufId). served side b.0 (option_to_list (monitor_entry c (Buffer n) e (monitor_after opening (Buffer n) past))
          ++ monitor_entries opening past) ++ monitor_line side state.above) one
      go false other =
          let was : monitor_after opening (Buffer b) past ≡ Some state
          = ap (λ v. if v then option_map (sleep_edited monitor_rules e) (monitor_after opening (Buffer b) past)
          else monitor_after opening (Buffer b) past) (sym other) ∙ at in
          ap (λ v. if v && joins_monitor side e (monitor_after opening (Buffer b) past)
          then comers side (Buffer b) opening past ++ e.thread ∷ [] else comers side (Buffer b) opening past) other
          ∙ before state was
          ∙ ap (λ l. l ++ monitor_line side state.above) (sym (served_there side c e.thread b d
          (monitor_effect_by e (monitor_after opening (Buffer d) past)) (monitor_entries opening past) other))

  in_order : (past : List (Section MonitorEdit)) → AreOfThreads past → (state : MonitorLocked) → monitor_after opening (Buffer b) past ≡ Some state
      → InOrder past state
  in_order [] small state at =
      let start = starts_as opening caps fresh b state at in
      sym (ap (λ (l : MonitorLocked). monitor_line side l.above) start.1 ∙ nobody side start.0)
    where
      nobody : (at : Side) (n : ℕ) → monitor_line at (fresh_monitor n).above ≡ []
      nobody Receivers n = refl
      nobody Senders n = refl
  in_order (s ∷ past) small state at = further s.cpu s.lock s.edit past small.0 (in_order past small.1) state at

pub serves_in_order : MonitorServesInOrder
serves_in_order opening caps past fresh small b side state at = in_order opening caps fresh b side past small state at
