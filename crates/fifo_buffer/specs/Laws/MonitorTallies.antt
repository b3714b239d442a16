-- A monitor accounts for its effects after any sections; therefore each effect may follow those
-- before it. Its block is counted without the threads that wait: a section with an effect puts its
-- caller into an empty line and takes it out at once.
use Rattle.std.proofs.Common.{◌≡◌, ℕ, Bool, true, false, ◌&&◌, List, [], ◌∷◌, ◌++◌, Option, Some}
use Rattle.std.proofs.Common.{None, option_map, option_to_list, if◌then◌else◌, refl, ap, sym}
use Rattle.std.proofs.lemmas.{Bool.and_parts, Option.same_Some}
use Rattle.event_log.specs.declared.{entries.Entry.Entry, ids.{BufId.BufId, CpuId.CpuId}}
use Rattle.event_log.specs.declared.ids.{LockId.{LockId, TheVariants.{Pending, Buffer}}, Tid.Tid}
use Rattle.event_log.specs.{History.IsLawful, Runs.{Group, Sends, Receives, Closes}}
use Rattle.{event_log.specs.Sections.Section, layer_traits.specs.declared.calls.Effect.Effect}
use Rattle.layer_traits.specs.declared.locked.Side.{Side, TheVariants.{Receivers, Senders}}
use Rattle.layer_traits.specs.Blocks.BufferBlocks.{drawn_of, entered, may_go}
use Rattle.layer_traits.specs.{Blocks.BufferEffects.MayTakeEffect, Layers.BufferLaw.entry_of}
use Rattle.layer_traits.specs.{Layers.Sleeping.sleep_edited, Protocols.Protocol.section}
use Rattle.thread_blocks.{specs.Queues.same_tid, proofs.Members.same_tid_self}
use Rattle.fifo_buffer.specs.Laws.{BlockSteps.{put_step, shut_step, take_step}, BlockTallies.Agree}
use Rattle.fifo_buffer.specs.Laws.BlockTallies.{Kept, Steps, enters, kept_start, kept_step, stays}
use Rattle.fifo_buffer.specs.{Laws.BlockTallies.takes, Tallies.{Tally, by_side}}
use Rattle.fifo_buffer.specs.declared.monitor_blocks.MonitorAsk.{MonitorAsk, TheVariants.Send}
use Rattle.fifo_buffer.specs.declared.monitor_blocks.MonitorAsk.TheVariants.{Receive, Close}
use Rattle.fifo_buffer.specs.declared.monitor_blocks.MonitorAsk.TheVariants.{WakeFirst}
use Rattle.fifo_buffer.specs.declared.monitor_blocks.MonitorEdit.{MonitorEdit}
use Rattle.fifo_buffer.specs.declared.monitor_blocks.MonitorReply.{MonitorReply, TheVariants.Acted}
use Rattle.fifo_buffer.specs.declared.monitor_blocks.MonitorReply.TheVariants.{Refused}
use Rattle.fifo_buffer.specs.Monitors.{MonitorState, buffer_alone, goes_now, is_at_head}
use Rattle.fifo_buffer.specs.Monitors.{monitor_effect, monitor_rules, monitor_told_by, owed_next}
use Rattle.fifo_buffer.specs.Monitors.{owing, receive_effect, received, send_effect, monitor_sent}
use Rattle.fifo_buffer.specs.Monitors.{waiting_at, monitor_edited_by, closed_now}
use Rattle.fifo_buffer.specs.MonitorHistories.{MonitorLocked, fresh_monitor, fresh_monitors}
use Rattle.fifo_buffer.specs.MonitorHistories.{monitor_after, monitor_effect_by, monitor_entries}
use Rattle.fifo_buffer.specs.MonitorHistories.{monitor_entry}

-- no position matters, since the lines are empty
abbrev pub any_position : Group → Tid → ℕ
any_position g t = 0

monitors_agree : (p q : Group → Tid → ℕ) (x : MonitorState) → Agree p q (buffer_alone x)
monitors_agree p q x Sends = tt
monitors_agree p q x Receives = tt
monitors_agree p q x Closes = tt

module _ (caps : List ℕ) (es : List Entry) (c : CpuId) (d : BufId) (t : Tid) (x : MonitorState)
    (tally : Tally caps d.0 es any_position (buffer_alone x)) where
  -- the caller draws the place_drawn position of its side, and is the only thread in its line
  abbrev place_drawn : Side → Tid → ℕ
  place_drawn side u = drawn_of side (buffer_alone x)

  in_line : (side : Side) → Tally caps d.0 es (by_side place_drawn)
      (entered side t (buffer_alone x))
  in_line side =
      enters tally place_drawn side t (monitors_agree any_position (by_side place_drawn) x) refl

  first : (may : Bool) → may ≡ true → (same_tid t t && may) ≡ true
  first may is = rw (same_tid_self t, is) refl

  abbrev TalliesAfter : MonitorReply → MonitorState → Type 0
  TalliesAfter abstract_answer y =
      Steps caps d.0 es (option_map (entry_of c t d) (monitor_effect abstract_answer)) any_position
      (buffer_alone y)

  here_step : (ask : MonitorAsk)
      → TalliesAfter (monitor_told_by t ask x) (monitor_edited_by t ask x)
  here_step (Send m) = go (goes_now t Senders x) refl
    where
      go : (v : Bool) → goes_now t Senders x ≡ v
          → TalliesAfter (if v
          then Acted (send_effect m x) (owed_next t Receivers (owing t (monitor_sent m x)))
          else Refused Senders)
          (if v then owing t (monitor_sent m x) else waiting_at t Senders x)
      go true is =
          takes (put_step c d t (by_side place_drawn) (entered Senders t (buffer_alone x)) m
          (first (may_go Senders (buffer_alone x))
          (and_parts (is_at_head t x.send_line) (may_go Senders (buffer_alone x)) is).1)) (in_line
          Senders)
          any_position
          (monitors_agree (by_side place_drawn) any_position (monitor_sent m x))
      go false is = stays tally any_position (monitors_agree any_position any_position x)
  here_step Receive = go (goes_now t Receivers x) refl
    where
      go : (v : Bool) → goes_now t Receivers x ≡ v
          → TalliesAfter (if v
          then Acted (receive_effect x) (owed_next t Senders (owing t (received x)))
          else Refused Receivers)
          (if v then owing t (received x) else waiting_at t Receivers x)
      go true is =
          takes (take_step c d t (by_side place_drawn) (entered Receivers t (buffer_alone x))
          (first (may_go Receivers (buffer_alone x))
          (and_parts (is_at_head t x.receive_line) (may_go Receivers (buffer_alone x)) is).1))
          (in_line Receivers)
          any_position
          (monitors_agree (by_side place_drawn) any_position (received x))
      go false is = stays tally any_position (monitors_agree any_position any_position x)
  here_step Close =
      takes (shut_step c d t any_position (buffer_alone x)) tally any_position
      (monitors_agree any_position any_position (closed_now x))
  here_step (WakeFirst Receivers) =
      stays tally any_position (monitors_agree any_position any_position x)
  here_step (WakeFirst Senders) =
      stays tally any_position (monitors_agree any_position any_position x)

placed : (c : CpuId) (t : Tid) (d : BufId) (o : Option Effect) (e : Entry)
    → option_map (entry_of c t d) o ≡ Some e → e.buffer ≡ d
placed c t d None e is = absurd cc
placed c t d (Some f) e is = ap (λ (y : Entry). y.buffer) (sym (same_Some (entry_of c t d f) e is))

module _ (locks : LockId → Option MonitorLocked) (caps : List ℕ)
    (fresh : locks ≡ fresh_monitors caps) where
  -- after these sections the buffers account for these effects, each of which may follow those
  -- before it
  abbrev MonitorsAreKept : List (Section MonitorEdit) → List Entry → Type 0
  MonitorsAreKept past es =
      Kept (sleep_edited monitor_rules) locks caps
      (λ (state : MonitorLocked). buffer_alone state.above) (λ b past. any_position) past es

  all_kept : (past : List (Section MonitorEdit)) → MonitorsAreKept past (monitor_entries locks past)
  all_kept [] =
      kept_start (sleep_edited monitor_rules) locks caps
      (λ (state : MonitorLocked). buffer_alone state.above) (λ b past. any_position)
      fresh_monitor
      (λ b. ap (λ (o : LockId → Option MonitorLocked). o (Buffer b)) fresh) (λ n. refl)
  all_kept (s ∷ past) = go s.lock (all_kept past)
    where
      go : (lock : LockId) → MonitorsAreKept past (monitor_entries locks past)
          → MonitorsAreKept (section s.cpu lock s.edit ∷ past)
          (option_to_list (monitor_entry s.cpu lock s.edit (monitor_after locks lock past))
          ++ monitor_entries locks past)
      go (Pending d) kept = kept
      go (Buffer d) kept =
          kept_step (sleep_edited monitor_rules) locks caps
          (λ (state : MonitorLocked). buffer_alone state.above) (λ b past. any_position)
          (monitor_entries locks past) past kept s.cpu d s.edit
          (monitor_entry s.cpu (Buffer d) s.edit) refl
          (λ o. placed s.cpu s.edit.thread d (monitor_effect_by s.edit o)) (λ b other g t. refl)
          (λ state at tally. here_step caps (monitor_entries locks past) s.cpu d s.edit.thread
          state.above tally s.edit.ask)

-- each effect may follow those before it
pub monitor_lawful : (locks : LockId → Option MonitorLocked) (caps : List ℕ)
    (past : List (Section MonitorEdit)) → locks ≡ fresh_monitors caps
    → IsLawful (MayTakeEffect caps) (monitor_entries locks past)
monitor_lawful locks caps past fresh = (all_kept locks caps fresh past).1

-- and a monitor accounts for them
pub monitor_tally : (locks : LockId → Option MonitorLocked) (caps : List ℕ)
    (past : List (Section MonitorEdit)) → locks ≡ fresh_monitors caps
    → (b : BufId) (state : MonitorLocked) → monitor_after locks (Buffer b) past ≡ Some state
    → Tally caps b.0 (monitor_entries locks past) any_position (buffer_alone state.above)
monitor_tally locks caps past fresh = (all_kept locks caps fresh past).0
