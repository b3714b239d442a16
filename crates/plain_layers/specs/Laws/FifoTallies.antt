-- A buffer with one section a call accounts for its effects after any sections; therefore each
-- effect may follow those before it. A section that the buffer allows puts its caller into a line
-- and takes it out at once.
use Rattle.std.proofs.Common.{◌≡◌, ℕ, Bool, true, false, ◌&&◌, List, [], ◌∷◌, ◌++◌, Option, Some}
use Rattle.std.proofs.Common.{None, option_map, option_to_list, if◌then◌else◌, refl, ap, sym}
use Rattle.std.proofs.lemmas.Option.{same_Some}
use Rattle.event_log.specs.declared.{entries.Entry.Entry, ids.{BufId.BufId, CpuId.CpuId}}
use Rattle.event_log.specs.declared.ids.{LockId.{LockId, TheVariants.{Pending, Buffer}}, Tid.Tid}
use Rattle.event_log.specs.{History.IsLawful, Runs.{Group, Sends, Receives, Closes}}
use Rattle.{event_log.specs.Sections.Section, layer_traits.specs.declared.calls.Effect.Effect}
use Rattle.layer_traits.specs.declared.locked.Side.{Side, TheVariants.{Receivers, Senders}}
use Rattle.layer_traits.specs.Blocks.BufferBlocks.{BufferState, drawn_of, entered}
use Rattle.layer_traits.specs.{Blocks.BufferEffects.MayTakeEffect, Layers.BufferLaw.entry_of}
use Rattle.layer_traits.specs.{Layers.Sleeping.sleep_edited, Protocols.Protocol.section}
use Rattle.thread_blocks.{specs.Queues.same_tid, proofs.Members.same_tid_self}
use Rattle.fifo_buffer.specs.Laws.{BlockSteps.{put_step, shut_step, take_step}, BlockTallies.Agree}
use Rattle.fifo_buffer.specs.Laws.BlockTallies.{Kept, Steps, enters, kept_start, kept_step, stays}
use Rattle.fifo_buffer.specs.{Laws.BlockTallies.takes, Tallies.{Tally, by_side}}
use Rattle.plain_layers.specs.declared.attempts.Ask.{Ask, TheVariants.{Send, Receive, Close}}
use Rattle.plain_layers.specs.declared.attempts.{Attempt.Attempt, Tried.{Tried, TheVariants.Acted}}
use Rattle.plain_layers.specs.{declared.attempts.Tried.TheVariants.Refused, Attempts.PlainState}
use Rattle.plain_layers.specs.Attempts.{allows, attempt_side, attempts, done, attempt_effect}
use Rattle.plain_layers.specs.{Attempts.{effect_in, with_waiter, attempt_wakes}, Fifos.PlainLocked}
use Rattle.plain_layers.specs.Fifos.{plain_entries_in, entry_at, fresh_buffer, fresh_buffers}
use Rattle.plain_layers.specs.Fifos.{locked_after, plain_shown}

-- the block that the layer's trait shows of a buffer: its lines are empty, so no position matters
abbrev pub plain_block : PlainState → BufferState
plain_block x =
    (plain_shown (record { sleepers = []; receivers = []; senders = []; above = x })).above

abbrev pub no_position : Group → Tid → ℕ
no_position g t = 0

-- the result of an attempt that the buffer allows, or does not, and what it leaves
abbrev pub reported_if : Bool → Attempt → PlainState → Tried
reported_if v a x =
    if v then Acted (attempt_effect a.ask x) (attempt_wakes a.ask x)
    else Refused (attempt_side a.ask)

abbrev left_if : Bool → Attempt → PlainState → PlainState
left_if v a x = if v then done a.ask x else with_waiter a.thread (attempt_side a.ask) x

agree : (p q : Group → Tid → ℕ) (x : PlainState) → Agree p q (plain_block x)
agree p q x Sends = tt
agree p q x Receives = tt
agree p q x Closes = tt

module _ (caps : List ℕ) (es : List Entry) (c : CpuId) (d : BufId) (t : Tid) (x : PlainState)
    (tally : Tally caps d.0 es no_position (plain_block x)) where
  -- the caller draws the next position of its side, and is the only thread in its line
  abbrev next : Side → Tid → ℕ
  next side u = drawn_of side (plain_block x)

  in_line : (side : Side) → Tally caps d.0 es (by_side next) (entered side t (plain_block x))
  in_line side = enters tally next side t (agree no_position (by_side next) x) refl

  first : (may : Bool) → may ≡ true → (same_tid t t && may) ≡ true
  first may is = rw (same_tid_self t, is) refl

  here_step : (ask : Ask) (v : Bool) → allows ask x ≡ v
      → Steps caps d.0 es (option_map (entry_of c t d)
      (effect_in (reported_if v (record { thread = t; ask = ask }) x))) no_position
      (plain_block (left_if v (record { thread = t; ask = ask }) x))
  here_step (Send m) true is =
      takes (put_step c d t (by_side next) (entered Senders t (plain_block x)) m
      (first (allows (Send m) x) is)) (in_line Senders) no_position
      (agree (by_side next) no_position (done (Send m) x))
  here_step Receive true is =
      takes (take_step c d t (by_side next) (entered Receivers t (plain_block x))
      (first (allows Receive x) is)) (in_line Receivers) no_position
      (agree (by_side next) no_position (done Receive x))
  here_step Close true is =
      takes (shut_step c d t no_position (plain_block x)) tally no_position
      (agree no_position no_position (done Close x))
  here_step (Send m) false is = stays tally no_position (agree no_position no_position x)
  here_step Receive false is = stays tally no_position (agree no_position no_position x)
  here_step Close false is = absurd cc

placed : (c : CpuId) (t : Tid) (d : BufId) (o : Option Effect) (e : Entry)
    → option_map (entry_of c t d) o ≡ Some e → e.buffer ≡ d
placed c t d None e is = absurd cc
placed c t d (Some f) e is = ap (λ (y : Entry). y.buffer) (sym (same_Some (entry_of c t d f) e is))

placed_at : (c : CpuId) (a : Attempt) (d : BufId) (o : Option PlainLocked) (e : Entry)
    → entry_at c (Buffer d) a o ≡ Some e → e.buffer ≡ d
placed_at c a d None e is = absurd cc
placed_at c a d (Some state) e is =
    placed c a.thread d (effect_in (reported_if (allows a.ask state.above) a state.above)) e is

module _ (locks : LockId → Option PlainLocked) (caps : List ℕ)
    (fresh : locks ≡ fresh_buffers caps) where
  -- after these sections the buffers account for these effects, each of which may follow those
  -- before it
  abbrev AttemptsAreKept : List (Section Attempt) → List Entry → Type 0
  AttemptsAreKept past es =
      Kept (sleep_edited attempts) locks caps (λ (state : PlainLocked). plain_block state.above)
      (λ b past. no_position) past es

  all_kept : (past : List (Section Attempt)) → AttemptsAreKept past (plain_entries_in locks past)
  all_kept [] =
      kept_start (sleep_edited attempts) locks caps
      (λ (state : PlainLocked). plain_block state.above) (λ b past. no_position) fresh_buffer
      (λ b. ap (λ (o : LockId → Option PlainLocked). o (Buffer b)) fresh) (λ n. refl)
  all_kept (s ∷ past) = go s.lock (all_kept past)
    where
      go : (lock : LockId) → AttemptsAreKept past (plain_entries_in locks past)
          → AttemptsAreKept (section s.cpu lock s.edit ∷ past)
          (option_to_list (entry_at s.cpu lock s.edit (locked_after locks lock past))
          ++ plain_entries_in locks past)
      go (Pending d) kept = kept
      go (Buffer d) kept =
          kept_step (sleep_edited attempts) locks caps
          (λ (state : PlainLocked). plain_block state.above) (λ b past. no_position)
          (plain_entries_in locks past) past kept s.cpu d s.edit (entry_at s.cpu (Buffer d) s.edit)
          refl (placed_at s.cpu s.edit d) (λ b other g t. refl)
          (λ state at tally. here_step caps (plain_entries_in locks past) s.cpu d s.edit.thread
          state.above tally s.edit.ask
          (allows s.edit.ask state.above) refl)

-- each effect may follow those before it
pub plain_lawful : (locks : LockId → Option PlainLocked) (caps : List ℕ)
    (past : List (Section Attempt)) → locks ≡ fresh_buffers caps
    → IsLawful (MayTakeEffect caps) (plain_entries_in locks past)
plain_lawful locks caps past fresh = (all_kept locks caps fresh past).1

-- and a buffer accounts for them
pub plain_tally : (locks : LockId → Option PlainLocked) (caps : List ℕ)
    (past : List (Section Attempt)) → locks ≡ fresh_buffers caps
    → (b : BufId) (state : PlainLocked) → locked_after locks (Buffer b) past ≡ Some state
    → Tally caps b.0 (plain_entries_in locks past) no_position (plain_block state.above)
plain_tally locks caps past fresh = (all_kept locks caps fresh past).0
