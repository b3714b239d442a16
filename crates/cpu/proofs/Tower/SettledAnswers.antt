-- What the table makes of the result of a section of the current thread's call.
use Rattle.std.proofs.{Common.{◌≡◌, ◌<◌, Bool, List, length, slice_set, Option, Some, None, ap, ◌∙◌}, lemmas.List.{get_or-set_same, set-set}}
use Rattle.{event_log.specs.declared.{entries.Entry.Entry, ids.{CpuId.CpuId, Tid.Tid}}, guest.specs.State.{State, next_of}, cpu.specs.Table.Blocks.Answer}
use Rattle.cpu.specs.Table.{Setups.{SystemConfig, Call, Thread, CpuLocal, new_thread, program_of, thread_at}, Choice.{after_by, after_section, asked, asked_by}}
use Rattle.cpu.specs.Table.Choice.{at_buffer, guest_after, with_told, returned_at, returned_by, section_due, settled, slept_if, woken}
use Rattle.{cpu.proofs.Tower.ChangedThread.parts, layer_traits.specs.declared.call_states.Stage.TheVariants.Idle}

module _ (setup : SystemConfig) (c : CpuId) (ready : List Tid) (threads : List Thread) (trace : List Entry) (t : Tid) (g : State) (e : Bool)
    (within : t.0 < length threads) where
  -- thread t inside a call, and after it
  abbrev pub calling : Call → Thread
  calling call = record { guest = g; call = Some call; ended = e }

  abbrev pub done_with : Call → Thread
  done_with call = record { guest = guest_after call.asks call.closed (next_of (program_of setup t) g) call.message g; call = None; ended = e }

  -- thread t runs and is in this state
  abbrev pub with_t : List Tid → Option Tid → Thread → List Entry → CpuLocal
  with_t ready2 hand x trace2 = parts (Some t) ready2 hand (slice_set threads t.0 x) trace2

  abbrev pub from_t : Call → CpuLocal
  from_t call = with_t ready None (calling call) trace

  there : (x : Thread) (ready2 : List Tid) (hand : Option Tid) (trace2 : List Entry) → thread_at (with_t ready2 hand x trace2) t ≡ x
  there x ready2 hand trace2 = get_or-set_same threads t.0 x new_thread within

  pub asks_for : (call : Call) → asked setup c (from_t call) ≡ at_buffer call.buffer (section_due t call call.stage)
  asks_for call = ap (λ x. asked_by c t x.call) (there (calling call) ready None trace)

  -- the table's private state after a section whose result leaves the call so
  abbrev pub put : Call → Call → List Entry → Thread → CpuLocal
  put call next trace2 x = parts (Some t) ready None (slice_set (slice_set threads t.0 (calling call)) t.0 (record x { call = Some next })) trace2

  pub recorded_is : (call : Call) (a : Answer) (next : Call) (trace2 : List Entry)
      → with_told c (from_t call) t call call.stage a.told ≡ put call next trace2 (thread_at (from_t call) t)
      → after_section setup c (from_t call) a ≡ settled setup (woken setup c a.woke (slept_if a.slept (with_t ready None (calling next) trace2)))
  recorded_is call a next trace2 is =
      ap (λ x. after_by setup c (from_t call) t x.call a) (there (calling call) ready None trace)
      ∙ ap (λ r. settled setup (woken setup c a.woke (slept_if a.slept r))) (is ∙ (ap (put call next trace2) (there (calling call) ready None trace)
      ∙ ap (λ l. parts (Some t) ready None l trace2) (set-set threads t.0 (calling call) (calling next))))

  -- a call that has a section left continues
  pub goes_on : (next : Call) (ready2 : List Tid) (trace2 : List Entry) → ((p : CpuLocal) → returned_at setup p t next next.stage ≡ p)
      → settled setup (with_t ready2 None (calling next) trace2) ≡ with_t ready2 None (calling next) trace2
  goes_on next ready2 trace2 stays =
      ap (λ x. returned_by setup (with_t ready2 None (calling next) trace2) t x.call) (there (calling next) ready2 None trace2)
      ∙ stays (with_t ready2 None (calling next) trace2)

  -- a call that has none left returns
  pub returns : (call : Call) (ready2 : List Tid) (trace2 : List Entry)
      → settled setup (with_t ready2 None (calling (record call { stage = Idle })) trace2) ≡ with_t ready2 None (done_with call) trace2
  returns call ready2 trace2 =
      let next : Call = record call { stage = Idle } in
      ap (λ x. returned_by setup (with_t ready2 None (calling next) trace2) t x.call) (there (calling next) ready2 None trace2)
      ∙ (ap (λ x. parts (Some t) ready2 None (slice_set (slice_set threads t.0 (calling next)) t.0
      (record x { guest = guest_after call.asks call.closed (next_of (program_of setup t) x.guest) call.message x.guest; call = None })) trace2)
      (there (calling next) ready2 None trace2) ∙ ap (λ l. parts (Some t) ready2 None l trace2) (set-set threads t.0 (calling next) (done_with call)))
