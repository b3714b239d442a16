-- What a poll of a call over monitors did, put together.
use Rattle.std.proofs.Common.{◌≡◌, ◌≢◌, ◌<◌, ◌≤◌, ℕ, Bool, true, false, List, ◌++◌, length, Option, Some, None, option_map, refl, ap, sym, ◌∙◌, subst}
use Rattle.std.proofs.{Common.{option_to_list, slice_set, arith}, lemmas.{Bool.{eqb-true, eqb-false}, List.{get_or-set_same, get_or-set_other, length-set}}}
use Rattle.std.{proofs.lemmas.Option.slice_get_within, specs.Prelude.{◌==◌, slice_index_or}}
use Rattle.{event_log.specs.declared.ids.{BufId.BufId, CpuId.CpuId, LockId.LockId, Tid.Tid, TheConstants.THREADS}, layer_traits.specs.Blocks.QueueBlocks.inner}
use Rattle.layer_traits.specs.{Blocks.Payloads.{abstract_outcome, abstract_result}, Polling.Plans.Left, Threads.Places.{AreMoves, Stands, Step, Threads}}
use Rattle.layer_traits.specs.declared.{call_states.CallState.CallState, calls.{Call.Call, Reply.Reply}, queue_edits.QueueBlock.QueueBlock}
use Rattle.layer_traits.specs.{declared.{sleeps.Outcome.Outcome, payloads.{MessageSlot.MessageSlot, Payload.Payload}}, Layers.BufferLaw.{Answered, Called}}
use Rattle.layer_traits.specs.Layers.{BufferLaw.{buffer_of, call_state_of, entry_of, going, no_call}, Queues.{Kernel, buffer_sections}, SleepLaw.SleepPolled}
use Rattle.{layer_traits.{specs.Layers.SleepLaw.Sleeping, proofs.PlaceLemmas.current_at}, fifo_buffer.specs.declared.monitor_blocks.MonitorEdit.MonitorEdit}
use Rattle.fifo_buffer.specs.{declared.monitor_blocks.MonitorReply.MonitorReply, MonitorHistories.{MonitorLocked, monitor_entries}}
use Rattle.fifo_buffer.{specs.MonitorParts.AgreesWithStage, proofs.MonitorPolls.{Did, MonitorEvent, entries_append, entries_others, entries_over}}

-- a running thread is one of the threads that a machine may have
pub runs_small : (homes : List CpuId) (c : CpuId) (moves : List Step) (local : Threads) → AreMoves homes moves → Stands homes c moves local
    → length homes ≤ THREADS → (t : Tid) → local.current ≡ Some t → t.0 < THREADS
runs_small homes c moves local legal stands room t runs =
    let within = slice_get_within homes t.0 c (current_at homes c moves local legal stands t runs).0 in
    omega (arith, within, room)

module _ (call_states now : List CallState) (t : Tid) (later : CallState) (within : t.0 < length call_states)
    (set : now ≡ slice_set call_states t.0 later) where
  -- the thread's call state, and those of the others
  pub this_now : call_state_of now t ≡ later
  this_now = ap (λ l. call_state_of l t) set ∙ get_or-set_same call_states t.0 later no_call within

  pub others_now : (u : Tid) → u.0 ≢ t.0 → call_state_of now u ≡ call_state_of call_states u
  others_now u other = ap (λ l. call_state_of l u) set ∙ get_or-set_other call_states t.0 u.0 later no_call other

  -- each agrees with its stage
  pub stages_now : AgreesWithStage later.stage later.effect
      → ((u : Tid) → AgreesWithStage (call_state_of call_states u).stage (call_state_of call_states u).effect)
      → (u : Tid) → AgreesWithStage (call_state_of now u).stage (call_state_of now u).effect
  stages_now coupled before u = go (u.0 == t.0) refl
    where
      go : (v : Bool) → (u.0 == t.0) ≡ v → AgreesWithStage (call_state_of now u).stage (call_state_of now u).effect
      go true same =
          subst (λ (n : ℕ). AgreesWithStage (slice_index_or now n no_call).stage (slice_index_or now n no_call).effect) (sym (eqb-true u.0 t.0 same))
          (subst (λ (s : CallState). AgreesWithStage s.stage s.effect) (sym this_now) coupled)
      go false other =
          subst (λ (s : CallState). AgreesWithStage s.stage s.effect) (sym (others_now u (eqb-false u.0 t.0 other))) (before u)

  pub slots_now : length call_states ≡ THREADS → length now ≡ THREADS
  slots_now slots = ap (λ (l : List CallState). length l) set ∙ length-set call_states t.0 later ∙ slots

  -- what the call did
  pub called_now : (opening : LockId → Option (QueueBlock MonitorLocked)) (ActsFor Acts : CpuId → Type 0) → ((d : CpuId) → Acts d → ActsFor d)
      → (c : CpuId) (call : Call) (old new : List MonitorEvent) (local : Sleeping MonitorReply) (got : Left (Sleeping MonitorReply) (Outcome MonitorReply))
      → Did opening ActsFor c t call (going (call_state_of call_states t) call) later old new local got → (answer : Option Reply)
      → Answered call later answer
      → Called Acts c t call call_states now (monitor_entries (inner opening) (buffer_sections old))
      (monitor_entries (inner opening) (buffer_sections new)) answer
  called_now opening ActsFor Acts weaker c call old new local got did answer answers = record {
    others = entries_over (inner opening) did.others old;
    mine = did.effect;
    foreign = λ d acts. entries_others (inner opening) d did.others old (did.foreign d (weaker d acts));
    is = did.effects
        ∙ ap (λ es. option_to_list (option_map (entry_of c t (buffer_of call)) did.effect) ++ es) (entries_append (inner opening) did.others old);
    fresh = λ f has. (let three = did.fresh f has in (three.0, ap (λ (s : CallState). s.effect) this_now ∙ three.1, three.2));
    stays = λ none. ap (λ (s : CallState). s.effect) this_now ∙ did.stays none;
    answers = subst (λ (s : CallState). Answered call s answer) (sym this_now) answers;
    apart = others_now;
  }

-- a result is what it means
pub told_same : (o : Option (Outcome MonitorReply)) (payload : Payload)
    → abstract_result (λ (outcome : Outcome MonitorReply) (with : Payload). abstract_outcome (λ (out : MonitorReply) (message_slot : MessageSlot). out) outcome
    with.message_slot) o payload ≡ o
told_same None payload = refl
told_same (Some outcome) payload = refl

-- a poll of an edit that is this one at this buffer, with a result that means this
pub polled_as : {k : Kernel MonitorEdit MonitorLocked (Outcome MonitorReply)} {ActsFor : CpuId → Type 0} {c : CpuId} {b : BufId} {e : MonitorEdit}
    (at : BufId) (edit : MonitorEdit) {old new : List MonitorEvent} {local local' : Sleeping MonitorReply} {abstract_answer : Option (Outcome MonitorReply)}
    (answer : Option (Outcome MonitorReply)) → b ≡ at → e ≡ edit → abstract_answer ≡ answer
    → SleepPolled k ActsFor c b e old new local (record { local = local'; answer = abstract_answer })
    → SleepPolled k ActsFor c at edit old new local (record { local = local'; answer = answer })
polled_as {k} {ActsFor} {c} {b} {e} at edit {old} {new} {local} {local'} {abstract_answer} answer b_is e_is told_is polled =
    subst (λ (o : Option (Outcome MonitorReply)). SleepPolled k ActsFor c at edit old new local (record { local = local'; answer = o })) told_is
    (subst (λ (x : MonitorEdit). SleepPolled k ActsFor c at x old new local (record { local = local'; answer = abstract_answer })) e_is
    (subst (λ (x : BufId). SleepPolled k ActsFor c x e old new local (record { local = local'; answer = abstract_answer })) b_is polled))
