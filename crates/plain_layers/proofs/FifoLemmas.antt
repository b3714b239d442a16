-- Polls of buffers in one section a call: what they add to the effects and to the moves, and what
-- they leave of the parts.
use Rattle.std.proofs.Common.{◌≡◌, ◌≢◌, ℕ, ◌<◌, inl, inr, Bool, true, false, List, [], ◌∷◌, ◌++◌, length, Option, Some, None, IsSome, is_some, option_map}
use Rattle.std.proofs.{Common.{if◌then◌else◌, refl, ap, sym, ◌∙◌, subst, option_to_list, ◌≤◌, replicate, slice_set, arith}, lemmas.Bool.{eqb-true, eqb-false}}
use Rattle.std.proofs.lemmas.{Bool.lt-ltb, List.{get_or-set_same, get_or-set_other}, Option.slice_get_within}
use Rattle.event_log.specs.declared.ids.{Tid.Tid, TheConstants.{THREADS, CPUS}, BufId.BufId, CpuId.CpuId, LockId.{LockId, TheVariants.Buffer}}
use Rattle.{event_log.{specs.{declared.entries.Entry.Entry, History.IsLawful}, proofs.ListLemmas.alike_at}, layer_traits.specs.Blocks.Capacities.caps_in}
use Rattle.layer_traits.specs.{Blocks.QueueBlocks.{homes_in, inner}, Views.Renaming.viewed, declared.calls.Call.{Call, TheVariants.{Send, Recv, Close}}}
use Rattle.layer_traits.specs.declared.{calls.{Effect.Effect, Reply.Reply, ReplyKind.ReplyKind}, queues.{QueueCall.TheVariants.OnBuffer, QueueEvent.QueueEvent}}
use Rattle.layer_traits.specs.declared.{call_states.{Stage.TheVariants.Idle, CallState.CallState}, passes.Pass.Pass, queue_edits.QueueBlock.QueueBlock}
use Rattle.layer_traits.specs.{declared.sleeps.Outcome.Outcome, Layers.BufferLaw.{Called, IsEffectOf, IsRefused, MayPollCall, answer_in, buffer_of, entry_of}}
use Rattle.layer_traits.specs.Layers.{BufferLaw.{going, no_call, call_state_of, reply_with, MovesGrow, OthersSeen}, Queues.{call_move, out_at, IsKnownEvent}}
use Rattle.layer_traits.specs.Layers.{Queues.{Kernel, buffer_sections, moves_in}, Sleeping.{sleep_answer, NoSleepers}, SleepLaw.{Sleeping, done_if}}
use Rattle.layer_traits.specs.{Layers.{SleepLaw.sleep_kernel, Scheds.{SchedPolled, events_of, pass_call}}, Threads.Passes.{own_slept, queue_for, PassPolled}}
use Rattle.layer_traits.{specs.Threads.Places.{AreMoves, Pushed, Stands, Step, step_with, Threads}, proofs.PlaceLemmas.{current_at, woken_current}}
use Rattle.{layer_traits.proofs.{CallLemmas.pass_polled, SleepLemmas.done_same, Seen.lawful_rest}, plain_layers.specs.Fifos.{plain_shown, attempt_of}}
use Rattle.plain_layers.specs.Fifos.{effect_by, locked_after, reply_to, call_state_after, IsOwned, PlainLocked, plain_entries_in, fresh_buffers}
use Rattle.plain_layers.specs.{declared.attempts.{Tried.Tried, Attempt.Attempt}, Attempts.{PlainState, effect_in, wait_list_by, attempt_told, attempts}}
use Rattle.plain_layers.specs.{Wholes.{IsDoneWhole, asked_edit}, Laws.FifoTallies.{plain_block, no_position, plain_tally}}
use Rattle.{plain_layers.proofs.WholeLemmas.no_foreign_events, fifo_buffer.specs.Tallies.Tally}
use Rattle.plain_layers.specs.declared.attempts.Ask.TheVariants as ask
use Rattle.layer_traits.specs.declared.moves.WaitList.TheVariants as wait_list
use Rattle.layer_traits.specs.declared.scheds.SchedCall.TheVariants as sched

-- A machine at the start.

-- if there was no move, there was no event
pub no_events : {E B O : Type 0} (k : Kernel E B O) (past : List (QueueEvent E)) → moves_in k past ≡ [] → past ≡ []
no_events k [] none = refl
no_events k (e ∷ past) none = absurd (cc none)

-- no thread waits at fresh buffers
pub nobody_waits : (caps : List ℕ) (locks : LockId → Option PlainLocked) → locks ≡ fresh_buffers caps → NoSleepers locks
nobody_waits caps locks fresh lock wait_list = grind arith

-- a machine keeps its one holder
pub owned_after : (ActsFor Acts : CpuId → Type 0) (opening opening' : LockId → Option (QueueBlock PlainLocked)) → opening' ≡ opening
    → ((c : CpuId) → ActsFor c → Acts c) → IsOwned ActsFor opening → IsOwned Acts opening'
owned_after ActsFor Acts opening opening' same acts owned = record { all = λ c small. acts c (owned.all c small); fresh = rw same owned.fresh }

-- A pass.

-- a poll of a pass by a holder that acts for every CPU
pub record PolledAlone (opening : LockId → Option (QueueBlock PlainLocked)) (ActsFor : CpuId → Type 0) (c : CpuId) (p : Pass) (result : Option (Unit {0}))
    (old new : List (QueueEvent Attempt)) (local local' : Threads) : Type 0 where
  pub all : (d : CpuId) → d.0 < CPUS → ActsFor d
  pub known : IsLawful IsKnownEvent new
  pub polled : SchedPolled (sleep_kernel attempts opening) ActsFor c (sched.Pass p) (done_if result) old new local local'

module _ (opening : LockId → Option (QueueBlock PlainLocked)) (ActsFor : CpuId → Type 0) (c : CpuId) (p : Pass) (result : Option (Unit {0}))
    (old new : List (QueueEvent Attempt)) (local local' : Threads) (alone : PolledAlone opening ActsFor c p result old new local local') where
  nobody : (b : Bool) → new ≡ (if b then events_of c (pass_call (homes_in opening) c p) ++ (alone.polled.others ++ old) else alone.polled.others ++ old)
      → alone.polled.others ≡ []
  nobody true is = no_foreign_events ActsFor alone.all alone.polled.others old
      (lawful_rest IsKnownEvent (events_of c (pass_call (homes_in opening) c p)) (alone.polled.others ++ old) (subst (IsLawful IsKnownEvent) is alone.known))
      alone.polled.foreign
  nobody false is = no_foreign_events ActsFor alone.all alone.polled.others old (subst (IsLawful IsKnownEvent) is alone.known) alone.polled.foreign

  same_sections : (b : Bool) → alone.polled.others ≡ []
      → new ≡ (if b then events_of c (pass_call (homes_in opening) c p) ++ (alone.polled.others ++ old) else alone.polled.others ++ old)
      → buffer_sections new ≡ buffer_sections old
  same_sections b none is = grind arith

  -- a pass adds no effect
  pub passed_seen : (Acts : CpuId → Type 0)
      → OthersSeen Acts (plain_entries_in (inner opening) (buffer_sections old)) (plain_entries_in (inner opening) (buffer_sections new))
  passed_seen Acts = record {
    others = [];
    foreign = λ d acts. tt;
    is = ap (plain_entries_in (inner opening)) (same_sections _ (nobody _ alone.polled.is) alone.polled.is);
  }

  -- and is a pass in moves
  pub passed_moves : (Acts : CpuId → Type 0) → ((d : CpuId) → Acts d → ActsFor d)
      → PassPolled (homes_in opening) Acts c p result (moves_in (sleep_kernel attempts opening) old) (moves_in (sleep_kernel attempts opening) new) local local'
  passed_moves Acts weaker =
      let moved = pass_polled (sleep_kernel attempts opening) ActsFor c p (done_if result) old new local local' alone.polled in
      let same : is_some (done_if {O = Outcome Tried} result) ≡ is_some result = done_same (Outcome Tried) result in
      record {
        others = moved.others;
        foreign = λ d acts. moved.foreign d (weaker d acts);
        is = rw (← same) moved.is;
        after = rw (← same) moved.after;
        at_once = λ local_is. sym same ∙ moved.at_once local_is;
      }

-- a poll that returned a result leaves nothing under way
pub nothing_under : {A B : Type 0} (r : Option A) (under x : Option B) → IsSome r → under ≡ (if is_some r then None else x) → under ≡ None
nothing_under r under x answered is = grind arith

-- The call states.

-- at the start no thread has an effect
pub no_call_waits : (t : Tid) → (call_state_of (replicate THREADS no_call) t).stage ≢ Idle → (call_state_of (replicate THREADS no_call) t).effect ≡ None
no_call_waits t other = ap (λ (x : CallState). x.effect) (alike_at THREADS t.0 no_call)

pub set_waits : (call_states : List CallState) (t : Tid) (call : Call) (effect : Option Effect) → t.0 < length call_states
    → ((u : Tid) → (call_state_of call_states u).stage ≢ Idle → (call_state_of call_states u).effect ≡ None)
    → (u : Tid) → (call_state_of (slice_set call_states t.0 (call_state_after call effect)) u).stage ≢ Idle
    → (call_state_of (slice_set call_states t.0 (call_state_after call effect)) u).effect ≡ None
set_waits call_states t call effect within waits u = grind (arith, eqb-true, get_or-set_same, get_or-set_other, eqb-false)

-- A poll of a call.

-- a running thread is one of the threads that a machine may have
pub runs_small : (homes : List CpuId) (c : CpuId) (moves : List Step) (local : Threads) → AreMoves homes moves → Stands homes c moves local
    → length homes ≤ THREADS → (t : Tid) → local.current ≡ Some t → t.0 < THREADS
runs_small homes c moves local legal stands room t runs =
    let within = slice_get_within homes t.0 c (current_at homes c moves local legal stands t runs).0 in
    omega (arith, within, room)

effect_kinds : (t : Tid) (call : Call) (x : PlainState) (f : Effect) → effect_in (attempt_told (attempt_of t call) x) ≡ Some f → IsEffectOf call f
effect_kinds t call x f is = grind arith

-- a thread that had no effect sleeps
slept_current : (out : Tried) (local : Threads) → effect_in out ≡ None → (own_slept (wait_list_by out) local).current ≡ None
slept_current out local given = grind arith

-- a call without a reply had no effect
pub reply_none : (call : Call) (effect : Option Effect) → reply_to call effect ≡ None → effect ≡ None
reply_none call effect given = grind arith

-- a kind that makes the reply of the call with its effect makes it with the call states that are
-- left
pub reply_left : (call_states : List CallState) (t : Tid) (call : Call) (effect : Option Effect) (kind : Option ReplyKind) → t.0 < length call_states
    → option_map (λ k. reply_with k effect) kind ≡ reply_to call effect
    → answer_in (slice_set call_states t.0 (call_state_after call effect)) t kind ≡ reply_to call effect
reply_left call_states t call effect kind within abstract_answer = grind (arith, get_or-set_same)

module _ (opening : LockId → Option (QueueBlock PlainLocked)) (c : CpuId) (b : BufId) (a : Attempt) (old new : List (QueueEvent Attempt)) (local : Threads)
    (left : Sleeping Tried) (outcome : Outcome Tried) (done : IsDoneWhole (asked_edit (sleep_kernel attempts opening) c b a) old new local left outcome) where
  out_is : out_at (sleep_kernel attempts opening) old b a ≡ Some outcome
  out_is = grind arith

  effect_is : (x : Option PlainLocked) → option_map (sleep_answer attempts a) x ≡ Some outcome → effect_by a x ≡ effect_in outcome.out
  effect_is x is = grind arith

  -- the effects grow by the call's, if it has one
  pub done_entries : plain_entries_in (inner opening) (buffer_sections new)
      ≡ option_to_list (option_map (entry_of c a.thread b) (effect_in outcome.out)) ++ plain_entries_in (inner opening) (buffer_sections old)
  done_entries = grind (arith, effect_is)

  -- and it is one of the call
  pub done_kind : (t : Tid) (call : Call) → a ≡ attempt_of t call → (f : Effect) → effect_in outcome.out ≡ Some f → IsEffectOf call f
  done_kind t call is f has = grind (arith, out_is, effect_kinds, effect_is)

  pub done_deferred : left.deferred ≡ None
  done_deferred = grind arith

  -- the moves grow by this CPU's
  pub done_moves : (Acts : CpuId → Type 0) → MovesGrow Acts c (moves_in (sleep_kernel attempts opening) old) (moves_in (sleep_kernel attempts opening) new)
  done_moves Acts =
      let moves = moves_in (sleep_kernel attempts opening) in
      let mine = step_with c (call_move (sleep_kernel attempts opening) old (OnBuffer b a)) in
      elim done [
        | inl alone ↦ record { others = []; mine = mine ∷ []; foreign = λ d acts. tt; local = (refl, tt); is = ap moves alone.history }
        | inr sending ↦ record {
          others = [];
          mine = step_with c (Pushed (queue_for (homes_in opening) c sending.woken) sending.woken) ∷ mine ∷ [];
          foreign = λ d acts. tt;
          local = (refl, (refl, tt));
          is = ap moves sending.history;
        }
      ]

  -- what the call did
  pub done_called : (Acts : CpuId → Type 0) (t : Tid) (call : Call) (call_states now : List CallState) → a ≡ attempt_of t call → b ≡ buffer_of call
      → t.0 < length call_states → MayPollCall (call_state_of call_states t) call
      → ((u : Tid) → (call_state_of call_states u).stage ≢ Idle → (call_state_of call_states u).effect ≡ None)
      → now ≡ slice_set call_states t.0 (call_state_after call (effect_in outcome.out)) → (answer : Option Reply)
      → answer ≡ reply_to call (effect_in outcome.out)
      → Called Acts c t call call_states now (plain_entries_in (inner opening) (buffer_sections old))
      (plain_entries_in (inner opening) (buffer_sections new)) answer
  done_called Acts t call call_states now attempt at within may waits set answer replies = record {
    others = [];
    mine = effect_in outcome.out;
    foreign = λ d acts. tt;
    is = grind (arith, done_entries);
    fresh = λ f has. (none_before (call_state_of call_states t) (waits t), grind (arith, mine_now), done_kind t call attempt f has);
    stays = λ none. (let before = none_before (call_state_of call_states t) (waits t) in grind (arith, mine_now));
    answers = grind (arith, mine_now);
    apart = λ u other. grind (arith, get_or-set_other);
  }
    where
      mine_now : call_state_of now t ≡ call_state_after call (effect_in outcome.out)
      mine_now = grind (arith, get_or-set_same)

      none_before : (call_state : CallState) → (call_state.stage ≢ Idle → call_state.effect ≡ None) → (going call_state call).effect ≡ None
      none_before call_state rests = grind arith

  -- a call without an effect did not act: the buffer allows it none, and its thread sleeps
  pub done_refused : (t : Tid) (call : Call) → a ≡ attempt_of t call → b ≡ buffer_of call → inner opening ≡ fresh_buffers (caps_in (viewed plain_shown opening))
      → effect_in outcome.out ≡ None → IsRefused call (caps_in (viewed plain_shown opening)) (plain_entries_in (inner opening) (buffer_sections new))
  done_refused t call attempt at fresh none =
      subst (λ l. IsRefused call (caps_in (viewed plain_shown opening)) l)
      (sym (done_entries ∙ ap (λ f. option_to_list (option_map (entry_of c a.thread b) f) ++ plain_entries_in (inner opening) (buffer_sections old)) none))
      (go (locked_after (inner opening) (Buffer b) (buffer_sections old)) refl out_is)
    where
      E : List Entry
      E = plain_entries_in (inner opening) (buffer_sections old)

      -- a buffer that does not allow it is open, and full or empty
      refused : (k : Call) (x : PlainState) → Tally (caps_in (viewed plain_shown opening)) (buffer_of k).0 E no_position (plain_block x)
          → effect_in (attempt_told (attempt_of t k) x) ≡ None → IsRefused k (caps_in (viewed plain_shown opening)) E
      refused (Send at m) x tally nothing = (λ room. grind (arith, lt-ltb), λ closed. grind arith)
      refused (Recv at) x tally nothing = λ m. (λ first. grind (arith, lt-ltb, slice_get_within), λ closed. grind arith)
      refused (Close at) x tally nothing = absurd (cc nothing)

      go : (x : Option PlainLocked) → locked_after (inner opening) (Buffer b) (buffer_sections old) ≡ x → option_map (sleep_answer attempts a) x ≡ Some outcome
          → IsRefused call (caps_in (viewed plain_shown opening)) (plain_entries_in (inner opening) (buffer_sections old))
      go None is out = absurd cc
      go (Some state) is out = refused call state.above
          (subst (λ (d : BufId). Tally (caps_in (viewed plain_shown opening)) d.0 E no_position (plain_block state.above)) at
          (plain_tally (inner opening) (caps_in (viewed plain_shown opening)) (buffer_sections old) fresh b state is))
          (subst (λ e. effect_in (attempt_told e state.above) ≡ None) attempt (effect_is (Some state) out ∙ none))

  -- and its thread sleeps
  pub done_sleeps : effect_in outcome.out ≡ None → left.threads.current ≡ None
  done_sleeps none = grind (arith, woken_current, slept_current)
