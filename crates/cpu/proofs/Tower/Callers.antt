-- A thread that runs on a CPU, and the call that it is in: the arguments of the lemmas on a poll's
-- plan.
use Rattle.std.proofs.{Common.{◌≡◌, ℕ, ◌<◌, List, length, slice_set, Option, Some, None, sym, subst}, lemmas.List.length-set}
use Rattle.layer_traits.specs.{Views.OwnParts.threads_in, declared.{calls.{Call.Call, Effect.Effect}, call_states.{Stage.Stage, CallState.CallState}}}
use Rattle.{layer_traits.specs.Layers.{BufferLaw.Buffering, QLockLaw.slept_for}, event_log.specs.declared.{entries.Entry.Entry, ids.{BufId.BufId, CpuId.CpuId}}}
use Rattle.{event_log.specs.declared.ids.Tid.Tid, guest.specs.State.State, cpu.specs.Table.Setups.SystemConfig}

-- thread t runs: the CPU's part except its hand and the result that it keeps, and the guests, in
-- which the thread has a call state and a guest
pub record Runner : Type 0 where
  pub t : Tid
  pub ready : List Tid
  pub ended : List Tid
  pub slept : List (Option BufId)
  pub waits : List (Option BufId)
  pub call_states : List CallState
  pub guests : List State
  pub in_guests : t.0 < length guests
  pub in_call_states : t.0 < length call_states

-- the thread that runs is in a call, or begins one
pub record Caller : Type 0 where
  pub setup : SystemConfig
  pub c : CpuId
  pub runner : Runner
  pub open runner use *
  pub trace : List Entry
  pub call : Call
  pub position : ℕ
  pub in_slept : t.0 < length slept
  pub in_waits : t.0 < length waits

-- it neither sleeps for the lock nor waits
pub record Site : Type 0 where
  pub caller : Caller
  pub open caller use *
  pub is_slept : slept_for slept t ≡ None
  pub is_waits : slept_for waits t ≡ None

-- the lists of a part and of its guests reach thread t
pub record HasRoom (local : Buffering) (guests : List State) (t : Tid) : Type 0 where
  pub in_guests : t.0 < length guests
  pub in_call_states : t.0 < length local.call_states
  pub in_slept : t.0 < length local.cv.lock.slept
  pub in_waits : t.0 < length local.cv.waits

-- the thread in its part
abbrev pub caller_in : (setup : SystemConfig) (c : CpuId) (local : Buffering) (guests : List State) (t : Tid) → HasRoom local guests t → (trace : List Entry)
    (call : Call) (position : ℕ) → Caller
caller_in setup c local guests t room trace call position = record {
  setup = setup;
  c = c;
  runner = record {
    t = t;
    ready = (threads_in local).ready;
    ended = (threads_in local).ended;
    slept = local.cv.lock.slept;
    waits = local.cv.waits;
    call_states = local.call_states;
    guests = guests;
    in_guests = room.in_guests;
    in_call_states = room.in_call_states;
  };
  trace = trace;
  call = call;
  position = position;
  in_slept = room.in_slept;
  in_waits = room.in_waits;
}

abbrev pub awake : (caller : Caller) → slept_for caller.slept caller.t ≡ None → slept_for caller.waits caller.t ≡ None → Site
awake caller is_slept is_waits = record { caller = caller; is_slept = is_slept; is_waits = is_waits }

-- the call state of the call at a stage
abbrev pub call_state_at : Caller → Stage → Option Effect → CallState
call_state_at caller stage effect = record { stage = stage; call = Some caller.call; position = caller.position; effect = effect }

-- the caller at this stage, after the poll changed where threads sleep and wait
abbrev pub at_next : (caller : Caller) (slept2 waits2 : List (Option BufId)) (stage : Stage) → caller.t.0 < length slept2 → caller.t.0 < length waits2 → Caller
at_next caller slept2 waits2 stage long_slept long_waits = record caller {
  runner = record caller.runner {
    slept = slept2;
    waits = waits2;
    call_states = slice_set caller.call_states caller.t.0 (call_state_at caller stage None);
    in_call_states = subst (λ n. caller.t.0 < n) (sym (length-set caller.call_states caller.t.0 (call_state_at caller stage None))) caller.in_call_states;
  };
  in_slept = long_slept;
  in_waits = long_waits;
}
