-- At the start: a machine that opens with an empty buffer for each capacity boots as the layer
-- wants it, and a part fits.
use Rattle.std.proofs.Common.{◌≡◌, ℕ, ◌≤◌, List, [], length, map, Option, None, option_map, slice_get, refl, ap, sym, ◌∙◌, arith, zero, suc, slice_index_or}
use Rattle.std.proofs.{Common.{◌∷◌, replicate, subst}, Math.Path.fun_ext, lemmas.{Option.slice_get-map, List.length-replicate}}
use Rattle.event_log.specs.declared.ids.{BufId.BufId, LockId.{LockId, TheVariants.Buffer}, CpuId.CpuId, Tid.Tid, TheConstants.THREADS}
use Rattle.layer_traits.specs.Blocks.{Capacities.{caps_in, caps_from}, BufferBlocks.{BufferState, empty_block}, BufferEffects.{fresh_lock, opening_locks}}
use Rattle.layer_traits.specs.{Blocks.{BufferProtocol.BufferLock, QueueBlocks.{StartsAs, inner}}, declared.queue_edits.QueueBlock.QueueBlock}
use Rattle.layer_traits.specs.{declared.{buffer_edits.BufferReply.BufferReply, locked.Side.Side, call_states.CallState.CallState}, Layers.BufferLaw.no_call}
use Rattle.layer_traits.specs.Layers.{BufferLaw.call_state_of, CvLaw.{Waiting, waiting_at_start}, QLockLaw.slept_for, QLocking.AreAtRest}
use Rattle.layer_traits.{specs.{Layers.Queues.{buffer_sections, moves_in}, Threads.Places.count_in}, proofs.CapacityLemmas.caps_observed}
use Rattle.fifo_buffer.specs.{FifoFits.{BootsSo, PartFits}, Stances.{IsFreeOf, CallStateFits, line_at}, SectionPolls.{BufferEvent, FitsAt}}
use Rattle.fifo_buffer.proofs.Callers.{kernel_of}

-- the capacities read from the locks are those with which they opened
pub caps_are : (opening : LockId → Option (QueueBlock BufferLock)) (caps : List ℕ) → inner opening ≡ opening_locks caps → length caps ≤ 256
    → caps_in opening ≡ caps
unfolding caps_in
caps_are opening caps boots few =
    let capacity : BufferLock → ℕ = λ lock. lock.above.capacity in
    ap (caps_from capacity 256 0) boots ∙ caps_observed capacity fresh_lock (λ n. refl) caps (opening_locks caps) (λ n. refl) 256 few

-- so the machine boots as the layer wants it
pub boots_well : (opening : LockId → Option (QueueBlock BufferLock)) (caps : List ℕ) → inner opening ≡ opening_locks caps → length caps ≤ 256 → BootsSo opening
boots_well opening caps boots few = boots ∙ ap opening_locks (sym (caps_are opening caps boots few))

-- what a list of equal items holds anywhere
pub same_default : {A : Type 0} (n i : ℕ) (a : A) → slice_index_or (replicate n a) i a ≡ a
same_default zero i a = refl
same_default (suc n) zero a = refl
same_default (suc n) (suc i) a = same_default n i a

-- no moves, no events
pub no_events : (opening : LockId → Option (QueueBlock BufferLock)) (past : List BufferEvent) → moves_in (kernel_of opening) past ≡ [] → past ≡ []
no_events opening [] none = refl
no_events opening (e ∷ past) none = absurd cc

pub all_rest : (opening : LockId → Option (QueueBlock BufferLock)) → BootsSo opening → AreAtRest (inner opening)
all_rest opening boots = subst AreAtRest (sym boots) (grind arith)

line_none : (t : Tid) (side : Side) (caps : List ℕ) (lock : LockId) → count_in t (line_at side (opening_locks caps lock)) ≡ 0
line_none t side caps lock = grind arith

no_call_fits : (opening : LockId → Option (QueueBlock BufferLock)) → BootsSo opening → (t : Tid) (slept waits : Option BufId) (call_state : CallState)
    → slept ≡ None → waits ≡ None → call_state ≡ no_call → CallStateFits (inner opening) [] t call_state.call slept waits call_state
no_call_fits opening boots t slept waits call_state slept_none waits_none is =
    subst (λ (x : CallState). CallStateFits (inner opening) [] t x.call slept waits x) (sym is) (record {
      stage_is = refl;
      stance = record {
        grip = λ lock. subst (λ locks. IsFreeOf t (locks lock)) (sym boots) (grind arith);
        line = λ lock at. ap (λ locks. count_in t (line_at at (locks lock))) boots ∙ line_none t at (caps_in opening) lock;
        drawn_is = λ w. absurd cc;
      };
      slept_none = slept_none;
      waits_none = waits_none;
    })

pub start_fits : (opening : LockId → Option (QueueBlock BufferLock)) (homes : List CpuId) (c d : CpuId) (past : List BufferEvent) (local : Waiting BufferReply)
    (call_states : List CallState) → BootsSo opening → past ≡ [] → local ≡ waiting_at_start homes c → call_states ≡ replicate THREADS no_call
    → PartFits opening d past local call_states None None
start_fits opening homes c d past local call_states boots none own_is call_states_are = record {
  boots = boots;
  sizes = record {
    slept = ap (λ (x : Waiting BufferReply). length x.lock.slept) own_is ∙ length-replicate {A = Option BufId} THREADS None;
    waits = ap (λ (x : Waiting BufferReply). length x.waits) own_is ∙ length-replicate {A = Option BufId} THREADS None;
    call_states_are = ap (λ (l : List CallState). length l) call_states_are ∙ length-replicate {A = CallState} THREADS no_call;
  };
  calls = record {
    none = tt;
    deferred = ap (λ (x : Waiting BufferReply). x.lock.sleep.deferred) own_is;
    fit = λ u home. subst (λ log. FitsAt (inner opening) (buffer_sections log) local call_states u) (sym none)
        (no_call_fits opening boots u (slept_for local.lock.slept u) (slept_for local.waits u) (call_state_of call_states u)
        (ap (λ (x : Waiting BufferReply). slept_for x.lock.slept u) own_is ∙ same_default {A = Option BufId} THREADS u.0 None)
        (ap (λ (x : Waiting BufferReply). slept_for x.waits u) own_is ∙ same_default {A = Option BufId} THREADS u.0 None)
        (ap (λ (l : List CallState). call_state_of l u) call_states_are ∙ same_default {A = CallState} THREADS u.0 no_call));
  };
}
