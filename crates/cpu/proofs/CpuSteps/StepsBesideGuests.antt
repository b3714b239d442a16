-- What a step leaves apart from the guests: how effects and actions grow, and the steps in which no
-- guest's call continues.
use Rattle.std.proofs.Common.{◌≡◌, ◌==◌, List, [], ◌∷◌, ◌++◌, Option, Some, None, refl, ap, ◌∙◌, arith}
use Rattle.event_log.specs.{declared.{entries.Entry.Entry, ids.{CpuId.CpuId, LockId.LockId, Tid.Tid}}, Actions.{Action, Try, Phase, action_in, cpu_of_action}}
use Rattle.{event_log.specs.Actions.{gives, phase, ticket_index_of}, layer_traits.specs.declared.calls.{Call.Call, Effect.Effect, Reply.Reply}}
use Rattle.layer_traits.specs.{declared.{call_states.CallState.CallState, passes.Pass.Pass}, Polling.{Looks.Tries, Plans.{Plan, Table, Left, Now, Act}}}
use Rattle.layer_traits.specs.{Polling.Plans.Follows, Threads.{Places.{Step, Threads}, Passes.{PassPolled, pass_steps}}, Layers.BufferLaw.{Called, MovesGrow}}
use Rattle.{layer_traits.specs.Layers.BufferLaw.{OthersSeen, buffer_of, entry_of}, cpu.specs.{Guests.entries_of, Cpus.{ActsGrow, SeenGrows, of_cpu}}}
use Rattle.cpu.proofs.ListFacts.GuestLists.{cpu_same}

-- an action that is due to a CPU is its own
own_action : {N : Type 0} (cpu : CpuId) (lock : LockId) (name : N) (past : List (Action N)) (p : Phase) → cpu_of_action (action_in cpu lock name past p) ≡ cpu
own_action cpu lock name past p = grind arith

-- a poll that followed any plan did at most one action
pub follows_grow : {N B R S A : Type 0} (ActsFor : CpuId → Type 0) (table : Table N B R) (opening : LockId → Option B) (cpu : CpuId) (plan : Plan N R S A)
    (old new : List (Action N)) (got : Left S A) → Follows ActsFor table opening cpu plan old new got → ActsGrow ActsFor cpu old new
follows_grow ActsFor table opening cpu (Now left) old new got follows = record { others = []; mine = []; foreign = λ c acts. tt; local = tt; is = follows.0 }
follows_grow ActsFor table opening cpu (Act lock name react) old new got follows = record {
  others = follows.acted.others;
  mine = action_in cpu lock name follows.past (phase cpu follows.past) ∷ [];
  foreign = follows.acted.foreign;
  local = (own_action cpu lock name follows.past (phase cpu follows.past), tt);
  is = follows.acted.grows ∙ ap (λ (l : List (Action _)). action_in cpu lock name follows.past (phase cpu follows.past) ∷ l) follows.acted.joined;
}

-- a poll of a lock did one
pub tries_grow : {N : Type 0} (ActsFor : CpuId → Type 0) (cpu : CpuId) (old new : List (Action N)) → Tries ActsFor cpu old new → ActsGrow ActsFor cpu old new
tries_grow ActsFor cpu old new tries = record {
  others = tries.others;
  mine = Try cpu tries.lock (gives tries.lock tries.past == ticket_index_of cpu tries.past) ∷ [];
  foreign = tries.foreign;
  local = (refl, tt);
  is = tries.grows ∙ ap (λ (l : List (Action _)). Try cpu tries.lock (gives tries.lock tries.past == ticket_index_of cpu tries.past) ∷ l) tries.joined;
}

-- nothing was appended
pub none_grow : {N : Type 0} (ActsFor : CpuId → Type 0) (cpu : CpuId) (old new : List (Action N)) → new ≡ old → ActsGrow ActsFor cpu old new
none_grow ActsFor cpu old new is = record { others = []; mine = []; foreign = λ c acts. tt; local = tt; is = is }

pub none_seen : (ActsFor : CpuId → Type 0) (cpu : CpuId) (old new : List Entry) → new ≡ old → SeenGrows ActsFor cpu old new
none_seen ActsFor cpu old new is = record { others = []; mine = []; foreign = λ c acts. tt; local = tt; few = omega arith; is = is }

pub none_moved : (ActsFor : CpuId → Type 0) (cpu : CpuId) (old new : List Step) → new ≡ old → MovesGrow ActsFor cpu old new
none_moved ActsFor cpu old new is = record { others = []; mine = []; foreign = λ c acts. tt; local = tt; is = is }

-- a pass moves at most its CPU's threads
pub passed_grows : (homes : List CpuId) (ActsFor : CpuId → Type 0) (c : CpuId) (call : Pass) {A : Type 0} (result : Option A) (old new : List Step)
    (local local' : Threads) → PassPolled homes ActsFor c call result old new local local' → MovesGrow ActsFor c old new
passed_grows homes ActsFor c call None old new local local' polled =
    record { others = polled.others; mine = []; foreign = polled.foreign; local = tt; is = polled.is }
passed_grows homes ActsFor c call (Some a) old new local local' polled =
    record { others = polled.others; mine = pass_steps homes c call; foreign = polled.foreign; local = grind arith; is = polled.is }

-- only effects of other CPUs
pub others_grow : (ActsFor : CpuId → Type 0) (cpu : CpuId) (old new : List Entry) → OthersSeen ActsFor old new → SeenGrows ActsFor cpu old new
others_grow ActsFor cpu old new history =
    record { others = history.others; mine = []; foreign = history.foreign; local = tt; few = omega arith; is = history.is }

-- a poll of a call has at most one effect, its CPU's own
pub called_grows : (ActsFor : CpuId → Type 0) (cpu : CpuId) (t : Tid) (call : Call) (call_states left : List CallState) (old new : List Entry)
    (answer : Option Reply) → Called ActsFor cpu t call call_states left old new answer → SeenGrows ActsFor cpu old new
called_grows ActsFor cpu t call call_states left old new answer called = go called.mine called.is
  where
    go : (mine : Option Effect) → new ≡ entries_of cpu t (buffer_of call) mine ++ (called.others ++ old) → SeenGrows ActsFor cpu old new
    go None is = record { others = called.others; mine = []; foreign = called.foreign; local = tt; few = omega arith; is = is }
    go (Some f) is =
        record {
          others = called.others;
          mine = entry_of cpu t (buffer_of call) f ∷ [];
          foreign = called.foreign;
          local = (refl, tt);
          few = omega arith;
          is = is;
        }

-- effects of other CPUs leave a CPU's own unchanged
pub others_same : (ActsFor : CpuId → Type 0) (number : CpuId) (old new : List Entry) → OthersSeen ActsFor old new → ActsFor number
    → of_cpu number new ≡ of_cpu number old
others_same ActsFor number old new history acts =
    ap (λ (l : List Entry). of_cpu number l) history.is ∙ cpu_same ActsFor number history.others old history.foreign acts
