-- A CPU's private state in which one thread changed.
use Rattle.std.proofs.Common.{◌≡◌, ◌≢◌, ℕ, zero, suc, ◌+◌, ◌<◌, ◌≤◌, Bool, false, ◌&&◌, List, [], ◌∷◌, length, get_or, slice_set, Option, Some, None, is_some}
use Rattle.std.proofs.{Common.{refl, ap, sym, ◌∙◌, arith}, lemmas.{Bool.ne_eqb, List.{get_or-set_same, get_or-set_other}}}
use Rattle.{event_log.specs.declared.{entries.Entry.Entry, ids.{BufId.BufId, Tid.Tid}}, guest.specs.State.State, thread_blocks.specs.Queues.is_in}
use Rattle.{thread_blocks.proofs.Members.same_tid_self, layer_traits.specs.{declared.call_states.CallState.CallState, Layers.QLockLaw.slept_for}}
use Rattle.{layer_traits.specs.{Layers.BufferLaw.{Buffering, no_call}, Threads.Places.is_thread}, cpu.specs.Table.Setups.{CpuLocal, Thread}}
use Rattle.cpu.{specs.Tower.{Views.TowerReply, Privates.{threads_numbered, cpu_local_of, thread_from, thread_of, tid}}, proofs.Tower.Callers.Runner}

pub numbered_long : (f : ℕ → State → Thread) (n : ℕ) (guests : List State) → length (threads_numbered f n guests) ≡ length guests
numbered_long f n [] = refl
numbered_long f n (x ∷ guests) = let rec = numbered_long f (n + 1) guests in omega (arith, rec)

pub numbered_at : (f : ℕ → State → Thread) (n k : ℕ) (guests : List State) (d : Thread) (s : State) → k < length guests
    → get_or (threads_numbered f n guests) k d ≡ f (n + k) (get_or guests k s)
numbered_at f n k [] d s within = absurd (omega (arith, within))
numbered_at f n zero (x ∷ guests) d s within = let e : n ≡ n + 0 = omega arith in ap (λ m. f m x) e
numbered_at f n (suc k) (x ∷ guests) d s within =
    let e : n + 1 + k ≡ n + suc k = omega arith in
    let below : k < length guests = omega (arith, within) in
    numbered_at f (n + 1) k guests d s below ∙ ap (λ m. f m (get_or guests k s)) e

pub numbered_same : (f g : ℕ → State → Thread) (n : ℕ) (guests : List State) → ((j : ℕ) (x : State) → n ≤ j → g j x ≡ f j x)
    → threads_numbered g n guests ≡ threads_numbered f n guests
numbered_same f g n [] same = refl
numbered_same f g n (x ∷ guests) same =
    let more = numbered_same f g (n + 1) guests (λ j y below. same j y (omega (arith, below))) in
    λ i. (same n x (omega arith)) i ∷ more i

-- after one guest and its thread changed, the others stay
pub numbered_changed : (f g : ℕ → State → Thread) (n k m : ℕ) (guests : List State) (s : State) → m ≡ n + k → ((j : ℕ) (x : State) → j ≢ m → g j x ≡ f j x)
    → k < length guests → threads_numbered g n (slice_set guests k s) ≡ slice_set (threads_numbered f n guests) k (g m s)
numbered_changed f g n k m [] s is other within = absurd (omega (arith, within))
numbered_changed f g n zero m (x ∷ guests) s is other within = grind (arith, numbered_same)
numbered_changed f g n (suc k) m (x ∷ guests) s is other within =
    let below : k < length guests = omega (arith, within) in
    let at : m ≡ n + 1 + k = omega (arith, is) in
    let more = numbered_changed f g (n + 1) k m guests s at other below in
    λ i. (other n x (λ same. omega (arith, same, is))) i ∷ more i

-- a part's private state by its fields
abbrev pub own_at : (current hand : Option Tid) (ready ended : List Tid) (deferred : Option TowerReply) (slept waits : List (Option BufId))
    (call_states : List CallState) → Buffering
own_at current hand ready ended deferred slept waits call_states = record {
  cv = record {
    lock = record {
      sleep = record { threads = record { current = current; hand = hand; ready = ready; ended = ended }; deferred = deferred };
      slept = slept;
    };
    waits = waits;
  };
  call_states = call_states;
}

-- a private state by its parts
abbrev pub parts : (current : Option Tid) (ready : List Tid) (hand : Option Tid) (threads : List Thread) (trace : List Entry) → CpuLocal
parts current ready hand threads trace = record { current = current; ready = ready; hand = hand; threads = threads; trace = trace }

abbrev pub threads_at : Buffering → List State → List Thread
threads_at local guests = threads_numbered (λ n. thread_of local (tid n)) 0 guests

-- the part of a thread that runs
abbrev pub part_at : Runner → (hand : Option Tid) (deferred : Option TowerReply) → Buffering
part_at runner hand deferred = own_at (Some runner.t) hand runner.ready runner.ended deferred runner.slept runner.waits runner.call_states

module _ (runner : Runner) (hand : Option Tid) (deferred : Option TowerReply) where
  open runner use {t, ended, slept, waits, call_states, guests, in_guests, in_call_states}

  abbrev before : Buffering
  before = part_at runner hand deferred

  -- thread t runs, or none does: its call state, guest and where it sleeps or waits changed
  pub changed : (current2 hand2 : Option Tid) (ready2 : List Tid) (deferred2 : Option TowerReply) (slept2 waits2 : List (Option BufId)) (call_state : CallState)
      (guest : State) (trace : List Entry) (s w : Option BufId) (k : Bool) → ((j : ℕ) → j ≢ t.0 → (is_thread (tid j) current2 && is_some deferred2) ≡ false)
      → ((j : ℕ) → j ≢ t.0 → slept_for slept2 (tid j) ≡ slept_for slept (tid j)) → ((j : ℕ) → j ≢ t.0 → slept_for waits2 (tid j) ≡ slept_for waits (tid j))
      → slept_for slept2 t ≡ s → slept_for waits2 t ≡ w → (is_thread t current2 && is_some deferred2) ≡ k
      → cpu_local_of (own_at current2 hand2 ready2 ended deferred2 slept2 waits2 (slice_set call_states t.0 call_state)) (slice_set guests t.0 guest) trace
      ≡ parts current2 ready2 hand2 (slice_set (threads_at before guests) t.0 (thread_from call_state s w k (is_in t ended) guest)) trace
  changed current2 hand2 ready2 deferred2 slept2 waits2 call_state guest trace s w k none slept_same waits_same is_s is_w is_k =
      let after : Buffering = own_at current2 hand2 ready2 ended deferred2 slept2 waits2 (slice_set call_states t.0 call_state) in
      let zero_plus : t.0 ≡ 0 + t.0 = omega arith in
      ap (λ l. parts current2 ready2 hand2 l trace) (numbered_changed (λ n. thread_of before (tid n)) (λ n. thread_of after (tid n)) 0 t.0 t.0 guests guest
      zero_plus (λ j x other. λ i. thread_from (get_or-set_other call_states t.0 j call_state no_call other i) (slept_same j other i) (waits_same j other i)
      ((none j other ∙ sym (ap (λ b. b && is_some deferred) (ne_eqb t.0 j (λ e. other (sym e))))) i) (is_in (tid j) ended) x) in_guests
      ∙ ap (λ x. slice_set (threads_at before guests) t.0 x)
      (λ i. thread_from (get_or-set_same call_states t.0 call_state no_call in_call_states i) (is_s i) (is_w i) (is_k i) (is_in t ended) guest))

  -- thread t runs on
  pub runner_goes : (hand2 : Option Tid) (ready2 : List Tid) (deferred2 : Option TowerReply) (call_state : CallState) (guest : State) (trace : List Entry)
      (s w : Option BufId) → slept_for slept t ≡ s → slept_for waits t ≡ w
      → cpu_local_of (own_at (Some t) hand2 ready2 ended deferred2 slept waits (slice_set call_states t.0 call_state)) (slice_set guests t.0 guest) trace
      ≡ parts
      (Some t) ready2 hand2 (slice_set (threads_at before guests) t.0 (thread_from call_state s w (is_some deferred2) (is_in t ended) guest)) trace
  runner_goes hand2 ready2 deferred2 call_state guest trace s w is_s is_w =
      changed (Some t) hand2 ready2 deferred2 slept waits call_state guest trace s w (is_some deferred2)
      (λ j other. ap (λ b. b && is_some deferred2) (ne_eqb t.0 j (λ e. other (sym e)))) (λ j other. refl) (λ j other. refl) is_s is_w
      (ap (λ b. b && is_some deferred2) (same_tid_self t))

  -- thread t sleeps or waits
  pub thread_gone : (hand2 : Option Tid) (ready2 : List Tid) (slept2 waits2 : List (Option BufId)) (call_state : CallState) (guest : State) (trace : List Entry)
      (s w : Option BufId) → ((j : ℕ) → j ≢ t.0 → slept_for slept2 (tid j) ≡ slept_for slept (tid j))
      → ((j : ℕ) → j ≢ t.0 → slept_for waits2 (tid j) ≡ slept_for waits (tid j)) → slept_for slept2 t ≡ s → slept_for waits2 t ≡ w
      → cpu_local_of (own_at None hand2 ready2 ended None slept2 waits2 (slice_set call_states t.0 call_state)) (slice_set guests t.0 guest) trace ≡ parts None
      ready2 hand2 (slice_set (threads_at before guests) t.0 (thread_from call_state s w false (is_in t ended) guest)) trace
  thread_gone hand2 ready2 slept2 waits2 call_state guest trace s w slept_same waits_same is_s is_w =
      changed None hand2 ready2 None slept2 waits2 call_state guest trace s w false (λ j other. refl) slept_same waits_same is_s is_w refl
