-- A CPU and a system before their first step are as they are always to be.
use Rattle.std.proofs.Common.{◌≡◌, ◌⊎◌, inl, inr, ℕ, zero, suc, ◌+◌, ◌^◌, ◌<◌, ◌≤◌, false, List, [], ◌∷◌, ◌++◌, length, map, cond, drop, replicate}
use Rattle.std.proofs.{Common.{vec_capacity, Option, Some, None, refl, ap, sym, ◌∙◌, subst, arith}, lemmas.{Bool.cases_lt, List.get_or-replicate}}
use Rattle.std.proofs.lemmas.{List.{get_or_past, length-replicate, Sums.sum_by-cons}, Option.{get_or_from_slice_get, slice_get_within}}
use Rattle.std.specs.Prelude.{slice_get, slice_index_or}
use Rattle.layer_traits.specs.{Blocks.{Capacities.caps_in, QueueBlocks.homes_in}, Views.{OwnParts.threads_in, Openings.AreOpenable}}
use Rattle.layer_traits.specs.{declared.call_layers.CallLayer.Ghosts, Layers.BufferLaw.{no_call, call_state_of}, Threads.{OnePlace.cpu_at, Places.at_boot}}
use Rattle.event_log.specs.{declared.{entries.Entry.Entry, ids.{CpuId.CpuId, Tid.Tid, TheConstants.{CPUS, THREADS}}}, Actions.Action}
use Rattle.{guest.specs.Calls.made_none, cpu.specs.{declared.{cpus.Cpu.Cpu, guests.Guest.Guest}, Guests.{HasCome, is_begun}, Boots.{AreGuests, IsBootedAs}}}
use Rattle.cpu.specs.{Cpus.{IsCpu, begun_count, guest_at, is_begun_guest}, Systems.{IsAt, IsSystem}}

-- a thread that never called
no_call_at : (t : Tid) → call_state_of (replicate THREADS no_call) t ≡ no_call
no_call_at t = go (cases_lt t.0 THREADS)
  where
    go : (t.0 < THREADS) ⊎ (THREADS ≤ t.0) → call_state_of (replicate THREADS no_call) t ≡ no_call
    go (inl within) = get_or-replicate THREADS t.0 no_call no_call within
    go (inr past) = get_or_past (replicate THREADS no_call) t.0 no_call (let long = length-replicate THREADS no_call in omega (arith, long, past))

-- guests that are all new have begun no call
none_begun : (guests : List (Option Guest)) → ((k : ℕ) (g : Guest) → guest_at guests k ≡ Some g → is_begun g.stage ≡ false) → begun_count guests ≡ 0
none_begun [] none = refl
none_begun (x ∷ guests) none =
    let first = sum_by-cons (λ (g : Option Guest). cond (is_begun_guest g) 1 0) x guests in
    let others : begun_count guests ≡ 0 = none_begun guests (λ k g at. none (suc k) g at) in
    let one : cond {A = ℕ} (is_begun_guest x) 1 0 ≡ 0 = rw (go x refl) refl in
    omega (arith, first, others, one)
  where
    go : (o : Option Guest) → x ≡ o → is_begun_guest o ≡ false
    go None at = refl
    go (Some g) at = none 0 g at

-- a CPU before its first step
pub cpu_boots : (homes : List CpuId) (buffers : ℕ) (number : CpuId) (guests : List (Option Guest)) (limit capacity : ℕ) → AreGuests homes buffers number guests
    → length homes ≤ THREADS → limit ≤ capacity → IsCpu homes buffers [] (at_boot homes number) (replicate THREADS no_call) None number guests [] limit capacity
cpu_boots homes buffers number guests limit capacity are few reserved = record {
  kept = refl;
  stays = tt;
  follow = λ t g at. rw (no_call_at t) (subst (λ (x : Guest). HasCome x [] no_call) (sym (are.fresh t g at)) ((λ none. refl), (refl, made_none)));
  over = λ t ended g at. absurd (cc ended);
  homed = are.homed;
  named = are.named;
  few = let size = are.size in omega (arith, size, few);
  agrees = λ d at. absurd (cc at);
  calls = λ t g at there. absurd (cc at);
  handed = λ t at none. refl;
  room = let none = none_begun guests (λ k g at. ap (λ (x : Guest). is_begun x.stage) (are.fresh (record { 0 = k }) g at)) in omega (arith, none);
  reserved = reserved;
}

-- a CPU that was made so, in a machine that is fresh
pub boots_as : {P L M : Type 0} (I : Ghosts P L M) (m : M) (p : Cpu P M) (homes : List CpuId) (buffers k : ℕ) (guests : List (Option Guest)) (most : ℕ)
    → IsBootedAs (λ q n. I.Coupled q n) (λ n d. I.IsFresh n homes d) (λ n. length (caps_in (I.opening n))) buffers homes k guests most p.part (I.cpu_of p.part)
    (I.local p.part) (I.under_way p.part) p.number p.guests.items p.trace.items p.limit (vec_capacity p.trace) → I.IsFresh m homes (cpu_at k)
    → length (caps_in (I.opening m)) ≡ buffers → homes_in (I.opening m) ≡ homes → I.history m ≡ [] → AreGuests homes buffers (cpu_at k) guests → length homes
    ≤ THREADS → I.Coupled p.part m × (I.cpu_of p.part ≡ p.number) × IsCpu (homes_in (I.opening m)) (length (caps_in (I.opening m))) (I.history m)
    (threads_in (I.local p.part)) (I.local p.part).call_states (I.under_way p.part) p.number p.guests.items p.trace.items p.limit (vec_capacity p.trace)
boots_as I m p homes buffers k guests most is fresh counted same none are few = (
  is.coupled m fresh counted,
  is.cpu_is ∙ sym is.booted.number_is,
  subst (λ z. z) (λ i. IsCpu (sym same i) (sym counted i) (sym none i) (threads_in (sym is.own_is i)) (sym is.own_is i).call_states (sym is.nothing_done i)
      (sym is.booted.number_is i) (sym is.booted.guests_are i) (sym is.booted.nothing i) (sym is.booted.limit_is i) (vec_capacity p.trace))
      (cpu_boots homes buffers (cpu_at k) guests most (vec_capacity p.trace) are few is.booted.reserved),
)

-- a system before its first step
pub opens : {X N : Type 0} (IsOne : X → Type 0) (number : X → CpuId) (ActsFor MayHold : CpuId → Type 0) (IsStepwise : Type 0) (acts : List (Action N))
    (cpus : List X) (homes homes2 : List CpuId) (history : List Entry) (caps : List ℕ) (room left n : ℕ) (Sound : Type 0) → Sound → AreOpenable n caps homes
    → length cpus ≡ n → ((k : ℕ) (x : X) → slice_get cpus k ≡ Some x → IsAt IsOne number k x) → ((c : CpuId) → c.0 < CPUS → ActsFor c)
    → ((c : CpuId) → MayHold c → ⊥) → acts ≡ [] → homes2 ≡ homes → history ≡ [] → room < 2 ^ 64 → room ≤ left
    → IsSystem IsOne number ActsFor MayHold IsStepwise acts cpus homes2 history room 0 left Sound
opens IsOne number ActsFor MayHold IsStepwise acts cpus homes homes2 history caps room left n Sound sound openable count each acts_for nobody nothing same
    none =
    grind (arith, slice_get_within, get_or_from_slice_get)

-- the same system, of which the table says something that follows
pub system_sounds : {X N : Type 0} (IsOne : X → Type 0) (number : X → CpuId) (ActsFor MayHold : CpuId → Type 0) (IsStepwise : Type 0) (acts : List (Action N))
    (cpus : List X) (homes : List CpuId) (history : List Entry) (room taken left : ℕ) (Sound Sound2 : Type 0) → (Sound → Sound2)
    → IsSystem IsOne number ActsFor MayHold IsStepwise acts cpus homes history room taken left Sound
    → IsSystem IsOne number ActsFor MayHold IsStepwise acts cpus homes history room taken left Sound2
system_sounds IsOne number ActsFor MayHold IsStepwise acts cpus homes history room taken left Sound Sound2 goes is = grind arith

-- the elements after the first n, and the one before them
drop_next : {X : Type 0} (xs : List X) (n : ℕ) → n < length xs → drop 1 (drop n xs) ≡ drop (suc n) xs
drop_next (x ∷ xs) (suc n) within = drop_next xs n (omega arith)
drop_next xs n within = grind arith

pub drop_more : {X : Type 0} (xs : List X) (n : ℕ) → n < length xs → drop 1 (drop n xs) ≡ drop (n + 1) xs
drop_more xs n within = let same : suc n ≡ n + 1 = omega arith in drop_next xs n within ∙ ap (λ (k : ℕ). drop k xs) same

pub drop_first : {X Y : Type 0} (f : X → Y) (xs : List X) (n : ℕ) (d : X) (e : Y) → n < length xs
    → f (slice_index_or (drop n xs) 0 d) ≡ slice_index_or (map f xs) n e
drop_first f (x ∷ xs) (suc n) d e within = drop_first f xs n d e (omega arith)
drop_first f xs n d e within = grind arith

-- an element of a list that grew by one was there before, or is the last
pub at_end : {X : Type 0} (P : ℕ → X → Type 0) (xs : List X) (y : X) → ((k : ℕ) (x : X) → slice_get xs k ≡ Some x → P k x) → P (length xs) y
    → (k : ℕ) (x : X) → slice_get (xs ++ y ∷ []) k ≡ Some x → P k x
at_end P [] y before here zero x at = let same : y ≡ x = cc in subst (λ z. P 0 z) same here
at_end P [] y before here (suc k) x at = absurd cc
at_end P (z ∷ xs) y before here zero x at = before 0 x at
at_end P (z ∷ xs) y before here (suc k) x at = at_end (λ j w. P (suc j) w) xs y (λ j w there. before (suc j) w there) here k x at

-- if each element shows the item at its number, the list shows that list
pub shows_all : {X Z : Type 0} (f : X → Z) (xs : List X) (zs : List Z) (d : Z) → length xs ≡ length zs
    → ((k : ℕ) (x : X) → slice_get xs k ≡ Some x → f x ≡ slice_index_or zs k d) → map f xs ≡ zs
shows_all f [] [] d count each = refl
shows_all f (x ∷ xs) (z ∷ zs) d count each =
    ap (λ y. y ∷ map f xs) (each 0 x refl) ∙ ap (λ ys. z ∷ ys) (shows_all f xs zs d (omega (arith, count)) (λ k y at. each (suc k) y at))
shows_all f xs zs d count each = absurd (omega (arith, count))

-- a list that shows one value shows it at each number
pub all_one : {X Z : Type 0} (z : Z) (xs : List X) (k : ℕ) → slice_index_or (map (λ x. z) xs) k z ≡ z
all_one z (x ∷ xs) (suc k) = all_one z xs k
all_one z xs k = refl

-- the table in front of those that are left
pub first_left : {X Y : Type 0} (f : X → Y) (left xs : List X) (n : ℕ) (r : X) (e : Y) → left ≡ drop n xs → n < length xs → r ≡ slice_index_or left 0 r
    → f r ≡ slice_index_or (map f xs) n e
first_left f left xs n r e is within reads = ap f reads ∙ ap (λ l. f (slice_index_or l 0 r)) is ∙ drop_first f xs n r e within
