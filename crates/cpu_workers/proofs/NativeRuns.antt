-- Natives whose threads at one table were joined have run.
use Rattle.std.proofs.Common.{◌≡◌, ℕ, zero, suc, ◌*◌, ◌^◌, ◌<◌, ◌≤◌, List, [], ◌∷◌, length, map, Some, slice_get, refl, ap, ◌∙◌, subst, arith}
use Rattle.std.proofs.lemmas.{List.length-map, Nat.mul-le}
use Rattle.cpu_workers.specs.{Natives.{HasRunNative, HaveLeftKeys, HaveRun, OpensWith, left_among, own_homes}, declared.workers.callers.TheConstants.MOST_CALLS}
use Rattle.cpu_workers.specs.{Callers.CallerView, Closing.{Key, StartsSo, acts_in, tower_rules}, Orders.IsTraceOf, Seating.AnyBlock}
use Rattle.{cpu_workers.proofs.TableOrder.{HasCome, traces_ordered}, event_log.specs.declared.{entries.Entry.Entry, ids.{CpuId.CpuId, LockId.LockId}}}
use Rattle.{event_log.{specs.declared.ids.TheConstants.{BUFFERS, CPUS}, proofs.Streams.taken_put}, layer_traits.specs.Protocols.OneLock.opened}
use Rattle.{layer_traits.specs.Threads.OnePlace.cpu_at, table_machine.specs.SeatViews.{ClosesTable, TableView}, cpu.specs.Table.Setups.SystemConfig}
use Rattle.cpu.proofs.ListFacts.ListReads.{shows_at, there_is}

-- One of each.

-- a list that has, for each element of another, one that belongs to it
record Chosen {A B : Type 0} (P : ℕ → A → B → Type 0) (xs : List A) : Type 0 where
  pub list : List B
  pub count : length list ≡ length xs
  pub each : (j : ℕ) (x : A) → slice_get xs j ≡ Some x → (y : B) × (slice_get list j ≡ Some y) × P j x y

chosen : {A B : Type 0} (P : ℕ → A → B → Type 0) (xs : List A) → ((j : ℕ) (x : A) → slice_get xs j ≡ Some x → (b : B) × P j x b) → Chosen P xs
chosen P [] some = record { list = []; count = refl; each = λ j x at. absurd (cc at) }
chosen P (z ∷ xs) some = joined (chosen (λ j. P (suc j)) xs (λ j x at. some (suc j) x at)) (some 0 z refl)
  where
    joined : Chosen (λ j. P (suc j)) xs → (b : _) × P 0 z b → Chosen P (z ∷ xs)
    joined rest one = record {
      list = one.0 ∷ rest.list;
      count = ap suc rest.count;
      each = λ j x at. by j x at;
    }
      where
        by : (j : ℕ) (x : _) → slice_get (z ∷ xs) j ≡ Some x → (y : _) × (slice_get (one.0 ∷ rest.list) j ≡ Some y) × P j x y
        by zero x at = (one.0, refl, let same : z ≡ x = cc at in subst (λ w. P 0 w one.0) same one.1)
        by (suc j) x at = rest.each j x at

-- The run.

module _ {N : Type 0} (Kept : N → N → CallerView → Type 0) (caps : List ℕ) (natives after : List N) (table_view : TableView AnyBlock) (keys : List Key)
    (blocks : List (LockId × AnyBlock)) (some : 0 < length natives) (few : length natives ≤ CPUS) (buffers : length caps ≤ BUFFERS)
    (cpus : table_view.cpus ≡ length natives) (opens : OpensWith (length natives) caps (own_homes (length natives)) (opened table_view.start))
    (have : HaveLeftKeys Kept caps table_view natives after keys) (closes : ClosesTable tower_rules table_view keys blocks) where
  -- the table's setup: as many CPUs as natives, and room for all their calls
  abbrev setup : SystemConfig
  setup = record { cpus = length natives; homes = own_homes (length natives); programs = []; caps = caps; trace_room = MOST_CALLS }

  small : length natives * MOST_CALLS < 2 ^ 64
  small = let most : length natives * MOST_CALLS ≤ 9223372036854775808 = mul-le (length natives) MOST_CALLS CPUS MOST_CALLS few (omega arith) in
      omega (arith, most)

  starts : StartsSo setup table_view
  starts = record {
    some = some;
    cpus = cpus;
    starts = opens.starts;
    homes = opens.homes_are;
    queues = opens.queues;
    locks = opens.locks;
    buffers = buffers;
    small = small;
  }

  -- what one native left, and its caller
  record Stands (k : ℕ) (native : N) (caller : CallerView) : Type 0 where
    pub last : N
    pub key : Key
    pub last_at : slice_get after k ≡ Some last
    pub key_at : slice_get keys k ≡ Some key
    pub cpu_is : key.cpu ≡ cpu_at k
    pub run : HasRunNative Kept caps k native last caller
    pub trace : IsTraceOf (cpu_at k) caps (acts_in key.history) caller.calls
    pub short : length caller.calls ≤ MOST_CALLS

  callers : Chosen Stands natives
  callers = chosen Stands natives (λ k native at. let one = have.each k native at in let calls = one.4.calls in (
    calls.caller,
    record {
      last = one.0;
      key = one.1;
      last_at = one.2;
      key_at = one.3;
      cpu_is = one.4.cpu_is;
      run = record { cpu_is = calls.cpu_is; thread_is = calls.thread_is; caps_are = calls.caps_are; kept = calls.kept };
      trace = calls.trace;
      short = calls.few;
    },
  ))

  abbrev calls : List (List Entry)
  calls = map (λ v. v.calls) callers.list

  come : (c : CpuId) → c.0 < length natives → HasCome setup keys calls c
  come c within =
      let native = there_is natives c.0 within in
      let one = callers.each c.0 native.0 native.1 in
      let stands = one.2 in
      record {
        key = stands.key;
        trace = one.0.calls;
        key_at = stands.key_at;
        cpu_is = stands.cpu_is;
        trace_at = shows_at (λ (v : CallerView). v.calls) callers.list c.0 one.0 one.1;
        local = stands.trace;
        room = stands.short;
      }

  pub have_run : HaveRun Kept caps natives after (left_among (length caps) blocks)
  have_run =
      let all = traces_ordered setup table_view starts keys blocks closes calls (length-map callers.list (λ v. v.calls) ∙ callers.count) come in
      record {
        callers = callers.list;
        nobody_else = callers.count;
        each = λ k native at. let one = callers.each k native at in let stands = one.2 in (stands.last, one.0, stands.last_at, one.1, stands.run);
        count = have.count;
        order = all.order;
        keeps = all.keeps;
        run = all.run;
        fifo = taken_put caps all.order (left_among (length caps) blocks) all.run;
        by_words = record { opening = opened table_view.start; opens = opens; words = closes.log; legal = closes.legal; order_is = all.is };
      }
