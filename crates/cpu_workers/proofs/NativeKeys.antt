-- Natives at one table of words: what each leaves there, and that the table may be closed.
use Rattle.std.proofs.{lemmas.{Option.slice_get_within, List.length-map}, Common.{◌≡◌, ℕ, List, length, map, Some, slice_get, ◌∙◌}}
use Rattle.cpu_workers.{proofs.{TableKeys.{Back, as_many}, SeatViews.{SameActs, left_at}}, specs.{Callers.CallerView, Closing.{Key, tower_rules}}}
use Rattle.{cpu_workers.specs.{Natives.{HasLeftCalls, HaveLeftKeys}, Seating.{AnyBlock, Edit, tower_acts}}, event_log.specs.{Actions.Action, History.IsLawful}}
use Rattle.{layer_traits.specs.{Protocols.{OneLock.opened, WordsProtocol.MayCome}, Threads.OnePlace.cpu_at}, table_machine.specs.SeatViews.TableView}
use Rattle.{table_machine.specs.SeatViews.{new_seat_views, site_of}, cpu.proofs.ListFacts.ListReads.{shows_at, there_is}}

module _ {N X : Type 0} (Kept : N → N → CallerView → Type 0) (caps : List ℕ) (table_view : TableView AnyBlock) (natives : List N) (left : List X)
    (machine : X → Key) (native_of : X → N) (acts : Key → List (Action Edit)) (same : SameActs acts) where
  -- the natives at the seats of a new table have left this
  pub have_left : (seats : List Key) → seats ≡ new_seat_views table_view (length natives) → length left ≡ length seats
      → ((k : ℕ) (x : X) (m : Key) → slice_get left k ≡ Some x → slice_get seats k ≡ Some m → site_of (machine x).table ≡ site_of m.table)
      → ((k : ℕ) (x : X) → slice_get left k ≡ Some x
      → (cpu_at k ≡ (machine x).cpu) × IsLawful (MayCome (tower_rules.allowed (opened (machine x).start))) (machine x).history)
      → ((k : ℕ) (x : X) (n : N) → slice_get left k ≡ Some x → slice_get natives k ≡ Some n
      → HasLeftCalls Kept caps (cpu_at k) n (native_of x) (tower_acts (acts (machine x))))
      → HaveLeftKeys Kept caps table_view natives (map native_of left) (map machine left)
  have_left seats new count machine_id owns has =
      let many : length left ≡ length natives = count ∙ as_many table_view (length natives) new in
      record {
        count = length-map left native_of ∙ many;
        keys_count = length-map left machine ∙ many;
        each = λ k native at.
            let one = left_at table_view left machine acts same (length natives) seats new count machine_id owns k (slice_get_within natives k native at) in
            let x = one.0 in
            let gone = rw one.3 at (has k x native one.1 at) in (
              native_of x,
              machine x,
              shows_at native_of left k x one.1,
              shows_at machine left k x one.1,
              record { cpu_is = one.2; over = one.4 gone.rests; calls = gone },
            );
      }

-- Therefore their keys are those of all CPUs, and over.
pub natives_back : {N : Type 0} {Kept : N → N → CallerView → Type 0} {caps : List ℕ} {table_view : TableView AnyBlock} {natives after : List N}
    {keys : List Key} → HaveLeftKeys Kept caps table_view natives after keys → Back table_view (length natives) keys
natives_back {natives = natives} have = record {
  count = have.keys_count;
  each = λ k below.
      let native = there_is natives k below in
      let one = have.each k native.0 native.1 in (one.1, one.3, one.4.cpu_is, one.4.over);
}
