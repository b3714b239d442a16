-- The keys of a new table of words, and what belongs to each.
use Rattle.std.proofs.Common.{◌≡◌, ℕ, zero, suc, ◌<◌, ◌≤◌, All, List, length, Some, slice_get, refl, ap, sym, ◌∙◌, subst, arith}
use Rattle.std.proofs.lemmas.Option.{get_or_from_slice_get}
use Rattle.table_machine.{specs.SeatViews.{TableView, SeatView, IsOf, new_seat_view, new_seat_views, Covers, IsOver, site_of}, proofs.Fresh.length_new}
use Rattle.{cpu.proofs.{WholeSystems.InvariantAtBoot.at_end, ListFacts.ListReads.there_is}, cpu_workers.specs.{Counts.IsFresh, Reports.Both}}
use Rattle.{cpu_workers.proofs.Joining.{all_by_number, both_back, both_length}, atomic_table.specs.Seated.TableId, layer_traits.specs.Threads.OnePlace.cpu_at}

pub seat_views_at : {E B : Type 0} (table_view : TableView B) (n k : ℕ) (d : SeatView E B) → slice_get (new_seat_views table_view n) k ≡ Some d → d
    ≡ new_seat_view table_view k
seat_views_at table_view zero k d at = absurd (cc at)
seat_views_at {E} table_view (suc n) k d at =
    at_end (λ j (e : SeatView _ _). e ≡ new_seat_view table_view j) (new_seat_views table_view n) (new_seat_view table_view n) (seat_views_at table_view n)
    (ap (λ j. new_seat_view table_view j) (sym (length_new E table_view n))) k d at

-- what holds of each of them holds of all
all_new : {E B : Type 0} (table_view : TableView B) (P : SeatView E B → Type 0) → ((k : ℕ) → P (new_seat_view table_view k)) → (n : ℕ)
    → All P (new_seat_views table_view n)
all_new table_view P each n =
    all_by_number P (new_seat_views table_view n) (λ k d at. subst (λ (x : SeatView _ _). P x) (sym (seat_views_at table_view n k d at)) (each k))

pub seat_views_are_of : {E B : Type 0} (table_view : TableView B) (n : ℕ) → All (IsOf {E = E} table_view) (new_seat_views table_view n)
seat_views_are_of table_view = all_new table_view (λ d. IsOf table_view d) (λ k. (refl, refl))

pub new_fresh : {E B : Type 0} (table_view : TableView B) (n : ℕ) → All (IsFresh {E = E} table_view) (new_seat_views table_view n)
new_fresh table_view = all_new table_view (λ d. IsFresh table_view d) (λ k. refl)

-- what belongs to each of them, in a list that was made of them
pub came_at : {E B : Type 0} (table_view : TableView B) (Coupled : SeatView E B → SeatView E B → Type 0) (n : ℕ) (came : List (SeatView E B))
    → Both Coupled (new_seat_views table_view n) came → (k : ℕ) → k < n
    → (e : SeatView E B) × (slice_get came k ≡ Some e) × Coupled (new_seat_view table_view k) e
came_at {E = E} table_view Coupled n came all k below =
    let long : length came ≡ n = both_length Coupled (new_seat_views table_view n) came all ∙ length_new E table_view n in
    let there = there_is came k (subst (λ m. k < m) (sym long) below) in
    let of = both_back Coupled (new_seat_views table_view n) came all k there.0 there.1 in
    (there.0, there.1, subst (λ (d : SeatView E _). Coupled d there.0) (seat_views_at table_view n k of.0 of.1) of.2)

-- The keys that were returned from such a table are those of all CPUs, and over: therefore the
-- table may be closed with them.
pub record Back {E B : Type 0} (table_view : TableView B) (n : ℕ) (keys : List (SeatView E B)) : Type 0 where
  pub count : length keys ≡ n
  pub each : (k : ℕ) → k < n → (key : SeatView E B) × (slice_get keys k ≡ Some key) × (key.cpu ≡ cpu_at k) × IsOver table_view key

module _ {E B : Type 0} {table_view : TableView B} {n : ℕ} {keys : List (SeatView E B)} (back : Back table_view n keys) where
  pub all_covered : table_view.cpus ≡ n → Covers table_view.cpus keys
  all_covered same c below = let one = back.each c.0 (subst (λ m. c.0 < m) same below) in (c.0, one.0, one.1, one.2)

  pub all_over : All (IsOver table_view) keys
  all_over k d below =
      let one = back.each k (subst (λ m. k < m) back.count below) in
      subst (λ (x : SeatView E B). IsOver table_view x) (sym (get_or_from_slice_get keys k one.0 d one.1)) one.3

module _ {E B : Type 0} (table_view : TableView B) (n : ℕ) {seats : List (SeatView E B)} (new : seats ≡ new_seat_views table_view n) where
  -- they are as many as the CPUs
  pub as_many : length seats ≡ n
  as_many = ap (λ (l : List (SeatView E B)). length l) new ∙ length_new E table_view n

  -- and so is what was left at each
  pub left_fit : {left count : ℕ} → left ≡ length seats → count ≡ n → (most : ℕ) → count ≤ most → left ≤ most
  left_fit same counted most room = let many = as_many in omega (arith, same, counted, room, many)

-- a table's names determine the table
pub one_site : (t u : TableId) → site_of t ≡ site_of u → t ≡ u
one_site t u same =
    let words : t.words ≡ u.words = cc same in
    let slots : t.slots ≡ u.slots = cc same in
    let views : t.views_name ≡ u.views_name = cc same in
    let atom : t.atom ≡ u.atom = cc same in
    let block : t.block ≡ u.block = cc same in
    let offset : t.offset ≡ u.offset = cc same in
    let names : t.slot_names ≡ u.slot_names = cc same in
    λ i. record { words = words i; slots = slots i; views_name = views i; atom = atom i; block = block i; offset = offset i; slot_names = names i }
