-- How a table is laid out, and its keys dealt.
use Rattle.std.proofs.Common.{◌≡◌, ◌≢◌, ℕ, suc, ◌+◌, ◌-◌, ◌<◌, ◌≤◌, if◌then◌else◌, List, [], ◌∷◌, ◌++◌, length, get_or, set, drop, map, ◌^◌, ◌*◌, replicate}
use Rattle.std.proofs.{Common.{zero-add, IsSome, ap, sym, ◌∙◌, arith, get_or-set_other, drop-cons}, lemmas.Grind.get_or-set_at}
use Rattle.std.proofs.lemmas.List.{replicate-append-replicate}
use Rattle.{atomic_table.specs.{Seated.TableId, Table.{Me, Splits}}, event_log.specs.{Locks.lock_number, declared.ids.TheConstants.{LOCKS, CPUS}}}
use Rattle.{event_log.{specs.declared.ids.LockId.LockId, proofs.Same.{lock_number_same, same_lock_true}}, layer_traits.specs.Protocols.Protocol.Rules}
use Rattle.{layer_traits.specs.Protocols.OneLock.opened, table_machine.specs.{declared.views.{Home.Home, View.View}, Kinds.WordKind, Layout.rank_of}}
use Rattle.table_machine.specs.{Layout.{word_count, AreRanks, IsLaidOut}, Views.{caught_up, mine, owner, cpus_from}, Rule.{TableInv, fresh_home}}
use Rattle.table_machine.{specs.SeatViews.TableView, proofs.{Dealing.deals_split, Asking.table_view_of, Meeting.has_words}}
use lib.ListN.{length-map}

-- the words of one lock more, all 0
pub zeros_more : (n : ℕ) (words more : List ℕ) → words ≡ replicate (word_count n) 0 → more ≡ words ++ replicate (8 * (CPUS + 1)) 0
    → more ≡ replicate (word_count (n + 1)) 0
zeros_more n words more was is =
    let count : word_count n + 8 * (CPUS + 1) ≡ word_count (n + 1) = omega arith in
    rw (is, was, replicate-append-replicate, count)

-- the row gives the ranks of the locks from this rank upwards
abbrev pub AreRanksFrom : {B : Type 0} → List ℕ → List (LockId × B) → ℕ → Type 0
AreRanksFrom row blocks from = (lock : LockId) → IsSome (opened (drop from blocks) lock)
    → get_or row (lock_number lock) 0 ≡ from + rank_of (drop from blocks) lock

ranks_one : {B : Type 0} (row : List ℕ) (o : LockId × B) (rest : List (LockId × B)) (i : ℕ) → lock_number o.0 < length row
    → ((lock : LockId) → IsSome (opened rest lock) → get_or row (lock_number lock) 0 ≡ suc i + rank_of rest lock)
    → (lock : LockId) → IsSome (opened (o ∷ rest) lock) → get_or (set row (lock_number o.0) i) (lock_number lock) 0 ≡ i + rank_of (o ∷ rest) lock
ranks_one row o rest i within ranks_hold lock exists = grind (arith, same_lock_true, lock_number_same, get_or-set_at, get_or-set_other, ranks_hold)

-- one rank more, downwards
pub ranks_more : {B : Type 0} (row : List ℕ) (blocks : List (LockId × B)) (o : LockId × B) (rank : ℕ) → 0 < rank → rank - 1 < length blocks
    → o ≡ get_or blocks (rank - 1) o → lock_number o.0 < length row
    → AreRanksFrom row blocks rank → AreRanksFrom (set row (lock_number o.0) (rank - 1)) blocks (rank - 1)
ranks_more {B} row blocks o rank some below is within ranks_hold =
    let i : ℕ = rank - 1 in
    let up : rank ≡ suc i = omega arith in
    let cut : drop i blocks ≡ o ∷ drop (suc i) blocks = drop-cons blocks i o below ∙ ap (λ (x : LockId × B). x ∷ drop (suc i) blocks) (sym is) in
    let old : AreRanksFrom row blocks (suc i) = rw up at ranks_hold in
    rw cut (ranks_one row o (drop (suc i) blocks) i within old)

one_less : (n k : ℕ) → k < n → n - k ≡ suc (n - (k + 1))
one_less n k below = omega arith

module _ (K : WordKind) {E B O : Type 0} (R : Rules E B O) where
  pub deal_asks : (table z : TableId) (start : List (LockId × B)) (n id : ℕ) (ranks : List ℕ) (locks : List LockId) (me : Me (Home E B) (View E B)) (cpu : ℕ)
      (b : TableView B) → IsLaidOut start z.words z.slots ranks locks → table_view_of z start n ≡ b
      → cpu < b.cpus → table ≡ b.table → me ≡ (caught_up b.start (cpus_from cpu (b.cpus - cpu)) [], [])
      → (table ≡ z) × (0 < z.words) × Splits (TableInv K R n start) id me.0 (caught_up me.0.start (drop 1 me.0.cpus) me.0.history)
      (mine me.0.start (owner me.0.cpus) me.0.history)
  deal_asks table z start n id ranks locks me cpu b laid b_is below table_is me_is =
      let small : cpu < n = rw (← b_is) at below in
      let me_at : me ≡ (caught_up start (cpus_from cpu (suc (n - (cpu + 1)))) [], []) = rw (← b_is, one_less n cpu small) at me_is in
      (rw (← b_is) at table_is, has_words start z.words z.slots ranks locks laid, rw me_at (deals_split K R n start id cpu (n - (cpu + 1))))

  pub deal_leaves : (me w : Me (Home E B) (View E B)) (cpu : ℕ) (b : TableView B) → cpu < b.cpus
      → me ≡ (caught_up b.start (cpus_from cpu (b.cpus - cpu)) [], [])
      → w ≡ (caught_up me.0.start (drop 1 me.0.cpus) me.0.history, me.1) → w ≡ (caught_up b.start (cpus_from (cpu + 1) (b.cpus - (cpu + 1))) [], [])
  deal_leaves me w cpu b below me_is w_is = rw (me_is, one_less b.cpus cpu below) at w_is

-- the whole row
pub ranks_all : {B : Type 0} (row : List ℕ) (blocks : List (LockId × B)) (rank : ℕ) → rank ≤ 0 → AreRanksFrom row blocks rank → AreRanks row blocks
ranks_all row blocks rank done ranks_hold lock exists =
    let at_start : rank ≡ 0 = omega arith in
    let old : AreRanksFrom row blocks 0 = rw at_start at ranks_hold in old lock exists ∙ zero-add (rank_of blocks lock)

module _ {E B : Type 0} where
  pub laid_fits : (start blocks : List (LockId × B)) (words slots : ℕ) (row ranks : List ℕ) (locks : List LockId) (homes : List (Home E B)) → start ≡ blocks
      → words ≡ length row → length row ≡ word_count (length blocks) → slots ≡ length homes → homes ≡ map (λ (o : LockId × B). fresh_home o.1) blocks
      → word_count (length blocks) < 2 ^ 64 → length ranks ≡ LOCKS → AreRanks ranks blocks → locks ≡ map (λ (o : LockId × B). o.0) blocks
      → IsLaidOut start words slots ranks locks
  laid_fits start blocks words slots row ranks locks homes same words_is row_is slots_is homes_are small ranks_are ranks_hold locks_are =
      rw same (record {
        words_are = words_is ∙ row_is;
        slots_are = slots_is ∙ (ap length homes_are ∙ length-map blocks (λ (o : LockId × B). fresh_home {E = E} o.1));
        small = small;
        row = ranks_are;
        ranks_hold = ranks_hold;
        locks_are = locks_are;
      })
