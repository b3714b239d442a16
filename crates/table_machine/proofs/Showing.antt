-- How the words and the slots change with a step.
use Rattle.std.proofs.Common.{length-set, ◌≡◌, ◌≢◌, ℕ, ◌<◌, ◌≤◌, Bool, true, false, List, [], ◌∷◌, length, set, map, Option, Some, None, IsSome, refl, ap, ◌∙◌}
use Rattle.std.proofs.Common.{arith, get_or-set_same, get_or-set_other}
use Rattle.event_log.specs.{declared.{ids.{LockId.LockId, TheConstants.CPUS}, events.Event.Event}, History.same_lock, WordsLog.{MayFollow, draws, frees}}
use Rattle.{event_log.proofs.Same.{same_lock_true, same_lock_self}, layer_traits.specs.{declared.edits.Mark.Mark, Protocols.OneLock.opened}}
use Rattle.{layer_traits.proofs.OneLockLemmas.{counts_elsewhere, event_lock, home_elsewhere, home_at_start}, table_machine.specs.declared.views.Home.Home}
use Rattle.table_machine.specs.{Kinds.{WordKind, IsWordKind}, Layout.{AreFirst, rank_of, word_at, words_at_rank, word_count}, Rule.{home_block, fresh_home}}
use Rattle.table_machine.{specs.Rule.{ShowsLock, Shows}, proofs.Finding.{rank_same, rank_below, opened_there}}
use mathlib.Core.Option.{Option as Maybe, none, some}
use lib.ListN.{get_elem?, length-map}

-- words of two locks, and two words of one lock, are at different positions
pub locks_apart : (j k a b : ℕ) → j ≢ k → a ≤ CPUS → b ≤ CPUS → word_at j a ≢ word_at k b
locks_apart j k a b other within within' same = other (omega arith)

pub words_apart : (k a b : ℕ) → a ≢ b → word_at k a ≢ word_at k b
words_apart k a b other same = other (omega arith)

-- two locks whose `next` is at one position have one rank
pub next_reads : (j k : ℕ) → word_at j 0 ≡ word_at k 0 → j ≡ k
next_reads j k same = omega arith

-- a word within the table
pub lies_within : (k n word : ℕ) → k < n → word ≤ CPUS → word_at k word < word_count n
lies_within k n word below within = omega arith

-- what a write to one word of a lock leaves of all its words
pub word_written : (words : List ℕ) (k word x : ℕ) → word ≤ CPUS → word_at k word < length words
    → (words_at_rank (set words (word_at k word) x) k word ≡ x)
    × ((i : ℕ) → i ≤ CPUS → i ≢ word → words_at_rank (set words (word_at k word) x) k i ≡ words_at_rank words k i)
word_written words k word x within lies = (
  get_or-set_same words (word_at k word) x 0 lies,
  λ i small other. get_or-set_other words (word_at k word) (word_at k i) x 0 (words_apart k i word other),
)

pub some_of : {B : Type 0} (o : Option B) → IsSome o → (b : B) × (o ≡ Some b)
some_of None there = absurd cc
some_of (Some b) there = (b, refl)

module _ {E B : Type 0} where
  -- a home with a block is a slot that lies there
  pub home_of : (home : Maybe (Home E B)) → IsSome (home_block home) → (y : Home E B) × (b : B) × (home ≡ some y) × (y.block ≡ Some b)
  home_of none there = absurd cc
  home_of (some y) there = let found = some_of y.block there in (y, found.0, refl, found.1)

map_both : {E B : Type 0} (start : List (LockId × B)) → map some (map (λ (o : LockId × B). fresh_home {E = E} o.1) start)
    ≡ map (λ (o : LockId × B). some (fresh_home {E = E} o.1)) start
map_both [] = refl
map_both {E = E} (o ∷ rest) = ap (λ l. some (fresh_home {E = E} o.1) ∷ l) (map_both {E = E} rest)

module _ (K : WordKind) (law : IsWordKind K) {E B : Type 0} (edited : E → B → B) (start : List (LockId × B)) where
  -- a word of a lock is within the table
  pub within_table : (lock : LockId) (word : ℕ) → IsSome (opened start lock) → word ≤ CPUS → word_at (rank_of start lock) word < word_count (length start)
  within_table lock word there within = lies_within (rank_of start lock) (length start) word (rank_below start lock there) within

  -- an event at one lock, with a write to one of its words: the words and slots of all other locks
  -- stay
  pub shows_step : (words : List ℕ) (homes : List (Maybe (Home E B))) (log : List (Event (Mark E))) → Shows K edited start words homes log
      → (e : Event (Mark E)) → MayFollow log e → (word x : ℕ) → word ≤ CPUS
      → (later : List (Maybe (Home E B))) → length later ≡ length start → ((j : ℕ) → j ≢ rank_of start (event_lock e) → get_elem? later j ≡ get_elem? homes j)
      → ShowsLock K edited start (set words (word_at (rank_of start (event_lock e)) word) x) later (e ∷ log) (event_lock e)
      → Shows K edited start (set words (word_at (rank_of start (event_lock e)) word) x) later (e ∷ log)
  shows_step words homes log shows e may word x within later count same here = record {
    word_length = length-set words (word_at (rank_of start (event_lock e)) word) x ∙ shows.word_length;
    home_length = count;
    each = λ lock exists. go lock exists (same_lock lock (event_lock e)) refl;
  }
    where
      go : (lock : LockId) → IsSome (opened start lock) → (b : Bool) → same_lock lock (event_lock e) ≡ b
          → ShowsLock K edited start (set words (word_at (rank_of start (event_lock e)) word) x) later (e ∷ log) lock
      go lock exists true one = rw (same_lock_true lock (event_lock e) one) here
      go lock exists false other =
          let old = shows.each lock exists in
          let k : ℕ = rank_of start lock in
          let away : k ≢ rank_of start (event_lock e) = λ e'. (
          let one : same_lock lock (event_lock e) ≡ true = rw (← (rank_same start lock (event_lock e) exists e')) (same_lock_self lock) in
          absurd (cc (other, one))) in
          record {
            home = old.home;
            at = same k away ∙ old.at;
            words_are = law.same (draws lock (e ∷ log)) (frees lock (e ∷ log)) (words_at_rank words k)
                (words_at_rank (set words (word_at (rank_of start (event_lock e)) word) x) k) (λ i small. get_or-set_other words
                (word_at (rank_of start (event_lock e)) word) (word_at k i) x 0 (locks_apart k (rank_of start (event_lock e)) i word away small within))
                (counts_elsewhere (λ taken given. K.Coupling taken given (words_at_rank words k)) e log lock other old.words_are);
            is = home_elsewhere edited (opened start) lock e log may other (home_block old.home) old.is;
          }

  -- before the first event the words are as at the start, and each slot has the opening block
  pub shows_opening : (words : List ℕ) (homes : List (Home E B)) → AreFirst K.opens (length start) (length start) words
      → homes ≡ map (λ (o : LockId × B). fresh_home o.1) start → Shows K edited start words (map some homes) []
  shows_opening words homes first are = record {
    word_length = first.count;
    home_length = length-map homes some ∙ (ap length are ∙ length-map start (λ (o : LockId × B). fresh_home {E = E} o.1));
    each = λ lock exists.
        let found = opened_there (λ (b : B). some (fresh_home {E = E} b)) start lock exists in
        let k : ℕ = rank_of start lock in
        record {
          home = some (fresh_home found.0);
          at = ap (λ l. get_elem? l k) (ap (λ l. map some l) are ∙ map_both start) ∙ found.2;
          words_are = law.begins (words_at_rank words k) (λ i within. first.done_so k i (rank_below start lock exists) within);
          is = home_at_start edited (opened start) lock found.0 found.1;
        };
  }
