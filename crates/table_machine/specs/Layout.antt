-- The positions of a lock's words and slot in the table. Word 0 is never written. The words of a
-- lock are 8 words, 64 bytes, from each other and from those of every other lock. A CPU that polls
-- one reads a cache line that contains no other of them. Each lock has room for `next` and a word
-- for each CPU, whatever its kind uses.
use Rattle.std.specs.Prelude.{◌≡◌, ℕ, suc, ◌+◌, ◌*◌, ◌^◌, ◌<◌, ◌≤◌, if◌then◌else◌, List, [], ◌∷◌}
use Rattle.std.specs.Prelude.{length, map, slice_index, IsSome}
use Rattle.event_log.specs.declared.ids.{LockId.LockId, TheConstants.{CPUS, LOCKS}}
use Rattle.event_log.specs.{History.same_lock, Locks.lock_number}
use Rattle.{layer_traits.specs.Protocols.OneLock.opened, table_machine.specs.Kinds.first_words}

-- the rank of a lock: how many locks precede it at the opening; the number of all locks, if it is
-- missing
abbrev pub rank_of : {B : Type 0} → List (LockId × B) → LockId → ℕ
rank_of [] lock = 0
rank_of (o ∷ rest) lock = if same_lock o.0 lock then 0 else suc (rank_of rest lock)

-- the positions of the words of the lock at this rank, by number: `next` is word 0
abbrev pub word_at : ℕ → ℕ → ℕ
word_at rank word = 8 * ((CPUS + 1) * rank + word) + 8

-- the words of the lock at this rank
abbrev pub words_at_rank : List ℕ → ℕ → ℕ → ℕ
words_at_rank words rank word = slice_index words (word_at rank word)

-- how many words so many locks have
abbrev pub word_count : ℕ → ℕ
word_count locks = 8 * ((CPUS + 1) * locks) + 1

-- of so many locks, the words of those below `done` are as at the start, and all words of the
-- others are 0
pub record AreFirst (opens locks done : ℕ) (words : List ℕ) : Type 0 where
  pub count : length words ≡ word_count locks
  pub done_so : (rank word : ℕ) → rank < done → word ≤ CPUS
      → words_at_rank words rank word ≡ first_words opens word
  pub zeros : (rank word : ℕ) → done ≤ rank → rank < locks → word ≤ CPUS
      → words_at_rank words rank word ≡ 0

-- the row gives the rank of each lock of the opening
abbrev pub AreRanks : {B : Type 0} → List ℕ → List (LockId × B) → Type 0
AreRanks ranks start =
    (lock : LockId) → IsSome (opened start lock)
    → slice_index ranks (lock_number lock) ≡ rank_of start lock

-- a table is laid out for these locks: their words, their slots, and the row of their ranks
pub record IsLaidOut {B : Type 0} (start : List (LockId × B)) (words slots : ℕ) (ranks : List ℕ)
    (locks : List LockId) : Type 0 where
  pub words_are : words ≡ word_count (length start)
  pub slots_are : slots ≡ length start
  pub small : word_count (length start) < 2 ^ 64
  pub row : length ranks ≡ LOCKS
  pub ranks_hold : AreRanks ranks start
  pub locks_are : locks ≡ map (λ (o : LockId × B). o.0) start
