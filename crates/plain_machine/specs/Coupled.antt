-- The words of a lock after so many ticket indices were taken, and after so many releases.
use Rattle.std.specs.Prelude.{◌≡◌, ℕ, ◌%◌, ◌^◌, ◌<◌, length, slice_index}
use Rattle.event_log.specs.{declared.ids.TheConstants.CPUS, Grants.WordFits}
use Rattle.plain_machine.specs.declared.lock_queue_words.{LockWords.LockWords, Granting.Granting}

-- the words of a ticket lock hold the two counts modulo 2^64
abbrev pub TicketsFit : ℕ → ℕ → LockWords → Type 0
TicketsFit taken given w = (w.next ≡ taken % 2 ^ 64) × (w.serving ≡ given % 2 ^ 64)

-- `next` holds the first count modulo 2^64, and each grant word the last value stored there after
-- so many releases
abbrev pub GrantsFit : ℕ → ℕ → Granting → Type 0
GrantsFit taken given w =
    (w.lock.next ≡ taken % 2 ^ 64) × (w.served ≡ given % 2 ^ 64) × (length w.lock.words ≡ CPUS)
    × ((k : ℕ) → k < CPUS → WordFits k given (slice_index w.lock.words k))
