-- The words of a lock and their operations, as data: those of a ticket lock, and those of a lock
-- with a grant word for each waiter.
use Rattle.std.specs.Prelude.{◌≡◌, ◌≢◌, ℕ, ◌+◌, ◌%◌, ◌^◌, ◌<◌, ◌≤◌, ◌==◌, Bool, Option, Some, None}
use Rattle.std.specs.Prelude.{if◌then◌else◌}
use Rattle.event_log.specs.{declared.ids.TheConstants.CPUS, Grants.WordFits}

-- The words of a lock are numbered: word 0 is `next`, which issues tickets. The words represent two
-- exact counts.
pub record WordKind : Type 1 where
  -- what word 1 holds at the start; every other word holds 0
  pub opens : ℕ
  -- the word that a waiter with this ticket polls
  pub looks_at : ℕ → ℕ
  -- whether this ticket is served by the number read
  pub serves : ℕ → ℕ → Bool
  -- the word that a holder with this ticket writes to release the lock
  pub gives_at : ℕ → ℕ
  -- what it stores there; None if it adds 1
  pub stores : ℕ → Option ℕ
  -- after so many ticket indices taken and so many releases, the words are these
  pub Coupling : ℕ → ℕ → (ℕ → ℕ) → Type 0

-- the words at the start
abbrev pub first_words : ℕ → ℕ → ℕ
first_words opens word = if word == 1 then opens else 0

-- what a word holds after a release
abbrev pub given_on : Option ℕ → ℕ → ℕ
given_on None was = (was + 1) % 2 ^ 64
given_on (Some number) was = number

-- the words agree with the counts
pub record IsWordKind (kind : WordKind) : Type 0 where
  -- a waiter reads one of the words that a lock has
  pub looks_within : (ticket : ℕ) → kind.looks_at ticket ≤ CPUS
  -- a holder writes one of them
  pub gives_within : (ticket : ℕ) → kind.gives_at ticket ≤ CPUS
  -- the words at the start agree with no ticket index taken and no release
  pub begins : (w : ℕ → ℕ) → ((i : ℕ) → i ≤ CPUS → w i ≡ first_words kind.opens i)
      → kind.Coupling 0 0 w
  -- words that are equal agree with the same counts
  pub same : (taken given : ℕ) (w v : ℕ → ℕ) → ((i : ℕ) → i ≤ CPUS → v i ≡ w i)
      → kind.Coupling taken given w → kind.Coupling taken given v
  -- word 0 is the next ticket
  pub next_is : (taken given : ℕ) (w : ℕ → ℕ) → kind.Coupling taken given w → w 0 ≡ taken % 2 ^ 64
  -- after word 0, and no other, grew by 1, one ticket index more is taken
  pub took : (taken given : ℕ) (w v : ℕ → ℕ) → kind.Coupling taken given w
      → v 0 ≡ (w 0 + 1) % 2 ^ 64
      → ((i : ℕ) → i ≤ CPUS → i ≢ 0 → v i ≡ w i) → kind.Coupling (taken + 1) given v
  -- the word of a waiter fewer than CPUS ticket indices after the served one serves its ticket
  -- exactly if its ticket index is next
  pub hits : (taken given : ℕ) (w : ℕ → ℕ) → kind.Coupling taken given w → (ticket ticket_index : ℕ)
      → given ≤ ticket_index → ticket_index < given + CPUS → ticket ≡ ticket_index % 2 ^ 64
      → kind.serves ticket (w (kind.looks_at ticket)) ≡ (given == ticket_index)
  -- after only the holder's write, the lock is released once more
  pub gave : (taken given : ℕ) (w v : ℕ → ℕ) → kind.Coupling taken given w → (ticket : ℕ)
      → ticket ≡ given % 2 ^ 64
      → v (kind.gives_at ticket) ≡ given_on (kind.stores ticket) (w (kind.gives_at ticket))
      → ((i : ℕ) → i ≤ CPUS → i ≢ kind.gives_at ticket → v i ≡ w i)
      → kind.Coupling taken (given + 1) v

-- a ticket lock: word 1 is `serving`
abbrev pub ticket_words : WordKind
ticket_words = record {
  opens = 0;
  looks_at = λ ticket. 1;
  serves = λ ticket read. read == ticket;
  gives_at = λ ticket. 1;
  stores = λ ticket. None;
  Coupling = λ taken given w. (w 0 ≡ taken % 2 ^ 64) × (w 1 ≡ given % 2 ^ 64);
}

-- grant words after `next`: that of ticket n is at n modulo CPUS among them, and holds n + 1 once n
-- is served
abbrev pub grant_words : WordKind
grant_words = record {
  opens = 1;
  looks_at = λ ticket. ticket % CPUS + 1;
  serves = λ ticket read. read == (ticket + 1) % 2 ^ 64;
  gives_at = λ ticket. (ticket + 1) % CPUS + 1;
  stores = λ ticket. Some ((ticket + 2) % 2 ^ 64);
  Coupling =
      λ taken given w. (w 0 ≡ taken % 2 ^ 64) × ((k : ℕ) → k < CPUS → WordFits k given (w (k + 1)));
}
