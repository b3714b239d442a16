-- The grant words: what a give leaves in them.
use Rattle.std.proofs.Common.{◌≡◌, ℕ, ◌+◌, ◌%◌, ◌^◌, ◌<◌, ◌==◌, Bool, true, false, List, arith, if◌then◌else◌, length, slice_index, slice_set, sym}
use Rattle.std.proofs.{Common.{◌∙◌, refl}, lemmas.{Bool.{eqb-true, eqb-false}, Grind.get_or-set_at, List.get_or-set_other}}
use Rattle.event_log.{specs.{declared.ids.TheConstants.CPUS, Grants.{WordFits, after_give}}, proofs.GrantWords.fits_after}

next_word : (served : ℕ) → (served + 1) % 2 ^ 64 % CPUS ≡ (served + 1) % CPUS
next_word served = omega arith

next_number : (served : ℕ) → ((served + 1) % 2 ^ 64 + 1) % 2 ^ 64 ≡ (served + 2) % 2 ^ 64
next_number served = omega arith

-- a give stores in one word
stored : (words : List ℕ) → length words ≡ CPUS → (served at : ℕ) → at ≡ (served + 1) % 2 ^ 64 % CPUS → (k : ℕ) → k < CPUS
    → slice_index (slice_set words at (((served + 1) % 2 ^ 64 + 1) % 2 ^ 64)) k ≡ after_give served k (slice_index words k)
stored words long served at is k within = go (k == (served + 1) % CPUS) refl
  where
    here : at ≡ (served + 1) % CPUS
    here = is ∙ next_word served

    go : (b : Bool) → (k == (served + 1) % CPUS) ≡ b
        → slice_index (slice_set words at (((served + 1) % 2 ^ 64 + 1) % 2 ^ 64)) k ≡ (if b then (served + 2) % 2 ^ 64 else slice_index words k)
    go true same = get_or-set_at words at k (((served + 1) % 2 ^ 64 + 1) % 2 ^ 64) 0 (eqb-true k ((served + 1) % CPUS) same ∙ sym here)
        (let below : at < CPUS = rw here (omega arith) in omega arith) ∙ next_number served
    go false other = get_or-set_other words at k (((served + 1) % 2 ^ 64 + 1) % 2 ^ 64) 0 (λ e. eqb-false k ((served + 1) % CPUS) other (e ∙ here))

-- after it each word is the last value stored there
pub words_granted : (words : List ℕ) → length words ≡ CPUS → (given served at : ℕ) → served ≡ given % 2 ^ 64 → at ≡ (served + 1) % 2 ^ 64 % CPUS
    → ((k : ℕ) → k < CPUS → WordFits k given (slice_index words k))
    → (k : ℕ) → k < CPUS → WordFits k (given + 1) (slice_index (slice_set words at (((served + 1) % 2 ^ 64 + 1) % 2 ^ 64)) k)
words_granted words long given served at is here coupled k within =
    rw (stored words long served at here k within) (fits_after k given served (slice_index words k) within is (coupled k within))
