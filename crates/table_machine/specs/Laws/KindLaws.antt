-- Both kinds of words agree with the counts.
use Rattle.std.proofs.Common.{◌≡◌, ◌≢◌, ℕ, ◌+◌, ◌%◌, ◌^◌, ◌<◌, ◌≤◌, ◌==◌, if◌then◌else◌, refl, ◌∙◌}
use Rattle.std.proofs.Common.{arith}
use Rattle.event_log.specs.{declared.ids.TheConstants.CPUS, Grants.after_give}
use Rattle.event_log.proofs.GrantWords.{fits_at_start, fits_after, served_exactly}
use Rattle.{event_log.proofs.Tickets.{same_rests, next_rests}, table_machine.specs.Kinds.IsWordKind}
use Rattle.table_machine.specs.Kinds.{first_words, grant_words, ticket_words}

pub tickets_are : IsWordKind ticket_words
tickets_are = record {
  looks_within = λ ticket. omega arith;
  gives_within = λ ticket. omega arith;
  begins = λ w first. (first 0 (omega arith), first 1 (omega arith));
  same =
      λ taken given w v equal
      coupled. (equal 0 (omega arith) ∙ coupled.0, equal 1 (omega arith) ∙ coupled.1);
  next_is = λ taken given w coupled. coupled.0;
  took =
      λ taken given w v coupled next
      others. (
        next ∙ next_rests taken (w 0) coupled.0,
        others 1 (omega arith) (λ e. omega arith)
            ∙ coupled.1,
      );
  hits =
      λ taken given w coupled ticket ticket_index ahead close is. same_rests given ticket_index
      (w 1) ticket ahead
      close coupled.1 is;
  gave =
      λ taken given w v coupled ticket is serving
      others. (
        others 0 (omega arith) (λ e. omega arith) ∙ coupled.0,
        serving
            ∙ next_rests given (w 1) coupled.1,
      );
}

-- the first of the grant words opens with 1
first_grant : (k : ℕ) → first_words 1 (k + 1) ≡ (if k == 0 then 1 else 0)
first_grant k = grind arith

-- a give writes one grant word
granted : (given ticket k : ℕ) (w v : ℕ → ℕ) → v ((ticket + 1) % CPUS + 1) ≡ (ticket + 2) % 2 ^ 64
    → ((i : ℕ) → i ≤ CPUS → i ≢ (ticket + 1) % CPUS + 1 → v i ≡ w i) → k < CPUS
    → v (k + 1) ≡ after_give ticket k (w (k + 1))
granted given ticket k w v here others within = grind arith

pub grants_are : IsWordKind grant_words
grants_are = record {
  looks_within = λ ticket. omega arith;
  gives_within = λ ticket. omega arith;
  begins = λ w first. (
    first 0 (omega arith),
    λ k within. rw (first (k + 1) (omega arith), first_grant k) (fits_at_start k within),
  );
  same = λ taken given w v equal coupled. (
    equal 0 (omega arith) ∙ coupled.0,
    λ k within. rw (equal (k + 1) (omega arith)) (coupled.1 k within),
  );
  next_is = λ taken given w coupled. coupled.0;
  took = λ taken given w v coupled next others. (
    next ∙ next_rests taken (w 0) coupled.0,
    λ k within. rw (others (k + 1) (omega arith) (λ e. omega arith)) (coupled.1 k within),
  );
  hits = λ taken given w coupled ticket ticket_index ahead close is.
      served_exactly given ticket_index ticket (ticket % CPUS) (w (ticket % CPUS + 1)) ahead close
      is refl
      (coupled.1 (ticket % CPUS) (omega arith));
  gave = λ taken given w v coupled ticket is here others. (
    others 0 (omega arith) (λ e. omega arith) ∙ coupled.0,
    λ k within. rw (granted given ticket k w v here others within)
        (fits_after k given ticket (w (k + 1)) within is (coupled.1 k within)),
  );
}
