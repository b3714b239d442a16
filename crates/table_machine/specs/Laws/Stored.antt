-- An example, only for tests: the words of a ticket lock that is released by a store agree with two
-- exact counts.
use Rattle.std.proofs.Common.{◌≢◌, ℕ, ◌≤◌, ◌∙◌, arith}
use Rattle.{event_log.proofs.Tickets.{same_rests, next_rests}, table_machine.specs.Kinds.IsWordKind}
use Rattle.table_machine.specs.Stored.{stored_words}

-- the words agree with the counts
pub stored_are : IsWordKind stored_words
stored_are = record {
  looks_within = λ ticket. omega arith;
  gives_within = λ ticket. omega arith;
  begins = λ w first. (first 0 (omega arith), first 1 (omega arith));
  same =
      λ taken given w v equal
      coupled. (equal 0 (omega arith) ∙ coupled.0, equal 1 (omega arith) ∙ coupled.1);
  next_is = λ taken given w coupled. coupled.0;
  took =
      λ taken given w v coupled next
      others. (
        next ∙ next_rests taken (w 0) coupled.0,
        others 1 (omega arith) (λ e. omega arith)
            ∙ coupled.1,
      );
  hits =
      λ taken given w coupled ticket ticket_index ahead close is. same_rests given ticket_index
      (w 1) ticket ahead
      close coupled.1 is;
  gave =
      λ taken given w v coupled ticket is serving
      others. (
        others 0 (omega arith) (λ e. omega arith) ∙ coupled.0,
        serving
            ∙ next_rests given ticket is,
      );
}
