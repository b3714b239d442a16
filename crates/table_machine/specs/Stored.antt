-- An example, only for tests: the words of a ticket lock that is released by a store. Only the
-- holder writes `serving`, so it need not add: it stores its ticket plus 1.
use Rattle.std.specs.Prelude.{◌≡◌, ◌+◌, ◌%◌, ◌^◌, ◌==◌, Some}
use Rattle.table_machine.specs.Kinds.{WordKind}

-- word 1 is `serving`
abbrev pub stored_words : WordKind
stored_words = record {
  opens = 0;
  looks_at = λ ticket. 1;
  serves = λ ticket read. read == ticket;
  gives_at = λ ticket. 1;
  stores = λ ticket. Some ((ticket + 1) % 2 ^ 64);
  Coupling = λ taken given w. (w 0 ≡ taken % 2 ^ 64) × (w 1 ≡ given % 2 ^ 64);
}
