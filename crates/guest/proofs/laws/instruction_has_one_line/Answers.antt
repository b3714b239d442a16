use Rattle.guest.proofs.SpellingLemmas.{line_in-only, line_in-instruction_line}
use Rattle.guest.proofs.laws.instruction_has_one_line.Goals as goal

pub returns : goal.returns
returns c = λ count i some most. record {
  read_back = λ within. line_in-instruction_line count i most within;
  only = λ text read. line_in-only count text i some most read;
}
