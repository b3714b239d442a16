-- What a buffer carries: a message is a list of one to eight numbers, its words. The one word 0
-- also spells that there is no message.
use Rattle.std.specs.Prelude.{◌-◌, ◌<◌, ◌≤◌, ◌^◌, ℕ, List, [], ◌∷◌, ◌++◌, length, replicate}
use Rattle.std.specs.{Prelude.slice_index_or, List.AllByRecursion}
use Rattle.event_log.specs.declared.messages.TheConstants.{WORDS}

-- a message
abbrev pub Message : Type 0
Message = List ℕ

-- the value that is used if a message is expected and there is none
abbrev pub no_message : Message
no_message = 0 ∷ []

-- the first word of a message: what a register takes of it
abbrev pub first_word : Message → ℕ
first_word message = slice_index_or message 0 0

-- the words followed by zeroes: as many as a message has at most
abbrev pub padded : List ℕ → List ℕ
padded words = words ++ replicate (WORDS - length words) 0

-- a list is a valid message: it has a word, and no more than the most, and each is a number of 64
-- bits
pub record IsMessage (m : Message) : Type 0 where
  pub some : 0 < length m
  pub most : length m ≤ WORDS
  pub words : AllByRecursion (λ w. w < 2 ^ 64) m
