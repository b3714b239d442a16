-- Schedules: the steps that a text denotes.
use Rattle.std.specs.Prelude.{◌≡◌, ◌==◌, ◌++◌, ℕ, Bool, List, [], ◌∷◌, length, replicate, nat_lt}
use Rattle.std.specs.Prelude.{nat_le, Option, Some, None, Result, Ok, Err, Vec, option_map}
use Rattle.std.specs.{Prelude.{option_and_then, if◌then◌else◌}, List.{after_first, before_first}}
use Rattle.std.specs.List.{position_or_len, slice_split}
use Rattle.event_log.specs.{Digits.number_to, declared.ids.CpuId.CpuId}
use Rattle.mctower.specs.declared.line.schedules.{Item.Item, TheConstants.MOST_STEPS}
use Rattle.mctower.specs.declared.line.schedules.StepsError.{StepsError, TheVariants.NoMemory}
use Rattle.mctower.specs.declared.line.schedules.StepsError.TheVariants.{BadSchedule}

-- the byte is a comma
abbrev pub is_comma : ℕ → Bool
is_comma byte = byte == 44

-- the byte is a star
abbrev pub is_star : ℕ → Bool
is_star byte = byte == 42

-- the text has a star
abbrev pub has_star : List ℕ → Bool
has_star text = nat_lt (position_or_len is_star text) (length text)

-- the CPU whose number, up to 255, a text spells
abbrev pub cpu_of : List ℕ → Option CpuId
cpu_of text = option_map (λ number. record { 0 = number }) (number_to 255 text)

-- the number of steps, from 1 to the most, that a text spells
abbrev pub steps_spelled : List ℕ → Option ℕ
steps_spelled text =
    option_and_then (λ number. if number == 0 then None else Some number)
    (number_to MOST_STEPS text)

-- the item `c*n` of the texts of its two numbers
abbrev pub counted_item : List ℕ → List ℕ → Option Item
counted_item cpu steps =
    option_and_then (λ c. option_map (λ n. record { cpu = c; steps = n }) (steps_spelled steps))
    (cpu_of cpu)

-- the item that a text spells: `c*n`, or `c` for one step
abbrev pub item_of : List ℕ → Option Item
item_of text =
    if has_star text then counted_item (before_first is_star text) (after_first is_star text)
    else option_map (λ c. record { cpu = c; steps = 1 }) (cpu_of text)

-- the steps of all items, in order, if each text is an item
abbrev pub steps_in : List (List ℕ) → Option (List CpuId)
steps_in [] = Some []
steps_in (text ∷ texts) =
    option_and_then (λ item. option_map (λ more. replicate item.steps item.cpu ++ more)
    (steps_in texts)) (item_of text)

-- the steps, if they are at most the most
abbrev pub if_few : List CpuId → Option (List CpuId)
if_few steps = if nat_le (length steps) MOST_STEPS then Some steps else None

-- the steps that a text denotes: those of its items, cut at the commas
abbrev pub steps_of : List ℕ → Option (List CpuId)
steps_of text = option_and_then if_few (steps_in (slice_split is_comma text))

-- the items still to be read, of the text after the last comma
abbrev pub schedule_pieces : Option (List ℕ) → List (List ℕ)
schedule_pieces None = []
schedule_pieces (Some text) = slice_split is_comma text

-- a reading gives these steps, or fails if there are none, unless memory ran out
abbrev pub ReadsSteps : {A : Type 0} → Option (List CpuId) → Result (Vec CpuId A) StepsError
    → Type 0
ReadsSteps steps (Ok read) = steps ≡ Some read.items
ReadsSteps steps (Err (NoMemory refused)) = Unit {0}
ReadsSteps steps (Err BadSchedule) = steps ≡ None
