-- Effects that may follow one another are a legal sequential history of FIFO buffers.
use Rattle.std.specs.Prelude.{ℕ, ◌<◌, ◌^◌, List, length, reverse}
use Rattle.event_log.specs.{declared.entries.Entry.Entry, History.IsLawful, Runs.IsLegalHistory}
use Rattle.layer_traits.specs.Blocks.BufferEffects.{MayTakeEffect, contents_of}

-- effects, newest first, each of which may follow those before it. Oldest first, they are a legal
-- sequential history of the buffers from empty ones on, and it leaves what they hold. Their numbers
-- are modulo 2^64, those of a run are not: there are fewer effects than that.
abbrev pub EffectsAreRun : Type 0
EffectsAreRun = (caps : List ℕ) (effects : List Entry)
    → IsLawful (MayTakeEffect caps) effects → length effects < 2 ^ 64
    → IsLegalHistory caps (reverse effects) (contents_of caps effects)
