-- What one call of a machine or of a layer adds to the history that its holder has observed, and
-- what it requires.
use Rattle.std.specs.Prelude.{◌≡◌, List, ◌∷◌, ◌++◌, Option, Some, None, option_map, is_some}
use Rattle.std.specs.Prelude.{MatchOption, if◌then◌else◌}
use Rattle.event_log.specs.{declared.ids.{CpuId.CpuId, LockId.LockId}, History.AreForeign}
use Rattle.event_log.specs.Sections.{Section, cpu_of_section, block_after}
use Rattle.layer_traits.specs.Protocols.Protocol.{Rules, StaysAllowed}

-- a call is pending until it returns a result
abbrev pub until_answered : {A S : Type 0} → Option A → S → Option S
until_answered result call = if is_some result then None else Some call

-- a section may be polled: at its first poll it is allowed and stays so; after that it is the one
-- under way
abbrev pub MayPoll : {E : Type 0} → (List (Section E) → Section E → Type 0) → List (Section E)
    → Option (Section E) → Section E → Type 0
MayPoll Allowed past None s = StaysAllowed Allowed past s
MayPoll Allowed past (Some under_way) s = under_way ≡ s

-- the result of a section after these sections: that of its edit on the block which they leave
abbrev pub Answers : {E B O : Type 0} → Rules E B O → (LockId → Option B) → List (Section E)
    → Section E → O → Type 0
Answers protocol opening past s out =
    option_map (protocol.answer s.edit) (block_after protocol.edited opening s.lock past) ≡ Some out

-- a poll of a section: environment sections are first, then the section itself exactly if the poll
-- returns a result, with its result at that point
pub record PolledAtLock {E B O : Type 0} (protocol : Rules E B O) (opening : LockId → Option B)
    (ActsFor : CpuId → Type 0) (s : Section E)
    (result : Option O) (old new : List (Section E)) : Type 0 where
  pub others : List (Section E)
  pub foreign : AreForeign ActsFor cpu_of_section others
  pub is : new ≡ (if is_some result then s ∷ (others ++ old) else others ++ old)
  pub answers : MatchOption result (Unit {0})
      (λ out. Answers protocol opening (others ++ old) s out)
