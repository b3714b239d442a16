-- How a reason prints.
use Rattle.{std.specs.Prelude.{ℕ, List, codes}, tracer.specs.declared.verdicts.Reason.Reason}
use Rattle.tracer.specs.declared.verdicts.Reason.TheVariants as reason

-- the name of a reason, and its number
abbrev pub reason_name : Reason → List ℕ
reason_name reason.Spelling = codes "Spelling(30)"
reason_name reason.Range = codes "Range(31)"
reason_name reason.Op = codes "Op(32)"
reason_name reason.Pos = codes "Pos(33)"
reason_name reason.Full = codes "Full(34)"
reason_name reason.EmptyTake = codes "EmptyTake(35)"
reason_name reason.WrongValue = codes "WrongValue(36)"
reason_name reason.Left = codes "Left(37)"
reason_name reason.OfVersion = codes "Version(38)"
reason_name reason.CloseState = codes "CloseState(39)"
reason_name reason.NotEmpty = codes "NotEmpty(40)"
