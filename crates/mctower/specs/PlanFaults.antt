-- The line that reports why a plan is rejected: the error's name and number, and where in the plan
-- it is.
use Rattle.std.specs.Prelude.{ℕ, List, [], ◌∷◌, ◌++◌, codes, decimal}
use Rattle.event_log.specs.declared.ids.Tid.{Tid}
use Rattle.guest.specs.declared.refusals.GuestFault.{GuestFault, TheVariants.UnknownWord}
use Rattle.guest.specs.declared.refusals.GuestFault.TheVariants.{BadRegister, BadNumber, BadTarget}
use Rattle.guest.specs.declared.refusals.GuestFault.TheVariants.{TooLong, Empty}
use Rattle.boot.specs.{Names.key_name, declared.refusals.BootError.BootError}
use Rattle.boot.specs.declared.refusals.BootError.TheVariants.{NoMemory, BadToml, MissingKey}
use Rattle.boot.specs.declared.refusals.{BootError.TheVariants.{OutOfRange, Guest}, PlanKey.PlanKey}

-- the name and the number of what is wrong with a line of a program
abbrev pub fault_name : GuestFault → List ℕ
fault_name UnknownWord = codes "UnknownWord(10)"
fault_name BadRegister = codes "BadRegister(11)"
fault_name BadNumber = codes "BadNumber(12)"
fault_name BadTarget = codes "BadTarget(13)"
fault_name TooLong = codes "TooLong(14)"
fault_name Empty = codes "Empty(15)"

-- the line with this name, followed by a key
abbrev pub key_line : List ℕ → PlanKey → List ℕ
key_line name key = codes "error: " ++ (name ++ (key_name key ++ 10 ∷ []))

-- the line of what is wrong with a line of this thread's program, counted from 0
abbrev pub guest_line : Tid → ℕ → GuestFault → List ℕ
guest_line thread line fault =
    codes "error: Guest(23) thread "
    ++ (decimal thread.0 ++ (codes " line "
    ++ (decimal line ++ (32 ∷ (fault_name fault ++ 10 ∷ [])))))

-- the line of what is wrong with a plan
abbrev pub plan_line : BootError → List ℕ
plan_line (NoMemory refused) = codes "error: NoMemory(1)\n"
plan_line BadToml = codes "error: BadToml(20)\n"
plan_line (MissingKey key) = key_line (codes "MissingKey(21) ") key
plan_line (OutOfRange key) = key_line (codes "OutOfRange(22) ") key
plan_line (Guest thread line fault) = guest_line thread line fault
