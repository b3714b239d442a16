-- Plans: what a poll must do, as a function of the part's private state and of the call, and what
-- it means that a poll followed its plan. The history below determines the phase of a CPU: a plan
-- names a section and no phase.
use Rattle.std.specs.Prelude.{◌≡◌, Bool, true, false, List, ◌∷◌, ◌++◌, Option, None, option_map}
use Rattle.event_log.specs.{declared.ids.{CpuId.CpuId, LockId.LockId}, History.AreForeign}
use Rattle.event_log.specs.Actions.{Action, Phase, Rests, Waits, Holds, cpu_of_action, phase}
use Rattle.event_log.specs.{Actions.next_action, Sections.{block_after, sections_in}}
use Rattle.layer_traits.specs.Protocols.Protocol.{Rules}

-- what the names of sections mean: the block that a section leaves, and its result
pub record Table (N B R : Type 0) : Type 0 where
  pub edited : N → B → B
  pub answer : N → B → R

-- the table of edits that are their own names
abbrev pub table_of : {E B O : Type 0} → Rules E B O → Table E B O
table_of protocol = record { edited = protocol.edited; answer = protocol.answer }

-- whether a CPU is in a section: it waits at a lock or holds one
abbrev pub is_in_section : Phase → Bool
is_in_section Rests = false
is_in_section (Waits lock) = true
is_in_section (Holds lock) = true

-- what a poll leaves: the part's private state, and the call's result if there is one
pub record Left (S A : Type 0) : Type 0 where
  pub local : S
  pub answer : Option A

-- the plan of a poll: to do without an action and leave this, or one action of the section of this
-- name at this lock. The section's result, once there is one, determines what the poll leaves
pub data Plan (N R S A : Type 0) : Type 0 where
  Now : (left : Left S A) → Plan N R S A
  Act : (lock : LockId) (name : N) (react : Option R → Left S A) → Plan N R S A

-- a section's result is that of the action that ends it, while the CPU holds the lock
abbrev pub at_give : {R : Type 0} → Phase → Option R → Option R
at_give Rests answer = None
at_give (Waits lock) answer = None
at_give (Holds lock) answer = answer

-- the result of the next action of a CPU, after this past: at a Give the result of its section on
-- the block that the past leaves
abbrev pub reply : {N B R : Type 0} → Table N B R → (LockId → Option B) → CpuId → LockId → N
    → List (Action N) → Option R
reply table opening cpu lock name past =
    at_give (phase cpu past)
    (option_map (table.answer name) (block_after table.edited opening lock (sections_in past)))

-- one action was done: environment actions are first, then the one that was due to this CPU
pub record Acted {N : Type 0} (ActsFor : CpuId → Type 0) (cpu : CpuId) (lock : LockId) (name : N)
    (old new past : List (Action N)) : Type 0 where
  pub others : List (Action N)
  pub foreign : AreForeign ActsFor cpu_of_action others
  pub joined : past ≡ others ++ old
  pub grows : new ≡ next_action cpu lock name past ∷ past

-- one action was done, and the poll left what its plan makes of that action's result
pub record Acting {N B R S A : Type 0} (ActsFor : CpuId → Type 0) (table : Table N B R)
    (opening : LockId → Option B) (cpu : CpuId) (lock : LockId)
    (name : N) (react : Option R → Left S A) (old new : List (Action N)) (got : Left S A) : Type
    0 where
  pub past : List (Action N)
  pub acted : Acted ActsFor cpu lock name old new past
  pub moves : got ≡ react (reply table opening cpu lock name past)

-- a poll followed its plan: the actions grew from old to new, and it left this
abbrev pub Follows : {N B R S A : Type 0} → (CpuId → Type 0) → Table N B R → (LockId → Option B)
    → CpuId → Plan N R S A
    → List (Action N) → List (Action N) → Left S A → Type 0
Follows ActsFor table opening cpu (Now left) old new got = (new ≡ old) × (got ≡ left)
Follows ActsFor table opening cpu (Act lock name react) old new got =
    Acting ActsFor table opening cpu lock name react old new got

-- what a part without private state leaves: only the result
abbrev pub answered : {A : Type 0} → Option A → Left (Unit {0}) A
answered result = record { local = tt; answer = result }

-- the plan of a section: one action of it, and its result is the call's
abbrev pub section_plan : {E O : Type 0} → LockId → E → Plan E O (Unit {0}) O
section_plan lock edit = Act lock edit answered

-- the plan of a call that is one call of the lower layer: it leaves what f makes of what that call
-- leaves
abbrev pub raised : {N R S T A B : Type 0} → (Left S A → Left T B) → Plan N R S A → Plan N R T B
raised f (Now left) = Now (f left)
raised f (Act lock name react) = Act lock name (λ reply. f (react reply))
