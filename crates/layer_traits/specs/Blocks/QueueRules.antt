-- What the edits of shared queues mean as edits of locks' blocks, and which sections of them are
-- allowed.
use Rattle.std.specs.{Prelude.{◌≡◌, List, [], Option, Some, None, map}, List.AllByRecursion}
use Rattle.event_log.specs.{declared.ids.LockId.LockId, Sections.Section}
use Rattle.layer_traits.specs.declared.queue_edits.{QueueBlock.QueueBlock, QueueEdit.QueueEdit}
use Rattle.layer_traits.specs.declared.queue_edits.QueueEdit.TheVariants.{Push, TakeAll, Above}
use Rattle.layer_traits.specs.declared.queue_edits.QueueAnswer.{QueueAnswer, TheVariants.Done}
use Rattle.layer_traits.specs.declared.queue_edits.QueueAnswer.TheVariants.{Taken, Answer}
use Rattle.layer_traits.specs.{Threads.MoveRules.MoveRules, Protocols.Protocol.Rules}
use Rattle.layer_traits.specs.Layers.Queues.{kernel, QueueAllowed, event_of, lock_of, call_at}
use Rattle.layer_traits.specs.Layers.Sleeping.{joined}
use Rattle.layer_traits.specs.declared.queue_edits.QueueBlock.TheVariants as block

-- the block that an edit leaves: a thread that is pushed joins the queue; an edit of the other kind
-- of block changes nothing
abbrev pub queue_edited : {E B : Type 0} → (E → B → B) → QueueEdit E → QueueBlock B → QueueBlock B
queue_edited edited (Push t) (block.Queue queue homes) = block.Queue (joined t queue) homes
queue_edited edited (Push t) (block.Above b) = block.Above b
queue_edited edited TakeAll (block.Queue queue homes) = block.Queue [] homes
queue_edited edited TakeAll (block.Above b) = block.Above b
queue_edited edited (Above e) (block.Queue queue homes) = block.Queue queue homes
queue_edited edited (Above e) (block.Above b) = block.Above (edited e b)

-- the result of an edit
abbrev pub queue_answer : {E B O : Type 0} → (E → B → O) → QueueEdit E → QueueBlock B
    → QueueAnswer O
queue_answer answer (Push t) b = Done
queue_answer answer TakeAll (block.Queue queue homes) = Taken queue
queue_answer answer TakeAll (block.Above b) = Done
queue_answer answer (Above e) (block.Queue queue homes) = Done
queue_answer answer (Above e) (block.Above b) = Answer (answer e b)

-- the edit is of the kind of the lock's block
abbrev pub IsProper : {E : Type 0} → LockId → QueueEdit E → Type 0
IsProper lock edit = lock_of (call_at lock edit) ≡ lock

-- each of these sections edits a block of its kind
abbrev pub AreProper : {E : Type 0} → List (Section (QueueEdit E)) → Type 0
AreProper sections = AllByRecursion (λ s. IsProper s.lock s.edit) sections

-- a section under way, if there is one, edits a block of its kind
abbrev pub IsProperCall : {E : Type 0} → Option (Section (QueueEdit E)) → Type 0
IsProperCall None = Unit {0}
IsProperCall (Some s) = IsProper s.lock s.edit

-- a section may follow these: it edits a block of its kind, and its call is allowed
pub record SectionAllowed {E B O : Type 0} (protocol : Rules E B O) (mv : MoveRules E O)
    (opening : LockId → Option (QueueBlock B))
    (past : List (Section (QueueEdit E))) (s : Section (QueueEdit E)) : Type 0 where
  pub proper : IsProper s.lock s.edit
  pub call : QueueAllowed (kernel protocol mv opening) (map event_of past) (event_of s)

-- the edits of shared queues over those of the layer above
abbrev pub queue_rules : {E B O : Type 0} → Rules E B O → MoveRules E O
    → Rules (QueueEdit E) (QueueBlock B) (QueueAnswer O)
queue_rules protocol mv =
    record {
      edited = queue_edited protocol.edited;
      answer = queue_answer protocol.answer;
      allowed = SectionAllowed protocol mv;
    }
