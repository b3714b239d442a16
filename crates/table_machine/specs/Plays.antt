-- What the seat learns from each of its atomic steps.
use Rattle.std.specs.Prelude.{◌≡◌, ℕ, true, false, [], ◌∷◌, ◌++◌, ◌⊎◌, IsSome, Some}
use Rattle.{atomic_table.specs.Table.{Step, Me}, event_log.specs.declared.ids.LockId.LockId}
use Rattle.event_log.specs.declared.events.Event.{Event, TheVariants.{Draw, Look, Free}}
use Rattle.event_log.specs.{History.{IsLawful, Adds}, WordsLog.{cpu_of_event, lock_phase, Waiting}}
use Rattle.event_log.specs.{WordsLog.Holding, Sections.block_after}
use Rattle.layer_traits.specs.{declared.edits.Mark.Mark, Protocols.Protocol.Rules}
use Rattle.layer_traits.specs.Protocols.{WordsProtocol.{MayCome, sections, mark_of}, OneLock.opened}
use Rattle.table_machine.specs.{declared.views.{View.View, Home.Home}, Kinds.WordKind}
use Rattle.table_machine.specs.{Layout.{rank_of, word_at}, Views.{caught_up, mine, owner}}
use Rattle.table_machine.specs.Views.{IsThisCpu, Coupled}

-- environment events, then this one; the whole is legal
pub record Moves {E B O : Type 0} (protocol : Rules E B O) (v w : View E B)
    (e : Event (Mark E)) : Type
    0 where
  pub view : w ≡ mine v.start (owner v.cpus) w.history
  pub adds : Adds (IsThisCpu (owner v.cpus)) cpu_of_event e v.history w.history
  pub legal : IsLawful (MayCome (protocol.allowed (opened v.start))) w.history

-- a Draw of the lock whose word `next` this is
pub record Drew {E B O : Type 0} (protocol : Rules E B O) (at : Step (Home E B))
    (v : Me (Home E B) (View E B)) (found : ℕ) (w : Me (Home E B) (View E B)) : Type 0
  where
    pub lock : LockId
    pub exists : IsSome (opened v.0.start lock)
    pub word : at.word ≡ word_at (rank_of v.0.start lock) 0
    pub moves : Moves protocol v.0 w.0 (Draw (owner v.0.cpus) lock found)
    pub held : w.1 ≡ v.1

-- a poll whose number does not serve the ticket
pub record MissesTicket (kind : WordKind) {E B : Type 0} (lock : LockId) (ticket : ℕ)
    (v : Me (Home E B) (View E B)) (found : ℕ)
    (w : Me (Home E B) (View E B)) : Type 0 where
  pub other : kind.serves ticket found ≡ false
  pub waits : lock_phase (owner v.0.cpus) w.0.history ≡ Waiting lock ticket
  pub held : w.1 ≡ v.1

-- a poll whose number serves the ticket: the block that it took is the fold of the lock's sections
pub record Hits (kind : WordKind) {E B O : Type 0} (protocol : Rules E B O) (lock : LockId)
    (ticket : ℕ) (v : Me (Home E B) (View E B)) (found : ℕ)
    (w : Me (Home E B) (View E B)) : Type 0 where
  pub same : kind.serves ticket found ≡ true
  pub inside : lock_phase (owner v.0.cpus) w.0.history ≡ Holding lock ticket
  pub home : Home E B
  pub block : B
  pub held : w.1 ≡ (rank_of v.0.start lock, home) ∷ v.1
  pub is : home.block ≡ Some block
  pub folds : block_after protocol.edited (opened v.0.start) lock (sections w.0.history)
      ≡ Some block

-- a Look for the ticket with which this CPU waits: in the log it reads how often the lock was
-- freed. The block is taken exactly if the number that was found serves the ticket.
pub record LookedAtWord (kind : WordKind) {E B O : Type 0} (protocol : Rules E B O)
    (v : Me (Home E B) (View E B)) (found : ℕ)
    (w : Me (Home E B) (View E B)) : Type 0 where
  pub lock : LockId
  pub ticket : ℕ
  pub waits : lock_phase (owner v.0.cpus) v.0.history ≡ Waiting lock ticket
  pub read : ℕ
  pub moves : Moves protocol v.0 w.0 (Look (owner v.0.cpus) lock ticket read)
  pub finds : MissesTicket kind lock ticket v found w ⊎ Hits kind protocol lock ticket v found w

-- a Free of the lock that this CPU is inside, with the edit that is in its slot
pub record Freed {E B O : Type 0} (protocol : Rules E B O) (v w : Me (Home E B) (View E B)) : Type
    0 where
  pub lock : LockId
  pub ticket : ℕ
  pub inside : lock_phase (owner v.0.cpus) v.0.history ≡ Holding lock ticket
  pub edit : E
  pub home : Home E B
  pub slot : ℕ
  pub carried : v.1 ≡ (slot, home) ∷ []
  pub is : home.edit ≡ Some edit
  pub moves : Moves protocol v.0 w.0 (Free (owner v.0.cpus) lock (mark_of edit))
  pub held : w.1 ≡ []

-- what was received is merged: the view becomes the whole log, which extends both
pub record Met {E B O : Type 0} (protocol : Rules E B O) (at : Step (Home E B))
    (v : Me (Home E B) (View E B)) (found : ℕ) (w : Me (Home E B) (View E B)) : Type 0
  where
    pub view : w.0 ≡ caught_up v.0.start (v.0.lent ++ v.0.cpus) w.0.history
    pub coupled : Coupled w.0.history v.0
    pub legal : IsLawful (MayCome (protocol.allowed (opened v.0.start))) w.0.history
    pub held : w.1 ≡ v.1

-- a fresh seat has seen nothing and acts for no CPU
abbrev pub Entered : {E B : Type 0} → Step (Home E B) → Me (Home E B) (View E B) → ℕ
    → Me (Home E B) (View E B) → Type 0
Entered at v found w = w ≡ (caught_up v.0.start [] [], [])
