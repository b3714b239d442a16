-- The rule of the table: there is one legal log.
use Rattle.std.specs.Prelude.{◌≡◌, ℕ, ◌≤◌, List, length, IsSome, Option, Some, None}
use Rattle.{atomic_table.specs.Table.State, event_log.specs.declared.ids.TheConstants.CPUS}
use Rattle.event_log.specs.declared.{ids.{CpuId.CpuId, LockId.LockId}, events.Event.Event}
use Rattle.event_log.specs.{History.{IsLawful, AreOthers}, WordsLog.{cpu_of_event, draws, frees}}
use Rattle.layer_traits.specs.{declared.edits.Mark.Mark, Protocols.Protocol.Rules}
use Rattle.layer_traits.specs.Protocols.{WordsProtocol.MayCome, OneLock.{HomeFits, opened}}
use Rattle.table_machine.specs.{declared.views.{View.View, Home.Home}, Kinds.WordKind}
use Rattle.table_machine.specs.{Layout.{rank_of, word_count, words_at_rank}, Views.Sees}
use mathlib.Core.Option.{Option as Maybe, none, some}
use lib.ListN.{get_elem?}

-- the block in a slot; none while a seat has the slot
abbrev pub home_block : {E B : Type 0} → Maybe (Home E B) → Option B
home_block none = None
home_block (some home) = home.block

-- a slot with the opening block
abbrev pub fresh_home : {E B : Type 0} → B → Home E B
fresh_home block = record { block = Some block; edit = None }

-- the words and the slot of one lock are what the log leaves of them: the words agree with the two
-- counts
pub record ShowsLock (kind : WordKind) {E B : Type 0} (edited : E → B → B)
    (start : List (LockId × B)) (words : List ℕ) (homes : List (Maybe (Home E B)))
    (log : List (Event (Mark E))) (lock : LockId) : Type 0 where
  pub home : Maybe (Home E B)
  pub at : get_elem? homes (rank_of start lock) ≡ some home
  pub words_are : kind.Coupling (draws lock log) (frees lock log)
      (words_at_rank words (rank_of start lock))
  pub is : HomeFits edited (opened start) log lock (home_block home)

-- all words and slots are the replay of the log
pub record Shows (kind : WordKind) {E B : Type 0} (edited : E → B → B) (start : List (LockId × B))
    (words : List ℕ) (homes : List (Maybe (Home E B)))
    (log : List (Event (Mark E))) : Type 0 where
  pub word_length : length words ≡ word_count (length start)
  pub home_length : length homes ≡ length start
  pub each : (lock : LockId) → IsSome (opened start lock)
      → ShowsLock kind edited start words homes log lock

-- the invariant of the table: there is one legal log of its CPUs; the words and slots are its
-- replay, the views are prefixes of it
pub record TableInv (kind : WordKind) {E B O : Type 0} (protocol : Rules E B O) (cpu_count : ℕ)
    (start : List (LockId × B))
    (s : State (Home E B) (View E B)) : Type 0 where
  pub few : cpu_count ≤ CPUS
  pub log : List (Event (Mark E))
  pub legal : IsLawful (MayCome (protocol.allowed (opened start))) log
  pub shows : Shows kind protocol.edited start s.words s.homes log
  pub sees : Sees cpu_count s.views log
  pub rest : (c : CpuId) → cpu_count ≤ c.0 → AreOthers cpu_of_event c log
