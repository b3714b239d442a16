-- Histories: lists of events, newest first. Which event may follow which history, whose events they
-- are, and how a history grows.
use Rattle.std.specs.Prelude.{◌≡◌, ℕ, ◌+◌, Bool, false, List, [], ◌∷◌, ◌++◌, ◌==◌, if◌then◌else◌}
use Rattle.event_log.specs.declared.ids.{CpuId.CpuId, LockId.{LockId, TheVariants.Pending}}
use Rattle.event_log.specs.declared.ids.LockId.TheVariants.{Buffer}

-- whether two CPUs are one
abbrev pub same_cpu : CpuId → CpuId → Bool
same_cpu a b = a.0 == b.0

-- whether two locks are one
abbrev pub same_lock : LockId → LockId → Bool
same_lock (Pending a) (Pending b) = same_cpu a b
same_lock (Buffer a) (Buffer b) = a.0 == b.0
same_lock (Pending a) (Buffer b) = false
same_lock (Buffer a) (Pending b) = false

-- each event of the history may follow the events before it
abbrev pub IsLawful : {E : Type 0} → (List E → E → Type 0) → List E → Type 0
IsLawful May [] = Unit {0}
IsLawful May (e ∷ past) = May past e × IsLawful May past

-- how many events of the history the test picks
abbrev pub how_many : {E : Type 0} → (E → Bool) → List E → ℕ
how_many picks [] = 0
how_many picks (e ∷ past) = if picks e then how_many picks past + 1 else how_many picks past

-- this CPU's own events, newest first
abbrev pub own_events : {E : Type 0} → (E → CpuId) → CpuId → List E → List E
own_events by cpu [] = []
own_events by cpu (e ∷ past) =
    if same_cpu (by e) cpu then e ∷ own_events by cpu past else own_events by cpu past

-- none of these events is this CPU's
abbrev pub AreOthers : {E : Type 0} → (E → CpuId) → CpuId → List E → Type 0
AreOthers by cpu [] = Unit {0}
AreOthers by cpu (e ∷ past) = (same_cpu (by e) cpu ≡ false) × AreOthers by cpu past

-- environment events: none is of a CPU for which the holder of the machine acts
abbrev pub AreForeign : {E : Type 0} → (CpuId → Type 0) → (E → CpuId) → List E → Type 0
AreForeign ActsFor by others = (c : CpuId) → ActsFor c → AreOthers by c others

-- the history has grown by this event, added after environment events
pub record Adds {E : Type 0} (ActsFor : CpuId → Type 0) (by : E → CpuId) (e : E)
    (old new : List E) : Type 0 where
  pub others : List E
  pub foreign : AreForeign ActsFor by others
  pub is : new ≡ e ∷ (others ++ old)

-- the history has grown only by environment events
pub record Grows {E : Type 0} (ActsFor : CpuId → Type 0) (by : E → CpuId) (old new : List E) : Type
    0 where
  pub others : List E
  pub foreign : AreForeign ActsFor by others
  pub is : new ≡ others ++ old
