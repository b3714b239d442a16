-- CPUs and systems at boot: their guests, and that nothing has happened.
use Rattle.std.specs.Prelude.{◌≡◌, ℕ, ◌≤◌, ◌==◌, List, [], length, map, Option, Some, None}
use Rattle.std.specs.Prelude.{slice_get, if◌then◌else◌}
use Rattle.event_log.specs.declared.{entries.Entry.Entry, ids.{CpuId.CpuId, Tid.Tid}}
use Rattle.layer_traits.specs.{Threads.Places.home_of, Layers.BufferLaw.{Buffering, UnderWay}}
use Rattle.layer_traits.specs.Layers.BufferLaw.{buffering_at_start}
use Rattle.cpu.specs.{declared.guests.Guest.Guest, Guests.new_guest, Claims.listed, Cpus.NamesBelow}
use Rattle.{cpu.specs.Cpus.guest_at, boot.specs.Plan.{BootPlan, Task}}

-- A CPU's guests at boot: a place for each thread, with a new guest at the numbers of the CPU's
-- home threads, and at no others. Each program names only the machine's buffers.
pub record AreGuests (homes : List CpuId) (buffers : ℕ) (number : CpuId)
    (guests : List (Option Guest)) : Type 0 where
  pub homed : (t : Tid) → home_of homes t ≡ Some number
      → (g : Guest) × (guest_at guests t.0 ≡ Some g)
  pub only : (t : Tid) (g : Guest) → guest_at guests t.0 ≡ Some g → home_of homes t ≡ Some number
  pub fresh : (t : Tid) (g : Guest) → guest_at guests t.0 ≡ Some g → g ≡ new_guest g.program
  pub named : (t : Tid) (g : Guest) → guest_at guests t.0 ≡ Some g → NamesBelow buffers g.program
  pub size : length guests ≡ length homes

-- the tables of the guests of all CPUs
abbrev pub AreTables : List CpuId → ℕ → List (List (Option Guest)) → Type 0
AreTables homes buffers tables =
    (k : ℕ) (guests : List (Option Guest)) → slice_get tables k ≡ Some guests
    → AreGuests homes buffers (record { 0 = k }) guests

-- a CPU of this number was made with these guests and with room for so many entries
pub record IsBooted (number : CpuId) (guests : List (Option Guest)) (most : ℕ) (its : CpuId)
    (table : List (Option Guest)) (trace : List Entry)
    (limit capacity : ℕ) : Type 0 where
  pub number_is : its ≡ number
  pub guests_are : table ≡ guests
  pub nothing : trace ≡ []
  pub limit_is : limit ≡ most
  pub reserved : most ≤ capacity

-- and its part of the layer is as at boot, and agrees with each machine that is fresh
pub record IsBootedAs {P M : Type 0} (Coupled : P → M → Type 0) (IsFresh : M → CpuId → Type 0)
    (count : M → ℕ) (buffers : ℕ) (homes : List CpuId)
    (k : ℕ) (guests : List (Option Guest)) (most : ℕ) (part : P) (cpu : CpuId) (local : Buffering)
    (under_way : Option UnderWay)
    (its : CpuId) (table : List (Option Guest)) (trace : List Entry) (limit capacity : ℕ) : Type
    0 where
  pub booted : IsBooted (record { 0 = k }) guests most its table trace limit capacity
  pub cpu_is : cpu ≡ record { 0 = k }
  pub nothing_done : under_way ≡ None
  pub own_is : local ≡ buffering_at_start homes (record { 0 = k })
  pub coupled : (m : M) → IsFresh m (record { 0 = k }) → count m ≡ buffers → Coupled part m

-- what CPU c has at the number of a thread: a new guest if c is the thread's home CPU
abbrev pub guest_for : ℕ → Task → Option Guest
guest_for c task = if task.home == c then Some (new_guest task.program) else None

-- the guests of CPU c
abbrev pub guests_for : BootPlan → ℕ → List (Option Guest)
guests_for plan c = map (guest_for c) plan.tasks

-- the guests of all CPUs
abbrev pub tables_for : BootPlan → List (List (Option Guest))
tables_for plan = listed (guests_for plan) 0 plan.cpus

-- the home CPU of each thread
abbrev pub homes_for : BootPlan → List CpuId
homes_for plan = map (λ task. record { 0 = task.home }) plan.tasks
