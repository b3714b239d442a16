-- What a plan says, and the first fault of a plan.
use Rattle.std.specs.Prelude.{◌≡◌, ℕ, ◌-◌, ◌<◌, ◌≤◌, Bool, ◌&&◌, ℤ, pos, negsuc, List, [], ◌∷◌}
use Rattle.std.specs.Prelude.{length, codes, nat_le, map, slice_index, slice_index_or, All, IsTrue}
use Rattle.std.specs.Prelude.{Option, Some, None, Result, Ok, Err, if◌then◌else◌, option_and_then}
use Rattle.std.specs.List.{list_all}
use Rattle.event_log.specs.declared.ids.TheConstants.{CPUS, THREADS, BUFFERS, CAPACITY, TRACE}
use Rattle.event_log.specs.{Buffers.IsCapacity, Reading.{◌>>=◌, read_from, all_as}}
use Rattle.toml.specs.Data.{Data, Items, no_items, item, Members, as_integer, as_array, as_str}
use Rattle.toml.specs.{Data.{as_table, get_member}, Parse.parse_document}
use Rattle.guest.specs.declared.instructions.Instruction.{Instruction}
use Rattle.guest.specs.declared.refusals.GuestError.{GuestError}
use Rattle.guest.specs.declared.refusals.GuestError.TheVariants.{NoMemory as GuestNoMemory, At}
use Rattle.guest.specs.{Instructions.{IsProgram, names_below}, Language.program_in}
use Rattle.boot.specs.{Locks.lock_named, declared.locks.LockKind.{LockKind, TheVariants.Grant}}
use Rattle.boot.specs.declared.refusals.PlanKey.{PlanKey, TheVariants.{Cpus, Trace, Buffers, Lock}}
use Rattle.boot.specs.declared.refusals.PlanKey.TheVariants.{Threads, Cpu, Program}
use Rattle.boot.specs.declared.refusals.BootError.{BootError, TheVariants.{NoMemory, BadToml}}
use Rattle.boot.specs.declared.refusals.BootError.TheVariants.{MissingKey, OutOfRange, Guest}

-- a thread: its home CPU and its program
pub record Task : Type 0 where
  pub home : ℕ
  pub program : List Instruction

-- what a plan says: the number of CPUs, the entries that each may trace, the capacities by buffer,
-- the lock, the threads
pub record BootPlan : Type 0 where
  pub cpus : ℕ
  pub trace : ℕ
  pub caps : List ℕ
  pub lock : LockKind
  pub tasks : List Task

-- the items of an array, as a list
abbrev pub data_in : Items → List Data
data_in no_items = []
data_in (item d ds) = d ∷ data_in ds

-- the value, if there is one: else the key is missing, or out of range
abbrev pub wanted : {A : Type 0} → PlanKey → Option A → Result A BootError
wanted key None = Err (MissingKey key)
wanted key (Some x) = Ok x

abbrev pub ranged : {A : Type 0} → PlanKey → Option A → Result A BootError
ranged key None = Err (OutOfRange key)
ranged key (Some x) = Ok x

-- the value, if the test passes
abbrev pub some_if : {A : Type 0} → Bool → A → Option A
some_if passes x = if passes then Some x else None

-- an integer from `least` to `most`
abbrev pub number_within : ℕ → ℕ → ℤ → Option ℕ
number_within least most (pos n) = some_if (nat_le least n && nat_le n most) n
number_within least most (negsuc n) = None

-- an integer's key
unfoldable pub number_at : PlanKey → ℕ → ℕ → Option Data → Result ℕ BootError
number_at key least most d =
    wanted key (option_and_then as_integer d) >>= λ z. ranged key (number_within least most z)

-- an array of items of one kind
abbrev pub list_at : {A : Type 0} → (Data → Option A) → Option Data → Option (List A)
list_at kind d = option_and_then (λ items. all_as kind (data_in items)) (option_and_then as_array d)

-- from 1 to `most` items
abbrev pub some_to : {A : Type 0} → ℕ → List A → Option (List A)
some_to most xs = some_if (nat_le 1 (length xs) && nat_le (length xs) most) xs

-- the capacities
unfoldable pub caps_at : Option Data → Result (List ℕ) BootError
caps_at d =
    wanted Buffers (list_at as_integer d) >>= λ zs. ranged Buffers (some_to BUFFERS zs)
    >>= λ zs. ranged Buffers (all_as (number_within 1 CAPACITY) zs)

-- the lock: one with grant words, where the key is absent
unfoldable pub lock_at : Option Data → Result LockKind BootError
lock_at None = Ok Grant
lock_at (Some d) = wanted Lock (as_str d) >>= λ name. ranged Lock (lock_named name)

-- the threads' tables
unfoldable pub tables_at : Option Data → Result (List Members) BootError
tables_at d =
    wanted Threads (list_at as_table d) >>= λ tables. ranged Threads (some_to THREADS tables)

-- a program's fault, as a fault of the plan
abbrev pub fault_of_thread : {A : Type 0} → ℕ → Result A GuestError → Result A BootError
fault_of_thread t (Ok x) = Ok x
fault_of_thread t (Err (At line fault)) = Err (Guest (record { 0 = t }) line fault)
fault_of_thread t (Err (GuestNoMemory refused)) = Err (NoMemory refused)

-- a thread's program, which names only buffers that the plan has
unfoldable pub program_at : ℕ → ℕ → Option Data → Result (List Instruction) BootError
program_at buffers t d =
    wanted (Program (record { 0 = t })) (list_at as_str d)
    >>= λ lines. fault_of_thread t (program_in lines)
    >>= λ program. ranged (Program (record { 0 = t }))
    (some_if (list_all (names_below buffers) program) program)

-- a thread's table
unfoldable pub task_at : ℕ → ℕ → ℕ → Members → Result Task BootError
task_at cpus buffers t table =
    number_at (Cpu (record { 0 = t })) 0 (cpus - 1) (get_member (codes "cpu") table)
    >>= λ home. program_at buffers t (get_member (codes "program") table)
    >>= λ program. Ok (record { home = home; program = program })

-- a document's plan
unfoldable pub plan_in : Members → Result BootPlan BootError
plan_in document =
    number_at Cpus 1 CPUS (get_member (codes "cpus") document)
    >>= λ cpus. number_at Trace 1 TRACE (get_member (codes "trace") document)
    >>= λ trace. caps_at (get_member (codes "buffers") document)
    >>= λ caps. lock_at (get_member (codes "lock") document)
    >>= λ lock. tables_at (get_member (codes "thread") document)
    >>= λ tables. read_from (task_at cpus (length caps)) 0 tables
    >>= λ tasks. Ok (record { cpus = cpus; trace = trace; caps = caps; lock = lock; tasks = tasks })

-- a document, if the text is one
abbrev pub document_of : Option Members → Result Members BootError
document_of None = Err BadToml
document_of (Some document) = Ok document

-- a text's plan, or its first fault
unfoldable pub plan_of : List ℕ → Result BootPlan BootError
plan_of text = document_of (parse_document text) >>= plan_in

-- what an error says of the intended result: it is that error. An error of memory says nothing
abbrev pub Fails : {Y : Type 0} → BootError → Result Y BootError → Type 0
Fails (NoMemory _) ghost_of = Unit {0}
Fails BadToml ghost_of = ghost_of ≡ Err BadToml
Fails (MissingKey key) ghost_of = ghost_of ≡ Err (MissingKey key)
Fails (OutOfRange key) ghost_of = ghost_of ≡ Err (OutOfRange key)
Fails (Guest t line fault) ghost_of = ghost_of ≡ Err (Guest t line fault)

-- a call returns the intended value, as it is viewed, or the intended error; out of memory is the
-- exception
abbrev pub Gives : {X Y : Type 0} → (X → Y) → Result X BootError → Result Y BootError → Type 0
Gives view (Ok x) ghost_of = ghost_of ≡ Ok (view x)
Gives view (Err e) ghost_of = Fails e ghost_of

-- the home of a thread, and its program
abbrev pub plan_home_of : BootPlan → ℕ → ℕ
plan_home_of plan t = slice_index (map (λ task. task.home) plan.tasks) t

abbrev pub plan_program_of : BootPlan → ℕ → List Instruction
plan_program_of plan t = slice_index_or (map (λ task. task.program) plan.tasks) t []

-- a thread of so many CPUs and buffers: one of the CPUs is its home, and its program names only
-- these buffers
pub record IsTask (cpus buffers : ℕ) (task : Task) : Type 0 where
  pub home : task.home < cpus
  pub program : IsProgram task.program
  pub known : All (λ i. IsTrue (names_below buffers i)) task.program

-- the capacities of the buffers, at least one and at most BUFFERS
pub record AreCaps (caps : List ℕ) : Type 0 where
  pub some : 1 ≤ length caps
  pub most : length caps ≤ BUFFERS
  pub each : All IsCapacity caps

-- at least one thread, and at most THREADS
pub record AreTasks (cpus buffers : ℕ) (tasks : List Task) : Type 0 where
  pub some : 1 ≤ length tasks
  pub most : length tasks ≤ THREADS
  pub each : All (IsTask cpus buffers) tasks

-- a plan is within all limits
pub record IsPlan (plan : BootPlan) : Type 0 where
  pub some_cpus : 1 ≤ plan.cpus
  pub most_cpus : plan.cpus ≤ CPUS
  pub some_trace : 1 ≤ plan.trace
  pub most_trace : plan.trace ≤ TRACE
  pub caps : AreCaps plan.caps
  pub tasks : AreTasks plan.cpus (length plan.caps) plan.tasks
