-- One CPU over a layer of message calls: what it does next, why it is halted, and its invariant.
-- Lists of entries are newest first; a trace is oldest first.
use Rattle.std.specs.Prelude.{◌≡◌, ℕ, ◌+◌, ◌≤◌, ◌==◌, Bool, true, false, not, ◌&&◌, List, [], ◌∷◌}
use Rattle.std.specs.Prelude.{◌++◌, length, map, filter, count_by, reverse, Option, Some, None}
use Rattle.std.specs.Prelude.{is_some, option_map, slice_index_or, slice_set, if◌then◌else◌}
use Rattle.std.specs.List.{AllByRecursion, list_all}
use Rattle.event_log.specs.declared.{entries.Entry.Entry, ids.{CpuId.CpuId, Tid.Tid}}
use Rattle.event_log.specs.{declared.ids.TheConstants.THREADS, History.AreForeign, Actions.Action}
use Rattle.{event_log.specs.Actions.cpu_of_action, thread_blocks.specs.Queues.is_in}
use Rattle.guest.specs.{declared.instructions.Instruction.Instruction, Instructions.instruction_at}
use Rattle.{guest.specs.Instructions.names_below, layer_traits.specs.declared.calls.Call.Call}
use Rattle.layer_traits.specs.declared.{calls.{Effect.Effect, Reply.Reply}, steps.Reason.Reason}
use Rattle.layer_traits.specs.declared.steps.{Reason.TheVariants.{AllEnded, TraceFull}, Step.Step}
use Rattle.layer_traits.specs.declared.steps.Step.TheVariants.{Stepped, Halted}
use Rattle.layer_traits.specs.declared.{call_states.CallState.CallState, passes.Pass.Pass}
use Rattle.layer_traits.specs.declared.passes.Pass.TheVariants.{Switch, YieldNow, Drain, MakeReady}
use Rattle.layer_traits.specs.{declared.passes.Pass.TheVariants.End, Threads.Places.Threads}
use Rattle.layer_traits.specs.{Threads.Places.home_of, Layers.BufferLaw.{UnderWay, Calling}}
use Rattle.layer_traits.specs.Layers.BufferLaw.{Passing, buffer_of, cpu_of_entry, call_state_of}
use Rattle.{layer_traits.specs.Layers.BufferLaw.reply_of, cpu.specs.declared.guests.Guest.Guest}
use Rattle.cpu.specs.declared.guests.NextAction.{NextAction, TheVariants.{Finish, PassOn, Compute}}
use Rattle.cpu.specs.declared.{guests.NextAction.TheVariants.Calls, cpus.Choice.Choice}
use Rattle.cpu.specs.{declared.cpus.Choice.TheVariants.{Polls, Passes, Computes}, Guests.HasCome}
use Rattle.cpu.specs.Guests.{after_pass, computed, entries_of, fresh_effect, is_begun, is_calling}
use Rattle.cpu.specs.Guests.{is_ended, polled, todo_of}

-- the guest of a thread, in a table by thread
abbrev pub guest_at : List (Option Guest) → ℕ → Option Guest
guest_at guests t = slice_index_or guests t None

-- the table with a thread's guest changed
abbrev pub with_guest : List (Option Guest) → ℕ → (Guest → Guest) → List (Option Guest)
with_guest guests t f = slice_set guests t (option_map f (guest_at guests t))

-- the effect that a poll of a thread's call had
abbrev pub fresh_at : Option Guest → Option Effect → Option Effect
fresh_at None effect = None
fresh_at (Some g) effect = fresh_effect g.stage effect

-- the table after a pass is done, which began while this thread ran
abbrev pub passed_by : Option Tid → List (Option Guest) → Pass → List (Option Guest)
passed_by None guests pass = guests
passed_by (Some t) guests pass = with_guest guests t.0 (after_pass pass)

-- No thread runs: the hand is emptied first, then the first ready thread runs; if none is ready,
-- the pending threads are taken.
abbrev pub chosen_idle : Option Tid → List Tid → Choice
chosen_idle (Some s) ready = Passes (MakeReady s)
chosen_idle None [] = Passes Drain
chosen_idle None (t ∷ rest) = Passes Switch

-- what a thread does next
abbrev pub chosen_todo : Tid → NextAction → Choice
chosen_todo t (Calls c) = Polls t c
chosen_todo t Finish = Passes End
chosen_todo t PassOn = Passes YieldNow
chosen_todo t Compute = Computes t

-- a thread runs: its call continues, or the hand is emptied first
abbrev pub chosen_by : Tid → Bool → Option Tid → NextAction → Choice
chosen_by t true hand todo = chosen_todo t todo
chosen_by t false None todo = chosen_todo t todo
chosen_by t false (Some s) todo = Passes (MakeReady s)

abbrev pub chosen_for : Tid → Option Tid → Option Guest → Choice
chosen_for t hand None = Passes Drain
chosen_for t hand (Some g) = chosen_by t (is_calling g.stage) hand (todo_of g)

abbrev pub chosen_at : Option Tid → Option Tid → List Tid → List (Option Guest) → Choice
chosen_at None hand ready guests = chosen_idle hand ready
chosen_at (Some t) hand ready guests = chosen_for t hand (guest_at guests t.0)

-- what a CPU that is not halted does next
abbrev pub chosen : Threads → List (Option Guest) → Choice
chosen local guests = chosen_at local.current local.hand local.ready guests

-- a guest is at this message call
abbrev pub stands_at_call : Option Guest → Call → Type 0
stands_at_call None call = ⊥
stands_at_call (Some g) call = todo_of g ≡ Calls call

-- the guest of this thread, if there is one, is at this call
abbrev pub IsKept : Option Tid → Call → List (Option Guest) → Type 0
IsKept by call guests = (t : Tid) → by ≡ Some t → stands_at_call (guest_at guests t.0) call

-- what is under way while a choice is being done
abbrev pub under_way_of : Choice → Option UnderWay
under_way_of (Polls t c) = Some (Calling t)
under_way_of (Passes pass) = Some (Passing pass)
under_way_of (Computes t) = None

-- whether this is a guest in a call that has not taken effect
abbrev pub is_begun_guest : Option Guest → Bool
is_begun_guest None = false
is_begun_guest (Some g) = is_begun g.stage

-- how many calls have begun and not taken effect
abbrev pub begun_count : List (Option Guest) → ℕ
begun_count guests = count_by is_begun_guest guests

-- whether no guest is left to run
abbrev pub is_over : Option Guest → Bool
is_over None = true
is_over (Some g) = is_ended g.stage

-- whether a choice begins a call
abbrev pub begins_at : Option Guest → Bool
begins_at None = false
begins_at (Some g) = not (is_calling g.stage)

abbrev pub begins_call : Choice → List (Option Guest) → Bool
begins_call (Polls t c) guests = begins_at (guest_at guests t.0)
begins_call (Passes pass) guests = false
begins_call (Computes t) guests = false

-- why a CPU with no section under way is halted: all its threads have ended, or the trace has no
-- room for the call that would begin
abbrev pub cpu_halted_at : Threads → List (Option Guest) → List Entry → ℕ → Option Reason
cpu_halted_at local guests trace limit =
    if not (is_some local.hand) && list_all is_over guests
    then Some AllEnded
    else (if begins_call (chosen local guests) guests
    && (length trace + begun_count guests == limit)
    then Some TraceFull else None)

-- a CPU with a section under way is not halted
abbrev pub reason_in : Bool → Option Reason → Option Reason
reason_in true halted = None
reason_in false halted = halted

-- the result of a step
abbrev pub step_answer : Option Reason → Step
step_answer None = Stepped
step_answer (Some reason) = Halted reason

-- a CPU's entries
abbrev pub of_cpu : CpuId → List Entry → List Entry
of_cpu c es = filter (λ e. e.cpu.0 == c.0) es

-- a thread's entries
abbrev pub of_thread : ℕ → List Entry → List Entry
of_thread t es = filter (λ e. e.thread.0 == t) es

-- the programs of a table's guests
abbrev pub programs_of : List (Option Guest) → List (Option (List Instruction))
programs_of guests = map (λ g. option_map (λ x. x.program) g) guests

-- each guest agrees with its entries and its call state
abbrev pub AllFollow : List (Option Guest) → List Entry → List CallState → Type 0
AllFollow guests es call_states =
    (t : Tid) (g : Guest) → guest_at guests t.0 ≡ Some g
    → HasCome g (of_thread t.0 es) (call_state_of call_states t)

-- the guests of the threads that have ended are at their end
abbrev pub AreOver : List (Option Guest) → List Tid → Type 0
AreOver guests ended =
    (t : Tid) → is_in t ended ≡ true → (g : Guest) → guest_at guests t.0 ≡ Some g
    → is_ended g.stage ≡ true

-- a program names only buffers below this number
abbrev pub NamesBelow : ℕ → List Instruction → Type 0
NamesBelow buffers program = (line : ℕ) → names_below buffers (instruction_at program line) ≡ true

-- an entry is of this CPU, and of a thread whose home CPU it is
pub record IsOfHome (homes : List CpuId) (number : CpuId) (e : Entry) : Type 0 where
  pub cpu : e.cpu.0 ≡ number.0
  pub home : home_of homes e.thread ≡ Some number

-- the invariant of a CPU
pub record IsCpu (homes : List CpuId) (buffers : ℕ) (history : List Entry) (local : Threads)
    (call_states : List CallState) (under_way : Option UnderWay)
    (number : CpuId)
    (guests : List (Option Guest)) (trace : List Entry) (limit capacity : ℕ) : Type 0 where
  -- its trace has each of its effects once, in their order, and each is of a home thread
  pub kept : trace ≡ reverse (of_cpu number history)
  pub stays : AllByRecursion (IsOfHome homes number) (of_cpu number history)
  -- each guest agrees with its entries; each home thread has a guest, whose program names only the
  -- machine's buffers
  pub follow : AllFollow guests (of_cpu number history) call_states
  pub over : AreOver guests local.ended
  pub homed : (t : Tid) → home_of homes t ≡ Some number
      → (g : Guest) × (guest_at guests t.0 ≡ Some g)
  pub named : (t : Tid) (g : Guest) → guest_at guests t.0 ≡ Some g → NamesBelow buffers g.program
  pub few : length guests ≤ THREADS
  -- what is under way is what would be chosen; a call that is under way has begun; a thread in no
  -- call has no woken thread in hand
  pub agrees : (d : UnderWay) → under_way ≡ Some d → under_way_of (chosen local guests) ≡ Some d
  pub calls : (t : Tid) (g : Guest) → under_way ≡ Some (Calling t) → guest_at guests t.0 ≡ Some g
      → is_calling g.stage ≡ true
  pub handed : (t : Tid) → local.current ≡ Some t → under_way ≡ None → local.hand ≡ None
  -- the trace has room for the entries of all calls that have begun
  pub room : length trace + begun_count guests ≤ limit
  pub reserved : limit ≤ capacity

-- the effects grow by those of the environment, then by at most one of this CPU
pub record SeenGrows (ActsFor : CpuId → Type 0) (cpu : CpuId) (old new : List Entry) : Type 0 where
  pub others : List Entry
  pub mine : List Entry
  pub foreign : AreForeign ActsFor cpu_of_entry others
  pub local : AllByRecursion (λ e. e.cpu ≡ cpu) mine
  pub few : length mine ≤ 1
  pub is : new ≡ mine ++ (others ++ old)

-- the actions grow by those of the environment, then by this CPU's
pub record ActsGrow {N : Type 0} (ActsFor : CpuId → Type 0) (cpu : CpuId)
    (old new : List (Action N)) : Type 0 where
  pub others : List (Action N)
  pub mine : List (Action N)
  pub foreign : AreForeign ActsFor cpu_of_action others
  pub local : AllByRecursion (λ a. cpu_of_action a ≡ cpu) mine
  pub is : new ≡ mine ++ (others ++ old)

-- a call that has a reply has taken effect, and the reply is that effect's
abbrev pub Replies : Call → Option Effect → Option Reply → Type 0
Replies call effect None = Unit {0}
Replies call effect (Some reply) = (f : Effect) × (effect ≡ Some f) × (reply ≡ reply_of call f)

-- What a step of CPU c makes of its guests and its trace. Nothing changes, or a thread executes an
-- instruction that shares nothing, or a pass ends, or the call at which a thread is gets polled. In
-- a poll the call begins if it had not begun (stage `Idle`). It takes effect if the effect is
-- fresh, and the effect's entry is then the trace's last. It returns if it has a reply, which is
-- its effect's.
pub data GuestsWent (c : CpuId) (guests : List (Option Guest)) (trace : List Entry)
    (guests2 : List (Option Guest)) (trace2 : List Entry) : Type 0 where
  guests_rest : guests2 ≡ guests → trace2 ≡ trace → GuestsWent c guests trace guests2 trace2
  guest_computes : (t : Tid) → guests2 ≡ with_guest guests t.0 computed → trace2 ≡ trace
      → GuestsWent c guests trace guests2 trace2
  guest_passes : (t : Tid) (pass : Pass) → guests2 ≡ with_guest guests t.0 (after_pass pass)
      → trace2 ≡ trace → GuestsWent c guests trace guests2 trace2
  guest_calls : (t : Tid) (g : Guest) (call : Call) (effect : Option Effect) (answer : Option Reply)
      → guest_at guests t.0 ≡ Some g → todo_of g ≡ Calls call
      → Replies call effect answer → guests2 ≡ with_guest guests t.0 (λ x. polled x effect answer)
      → trace2 ≡ trace ++ entries_of c t (buffer_of call) (fresh_effect g.stage effect)
      → GuestsWent c guests trace guests2 trace2
