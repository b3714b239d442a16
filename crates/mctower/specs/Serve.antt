-- What serving an order gives: the result, what is on standard output and on standard error, and
-- whether the input is read.
use Rattle.std.specs.Prelude.{◌≡◌, ◌*◌, ◌++◌, ◌⊎◌, ℕ, Bool, true, false, List, [], ◌∷◌, Option}
use Rattle.std.specs.Prelude.{Some, None, Result, Ok, Err, Vec, IfSome, IsUtf8, codes, decimal}
use Rattle.std.specs.{Prelude.{if◌then◌else◌, is_some, map, string_bytes, String}, Global.Global}
use Rattle.std.specs.declared.io.ErrorKind.{ErrorKind, TheVariants.{OutOfMemory, InvalidData}}
use Rattle.{clap.specs.Walk.Text, event_log.specs.declared.ids.CpuId.CpuId}
use Rattle.event_log.specs.Streams.{IsFirstInFirstOut}
use Rattle.boot.specs.declared.refusals.BootError.{BootError, TheVariants.BadToml}
use Rattle.boot.specs.{declared.locks.LockKind.LockKind, Plan.{BootPlan, plan_of}}
use Rattle.tracer.specs.declared.{verdicts.Verdict.Verdict, checking.InputFault.InputFault}
use Rattle.tracer.specs.{Judging.verdict_of, Verdicts.IsTraceOfRun, Gather.on_buffer}
use Rattle.mctower.specs.{Line.{Ghost, count, order_of, run, threads, check}, Output.IsTold}
use Rattle.mctower.specs.{Output.{IsUntouched, Output}, Refusals.{PutsRefusal, lacks_memory}}
use Rattle.mctower.specs.Refusals.{lacks_thread, status_of_refusal}
use Rattle.mctower.specs.declared.refusals.Refusal.{Refusal, TheVariants.{BadLine, BadCpu}}
use Rattle.mctower.specs.declared.refusals.Refusal.TheVariants.{ReadFault, WriteFault, BadSchedule}
use Rattle.mctower.specs.declared.refusals.Refusal.TheVariants.{Plan as BadPlan}
use Rattle.mctower.specs.declared.refusals.line_faults.LineFault.{LineFault, TheVariants.NotText}
use Rattle.mctower.specs.declared.refusals.line_faults.NoOrder.TheVariants.{AsksHelp, AsksVersion}
use Rattle.mctower.specs.declared.{line.help_texts.TheConstants.VERSION, serve.outcomes.Done.Done}
use Rattle.mctower.specs.declared.serve.outcomes.Done.TheVariants.{Exit, Ran, Worked, BothCounted}
use Rattle.mctower.specs.{declared.tell.state_lines.State.State, Running.{AreCpus, IsRunOf}}
use Rattle.mctower.specs.{Running.NoCondition, Faults.{IsFault, IsWhy}, Help.{help_of, topic_of}}
use Rattle.mctower.specs.{State.{IsStateOf, text_of_state}, Schedule.steps_of, Tabled.IsStateOfRun}
use Rattle.mctower.specs.{Tabled.IsTextOfRun, Texts.IsTextOf, Threads.{IsWorkedPlan, stop_text}}
use Rattle.cpu.specs.Claims.{SystemView, traces_of}
use Rattle.cpu_workers.specs.declared.{workers.stops.Stop.Stop, counting.counted.Counted.Counted}
use Rattle.cpu_workers.specs.declared.counting.counted.CountedAt.{CountedAt, TheVariants.Machine}
use Rattle.cpu_workers.specs.declared.counting.counted.CountedAt.TheVariants.{Table}
use Rattle.tracer.specs.declared.verdicts.Verdict.TheVariants as verdict
use Rattle.tracer.specs.Reasons as reasons
use Rattle.tracer.specs.declared.checking.InputFault.TheVariants as unjudged

-- the exit status of a result
abbrev pub status_of : Result Done Refusal → ℕ
status_of (Ok (Exit status)) = status
status_of (Ok (BothCounted plain table)) = 0
status_of (Ok (Ran state)) = 0
status_of (Ok (Worked stops)) = 0
status_of (Err refusal) = status_of_refusal refusal

-- the result is this error, and nothing was written
abbrev pub RefusedBy : Refusal → Result Done Refusal → Output → Type 0
RefusedBy refusal answer out = (answer ≡ Err refusal) × IsUntouched out

-- The text is written and flushed, and the result is that this is done. Or the output failed, a
-- prefix of the text is written, and that is the result.
abbrev pub Puts : Done → List ℕ → Result Done Refusal → Output → Type 0
Puts done text answer out =
    (answer ≡ (if out.failed then Err WriteFault else Ok done)) × IsTold out text

-- ---- the input

-- the text is all that was on standard input, where that is known
abbrev pub IsInput : Option (List ℕ) → List ℕ → Type 0
IsInput input text = IfSome input (λ known. text ≡ known)

-- the error of a failed read: out of memory is separated from a fault of the input
abbrev pub kind_refused : ErrorKind → Refusal
kind_refused OutOfMemory = lacks_memory
kind_refused kind = ReadFault

-- the error if the words could not be had: one that is no text makes a bad command line
abbrev pub words_refused : ErrorKind → Refusal
words_refused InvalidData = BadLine NotText
words_refused kind = kind_refused kind

-- the error of an input that was not judged
abbrev pub fault_refused : InputFault → Refusal
fault_refused (unjudged.NoMemory refused) = lacks_memory
fault_refused (unjudged.ReadFault kind) = kind_refused kind

-- all of the input was read, or the reader failed or had no memory
abbrev pub ReadsAll : {A : Type 0} → Option (List ℕ) → Result (Vec ℕ A) Refusal → Type 0
ReadsAll input (Ok bytes) = IsInput input bytes.items
ReadsAll input (Err refusal) = (kind : ErrorKind) × (refusal ≡ kind_refused kind)

-- ---- count

-- the two lines that `count` prints
abbrev pub count_lines : ℕ → List ℕ
count_lines number =
    codes "plain " ++ (decimal number ++ (codes "\ntable " ++ (decimal number ++ 10 ∷ [])))

-- so many CPUs counted, so many sections each, under locks of this kind, on such a machine
abbrev pub IsCount : ℕ → ℕ → LockKind → CountedAt → Counted → Type 0
IsCount cpus times lock at counted =
    (counted.cpus ≡ cpus) × (counted.times ≡ times) × (counted.lock ≡ lock) × (counted.at ≡ at)

-- Both machines counted so, and their number is printed; what counted is what is done. Or the order
-- fails, because memory ran out or a thread could not be started.
abbrev pub Counts : ℕ → ℕ → LockKind → Result Done Refusal → Output → Type 0
Counts cpus times lock answer out = RefusedBy lacks_memory answer out
    ⊎ (RefusedBy lacks_thread answer out
    ⊎ ((plain : Counted) × (table : Counted) × IsCount cpus times lock Machine plain
    × IsCount cpus times lock Table table
    × Puts (BothCounted plain table) (count_lines (times * cpus)) answer out))

-- ---- check

-- a verdict is printed: a yes with status 0, or a no with the line's number and the reason's name
-- with status 3
abbrev pub PrintsVerdict : Verdict → Result Done Refusal → Output → Type 0
PrintsVerdict verdict.Yes answer out = Puts (Exit 0) (codes "yes\n") answer out
PrintsVerdict (verdict.No line reason) answer out =
    Puts (Exit 3) (codes "no "
    ++ (decimal line ++ (codes " " ++ (reasons.reason_name reason ++ codes "\n")))) answer out
PrintsVerdict (verdict.NoMemory refused) answer out = RefusedBy lacks_memory answer out

-- The verdict on the input is printed, or the input was not read. After a yes the input is the
-- trace text of a legal history, and of what that leaves.
abbrev pub Checks : Option (List ℕ) → Result Done Refusal → Output → Type 0
Checks input answer out = RefusedBy lacks_memory answer out
    ⊎ (RefusedBy ReadFault answer out
    ⊎ ((text : List ℕ) × IsInput input text × PrintsVerdict (verdict_of text) answer out
    × (verdict_of text ≡ verdict.Yes → IsTraceOfRun text)))

-- ---- plans

-- what an order means for a plan, of the result and of standard output
abbrev pub Meaning : Type 1
Meaning = BootPlan → Result Done Refusal → Output → Type 0

-- what is meant for a plan holds; or the text is no plan, and its first fault is the error
abbrev pub OfPlan : Meaning → Result BootPlan BootError → Result Done Refusal → Output → Type 0
OfPlan Means (Ok plan) answer out = Means plan answer out
OfPlan Means (Err error) answer out = RefusedBy (BadPlan error) answer out

-- it holds for the plan of these bytes; bytes that are no UTF-8 are no document; unless memory ran
-- out
abbrev pub OfBytes : Meaning → List ℕ → Result Done Refusal → Output → Type 0
OfBytes Means bytes answer out = RefusedBy lacks_memory answer out
    ⊎ (((¬ IsUtf8 bytes) × RefusedBy (BadPlan BadToml) answer out)
    ⊎ (IsUtf8 bytes × OfPlan Means (plan_of bytes) answer out))

-- it holds for the input's plan, or the input was not read
abbrev pub OfInput : Meaning → Option (List ℕ) → Result Done Refusal → Output → Type 0
OfInput Means input answer out = RefusedBy lacks_memory answer out
    ⊎ (RefusedBy ReadFault answer out
    ⊎ ((bytes : List ℕ) × IsInput input bytes × OfBytes Means bytes answer out))

-- ---- run

-- the report is the system's state, which is that of the step table's system; or the output failed
abbrev pub ReportsRun : BootPlan → List CpuId → SystemView → Result Done Refusal → Bool → Type 0
ReportsRun plan steps s answer false =
    (state : State) × IsStateOf NoCondition s state × IsStateOfRun plan steps state
    × (answer ≡ Ok (Ran state))
ReportsRun plan steps s answer true = answer ≡ Err WriteFault

-- the text is written and flushed, and the report is the system's state; or the output failed, and
-- a prefix of the text is written
abbrev pub PutsRun : BootPlan → List CpuId → SystemView → List ℕ → Result Done Refusal → Output
    → Type 0
PutsRun plan steps s text answer out = ReportsRun plan steps s answer out.failed × IsTold out text

-- The plan's system took the steps, by the step table, and its trace text is written. In the text's
-- order, for each buffer the values put are, in that order, the values taken, followed by what is
-- left. Each buffer's calls are in the order in which they took effect. It is the text of the step
-- table's system of the plan after these steps.
pub record RunsTrace (plan : BootPlan) (steps : List CpuId) (answer : Result Done Refusal)
    (printed : Output) : Type 0 where
  pub cpus : AreCpus plan.cpus steps
  pub system : SystemView
  pub ran : IsRunOf NoCondition plan steps system
  pub trace : List ℕ
  pub traced : IsTextOf plan.caps (traces_of system) system.contents trace
  pub fifo : IsFirstInFirstOut traced.order system.contents
  pub in_time : (b : ℕ) → on_buffer b traced.order ≡ on_buffer b system.order
  pub table : IsTextOfRun plan steps trace
  pub put : PutsRun plan steps system trace answer printed

-- the plan is run over the tower, or a step is of no CPU of it
abbrev pub ServesPlan : List CpuId → BootPlan → Result Done Refusal → Output → Type 0
ServesPlan steps plan answer out =
    ((¬ AreCpus plan.cpus steps) × RefusedBy BadCpu answer out) ⊎ RunsTrace plan steps answer out

-- the steps that a schedule asks for: none without one
abbrev pub steps_asked : Option Text → Option (List CpuId)
steps_asked None = Some []
steps_asked (Some text) = steps_of text

-- the steps are run, which means this of a plan; a text that is no schedule is a bad command line,
-- unless memory ran out
abbrev pub RunsAsked : (List CpuId → Meaning) → Option (List CpuId) → Option (List ℕ)
    → Result Done Refusal → Output → Type 0
RunsAsked Means (Some steps) input answer out = OfInput (Means steps) input answer out
RunsAsked Means None input answer out =
    RefusedBy lacks_memory answer out ⊎ RefusedBy BadSchedule answer out

-- ---- threads

-- the plan's workers have run, each for so many turns, and the trace text of what they left is
-- written; the report is their stops
pub record WorksTrace (plan : BootPlan) (turns : ℕ) (answer : Result Done Refusal)
    (printed : Output) : Type 0 where
  pub stops : Vec Stop Global
  pub trace : List ℕ
  pub worked : IsWorkedPlan plan turns stops.items trace
  pub put : Puts (Worked stops) trace answer printed

-- the plan's workers have run, or a thread could not be started
abbrev pub WorksPlan : ℕ → BootPlan → Result Done Refusal → Output → Type 0
WorksPlan turns plan answer out =
    RefusedBy lacks_thread answer out ⊎ WorksTrace plan turns answer out

-- ---- no order

-- the line with the program's name and its version
abbrev pub version_line : List ℕ
version_line = codes "mctower " ++ (VERSION.now ++ 10 ∷ [])

-- the line with the version, and the help on the words' command
abbrev pub help_text : List Text → List ℕ
help_text words = codes "mctower " ++ (VERSION.now ++ (10 ∷ help_of (topic_of words)))

-- Words that make no order: the help or the version that they ask for is written, with status 2. Or
-- they are rejected for what is wrong with them, and nothing is written. Memory may run out.
abbrev pub PutsAnswer : List Text → Result Done Refusal → Output → Type 0
PutsAnswer words answer out = RefusedBy lacks_memory answer out
    ⊎ ((IsWhy words AsksHelp × Puts (Exit 2) (help_text words) answer out)
    ⊎ ((IsWhy words AsksVersion × Puts (Exit 2) version_line answer out)
    ⊎ ((fault : LineFault) × IsFault words fault × RefusedBy (BadLine fault) answer out)))

-- ---- any order

-- Serving what the words mean: the result, and what became of standard output. The bytes on
-- standard input are `input`, if they are known. Memory may run out, or the input may fail, in any
-- case. `OfRun` is what a run of a plan by these steps means, and `OfThreads` what so many turns of
-- its workers mean.
abbrev pub ServesBy : (List CpuId → Meaning) → (ℕ → Meaning)
    → List Text → Option Ghost → Option (List ℕ) → Result Done Refusal → Output → Type 0
ServesBy OfRun OfThreads words None input answer out = PutsAnswer words answer out
ServesBy OfRun OfThreads words (Some (count cpus times lock)) input answer out =
    Counts cpus times lock answer out
ServesBy OfRun OfThreads words (Some check) input answer out = Checks input answer out
ServesBy OfRun OfThreads words (Some (run schedule)) input answer out =
    RunsAsked OfRun (steps_asked schedule) input answer out
ServesBy OfRun OfThreads words (Some (threads turns)) input answer out =
    OfInput (OfThreads turns) input answer out

-- a run of a plan is one of its tower, and its workers leave a lawful report
abbrev pub Serves : List Text → Option Ghost → Option (List ℕ) → Result Done Refusal → Output
    → Type 0
Serves words ghost_of input answer out =
    ServesBy ServesPlan WorksPlan words ghost_of input answer out

-- ---- standard error

-- What is written to standard error and flushed, by the result for these words:
-- - after a successful run the state lines, and after one in threads why each worker stopped;
-- - after a yes, a no, a count, the help or the version nothing;
-- - else the report of the error.
abbrev pub Reports : List Text → Result Done Refusal → Output → Type 0
Reports words (Ok (Exit status)) out = IsUntouched out
Reports words (Ok (BothCounted plain table)) out = IsUntouched out
Reports words (Ok (Ran state)) out = IsTold out (text_of_state state)
Reports words (Ok (Worked stops)) out = IsTold out (stop_text stops.items)
Reports words (Err refusal) out = PutsRefusal words refusal out

-- A command line is served, where a run of a plan and its workers mean this: one result determines
-- the exit status, standard output and standard error.
pub record EndsBy (OfRun : List CpuId → Meaning) (OfThreads : ℕ → Meaning)
    (words : List Text) (ghost_of : Option Ghost) (input : Option (List ℕ)) (status : ℕ)
    (out err : Output) : Type 0 where
  pub answer : Result Done Refusal
  pub ends : status ≡ status_of answer
  pub served : ServesBy OfRun OfThreads words ghost_of input answer out
  pub told : Reports words answer err

abbrev pub Ends : List Text → Option Ghost → Option (List ℕ) → ℕ → Output → Output → Type 0
Ends words ghost_of input status out err =
    EndsBy ServesPlan WorksPlan words ghost_of input status out err

-- The process ends: its words are served. Or they could not be had: nothing is written to standard
-- output, and standard error has the report of that.
abbrev pub EndsProcessBy : (List CpuId → Meaning) → (ℕ → Meaning)
    → {A B : Type 0} → Result (Vec (String A) B) Refusal → Option (List ℕ) → ℕ → Output → Output
    → Type 0
EndsProcessBy OfRun OfThreads (Ok words) input status out err =
    EndsBy OfRun OfThreads (map string_bytes words.items) (order_of (map string_bytes words.items))
    input status out err
EndsProcessBy OfRun OfThreads (Err refusal) input status out err =
    (status ≡ status_of_refusal refusal) × IsUntouched out × PutsRefusal [] refusal err

abbrev pub EndsProcess : {A B : Type 0} → Result (Vec (String A) B) Refusal → Option (List ℕ) → ℕ
    → Output → Output → Type 0
EndsProcess words input status out err =
    EndsProcessBy ServesPlan WorksPlan words input status out err

-- ---- standard input

-- whether the input is read for these words: for a check, for a run, unless its schedule is
-- invalid, and for a run in threads
abbrev pub reads_input : Option Ghost → Bool
reads_input None = false
reads_input (Some (count cpus times lock)) = false
reads_input (Some check) = true
reads_input (Some (run schedule)) = is_some (steps_asked schedule)
reads_input (Some (threads turns)) = true

-- whether it is read by a process: as its words say, and not where they could not be had
abbrev pub process_reads : {A B : Type 0} → Result (Vec (String A) B) Refusal → Bool
process_reads (Ok words) = reads_input (order_of (map string_bytes words.items))
process_reads (Err refusal) = false
