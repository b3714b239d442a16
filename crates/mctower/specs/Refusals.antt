-- Errors: which fault each is the error of, the exit status, and the text that reports it.
use Rattle.{std.specs.Prelude.{ℕ, List, codes}, clap.specs.Walk.Text}
use Rattle.{event_log.specs.Refusals.no_memory, mctower.specs.{Faults.fault_text, Output.IsTold}}
use Rattle.mctower.specs.{Output.Output, PlanFaults.plan_line, declared.refusals.Refusal.Refusal}
use Rattle.mctower.specs.declared.refusals.Refusal.TheVariants.{BadLine, NoMemory, BadCpu, NoThread}
use Rattle.mctower.specs.declared.refusals.Refusal.TheVariants.{NoOrder, ReadFault, WriteFault}
use Rattle.mctower.specs.declared.refusals.Refusal.TheVariants.{BadSchedule, Plan}
use Rattle.mctower.specs.declared.{run.run_faults.Fault.Fault, line.schedules.StepsError.StepsError}
use Rattle.cpu_workers.specs.declared.refusals.WorkerError.{WorkerError}
use Rattle.mctower.specs.declared.run.run_faults.Fault.TheVariants as run
use Rattle.mctower.specs.declared.line.schedules.StepsError.TheVariants as steps
use Rattle.cpu_workers.specs.declared.refusals.WorkerError.TheVariants as worker

-- the error for out of memory, of which each value is evidence: it is made only from the
-- allocator's failure
abbrev pub lacks_memory : Refusal
lacks_memory = NoMemory no_memory

-- the error for a thread that could not be started, which is evidence too: it is made only from a
-- failed start of a thread
abbrev pub lacks_thread : Refusal
lacks_thread = NoThread (record { refused = tt })

-- the error of a run that had this fault
abbrev pub from_fault : Fault → Refusal
from_fault (run.NoMemory refused) = NoMemory refused
from_fault (run.Boot error) = Plan error
from_fault run.BadCpu = BadCpu
from_fault run.NoOrder = NoOrder
from_fault run.WriteFault = WriteFault

-- the error if no worker took a step, or did no section of a count
abbrev pub from_worker : WorkerError → Refusal
from_worker (worker.NoMemory refused) = NoMemory refused
from_worker (worker.NoThread refused) = NoThread refused

-- the error of a text that is no schedule
abbrev pub from_steps : StepsError → Refusal
from_steps (steps.NoMemory refused) = NoMemory refused
from_steps steps.BadSchedule = BadSchedule

-- the exit status: 2 where the command line is a bad one, else 1
abbrev pub status_of_refusal : Refusal → ℕ
status_of_refusal (BadLine fault) = 2
status_of_refusal (NoMemory refused) = 1
status_of_refusal BadCpu = 1
status_of_refusal (NoThread refused) = 1
status_of_refusal NoOrder = 1
status_of_refusal ReadFault = 1
status_of_refusal WriteFault = 1
status_of_refusal BadSchedule = 2
status_of_refusal (Plan error) = 1

-- The report of an error for these words is written and flushed. It is what is wrong with them if
-- they are no command line, and for a plan why it is rejected. Else it is a line with the error's
-- name and number. If the sink failed, a prefix is written.
abbrev pub PutsRefusal : List Text → Refusal → Output → Type 0
PutsRefusal words (BadLine fault) out = IsTold out (fault_text words fault)
PutsRefusal words (NoMemory refused) out = IsTold out (codes "error: NoMemory(1)\n")
PutsRefusal words BadCpu out = IsTold out (codes "error: BadCpu(4)\n")
PutsRefusal words (NoThread refused) out = IsTold out (codes "error: NoThread(5)\n")
PutsRefusal words NoOrder out = IsTold out (codes "error: NoOrder(6)\n")
PutsRefusal words ReadFault out = IsTold out (codes "error: ReadFault(7)\n")
PutsRefusal words WriteFault out = IsTold out (codes "error: WriteFault(8)\n")
PutsRefusal words BadSchedule out = IsTold out (codes "error: BadSchedule(9)\n")
PutsRefusal words (Plan error) out = IsTold out (plan_line error)
