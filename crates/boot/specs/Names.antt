-- How a key of a plan is printed.
use Rattle.std.specs.Prelude.{ℕ, List, ◌++◌, codes, decimal}
use Rattle.boot.specs.declared.refusals.PlanKey.{PlanKey, TheVariants.{Cpus, Trace, Buffers, Lock}}
use Rattle.boot.specs.declared.refusals.PlanKey.TheVariants.{Threads, Cpu, Program}

-- a key's name; the name of a key in a thread's table is printed after the thread
abbrev pub key_name : PlanKey → List ℕ
key_name Cpus = codes "cpus"
key_name Trace = codes "trace"
key_name Buffers = codes "buffers"
key_name Lock = codes "lock"
key_name Threads = codes "thread"
key_name (Cpu t) = codes "thread " ++ decimal t.0 ++ codes " cpu"
key_name (Program t) = codes "thread " ++ decimal t.0 ++ codes " program"
