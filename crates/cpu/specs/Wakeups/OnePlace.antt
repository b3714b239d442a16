-- Every thread has exactly one place: it runs, is ready, is in a hand, is pending, sleeps at a lock
-- or waits at a buffer.
use Rattle.std.specs.Prelude.{◌≡◌, ℕ, zero, suc, Bool, not, ◌&&◌, nat_lt, List, [], ◌++◌, length}
use Rattle.std.specs.Prelude.{Option, Some, None, option_to_list, slice_get}
use Rattle.event_log.specs.declared.ids.{Tid.Tid, LockId.TheVariants.{Pending, Buffer as AtBuffer}}
use Rattle.{layer_traits.specs.Threads.Places.{one_if, count_in}, cpu.specs.Table.Blocks.Block}
use Rattle.cpu.specs.Table.{Blocks.{OfBuffer, OfPending}, Setups.{SystemConfig, Thread, CpuLocal}}
use Rattle.cpu.specs.Table.{Setups.{new_thread, thread_at, home_cpu}, Steps.SystemState}
use Rattle.cpu.specs.Table.{Steps.{IsReached, cpu_numbered, block_at}, Worked.buffer_numbered}
use Rattle.cpu.specs.Wakeups.Quiet.{HomesExist}

-- the threads that a CPU has: the running one, those that are ready, the one in its hand
abbrev pub own_queues : Option CpuLocal → List Tid
own_queues None = []
own_queues (Some p) = (option_to_list p.current ++ p.ready) ++ option_to_list p.hand

-- the threads that a block has; its lines are no places, because a thread in a line is in a place
-- elsewhere
abbrev pub queues_in : Option Block → List Tid
queues_in None = []
queues_in (Some (OfBuffer k)) = k.sleepers ++ (k.waiting_receivers ++ k.waiting_senders)
queues_in (Some (OfPending threads)) = threads

-- the lists of the numbers below n, joined
abbrev pub all_of : (ℕ → List Tid) → ℕ → List Tid
all_of f zero = []
all_of f (suc n) = all_of f n ++ f n

abbrev pub threads_on_cpu : SystemState → ℕ → List Tid
threads_on_cpu s n = own_queues (slice_get s.cpus n)

abbrev pub of_pending : SystemConfig → SystemState → ℕ → List Tid
of_pending setup s n = queues_in (block_at setup (Pending (cpu_numbered n)) s.log)

abbrev pub of_buffer : SystemConfig → SystemState → ℕ → List Tid
of_buffer setup s n = queues_in (block_at setup (AtBuffer (buffer_numbered n)) s.log)

-- all queues of a system
abbrev pub everyone : SystemConfig → SystemState → List Tid
everyone setup s =
    all_of (threads_on_cpu s) setup.cpus
    ++ (all_of (of_pending setup s) setup.cpus ++ all_of (of_buffer setup s) (length setup.caps))

abbrev pub thread_in : Option CpuLocal → Tid → Thread
thread_in None t = new_thread
thread_in (Some p) t = thread_at p t

-- a thread of a system, and whether it has not ended
abbrev pub thread_in_whole : SystemConfig → SystemState → Tid → Thread
thread_in_whole setup s t = thread_in (slice_get s.cpus (home_cpu setup t).0) t

abbrev pub is_live : SystemConfig → SystemState → Tid → Bool
is_live setup s t = nat_lt t.0 (length setup.homes) && not (thread_in_whole setup s t).ended

-- in every state that a system reaches, each live thread is in its queues exactly once, and no
-- other number is
abbrev pub StandInOnePlace : Type 0
StandInOnePlace =
    (setup : SystemConfig) (room : ℕ) (s : SystemState) → HomesExist setup → IsReached setup room s
    → (t : Tid) → count_in t (everyone setup s) ≡ one_if (is_live setup s t)
