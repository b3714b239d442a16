-- Worked runs of small systems, each from boot under a schedule, and what they leave. Each is a
-- fact by computation.
use Rattle.std.specs.Prelude.{◌≡◌, ℕ, true, false, List, [], ◌∷◌, map, Bool, Option, Some, None}
use Rattle.std.specs.Prelude.{slice_get}
use Rattle.event_log.specs.declared.ids.{Tid.Tid, BufId.BufId, LockId.TheVariants.Pending}
use Rattle.event_log.specs.declared.{ids.LockId.TheVariants.Buffer as AtBuffer, entries.Kind.Kind}
use Rattle.event_log.specs.declared.entries.Kind.TheVariants.{Send as SendKind, Recv as RecvKind}
use Rattle.event_log.specs.{declared.entries.Entry.Entry, Messages.Message, Actions.{takes, gives}}
use Rattle.{event_log.specs.Actions.{phase, Waits}, layer_traits.specs.declared.steps.Reason.Reason}
use Rattle.layer_traits.specs.declared.steps.Reason.TheVariants.{AllEnded, TraceFull}
use Rattle.guest.specs.declared.instructions.Instruction.{Instruction, TheVariants.{Set, Add, Send}}
use Rattle.guest.specs.declared.instructions.Instruction.TheVariants.{Recv, Yield as YieldLine}
use Rattle.guest.specs.declared.instructions.Instruction.TheVariants.{Exit}
use Rattle.guest.specs.declared.instructions.{Target.TheVariants.One as ToOne, Register.Register}
use Rattle.guest.specs.declared.instructions.Register.TheVariants.{Reg0, Reg1}
use Rattle.guest.specs.declared.instructions.Source.TheVariants.{One as OfOne}
use Rattle.cpu.specs.Table.{Blocks.{Block, OfBuffer, OfPending}, Setups.{SystemConfig, Call}}
use Rattle.cpu.specs.Table.{Setups.{CpuLocal, thread_at}, Steps.{SystemState, cpu_numbered}}
use Rattle.cpu.specs.Table.Steps.{whole_at_boot, steps_by, block_at, halted_at}

abbrev pub thread : ℕ → Tid
thread n = record { 0 = n }

abbrev pub buffer_numbered : ℕ → BufId
buffer_numbered n = record { 0 = n }

-- so many steps of one CPU
pub record Burst : Type 0 where
  pub cpu : ℕ
  pub count : ℕ

abbrev pub of : ℕ → ℕ → Burst
of cpu count = record { cpu = cpu; count = count }

-- a system after a schedule
abbrev pub after_bursts : SystemConfig → List Burst → SystemState → SystemState
after_bursts setup [] s = s
after_bursts setup (burst ∷ more) s =
    after_bursts setup more (steps_by setup (cpu_numbered burst.cpu) burst.count s)

-- the same from boot, with room for 1000 steps
abbrev pub reached : SystemConfig → List Burst → SystemState
reached setup schedule = after_bursts setup schedule (whole_at_boot setup 1000)

-- What a system shows.

abbrev pub traces : SystemState → List (List Entry)
traces s = map (λ p. p.trace) s.cpus

abbrev pub currents : SystemState → List (Option Tid)
currents s = map (λ p. p.current) s.cpus

abbrev pub readies : SystemState → List (List Tid)
readies s = map (λ p. p.ready) s.cpus

abbrev pub hands : SystemState → List (Option Tid)
hands s = map (λ p. p.hand) s.cpus

-- whether each thread has ended, CPU by CPU
abbrev pub endings : SystemState → List (List Bool)
endings s = map (λ p. map (λ x. x.ended) p.threads) s.cpus

abbrev pub reason_of_cpu : SystemConfig → ℕ → Option CpuLocal → Option Reason
reason_of_cpu setup c None = None
reason_of_cpu setup c (Some p) = halted_at setup (cpu_numbered c) p

-- why a CPU takes no step
abbrev pub reason : SystemConfig → ℕ → SystemState → Option Reason
reason setup c s = reason_of_cpu setup c (slice_get s.cpus c)

abbrev pub thread_call : ℕ → Option CpuLocal → Option Call
thread_call t None = None
thread_call t (Some p) = (thread_at p (thread t)).call

-- the call that a thread of this CPU is in
abbrev pub call_of : ℕ → ℕ → SystemState → Option Call
call_of c t s = thread_call t (slice_get s.cpus c)

-- the block of a buffer, and the pending threads of a CPU
abbrev pub buffer_block_of : SystemConfig → ℕ → SystemState → Option Block
buffer_block_of setup b s = block_at setup (AtBuffer (buffer_numbered b)) s.log

abbrev pub pending_of : SystemConfig → ℕ → SystemState → Option Block
pending_of setup c s = block_at setup (Pending (cpu_numbered c)) s.log

-- the fields of a buffer in which it differs from a new one
pub record Parts : Type 0 where
  pub busy : Option Tid
  pub sleepers : List Tid
  pub waiting_receivers : List Tid
  pub waiting_senders : List Tid
  pub items : List Message

abbrev pub parts_in : Option Block → Option Parts
parts_in None = None
parts_in (Some (OfPending threads)) = None
parts_in (Some (OfBuffer k)) = Some (record {
  busy = k.busy;
  sleepers = k.sleepers;
  waiting_receivers = k.waiting_receivers;
  waiting_senders = k.waiting_senders;
  items = k.items;
})

-- what buffer 0 holds, and which threads wait for what at it
abbrev pub at_buffer_0 : SystemConfig → SystemState → Option Parts
at_buffer_0 setup s = parts_in (buffer_block_of setup 0 s)

-- buffer 0 with these items, for which no thread waits
abbrev pub leaves : List Message → Option Parts
leaves items =
    Some (record {
      busy = None;
      sleepers = [];
      waiting_receivers = [];
      waiting_senders = [];
      items = items;
    })

-- the same with a receiver, or a sender, that waits
abbrev pub receiver_waits : ℕ → List Message → Option Parts
receiver_waits t items =
    Some (record {
      busy = None;
      sleepers = [];
      waiting_receivers = thread t ∷ [];
      waiting_senders = [];
      items = items;
    })

abbrev pub sender_waits : ℕ → List Message → Option Parts
sender_waits t items =
    Some (record {
      busy = None;
      sleepers = [];
      waiting_receivers = [];
      waiting_senders = thread t ∷ [];
      items = items;
    })

abbrev pub as_entry : ℕ → ℕ → Kind → ℕ → Message → ℕ → ℕ → Entry
as_entry cpu t kind b m op pos =
    record {
      cpu = cpu_numbered cpu;
      thread = thread t;
      kind = kind;
      buffer = buffer_numbered b;
      value = m;
      op = op;
      pos = pos;
    }

-- Setups.

-- the home CPU of each thread by number, its program, the capacities and the room of a trace
abbrev pub setup_of : ℕ → List ℕ → List (List Instruction) → List ℕ → ℕ → SystemConfig
setup_of cpus homes programs caps trace_room =
    record {
      cpus = cpus;
      homes = map (λ n. cpu_numbered n) homes;
      programs = programs;
      caps = caps;
      trace_room = trace_room;
    }

-- a send of a register to buffer 0, and a receive from it to a register, without a target
abbrev pub send_from : Register → Instruction
send_from r = Send (buffer_numbered 0) (OfOne r) None

abbrev pub receive_into : Register → Instruction
receive_into r = Recv (buffer_numbered 0) (ToOne r) None

-- a program that sends a number, one that sends it twice, one that sends two numbers, and one that
-- receives
abbrev pub sends_one : ℕ → List Instruction
sends_one m = Set Reg0 m ∷ send_from Reg0 ∷ []

abbrev pub sends_twice : ℕ → List Instruction
sends_twice m = Set Reg0 m ∷ send_from Reg0 ∷ send_from Reg0 ∷ []

abbrev pub sends_two : ℕ → ℕ → List Instruction
sends_two m n = Set Reg0 m ∷ send_from Reg0 ∷ Set Reg0 n ∷ send_from Reg0 ∷ []

abbrev pub receives_one : List Instruction
receives_one = receive_into Reg0 ∷ []

-- one thread that sends once and ends
abbrev pub one_sender : SystemConfig
one_sender = setup_of 1 (0 ∷ []) ((Set Reg0 7 ∷ send_from Reg0 ∷ Exit ∷ []) ∷ []) (1 ∷ []) 4

-- one thread that sends twice into a buffer for one
abbrev pub two_sends : SystemConfig
two_sends = setup_of 1 (0 ∷ []) (sends_twice 7 ∷ []) (1 ∷ []) 4

-- a receiver on CPU 0 and a sender on CPU 1
abbrev pub two_cpus : SystemConfig
two_cpus = setup_of 2 (0 ∷ 1 ∷ []) (receives_one ∷ sends_one 7 ∷ []) (1 ∷ []) 4

-- receivers on CPUs 0 and 1, and on CPU 2 a thread that sends twice
abbrev pub two_receivers : SystemConfig
two_receivers =
    setup_of 3 (0 ∷ 1 ∷ 2 ∷ []) (receives_one ∷ receives_one ∷ sends_two 7 8 ∷ []) (2 ∷ []) 4

-- three senders on three CPUs
abbrev pub three_senders : SystemConfig
three_senders =
    setup_of 3 (0 ∷ 1 ∷ 2 ∷ []) (sends_one 1 ∷ sends_one 2 ∷ sends_one 3 ∷ []) (4 ∷ []) 4

-- one thread that sends twice, on a CPU whose trace has room for one entry
abbrev pub short_trace : SystemConfig
short_trace = setup_of 1 (0 ∷ []) (sends_twice 7 ∷ []) (32 ∷ []) 1

-- one thread that sends a sum which wraps round to 0
abbrev pub wrapping_sum : SystemConfig
wrapping_sum = setup_of 1 (0 ∷ [])
    ((Set Reg0 18446744073709551615 ∷ Set Reg1 1 ∷ Add Reg0 Reg1 ∷ send_from Reg0 ∷ Exit ∷ []) ∷ [])
    (1 ∷ []) 4

-- receivers on CPUs 0 and 2, and a sender on CPU 1
abbrev pub receivers_apart : SystemConfig
receivers_apart =
    setup_of 3 (0 ∷ 1 ∷ 2 ∷ []) (receives_one ∷ sends_one 7 ∷ receives_one ∷ []) (2 ∷ []) 4

-- a receiver and a sender on one CPU
abbrev pub one_cpu : SystemConfig
one_cpu = setup_of 1 (0 ∷ 0 ∷ []) (receives_one ∷ sends_one 7 ∷ []) (1 ∷ []) 4

-- a thread that yields and one that ends
abbrev pub a_yield : SystemConfig
a_yield = setup_of 1 (0 ∷ 0 ∷ []) ((YieldLine ∷ []) ∷ (Exit ∷ []) ∷ []) (1 ∷ []) 4

-- The runs.

-- one thread on one CPU
pub record AloneRuns : Type 0 where
  -- no step: the thread is ready
  pub at_boot : (readies (reached one_sender []) ≡ (thread 0 ∷ []) ∷ [])
      × (at_buffer_0 one_sender (reached one_sender []) ≡ leaves [])
  -- the effect is in the 9th step of the call, and the call returns in its 18th
  pub before_effect : (traces (reached one_sender (of 0 10 ∷ [])) ≡ [] ∷ [])
      × (currents (reached one_sender (of 0 10 ∷ [])) ≡ Some (thread 0) ∷ [])
  pub effect : (traces (reached one_sender (of 0 11 ∷ []))
      ≡ (as_entry 0 0 SendKind 0 (7 ∷ []) 0 0 ∷ []) ∷ [])
      × (parts_in (buffer_block_of one_sender 0 (reached one_sender (of 0 11 ∷ [])))
      ≡ Some (record {
        busy = Some (thread 0);
        sleepers = [];
        waiting_receivers = [];
        waiting_senders = [];
        items = (7 ∷ []) ∷ [];
      }))
  pub sent : (traces (reached one_sender (of 0 21 ∷ []))
      ≡ (as_entry 0 0 SendKind 0 (7 ∷ []) 0 0 ∷ []) ∷ [])
      × (at_buffer_0 one_sender (reached one_sender (of 0 21 ∷ [])) ≡ leaves ((7 ∷ []) ∷ []))
      × (endings (reached one_sender (of 0 21 ∷ [])) ≡ (true ∷ []) ∷ [])
      × (reason one_sender 0 (reached one_sender (of 0 21 ∷ [])) ≡ Some AllEnded)
  -- the second send into a full buffer waits
  pub waits : (traces (reached two_sends (of 0 32 ∷ []))
      ≡ (as_entry 0 0 SendKind 0 (7 ∷ []) 0 0 ∷ []) ∷ [])
      × (at_buffer_0 two_sends (reached two_sends (of 0 32 ∷ [])) ≡ sender_waits 0 ((7 ∷ []) ∷ []))
      × (currents (reached two_sends (of 0 32 ∷ [])) ≡ None ∷ [])
      × (reason two_sends 0 (reached two_sends (of 0 32 ∷ [])) ≡ None)
  -- a full trace halts the CPU before the second send begins: 20 steps were taken
  pub full_trace : (traces (reached short_trace (of 0 30 ∷ []))
      ≡ (as_entry 0 0 SendKind 0 (7 ∷ []) 0 0 ∷ []) ∷ [])
      × (at_buffer_0 short_trace (reached short_trace (of 0 30 ∷ [])) ≡ leaves ((7 ∷ []) ∷ []))
      × ((reached short_trace (of 0 30 ∷ [])).taken ≡ 20)
      × (currents (reached short_trace (of 0 30 ∷ [])) ≡ Some (thread 0) ∷ [])
      × (reason short_trace 0 (reached short_trace (of 0 30 ∷ [])) ≡ Some TraceFull)
  -- a sum of 64 bits wraps round
  pub wraps : (traces (reached wrapping_sum (of 0 23 ∷ []))
      ≡ (as_entry 0 0 SendKind 0 (0 ∷ []) 0 0 ∷ []) ∷ [])
      × (at_buffer_0 wrapping_sum (reached wrapping_sum (of 0 23 ∷ [])) ≡ leaves ((0 ∷ []) ∷ []))
      × (endings (reached wrapping_sum (of 0 23 ∷ [])) ≡ (true ∷ []) ∷ [])
  -- a thread that yields is queued after those that are ready
  pub yields : (readies (reached a_yield (of 0 4 ∷ [])) ≡ (thread 1 ∷ thread 0 ∷ []) ∷ [])
      × (endings (reached a_yield (of 0 8 ∷ [])) ≡ (true ∷ true ∷ []) ∷ [])

-- a receiver and a sender, whose home CPUs are two
pub record RunsOfTwo : Type 0 where
  -- the receiver has given up the lock and waits; CPU 0 then takes the pending threads again and
  -- again, and finds none
  pub idles : (at_buffer_0 two_cpus (reached two_cpus (of 0 19 ∷ [])) ≡ receiver_waits 0 [])
      × ((reached two_cpus (of 0 19 ∷ [])).taken ≡ 19)
      × (takes (Pending (cpu_numbered 0)) (reached two_cpus (of 0 19 ∷ [])).log ≡ 2)
      × (gives (Pending (cpu_numbered 0)) (reached two_cpus (of 0 19 ∷ [])).log ≡ 2)
      × (readies (reached two_cpus (of 0 19 ∷ [])) ≡ [] ∷ (thread 1 ∷ []) ∷ [])
  -- a failed poll changes nothing
  pub misses : (phase (cpu_numbered 1) (reached two_cpus (of 0 2 ∷ of 1 40 ∷ [])).log
      ≡ Waits (AtBuffer (buffer_numbered 0)))
      × (currents (reached two_cpus (of 0 2 ∷ of 1 40 ∷ []))
      ≡ Some (thread 0) ∷ Some (thread 1) ∷ [])
      × (traces (reached two_cpus (of 0 2 ∷ of 1 40 ∷ [])) ≡ [] ∷ [] ∷ [])
  -- the signal has woken the receiver of another CPU: it is in the hand, and nowhere else
  pub in_hand : (hands (reached two_cpus (of 0 13 ∷ of 1 14 ∷ [])) ≡ None ∷ Some (thread 0) ∷ [])
      × (currents (reached two_cpus (of 0 13 ∷ of 1 14 ∷ [])) ≡ None ∷ Some (thread 1) ∷ [])
      × (parts_in (buffer_block_of two_cpus 0 (reached two_cpus (of 0 13 ∷ of 1 14 ∷ [])))
      ≡ Some (record {
        busy = Some (thread 1);
        sleepers = [];
        waiting_receivers = [];
        waiting_senders = [];
        items = (7 ∷ []) ∷ [];
      }))
      × (traces (reached two_cpus (of 0 13 ∷ of 1 14 ∷ []))
      ≡ [] ∷ (as_entry 1 1 SendKind 0 (7 ∷ []) 0 0 ∷ []) ∷ [])
  -- the send that woke it takes 21 steps: one switch, one number set, 18 and the 3 that append the
  -- thread to the pending threads
  pub under_way : (endings (reached two_cpus (of 0 13 ∷ of 1 22 ∷ []))
      ≡ (false ∷ false ∷ []) ∷ (false ∷ false ∷ []) ∷ [])
      × (currents (reached two_cpus (of 0 13 ∷ of 1 22 ∷ [])) ≡ None ∷ Some (thread 1) ∷ [])
      × (call_of 1 1 (reached two_cpus (of 0 13 ∷ of 1 23 ∷ [])) ≡ None)
  pub pending : (pending_of two_cpus 0 (reached two_cpus (of 0 13 ∷ of 1 24 ∷ []))
      ≡ Some (OfPending (thread 0 ∷ [])))
      × (reason two_cpus 1 (reached two_cpus (of 0 13 ∷ of 1 24 ∷ [])) ≡ Some AllEnded)
      × (at_buffer_0 two_cpus (reached two_cpus (of 0 13 ∷ of 1 24 ∷ [])) ≡ leaves ((7 ∷ []) ∷ []))
  -- the receiver is drained, runs again, and takes the item
  pub received : (traces (reached two_cpus (of 0 13 ∷ of 1 24 ∷ of 0 20 ∷ []))
      ≡ (as_entry 0 0 RecvKind 0 (7 ∷ []) 1 0 ∷ []) ∷ (as_entry 1 1 SendKind 0 (7 ∷ []) 0 0 ∷ [])
      ∷ [])
      × (at_buffer_0 two_cpus (reached two_cpus (of 0 13 ∷ of 1 24 ∷ of 0 20 ∷ [])) ≡ leaves [])
      × (endings (reached two_cpus (of 0 13 ∷ of 1 24 ∷ of 0 20 ∷ []))
      ≡ (true ∷ false ∷ []) ∷ (false ∷ true ∷ []) ∷ [])
  -- both on one CPU: the woken thread is ready there at once, and no section appends it to the
  -- pending threads
  pub on_one_cpu : (traces (reached one_cpu (of 0 51 ∷ []))
      ≡ (as_entry 0 1 SendKind 0 (7 ∷ []) 0 0 ∷ as_entry 0 0 RecvKind 0 (7 ∷ []) 1 0 ∷ []) ∷ [])
      × (at_buffer_0 one_cpu (reached one_cpu (of 0 51 ∷ [])) ≡ leaves [])
      × (endings (reached one_cpu (of 0 51 ∷ [])) ≡ (true ∷ true ∷ []) ∷ [])

abbrev pub first_half : List Burst
first_half = of 0 13 ∷ of 1 13 ∷ of 2 43 ∷ of 1 6 ∷ []

abbrev pub both_halves : List Burst
both_halves = of 0 13 ∷ of 1 13 ∷ of 2 43 ∷ of 1 6 ∷ of 0 23 ∷ of 1 20 ∷ []

abbrev pub handing_over : List Burst
handing_over = of 0 5 ∷ of 1 5 ∷ of 0 15 ∷ of 2 5 ∷ []

abbrev pub handed_over : List Burst
handed_over = of 0 5 ∷ of 1 5 ∷ of 0 15 ∷ of 2 5 ∷ of 0 4 ∷ of 1 23 ∷ of 2 20 ∷ []

-- three threads on three CPUs
pub record RunsOfThree : Type 0 where
  -- two receivers wait, and two sends occur: the first wakes the first receiver; the second wakes
  -- no thread, because the first in the line does not sleep
  pub one_woken : (pending_of two_receivers 0 (reached two_receivers first_half)
      ≡ Some (OfPending (thread 0 ∷ [])))
      × (at_buffer_0 two_receivers (reached two_receivers first_half)
      ≡ receiver_waits 1 ((7 ∷ []) ∷ (8 ∷ []) ∷ []))
      × (reason two_receivers 2 (reached two_receivers first_half) ≡ Some AllEnded)
  -- the first receiver signals its own side too: without that signal the second one would sleep on
  -- beside its item
  pub both_woken : (traces (reached two_receivers both_halves)
      ≡ (as_entry 0 0 RecvKind 0 (7 ∷ []) 2 0 ∷ []) ∷ (as_entry 1 1 RecvKind 0 (8 ∷ []) 3 1 ∷ [])
      ∷ (as_entry 2 2 SendKind 0 (7 ∷ []) 0 0 ∷ as_entry 2 2 SendKind 0 (8 ∷ []) 1 1 ∷ []) ∷ [])
      × (at_buffer_0 two_receivers (reached two_receivers both_halves) ≡ leaves [])
      × (endings (reached two_receivers both_halves)
      ≡ (true ∷ false ∷ false ∷ []) ∷ (false ∷ true ∷ false ∷ []) ∷ (false ∷ false ∷ true ∷ [])
      ∷ [])
  -- a lock that is released passes to its first sleeper, which is in the hand of the CPU that
  -- released it
  pub lock_passes : (parts_in (buffer_block_of three_senders 0 (reached three_senders handing_over))
      ≡ Some (record {
        busy = Some (thread 1);
        sleepers = thread 2 ∷ [];
        waiting_receivers = [];
        waiting_senders = [];
        items = (1 ∷ []) ∷ [];
      }))
      × (hands (reached three_senders handing_over) ≡ Some (thread 1) ∷ None ∷ None ∷ [])
      × (currents (reached three_senders handing_over) ≡ Some (thread 0) ∷ None ∷ None ∷ [])
  pub all_sent : (at_buffer_0 three_senders (reached three_senders handed_over)
      ≡ leaves ((1 ∷ []) ∷ (2 ∷ []) ∷ (3 ∷ []) ∷ []))
      × (endings (reached three_senders handed_over)
      ≡ (true ∷ false ∷ false ∷ []) ∷ (false ∷ true ∷ false ∷ []) ∷ (false ∷ false ∷ true ∷ [])
      ∷ [])
  -- a receiver that finds an item but is not the first in its line waits
  pub first_comes_first : (traces
      (reached receivers_apart (of 0 13 ∷ of 1 24 ∷ of 2 13 ∷ of 0 20 ∷ []))
      ≡ (as_entry 0 0 RecvKind 0 (7 ∷ []) 1 0 ∷ []) ∷ (as_entry 1 1 SendKind 0 (7 ∷ []) 0 0 ∷ [])
      ∷ [] ∷ [])
      × (at_buffer_0 receivers_apart
      (reached receivers_apart (of 0 13 ∷ of 1 24 ∷ of 2 13 ∷ of 0 20 ∷ [])) ≡ receiver_waits 2 [])
      × (currents (reached receivers_apart (of 0 13 ∷ of 1 24 ∷ of 2 13 ∷ of 0 20 ∷ []))
      ≡ None ∷ None ∷ None ∷ [])
