-- What a CPU does next, and what a section's result makes of its private state.
use Rattle.std.specs.Prelude.{ℕ, ◌+◌, Bool, true, false, ◌==◌, List, [], ◌∷◌, ◌++◌, length, Option}
use Rattle.std.specs.Prelude.{Some, None, if◌then◌else◌}
use Rattle.event_log.specs.declared.ids.{CpuId.CpuId, Tid.Tid, BufId.BufId, LockId.LockId}
use Rattle.event_log.specs.declared.ids.LockId.TheVariants.{Pending, Buffer as AtBuffer}
use Rattle.event_log.specs.{declared.entries.Entry.Entry, History.same_cpu, Messages.Message}
use Rattle.event_log.specs.{Messages.no_message, Runs.{Group, Sends, Receives, Closes}}
use Rattle.layer_traits.specs.declared.locked.Side.{Side, TheVariants.{Receivers, Senders}}
use Rattle.layer_traits.specs.declared.steps.Reason.{Reason, TheVariants.{AllEnded, TraceFull}}
use Rattle.layer_traits.specs.declared.call_states.Stage.{Stage, TheVariants.{Idle, Acquires}}
use Rattle.layer_traits.specs.declared.call_states.Stage.TheVariants.{Enters, Tries, Waits}
use Rattle.layer_traits.specs.declared.call_states.Stage.TheVariants.{AcquiresAgain, Signals}
use Rattle.layer_traits.specs.declared.call_states.Stage.TheVariants.{SignalsOwn, Releases}
use Rattle.layer_traits.specs.Threads.RunQueue.{joins}
use Rattle.guest.specs.declared.instructions.Instruction.{Instruction, TheVariants.{Set, Add, Sub}}
use Rattle.guest.specs.declared.instructions.Instruction.TheVariants.{Jnz, Send, Recv, Close}
use Rattle.guest.specs.declared.instructions.Instruction.TheVariants.{Yield as YieldLine, Exit}
use Rattle.guest.specs.State.{State, message_from, after_local, after_send, after_recv, after_close}
use Rattle.{guest.specs.State.{after_closed, after_yield}, cpu.specs.Table.Blocks.{Name, AcqQ}}
use Rattle.cpu.specs.Table.Blocks.{Enter, TryPut, TryTake, Shut, WaitOn, SigRecv, SigSend, RelQ}
use Rattle.cpu.specs.Table.Blocks.{Pend, TakeAll, side_of_group, kind_for, Reported, Position, Done}
use Rattle.cpu.specs.Table.Blocks.{WasClosed, DidShut, NotYet, Drained, Answer}
use Rattle.cpu.specs.Table.Setups.{SystemConfig, Call, CpuLocal, thread_at, with_thread, home_cpu}
use Rattle.cpu.specs.Table.Setups.{stands_at, home_threads, open_calls, have_ended}

-- The section that is requested.

-- a section: at which lock, and which
pub record Ask : Type 0 where
  pub lock : LockId
  pub name : Name

abbrev pub at_pending : CpuId → Name → Ask
at_pending c name = record { lock = Pending c; name = name }

abbrev pub at_buffer : BufId → Name → Ask
at_buffer b name = record { lock = AtBuffer b; name = name }

-- the try of a call, by its side
abbrev pub try_due : Tid → Call → Side → Name
try_due t call Senders = TryPut t call.message
try_due t call Receivers = TryTake t

-- after its effect a call signals the other side first, and then its own
abbrev pub first_signal : Tid → Side → Name
first_signal t Senders = SigRecv t
first_signal t Receivers = SigSend t

abbrev pub second_signal : Tid → Side → Name
second_signal t Senders = SigSend t
second_signal t Receivers = SigRecv t

-- the section of a call that has acquired the lock: a send or a receive enters its line, a close
-- takes effect at once
abbrev pub first_section : Tid → Group → Name
first_section t Sends = Enter t Senders
first_section t Receives = Enter t Receivers
first_section t Closes = Shut t

-- the section of a call at each stage; at Idle none is due
abbrev pub section_due : Tid → Call → Stage → Name
section_due t call Acquires = AcqQ t
section_due t call Enters = first_section t call.asks
section_due t call Tries = try_due t call (side_of_group call.asks)
section_due t call Waits = WaitOn t (side_of_group call.asks)
section_due t call AcquiresAgain = AcqQ t
section_due t call Signals = first_signal t (side_of_group call.asks)
section_due t call SignalsOwn = second_signal t (side_of_group call.asks)
section_due t call Releases = RelQ t
section_due t call Idle = RelQ t

-- outside a call, a section takes all pending threads: for a yield, or for a CPU that has no thread
-- to run
abbrev pub asked_by : CpuId → Tid → Option Call → Ask
asked_by c t None = at_pending c TakeAll
asked_by c t (Some call) = at_buffer call.buffer (section_due t call call.stage)

abbrev pub asked_at : CpuId → CpuLocal → Option Tid → Ask
asked_at c p None = at_pending c TakeAll
asked_at c p (Some t) = asked_by c t (thread_at p t).call

-- a thread in the hand is first appended to the pending threads of its home CPU
abbrev pub asked_in : SystemConfig → CpuId → CpuLocal → Option Tid → Ask
asked_in setup c p None = asked_at c p p.current
asked_in setup c p (Some s) = at_pending (home_cpu setup s) (Pend s)

-- the section that a CPU requests
abbrev pub asked : SystemConfig → CpuId → CpuLocal → Ask
asked setup c p = asked_in setup c p p.hand

-- The choice of a step, while no section is under way.

-- a CPU is halted, does something local, or begins a section; with the private state that it then
-- has
pub data Choice : Type 0 where
  Halts : (reason : Reason) → Choice
  Alone : (next : CpuLocal) → Choice
  Goes : (next : CpuLocal) → Choice

-- a call that begins
abbrev pub new_call : Group → BufId → Message → Call
new_call asks b m =
    record {
      asks = asks;
      buffer = b;
      message = m;
      position = 0;
      effect = None;
      closed = false;
      stage = Acquires;
    }

abbrev pub with_call : CpuLocal → Tid → Option Call → CpuLocal
with_call p t call = with_thread p t (record (thread_at p t) { call = call })

abbrev pub with_state : CpuLocal → Tid → State → CpuLocal
with_state p t guest = with_thread p t (record (thread_at p t) { guest = guest })

-- a call begins, unless the calls under way will leave the trace full
abbrev pub begin_or_halt : SystemConfig → CpuId → CpuLocal → Tid → Call → Choice
begin_or_halt setup c p t call =
    if (length p.trace + open_calls p (home_threads setup c)) == setup.trace_room
    then Halts TraceFull
    else Goes (with_call p t (Some call))

-- a thread ends
abbrev pub ends : CpuLocal → Tid → CpuLocal
ends p t = record (with_thread p t (record (thread_at p t) { ended = true })) { current = None }

-- the current thread is at an instruction
abbrev pub at_instruction : SystemConfig → CpuId → CpuLocal → Tid → Instruction → Choice
at_instruction setup c p t (Send b from k) =
    begin_or_halt setup c p t (new_call Sends b (message_from (thread_at p t).guest from))
at_instruction setup c p t (Recv b into k) =
    begin_or_halt setup c p t (new_call Receives b no_message)
at_instruction setup c p t (Close b) = begin_or_halt setup c p t (new_call Closes b no_message)
at_instruction setup c p t YieldLine = Goes p
at_instruction setup c p t Exit = Alone (ends p t)
at_instruction setup c p t (Set r n) =
    Alone (with_state p t (after_local (Set r n) (thread_at p t).guest))
at_instruction setup c p t (Add r q) =
    Alone (with_state p t (after_local (Add r q) (thread_at p t).guest))
at_instruction setup c p t (Sub r q) =
    Alone (with_state p t (after_local (Sub r q) (thread_at p t).guest))
at_instruction setup c p t (Jnz r k) =
    Alone (with_state p t (after_local (Jnz r k) (thread_at p t).guest))

-- the current thread continues its call, or its instruction
abbrev pub at_call : SystemConfig → CpuId → CpuLocal → Tid → Option Call → Choice
at_call setup c p t (Some call) = Goes p
at_call setup c p t None = at_instruction setup c p t (stands_at setup p t)

-- no thread runs: the first ready thread does next; if none is ready, all pending threads are taken
abbrev pub at_ready : CpuLocal → List Tid → Choice
at_ready p [] = Goes p
at_ready p (t ∷ rest) = Alone (record p { current = Some t; ready = rest })

abbrev pub at_current : SystemConfig → CpuId → CpuLocal → Option Tid → Choice
at_current setup c p None = at_ready p p.ready
at_current setup c p (Some t) = at_call setup c p t (thread_at p t).call

-- a thread in the hand precedes all else; a CPU of which each thread has ended is halted
abbrev pub at_hand : SystemConfig → CpuId → CpuLocal → Option Tid → Choice
at_hand setup c p (Some s) = Goes p
at_hand setup c p None =
    if have_ended p (home_threads setup c) then Halts AllEnded else at_current setup c p p.current

-- what a CPU without a section under way does
abbrev pub choice : SystemConfig → CpuId → CpuLocal → Choice
choice setup c p = at_hand setup c p p.hand

-- What a result makes of the private state.

-- the entry of an effect
abbrev pub entry_made : CpuId → Tid → Call → ℕ → Message → Entry
entry_made c t call op m =
    record {
      cpu = c;
      thread = t;
      kind = kind_for call.asks call.closed;
      buffer = call.buffer;
      value = m;
      op = op;
      pos = call.position;
    }

-- the call continues at this stage
abbrev pub goes_to : CpuLocal → Tid → Call → Stage → CpuLocal
goes_to p t call stage = with_call p t (Some (record call { stage = stage }))

-- the call takes effect, and its entry is written
abbrev pub effected : CpuId → CpuLocal → Tid → Call → ℕ → CpuLocal
effected c p t call op =
    record (with_call p t (Some (record call { effect = Some op; stage = Signals }))) {
      trace = p.trace ++ entry_made c t call op call.message ∷ [];
    }

-- the position that the call drew
abbrev pub recorded_position : CpuLocal → Tid → Call → Reported → CpuLocal
recorded_position p t call (Position pos) =
    with_call p t (Some (record call { position = pos; stage = Tries }))
recorded_position p t call _ = p

-- that the buffer is closed, which is the effect of a close
abbrev pub recorded_shut : CpuId → CpuLocal → Tid → Call → Reported → CpuLocal
recorded_shut c p t call (DidShut op pos) = effected c p t (record call { position = pos }) op
recorded_shut c p t call _ = p

-- what its first section reported, by what the call asks for
abbrev pub recorded_entry : CpuId → CpuLocal → Tid → Call → Group → Reported → CpuLocal
recorded_entry c p t call Sends told = recorded_position p t call told
recorded_entry c p t call Receives told = recorded_position p t call told
recorded_entry c p t call Closes told = recorded_shut c p t call told

-- what the try reported: its effect, that it found the buffer closed, which is its effect too, or
-- that the call must wait
abbrev pub recorded_try : CpuId → CpuLocal → Tid → Call → Reported → CpuLocal
recorded_try c p t call (Done op m) = effected c p t (record call { message = m }) op
recorded_try c p t call (WasClosed op) = effected c p t (record call { closed = true }) op
recorded_try c p t call NotYet = goes_to p t call Waits
recorded_try c p t call _ = p

-- what the section of a stage reported
abbrev pub with_told : CpuId → CpuLocal → Tid → Call → Stage → Reported → CpuLocal
with_told c p t call Acquires told = goes_to p t call Enters
with_told c p t call Enters told = recorded_entry c p t call call.asks told
with_told c p t call Tries told = recorded_try c p t call told
with_told c p t call Waits told = goes_to p t call AcquiresAgain
with_told c p t call AcquiresAgain told = goes_to p t call Tries
with_told c p t call Signals told = goes_to p t call SignalsOwn
with_told c p t call SignalsOwn told = goes_to p t call Releases
with_told c p t call Releases told = goes_to p t call Idle
with_told c p t call Idle told = p

-- a caller that sleeps is no longer the running thread
abbrev pub slept_if : Bool → CpuLocal → CpuLocal
slept_if false p = p
slept_if true p = record p { current = None }

-- a woken thread is ready if this is its home CPU; otherwise it is in the hand
abbrev pub woken : SystemConfig → CpuId → Option Tid → CpuLocal → CpuLocal
woken setup c None p = p
woken setup c (Some s) p =
    if same_cpu (home_cpu setup s) c then record p { ready = joins (s ∷ []) p.ready }
    else record p { hand = Some s }

-- the thread's state after its call has returned, by what it asked for
abbrev pub guest_served : Group → Instruction → Message → State → State
guest_served Sends line m guest = after_send line guest
guest_served Receives line m guest = after_recv line m guest
guest_served Closes line m guest = after_close line guest

-- a call that found its buffer closed continues at its target
abbrev pub guest_after : Group → Bool → Instruction → Message → State → State
guest_after asks closed line m guest =
    if closed then after_closed line guest else guest_served asks line m guest

-- the call has returned
abbrev pub returned : SystemConfig → CpuLocal → Tid → Call → CpuLocal
returned setup p t call =
    with_thread p t (record
    (thread_at p t) {
      guest = guest_after call.asks call.closed (stands_at setup p t)
          call.message (thread_at p t).guest;
      call = None;
    })

abbrev pub returned_at : SystemConfig → CpuLocal → Tid → Call → Stage → CpuLocal
returned_at setup p t call Idle = returned setup p t call
returned_at setup p t call _ = p

abbrev pub returned_by : SystemConfig → CpuLocal → Tid → Option Call → CpuLocal
returned_by setup p t None = p
returned_by setup p t (Some call) = returned_at setup p t call call.stage

abbrev pub returned_in : SystemConfig → CpuLocal → Option Tid → Option Tid → CpuLocal
returned_in setup p (Some s) current = p
returned_in setup p None None = p
returned_in setup p None (Some t) = returned_by setup p t (thread_at p t).call

-- a call that has done its last section returns once the hand is empty
abbrev pub settled : SystemConfig → CpuLocal → CpuLocal
settled setup p = returned_in setup p p.hand p.current

abbrev pub drained : Reported → List Tid
drained (Drained threads) = threads
drained _ = []

-- after a section of a call
abbrev pub after_call : SystemConfig → CpuId → CpuLocal → Tid → Call → Answer → CpuLocal
after_call setup c p t call a =
    settled setup (woken setup c a.woke (slept_if a.slept (with_told c p t call call.stage a.told)))

-- after a yield: the pending threads are ready, then the thread that yielded; no thread runs
abbrev pub after_yielding : SystemConfig → CpuLocal → Tid → Answer → CpuLocal
after_yielding setup p t a =
    record (with_state p t (after_yield (stands_at setup p t) (thread_at p t).guest)) {
      current = None;
      ready = joins (t ∷ []) (joins (drained a.told) p.ready);
    }

abbrev pub after_by : SystemConfig → CpuId → CpuLocal → Tid → Option Call → Answer → CpuLocal
after_by setup c p t None a = after_yielding setup p t a
after_by setup c p t (Some call) a = after_call setup c p t call a

-- after a drain the pending threads are ready
abbrev pub after_at : SystemConfig → CpuId → CpuLocal → Option Tid → Answer → CpuLocal
after_at setup c p None a = record p { ready = joins (drained a.told) p.ready }
after_at setup c p (Some t) a = after_by setup c p t (thread_at p t).call a

-- after the section that appended the thread in the hand to the pending threads, the hand is empty
abbrev pub after_in : SystemConfig → CpuId → CpuLocal → Option Tid → Answer → CpuLocal
after_in setup c p None a = after_at setup c p p.current a
after_in setup c p (Some s) a = settled setup (record p { hand = None })

-- the private state after a section
abbrev pub after_section : SystemConfig → CpuId → CpuLocal → Answer → CpuLocal
after_section setup c p a = after_in setup c p p.hand a
