-- A thread's guest: what it does next, what a poll of its call makes of it, and how its entries led
-- to its private state. Lists of entries are newest first.
use Rattle.std.specs.Prelude.{◌≡◌, ℕ, Bool, true, false, List, Option, Some, None, option_map}
use Rattle.std.specs.Prelude.{option_to_list}
use Rattle.event_log.specs.declared.{entries.{Entry.Entry, Kind.Kind}, ids.BufId.BufId}
use Rattle.event_log.specs.{declared.ids.{CpuId.CpuId, Tid.Tid}, Messages.Message}
use Rattle.guest.specs.{declared.instructions.{Instruction.Instruction, Target.Target}, State.State}
use Rattle.guest.specs.State.{at_start, next_of, message_from, moved_on, moved_into, moved_aside}
use Rattle.guest.specs.State.{after_local, after_send, after_recv, after_close, after_closed}
use Rattle.guest.specs.{State.after_yield, Calls.{IsProgramsCalls, HasEnded}}
use Rattle.layer_traits.specs.declared.calls.Call.{Call, TheVariants.{Send, Recv, Close}}
use Rattle.layer_traits.specs.declared.calls.{Effect.Effect, Reply.{Reply, TheVariants.{Sent, Got}}}
use Rattle.layer_traits.specs.declared.calls.Reply.TheVariants.{Shut, Closed, NoBuffer}
use Rattle.layer_traits.specs.declared.passes.Pass.{Pass, TheVariants.{YieldNow, End}}
use Rattle.layer_traits.specs.declared.call_states.CallState.{CallState}
use Rattle.layer_traits.specs.Layers.BufferLaw.{IsEffectOf, begun_of, entry_of}
use Rattle.cpu.specs.declared.guests.{Guest.Guest, GuestStage.{GuestStage, TheVariants.Idle}}
use Rattle.cpu.specs.declared.guests.GuestStage.TheVariants.{Begun, Done, Ended}
use Rattle.cpu.specs.declared.guests.NextAction.{NextAction, TheVariants.{Finish, PassOn, Compute}}
use Rattle.cpu.specs.declared.guests.NextAction.TheVariants.{Calls}
use Rattle.event_log.specs.declared.entries.Kind.TheVariants as kind
use Rattle.guest.specs.declared.instructions.Instruction.TheVariants as ins
use Rattle.layer_traits.specs.declared.call_states.Stage.TheVariants as call_state_stage

-- what an instruction requests
abbrev pub todo_at : State → Instruction → NextAction
todo_at s ins.Exit = Finish
todo_at s ins.Yield = PassOn
todo_at s (ins.Send b from k) = Calls (Send b (message_from s from))
todo_at s (ins.Recv b into k) = Calls (Recv b)
todo_at s (ins.Close b) = Calls (Close b)
todo_at s (ins.Set r n) = Compute
todo_at s (ins.Add r q) = Compute
todo_at s (ins.Sub r q) = Compute
todo_at s (ins.Jnz r k) = Compute

-- what a guest does next
abbrev pub todo_of : Guest → NextAction
todo_of g = todo_at g.thread (next_of g.program g.thread)

-- a guest before its first instruction
abbrev pub new_guest : List Instruction → Guest
new_guest program = record { program = program; thread = at_start; stage = Idle }

-- a guest after an instruction that shares nothing
abbrev pub computed : Guest → Guest
computed g = record g { thread = after_local (next_of g.program g.thread) g.thread }

-- a guest that yielded
abbrev pub passed : Guest → Guest
passed g = record g { thread = after_yield (next_of g.program g.thread) g.thread }

-- a guest that has ended
abbrev pub guest_ended : Guest → Guest
guest_ended g = record g { stage = Ended }

-- the guest of the running thread, after a pass is done
abbrev pub after_pass : Pass → Guest → Guest
after_pass YieldNow g = passed g
after_pass End g = guest_ended g
after_pass other g = g

-- the effect that a poll had, after which the thread's call state has this effect: a call that had
-- one before has no other
abbrev pub fresh_effect : GuestStage → Option Effect → Option Effect
fresh_effect Done effect = None
fresh_effect stage effect = effect

-- the stage after a poll of the call
abbrev pub stage_after : Option Effect → Option Reply → GuestStage
stage_after effect (Some reply) = Idle
stage_after (Some f) None = Done
stage_after None None = Begun

-- the private state after a poll of the call: the guest continues once the call replies
abbrev pub after_answer : Option Reply → Instruction → State → State
after_answer None i s = s
after_answer (Some NoBuffer) i s = s
after_answer (Some Sent) i s = after_send i s
after_answer (Some (Got message)) i s = after_recv i message s
after_answer (Some Shut) i s = after_close i s
after_answer (Some Closed) i s = after_closed i s

-- a guest after a poll of its call, which left its call state with this effect
abbrev pub polled : Guest → Option Effect → Option Reply → Guest
polled g effect answer = record {
  program = g.program;
  thread = after_answer answer (next_of g.program g.thread) g.thread;
  stage = stage_after effect answer;
}

-- after the effect of a send: one that found the buffer closed goes to the target
abbrev pub after_sent : Kind → Option ℕ → State → State
after_sent kind.SendClosed k s = moved_aside s k
after_sent other k s = moved_on s

-- after the effect of a receive: one that found the buffer closed and empty goes to the target, and
-- the registers stay
abbrev pub after_received : Kind → Target → Option ℕ → Message → State → State
after_received kind.RecvClosed into k message s = moved_aside s k
after_received other into k message s = moved_into s into message

-- the private state that an effect will leave once its call replies
abbrev pub state_after_effect : Instruction → Effect → State → State
state_after_effect (ins.Send b from k) f s = after_sent f.kind k s
state_after_effect (ins.Recv b into k) f s = after_received f.kind into k f.value s
state_after_effect (ins.Close b) f s = moved_on s
state_after_effect other f s = s

-- a guest's entries lead to its state, according to its stage: before the effect to its present
-- state; after it, to the state after the effect
abbrev pub HasComeIn : GuestStage → List Instruction → State → List Entry → Option Call
    → Option Effect → Type 0
HasComeIn Idle program s es begun effect = (begun ≡ None) × IsProgramsCalls program es s
HasComeIn Begun program s es begun effect =
    (c : Call) × (todo_at s (next_of program s) ≡ Calls c) × (begun ≡ Some c)
    × (effect ≡ None) × IsProgramsCalls program es s
HasComeIn Done program s es begun effect =
    (c : Call) × (f : Effect) × (todo_at s (next_of program s) ≡ Calls c) × (begun ≡ Some c)
    × (effect ≡ Some f) × IsEffectOf c f
    × IsProgramsCalls program es (state_after_effect (next_of program s) f s)
HasComeIn Ended program s es begun effect =
    (begun ≡ None) × IsProgramsCalls program es s × HasEnded program s

-- a call state in no call is between calls
abbrev pub IsSettled : CallState → Type 0
IsSettled call_state = begun_of call_state ≡ None → call_state.stage ≡ call_state_stage.Idle

-- a guest, its entries and its call state agree
abbrev pub HasCome : Guest → List Entry → CallState → Type 0
HasCome g es call_state =
    IsSettled call_state × HasComeIn g.stage g.program g.thread es (begun_of call_state)
    call_state.effect

-- the effect that a call has had: a call that is about to begin has had none
abbrev pub had : Option Call → Option Effect → Option Effect
had None effect = None
had (Some c) effect = effect

-- the entry of an effect, if there is one
abbrev pub entries_of : CpuId → Tid → BufId → Option Effect → List Entry
entries_of cpu t b effect = option_to_list (option_map (entry_of cpu t b) effect)

-- whether a stage is that of a call that has not taken effect
abbrev pub is_begun : GuestStage → Bool
is_begun Begun = true
is_begun stage = false

-- whether a stage is the last one
abbrev pub is_ended : GuestStage → Bool
is_ended Ended = true
is_ended stage = false

-- whether a stage is inside a call
abbrev pub is_calling : GuestStage → Bool
is_calling Begun = true
is_calling Done = true
is_calling stage = false
