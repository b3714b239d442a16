-- How a guest follows its entries over one poll of its call.
use Rattle.std.proofs.Common.{◌≡◌, ◌⊎◌, ℕ, List, ◌∷◌, ◌++◌, Option, Some, None, refl, ap, sym, ◌∙◌, subst, arith}
use Rattle.event_log.specs.{declared.{entries.{Entry.Entry, Kind.Kind}, ids.{BufId.BufId, CpuId.CpuId, Tid.Tid}}, Messages.Message, Runs.{Closes, Receives}}
use Rattle.{event_log.specs.Runs.{Sends, group_of}, guest.specs.{declared.instructions.{Instruction.Instruction, Target.Target, Source.Source}, State.State}}
use Rattle.guest.specs.{State.{moved_on, next_of, message_from}, Calls.{IsProgramsCalls, asks_in_vain, closes, offers, receives, sends}}
use Rattle.layer_traits.specs.declared.{calls.{Call.{Call, TheVariants.{Send, Recv, Close}}, Effect.Effect, Reply.Reply}, call_states.CallState.CallState}
use Rattle.layer_traits.specs.Layers.BufferLaw.{Answered, IsEffectOf, MayPollCall, begun_at, begun_of, buffer_of, entry_of, going, reply_by, reply_of}
use Rattle.cpu.specs.{declared.guests.{GuestStage.{GuestStage, TheVariants.{Idle, Begun, Done, Ended}}, NextAction.TheVariants.Calls}, Guests.HasComeIn}
use Rattle.cpu.specs.Guests.{IsSettled, after_answer, state_after_effect, after_received, after_sent, entries_of, fresh_effect, had, stage_after, todo_at}
use Rattle.event_log.specs.declared.entries.Kind.TheVariants as kind
use Rattle.guest.specs.declared.instructions.Instruction.TheVariants as ins

-- what a call that may be polled has had
pub had_going : (call_state : CallState) (c : Call) → MayPollCall call_state c → (going call_state c).effect ≡ had (begun_of call_state) call_state.effect
had_going call_state c may = grind (arith, may)

-- a call state may continue the call that it has begun, and any call if it has begun none
pub may_poll_call : (call_state : CallState) (c : Call) → IsSettled call_state → (begun_of call_state ≡ None) ⊎ (begun_of call_state ≡ Some c)
    → MayPollCall call_state c
may_poll_call call_state c settled either = grind arith

-- a call state with a reply is settled
pub stays_settled : (c : Call) (call_state : CallState) (answer : Option Reply) → Answered c call_state answer → IsSettled call_state
stays_settled c call_state answer is = grind arith

-- a result, and what the call state then implies, on plain values
abbrev pub AnsweredBy : Call → Option Call → Option Effect → Option Reply → Type 0
AnsweredBy c saved effect None = saved ≡ Some c
AnsweredBy c saved effect (Some reply) = (saved ≡ None) × ((f : Effect) × (effect ≡ Some f) × (reply ≡ reply_of c f))

pub answered_by : (c : Call) (call_state : CallState) (answer : Option Reply) → Answered c call_state answer
    → AnsweredBy c (begun_of call_state) call_state.effect answer
answered_by c call_state None is = is
answered_by c call_state (Some reply) is = (ap (λ s. begun_at s call_state.call) is.0, is.1)

-- the reply to a send, and to a receive, moves the guest to where an effect of this kind leads
sent_state : (of : Kind) (k : Option ℕ) (value : Message) (d b : BufId) (m : Message) (from : Source) (s : State)
    → after_sent of k s ≡ after_answer (Some (reply_by (Send d m) of value)) (ins.Send b from k) s
sent_state of k value d b m from s = grind arith

received_state : (of : Kind) (k : Option ℕ) (value : Message) (d b : BufId) (into : Target) (s : State)
    → after_received of into k value s ≡ after_answer (Some (reply_by (Recv d) of value)) (ins.Recv b into k) s
received_state of k value d b into s = grind arith

-- an entry whose kind is counted with sends is one more call of a program that is at a send of its
-- buffer and its message
module _ (program : List Instruction) (es : List Entry) (s : State) (b : BufId) (e : Entry) (buffer : e.buffer ≡ b) (calls : IsProgramsCalls program es s) where
  sent_more : (from : Source) (k : Option ℕ) → next_of program s ≡ ins.Send b from k → e.value ≡ message_from s from → (of : Kind)
      → e.kind ≡ of → group_of of ≡ Sends → IsProgramsCalls program (e ∷ es) (after_sent of k s)
  sent_more from k at value kind.Send is group = sends b from k e calls at is buffer value
  sent_more from k at value kind.SendClosed is group = offers b from k e calls at is buffer value
  sent_more from k at value line is group = absurd (cc group)

  -- and so with receives, and with closes
  received_more : (into : Target) (k : Option ℕ) → next_of program s ≡ ins.Recv b into k → (of : Kind) → e.kind ≡ of → group_of of ≡ Receives
      → IsProgramsCalls program (e ∷ es) (after_received of into k e.value s)
  received_more into k at kind.Recv is group = receives b into k e calls at is buffer
  received_more into k at kind.RecvClosed is group = asks_in_vain b into k e calls at is buffer
  received_more into k at line is group = absurd (cc group)

  closed_more : next_of program s ≡ ins.Close b → (of : Kind) → e.kind ≡ of → group_of of ≡ Closes → IsProgramsCalls program (e ∷ es) (moved_on s)
  closed_more at kind.Close is group = closes b e calls at is buffer
  closed_more at line is group = absurd (cc group)

-- an effect of a call is one more of the program's calls
calls_more : (program : List Instruction) (es : List Entry) (s : State) (i : Instruction) (c : Call) (f : Effect) (cpu : CpuId) (t : Tid)
    → next_of program s ≡ i → todo_at s i ≡ Calls c → IsEffectOf c f → IsProgramsCalls program es s
    → IsProgramsCalls program (entry_of cpu t (buffer_of c) f ∷ es) (state_after_effect i f s)
calls_more program es s (ins.Send b from k) (Send q m) f cpu t at todo is calls =
    sent_more program es s b (entry_of cpu t q f) (cc todo) calls from k at (is.1 ∙ cc todo) f.kind refl is.0
calls_more program es s (ins.Recv b into k) (Recv q) f cpu t at todo is calls =
    received_more program es s b (entry_of cpu t q f) (cc todo) calls into k at f.kind refl is
calls_more program es s (ins.Close b) (Close q) f cpu t at todo is calls = closed_more program es s b (entry_of cpu t q f) (cc todo) calls at f.kind refl is
calls_more program es s other rest f cpu t at todo is calls = absurd cc

module _ (program : List Instruction) (s : State) (i : Instruction) (c : Call) (cpu : CpuId) (t : Tid) (at : next_of program s ≡ i)
    (todo : todo_at s i ≡ Calls c) where
  -- between polls of the call: no effect and the calls that lead to the state, or an effect and
  -- those that lead past it
  abbrev Mid : Option Effect → List Entry → Type 0
  Mid None es = IsProgramsCalls program es s
  Mid (Some f) es = IsEffectOf c f × IsProgramsCalls program es (state_after_effect i f s)

  here : todo_at s (next_of program s) ≡ Calls c
  here = subst (λ (j : Instruction). todo_at s j ≡ Calls c) (sym at) todo

  -- before a poll: by the stage, what the call has had, and what an effect after the poll adds
  before : (stage : GuestStage) (es : List Entry) (saved : Option Call) (effect : Option Effect)
      → HasComeIn stage program s es saved effect → Mid (had saved effect) es
  before Idle es saved effect follows = subst (λ (x : Option Call). Mid (had x effect) es) (sym follows.0) follows.1
  before Begun es saved effect follows = rw follows.2 (subst (λ (x : Option Effect). Mid x es) (sym follows.3) follows.4)
  before Done es saved effect follows =
      let same : follows.0 ≡ c = cc (follows.2, here) in
      subst (λ (x : Option Call). Mid (had x effect) es) (sym follows.3)
      (subst (λ (x : Option Effect). Mid x es) (sym follows.4) (
        subst (λ (d : Call). IsEffectOf d follows.1) same follows.5,
        subst (λ (j : Instruction). IsProgramsCalls program es (state_after_effect j follows.1 s)) at follows.6,
      ))
  before Ended es saved effect follows = absurd (cc (subst (λ (j : Instruction). todo_at s j ≡ Calls c) (sym at ∙ follows.2) todo))

  -- an effect is fresh if the call had none before
  fresh_none : (stage : GuestStage) (es : List Entry) (saved : Option Call) (effect left : Option Effect)
      → HasComeIn stage program s es saved effect → had saved effect ≡ None → fresh_effect stage left ≡ left
  fresh_none stage es saved effect left follows none = grind arith

  -- what one poll does to a guest: which effect is written, and that the guest follows its entries
  -- with that one
  pub poll_followed : (stage : GuestStage) (es : List Entry) (saved saved2 : Option Call) (effect effect2 mine : Option Effect) (answer : Option Reply)
      → HasComeIn stage program s es saved effect → ((f : Effect) → mine ≡ Some f → (had saved effect ≡ None) × (effect2 ≡ Some f) × IsEffectOf c f)
      → (mine ≡ None → effect2 ≡ had saved effect) → AnsweredBy c saved2 effect2 answer
      → (mine ≡ fresh_effect stage effect2) × HasComeIn (stage_after effect2 answer) program (after_answer answer i s)
      (entries_of cpu t (buffer_of c) (fresh_effect stage effect2) ++ es) saved2 effect2
  poll_followed stage es saved saved2 effect effect2 (Some f) answer follows fresh stays told =
      let new = fresh f refl in
      let is : Some f ≡ fresh_effect stage effect2 = sym (fresh_none stage es saved effect effect2 follows new.0 ∙ new.1) in
      let held = subst (λ (x : Option Effect). Mid x es) new.0 (before stage es saved effect follows) in
      let next : Mid (Some f) (entry_of cpu t (buffer_of c) f ∷ es) = (new.2, calls_more program es s i c f cpu t at todo new.2 held) in
      let mid = subst (λ (x : Option Effect). Mid x (entry_of cpu t (buffer_of c) f ∷ es)) (sym new.1) next in (
        is,
        subst (λ (x : Option Effect). HasComeIn (stage_after effect2 answer) program (after_answer answer i s)
            (entries_of cpu t (buffer_of c) x ++ es) saved2 effect2)
            is (grind (arith, here, mid, told, sent_state, received_state)),
      )
  poll_followed stage es saved saved2 effect effect2 None answer follows fresh stays told = grind (arith, fresh_none, here, sent_state, received_state)
