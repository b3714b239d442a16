-- How the effects and the moves of the buffers grow with events, that a part keeps fitting over
-- those of other CPUs, and what calls leave as it was.
use Rattle.std.proofs.Common.{ℕ, ◌≡◌, ◌≢◌, Bool, false, List, [], ◌∷◌, ◌++◌, Option, Some, None, option_to_list, refl, ap, sym, ◌∙◌, subst, append_assoc, arith}
use Rattle.std.{proofs.Common.{rules, true, is_some, if◌then◌else◌}, specs.List.AllByRecursion}
use Rattle.fifo_buffer.{proofs.{Callers.{kernel_of, AreLawful}, OtherSteps.keeps_fits}, specs.{FifoFits.{PartFits, BootsSo}, Stances.CallStateFits}}
use Rattle.fifo_buffer.specs.{Laws.Tallies.effect_position, SectionPolls.{BufferEvent, BufferOutcome, CallsFit, SectionGoes, IsDeferred, Midway, NoSection}}
use Rattle.{fifo_buffer.specs.{SectionPolls.under_way_at, declared.fifo.Fifo.Fifo}, event_log.specs.declared.{entries.Entry.Entry, ids.BufId.BufId}}
use Rattle.event_log.specs.{declared.ids.{CpuId.CpuId, LockId.{LockId, TheVariants.Buffer}, Tid.Tid}, History.{AreForeign, AreOthers, same_cpu}}
use Rattle.{event_log.proofs.{Same.same_cpu_true, Foreign.others_both}, layer_traits.specs.declared.buffer_edits.BufferEdit.BufferEdit}
use Rattle.layer_traits.specs.declared.{buffer_edits.BufferReply.BufferReply, calls.Call.Call, locked.Side.Side, queue_edits.QueueBlock.QueueBlock}
use Rattle.layer_traits.specs.declared.{queues.QueueCall.{QueueCall, TheVariants.{Push, TakeAll, OnBuffer}}, scheds.SchedCall.SchedCall}
use Rattle.layer_traits.specs.{declared.{call_states.CallState.CallState, passes.Pass.Pass}, Blocks.BufferEffects.{effect_of, effect_on, effects_in}}
use Rattle.layer_traits.specs.{Blocks.{BufferProtocol.{BufferLock, BufferSection}, QueueBlocks.{homes_in, inner}}, Layers.BufferLaw.{MovesGrow, OthersSeen}}
use Rattle.layer_traits.specs.Layers.{BufferLaw.{cpu_of_entry, recorded, call_state_of, Calling, MayGoOn, Passing}, Conditions.CvCall, CvLaw.Waiting}
use Rattle.layer_traits.specs.Layers.{Queues.{buffer_sections, cpu_of_queue_event, moves_in, with_section}, Scheds.{SchedPolled, events_of, pass_call}}
use Rattle.layer_traits.specs.{Layers.SleepLaw.done_if, Threads.{Places.{home_of, Threads}, Passes.PassPolled}, Protocols.Protocol.section}
use Rattle.layer_traits.{specs.Polling.Framed.Framed, proofs.{CallLemmas.{moves_append, moves_others, moves_over, pass_polled}, SleepLemmas.done_same}}
use Rattle.layer_traits.proofs.Seen.{lawful_rest}
use Rattle.layer_traits.specs.declared.scheds.SchedCall.TheVariants as sched

-- an effect has its section's CPU
one_entry : (d cpu : CpuId) (b : BufId) (call : CvCall BufferEdit) (position : Side → Tid → ℕ) (x : Option BufferLock) → same_cpu cpu d ≡ false
    → AreOthers cpu_of_entry d (option_to_list (effect_on cpu b call position x))
one_entry d cpu b call position x other = go (effect_on cpu b call position x) refl
  where
    go : (o : Option Entry) → effect_on cpu b call position x ≡ o → AreOthers cpu_of_entry d (option_to_list o)
    go None is = tt
    go (Some e) is = (rw (effect_position cpu b call position x e is).0 other, tt)

module _ (O : LockId → Option BufferLock) where
  -- the effects of one event, and of some
  abbrev effect_by : CpuId → QueueCall (CvCall BufferEdit) → List BufferSection → List Entry
  effect_by cpu (Push d t) past = []
  effect_by cpu (TakeAll d) past = []
  effect_by cpu (OnBuffer b call) past = option_to_list (effect_of O past (section cpu (Buffer b) call))

  abbrev pub effects_over : List BufferEvent → List BufferEvent → List Entry
  effects_over [] past = []
  effects_over (e ∷ more) past = effect_by e.cpu e.call (buffer_sections (more ++ past)) ++ effects_over more past

  effects_with : (cpu : CpuId) (call : QueueCall (CvCall BufferEdit)) (past : List BufferSection)
      → effects_in O (with_section cpu call past) ≡ effect_by cpu call past ++ effects_in O past
  effects_with cpu call past = grind arith

  pub effects_append : (more past : List BufferEvent)
      → effects_in O (buffer_sections (more ++ past)) ≡ effects_over more past ++ effects_in O (buffer_sections past)
  effects_append [] past = refl
  effects_append (e ∷ more) past =
      effects_with e.cpu e.call (buffer_sections (more ++ past))
      ∙ ap (λ es. effect_by e.cpu e.call (buffer_sections (more ++ past)) ++ es) (effects_append more past)
      ∙ sym (append_assoc (effect_by e.cpu e.call (buffer_sections (more ++ past))) (effects_over more past) (effects_in O (buffer_sections past)))

  pub effects_others : (d : CpuId) (more past : List BufferEvent) → AreOthers cpu_of_queue_event d more → AreOthers cpu_of_entry d (effects_over more past)
  effects_others d [] past others = tt
  effects_others d (e ∷ more) past others =
      others_both cpu_of_entry d (effect_by e.cpu e.call (buffer_sections (more ++ past))) (effects_over more past) (go e.call)
      (effects_others d more past others.1)
    where
      go : (call : QueueCall (CvCall BufferEdit)) → AreOthers cpu_of_entry d (effect_by e.cpu call (buffer_sections (more ++ past)))
      go (Push q t) = tt
      go (TakeAll q) = tt
      go (OnBuffer b call) = one_entry d e.cpu b call _ _ others.0

module _ (opening : LockId → Option (QueueBlock BufferLock)) (d : CpuId) (more past : List BufferEvent) (others : AreOthers cpu_of_queue_event d more)
    (lawful : AreLawful opening (more ++ past)) where
  call_state_on : (u : Tid) → home_of (homes_in opening) u ≡ Some d → (of : Option Call) (slept waits : Option BufId) (call_state : CallState)
      → CallStateFits (inner opening) (buffer_sections past) u of slept waits call_state
      → CallStateFits (inner opening) (buffer_sections (more ++ past)) u of slept waits call_state
  call_state_on u home = keeps_fits opening d u home more past others lawful

  pub deferred_on : (t : Tid) (home : home_of (homes_in opening) t ≡ Some d) (call_state : CallState) (outcome : BufferOutcome)
      → IsDeferred (inner opening) (buffer_sections past) t call_state.stage call_state outcome
      → IsDeferred (inner opening) (buffer_sections (more ++ past)) t call_state.stage call_state outcome
  deferred_on t home call_state outcome deferred = search (rules, call_state_on t home (recorded call_state call_state.stage outcome.out).call)

  midway_on : (t : Tid) → home_of (homes_in opening) t ≡ Some d → (call : Call) (call_state : CallState) (deferred : Option BufferOutcome) (hand : Option Tid)
      → Midway (inner opening) (buffer_sections past) t call call_state deferred hand
      → Midway (inner opening) (buffer_sections (more ++ past)) t call call_state deferred hand
  midway_on t home call call_state None hand midway = (midway.0, call_state_on t home (Some call) None None call_state midway.1)
  midway_on t home call call_state (Some outcome) hand midway = deferred_on t home call_state outcome midway

  goes_on : (t : Tid) → home_of (homes_in opening) t ≡ Some d → (call : Call) (call_state : CallState) (local : Waiting BufferReply)
      (under_way : Option (SchedCall (CvCall BufferEdit))) → SectionGoes (inner opening) (buffer_sections past) t call call_state local under_way
      → SectionGoes (inner opening) (buffer_sections (more ++ past)) t call call_state local under_way
  goes_on t home call call_state local None goes = search (rules, call_state_on t home (Some call))
  goes_on t home call call_state local (Some s) goes = search (rules, midway_on t home call call_state)

  -- a part keeps fitting over events of other CPUs
  pub calls_on : (local : Waiting BufferReply) (call_states : List CallState) (under_way : Option (SchedCall (CvCall BufferEdit))) (calling : Option Tid)
      → CallsFit (homes_in opening) d (inner opening) (buffer_sections past) local call_states under_way calling
      → CallsFit (homes_in opening) d (inner opening) (buffer_sections (more ++ past)) local call_states under_way calling
  calls_on local call_states under_way None coupled = search (rules, call_state_on)
  calls_on local call_states under_way (Some t) coupled =
      search (rules, call_state_on, goes_on t coupled.home coupled.call (call_state_of call_states t) local under_way)

  pub part_on : {local : Waiting BufferReply} {call_states : List CallState} {under_way : Option (SchedCall (CvCall BufferEdit))} {calling : Option Tid}
      → PartFits opening d past local call_states under_way calling → PartFits opening d (more ++ past) local call_states under_way calling
  part_on {local} {call_states} {under_way} {calling} coupled = search (rules, calls_on local call_states under_way calling)

-- the same at a log that grew so
pub part_grown : (opening : LockId → Option (QueueBlock BufferLock)) (d : CpuId) (more past new : List BufferEvent) → AreOthers cpu_of_queue_event d more
    → AreLawful opening new → new ≡ more ++ past
    → {local : Waiting BufferReply} {call_states : List CallState} {under_way : Option (SchedCall (CvCall BufferEdit))}
    {calling : Option Tid} → PartFits opening d past local call_states under_way calling → PartFits opening d new local call_states under_way calling
part_grown opening d more past new others lawful is {local} {call_states} {under_way} {calling} coupled =
    subst (λ log. PartFits opening d log local call_states under_way calling) (sym is)
    (part_on opening d more past others (subst (AreLawful opening) is lawful) coupled)

-- only effects of other CPUs, and only moves of other CPUs
pub seen_grown : (ActsFor Acts : CpuId → Type 0) (O : LockId → Option BufferLock) (others old new : List BufferEvent) → ((d : CpuId) → Acts d → ActsFor d)
    → AreForeign ActsFor cpu_of_queue_event others → new ≡ others ++ old
    → OthersSeen Acts (effects_in O (buffer_sections old)) (effects_in O (buffer_sections new))
seen_grown ActsFor Acts O others old new weaker foreign is = record {
  others = effects_over O others old;
  foreign = λ d acts. effects_others O d others old (foreign d (weaker d acts));
  is = ap (λ log. effects_in O (buffer_sections log)) is ∙ effects_append O others old;
}

all_own : (opening : LockId → Option (QueueBlock BufferLock)) (c : CpuId) (mine past : List BufferEvent) → AllByRecursion (λ (e : BufferEvent). e.cpu ≡ c) mine
    → AllByRecursion (λ s. s.cpu ≡ c) (moves_over (kernel_of opening) mine past)
all_own opening c [] past local = tt
all_own opening c (e ∷ mine) past local = (local.0, all_own opening c mine past local.1)

pub moves_grown : (opening : LockId → Option (QueueBlock BufferLock)) (ActsFor Acts : CpuId → Type 0) (c : CpuId) (mine others old new : List BufferEvent)
    → ((d : CpuId) → Acts d → ActsFor d) → AreForeign ActsFor cpu_of_queue_event others → AllByRecursion (λ (e : BufferEvent). e.cpu ≡ c) mine
    → new ≡ mine ++ (others ++ old) → MovesGrow Acts c (moves_in (kernel_of opening) old) (moves_in (kernel_of opening) new)
moves_grown opening ActsFor Acts c mine others old new weaker foreign local is = record {
  others = moves_over (kernel_of opening) others old;
  mine = moves_over (kernel_of opening) mine (others ++ old);
  foreign = λ d acts. moves_others (kernel_of opening) d others old (foreign d (weaker d acts));
  local = all_own opening c mine (others ++ old) local;
  is = ap (moves_in (kernel_of opening)) is
      ∙ moves_append (kernel_of opening) mine (others ++ old) ∙ ap (λ steps. moves_over (kernel_of opening) mine (others ++ old) ++ steps)
      (moves_append (kernel_of opening) others old);
}

-- the part of another CPU keeps fitting over a section poll
own_others : (c d : CpuId) → d ≢ c → (mine : List BufferEvent) → AllByRecursion (λ (e : BufferEvent). e.cpu ≡ c) mine → AreOthers cpu_of_queue_event d mine
own_others c d other [] local = tt
own_others c d other (e ∷ mine) local = (go (same_cpu e.cpu d) refl, own_others c d other mine local.1)
  where
    go : (b : Bool) → same_cpu e.cpu d ≡ b → b ≡ false
    go b is = grind (arith, same_cpu_true)

pub other_part : (opening : LockId → Option (QueueBlock BufferLock)) (c d : CpuId) → d ≢ c → (mine others past new : List BufferEvent)
    → AllByRecursion (λ (e : BufferEvent). e.cpu ≡ c) mine → AreOthers cpu_of_queue_event d others → new ≡ mine ++ (others ++ past) → AreLawful opening new
    → {local : Waiting BufferReply} {call_states : List CallState} {under_way : Option (SchedCall (CvCall BufferEdit))} {calling : Option Tid}
    → PartFits opening d past local call_states under_way calling → PartFits opening d new local call_states under_way calling
other_part opening c d apart mine others past new own_events foreign is lawful coupled =
    part_grown opening d (mine ++ others) past new (others_both cpu_of_queue_event d mine others (own_others c d apart mine own_events) foreign) lawful
    (is ∙ sym (append_assoc mine others past)) coupled

-- the call below was of a part of the same CPU, and the part agrees again; and so does each part of
-- another CPU
pub framed_over : {P M : Type 0} (Part : Fifo P → M → Type 0) {Coupled : P → M → Type 0} {cpu_of : P → CpuId}
    {opening : M → LockId → Option (QueueBlock BufferLock)} {machine_id : M → List ℕ} {room : M → ℕ} {ActsFor MayHold : M → CpuId → Type 0} {old new : Fifo P}
    {p p' : P} {m n : M} → Framed Coupled cpu_of opening machine_id room ActsFor MayHold p p' m n → cpu_of p ≡ cpu_of old.lower → new.lower ≡ p' → Part new n
    → ((q : Fifo P) → cpu_of q.lower ≢ cpu_of old.lower → Coupled q.lower m → Part q m → Part q n)
    → Framed (λ q k. Coupled q.lower k × Part q k) (λ q. cpu_of q.lower) opening machine_id room (λ k c. ActsFor k c × BootsSo (opening k)) MayHold old new m n
framed_over Part {cpu_of = cpu_of} framed cpu new_is part others = record {
  coupled = (rw new_is framed.coupled, part);
  cpu = ap cpu_of new_is ∙ framed.cpu ∙ cpu;
  stays = record {
    opening = framed.stays.opening;
    machine_id = framed.stays.machine_id;
    room = framed.stays.room;
    acts = λ c both. (framed.stays.acts c both.0, rw framed.stays.opening both.1);
  };
  others = λ q other both. (framed.others q.lower (rw cpu other) both.0, others q other both.0 both.1);
  holders = λ c other both held. framed.holders c (rw cpu other) both.0 held;
}

-- its event, if it has one, is no section of a buffer
abbrev pub pass_events : List CpuId → CpuId → Pass → Bool → List BufferEvent
pass_events homes c p done = if done then events_of c (pass_call homes c p) else []

no_sections : (homes : List CpuId) (c : CpuId) (p : Pass) (done : Bool) (past : List BufferEvent)
    → buffer_sections (pass_events homes c p done ++ past) ≡ buffer_sections past
no_sections homes c p done past = grind arith

split : (homes : List CpuId) (c : CpuId) (p : Pass) (done : Bool) (past : List BufferEvent)
    → (if done then events_of c (pass_call homes c p) ++ past else past) ≡ pass_events homes c p done ++ past
split homes c p done past = grind arith

-- a call that was passed on to the scheduler of CPU c: the log and the CPU's threads before it and
-- after it, and what it did
module _ (opening : LockId → Option (QueueBlock BufferLock)) {ActsFor : CpuId → Type 0} {c : CpuId} (p : Pass) (result : Option (Unit {0}))
    {old new : List BufferEvent} {local local' : Threads}
    (polled : SchedPolled (kernel_of opening) ActsFor c (sched.Pass p) (done_if result) old new local local') where
  pub pass_grown : new ≡ pass_events (homes_in opening) c p (is_some (done_if {O = BufferOutcome} result)) ++ (polled.others ++ old)
  pass_grown = polled.is ∙ split (homes_in opening) c p (is_some (done_if {O = BufferOutcome} result)) (polled.others ++ old)

  same_sections : buffer_sections new ≡ buffer_sections (polled.others ++ old)
  same_sections = ap buffer_sections pass_grown ∙ no_sections (homes_in opening) c p (is_some (done_if {O = BufferOutcome} result)) (polled.others ++ old)

  pub pass_seen : (Acts : CpuId → Type 0) → ((d : CpuId) → Acts d → ActsFor d)
      → OthersSeen Acts (effects_in (inner opening) (buffer_sections old)) (effects_in (inner opening) (buffer_sections new))
  pass_seen Acts weaker = record {
    others = effects_over (inner opening) polled.others old;
    foreign = λ d acts. effects_others (inner opening) d polled.others old (polled.foreign d (weaker d acts));
    is = ap (effects_in (inner opening)) same_sections ∙ effects_append (inner opening) polled.others old;
  }

  pub pass_moved : (Acts : CpuId → Type 0) → ((d : CpuId) → Acts d → ActsFor d)
      → PassPolled (homes_in opening) Acts c p result (moves_in (kernel_of opening) old) (moves_in (kernel_of opening) new) local local'
  pass_moved Acts weaker =
      let moved = pass_polled (kernel_of opening) ActsFor c p (done_if result) old new local local' polled in
      let same : is_some (done_if {O = BufferOutcome} result) ≡ is_some result = done_same BufferOutcome result in
      record {
        others = moved.others;
        foreign = λ d acts. moved.foreign d (weaker d acts);
        is = rw (← same) moved.is;
        after = rw (← same) moved.after;
        at_once = λ local_is. sym same ∙ moved.at_once local_is;
      }

  -- the part of this CPU, and those of other CPUs
  pub part_passed : (d : CpuId) → AreOthers cpu_of_queue_event d polled.others → AreLawful opening (polled.others ++ old)
      → {cv : Waiting BufferReply} {call_states : List CallState} {under_way : Option (SchedCall (CvCall BufferEdit))} {calling : Option Tid}
      → PartFits opening d old cv call_states under_way calling → PartFits opening d new cv call_states under_way calling
  part_passed d others lawful coupled =
      let on = part_on opening d polled.others old others lawful coupled in
      record { boots = on.boots; sizes = on.sizes; calls = rw same_sections on.calls }

pub lawful_before : (opening : LockId → Option (QueueBlock BufferLock)) (mine past new : List BufferEvent) → new ≡ mine ++ past → AreLawful opening new
    → AreLawful opening past
lawful_before opening mine past new is lawful = grind (arith, lawful_rest)

-- what a pass changes of the part: its threads, and which pass is under way
pub passed_own : (opening : LockId → Option (QueueBlock BufferLock)) (c : CpuId) (past : List BufferEvent) (cv cv' : Waiting BufferReply)
    (call_states : List CallState)
    (under_way : Option (SchedCall (CvCall BufferEdit))) (calling : Option Tid) (p : Pass) (done : Bool) → MayGoOn (under_way_at calling under_way) (Passing p)
    → (cv'.lock.sleep.deferred ≡ cv.lock.sleep.deferred) × (cv'.lock.slept ≡ cv.lock.slept) × (cv'.waits ≡ cv.waits)
    → PartFits opening c past cv call_states under_way calling → PartFits opening c past cv' call_states (if done then None else Some (sched.Pass p)) calling
passed_own opening c past cv cv' call_states under_way (Some t) p done may rest coupled = absurd (let same : Calling t ≡ Passing p = may in cc)
passed_own opening c past cv cv' call_states under_way None p done may (deferred, slept, waits) coupled = record {
  boots = coupled.boots;
  sizes = record { slept = rw slept coupled.sizes.slept; waits = rw waits coupled.sizes.waits; call_states_are = coupled.sizes.call_states_are };
  calls = record { none = none done; deferred = deferred ∙ coupled.calls.deferred; fit = λ u home. rw (slept, waits) (coupled.calls.fit u home) };
}
  where
    none : (b : Bool) → NoSection (if b then None else Some (sched.Pass p))
    none true = tt
    none false = tt
