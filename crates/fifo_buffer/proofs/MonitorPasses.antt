-- Parts of monitors at the start, and over the calls that they pass on to the scheduler.
use Rattle.std.proofs.Common.{◌≡◌, ℕ, Bool, List, [], ◌∷◌, ◌++◌, Option, Some, None, is_some, if◌then◌else◌, refl, ap, sym, ◌∙◌, subst, replicate, arith}
use Rattle.event_log.{specs.declared.ids.{CpuId.CpuId, LockId.LockId, Tid.Tid, TheConstants.THREADS}, proofs.ListLemmas.alike_at}
use Rattle.layer_traits.specs.{Blocks.QueueBlocks.{homes_in, inner}, Polling.Polls.until_answered, declared.{call_states.CallState.CallState, passes.Pass.Pass}}
use Rattle.layer_traits.specs.declared.{queue_edits.QueueBlock.QueueBlock, queues.QueueEvent.QueueEvent, scheds.SchedCall.SchedCall, sleeps.Outcome.Outcome}
use Rattle.layer_traits.specs.Layers.{BufferLaw.{MayGoOn, OthersSeen, Passing, call_state_of, no_call, still_passing}, Queues.{Kernel, buffer_sections}}
use Rattle.layer_traits.specs.Layers.{Queues.moves_in, Scheds.{SchedPolled, events_of, pass_call}, SleepLaw.{Sleeping, done_if, sleep_kernel}}
use Rattle.layer_traits.{specs.{Layers.Sleeping.NoSleepers, Threads.{Passes.PassPolled, Places.Threads}}, proofs.CallLemmas.pass_polled}
use Rattle.{layer_traits.proofs.SleepLemmas.done_same, fifo_buffer.specs.declared.monitor_blocks.{MonitorEdit.MonitorEdit, MonitorReply.MonitorReply}}
use Rattle.fifo_buffer.specs.{Monitors.monitor_rules, MonitorHistories.{MonitorLocked, fresh_monitors, monitor_entries}, MonitorParts.{CallFits, MonitorFits}}
use Rattle.fifo_buffer.{specs.MonitorParts.{NoMonitorSection, OpensFresh, AgreesWithStage, monitor_under}, proofs.MonitorPolls.{entries_append, entries_others}}
use Rattle.fifo_buffer.proofs.MonitorPolls.{entries_over}
use Rattle.layer_traits.specs.declared.scheds.SchedCall.TheVariants as sched

-- At the start.

-- if there was no move, there was no event
pub no_events_before : {E B O : Type 0} (k : Kernel E B O) (past : List (QueueEvent E)) → moves_in k past ≡ [] → past ≡ []
no_events_before k [] none = refl
no_events_before k (e ∷ past) none = absurd (cc none)

-- no thread waits at fresh monitors
pub nobody_sleeps_yet : (caps : List ℕ) (locks : LockId → Option MonitorLocked) → locks ≡ fresh_monitors caps → NoSleepers locks
nobody_sleeps_yet caps locks fresh lock wait_list = grind arith

-- no thread has called
pub no_stage_yet : (t : Tid) → AgreesWithStage (call_state_of (replicate THREADS no_call) t).stage (call_state_of (replicate THREADS no_call) t).effect
no_stage_yet t = subst (λ (s : CallState). AgreesWithStage s.stage s.effect) (sym (alike_at THREADS t.0 no_call)) tt

-- Over polls that leave a part's call states.

pub fresh_still : (opening opening' : LockId → Option (QueueBlock MonitorLocked)) → opening' ≡ opening → OpensFresh opening → OpensFresh opening'
fresh_still opening opening' same fresh = subst OpensFresh (sym same) fresh

pub part_still : (opening opening' : LockId → Option (QueueBlock MonitorLocked)) → opening' ≡ opening → (local : Sleeping MonitorReply)
    (call_states : List CallState) (under_way : Option (SchedCall MonitorEdit)) (calling : Option Tid)
    → MonitorFits opening local call_states under_way calling → MonitorFits opening' local call_states under_way calling
part_still opening opening' same local call_states under_way calling coupled = record {
  fresh = fresh_still opening opening' same coupled.fresh;
  slots = coupled.slots;
  stages = coupled.stages;
  calls = coupled.calls;
}

-- A pass.

no_calling : (under_way : Option (SchedCall MonitorEdit)) (calling : Option Tid) (p : Pass) → MayGoOn (monitor_under calling under_way) (Passing p)
    → calling ≡ None
no_calling under_way None p goes_on = refl
no_calling under_way (Some t) p goes_on = absurd (cc goes_on)

no_section_left : (p : Pass) (result : Option (Unit {0})) → NoMonitorSection (until_answered result (sched.Pass p))
no_section_left p None = tt
no_section_left p (Some u) = tt

under_none : (under_way : Option (SchedCall MonitorEdit)) (local : Sleeping MonitorReply) (call_states : List CallState) (calling : Option Tid)
    → calling ≡ None → CallFits calling under_way local call_states → local.deferred ≡ None
under_none under_way local call_states calling is coupled = (subst (λ o. CallFits o under_way local call_states) is coupled).1

pub fits_after_pass : (opening opening' : LockId → Option (QueueBlock MonitorLocked)) (local local' : Sleeping MonitorReply) (call_states : List CallState)
    (under_way under_way' : Option (SchedCall MonitorEdit)) (calling : Option Tid) (p : Pass) (result : Option (Unit {0})) → opening' ≡ opening
    → under_way' ≡ until_answered result (sched.Pass p) → local'.deferred ≡ local.deferred → MayGoOn (monitor_under calling under_way) (Passing p)
    → MonitorFits opening local call_states under_way calling → MonitorFits opening' local' call_states under_way' calling
fits_after_pass opening opening' local local' call_states under_way under_way' calling p result same is rest goes_on coupled = record {
  fresh = fresh_still opening opening' same coupled.fresh;
  slots = coupled.slots;
  stages = coupled.stages;
  calls =
      let none = no_calling under_way calling p goes_on in
      subst (λ o. CallFits o under_way' local' call_states) (sym none)
      (subst NoMonitorSection (sym is) (no_section_left p result), rest ∙ under_none under_way local call_states calling none coupled.calls);
}

still : (p : Pass) (result : Option (Unit {0})) → monitor_under None (until_answered result (sched.Pass p)) ≡ still_passing p result
still p None = refl
still p (Some u) = refl

pub pass_under : (under_way under_way' : Option (SchedCall MonitorEdit)) (calling : Option Tid) (p : Pass) (result : Option (Unit {0}))
    → under_way' ≡ until_answered result (sched.Pass p) → MayGoOn (monitor_under calling under_way) (Passing p)
    → monitor_under calling under_way' ≡ still_passing p result
pass_under under_way under_way' calling p result is goes_on =
    ap (λ o. monitor_under o under_way') (no_calling under_way calling p goes_on) ∙ ap (monitor_under None) is ∙ still p result

module _ (opening : LockId → Option (QueueBlock MonitorLocked)) (ActsFor Acts : CpuId → Type 0) (weaker : (d : CpuId) → Acts d → ActsFor d)
    (c : CpuId) (p : Pass)
    (result : Option (Unit {0})) (old new : List (QueueEvent MonitorEdit)) (local local' : Threads)
    (polled : SchedPolled (sleep_kernel monitor_rules opening) ActsFor c (sched.Pass p) (done_if result) old new local local') where
  no_sections : (v : Bool) (past : List (QueueEvent MonitorEdit))
      → buffer_sections (if v then events_of c (pass_call (homes_in opening) c p) ++ past else past) ≡ buffer_sections past
  no_sections v past = grind arith

  -- a pass adds no effect
  pub passed_seen : OthersSeen Acts (monitor_entries (inner opening) (buffer_sections old)) (monitor_entries (inner opening) (buffer_sections new))
  passed_seen = record {
    others = entries_over (inner opening) polled.others old;
    foreign = λ d acts. entries_others (inner opening) d polled.others old (polled.foreign d (weaker d acts));
    is = ap (λ log. monitor_entries (inner opening) (buffer_sections log)) polled.is
        ∙ ap (monitor_entries (inner opening)) (no_sections _ (polled.others ++ old)) ∙ entries_append (inner opening) polled.others old;
  }

  -- and is a pass in moves
  pub passed_moves : PassPolled (homes_in opening) Acts c p result (moves_in (sleep_kernel monitor_rules opening) old)
      (moves_in (sleep_kernel monitor_rules opening) new) local local'
  passed_moves =
      let moved = pass_polled (sleep_kernel monitor_rules opening) ActsFor c p (done_if result) old new local local' polled in
      let same : is_some (done_if {O = Outcome MonitorReply} result) ≡ is_some result = done_same (Outcome MonitorReply) result in
      record {
        others = moved.others;
        foreign = λ d acts. moved.foreign d (weaker d acts);
        is = rw (← same) moved.is;
        after = rw (← same) moved.after;
        at_once = λ local_is. sym same ∙ moved.at_once local_is;
      }
