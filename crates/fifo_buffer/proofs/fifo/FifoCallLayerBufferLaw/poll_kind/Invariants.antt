use Rattle.std.proofs.Common.{◌≡◌, true, false, List, IsSome, if◌then◌else◌}
use Rattle.{event_log.specs.{declared.ids.LockId.TheVariants.Buffer, Actions.Action}, layer_traits.specs.Layers.BufferLaw.{buffer_of, Buffering, buffering}}
use Rattle.layer_traits.specs.Layers.{BufferLaw.{call_state_of, fifo_plan, going, stage_plan}, Conditions.CvCall, QLocking.{lock_moves, lock_rules}}
use Rattle.layer_traits.specs.{Layers.Queues.buffer_sections, Blocks.{BufferProtocol.buffer_rules, QueueBlocks.{homes_in, inner}, QueueRules.queue_rules}}
use Rattle.layer_traits.specs.{declared.{buffer_edits.BufferEdit.BufferEdit, calls.Reply.Reply, queue_edits.QueueEdit.QueueEdit}, Polling.Plans.{Follows, Left}}
use Rattle.{layer_traits.specs.Polling.Plans.table_of, fifo_buffer.proofs.CallPolls.IsGoing}
use Rattle.fifo_buffer.proofs.fifo.FifoCallLayerBufferLaw.poll_kind.Given as goal

-- a section after which the poll continues does nothing to the machine, and what the next section
-- follows of its plan is the poll's plan
abbrev pub invariant-sections : goal.invariant-sections
invariant-sections g l = record {
  still : l.m ≡ l.initial.m;
  there : IsSome (g.C.ThreadLayer.opening l.m (Buffer (buffer_of l.call)));
  coupled : g.C.ThreadLayer.Coupled l.self.lower l.m;
  cpu : g.C.ThreadLayer.cpu_of l.self.lower ≡ g.C.ThreadLayer.cpu_of l.initial.self.lower;
  on : IsGoing (homes_in (g.C.ThreadLayer.opening l.initial.m)) (inner (g.C.ThreadLayer.opening l.initial.m))
      (buffer_sections (g.C.ThreadLayer.history l.initial.m)) (g.C.ThreadLayer.cpu_of l.initial.self.lower) l.t l.call
      (g.C.ThreadLayer.local l.initial.self.lower) (g.C.ThreadLayer.local l.self.lower) l.initial.self.call_states.call_states l.self.call_states.call_states
      (g.C.ThreadLayer.under_way l.self.lower);
  begins : l.first ≡ true → buffering (g.C.ThreadLayer.local l.self.lower) l.self.call_states.call_states
      ≡ buffering (g.C.ThreadLayer.local l.initial.self.lower) l.initial.self.call_states.call_states;
  follows : l.first ≡ false → g.C.ThreadLayer.IsStepwise → (new : List (Action (QueueEdit (CvCall BufferEdit)))) (got : Left Buffering Reply)
      → Follows (g.C.ThreadLayer.ActsFor l.initial.m) (table_of (queue_rules (lock_rules buffer_rules) (lock_moves buffer_rules)))
      (g.C.ThreadLayer.opening l.initial.m) (g.C.ThreadLayer.cpu_of l.initial.self.lower)
      (stage_plan (homes_in (g.C.ThreadLayer.opening l.initial.m)) (g.C.ThreadLayer.cpu_of l.initial.self.lower) l.t l.call
      (going (call_state_of l.self.call_states.call_states l.t) l.call).stage (going (call_state_of l.self.call_states.call_states l.t) l.call)
      (buffering (g.C.ThreadLayer.local l.self.lower) l.self.call_states.call_states)) (g.C.ThreadLayer.acts l.initial.m) new got
      → Follows (g.C.ThreadLayer.ActsFor l.initial.m) (table_of (queue_rules (lock_rules buffer_rules) (lock_moves buffer_rules)))
      (g.C.ThreadLayer.opening l.initial.m) (g.C.ThreadLayer.cpu_of l.initial.self.lower)
      (fifo_plan (homes_in (g.C.ThreadLayer.opening l.initial.m)) (g.C.ThreadLayer.cpu_of l.initial.self.lower) l.t l.call
      (buffering (g.C.ThreadLayer.local l.initial.self.lower) l.initial.self.call_states.call_states)) (g.C.ThreadLayer.acts l.initial.m) new got;
}

abbrev pub decreases-sections : goal.decreases-sections
decreases-sections g l = if l.first then 1 else 0
