use Rattle.std.proofs.Common.{◌≡◌, [], ◌-◌, ◌<◌, IsSome}
use Rattle.layer_traits.specs.Blocks.{Capacities.caps_in, BufferEffects.{effects_in, opening_locks}, BufferProtocol.buffer_monitor_rules, QueueBlocks.homes_in}
use Rattle.layer_traits.specs.{Blocks.QueueBlocks.inner, declared.call_layers.CallLayer.Ghosts, Layers.{BufferLaw.{buffering, fifo_plan}, Conditions.cv_rules}}
use Rattle.layer_traits.specs.Layers.{QLockLaw.lock_kernel, QLocking.{lock_after, wait_list_in}, Queues.{buffer_sections, moves_in}}
use Rattle.{layer_traits.proofs.PollRunLemmas.SoFar, event_log.specs.declared.ids.LockId.TheVariants.{Buffer, Pending}}
use Rattle.fifo_buffer.specs.{declared.fifo.Fifo.Fifo, FifoFits.{BootsSo, PartFits}, SectionPolls.under_way_at}
use Rattle.fifo_buffer.proofs.fifo.FifoCallLayerBufferLaw.poll_on.Given.{Over}
use Rattle.fifo_buffer.proofs.fifo.FifoCallLayerBufferLaw.poll_on.Given as goal

-- what a part of buffers reports as a layer of calls
abbrev pub tells : (g : Over) → Ghosts (Fifo g.row.C.Denot) (Unit {0}) g.row.C-Machine.Denot
tells g = let C = g.C.ThreadLayer in record {
  history = λ m. effects_in (inner (C.opening m)) (buffer_sections (C.history m));
  moves = λ m. moves_in (lock_kernel (cv_rules buffer_monitor_rules) (C.opening m)) (C.history m);
  wait_lists = λ m b line. wait_list_in line (lock_after (cv_rules buffer_monitor_rules) (inner (C.opening m)) (Buffer b) (buffer_sections (C.history m)));
  ActsFor = λ m c. C.ActsFor m c × BootsSo (C.opening m);
  room = λ m. C.room m;
  machine_id = λ m. C.machine_id m;
  IsFresh = λ m homes c. (C.ActsFor m c × BootsSo (C.opening m)) × C.IsOutside m c
      × (effects_in (inner (C.opening m)) (buffer_sections (C.history m)) ≡ [])
      × (moves_in (lock_kernel (cv_rules buffer_monitor_rules) (C.opening m)) (C.history m) ≡ [])
      × (homes_in (C.opening m) ≡ homes) × IsSome (C.opening m (Pending c))
      × (inner (C.opening m) ≡ opening_locks (caps_in (C.opening m)));
  MayHold = λ m c. C.MayHold m c;
  cpu_of = λ p. C.cpu_of p.lower;
  is_inside = λ p. C.is_inside p.lower;
  under_way = λ p. under_way_at p.calling (C.under_way p.lower);
  Coupled = λ p m. C.Coupled p.lower m
      × PartFits (C.opening m) (C.cpu_of p.lower) (C.history m) (C.local p.lower) p.call_states.call_states (C.under_way p.lower) p.calling;
  IsWhole = ⊥;
  IsStepwise = C.IsStepwise;
  opening = λ m. C.opening m;
  acts = λ m. C.acts m;
  local = λ p. buffering (C.local p.lower) p.call_states.call_states;
}

-- fewer actions were done than may be, and the call was quiet so far
abbrev pub invariant-loop-actions : goal.invariant-loop-actions
invariant-loop-actions g l = record {
  few : l.actions < l.most;
  so_far : SoFar (tells g) (λ buffers. fifo_plan) l.t l.call l.initial.self l.initial.m l.actions l.self l.m;
}

abbrev pub decreases-loop-actions : goal.decreases-loop-actions
decreases-loop-actions g l = l.most - l.actions
