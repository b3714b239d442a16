-- The lists that all CPUs share, and the list of the calls that were done, newest first.
use Rattle.std.specs.Prelude.{◌≡◌, ◌<◌, ℕ, ◌-◌, false, List, [], ◌∷◌, ◌++◌, length, reverse, Option}
use Rattle.std.specs.Prelude.{IfSome, option_map, slice_get, slice_index_or, slice_set}
use Rattle.event_log.specs.declared.ids.{BufId.BufId, CpuId.CpuId, LockId.LockId}
use Rattle.event_log.specs.declared.ids.{LockId.TheVariants.{Pending, Buffer}, Tid.Tid}
use Rattle.event_log.specs.{declared.ids.TheConstants.{CPUS, THREADS}, History.IsLawful}
use Rattle.event_log.specs.{Log.{events_in, room_of}, Sections.block_after}
use Rattle.thread_blocks.specs.Queues.{is_in}
use Rattle.layer_traits.specs.declared.queue_edits.QueueBlock.{QueueBlock, TheVariants.Queue}
use Rattle.layer_traits.specs.declared.queue_edits.QueueBlock.TheVariants.{Above}
use Rattle.layer_traits.specs.declared.queue_edits.QueueAnswer.{QueueAnswer, TheVariants.Done}
use Rattle.layer_traits.specs.declared.queue_edits.QueueAnswer.TheVariants.{Taken, Answer}
use Rattle.layer_traits.specs.declared.queues.QueueCall.{QueueCall, TheVariants.{Push, TakeAll}}
use Rattle.layer_traits.specs.declared.queues.QueueCall.TheVariants.{OnBuffer}
use Rattle.layer_traits.specs.{declared.queues.QueueEvent.QueueEvent, Threads.MoveRules.MoveRules}
use Rattle.layer_traits.specs.{Threads.Places.pending_by, Protocols.Protocol.Rules}
use Rattle.layer_traits.specs.{Blocks.QueueBlocks.{StartsWell, inner}, Layers.Queues.IsKnownEvent}
use Rattle.layer_traits.specs.Layers.Queues.{QueueAllowed, buffer_sections, kernel, moves_in}
use Rattle.plain_layers.specs.declared.kernel.{Lists.Lists, Opening.Opening}
use Rattle.plain_layers.specs.declared.kernel.PlainKernel.{PlainKernel}

-- the calls that were done, newest first
abbrev pub calls_in : {E B O H A : Type 0} → PlainKernel E B O H A → List (QueueEvent E)
calls_in m = reverse (events_in m.log)

-- how many more calls there is room for
abbrev pub call_room : {E B O H A : Type 0} → PlainKernel E B O H A → ℕ
call_room m = room_of m.log - length (events_in m.log)

-- the opening block of each lock: a pending queue with the home CPUs, or a buffer's block
abbrev pub opening_of : {B : Type 0} → Opening B → LockId → Option (QueueBlock B)
opening_of start (Pending c) =
    option_map (λ queue. Queue queue start.homes) (slice_get start.lists.value.pending.items c.0)
opening_of start (Buffer b) = option_map Above (slice_get start.lists.value.buffers.items b.0)

-- the pending threads of a CPU, head first
abbrev pub pending_in : {B : Type 0} → Lists B → CpuId → List Tid
pending_in lists d = slice_index_or lists.pending.items d.0 []

-- a call can be done on the lists: its list is there, and a thread that is pushed is not in the
-- queue
abbrev pub CanDo : {E B : Type 0} → QueueCall E → Lists B → Type 0
CanDo (Push d t) lists =
    (d.0 < length lists.pending.items) × (t.0 < THREADS) × (is_in t (pending_in lists d) ≡ false)
CanDo (TakeAll d) lists = d.0 < length lists.pending.items
CanDo (OnBuffer b e) lists = b.0 < length lists.buffers.items

-- the lists with this queue in the place of a CPU's
abbrev pub SetsQueue : {B : Type 0} → CpuId → List Tid → Lists B → Lists B → Type 0
SetsQueue d queue old new =
    (new.pending.items ≡ slice_set old.pending.items d.0 queue)
    × (new.buffers.items ≡ old.buffers.items)

-- the lists with this block in the place of a buffer's
abbrev pub SetsBlock : {B : Type 0} → BufId → B → Lists B → Lists B → Type 0
SetsBlock b block old new =
    (new.buffers.items ≡ slice_set old.buffers.items b.0 block)
    × (new.pending.items ≡ old.pending.items)

-- a call was done on the lists, with this result
abbrev pub IsDone : {E B O : Type 0} → Rules E B O → QueueCall E → Lists B → Lists B → QueueAnswer O
    → Type 0
IsDone protocol (Push d t) old new answer =
    SetsQueue d (pending_in old d ++ t ∷ []) old new × (answer ≡ Done)
IsDone protocol (TakeAll d) old new answer =
    SetsQueue d [] old new × (answer ≡ Taken (pending_in old d))
IsDone protocol (OnBuffer b e) old new answer =
    IfSome (slice_get old.buffers.items b.0)
    (λ block. SetsBlock b (protocol.edited e block) old new
    × (answer ≡ Answer (protocol.answer e block)))

-- a machine is sound: it opened well formed, its calls kept the protocol, and its lists are those
-- that they leave
pub record IsKernel {E B O : Type 0} (protocol : Rules E B O) (mv : MoveRules E O)
    (start : Opening B)
    (past : List (QueueEvent E)) (lists : Lists B) : Type 0 where
  pub starts : StartsWell (opening_of start)
  pub lawful : IsLawful (QueueAllowed (kernel protocol mv (opening_of start))) past
  pub known : IsLawful IsKnownEvent past
  pub queues : (d : CpuId) → slice_get lists.pending.items d.0
      ≡ option_map (λ queue. pending_by (moves_in (kernel protocol mv (opening_of start)) past) d)
      (slice_get start.lists.value.pending.items d.0)
  pub blocks : (b : BufId) → slice_get lists.buffers.items b.0
      ≡ block_after protocol.edited (inner (opening_of start)) (Buffer b) (buffer_sections past)

-- a machine is sound, and this is a CPU for which its holder acts
abbrev pub HasKernel : {E B O H A : Type 0} → Rules E B O → MoveRules E O → PlainKernel E B O H A
    → CpuId → Type 0
HasKernel protocol mv m c = (c.0 < CPUS) × IsKernel protocol mv m.opening (calls_in m) m.lists

-- no client distinguishes machines, so no numbers identify one
abbrev pub no_site : List ℕ
no_site = []
