-- Effects: which entries the sections of buffers leave, and the lists of entries, newest first, of
-- effects that may follow one another. Counters have 64 bits: numbers are modulo 2^64.
use Rattle.std.specs.Prelude.{◌≡◌, ℕ, ◌%◌, ◌^◌, ◌<◌, Bool, false, ◌&&◌, List, [], ◌∷◌, ◌++◌, length}
use Rattle.std.specs.Prelude.{slice_get, slice_index, Option, Some, None, option_map}
use Rattle.std.specs.Prelude.{option_to_list, if◌then◌else◌}
use Rattle.event_log.specs.declared.entries.{Entry.Entry, Kind.{Kind, TheVariants.Close}}
use Rattle.event_log.specs.declared.ids.{BufId.BufId, CpuId.CpuId, LockId.LockId}
use Rattle.event_log.specs.declared.ids.{LockId.TheVariants.{Pending, Buffer}, Tid.Tid}
use Rattle.event_log.specs.{Buffers.{IsAllowedEffect, empty_buffers, items_of}, History.same_lock}
use Rattle.event_log.specs.{Messages.{Message, no_message}, Runs.{after_entry, count_of}}
use Rattle.event_log.specs.Runs.{count_of_kind, is_closed}
use Rattle.layer_traits.specs.declared.locked.QLockCall.TheVariants.{Acquire, Inside, Release}
use Rattle.layer_traits.specs.declared.locked.Side.{Side, TheVariants.{Receivers, Senders}}
use Rattle.layer_traits.specs.declared.conditions.CvEdit.TheVariants.{Edit, SignalFront}
use Rattle.layer_traits.specs.declared.buffer_edits.BufferEdit.{BufferEdit, TheVariants.Enter}
use Rattle.layer_traits.specs.declared.buffer_edits.BufferEdit.TheVariants.{TryPut, TryTake, Shut}
use Rattle.layer_traits.specs.{Layers.Conditions.CvCall, Blocks.BufferBlocks.effect_kind}
use Rattle.layer_traits.specs.Blocks.BufferBlocks.{empty_block, first_item, is_next, drawn_of}
use Rattle.layer_traits.specs.Blocks.BufferProtocol.{BufferLock, BufferSection, buffer_lock_at}
use Rattle.thread_blocks.specs.Queues.{same_tid}

-- whether a call enters this side's queue for this thread
abbrev pub is_enter : Side → Tid → CvCall BufferEdit → Bool
is_enter side t (Acquire u) = false
is_enter Receivers t (Inside (Edit (Enter u Receivers))) = same_tid u t
is_enter Receivers t (Inside (Edit (Enter u Senders))) = false
is_enter Senders t (Inside (Edit (Enter u Receivers))) = false
is_enter Senders t (Inside (Edit (Enter u Senders))) = same_tid u t
is_enter side t (Inside (Edit (TryPut u m))) = false
is_enter side t (Inside (Edit (TryTake u))) = false
is_enter side t (Inside (Edit (Shut u))) = false
is_enter side t (Inside (SignalFront u at)) = false
is_enter side t (Release leave) = false

-- how many threads entered this side's queue of a lock's buffer, modulo 2^64
abbrev pub drawn_in : Side → Option BufferLock → ℕ
drawn_in side None = 0
drawn_in side (Some lock) = drawn_of side lock.above

-- the position that a thread drew last in this side's queue: how many had entered before it
abbrev pub drawn : (LockId → Option BufferLock) → LockId → Side → Tid → List BufferSection → ℕ
drawn opening lock side t [] = 0
drawn opening lock side t (s ∷ past) =
    if same_lock lock s.lock && is_enter side t s.edit
    then drawn_in side (buffer_lock_at opening past lock)
    else drawn opening lock side t past

-- an entry
abbrev pub entry : CpuId → Tid → Kind → BufId → Message → ℕ → ℕ → Entry
entry cpu t kind b value op pos =
    record { cpu = cpu; thread = t; kind = kind; buffer = b; value = value; op = op; pos = pos }

-- the effect of a call on a lock's buffer. A try at its thread's turn has one, with the position
-- that its thread drew. A close has one, whose position is the number of those before it
abbrev pub effect_on : CpuId → BufId → CvCall BufferEdit → (Side → Tid → ℕ) → Option BufferLock
    → Option Entry
effect_on cpu b call position None = None
effect_on cpu b (Acquire t) position (Some lock) = None
effect_on cpu b (Inside (Edit (Enter t side))) position (Some lock) = None
effect_on cpu b (Inside (Edit (TryPut t m))) position (Some lock) =
    if is_next Senders t lock.above
    then Some (entry cpu t (effect_kind Senders lock.above) b m lock.above.effects
    (position Senders t))
    else None
effect_on cpu b (Inside (Edit (TryTake t))) position (Some lock) =
    if is_next Receivers t lock.above
    then Some (entry cpu t (effect_kind Receivers lock.above) b (first_item lock.above.items)
    lock.above.effects (position Receivers t))
    else None
effect_on cpu b (Inside (Edit (Shut t))) position (Some lock) =
    Some (entry cpu t Close b no_message lock.above.effects lock.above.closes)
effect_on cpu b (Inside (SignalFront t side)) position (Some lock) = None
effect_on cpu b (Release leave) position (Some lock) = None

-- the effect of a section at a lock
abbrev pub effect_at : (LockId → Option BufferLock) → List BufferSection → CpuId → LockId
    → CvCall BufferEdit → Option Entry
effect_at opening past cpu (Pending d) call = None
effect_at opening past cpu (Buffer b) call =
    effect_on cpu b call (λ side t. drawn opening (Buffer b) side t past)
    (buffer_lock_at opening past (Buffer b))

-- the effect of a section, if it has one
abbrev pub effect_of : (LockId → Option BufferLock) → List BufferSection → BufferSection
    → Option Entry
effect_of opening past s = effect_at opening past s.cpu s.lock s.edit

-- the effects of these sections
abbrev pub effects_in : (LockId → Option BufferLock) → List BufferSection → List Entry
effects_in opening [] = []
effects_in opening (s ∷ past) = option_to_list (effect_of opening past s) ++ effects_in opening past

-- what the buffers hold after these effects, newest first
abbrev pub contents_of : List ℕ → List Entry → List (List Message)
contents_of caps [] = empty_buffers caps
contents_of caps (e ∷ past) = after_entry (contents_of caps past) e

-- an effect may follow these. Its buffer exists and allows it. Its op is the number of earlier
-- effects on that buffer, and its pos the number of those that are counted with its kind
pub record MayTakeEffect (caps : List ℕ) (past : List Entry) (e : Entry) : Type 0 where
  pub known : e.buffer.0 < length caps
  pub allowed : IsAllowedEffect e.kind (is_closed past e.buffer.0) (slice_index caps e.buffer.0)
      (items_of (contents_of caps past) e.buffer.0) e.value
  pub op : e.op ≡ count_of past e.buffer.0 % 2 ^ 64
  pub pos : e.pos ≡ count_of_kind past e.buffer.0 e.kind % 2 ^ 64

-- a lock over an empty buffer, with no owner and no sleeper
abbrev pub fresh_lock : ℕ → BufferLock
fresh_lock capacity =
    record {
      owner = None;
      sleepers = [];
      receivers = [];
      senders = [];
      above = empty_block capacity;
    }

-- the locks of the buffers of these capacities
abbrev pub opening_locks : List ℕ → LockId → Option BufferLock
opening_locks caps (Pending cpu) = None
opening_locks caps (Buffer b) = option_map fresh_lock (slice_get caps b.0)
