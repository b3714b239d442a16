-- The place of each thread, and what it does at which buffer, computed from the section log: two
-- folds over the log. Both are needed only to show that the steps of the table keep the order of a
-- call's sections: a thread that was woken runs again exactly when it may continue.
use Rattle.std.proofs.Common.{◌≡◌, ℕ, Bool, true, false, ◌&&◌, ◌==◌, List, [], ◌∷◌, length, Option, Some, None, nat_lt, if◌then◌else◌}
use Rattle.event_log.specs.declared.ids.{CpuId.CpuId, Tid.Tid, BufId.BufId, LockId.{LockId, TheVariants.{Pending, Buffer as AtBuffer}}, TheConstants.THREADS}
use Rattle.{event_log.specs.{History.{same_cpu, same_lock}, Sections.Section}, thread_blocks.specs.Queues.same_tid}
use Rattle.layer_traits.specs.{declared.{locked.Side.{Side, TheVariants.{Receivers, Senders}}, moves.WaitList.WaitList}, Threads.ListsAgree.is_at}
use Rattle.layer_traits.specs.Threads.Places.{Where, Home, Hand, IsPending, Asleep, At, wait_channel_of, is_thread, one_if}
use Rattle.cpu.specs.Table.Blocks.{Buffer, Block, OfBuffer, Name, AcqQ, Enter, TryPut, TryTake, Shut, WaitOn, SigRecv, SigSend, RelQ, Pend, TakeAll}
use Rattle.cpu.specs.{Table.{Edits.answer_of_buffer, Setups.{SystemConfig, home_cpu}}, Wakeups.Order.{Progress, Begins, HasEntered, WasRefused, Owes, MayTry}}
use Rattle.cpu.specs.Wakeups.Order.{progress_after, block_of}
use Rattle.layer_traits.specs.declared.moves.WaitList.TheVariants as wait_list

-- where a thread is in its call, according to its sections: in none, at a buffer with what it has
-- done there as the owner of the lock, or it waits on a side of the buffer. One that was woken has
-- entered its line, whatever the new owner has done.
pub data Visit : Type 0 where
  Outside : Visit
  In : (buffer : BufId) (progress : Progress) → Visit
  Waiting : (buffer : BufId) (side : Side) → Visit

abbrev pub is_buffer : BufId → BufId → Bool
is_buffer b d = b.0 == d.0

abbrev pub is_side : Side → Side → Bool
is_side Receivers Senders = false
is_side Senders Receivers = false
is_side given given' = true

-- Marks of a place.

-- the waiting list of a side
abbrev pub list_of : Side → WaitList
list_of Receivers = wait_list.Receivers
list_of Senders = wait_list.Senders

-- it sleeps in this list of the buffer
abbrev pub sleeps_in : BufId → WaitList → Where → Bool
sleeps_in b list x = is_at (AtBuffer b) list (wait_channel_of x)

-- it sleeps at the buffer
abbrev pub sleeps_at : BufId → Where → Bool
sleeps_at b (Asleep (At lock list)) = same_lock lock (AtBuffer b)
sleeps_at b x = false

abbrev pub is_pending : Where → Bool
is_pending (IsPending q) = true
is_pending x = false

-- it was woken by another CPU and is in transit
abbrev pub is_moved : Where → Bool
is_moved (Hand c) = true
is_moved (IsPending q) = true
is_moved x = false

-- Marks of a visit.

abbrev pub names : BufId → Visit → Bool
names b Outside = false
names b (In d progress) = is_buffer b d
names b (Waiting d side) = is_buffer b d

-- it owns the lock, or will own it before it does anything else
abbrev pub goes_on : Visit → Bool
goes_on (In d progress) = true
goes_on visit = false

abbrev pub is_inside : BufId → Visit → Bool
is_inside b visit = names b visit && goes_on visit

-- what it does first once it has the lock
abbrev pub starts_here : Visit → Bool
starts_here (In d Begins) = true
starts_here (In d (HasEntered side)) = true
starts_here given = false

abbrev pub is_starting : BufId → Visit → Bool
is_starting b visit = names b visit && starts_here visit

-- it is in the line of this side
abbrev pub stands : Side → Visit → Bool
stands side (In d (HasEntered other)) = is_side side other
stands side (In d (WasRefused other)) = is_side side other
stands side (Waiting d other) = is_side side other
stands side given = false

abbrev pub is_lined : BufId → Side → Visit → Bool
is_lined b side visit = names b visit && stands side visit

-- the owner's progress is what its visit says
abbrev pub InStep : Visit → Progress → Type 0
InStep (In d (HasEntered side)) g = MayTry side g
InStep (In d progress) g = g ≡ progress
InStep given g = Unit {0}

-- The folds.

-- whose section it is; a section on pending threads has no caller
abbrev pub caller_in : Name → Option Tid
caller_in (AcqQ t) = Some t
caller_in (Enter t side) = Some t
caller_in (TryPut t m) = Some t
caller_in (TryTake t) = Some t
caller_in (Shut t) = Some t
caller_in (WaitOn t side) = Some t
caller_in (SigRecv t) = Some t
caller_in (SigSend t) = Some t
caller_in (RelQ t) = Some t
caller_in name = None

abbrev pub is_caller : Tid → Name → Bool
is_caller u name = is_thread u (caller_in name)

-- where a caller sleeps
abbrev pub list_by : Name → WaitList
list_by (WaitOn t side) = list_of side
list_by name = wait_list.Sleepers

abbrev pub waiters_of : BufId → Name → Where
waiters_of b name = Asleep (At (AtBuffer b) (list_by name))

abbrev pub post_by : Bool → CpuId → Where
post_by here c = if here then Home else Hand c

-- a woken thread is at `Home` at once, or in the hand of the CPU that woke it
abbrev pub post_woken : SystemConfig → CpuId → Tid → Where
post_woken setup c u = post_by (same_cpu (home_cpu setup u) c) c

abbrev pub post_slept : BufId → Tid → Name → Bool → Where → Where
post_slept b u name slept x = if slept && is_caller u name then waiters_of b name else x

abbrev pub post_moved : SystemConfig → CpuId → BufId → Tid → Name → Bool → Option Tid → Where → Where
post_moved setup c b u name slept woke x = if is_thread u woke then post_woken setup c u else post_slept b u name slept x

abbrev pub post_drained : Where → Where
post_drained (IsPending q) = Home
post_drained x = x

abbrev pub post_pending : SystemConfig → CpuId → Tid → Name → Where → Where
post_pending setup d u (Pend s) x = if same_tid s u then IsPending d else x
post_pending setup d u TakeAll x = if same_cpu (home_cpu setup u) d then post_drained x else x
post_pending setup d u name x = x

abbrev pub post_buffer : SystemConfig → CpuId → BufId → Tid → Name → Option Block → Where → Where
post_buffer setup c b u name (Some (OfBuffer k)) x = post_moved setup c b u name (answer_of_buffer name k).slept (answer_of_buffer name k).woke x
post_buffer setup c b u name given x = x

abbrev pub post_at : SystemConfig → CpuId → LockId → Tid → Name → Option Block → Where → Where
post_at setup c (AtBuffer b) u name o x = post_buffer setup c b u name o x
post_at setup c (Pending d) u name o x = post_pending setup d u name x

abbrev pub post : SystemConfig → Tid → List (Section Name) → Where
post setup u [] = Home
post setup u (s ∷ past) = post_at setup s.cpu s.lock u s.edit (block_of setup s.lock past) (post setup u past)

-- what a caller does after its section
abbrev pub acquired_visit : BufId → Visit → Visit
acquired_visit b Outside = In b Begins
acquired_visit b (Waiting d side) = In b (HasEntered side)
acquired_visit b (In d other) = In d other

-- a section that keeps the lock is one step of its owner's progress
abbrev pub owners_visit : BufId → Name → Buffer → Visit → Visit
owners_visit b name k (In d progress) = In b (progress_after name k progress)
owners_visit b name k visit = visit

abbrev pub next_visit : BufId → Name → Buffer → Visit → Visit
next_visit b (AcqQ t) k visit = acquired_visit b visit
next_visit b (WaitOn t side) k visit = Waiting b side
next_visit b (RelQ t) k visit = Outside
next_visit b name k visit = owners_visit b name k visit

abbrev pub visit_moved : BufId → Tid → Name → Buffer → Visit → Visit
visit_moved b u name k visit = if is_caller u name then next_visit b name k visit else visit

abbrev pub visit_buffer : BufId → Tid → Name → Option Block → Visit → Visit
visit_buffer b u name (Some (OfBuffer k)) visit = visit_moved b u name k visit
visit_buffer b u name given visit = visit

abbrev pub visit_at : LockId → Tid → Name → Option Block → Visit → Visit
visit_at (AtBuffer b) u name o visit = visit_buffer b u name o visit
visit_at (Pending d) u name o visit = visit

abbrev pub visit : SystemConfig → Tid → List (Section Name) → Visit
visit setup u [] = Outside
visit setup u (s ∷ past) = visit_at s.lock u s.edit (block_of setup s.lock past) (visit setup u past)

-- Which section may occur.

-- the section is the one that is due to its caller
abbrev pub IsDue : BufId → Name → Visit → Type 0
IsDue b (AcqQ t) Outside = Unit {0}
IsDue b (AcqQ t) (Waiting d side) = d ≡ b
IsDue b (Enter t side) (In d Begins) = d ≡ b
IsDue b (Shut t) (In d Begins) = d ≡ b
IsDue b (TryPut t m) (In d (HasEntered Senders)) = d ≡ b
IsDue b (TryTake t) (In d (HasEntered Receivers)) = d ≡ b
IsDue b (WaitOn t side) (In d (WasRefused other)) = (d ≡ b) × (other ≡ side)
IsDue b (SigRecv t) (In d (Owes receivers senders)) = d ≡ b
IsDue b (SigSend t) (In d (Owes receivers senders)) = d ≡ b
IsDue b (RelQ t) (In d (Owes receivers senders)) = (d ≡ b) × (receivers ≡ false) × (senders ≡ false)
IsDue b name visit = ⊥

-- the thread's home is this CPU
abbrev pub is_local : SystemConfig → CpuId → Tid → Bool
is_local setup c u = same_cpu (home_cpu setup u) c && nat_lt u.0 (length setup.homes)

-- the caller of a section runs on its CPU, and the section is due to it
pub record IsCallers (setup : SystemConfig) (c : CpuId) (b : BufId) (name : Name) (t : Tid) (post : Where) (visit : Visit) : Type 0 where
  pub local_is : is_local setup c t ≡ true
  pub here : post ≡ Home
  pub due : IsDue b name visit

abbrev pub MayComeBy : SystemConfig → List (Section Name) → CpuId → BufId → Name → Option Tid → Type 0
MayComeBy setup past c b name None = ⊥
MayComeBy setup past c b name (Some t) = IsCallers setup c b name t (post setup t past) (visit setup t past)

abbrev pub MayComeTo : SystemConfig → List (Section Name) → CpuId → CpuId → Name → Type 0
MayComeTo setup past c d (Pend s) = (post setup s past ≡ Hand c) × (home_cpu setup s ≡ d)
MayComeTo setup past c d TakeAll = c ≡ d
MayComeTo setup past c d name = ⊥

abbrev pub MayComeAt : SystemConfig → List (Section Name) → CpuId → LockId → Name → Type 0
MayComeAt setup past c (AtBuffer b) name = MayComeBy setup past c b name (caller_in name)
MayComeAt setup past c (Pending d) name = MayComeTo setup past c d name

-- the section may occur: the table does no other
abbrev pub MayCome : SystemConfig → List (Section Name) → Section Name → Type 0
MayCome setup past s = MayComeAt setup past s.cpu s.lock s.edit

-- how often a thread is in a list whose threads bear a mark; a number that is no thread's is in
-- none
abbrev pub marked : Tid → Bool → ℕ
marked u mark = one_if (nat_lt u.0 THREADS && mark)
