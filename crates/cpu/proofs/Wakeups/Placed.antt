-- More of each thread after any section log: a CPU holds threads only if the machine has it, a
-- thread sleeps at buffers of the machine, and a thread that waits is at its wait.
use Rattle.std.proofs.Common.{◌≡◌, ◌<◌, Bool, true, false, ◌&&◌, List, [], ◌∷◌, length, Option, Some, option_map, nat_lt, if◌then◌else◌, refl, sym, ap, subst}
use Rattle.std.proofs.{Common.arith, lemmas.{Bool.and_parts, Option.slice_get_within}}
use Rattle.event_log.specs.{declared.ids.{CpuId.CpuId, Tid.Tid, BufId.BufId, LockId.{LockId, TheVariants.{Pending, Buffer as AtBuffer}}}, Sections.Section}
use Rattle.layer_traits.specs.{declared.{locked.Side.TheVariants.{Receivers, Senders}, moves.WaitList.WaitList}, Threads.Places.{Where, Hand, Asleep, At}}
use Rattle.{layer_traits.specs.Threads.Places.is_thread, cpu.specs.Table.{Blocks.{Buffer, Block, OfBuffer, Name}, Edits.{edited, answer_of_buffer}}}
use Rattle.cpu.{specs.{Table.Setups.{SystemConfig, opening_buffer, opening}, Wakeups.Order.block_of}, proofs.Wakeups.PostsAndVisits.{Waiting, Visit, Outside}}
use Rattle.cpu.proofs.Wakeups.PostsAndVisits.{is_caller, waiters_of, post_woken, post_pending, post_buffer, post, next_visit, visit_buffer, visit, MayComeTo}
use Rattle.cpu.proofs.{Wakeups.{PostsAndVisits.MayComeAt, BuffersAndThreads.{CallersAre, callers_are, is_the_caller}}, ListFacts.ListReads.blocks_keep}
use Rattle.cpu.proofs.ListFacts.ListReads.{there_is}
use Rattle.layer_traits.specs.declared.moves.WaitList.TheVariants as wait_list

-- what a waiting list says of the visit of a thread that sleeps in it
abbrev pub IsListed : BufId → WaitList → Visit → Type 0
IsListed b wait_list.Sleepers visit = Unit {0}
IsListed b wait_list.Receivers visit = visit ≡ Waiting b Receivers
IsListed b wait_list.Senders visit = visit ≡ Waiting b Senders

-- what a place says of the machine and of the visit
abbrev pub IsPlaced : SystemConfig → Visit → Where → Type 0
IsPlaced setup visit (Hand c) = c.0 < setup.cpus
IsPlaced setup visit (Asleep (At (AtBuffer b) list)) = (b.0 < length setup.caps) × IsListed b list visit
IsPlaced setup visit (Asleep (At (Pending d) list)) = ⊥
IsPlaced setup visit given = Unit {0}

-- a thread inside a call has a home CPU
abbrev pub HasHome : SystemConfig → Tid → Visit → Type 0
HasHome setup u Outside = Unit {0}
HasHome setup u visit = nat_lt u.0 (length setup.homes) ≡ true

pub record Placed (setup : SystemConfig) (past : List (Section Name)) : Type 0 where
  pub posts : (u : Tid) → IsPlaced setup (visit setup u past) (post setup u past)
  pub callers : (u : Tid) → HasHome setup u (visit setup u past)

-- a buffer's block is there only for a buffer of the machine
pub buffer_within : (setup : SystemConfig) (b : BufId) (past : List (Section Name)) (k : Buffer)
    → block_of setup (AtBuffer b) past ≡ Some (OfBuffer k) → b.0 < length setup.caps
buffer_within setup b =
    blocks_keep (λ o. (k : Buffer) → o ≡ Some (OfBuffer k) → b.0 < length setup.caps) edited (opening setup) (AtBuffer b)
    (λ k is. grind (arith, slice_get_within)) (λ e o before k is. grind arith)

-- and there is one for each
pub buffer_there : (setup : SystemConfig) (b : BufId) (past : List (Section Name)) → b.0 < length setup.caps
    → (k : Buffer) × (block_of setup (AtBuffer b) past ≡ Some (OfBuffer k))
buffer_there setup b past within =
    blocks_keep (λ o. (k : Buffer) × (o ≡ Some (OfBuffer k))) edited (opening setup) (AtBuffer b) (_, ap opening_buffer (there_is setup.caps b.0 within).1)
    (λ e o before. (_, ap (option_map (edited e)) before.1)) past

module _ (setup : SystemConfig) (past : List (Section Name)) (placed : Placed setup past) (c : CpuId) (within : c.0 < setup.cpus)
    (d : BufId) (name : Name) (callers : CallersAre setup past c d name) where
  posts_buffer : (u : Tid) (o : Option Block) → block_of setup (AtBuffer d) past ≡ o
      → IsPlaced setup (visit_buffer d u name o (visit setup u past)) (post_buffer setup c d u name o (post setup u past))
  posts_buffer u (Some (OfBuffer k)) is = by_test (is_thread u (answer_of_buffer name k).woke) (answer_of_buffer name k).slept (is_caller u name) refl
    where
      by_test : (w slept mine : Bool) → is_caller u name ≡ mine
          → IsPlaced setup (if mine then next_visit d name k (visit setup u past) else visit setup u past)
          (if w then post_woken setup c u else (if slept && mine then waiters_of d name else post setup u past))
      by_test false false true local = subst (IsPlaced setup (next_visit d name k (visit setup u past))) (sym (callers u (is_the_caller u name local)).here) tt
      by_test false true false local = placed.posts u
      by_test false false false local = placed.posts u
      by_test w slept mine local = grind (arith, within, buffer_within setup d past k is)
  posts_buffer u o is = placed.posts u

  callers_buffer : (u : Tid) (o : Option Block) → HasHome setup u (visit_buffer d u name o (visit setup u past))
  callers_buffer u o = grind (arith, and_parts, callers, is_the_caller)

module _ (setup : SystemConfig) (past : List (Section Name)) (placed : Placed setup past) (c d : CpuId) where
  posts_pending : (name : Name) → MayComeTo setup past c d name → (u : Tid)
      → IsPlaced setup (visit setup u past) (post_pending setup d u name (post setup u past))
  posts_pending name may u = grind arith

pub placed_none : (setup : SystemConfig) → Placed setup []
placed_none setup = record { posts = λ u. tt; callers = λ u. tt }

module _ (setup : SystemConfig) (past : List (Section Name)) (placed : Placed setup past) (c : CpuId) (within : c.0 < setup.cpus) (name : Name) where
  pub placed_at : (lock : LockId) → MayComeAt setup past c lock name → Placed setup (record { cpu = c; lock = lock; edit = name } ∷ past)
  placed_at lock may = grind (arith, posts_pending, posts_buffer, callers_buffer, callers_are, placed)
