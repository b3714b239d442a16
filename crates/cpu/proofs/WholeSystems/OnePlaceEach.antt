-- The invariant of a system implies that each thread is in exactly one place.
use Rattle.std.proofs.{Common.{◌≡◌, ℕ, ◌+◌, ◌<◌, ◌==◌, false, List, length, Option, Some, None, refl, ap, sym, ◌∙◌, subst, arith}, lemmas.Bool.{eq-eqb, ne_eqb}}
use Rattle.std.specs.Prelude.{slice_get, slice_index_or}
use Rattle.{event_log.specs.declared.ids.{BufId.BufId, CpuId.CpuId, LockId.TheVariants.Buffer, Tid.Tid}, layer_traits.specs.declared.moves.WaitList.WaitList}
use Rattle.layer_traits.specs.{declared.moves.WaitList.TheVariants.{Sleepers, Receivers, Senders}, Layers.IpcLaw.WaitListsAgree, Threads.ListsAgree.is_at}
use Rattle.layer_traits.specs.Threads.{OnePlace.{cpu_at, total}, Places.{AreMoves, Asleep, At, WaitChannel, Stands, Step, Where, home_of, is_asleep, one_if}}
use Rattle.layer_traits.{specs.Threads.Places.{wait_channel_of, where_is}, proofs.OnePlaceLemmas.{one_place, total_none, total_one, total_same}}
use Rattle.cpu.specs.Claims.{Waiters, CpuView, SystemView, HasUniquePlace, waiters_at, waiters_by, buffer_at, in_waiters, listed, no_waiters, own_at, own_in}
use Rattle.cpu.proofs.ListFacts.ListReads.{listed_length, listed_there, there_is}

-- how often a place is one of buffer b
times_at : ℕ → Option WaitChannel → ℕ
times_at b p =
    one_if (is_at (Buffer (buffer_at b)) Sleepers p) + one_if (is_at (Buffer (buffer_at b)) Receivers p) + one_if (is_at (Buffer (buffer_at b)) Senders p)

-- a place in a line of buffer d is one of buffer d once, and none of another one
times_here : (d : BufId) (line : WaitList) → times_at d.0 (Some (At (Buffer d) line)) ≡ 1
unfolding times_at
times_here d line = grind (arith, eq-eqb)

times_else : (d : BufId) (line : WaitList) (b : ℕ) → (d.0 ≡ b → ⊥) → times_at b (Some (At (Buffer d) line)) ≡ 0
unfolding times_at
times_else d line b other = let differ : (d.0 == b) ≡ false = ne_eqb d.0 b other in rw differ refl

times_none : (b : ℕ) → times_at b None ≡ 0
unfolding times_at
times_none b = refl

module _ (n : ℕ) (homes : List CpuId) (moves : List Step) (lines : BufId → WaitList → List Tid) (agree : WaitListsAgree n homes moves lines) (t : Tid) where
  by_times : (b : ℕ) → b < n → in_waiters t (waiters_by lines b) ≡ times_at b (wait_channel_of (where_is homes moves t))
  unfolding times_at
  by_times b within = grind arith

  -- over all buffers a thread is once among the sleepers if it sleeps, and otherwise never
  pub sleeping_is : total (λ b. in_waiters t (waiters_by lines b)) n ≡ one_if (is_asleep (where_is homes moves t))
  sleeping_is =
      grind (arith, total_same, by_times, go)
    where
      go : (w : Where) → where_is homes moves t ≡ w → total (λ b. times_at b (wait_channel_of w)) n ≡ one_if (is_asleep w)
      go (Asleep (At lock line)) is =
          let known = agree.known t lock line is in
          let d : BufId = known.0 in
          rw known.1 (total_one d.0 (λ b. times_at b (Some (At (Buffer d) line))) n known.2 (times_here d line) (λ b other. times_else d line b other))
      go w is = total_none (λ b. times_at b None) n (λ b within. times_none b)

-- each thread of a system is in exactly one place
pub once_of : (s : SystemView) (n : ℕ) (lines : BufId → WaitList → List Tid) → s.waiters ≡ listed (waiters_by lines) 0 n
    → WaitListsAgree n s.homes s.moves lines
    → ((t : Tid) (home : CpuId) → home_of s.homes t ≡ Some home → home.0 < length s.cpus) → AreMoves s.homes s.moves
    → ((k : ℕ) (p : CpuView) → slice_get s.cpus k ≡ Some p → Stands s.homes (cpu_at k) s.moves p.local) → HasUniquePlace s
once_of s n lines waiters_are agree within moved stands t =
    one_place s.homes (length s.cpus) s.moves (own_at s) (λ u. total (λ b. in_waiters u (waiters_at s b)) (length s.waiters)) (record {
      homes_within = within;
      moves_are = moved;
      stand = λ k inside. stand_at k (there_is s.cpus k inside);
      sleep = λ u. sleeps u;
    })
    t
  where
    stand_at : (k : ℕ) → (p : CpuView) × (slice_get s.cpus k ≡ Some p) → Stands s.homes (cpu_at k) s.moves (own_at s k)
    stand_at k there = subst (λ (o : Option CpuView). Stands s.homes (cpu_at k) s.moves (own_in o)) (sym there.1) (stands k there.0 there.1)

    sleeps : (u : Tid) → total (λ b. in_waiters u (waiters_at s b)) (length s.waiters) ≡ one_if (is_asleep (where_is s.homes s.moves u))
    sleeps u =
        ap (λ (m : ℕ). total (λ b. in_waiters u (waiters_at s b)) m) (ap (λ (l : List Waiters). length l) waiters_are ∙ listed_length (waiters_by lines) n 0)
        ∙ total_same (λ b. in_waiters u (waiters_at s b)) (λ b. in_waiters u (waiters_by lines b)) n (λ b inside. ap (in_waiters u)
        (ap (λ (l : List Waiters). slice_index_or l b no_waiters) waiters_are ∙ listed_there (waiters_by lines) n b no_waiters inside))
        ∙ sleeping_is n s.homes s.moves lines agree u
