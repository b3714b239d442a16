-- The place that a system reports for a thread is the thread's place in the table's lists.
use Rattle.std.proofs.{Common.{◌≡◌, ℕ, ◌<◌, true, List, length, Option, Some, ap, sym, ◌∙◌, subst, arith}, lemmas.{Bool.and_parts, List.length-map}}
use Rattle.std.{proofs.lemmas.Option.same_Some, specs.Prelude.slice_get}
use Rattle.layer_traits.specs.{Views.{OwnParts.threads_in, Observed.{IsOwnPlace, queue_place}}, declared.{calls.Place.Place, moves.WaitList.WaitList}}
use Rattle.layer_traits.specs.{declared.moves.WaitList.TheVariants.{Sleepers, Receivers, Senders}, Layers.{BufferLaw.Buffering, IpcLaw.WaitListsAgree}}
use Rattle.layer_traits.specs.Threads.{OnePlace.cpu_at, Passes.or_else, Places.{Asleep, At, IsPending, Stands, Step, Threads, Where, home_of, is_pend, one_if}}
use Rattle.layer_traits.{specs.Threads.Places.{pending_by, where_is}, proofs.{CountLemmas.{in_counted, is_cpu_true}, ListsLemmas.wait_channel_here}}
use Rattle.{layer_traits.proofs.{ListsLemmas.counted_in, PlaceLemmas.{pend_count, pend_home}}, event_log.specs.declared.{entries.Entry.Entry, ids.BufId.BufId}}
use Rattle.event_log.{specs.declared.ids.{CpuId.CpuId, LockId.TheVariants.Buffer as AtBuffer, Tid.Tid}, proofs.Same.same_cpu_self}
use Rattle.{thread_blocks.specs.Queues.is_in, cpu.specs.{declared.guests.Guest.Guest, Claims.{Waiters, CpuView, IsPlaceOf, MovesAgree, SystemView, waiters_at}}}
use Rattle.cpu.specs.{Claims.{waiters_by, listed}, Systems.whole_of, Table.Setups.{CpuLocal, SystemConfig, Thread, thread_at, home_cpu}}
use Rattle.cpu.specs.{Tables.{cpu_local, guest_state_of, guest_states}, Observed.{CpuHas, CpuIsObserved, HasBuffer, IsPlaceByTable}}
use Rattle.cpu.proofs.{ListFacts.ListReads.{listed_there, shows_at, there_is}, Tower.BegunPolls.thread_here}
use Rattle.event_log.specs.declared.ids.LockId.TheVariants as lock
use Rattle.layer_traits.specs.declared.calls.Place.TheVariants as place

-- a thread has ended in the table exactly if its part has it among those that have ended
pub ended_is : (local : Buffering) (guests : List (Option Guest)) (trace : List Entry) (t : Tid) → t.0 < length guests
    → (thread_at (cpu_local local guests trace) t).ended ≡ is_in t (threads_in local).ended
ended_is local guests trace t within =
    ap (λ (x : Thread). x.ended) (thread_here local (guest_states guests) trace t (omega (arith, within, length-map guests guest_state_of)))

-- a thread that has ended on a CPU has that home CPU
ended_home : (homes : List CpuId) (c : CpuId) (moves : List Step) (local : Threads) → Stands homes c moves local → (t : Tid) → is_in t local.ended ≡ true
    → home_of homes t ≡ Some c
ended_home homes c moves local stands t is = grind (arith, is_cpu_true, and_parts, in_counted)

module _ (s : SystemView) (agree : MovesAgree s) (lines : BufId → WaitList → List Tid) (waiters : s.waiters ≡ listed (waiters_by lines) 0 (length s.caps))
    (lists : WaitListsAgree (length s.caps) s.homes s.moves lines) (setup : SystemConfig)
    (cpus : (k : ℕ) (p : CpuView) → slice_get s.cpus k ≡ Some p → CpuIsObserved setup s k p)
    (buffers : (b : ℕ) → b < length s.caps → HasBuffer setup s b) (homes : setup.homes ≡ s.homes) where
  -- a thread that sleeps in a wait list of a buffer is in the buffer's list of that name
  asleep : (t : Tid) (b : BufId) (line : WaitList) → where_is s.homes s.moves t ≡ Asleep (At (AtBuffer b) line)
      → (b.0 < length s.caps) × (is_in t (lines b line) ≡ true)
  asleep t b line here = grind (arith, wait_channel_here, counted_in)

  waiters_of : (b : ℕ) → b < length s.caps → waiters_at s b ≡ waiters_by lines b
  waiters_of b within = grind (arith, listed_there)

  -- what holds of the private state of a CPU that is shown holds of that CPU in the table
  cpu_has : (c : CpuId) (k : ℕ) (p : CpuView) (Has : CpuLocal → Type 0) → c ≡ cpu_at k → slice_get s.cpus k ≡ Some p → Has p.cpu_local
      → CpuHas (whole_of s) c Has
  cpu_has c k p Has same there has = grind (arith, shows_at)

  -- a thread in a CPU's scheduling state
  own_so : (k : ℕ) (p : CpuView) (t : Tid) (at : Place) → t.0 < length s.homes → slice_get s.cpus k ≡ Some p → IsOwnPlace (cpu_at k) p.local t at
      → IsPlaceByTable setup (whole_of s) t at
  own_so k p t (place.Running c) known there is = cpu_has c k p (λ q. q.current ≡ Some t) is.0 there ((cpus k p there).current ∙ is.1)
  own_so k p t (place.Ready c) known there is =
      cpu_has c k p (λ q. is_in t q.ready ≡ true) is.0 there (ap (λ (l : List Tid). is_in t l) (cpus k p there).ready ∙ is.1)
  own_so k p t (place.Hand c) known there is = cpu_has c k p (λ q. q.hand ≡ Some t) is.0 there ((cpus k p there).hand ∙ is.1)
  own_so k p t place.Ended known there is =
      let home = ap (λ (l : List CpuId). or_else (record { 0 = 0 }) (slice_get l t.0)) homes
      ∙ ap (λ (o : Option CpuId). or_else (record { 0 = 0 }) o) (ended_home s.homes (cpu_at k) s.moves p.local (agree.stands k p there) t is) in
      cpu_has (home_cpu setup t) k p (λ q. (thread_at q t).ended ≡ true) home there ((cpus k p there).ended t known ∙ is)
  own_so k p t at known there is = absurd is

  -- a thread that is in a queue
  queue_so : (t : Tid) (w : Where) (at : Place) → where_is s.homes s.moves t ≡ w → queue_place w ≡ Some at → IsPlaceByTable setup (whole_of s) t at
  queue_so t (IsPending c) at here is =
      let within = agree.within t c (pend_home s.homes s.moves t c agree.lawful here) in
      let there = there_is s.cpus c.0 within in
      let one : one_if (is_pend c (where_is s.homes s.moves t)) ≡ 1 = ap (λ w. one_if (is_pend c w)) here ∙ ap one_if (same_cpu_self c) in
      let count = pend_count s.homes s.moves agree.lawful c t in
      subst (λ (x : Place). IsPlaceByTable setup (whole_of s) t x) (same_Some (place.Pending c) at is)
      (pending_by s.moves c, (cpus c.0 there.0 there.1).pending, counted_in t (pending_by s.moves c) (omega (arith, one, count)))
  queue_so t (Asleep (At (lock.Buffer b) Sleepers)) at here is =
      let lies = asleep t b Sleepers here in
      let has = buffers b.0 lies.0 in
      subst (λ (x : Place). IsPlaceByTable setup (whole_of s) t x) (same_Some (place.LockSleeper b) at is)
      (has.buffer, has.there, ap (is_in t) (sym has.observed.sleepers) ∙ ap (λ (x : Waiters). is_in t x.sleepers) (waiters_of b.0 lies.0) ∙ lies.1)
  queue_so t (Asleep (At (lock.Buffer b) Receivers)) at here is =
      let lies = asleep t b Receivers here in
      let has = buffers b.0 lies.0 in
      subst (λ (x : Place). IsPlaceByTable setup (whole_of s) t x) (same_Some (place.WaitRecv b) at is)
      (has.buffer, has.there, ap (is_in t) (sym has.observed.receivers) ∙ ap (λ (x : Waiters). is_in t x.receivers) (waiters_of b.0 lies.0) ∙ lies.1)
  queue_so t (Asleep (At (lock.Buffer b) Senders)) at here is =
      let lies = asleep t b Senders here in
      let has = buffers b.0 lies.0 in
      subst (λ (x : Place). IsPlaceByTable setup (whole_of s) t x) (same_Some (place.WaitSend b) at is)
      (has.buffer, has.there, ap (is_in t) (sym has.observed.senders) ∙ ap (λ (x : Waiters). is_in t x.senders) (waiters_of b.0 lies.0) ∙ lies.1)
  queue_so t w at here is = absurd (cc is)

  pub place_read : (t : Tid) (at : Place) → t.0 < length s.homes → IsPlaceOf s t at → IsPlaceByTable setup (whole_of s) t at
  place_read t at known either = grind (arith, own_so, queue_so)
