-- A quiet state that a system reaches is stuck.
use Rattle.std.proofs.Common.{◌≡◌, ◌<◌, true, false, List, [], ◌∷◌, length, slice_get, Option, Some, None, nat_lt, refl, sym, ap, ◌∙◌, subst, arith}
use Rattle.std.proofs.lemmas.Bool.{and_parts, and_from, false_from_ne_true, lt-ltb, ltb-true}
use Rattle.event_log.specs.declared.ids.{CpuId.CpuId, Tid.Tid, BufId.BufId, LockId.TheVariants.{Pending, Buffer as AtBuffer}, TheConstants.THREADS}
use Rattle.event_log.specs.{declared.entries.Kind.{Kind, TheVariants.{Recv as RecvKind, SendClosed, RecvClosed}}, Messages.{Message, no_message}, Runs.Group}
use Rattle.event_log.{specs.{Runs.{Sends, Receives, Closes, group_of}, Sections.sections_in}, proofs.Same.same_cpu_self}
use Rattle.{guest.specs.{declared.instructions.Instruction.Instruction, State.State}, thread_blocks.{specs.Queues.first, proofs.Members.same_tid_self}}
use Rattle.layer_traits.specs.declared.{locked.Side.{Side, TheVariants.{Receivers, Senders}}, call_states.Stage.TheVariants.AcquiresAgain}
use Rattle.layer_traits.{specs.Threads.Places.{Where, Home, Hand, IsPending, Asleep, At, is_hand, is_thread, count_in}, proofs.ListsLemmas.counted_in}
use Rattle.cpu.specs.Table.{Blocks.{Buffer, OfBuffer, side_of_group}, Edits.{line_on, waiting_of}, Setups.{SystemConfig, Call, CpuLocal, thread_at, home_cpu}}
use Rattle.cpu.specs.{Table.{Setups.stands_at, Steps.{SystemState, block_at}}, Wakeups.{Order.progress, Lost.Allows, Quiet.{HomesExist, IsQuietTable}}}
use Rattle.cpu.{specs.Wakeups.Quiet.{IsNextEffect, IsStuckCall, IsLive, IsStuck, QuietIsStuck}, proofs.Wakeups.{Lists.refuted, Ordered.buffer_awake}}
use Rattle.cpu.proofs.Wakeups.{Ordered.quiescent_loses_nothing, PostsAndVisits.{Waiting, Outside, list_of, sleeps_in, is_side, names, goes_on, starts_here}}
use Rattle.cpu.proofs.Wakeups.{PostsAndVisits.{stands, is_lined, is_local, post, visit, marked}, ThreadAtBuffer.{Pair, buffer_self, buffer_true, sleeps_here}}
use Rattle.cpu.proofs.Wakeups.{ThreadAtBuffer.{marked_some, front_counted, line_count, wait_count}, BuffersAndThreads.Good, Placed.{IsPlaced, buffer_there}}
use Rattle.cpu.proofs.Wakeups.{Agreement.{visit_of_call, Agrees}, EndedThreads.{is_before, HasLine, FitsGroup, Says}, ReachedStates.fair_good}
use Rattle.cpu.proofs.Wakeups.SystemInv.{SystemInv, reached_inv, cpu_there}
use Rattle.layer_traits.specs.declared.moves.WaitList.TheVariants as wait_list

-- where a thread sleeps: for the lock of a buffer, or on a side of it
pub data Sleeps (x : Where) : Type 0 where
  at_lock : (b : BufId) → x ≡ Asleep (At (AtBuffer b) wait_list.Sleepers) → Sleeps x
  at_wait : (b : BufId) (side : Side) → x ≡ Asleep (At (AtBuffer b) (list_of side)) → Sleeps x

-- a buffer that allows no effect of a call which has a line is open
refused_open : (asks : Group) → HasLine asks → (k : Buffer) → ((m : Message) (e : Kind) → group_of e ≡ asks → Allows k e m → ⊥) → k.closed ≡ false
refused_open Sends line k refused = false_from_ne_true k.closed (λ closed. refused no_message SendClosed refl closed)
refused_open Receives line k refused = false_from_ne_true k.closed (λ closed. by_items k.items refl closed)
  where
    by_items : (items : List Message) → k.items ≡ items → k.closed ≡ true → ⊥
    by_items [] is closed = refused no_message RecvClosed refl (closed, is, refl)
    by_items (m ∷ items) is closed = refused m RecvKind refl (ap (λ x. slice_get x 0) is)
refused_open Closes line k refused = absurd line

front_of : (u : Tid) (line : List Tid) → 0 < count_in u line → (t : Tid) × (first line ≡ Some t)
front_of u [] some = absurd (omega (arith, some))
front_of u (t ∷ line) some = (t, refl)

side_self : (side : Side) → is_side side side ≡ true
side_self side = grind arith

-- the call whose visit is a wait must acquire the lock again
waits_again : (call : Call) (b : BufId) (side : Side) → visit_of_call (Some call) ≡ Waiting b side
    → (is_before call.stage ≡ true) × (call.buffer ≡ b) × (side_of_group call.asks ≡ side) × (call.stage ≡ AcquiresAgain)
waits_again call b side is = grind (arith, refuted)

-- an instruction requests one effect
same_effect : (line : Instruction) (s : State) (a x : Group) (b d : BufId) (m n : Message)
    → IsNextEffect line s a b m → IsNextEffect line s x d n → (a ≡ x) × (b ≡ d)
same_effect line s a x b d m n one other = grind arith

module _ (setup : SystemConfig) (s : SystemState) (homes : HomesExist setup) (kept : SystemInv setup s) (quiet : IsQuietTable setup s) where
  good : Good setup (sections_in s.log)
  good = fair_good setup s.log kept.sound.fair

  local_is : (u : Tid) → u.0 < length setup.homes → is_local setup (home_cpu setup u) u ≡ true
  local_is u known = grind (arith, and_from, same_cpu_self, lt-ltb)

  small : (u : Tid) → u.0 < length setup.homes → nat_lt u.0 THREADS ≡ true
  small u known = let few = homes.0 in lt-ltb u.0 THREADS (omega (arith, known, few))

  agrees : (c : CpuId) (p : CpuLocal) → slice_get s.cpus c.0 ≡ Some p
      → Agrees setup c p (λ u. visit setup u (sections_in s.log)) (λ u. post setup u (sections_in s.log))
  agrees c p here = (kept.sound.cpus c p here).agrees

  -- a quiet CPU's hand is empty
  empty : (c : CpuId) (p : CpuLocal) → slice_get s.cpus c.0 ≡ Some p → p.hand ≡ None
  empty c p here = grind (arith, quiet.cpus c p here)

  -- a live thread sleeps
  asleep : (p : CpuLocal) (u : Tid) → IsLive setup s p u → Sleeps (post setup u (sections_in s.log))
  asleep p u live = by_post (post setup u (sections_in s.log)) refl
    where
      by_post : (x : Where) → post setup u (sections_in s.log) ≡ x → Sleeps (post setup u (sections_in s.log))
      by_post (Asleep (At (AtBuffer b) wait_list.Sleepers)) at = at_lock b at
      by_post (Asleep (At (AtBuffer b) wait_list.Receivers)) at = at_wait b Receivers at
      by_post (Asleep (At (AtBuffer b) wait_list.Senders)) at = at_wait b Senders at
      by_post (Asleep (At (Pending d) list)) at = absurd (subst (IsPlaced setup (visit setup u (sections_in s.log))) at (kept.placed.posts u))
      by_post Home at =
          absurd (grind (
            arith,
            (agrees (home_cpu setup u) p live.here).seats u,
            quiet.cpus (home_cpu setup u) p live.here,
            local_is u live.known,
            live,
            refuted,
          ))
      by_post (Hand e) at =
          let cpu = cpu_there setup s kept e (subst (IsPlaced setup (visit setup u (sections_in s.log))) at (kept.placed.posts u)) in
          refuted (ap (is_thread u) (empty e cpu.0 cpu.1)) ((agrees e cpu.0 cpu.1).hands u ∙ ap (is_hand e) at ∙ same_cpu_self e)
      by_post (IsPending q) at =
          let none = good.pending (home_cpu setup u) u [] (quiet.pending (home_cpu setup u) (homes.1 u live.known)) in
          absurd (grind (arith, none, same_cpu_self))

  -- a thread that has a visit at a buffer is live
  live_at : (u : Tid) (b : BufId) → names b (visit setup u (sections_in s.log)) ≡ true → (p : CpuLocal) × IsLive setup s p u
  live_at u b on =
      let known = ltb-true u.0 (length setup.homes) (grind (arith, on, kept.placed.callers u)) in
      let cpu = cpu_there setup s kept (home_cpu setup u) (homes.1 u known) in
      let alive : (thread_at cpu.0 u).ended ≡ false =
      false_from_ne_true (thread_at cpu.0 u).ended (λ ended.
      let out : visit setup u (sections_in s.log) ≡ Outside =
      (agrees (home_cpu setup u) cpu.0 cpu.1).calls u (local_is u known) ∙ ap visit_of_call ((kept.fine (home_cpu setup u) cpu.0 cpu.1 u).quits ended) in
      refuted (ap (names b) out) on) in
      (cpu.0, record { known = known; here = cpu.1; alive = alive })

  -- no thread owns a lock
  unowned : (b : BufId) (k : Buffer) → block_at setup (AtBuffer b) s.log ≡ Some (OfBuffer k) → k.busy ≡ None
  unowned b k block = by_owner k.busy refl
    where
      by_owner : (o : Option Tid) → k.busy ≡ o → o ≡ None
      by_owner None is = refl
      by_owner (Some t) is = by_sleep (asleep live.0 t live.1)
        where
          pair : Pair b t k (progress setup (AtBuffer b) (sections_in s.log)) (visit setup t (sections_in s.log)) (post setup t (sections_in s.log))
          pair = good.pairs b t k block

          inside : (names b (visit setup t (sections_in s.log)) ≡ true) × (goes_on (visit setup t (sections_in s.log)) ≡ true)
          inside = and_parts (names b (visit setup t (sections_in s.log))) (goes_on (visit setup t (sections_in s.log))) (pair.owner is).0

          live : (p : CpuLocal) × IsLive setup s p t
          live = live_at t b inside.0

          by_sleep : Sleeps (post setup t (sections_in s.log)) → Some t ≡ None
          by_sleep (at_wait d side at) = grind (arith, refuted, inside)
          by_sleep (at_lock d at) =
              let placed : (d.0 < length setup.caps) × Unit {0} = subst (IsPlaced setup (visit setup t (sections_in s.log))) at (kept.placed.posts t) in
              let there = buffer_there setup d (sections_in s.log) placed.0 in
              let asleep_there = ap (sleeps_in d wait_list.Sleepers) at ∙ sleeps_here d wait_list.Sleepers in
              let starts = (good.pairs d t there.0 there.1).starts asleep_there in
              let named = (and_parts (names d (visit setup t (sections_in s.log))) (starts_here (visit setup t (sections_in s.log))) starts).0 in
              let same : b ≡ d = grind (arith, buffer_true, inside.0, named) in
              refuted (pair.owner is).2 (subst (λ x. sleeps_in x wait_list.Sleepers (post setup t (sections_in s.log)) ≡ true) (sym same) asleep_there)

  no_sleepers : (b : BufId) (k : Buffer) → block_at setup (AtBuffer b) s.log ≡ Some (OfBuffer k) → k.sleepers ≡ []
  no_sleepers b k block = ((buffer_awake setup (sections_in s.log) good.ordered b k block).idle (unowned b k block)).1

  -- so a live thread waits at its wait
  waits : (p : CpuLocal) (u : Tid) → IsLive setup s p u
      → (b : BufId) × (side : Side) × (post setup u (sections_in s.log) ≡ Asleep (At (AtBuffer b) (list_of side)))
      × (visit setup u (sections_in s.log) ≡ Waiting b side)
  waits p u live = by_sleep (asleep p u live)
    where
      by_sleep : Sleeps (post setup u (sections_in s.log))
          → (b : BufId) × (side : Side) × (post setup u (sections_in s.log) ≡ Asleep (At (AtBuffer b) (list_of side)))
          × (visit setup u (sections_in s.log) ≡ Waiting b side)
      by_sleep (at_wait b side at) = grind arith
      by_sleep (at_lock b at) =
          let placed : (b.0 < length setup.caps) × Unit {0} = subst (IsPlaced setup (visit setup u (sections_in s.log))) at (kept.placed.posts u) in
          let there = buffer_there setup b (sections_in s.log) placed.0 in
          let one : marked u (sleeps_in b wait_list.Sleepers (post setup u (sections_in s.log))) ≡ 1 = grind (arith, small, sleeps_here) in
          absurd (omega (arith, (good.pairs b u there.0 there.1).sleepers, ap (count_in u) (no_sleepers b there.0 there.1), one))

  -- the call of a live thread
  stuck_call : (p : CpuLocal) (u : Tid) → IsLive setup s p u → (call : Call) × ((thread_at p u).call ≡ Some call) × IsStuckCall setup s p u call
  stuck_call p u live = by_call (thread_at p u).call refl
    where
      wait : (b : BufId) × (side : Side) × (post setup u (sections_in s.log) ≡ Asleep (At (AtBuffer b) (list_of side)))
          × (visit setup u (sections_in s.log) ≡ Waiting b side)
      wait = waits p u live

      turned : visit setup u (sections_in s.log) ≡ visit_of_call (thread_at p u).call
      turned = (agrees (home_cpu setup u) p live.here).calls u (local_is u live.known)

      by_call : (o : Option Call) → (thread_at p u).call ≡ o → (call : Call) × ((thread_at p u).call ≡ Some call) × IsStuckCall setup s p u call
      by_call None is = absurd (cc (sym wait.3 ∙ turned ∙ ap visit_of_call is))
      by_call (Some call) is =
          let again = waits_again call wait.0 wait.1 (sym (ap visit_of_call is) ∙ sym turned ∙ wait.3) in
          let says = subst (Says _ (thread_at p u).guest) is (kept.fine (home_cpu setup u) p live.here u).says again.0 in
          let line : HasLine call.asks = subst (FitsGroup call.asks) again.3 says.2 in (
            call,
            is,
            record {
              unfinished = says.0;
              next = says.1;
              refused = refused call line again.1 again.2;
              no_close = λ closes. subst HasLine closes line;
              stays_open = λ k block. refused_open call.asks line k (λ m e asks. refused call line again.1 again.2 k m e asks block);
            },
          )
        where
          refused : (call : Call) → HasLine call.asks → call.buffer ≡ wait.0 → side_of_group call.asks ≡ wait.1 → (k : Buffer) (m : Message) (e : Kind)
              → group_of e ≡ call.asks → block_at setup (AtBuffer call.buffer) s.log ≡ Some (OfBuffer k) → Allows k e m → ⊥
          refused call line same_buffer same_side k m e asks block allowed =
              let mine : visit setup u (sections_in s.log) ≡ Waiting call.buffer (side_of_group call.asks) = grind arith in
              let one : marked u (is_lined call.buffer (side_of_group call.asks) (visit setup u (sections_in s.log))) ≡ 1 =
              grind (arith, small, buffer_self, side_self) in
              let counts = line_count call.buffer u k _ _ _ (good.pairs call.buffer u k block) (side_of_group call.asks) in
              let front = front_of u (line_on (side_of_group call.asks) k) (omega (arith, one, counts)) in
              first_waits call line k m e asks block allowed front.0 front.1
            where
              first_waits : (call : Call) → HasLine call.asks → (k : Buffer) (m : Message) (e : Kind) → group_of e ≡ call.asks
                  → block_at setup (AtBuffer call.buffer) s.log ≡ Some (OfBuffer k)
                  → Allows k e m → (t : Tid) → first (line_on (side_of_group call.asks) k) ≡ Some t → ⊥
              first_waits call line k m e asks block allowed t front =
                  let pair = good.pairs call.buffer t k block in
                  let some = front_counted t (line_on (side_of_group call.asks) k) (ap (is_thread t) front ∙ same_tid_self t) in
                  let lined = (marked_some t (is_lined call.buffer (side_of_group call.asks) (visit setup t (sections_in s.log)))
                  (subst (λ n. 0 < n) (line_count call.buffer t k _ _ _ pair (side_of_group call.asks)) some)).1 in
                  let parts =
                  and_parts (names call.buffer (visit setup t (sections_in s.log)))
                  (stands (side_of_group call.asks) (visit setup t (sections_in s.log))) lined in
                  let other = live_at t call.buffer parts.0 in
                  let at = waits other.0 t other.1 in
                  let same_buffer : call.buffer ≡ at.0 = buffer_true call.buffer at.0 (sym (ap (names call.buffer) at.3) ∙ parts.0) in
                  let same_side : side_of_group call.asks ≡ at.1 = grind (arith, sym (ap (stands (side_of_group call.asks)) at.3) ∙ parts.1) in
                  let there : sleeps_in call.buffer (list_of (side_of_group call.asks)) (post setup t (sections_in s.log)) ≡ true =
                  grind (arith, sleeps_here) in
                  let one : marked t (sleeps_in call.buffer (list_of (side_of_group call.asks)) (post setup t (sections_in s.log))) ≡ 1 =
                  grind (arith, small) in
                  let counts = wait_count call.buffer t k _ _ _ pair (side_of_group call.asks) in
                  let stands_there = counted_in t (waiting_of (side_of_group call.asks) k) (omega (arith, one, counts)) in
                  grind (
                    arith,
                    quiescent_loses_nothing k _ (buffer_awake setup (sections_in s.log) good.ordered call.buffer k block),
                    unowned call.buffer k block,
                    line,
                    front,
                    stands_there,
                    asks,
                    allowed,
                  )

  pub stuck : IsStuck setup s
  stuck = record {
    unowned = λ b k block. (unowned b k block, no_sleepers b k block);
    threads = stuck_call;
    effects = λ p u live e asks b m is next k block allowed.
        let call = stuck_call p u live in
        let same = same_effect (stands_at setup p u) (thread_at p u).guest asks call.0.asks b call.0.buffer m call.0.message next call.2.next in
        call.2.refused k m e (is ∙ same.0) (subst (λ d. block_at setup (AtBuffer d) s.log ≡ Some (OfBuffer k)) same.1 block) allowed;
  }

pub quiet_is_stuck : QuietIsStuck
quiet_is_stuck setup room s homes reached quiet = stuck setup s homes (reached_inv setup room s reached) quiet
