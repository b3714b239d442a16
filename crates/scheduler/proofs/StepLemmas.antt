-- One poll of a scheduler's part: a call that touches nothing shared, a poll that waits, and a poll
-- that completes its call. In each the CPU's private scheduling state still agrees with the places.
use Rattle.std.proofs.Common.{◌≡◌, ℕ, zero, suc, ◌<◌, true, false, List, [], ◌∷◌, ◌++◌, Option, Some, None, IsSome, length, slice_get, refl, ap}
use Rattle.std.proofs.{Common.{sym, ◌∙◌, subst, arith}, lemmas.Option.same_Some}
use Rattle.event_log.specs.{declared.ids.{BufId.BufId, CpuId.CpuId, LockId.{LockId, TheVariants.Buffer}, Tid.Tid, TheConstants.THREADS}, History.AreOthers}
use Rattle.{event_log.specs.History.{Grows, IsLawful, same_cpu}, layer_traits.specs.declared.passes.Pass.TheVariants.{Switch, MakeReady, End}}
use Rattle.layer_traits.specs.declared.{queue_edits.{QueueBlock.QueueBlock, QueueAnswer.QueueAnswer}, queues.QueueCall.{QueueCall, TheVariants.{Push, TakeAll}}}
use Rattle.layer_traits.specs.declared.{queues.{QueueCall.TheVariants.OnBuffer, QueueEvent.QueueEvent}, scheds.SchedAnswer.TheVariants.Done}
use Rattle.layer_traits.specs.{declared.scheds.SchedCall.SchedCall, Threads.{MoveRules.{MoveRules, WakesSleepers}, Passes.{or_else, queue_for}}}
use Rattle.layer_traits.specs.Threads.Places.{AreMoves, Where, MayEditFor, Stands, Threads, home_of, is_asleep, is_home, pending_by}
use Rattle.layer_traits.specs.{Threads.Places.where_is, Protocols.Protocol.{Rules, section}, Blocks.QueueBlocks.{StartsWell, homes_in}}
use Rattle.layer_traits.specs.Layers.Queues.{CallAllowed, Kernel, buffer_sections, MayQueue, QueueAllowed, QueuePolled, answer_of, event}
use Rattle.layer_traits.specs.Layers.{Queues.{cpu_of_queue_event, kernel, lock_of, moves_in, out_at}, Scheds.{BufferIsThere, EditStays, MaySched, SchedPolled}}
use Rattle.layer_traits.{specs.Layers.Scheds.{StateFor, answer_by, answer_to, events_of, own_after, own_by, queue_call}, proofs.CallLemmas.moves_append}
use Rattle.layer_traits.proofs.{CallLemmas.{moves_lawful, moves_others, moves_over, woken_sleeps}, CountLemmas.not_counted, PlaceLemmas.{away_from, away_known}}
use Rattle.layer_traits.proofs.PlaceLemmas.{current_at, current_new, hand_free, hand_at, pending_at, stands_finished, stands_moved, stands_others}
use Rattle.{layer_traits.proofs.PlaceLemmas.{stands_pushed, stands_switched, stands_taken, home_there}, scheduler.specs.Owns.{MayFinish, MaySettle}}
use Rattle.scheduler.specs.{Owns.{MayTake, local_after}, Parts.{IsCalling, SchedPartFits, UnderFits, sched_call, sched_under}}
use Rattle.layer_traits.specs.declared.queue_edits.QueueAnswer.TheVariants as abstract_answer
use Rattle.layer_traits.specs.declared.scheds.SchedCall.TheVariants as call

-- a thread that has a home is one of those that the list of homes counts
known_within : (homes : List CpuId) (n : ℕ) (c : CpuId) → slice_get homes n ≡ Some c → n < length homes
known_within [] n c is = absurd cc
known_within (x ∷ homes) zero c is = omega arith
known_within (x ∷ homes) (suc n) c is = let below = known_within homes n c is in omega (arith, below)

-- an asleep thread is not on its home CPU
asleep_away : (w : Where) → is_asleep w ≡ true → is_home w ≡ false
asleep_away w asleep = grind arith

-- Which call it is.

module _ {E : Type 0} (homes : List CpuId) (c : CpuId) where
  -- the CPU's private state determines which scheduler's call it is
  same_call : {O : Type 0} (mv : MoveRules E O) (s : SchedCall E) (q : QueueCall E) (local : Threads) → StateFor mv s local → queue_call homes c s ≡ Some q
      → sched_call q local.current ≡ s
  same_call mv s q local state is = grind arith

module _ {E B O : Type 0} (protocol : Rules E B O) (mv : MoveRules E O) (opening : LockId → Option (QueueBlock B)) (wakes : WakesSleepers protocol mv)
    (opens : StartsWell opening) where
  abbrev K : Kernel E B O
  K = kernel protocol mv opening

  abbrev H : List CpuId
  H = homes_in opening

  abbrev Lawful : List (QueueEvent E) → Type 0
  Lawful log = IsLawful (QueueAllowed K) log

  known : (t : Tid) (c : CpuId) → home_of H t ≡ Some c → t.0 < THREADS
  known t c home = grind (arith, known_within)

  -- the layer above allows the edit of a call, if it is one
  abbrev pub UpperNow : CpuId → List (QueueEvent E) → SchedCall E → Type 0
  UpperNow c past (call.Pass p) = Unit {0}
  UpperNow c past (call.OnBuffer b e) = protocol.allowed K.opening (buffer_sections past) (section c (Buffer b) e)

  upper_stays : (c : CpuId) (past more : List (QueueEvent E)) (s : SchedCall E) → EditStays K c past s → AreOthers cpu_of_queue_event c more
      → Lawful (more ++ past) → UpperNow c (more ++ past) s
  upper_stays c past more s given given' lawful = grind arith

  module _ (c : CpuId) (past : List (QueueEvent E)) (local : Threads) (lawful : Lawful past) (stands : Stands H c (moves_in K past) local) where
    moves : AreMoves H (moves_in K past)
    moves = moves_lawful K wakes past lawful

    -- the thread that runs may end
    pub finish_ok : MayFinish local
    finish_ok t runs =
        let at = current_at H c (moves_in K past) local moves stands t runs in
        (known t c at.0, not_counted t local.ended at.3)

    -- the CPU's private state and the layer above allow a call at the shared queues
    allowed_now : (s : SchedCall E) (q : QueueCall E) → StateFor mv s local → queue_call H c s ≡ Some q → UpperNow c past s → CallAllowed K past c q
    allowed_now (call.Pass (MakeReady t)) q state is upper =
        let pushed : Push (queue_for H c t) t ≡ q = cc in
        let held = hand_at H c (moves_in K past) local moves stands t state in
        let home = home_there c (home_of H t) (away_known H (moves_in K past) t moves (ap is_home held)) in
        subst (CallAllowed K past c) pushed (record { held = held; home = home })
    allowed_now (call.OnBuffer b e) q state is upper =
        let edits : OnBuffer b e ≡ q = cc in
        let at = current_at H c (moves_in K past) local moves stands (mv.caller e) state.0 in
        let caller : MayEditFor H (moves_in K past) c (mv.caller e) =
        record { at_home = at.1; home = at.0; empty = hand_free H c (moves_in K past) local moves stands state.1 } in
        subst (CallAllowed K past c) edits (record { caller = caller; upper = upper })
    allowed_now other q state is upper = let taken : TakeAll c ≡ q = cc in subst (CallAllowed K past c) taken refl

    -- a call that touches nothing shared keeps the agreement
    local_stands : (s : SchedCall E) → StateFor mv s local → queue_call H c s ≡ None → Stands H c (moves_in K past) (local_after s local)
    local_stands (call.Pass Switch) state is = stands_switched H c (moves_in K past) local moves stands state.0
    local_stands (call.Pass End) state is = stands_finished H c (moves_in K past) local moves stands
    local_stands other state is = absurd cc

  -- environment steps keep the agreement
  stands_on : (c : CpuId) (more past : List (QueueEvent E)) (local : Threads) → AreOthers cpu_of_queue_event c more → Lawful (more ++ past)
      → Stands H c (moves_in K past) local → Stands H c (moves_in K (more ++ past)) local
  stands_on c more past local others lawful stands =
      let joined = moves_append K more past in
      rw joined (stands_others H c (moves_over K more past) (moves_in K past) local (moves_others K c more past others)
      (subst (AreMoves H) joined (moves_lawful K wakes (more ++ past) lawful)) stands)

  module _ {c below : CpuId} {table : List CpuId} {under : Option (QueueEvent E)} {past : List (QueueEvent E)} {local : Threads} (lawful : Lawful past)
      (coupled : SchedPartFits protocol mv opening c below table under past local) (s : SchedCall E)
      (may : MaySched K c past local (sched_under under local.current) s) where
    state_of : (o : Option (QueueEvent E)) → UnderFits mv H c o local → MaySched K c past local (sched_under o local.current) s → StateFor mv s local
    state_of o calls may = grind arith

    -- the CPU's private state allows the call, at each of its polls
    pub state : StateFor mv s local
    state = state_of under coupled.calls may

    -- the lock of the call exists
    pub lock_is_there : (q : QueueCall E) → queue_call H c s ≡ Some q → BufferIsThere opening s → IsSome (opening (lock_of q))
    lock_is_there q is there = grind arith

    -- the call may be polled at the shared queues
    pub call_may : (q : QueueCall E) → queue_call H c s ≡ Some q → MayQueue (QueueAllowed K) past under (event below q)
    call_may q is = subst (λ d. MayQueue (QueueAllowed K) past under (event d q)) (sym coupled.cpu) (go under coupled.calls may)
      where
        go : (o : Option (QueueEvent E)) → UnderFits mv H c o local → MaySched K c past local (sched_under o local.current) s
            → MayQueue (QueueAllowed K) past o (event c q)
        go None calls may = λ more others legal.
            allowed_now c (more ++ past) local legal (stands_on c more past local others legal coupled.stands) s q may.0 is
            (upper_stays c past more s may.1 others legal)
        go (Some e) calls may = grind (arith, same_Some)

    -- A call that touches nothing shared.

    module _ (none : queue_call H c s ≡ None) where
      pub local_idle : under ≡ None
      local_idle = grind arith

      pub local_fits : SchedPartFits protocol mv opening c below table under past (local_after s local)
      local_fits = record {
        cpu = coupled.cpu;
        homes = coupled.homes;
        queue = coupled.queue;
        stands = local_stands c past local lawful coupled.stands s state none;
        calls = subst (λ o. UnderFits mv H c o (local_after s local)) (sym local_idle) tt;
      }

      pub local_polled : (ActsFor : CpuId → Type 0) → SchedPolled K ActsFor c s (Some Done) past past local (local_after s local)
      local_polled ActsFor = record {
        others = [];
        foreign = λ d acts. tt;
        is = sym (ap (λ o. events_of c o ++ past) none);
        after = after s none;
        answers = answers s none;
        at_once = λ local_is. refl;
      }
        where
          after : (s : SchedCall E) → queue_call H c s ≡ None → local_after s local ≡ own_after K c past s local
          after s none = grind arith

          answers : (s : SchedCall E) → queue_call H c s ≡ None → answer_to K past s ≡ Some Done
          answers s none = grind arith

    -- A call that is one at the shared queues.

    module _ (q : QueueCall E) (is : queue_call H c s ≡ Some q) where
      pub waiting_fits : (ActsFor : CpuId → Type 0) → ActsFor c → (new : List (QueueEvent E)) → QueuePolled K ActsFor (event below q) None past new → Lawful new
          → (below' : CpuId) (under' : Option (QueueEvent E)) → below' ≡ below → under' ≡ Some (event below q)
          → SchedPartFits protocol mv opening c below' table under' new local
      waiting_fits ActsFor acts new polled legal below' under' same goes = record {
        cpu = same ∙ coupled.cpu;
        homes = coupled.homes;
        queue = coupled.queue;
        stands = rw polled.is (stands_on c polled.others past local (polled.foreign c acts) (subst Lawful polled.is legal) coupled.stands);
        calls = subst (λ o. UnderFits mv H c o local) (sym goes) calling;
      }
        where
          one : sched_call q local.current ≡ s
          one = same_call H c mv s q local state is

          calling : IsCalling mv H c (event below q) local
          calling = record { cpu = coupled.cpu; step = ap (queue_call H c) one ∙ is; state = subst (λ x. StateFor mv x local) (sym one) state }

      -- A poll that completes its call, after these calls of other CPUs.
      module _ (answer : QueueAnswer O) (before : List (QueueEvent E)) (legal : Lawful (event c q ∷ before)) (stands_so : Stands H c (moves_in K before) local)
          (answers : answer_of K before q ≡ Some answer) where
        legal_moves : AreMoves H (moves_in K before)
        legal_moves = moves_lawful K wakes before legal.1

        -- the result of an edit
        edit_out : (b : BufId) (e : E) → q ≡ OnBuffer b e → (o : O) × (out_at K before b e ≡ Some o) × (answer ≡ abstract_answer.Answer o)
        edit_out b e edits = grind arith

        -- a woken thread is not on its home CPU, and is one of the threads that a machine may have
        settles : (b : BufId) (e : E) → q ≡ OnBuffer b e → (o : O) → out_at K before b e ≡ Some o → MaySettle (mv.woke o) local
        settles b e edits o is u woke =
            let asleep = woken_sleeps K wakes before legal.1 c b e (subst (CallAllowed K before c) edits legal.0) o is u woke in
            let away = asleep_away (where_is H (moves_in K before) u) asleep in
            let home = home_there c (home_of H u) (away_known H (moves_in K before) u legal_moves away) in
            (known u (or_else c (home_of H u)) home, not_counted u local.ready (away_from H c (moves_in K before) local legal_moves stands_so u away))

        -- a taking returns the pending queue
        all_taken : q ≡ TakeAll c → abstract_answer.Taken (pending_by (moves_in K before) c) ≡ answer
        all_taken takes =
            same_Some (abstract_answer.Taken (pending_by (moves_in K before) c)) answer (subst (λ x. answer_of K before x ≡ Some answer) takes answers)

        may_take_by : (x : QueueCall E) → q ≡ x → MayTake mv answer local
        may_take_by (Push d t) pushes = grind (arith, same_Some)
        may_take_by (TakeAll d) takes =
            let mine : d ≡ c = subst (CallAllowed K before c) takes legal.0 in
            rw (← all_taken (takes ∙ ap TakeAll mine)) (
              λ t there. (pending_at H c (moves_in K before) local legal_moves stands_so t there).1,
              λ t runs. (
                known t c (current_at H c (moves_in K before) local legal_moves stands_so t runs).0,
                current_new H c (moves_in K before) local legal_moves stands_so t runs,
              ),
            )
        may_take_by (OnBuffer b e) edits = let out = edit_out b e edits in rw out.2 (settles b e edits out.0 out.1)

        pushed_done : (d : CpuId) (t : Tid) → q ≡ Push d t → abstract_answer.Done ≡ answer
        pushed_done d t pushes = same_Some abstract_answer.Done answer (subst (λ x. answer_of K before x ≡ Some answer) pushes answers)

        -- what the result leaves agrees with the places after the call
        taken_stands : q ≡ TakeAll c → Stands H c (moves_in K (event c q ∷ before)) (own_by mv H c answer local)
        taken_stands takes = rw (takes, ← all_taken takes) (stands_taken H c (moves_in K before) local legal_moves stands_so)

        pushed_stands : (d : CpuId) (t : Tid) → local.hand ≡ Some t → q ≡ Push d t → Stands H c (moves_in K (event c q ∷ before)) (own_by mv H c answer local)
        pushed_stands d t held pushes = rw (pushes, ← pushed_done d t pushes) (stands_pushed H c (moves_in K before) local legal_moves stands_so d t held)

        edited_stands : (b : BufId) (e : E) → local.current ≡ Some (mv.caller e) → local.hand ≡ None → q ≡ OnBuffer b e
            → Stands H c (moves_in K (event c q ∷ before)) (own_by mv H c answer local)
        edited_stands b e runs empty edits =
            let out = edit_out b e edits in
            let may = rw (edits, out.1) at (moves_lawful K wakes (event c q ∷ before) legal).0 in
            rw (edits, out.2, out.1) (stands_moved H c (moves_in K before) local legal_moves stands_so (Buffer b) (mv.caller e) (mv.slept out.0) (mv.woke out.0)
            may runs empty)

        done_stands : (s : SchedCall E) → StateFor mv s local → queue_call H c s ≡ Some q
            → Stands H c (moves_in K (event c q ∷ before)) (own_by mv H c answer local)
        done_stands (call.Pass (MakeReady t)) state is = pushed_stands (queue_for H c t) t state (cc)
        done_stands (call.OnBuffer b e) state is = edited_stands b e state.0 state.1 (cc)
        done_stands other state is = taken_stands (cc)

        -- it is what the call must leave
        done_after : (s : SchedCall E) → queue_call H c s ≡ Some q → own_by mv H c answer local ≡ own_after K c before s local
        done_after s is = grind (arith, all_taken, pushed_done)

        -- and so is the result
        done_answer : (s : SchedCall E) → queue_call H c s ≡ Some q → answer_to K before s ≡ Some (answer_by answer)
        done_answer s is = grind (arith, all_taken, pushed_done)

      module _ {ActsFor : CpuId → Type 0} (acts : ActsFor c) {new : List (QueueEvent E)} {answer : QueueAnswer O}
          (polled : QueuePolled K ActsFor (event below q) (Some answer) past new)
          (legal : Lawful new) where
        abbrev joined : List (QueueEvent E)
        joined = polled.others ++ past

        last : new ≡ event c q ∷ joined
        last = polled.is ∙ ap (λ d. event d q ∷ joined) coupled.cpu

        legal_last : Lawful (event c q ∷ joined)
        legal_last = subst Lawful last legal

        stands_before : Stands H c (moves_in K joined) local
        stands_before = stands_on c polled.others past local (polled.foreign c acts) legal_last.1 coupled.stands

        -- the result may be taken up
        pub may_take : MayTake mv answer local
        may_take = may_take_by answer joined legal_last stands_before polled.answers q refl

        pub done_fits : (below' : CpuId) (under' : Option (QueueEvent E)) → below' ≡ below → under' ≡ None
            → SchedPartFits protocol mv opening c below' table under' new (own_by mv H c answer local)
        done_fits below' under' same ends = record {
          cpu = same ∙ coupled.cpu;
          homes = coupled.homes;
          queue = coupled.queue;
          stands = rw last (done_stands answer joined legal_last stands_before polled.answers s state is);
          calls = subst (λ o. UnderFits mv H c o (own_by mv H c answer local)) (sym ends) tt;
        }

        pub done_polled : SchedPolled K ActsFor c s (Some (answer_by answer)) past new local (own_by mv H c answer local)
        done_polled = record {
          others = polled.others;
          foreign = polled.foreign;
          is = last ∙ sym (ap (λ o. events_of c o ++ joined) is);
          after = done_after answer joined legal_last stands_before polled.answers s is;
          answers = done_answer answer joined legal_last stands_before polled.answers s is;
          at_once = λ local_is. refl;
        }

  -- Other CPUs' parts.

  -- environment steps keep a part in agreement with the machine
  grown_fits : {d below : CpuId} {table : List CpuId} {under : Option (QueueEvent E)} {past : List (QueueEvent E)} {local : Threads}
      (more new : List (QueueEvent E)) → AreOthers cpu_of_queue_event d more → new ≡ more ++ past → Lawful new
      → SchedPartFits protocol mv opening d below table under past local → SchedPartFits protocol mv opening d below table under new local
  grown_fits {d} {past = past} {local = local} more new others is legal coupled = record {
    cpu = coupled.cpu;
    homes = coupled.homes;
    queue = coupled.queue;
    stands = subst (λ l. Stands H d (moves_in K l) local) (sym is) (stands_on d more past local others (subst Lawful is legal) coupled.stands);
    calls = coupled.calls;
  }

  -- so does one poll of another CPU
  pub other_fits : (ActsFor : CpuId → Type 0) (c d below : CpuId) (table : List CpuId) (under : Option (QueueEvent E)) (q : QueueCall E)
      (result : Option (QueueAnswer O))
      (past new : List (QueueEvent E)) (local : Threads) → ActsFor d → same_cpu c d ≡ false → QueuePolled K ActsFor (event c q) result past new → Lawful new
      → SchedPartFits protocol mv opening d below table under past local → SchedPartFits protocol mv opening d below table under new local
  other_fits ActsFor c d below table under q None past new local acts other polled legal coupled =
      grown_fits polled.others new (polled.foreign d acts) polled.is legal coupled
  other_fits ActsFor c d below table under q (Some answer) past new local acts other polled legal coupled =
      grown_fits (event c q ∷ polled.others) new (other, polled.foreign d acts) polled.is legal coupled

  -- and one more poll of a section that waits
  pub looked_fits : {ActsFor : CpuId → Type 0} {d below below' : CpuId} {table : List CpuId} {under under' : Option (QueueEvent E)}
      {past new : List (QueueEvent E)} {local : Threads} → Grows ActsFor cpu_of_queue_event past new → ActsFor d → Lawful new → below' ≡ below → under' ≡ under
      → SchedPartFits protocol mv opening d below table under past local → SchedPartFits protocol mv opening d below' table under' new local
  looked_fits {d = d} {table = table} {new = new} {local = local} grows acts legal same goes coupled =
      rw (same, goes) (grown_fits grows.others new (grows.foreign d acts) grows.is legal coupled)
