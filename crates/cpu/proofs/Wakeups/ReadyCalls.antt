-- A call that is ready returns after exactly so many steps of its CPU, if no other CPU steps.
use Rattle.std.proofs.Common.{◌≡◌, ℕ, ◌+◌, ◌<◌, ◌≤◌, Bool, true, false, ◌&&◌, List, [], ◌∷◌, ◌++◌, length, Option, Some, None, if◌then◌else◌, refl, sym, ap}
use Rattle.std.proofs.{Common.{◌∙◌, subst, arith, length-append}, lemmas.Bool.{and_from, cases_lt, lt-ltb, or_right}}
use Rattle.event_log.specs.declared.{ids.{CpuId.CpuId, Tid.Tid, BufId.BufId, LockId.TheVariants.Buffer as AtBuffer, TheConstants.THREADS}, entries.Kind.Kind}
use Rattle.event_log.specs.declared.entries.{Kind.TheVariants.{Send as SendKind, Recv as RecvKind, Close as CloseKind, SendClosed, RecvClosed}, Entry.Entry}
use Rattle.event_log.specs.{Messages.Message, Runs.{Group, Sends, Receives, Closes, group_of}, Sections.sections_in}
use Rattle.{guest.specs.declared.instructions.Instruction.Instruction, thread_blocks.{specs.Queues.{first, rest}, proofs.Members.same_tid_self}}
use Rattle.layer_traits.specs.declared.{locked.Side.TheVariants.{Receivers, Senders}, call_states.Stage.TheVariants.{Enters, Tries, Signals}}
use Rattle.{layer_traits.specs.Blocks.BufferBlocks.{is_first, first_item}, cpu.specs.Table.Blocks.{Buffer, OfBuffer, Reported, Done, WasClosed, DidShut}}
use Rattle.cpu.specs.Table.{Blocks.{NotYet, front, front_stands_in, side_of_group}, Edits.{front_may_go, due_on, lined_up, put, taken, shut_off, report_of_put}}
use Rattle.cpu.specs.Table.{Edits.{report_of_take, reports, wakes, edited_buffer, answer_of_buffer}, Setups.{SystemConfig, Call, CpuLocal, stands_at}}
use Rattle.cpu.specs.Table.{Setups.{home_threads, have_ended}, Steps.{SystemState, IsReached, block_at, steps_by}, Choice.{Goes, new_call, with_call, at_call}}
use Rattle.cpu.specs.{Table.Choice.{choice, first_signal, second_signal, effected, entry_made, recorded_try}, Wakeups.{Lost.Allows, Order.progress}}
use Rattle.cpu.specs.Wakeups.{Quiet.AreFew, Alone.{IsCallOn, HasEmptyLine, IsInCall, IsReady, HasReturned, CallsReturnAlone, first_waiter, steps_to_move}}
use Rattle.cpu.{specs.Wakeups.Alone.steps_to_return, proofs.Wakeups.{Lists.refuted, Ordered.{buffer_awake, allowed_goes}, Awake.{IsQuiescent, Coupled}}}
use Rattle.cpu.proofs.Wakeups.{Awake.IsAwake, PostsAndVisits.{is_local, post, visit}, Agreement.{Agrees, runs_at_home, known_of, local_within}}
use Rattle.cpu.proofs.Wakeups.{ReachedStates.{reached_sound, systems_keep_order, free_locks_have_no_sleepers}, FilledHand.reached_filled}
use Rattle.cpu.proofs.Wakeups.{WithinCapacity.holds_no_more, CpuAlone.with_new, CallsAlone.{Gets, Returned, section_acquires, enters_line, section_tries}}
use Rattle.cpu.proofs.Wakeups.CallsAlone.{call_ends_alone}

module _ (setup : SystemConfig) (room : ℕ) (s : SystemState) (c : CpuId) (p : CpuLocal) (t : Tid) (few : AreFew setup)
    (reached : IsReached setup room s) (ready : IsReady setup c s p t) where
  agrees : Agrees setup c p (λ u. visit setup u (sections_in s.log)) (λ u. post setup u (sections_in s.log))
  agrees = ((reached_sound setup room s reached).cpus c p ready.here).agrees

  local_is : is_local setup c t ≡ true
  local_is = (runs_at_home setup c p (λ u. visit setup u (sections_in s.log)) (λ u. post setup u (sections_in s.log)) agrees t ready.runs).0

  small : t.0 < THREADS
  small = let known = known_of setup c t local_is in let most = few in omega (arith, known, most)

  known : t.0 < length p.threads
  known = local_within setup c p (λ u. visit setup u (sections_in s.log)) (λ u. post setup u (sections_in s.log)) agrees t local_is

  empty : p.hand ≡ None
  empty = grind (arith, reached_filled setup room s reached c p ready.here t, refuted)

  live : have_ended p (home_threads setup c) ≡ false
  live = grind (arith, empty)

  -- the call begins
  begins_as : (asks : Group) (b : BufId) (line : Instruction) → stands_at setup p t ≡ line → IsCallOn asks b line
      → (m : Message) × (choice setup c p ≡ Goes (with_call p t (Some (new_call asks b m))))
  begins_as asks b line at same = grind (arith, empty, live)

  first_gets : (asks : Group) (b : BufId) (k : Buffer) (m : Message) → choice setup c p ≡ Goes (with_call p t (Some (new_call asks b m)))
      → s.taken + 21 ≤ s.room → block_at setup (AtBuffer b) s.log ≡ Some (OfBuffer k) → Gets setup c t s 0 k (new_call asks b m) p.trace 21
  first_gets asks b k m goes space block = record {
    now = s;
    by = refl;
    before = p;
    state = with_call p t (Some (new_call asks b m));
    past = sections_in s.log;
    stands = record { here = ready.here; did = refl; free = ready.free; rests = ready.rests; room = space };
    goes = goes;
    inside = with_new setup c p t (new_call asks b m) p.trace empty ready.runs known live refl;
    block = block;
  }

  -- after so many steps the call has returned, with an entry of this kind; one step earlier it was
  -- under way
  abbrev IsBack : ℕ → Kind → BufId → Type 0
  IsBack n e b = HasReturned (steps_by setup c n s) c p t e b × ((m : ℕ) → m + 1 ≡ n → IsInCall (steps_by setup c m s) c t)

  told : (n : ℕ) (e : Kind) (b : BufId) (entry : Entry) → (entry.thread ≡ t) × (entry.kind ≡ e) × (entry.buffer ≡ b)
      → Returned setup c t s n (p.trace ++ entry ∷ []) → IsBack n e b
  told n e b entry is_of back = grind arith

  -- no thread is due beside a free lock
  quiescent : (b : BufId) (k : Buffer) → block_at setup (AtBuffer b) s.log ≡ Some (OfBuffer k) → k.busy ≡ None → IsQuiescent k
  quiescent b k block free =
      let awake : IsAwake k (progress setup (AtBuffer b) (sections_in s.log)) =
      buffer_awake setup (sections_in s.log) (systems_keep_order setup room s reached) b k block in
      subst (Coupled k) (awake.idle free).0 awake.coupled

  -- if the first of a line may continue, a signal wakes it if it waits
  woken_is : (waits can : Bool) (o : Option Tid) → can ≡ true → (if waits && can then o else None) ≡ (if waits then o else None)
  woken_is waits can o on = grind arith

  -- nor does anybody in an empty line
  due_none : (line waiting : List Tid) (can : Bool) → line ≡ [] → (if front_stands_in line waiting && can then first line else None) ≡ None
  due_none line waiting can empty_now = ap (λ l. if front_stands_in l waiting && can then first l else None) empty_now

  first_after : (line : List Tid) (can : Bool) → line ≡ [] → can ≡ true → (is_first t (line ++ t ∷ []) && can) ≡ true
  first_after line can empty_now on = ap (λ l. is_first t (l ++ t ∷ []) && can) empty_now ∙ and_from _ can (same_tid_self t) on

  most_moved : (woke : Option Tid) → steps_to_move setup c woke ≤ 3
  most_moved woke = grind arith

  -- so many steps as the homes of the woken threads make them
  ends_at : (n m : ℕ) (e : Kind) (b : BufId) → n ≡ m → IsBack n e b → IsBack m e b
  ends_at n m e b same back = subst (λ i. IsBack i e b) same back

  -- A call that is in its line, which was empty.

  abbrev queued : Group → BufId → Message → ℕ → Call
  queued asks b m position = record (new_call asks b m) { position = position; stage = Tries }

  module _ (b : BufId) (k : Buffer) (space : s.taken + 21 ≤ s.room) (block : block_at setup (AtBuffer b) s.log ≡ Some (OfBuffer k)) (free : k.busy ≡ None) where
    none : k.sleepers ≡ []
    none = free_locks_have_no_sleepers setup room s reached b k block free

    -- a send has its effect, and its signals are due
    sent : (m : Message) (told : Reported) (now : Call) → choice setup c p ≡ Goes (with_call p t (Some (new_call Sends b m)))
        → k.send_line ≡ [] → front_may_go Senders k ≡ true → report_of_put k.closed k.effects m ≡ told → b ≡ now.buffer
        → ((q : CpuLocal) → recorded_try c q t (queued Sends b m k.send_positions) told ≡ effected c q t now k.effects)
        → Gets setup c t s 9 (put m (lined_up t Senders (record k { busy = Some t }))) (record now { effect = Some k.effects; stage = Signals })
        (p.trace ++ entry_made c t now k.effects now.message ∷ []) 12
    sent m told now goes line can tells_so same_buffer recorded_so =
        let call = new_call Sends b m in
        let got = section_acquires setup c t s 0 18 k call p.trace free (first_gets Sends b k m goes space block) in
        let entered_now = enters_line setup c t small Senders Sends refl (λ q x told. refl) s 3 15 (record k { busy = Some t }) call p.trace line got in
        let may = first_after k.send_line (front_may_go Senders k) line can in
        let at = lined_up t Senders (record k { busy = Some t }) in
        section_tries setup c t s 6 12 at (put m at) (queued Sends b m k.send_positions) now p.trace told same_buffer
        (ap (λ d. reports (if d then report_of_put k.closed k.effects m else NotYet)) may ∙ ap reports tells_so)
        (ap (λ d. if d then put m at else at) may) recorded_so entered_now

    received : (m : Message) (told : Reported) (now : Call) → choice setup c p ≡ Goes (with_call p t (Some (new_call Receives b m)))
        → k.receive_line ≡ [] → front_may_go Receivers k ≡ true → report_of_take k.items k.effects ≡ told → b ≡ now.buffer
        → ((q : CpuLocal) → recorded_try c q t (queued Receives b m k.receive_positions) told ≡ effected c q t now k.effects)
        → Gets setup c t s 9 (taken (lined_up t Receivers (record k { busy = Some t }))) (record now { effect = Some k.effects; stage = Signals })
        (p.trace ++ entry_made c t now k.effects now.message ∷ []) 12
    received m told now goes line can tells_so same_buffer recorded_so =
        let call = new_call Receives b m in
        let got = section_acquires setup c t s 0 18 k call p.trace free (first_gets Receives b k m goes space block) in
        let entered_now = enters_line setup c t small Receivers Receives refl (λ q x told. refl) s 3 15 (record k { busy = Some t }) call p.trace line got in
        let may = first_after k.receive_line (front_may_go Receivers k) line can in
        let at = lined_up t Receivers (record k { busy = Some t }) in
        section_tries setup c t s 6 12 at (taken at) (queued Receives b m k.receive_positions) now p.trace told same_buffer
        (ap (λ d. reports (if d then report_of_take k.items k.effects else NotYet)) may ∙ ap reports tells_so)
        (ap (λ d. if d then taken at else at) may) recorded_so entered_now

    -- the signals of a send, whose own line is empty, and of a receive
    sent_back : (m : Message) (now : Call) (traced : List Entry) (woke : Option Tid) → now.asks ≡ Sends
        → k.send_line ≡ [] → due_on Receivers (put m (lined_up t Senders (record k { busy = Some t }))) ≡ woke
        → Gets setup c t s 9 (put m (lined_up t Senders (record k { busy = Some t }))) (record now { stage = Signals }) traced 12
        → Returned setup c t s (9 + (9 + (steps_to_move setup c woke + 0))) traced
    sent_back m now traced woke is line wakes_so gets =
        let at = put m (lined_up t Senders (record k { busy = Some t })) in
        call_ends_alone setup c t s 9 12 at now traced woke None (ap (λ a. answer_of_buffer (first_signal t (side_of_group a)) at) is ∙ ap wakes wakes_so)
        (ap (λ a. answer_of_buffer (second_signal t (side_of_group a)) (edited_buffer (first_signal t (side_of_group a)) at)) is
        ∙ ap wakes (due_none at.send_line k.waiting_senders _ (ap (λ l. rest (l ++ t ∷ [])) line)))
        (ap (λ a. (edited_buffer (second_signal t (side_of_group a)) (edited_buffer (first_signal t (side_of_group a)) at)).sleepers) is ∙ none)
        (omega (arith, most_moved woke)) gets

    received_back : (now : Call) (traced : List Entry) (woke : Option Tid) → now.asks ≡ Receives
        → k.receive_line ≡ [] → due_on Senders (taken (lined_up t Receivers (record k { busy = Some t }))) ≡ woke
        → Gets setup c t s 9 (taken (lined_up t Receivers (record k { busy = Some t }))) (record now { stage = Signals }) traced 12
        → Returned setup c t s (9 + (9 + (steps_to_move setup c woke + 0))) traced
    received_back now traced woke is line wakes_so gets =
        let at = taken (lined_up t Receivers (record k { busy = Some t })) in
        call_ends_alone setup c t s 9 12 at now traced woke None (ap (λ a. answer_of_buffer (first_signal t (side_of_group a)) at) is ∙ ap wakes wakes_so)
        (ap (λ a. answer_of_buffer (second_signal t (side_of_group a)) (edited_buffer (first_signal t (side_of_group a)) at)) is
        ∙ ap wakes (due_none at.receive_line k.waiting_receivers _ (ap (λ l. rest (l ++ t ∷ [])) line)))
        (ap (λ a. (edited_buffer (second_signal t (side_of_group a)) (edited_buffer (first_signal t (side_of_group a)) at)).sleepers) is ∙ none)
        (omega (arith, most_moved woke)) gets

    closed_back : (m : Message) → choice setup c p ≡ Goes (with_call p t (Some (new_call Closes b m)))
        → IsBack (steps_to_return setup c CloseKind k) CloseKind b
    closed_back m goes =
        let now = record (new_call Closes b m) { position = k.closes } in
        let theirs = first_waiter Receivers k in
        let mine = first_waiter Senders k in
        let most = most_moved theirs in
        let more = most_moved mine in
        let traced = p.trace ++ entry_made c t now k.effects m ∷ [] in
        let got = section_acquires setup c t s 0 18 k (new_call Closes b m) p.trace free (first_gets Closes b k m goes space block) in
        let done = section_tries setup c t s 3 15 (record k { busy = Some t }) (shut_off (record k { busy = Some t }))
        (record (new_call Closes b m) { stage = Enters }) now p.trace (DidShut k.effects k.closes) refl refl refl (λ q. refl) got in
        let back = call_ends_alone setup c t s 6 15 (shut_off (record k { busy = Some t })) (record now { effect = Some k.effects }) traced theirs mine
        (ap wakes (woken_is (front_stands_in k.receive_line k.waiting_receivers) true (front k.receive_line) refl))
        (ap wakes (woken_is (front_stands_in k.send_line k.waiting_senders) true (front k.send_line) refl)) none (omega (arith, most, more)) done in
        ends_at (6 + (9 + (steps_to_move setup c theirs + steps_to_move setup c mine))) (steps_to_return setup c CloseKind k) CloseKind b (omega arith)
        (told _ CloseKind b (entry_made c t now k.effects m) (refl, refl, refl) back)

    pub returns : (e : Kind) (m : Message) → IsCallOn (group_of e) b (stands_at setup p t) → Allows k e m → HasEmptyLine (group_of e) k
        → IsBack (steps_to_return setup c e k) e b
    returns SendKind m at_call allowed line =
        let begin = begins_as Sends b (stands_at setup p t) refl at_call in
        let now = record (queued Sends b begin.0 k.send_positions) { message = begin.0 } in
        let woke = first_waiter Receivers k in
        let done = sent begin.0 (Done k.effects begin.0) now begin.1 line (allowed_goes Senders k SendKind m refl allowed)
        (ap (λ d. report_of_put d k.effects begin.0) allowed.0) refl (λ q. refl) in
        ends_at (9 + (9 + (steps_to_move setup c woke + 0))) (steps_to_return setup c SendKind k) SendKind b (omega arith)
        (told _ SendKind b (entry_made c t now k.effects begin.0) (refl, refl, refl)
        (sent_back begin.0 (record now { effect = Some k.effects }) _ woke refl line
        (woken_is (front_stands_in k.receive_line k.waiting_receivers) _ (front k.receive_line) (grind (arith, lt-ltb, length-append))) done))
    returns SendClosed m at_call allowed line =
        let begin = begins_as Sends b (stands_at setup p t) refl at_call in
        let now = record (queued Sends b begin.0 k.send_positions) { closed = true } in
        let done = sent begin.0 (WasClosed k.effects) now begin.1 line (allowed_goes Senders k SendClosed m refl allowed)
        (ap (λ d. report_of_put d k.effects begin.0) allowed) refl (λ q. refl) in
        told 18 SendClosed b (entry_made c t now k.effects begin.0) (refl, refl, refl)
        (sent_back begin.0 (record now { effect = Some k.effects }) _ None refl line
        (grind (arith, (quiescent b k block free).1, allowed)) done)
    returns RecvKind m at_call allowed line =
        let begin = begins_as Receives b (stands_at setup p t) refl at_call in
        let now = record (queued Receives b begin.0 k.receive_positions) { message = first_item k.items } in
        let woke = first_waiter Senders k in
        let done = received begin.0 (Done k.effects (first_item k.items)) now begin.1 line (allowed_goes Receivers k RecvKind m refl allowed)
        (grind (arith, allowed)) refl (λ q. refl) in
        ends_at (9 + (9 + (steps_to_move setup c woke + 0))) (steps_to_return setup c RecvKind k) RecvKind b (omega arith)
        (told _ RecvKind b (entry_made c t now k.effects (first_item k.items)) (refl, refl, refl)
        (received_back (record now { effect = Some k.effects }) _ woke refl line
        (woken_is (front_stands_in k.send_line k.waiting_senders) _ (front k.send_line)
        (or_right k.closed _ (grind (arith, lt-ltb, holds_no_more setup (sections_in s.log) b k block, allowed)))) done))
    returns RecvClosed m at_call allowed line =
        let begin = begins_as Receives b (stands_at setup p t) refl at_call in
        let now = record (queued Receives b begin.0 k.receive_positions) { closed = true } in
        let done = received begin.0 (WasClosed k.effects) now begin.1 line (allowed_goes Receivers k RecvClosed m refl allowed)
        (ap (λ l. report_of_take l k.effects) allowed.1) refl (λ q. refl) in
        told 18 RecvClosed b (entry_made c t now k.effects begin.0) (refl, refl, refl)
        (received_back (record now { effect = Some k.effects }) _ None refl line
        (grind (arith, (quiescent b k block free).0, allowed.0)) done)
    returns CloseKind m at_call allowed line =
        let begin = begins_as Closes b (stands_at setup p t) refl at_call in
        closed_back begin.0 begin.1

  -- if both lines wait at a buffer that serves neither, it has no room for an item
  pub no_room : (k : Buffer) → IsQuiescent k → 18 < steps_to_return setup c CloseKind k → k.capacity ≡ 0
  no_room k nobody more = grind (arith, cases_lt, refuted, lt-ltb, most_moved)

pub calls_return_alone : CallsReturnAlone
calls_return_alone setup room s c p t few reached ready space =
    let back = returns setup room s c p t few reached ready ready.buffer ready.block space ready.is ready.unowned ready.effect ready.message
    (subst (λ a. IsCallOn a ready.buffer (stands_at setup p t)) (sym ready.of_call) ready.at_call) ready.allowed
    (subst (λ a. HasEmptyLine a ready.block) (sym ready.of_call) ready.empty_line) in (
      back.0,
      back.1,
      λ is more. no_room setup room s c p t few reached ready ready.block
          (quiescent setup room s c p t few reached ready ready.buffer ready.block ready.is ready.unowned)
          (subst (λ e. 18 < steps_to_return setup c e ready.block) is more),
    )
