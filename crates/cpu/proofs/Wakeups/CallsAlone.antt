-- A call without contention goes through its sections, with one more if a signal wakes a thread of
-- another CPU.
use Rattle.std.proofs.Common.{◌≡◌, ℕ, ◌+◌, ◌<◌, ◌≤◌, Bool, true, false, not, ◌&&◌, List, [], ◌∷◌, ◌++◌, slice_get, Option, Some, None, option_map}
use Rattle.std.proofs.{Common.{if◌then◌else◌, refl, sym, ap, ◌∙◌, subst, arith}, lemmas.Bool.lt-ltb}
use Rattle.layer_traits.specs.{Threads.RunQueue.joins, declared.{locked.Side.Side, call_states.Stage.TheVariants.{Idle, Acquires, Enters, Tries, Signals}}}
use Rattle.layer_traits.specs.{declared.call_states.Stage.TheVariants.{SignalsOwn, Releases}, Blocks.BufferBlocks.may_join}
use Rattle.event_log.specs.declared.{ids.{CpuId.CpuId, Tid.Tid, LockId.TheVariants.Buffer as AtBuffer, TheConstants.THREADS}, entries.Entry.Entry}
use Rattle.{event_log.specs.{History.same_cpu, Runs.Group, Sections.Section}, thread_blocks.specs.Queues.first, cpu.specs.Table.Blocks.{Buffer, OfBuffer, Name}}
use Rattle.cpu.specs.Table.{Blocks.{RelQ, Pend, side_of_group, Reported, Nothing, Position, Answer, Enter}, Edits.{edited_buffer, acquired, lined_up, reports}}
use Rattle.cpu.specs.Table.{Edits.{wakes, answer, answer_of_acquire, answer_of_buffer, line_on, drawn_position}, Setups.{SystemConfig, Call, CpuLocal}}
use Rattle.cpu.specs.Table.{Setups.{thread_at, home_cpu, home_threads, have_ended, stands_at}, Choice.{section_due, first_signal, second_signal, asked, Goes}}
use Rattle.cpu.specs.Table.Choice.{choice, with_call, entry_made, effected, with_told, woken, guest_after, returned, returned_at, settled, after_section}
use Rattle.cpu.specs.{Table.{Choice.{first_section, recorded_entry, recorded_position}, Steps.{SystemState, steps_by}}, Wakeups.Alone.{IsInCall, steps_to_move}}
use Rattle.cpu.{specs.Wakeups.Order.block_of, proofs.Wakeups.{Agreement.at_same, CpuStep.pending_there, CpuAlone.{steps_more, section_of, Stands, after_three}}}
use Rattle.cpu.proofs.Wakeups.CpuAlone.{two_steps, here_two, three_steps, stands_after, InCall, with_new, goes_on, asks_for, after_is, settled_is, block_next}

module _ (setup : SystemConfig) (c : CpuId) (t : Tid) where
  -- after n steps of CPU c its thread t is in this call, which continues; the call's buffer holds
  -- this
  pub record Gets (s : SystemState) (n : ℕ) (k : Buffer) (call : Call) (traced : List Entry) (left : ℕ) : Type 0 where
    pub now : SystemState
    pub by : steps_by setup c n s ≡ now
    pub before : CpuLocal
    pub state : CpuLocal
    pub past : List (Section Name)
    pub stands : Stands setup c now before past left
    pub goes : choice setup c before ≡ Goes state
    pub inside : InCall setup c state t call traced
    pub block : block_of setup (AtBuffer call.buffer) past ≡ Some (OfBuffer k)

  -- three steps are the section that is due, with this result
  section_done : {k : Buffer} {call : Call} {traced : List Entry} (s : SystemState) (n left : ℕ) (a : Answer) (gets : Gets s n k call traced (left + 3))
      → answer_of_buffer (section_due t call call.stage) k ≡ a → steps_by setup c (n + 3) s ≡ after_three setup c gets.now gets.state a
  section_done {call = call} {traced = traced} s n left a gets told =
      steps_more setup c n 3 s ∙ ap (steps_by setup c 3) gets.by ∙ three_steps setup c gets.now gets.before gets.state gets.past left a gets.stands gets.goes
      (ap (λ ask. option_map (answer ask.name) (block_of setup ask.lock gets.past)) (asks_for setup c gets.state t call traced gets.inside)
      ∙ ap (option_map (answer (section_due t call call.stage))) gets.block ∙ ap Some told)

  -- one section of the call
  advance : (s : SystemState) (n : ℕ) (k next : Buffer) (call more : Call) (traced longer : List Entry) (left : ℕ) (a : Answer)
      → Gets s n k call traced (left + 3)
      → answer_of_buffer (section_due t call call.stage) k ≡ a → edited_buffer (section_due t call call.stage) k ≡ next → call.buffer ≡ more.buffer
      → ((p : CpuLocal) → InCall setup c p t call traced → InCall setup c (after_section setup c p a) t more longer) → Gets s (n + 3) next more longer left
  advance s n k next call more traced longer left a gets told edits same_buffer goes_so =
      let q = gets.state in
      let asks = asks_for setup c q t call traced gets.inside in
      let after = goes_so q gets.inside in
      record {
        now = after_three setup c gets.now q a;
        by = section_done s n left a gets told;
        before = after_section setup c q a;
        state = after_section setup c q a;
        past = section_of c (asked setup c q) ∷ gets.past;
        stands = stands_after setup c gets.now gets.before q gets.past left a gets.stands;
        goes = goes_on setup c (after_section setup c q a) t more longer after;
        inside = after;
        block = grind (arith, q, asks, block_next);
      }

  -- a section that puts no thread to sleep and wakes none: the call records its result
  answer_recorded : (p h : CpuLocal) (call more : Call) (traced longer : List Entry) (told : Reported) → InCall setup c p t call traced
      → with_told c p t call call.stage told ≡ h
      → InCall setup c h t more longer → returned_at setup h t more more.stage ≡ h → InCall setup c (after_section setup c p (reports told)) t more longer
  answer_recorded p h call more traced longer told inside is after stays = grind (arith, after_is, settled_is)

  new_in : (p : CpuLocal) (call more : Call) (traced : List Entry) → InCall setup c p t call traced → InCall setup c (with_call p t (Some more)) t more traced
  new_in p call more traced at = with_new setup c p t more traced at.hand at.current at.known at.live at.trace

  -- The sections, one after the other.

  pub section_acquires : (s : SystemState) (n left : ℕ) (k : Buffer) (call : Call) (traced : List Entry) → k.busy ≡ None
      → Gets s n k (record call { stage = Acquires }) traced (left + 3)
      → Gets s (n + 3) (record k { busy = Some t }) (record call { stage = Enters }) traced left
  section_acquires s n left k call traced free gets =
      advance s n k (record k { busy = Some t }) (record call { stage = Acquires }) (record call { stage = Enters }) traced traced left (reports Nothing) gets
      (ap answer_of_acquire free) (ap (λ o. acquired t o k) free) refl (λ p inside.
      answer_recorded p (with_call p t (Some (record call { stage = Enters }))) (record call { stage = Acquires })
      (record call { stage = Enters }) traced traced Nothing inside refl
      (new_in p (record call { stage = Acquires }) (record call { stage = Enters }) traced inside) refl)

  module _ (small : t.0 < THREADS) where
    may_enter : (line : List Tid) → line ≡ [] → may_join t line ≡ true
    may_enter line empty = ap (may_join t) empty ∙ ap (λ b. b && true) (lt-ltb t.0 THREADS small)

    pub enters_line : (side : Side) (asks : Group) → first_section t asks ≡ Enter t side
        → ((p : CpuLocal) (call : Call) (told : Reported) → recorded_entry c p t call asks told ≡ recorded_position p t call told)
        → (s : SystemState) (n left : ℕ)
        (k : Buffer) (call : Call) (traced : List Entry) → line_on side k ≡ [] → Gets s n k (record call { asks = asks; stage = Enters }) traced (left + 3)
        → Gets s (n + 3) (lined_up t side k) (record call { asks = asks; position = drawn_position side k; stage = Tries }) traced left
    enters_line side asks first records s n left k call traced empty gets =
        let now : Call = record call { asks = asks; stage = Enters } in
        let more : Call = record call { asks = asks; position = drawn_position side k; stage = Tries } in
        advance s n k (lined_up t side k) now more traced traced left (reports (Position (drawn_position side k))) gets (ap (λ e. answer_of_buffer e k) first)
        (ap (λ e. edited_buffer e k) first ∙ ap (λ b. if b then lined_up t side k else k) (may_enter (line_on side k) empty)) refl
        (λ p inside. answer_recorded p (with_call p t (Some more)) now more traced traced (Position (drawn_position side k)) inside
        (records p now (Position (drawn_position side k))) (new_in p now more traced inside) refl)

  -- the state after an effect: the entry is written
  effect_in : (p : CpuLocal) (call now : Call) (op : ℕ) (traced : List Entry) → InCall setup c p t call traced
      → InCall setup c (effected c p t now op) t (record now { effect = Some op; stage = Signals }) (traced ++ entry_made c t now op now.message ∷ [])
  effect_in p call now op traced inside =
      let after = new_in p call (record now { effect = Some op; stage = Signals }) traced inside in
      assumption (after, have_same (home_threads setup c) ∙ after.live, ap (λ x. x ++ entry_made c t now op now.message ∷ []) inside.trace)
    where
      have_same : (ts : List Tid)
          → have_ended (effected c p t now op) ts ≡ have_ended (with_call p t (Some (record now { effect = Some op; stage = Signals }))) ts
      have_same [] = refl
      have_same (u ∷ ts) = ap (λ b. (thread_at (with_call p t (Some (record now { effect = Some op; stage = Signals }))) u).ended && b) (have_same ts)

  -- a section that has the call's effect: the call as it then is
  pub section_tries : (s : SystemState) (n left : ℕ) (k next : Buffer) (call now : Call) (traced : List Entry) (told : Reported) → call.buffer ≡ now.buffer
      → answer_of_buffer (section_due t call call.stage) k ≡ reports told → edited_buffer (section_due t call call.stage) k ≡ next
      → ((p : CpuLocal) → with_told c p t call call.stage told ≡ effected c p t now k.effects) → Gets s n k call traced (left + 3)
      → Gets s (n + 3) next (record now { effect = Some k.effects; stage = Signals }) (traced ++ entry_made c t now k.effects now.message ∷ []) left
  section_tries s n left k next call now traced told same_buffer tells_so edits recorded_so gets =
      advance s n k next call (record now { effect = Some k.effects; stage = Signals }) traced (traced ++ entry_made c t now k.effects now.message ∷ []) left
      (reports told) gets tells_so edits same_buffer (λ p inside.
      answer_recorded p (effected c p t now k.effects) call (record now { effect = Some k.effects; stage = Signals }) traced
      (traced ++ entry_made c t now k.effects now.message ∷ []) told inside (recorded_so p) (effect_in p call now k.effects traced inside) refl)

  -- less room than there is
  with_less : (s : SystemState) (n : ℕ) (k : Buffer) (call : Call) (traced : List Entry) (left less : ℕ) → less ≤ left
      → Gets s n k call traced left → Gets s n k call traced less
  with_less s n k call traced left less fewer gets = record {
    now = gets.now;
    by = gets.by;
    before = gets.before;
    state = gets.state;
    past = gets.past;
    stands = let at = gets.stands in grind (arith, at, fewer);
    goes = gets.goes;
    inside = gets.inside;
    block = gets.block;
  }

  -- A signal, after which the call is as `more`.

  module _ (s : SystemState) (k next : Buffer) (call more : Call) (traced : List Entry) (same_buffer : call.buffer ≡ more.buffer)
      (edits : edited_buffer (section_due t call call.stage) k ≡ next)
      (recorded_so : (p : CpuLocal) (told : Reported) → with_told c p t call call.stage told ≡ with_call p t (Some more))
      (stays : (p : CpuLocal) → returned_at setup p t more more.stage ≡ p) where
    -- a signal that wakes no thread
    signals_none : (n left : ℕ) → answer_of_buffer (section_due t call call.stage) k ≡ wakes None
        → Gets s n k call traced (left + 3) → Gets s (n + 3) next more traced left
    signals_none n left told gets =
        advance s n k next call more traced traced left (reports Nothing) gets told edits same_buffer (λ p inside. answer_recorded p (with_call p t (Some more))
        call more traced traced Nothing inside (recorded_so p Nothing) (new_in p call more traced inside) (stays (with_call p t (Some more))))

    -- a signal that wakes a thread of this home CPU
    signals_home : (n left : ℕ) (u : Tid) → same_cpu (home_cpu setup u) c ≡ true → answer_of_buffer (section_due t call call.stage) k ≡ wakes (Some u)
        → Gets s n k call traced (left + 3) → Gets s (n + 3) next more traced left
    signals_home n left u here told gets =
        advance s n k next call more traced traced left (wakes (Some u)) gets told edits same_buffer (λ p inside.
        let h = with_call p t (Some more) in
        let now = new_in p call more traced inside in
        let ready : CpuLocal = record h { ready = joins (u ∷ []) h.ready } in
        let at : InCall setup c ready t more traced = grind (arith, now) in
        let same = after_is setup c p t call traced (wakes (Some u)) inside
        ∙ ap (λ x. settled setup (woken setup c (Some u) x)) (recorded_so p Nothing)
        ∙ ap (λ b. settled setup (if b then record h { ready = joins (u ∷ []) h.ready } else record h { hand = Some u })) here
        ∙ settled_is setup c ready t more traced at ∙ stays ready in
        subst (λ x. InCall setup c x t more traced) (sym same) at)

    -- a signal that wakes a thread of another CPU: the next section puts it among the pending there
    signals_away : (n left : ℕ) (u : Tid) → same_cpu (home_cpu setup u) c ≡ false → answer_of_buffer (section_due t call call.stage) k ≡ wakes (Some u)
        → Gets s n k call traced ((left + 3) + 3) → Gets s ((n + 3) + 3) next more traced left
    signals_away n left u away told gets =
        let q = gets.state in
        let asks = asks_for setup c q t call traced gets.inside in
        let h = with_call q t (Some more) in
        let held : CpuLocal = record h { hand = Some u } in
        let same = after_is setup c q t call traced (wakes (Some u)) gets.inside
        ∙ ap (λ x. settled setup (woken setup c (Some u) x)) (recorded_so q Nothing)
        ∙ ap (λ b. settled setup (if b then record h { ready = joins (u ∷ []) h.ready } else record h { hand = Some u })) away in
        let one = after_three setup c gets.now q (wakes (Some u)) in
        let past : List (Section Name) = section_of c (asked setup c q) ∷ gets.past in
        let stands_one : Stands setup c one held past (left + 3) =
        subst (λ x. Stands setup c one x past (left + 3)) same
        (stands_after setup c gets.now gets.before q gets.past (left + 3) (wakes (Some u)) gets.stands) in
        let pends = ap (option_map (answer (Pend u))) (pending_there setup (home_cpu setup u) past).1 in
        let now = new_in q call more traced gets.inside in
        let at : InCall setup c (record h { hand = None }) t more traced =
        grind (arith, now) in
        let after = settled_is setup c (record h { hand = None }) t more traced at ∙ stays (record h { hand = None }) in
        let inside_after = subst (λ x. InCall setup c x t more traced) (sym after) at in
        record {
          now = after_three setup c one held (reports Nothing);
          by = steps_more setup c (n + 3) 3 s ∙ ap (steps_by setup c 3) (section_done s n (left + 3) (wakes (Some u)) gets told)
              ∙ three_steps setup c one held held past left (reports Nothing) stands_one refl pends;
          before = after_section setup c held (reports Nothing);
          state = after_section setup c held (reports Nothing);
          past = section_of c (asked setup c held) ∷ past;
          stands = stands_after setup c one held held past left (reports Nothing) stands_one;
          goes = goes_on setup c (after_section setup c held (reports Nothing)) t more traced inside_after;
          inside = inside_after;
          block = grind (arith, past, asks, block_next);
        }

    -- a signal, whichever thread it wakes
    signals : (n left : ℕ) (woke : Option Tid) → answer_of_buffer (section_due t call call.stage) k ≡ wakes woke
        → Gets s n k call traced (left + (3 + steps_to_move setup c woke)) → Gets s (n + (3 + steps_to_move setup c woke)) next more traced left
    signals n left None told gets = signals_none n left told gets
    signals n left (Some u) told gets = by_home (same_cpu (home_cpu setup u) c) refl gets
      where
        by_home : (here : Bool) → same_cpu (home_cpu setup u) c ≡ here → Gets s n k call traced (left + (3 + (if not here then 3 else 0)))
            → Gets s (n + (3 + (if not here then 3 else 0))) next more traced left
        by_home true here got = signals_home n left u here told got
        by_home false away got =
            let same : (n + 3) + 3 ≡ n + 6 = omega arith in
            subst (λ m. Gets s m next more traced left) same
            (signals_away n left u away told (with_less s n k call traced (left + 6) ((left + 3) + 3) (omega arith) got))

  -- the call has returned, with this trace; one step earlier it was under way
  pub record Returned (s : SystemState) (n : ℕ) (traced : List Entry) : Type 0 where
    pub now : CpuLocal
    pub here : slice_get (steps_by setup c n s).cpus c.0 ≡ Some now
    pub outside : (thread_at now t).call ≡ None
    pub trace : now.trace ≡ traced
    pub before : (m : ℕ) → m + 1 ≡ n → IsInCall (steps_by setup c m s) c t

  -- the lock is released, and no thread sleeps at it
  releases : (s : SystemState) (n left : ℕ) (k : Buffer) (call : Call) (traced : List Entry) → k.sleepers ≡ []
      → Gets s n k (record call { stage = Releases }) traced (left + 3) → Returned s (n + 3) traced
  releases s n left k call traced none gets =
      let last : Call = record call { stage = Releases } in
      let gone : Call = record call { stage = Idle } in
      let q = gets.state in
      let told : answer_of_buffer (RelQ t) k ≡ reports Nothing = ap (λ x. wakes (first x)) none in
      let h = with_call q t (Some gone) in
      let now = new_in q last gone traced gets.inside in
      let same = after_is setup c q t last traced (reports Nothing) gets.inside ∙ settled_is setup c h t gone traced now in
      let by = section_done s n left (reports Nothing) gets told in
      let stands = stands_after setup c gets.now gets.before q gets.past left (reports Nothing) gets.stands in
      record {
        now = returned setup h t gone;
        here = ap (λ x. slice_get x.cpus c.0) by ∙ stands.here ∙ ap Some same;
        outside = ap (λ y. y.call)
            (at_same h t (record (thread_at h t) {
              guest = guest_after gone.asks gone.closed (stands_at setup h t) gone.message (thread_at h t).guest;
              call = None;
            }) now.known);
        trace = now.trace;
        before = λ m last_step.
            let same_step : n + 2 ≡ m = omega (arith, last_step) in
            subst (λ k. IsInCall (steps_by setup c k s) c t) same_step (record {
              now = q;
              here = ap (λ x. slice_get x.cpus c.0)
                  (steps_more setup c n 2 s ∙ ap (steps_by setup c 2) gets.by ∙ two_steps setup c gets.now gets.before q gets.past left gets.stands gets.goes)
                  ∙ here_two setup c gets.now gets.before q gets.stands.here;
              call = last;
              inside = gets.inside.calls;
            });
      }

  -- From the effect to the return: the two signals and the release.
  pub call_ends_alone : (s : SystemState) (n left : ℕ) (k : Buffer) (call : Call) (traced : List Entry) (woke local : Option Tid)
      → answer_of_buffer (first_signal t (side_of_group call.asks)) k ≡ wakes woke
      → answer_of_buffer (second_signal t (side_of_group call.asks)) (edited_buffer (first_signal t (side_of_group call.asks)) k) ≡ wakes local
      → (edited_buffer (second_signal t (side_of_group call.asks)) (edited_buffer (first_signal t (side_of_group call.asks)) k)).sleepers ≡ []
      → 9 + (steps_to_move setup c woke + steps_to_move setup c local) ≤ left → Gets s n k (record call { stage = Signals }) traced left
      → Returned s (n + (9 + (steps_to_move setup c woke + steps_to_move setup c local))) traced
  call_ends_alone s n left k call traced woke local first_tells own_tells none space gets =
      let mine = steps_to_move setup c local in
      let theirs = steps_to_move setup c woke in
      let other = edited_buffer (first_signal t (side_of_group call.asks)) k in
      let both = edited_buffer (second_signal t (side_of_group call.asks)) other in
      let one = signals s k other (record call { stage = Signals }) (record call { stage = SignalsOwn }) traced refl refl (λ p told. refl) (λ p. refl)
      n (3 + (3 + mine)) woke first_tells
      (with_less s n k (record call { stage = Signals }) traced left ((3 + (3 + mine)) + (3 + theirs)) (omega (arith, space)) gets) in
      let two = signals s other both (record call { stage = SignalsOwn }) (record call { stage = Releases }) traced refl refl (λ p told. refl) (λ p. refl)
      (n + (3 + theirs)) 3 local own_tells one in
      let same : ((n + (3 + theirs)) + (3 + mine)) + 3 ≡ n + (9 + (theirs + mine)) = omega arith in
      subst (λ m. Returned s m traced) same (releases s ((n + (3 + theirs)) + (3 + mine)) 0 both call traced none two)
