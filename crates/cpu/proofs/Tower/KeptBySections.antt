-- The states of all threads in a part stay allowed under each section of a call, while the hand is
-- empty.
use Rattle.std.proofs.Common.{◌≡◌, ◌≢◌, ◌⊎◌, inl, inr, ℕ, Bool, true, false, List, [], ◌∷◌, length, slice_get, slice_set, Option, Some, None, refl, sym, subst}
use Rattle.std.proofs.{Common.arith, lemmas.{List.{get_or-set_same, get_or-set_other, length-set}, Bool.{cases_eq, eqb-false}}}
use Rattle.layer_traits.specs.{Threads.{RunQueue.joins, Places.is_cpu}, declared.{calls.Effect.Effect, locked.Side.{Side, TheVariants.{Receivers, Senders}}}}
use Rattle.layer_traits.specs.declared.{conditions.CvReply.CvReply, call_states.{Stage.Stage, CallState.CallState}, buffer_edits.BufferReply.BufferReply}
use Rattle.layer_traits.specs.{declared.buffer_edits.BufferReply.TheVariants.NotYet, Blocks.BufferBlocks.{BufferState, buffer_answer}}
use Rattle.layer_traits.specs.{Blocks.BufferProtocol.buffer_rules, Layers.{QLockLaw.slept_for, QLocking.{LockState, lock_answer}, BufferLaw.Buffering}}
use Rattle.layer_traits.specs.{Layers.BufferLaw.{buffer_of, first_of, no_call, call_state_of, try_of, section_at}, Polling.Plans.{Left, Plan, Act}}
use Rattle.event_log.specs.declared.ids.{BufId.BufId, CpuId.CpuId, LockId.{TheVariants.Buffer, LockId}, Tid.Tid, TheConstants.THREADS}
use Rattle.{thread_blocks.specs.Queues.first, cpu.specs.{Table.Setups.SystemConfig, Tower.Views.{TowerAnswer, TowerBlock, TowerName, TowerReply, tower}}}
use Rattle.cpu.specs.Tower.{Privates.tid, Positions.{IsPart, MayStand, inside, outside}, Composed.{FitsStage, IsKind, IsLined, IsUsed, CallStands, asks}}
use Rattle.cpu.specs.Tower.Composed.{was_handed, enters, tries, waits as stands_waits, was_woken, asks_anew, was_handed_again, signals, signals_own, releases}
use Rattle.cpu.{specs.Tower.Composed.{has_signalled, has_signalled_own, has_released}, proofs.Tower.{ChangedThread.own_at, Callers.Site, SectionLines.HasHad}}
use Rattle.cpu.proofs.Tower.SectionLines.{Draws, Shuts, Tried, first_answer, try_answer, shut_effect, call_state, react, lift, waking, asked_out, did_out}
use Rattle.cpu.proofs.Tower.SectionLines.{signal_out, left_out, over, plan, effect_by, effected_state, left_on, left_gone, reacted, waited, section_planned}
use Rattle.layer_traits.specs.declared.queue_edits.QueueEdit.TheVariants as queue
use Rattle.layer_traits.specs.declared.call_states.Stage.TheVariants as at
use Rattle.layer_traits.specs.declared.queue_edits.QueueBlock.TheVariants as block

-- the threads except this one are in allowed states, and the tables have a place for each thread
pub record Rest (t : Tid) (slept waits : List (Option BufId)) (call_states : List CallState) : Type 0 where
  pub others : (u : Tid) → u.0 ≢ t.0 → MayStand (call_state_of call_states u).stage None None (slept_for slept u) (slept_for waits u)
      (call_state_of call_states u).effect
  pub coupled : (u : Tid) → u.0 ≢ t.0 → FitsStage (call_state_of call_states u).stage (call_state_of call_states u).call
  pub long_call_states : length call_states ≡ THREADS
  pub long_slept : length slept ≡ THREADS
  pub long_waits : length waits ≡ THREADS

-- a call that fits its stage, by what the call state is
pub fit_is : (a b : CallState) → a ≡ b → FitsStage b.stage b.call → FitsStage a.stage a.call
fit_is a b is fit = subst (λ (x : CallState). FitsStage x.stage x.call) (sym is) fit

module _ (t : Tid) (ready ended : List Tid) (slept waits : List (Option BufId)) (call_states : List CallState) (others : Rest t slept waits call_states)
    (fit : FitsStage (call_state_of call_states t).stage (call_state_of call_states t).call) where
  -- thread t runs
  pub runs_part : (hand : Option Tid) (deferred : Option TowerReply)
      → MayStand (call_state_of call_states t).stage hand deferred (slept_for slept t) (slept_for waits t) (call_state_of call_states t).effect
      → IsPart (own_at (Some t) hand ready ended deferred slept waits call_states)
  runs_part hand deferred may = grind (arith, others, eqb-false, cases_eq)

  -- no thread runs
  pub gone_part : (hand : Option Tid) → MayStand (call_state_of call_states t).stage None None (slept_for slept t) (slept_for waits t)
      (call_state_of call_states t).effect → IsPart (own_at None hand ready ended None slept waits call_states)
  gone_part hand may = grind (arith, cases_eq, others)

-- another call state of this thread, and another place
pub rest_set : (t : Tid) (slept waits slept2 waits2 : List (Option BufId)) (call_states : List CallState) (state2 : CallState) → Rest t slept waits call_states
    → ((j : ℕ) → j ≢ t.0 → slept_for slept2 (tid j) ≡ slept_for slept (tid j)) → ((j : ℕ) → j ≢ t.0 → slept_for waits2 (tid j) ≡ slept_for waits (tid j))
    → length slept2 ≡ length slept → length waits2 ≡ length waits → Rest t slept2 waits2 (slice_set call_states t.0 state2)
rest_set t slept waits slept2 waits2 call_states state2 others same_s same_w long_s long_w = grind (arith, get_or-set_other, fit_is, length-set)

-- a plan that keeps all threads in allowed states
pub record PlanPreserves {A : Type 0} (setup : SystemConfig) (c : CpuId) (p : Plan TowerName TowerAnswer Buffering A) : Type 0 where
  pub lock : LockId
  pub name : TowerName
  pub react : Option TowerAnswer → Left Buffering A
  pub used : IsUsed setup c lock
  pub is : p ≡ Act lock name react
  pub stays : IsPart (react None).local
  pub gives : (x : TowerBlock) → IsKind lock x → IsPart (react (Some (tower.answer name x))).local

module _ (call_site : Site) (effect : Option Effect) (had : HasHad call_site effect)
    (others : Rest call_site.t call_site.slept call_site.waits call_site.call_states) where
  open call_site use {setup, c, t, ready, ended, slept, waits as waiting, call_states, call, in_call_states, in_slept, in_waits, is_slept, is_waits}

  -- thread t runs on
  pub runs_kept : (hand2 : Option Tid) (ready2 : List Tid) (deferred2 : Option TowerReply) (state2 : CallState)
      → MayStand state2.stage hand2 deferred2 None None state2.effect → FitsStage state2.stage state2.call
      → IsPart (own_at (Some t) hand2 ready2 ended deferred2 slept waiting (slice_set call_states t.0 state2))
  runs_kept hand2 ready2 deferred2 state2 may fit =
      runs_part t ready2 ended slept waiting (slice_set call_states t.0 state2)
      (rest_set t slept waiting slept waiting call_states state2 others (λ j other. refl) (λ j other. refl) refl refl)
      (fit_is _ state2 (get_or-set_same call_states t.0 state2 no_call in_call_states) fit) hand2 deferred2
      (grind (arith, get_or-set_same call_states t.0 state2 no_call in_call_states))

  -- with an empty hand, or with a thread that its section woke
  runs_on : (ready2 : List Tid) (stage : Stage) → CallStands stage None None None None effect → FitsStage stage (Some call)
      → IsPart (own_at (Some t) None ready2 ended None slept waiting (slice_set call_states t.0 (call_state call_site effect had stage)))
  runs_on ready2 stage given fit = runs_kept None ready2 None (call_state call_site effect had stage) (inside stage None None None None effect given) fit

  sends_on : (u : Tid) (out : TowerReply) (stage : Stage) → CallStands stage (Some u) (Some out) None None effect → FitsStage stage (Some call)
      → IsPart (own_at (Some t) (Some u) ready ended (Some out) slept waiting (slice_set call_states t.0 (call_state call_site effect had stage)))
  sends_on u out stage given fit =
      runs_kept (Some u) ready (Some out) (call_state call_site effect had stage) (inside stage (Some u) (Some out) None None effect given) fit

  -- it sleeps for the lock, or waits
  gone_on : (hand2 : Option Tid) (ready2 : List Tid) (slept2 waits2 : List (Option BufId)) (stage : Stage) (s w : Option BufId)
      → ((j : ℕ) → j ≢ t.0 → slept_for slept2 (tid j) ≡ slept_for slept (tid j)) → ((j : ℕ) → j ≢ t.0 → slept_for waits2 (tid j) ≡ slept_for waiting (tid j))
      → length slept2 ≡ length slept → length waits2 ≡ length waiting → slept_for slept2 t ≡ s → slept_for waits2 t ≡ w
      → CallStands stage None None s w effect → FitsStage stage (Some call) → IsPart (left_gone call_site effect had hand2 ready2 slept2 waits2 stage).local
  gone_on hand2 ready2 slept2 waits2 stage s w same_s same_w long_s long_w is_s is_w given fit =
      let state2 : CallState = call_state call_site effect had stage in
      let is = get_or-set_same call_states t.0 state2 no_call in_call_states in
      gone_part t ready2 ended slept2 waits2 (slice_set call_states t.0 state2)
      (rest_set t slept waiting slept2 waits2 call_states state2 others same_s same_w long_s long_w) (fit_is _ state2 is fit) hand2
      (grind (arith, inside stage None None s w effect given))

  asleep : (stage : Stage) → CallStands stage None None (Some (buffer_of call)) None effect → FitsStage stage (Some call)
      → IsPart (left_gone call_site effect had None ready (slice_set slept t.0 (Some (buffer_of call))) waiting stage).local
  asleep stage given fit =
      gone_on None ready (slice_set slept t.0 (Some (buffer_of call))) waiting stage (Some (buffer_of call)) None
      (λ j other. get_or-set_other slept t.0 j (Some (buffer_of call)) None other) (λ j other. refl) (length-set slept t.0 (Some (buffer_of call))) refl
      (get_or-set_same slept t.0 (Some (buffer_of call)) None in_slept) is_waits given fit

  waits_on : (hand2 : Option Tid) (ready2 : List Tid) (stage : Stage) → CallStands stage None None None (Some (buffer_of call)) effect
      → FitsStage stage (Some call) → IsPart (left_gone call_site effect had hand2 ready2 slept (slice_set waiting t.0 (Some (buffer_of call))) stage).local
  waits_on hand2 ready2 stage given fit =
      gone_on hand2 ready2 slept (slice_set waiting t.0 (Some (buffer_of call))) stage None (Some (buffer_of call)) (λ j other. refl)
      (λ j other. get_or-set_other waiting t.0 j (Some (buffer_of call)) None other) refl (length-set waiting t.0 (Some (buffer_of call))) is_slept
      (get_or-set_same waiting t.0 (Some (buffer_of call)) None in_waits) given fit

  -- a thread was woken whose home CPU is this one, or is not
  woke_on : (stage : Stage) (out : TowerReply) (u : Tid) → IsPart (lift call_site effect had stage out (waking call_site effect had (Some t) u true)).local
      → IsPart (lift call_site effect had stage out (waking call_site effect had (Some t) u false)).local
      → (b : Bool) → IsPart (lift call_site effect had stage out (waking call_site effect had (Some t) u b)).local
  woke_on stage out u here there b = grind arith

-- Before the effect.

module _ (call_site : Site) (had : HasHad call_site None) (others : Rest call_site.t call_site.slept call_site.waits call_site.call_states) where
  open call_site use {t, ready, call, position}

  abbrev Keeps : Stage → TowerReply → Type 0
  Keeps stage out = IsPart (reacted call_site None had stage out).local

  asks_by : (o : Option Tid) → Keeps at.Acquires (asked_out o)
  asks_by None = runs_on call_site None had others ready at.Enters enters tt
  asks_by (Some owner) = asleep call_site None had others at.Acquires (was_handed _) tt

  asks_again_by : IsLined call → (o : Option Tid) → Keeps at.AcquiresAgain (asked_out o)
  asks_again_by lined None = runs_on call_site None had others ready at.Tries tries lined
  asks_again_by lined (Some owner) = asleep call_site None had others at.AcquiresAgain (was_handed_again _) lined

  effects_by : (f : Effect) → IsPart (left_on call_site None had None ready None (effected_state call_site had f) None).local
  effects_by f =
      runs_kept call_site None had others None ready None (effected_state call_site had f) (inside at.Signals None None None None (Some f) (signals f)) tt

  first_by : (x : BufferState) → Draws t call x ⊎ Shuts t call x → Keeps at.Enters (did_out (buffer_answer (first_of t call) x))
  first_by x (inl draws) =
      subst (λ o. Keeps at.Enters (did_out o)) (sym draws.is)
      (runs_kept call_site None had others None ready None (record { stage = at.Tries; call = Some call; position = draws.pos; effect = None })
      (inside at.Tries None None None None None tries) draws.lined)
  first_by x (inr shuts) = subst (λ o. Keeps at.Enters (did_out o)) (sym shuts.is) (effects_by (shut_effect shuts.op shuts.pos))

  tries_by : (x : BufferState) → IsLined call → (buffer_answer (try_of t call) x ≡ NotYet) ⊎ Tried t call x
      → Keeps at.Tries (did_out (buffer_answer (try_of t call) x))
  tries_by x lined (inl vain) = subst (λ o. Keeps at.Tries (did_out o)) (sym vain) (runs_on call_site None had others ready at.Waits stands_waits lined)
  tries_by x lined (inr tried) =
      subst (λ o. Keeps at.Tries (did_out o)) (sym tried.is) (effects_by (effect_by call tried.closed tried.op tried.message position))

  waits_by : IsLined call → (side : Side) (o : Option Tid) → IsPart (waited call_site None had side o).local
  waits_by lined Receivers None = waits_on call_site None had others None ready at.Waits (was_woken _) lined
  waits_by lined Senders None = waits_on call_site None had others None ready at.Waits (was_woken _) lined
  waits_by lined Receivers (Some u) = waits_on call_site None had others _ _ at.Waits (was_woken _) lined
  waits_by lined Senders (Some u) = waits_on call_site None had others _ _ at.Waits (was_woken _) lined

-- After the effect.

module _ (call_site : Site) (f : Effect) (had : HasHad call_site (Some f))
    (others : Rest call_site.t call_site.slept call_site.waits call_site.call_states) where
  open call_site use {setup, c, t, ready, ended, slept, waits as waiting, call_states}

  abbrev KeepsSome : Stage → TowerReply → Type 0
  KeepsSome stage out = IsPart (reacted call_site (Some f) had stage out).local

  signals_by : (v : CvReply BufferReply) (o : Option Tid) → KeepsSome at.Signals (signal_out v o)
  signals_by v None = runs_on call_site (Some f) had others ready at.SignalsOwn (signals_own f) tt
  signals_by v (Some u) =
      woke_on call_site (Some f) had others at.Signals (signal_out v (Some u)) u
      (runs_on call_site (Some f) had others (joins (u ∷ []) ready) at.SignalsOwn (signals_own f) tt)
      (sends_on call_site (Some f) had others u (signal_out v (Some u)) at.Signals (has_signalled u v f) tt) (is_cpu c (slice_get setup.homes u.0))

  own_signals_by : (v : CvReply BufferReply) (o : Option Tid) → KeepsSome at.SignalsOwn (signal_out v o)
  own_signals_by v None = runs_on call_site (Some f) had others ready at.Releases (releases f) tt
  own_signals_by v (Some u) =
      woke_on call_site (Some f) had others at.SignalsOwn (signal_out v (Some u)) u
      (runs_on call_site (Some f) had others (joins (u ∷ []) ready) at.Releases (releases f) tt)
      (sends_on call_site (Some f) had others u (signal_out v (Some u)) at.SignalsOwn (has_signalled_own u v f) tt) (is_cpu c (slice_get setup.homes u.0))

  returned_now : (ready2 : List Tid) → IsPart (own_at (Some t) None ready2 ended None slept waiting (slice_set call_states t.0 (over call_site f had)))
  returned_now ready2 = runs_kept call_site (Some f) had others None ready2 None (over call_site f had) (outside (Some f)) tt

  releases_by : (o : Option Tid) → KeepsSome at.Releases (left_out o)
  releases_by None = returned_now ready
  releases_by (Some u) =
      woke_on call_site (Some f) had others at.Releases (left_out (Some u)) u (returned_now (joins (u ∷ []) ready))
      (sends_on call_site (Some f) had others u (left_out (Some u)) at.Releases (has_released u f) tt) (is_cpu c (slice_get setup.homes u.0))

-- Each stage.

answers_keep : (call_site : Site) {effect : Option Effect} (had : HasHad call_site effect)
    (others : Rest call_site.t call_site.slept call_site.waits call_site.call_states) {stage : Stage}
    → CallStands stage None None None None effect → FitsStage stage (Some call_site.call) → (x : LockState BufferState)
    → IsPart (reacted call_site effect had stage (lock_answer buffer_rules (section_at call_site.t call_site.call stage) x)).local
answers_keep call_site had others asks coupled x = asks_by call_site had others x.owner
answers_keep call_site had others enters coupled x = first_by call_site had others x.above (first_answer call_site.t call_site.call x.above)
answers_keep call_site had others tries coupled x = tries_by call_site had others x.above coupled (try_answer call_site.t call_site.call x.above coupled)
answers_keep call_site had others stands_waits coupled x = grind (arith, waits_by, coupled)
answers_keep call_site had others asks_anew coupled x = asks_again_by call_site had others coupled x.owner
answers_keep call_site had others (signals f) coupled x = signals_by call_site f had others _ _
answers_keep call_site had others (signals_own f) coupled x = own_signals_by call_site f had others _ _
answers_keep call_site had others (releases f) coupled x = releases_by call_site f had others (first x.sleepers)

-- the plan of a section keeps all threads in allowed states
pub section_keeps : (call_site : Site) (effect : Option Effect) (had : HasHad call_site effect)
    → Rest call_site.t call_site.slept call_site.waits call_site.call_states → (stage : Stage)
    → CallStands stage None None None None effect → FitsStage stage (Some call_site.call)
    → PlanPreserves call_site.setup call_site.c (plan call_site effect had stage)
section_keeps call_site effect had others stage given coupled = record {
  lock = Buffer (buffer_of call_site.call);
  name = queue.Above (section_at call_site.t call_site.call stage);
  react = react call_site effect had stage (section_at call_site.t call_site.call stage);
  used = tt;
  is = section_planned call_site had given;
  stays = runs_on call_site effect had others call_site.ready stage given coupled;
  gives = by_block;
}
  where
    by_block : (x : TowerBlock) → IsKind (Buffer (buffer_of call_site.call)) x
        → IsPart (react call_site effect had stage (section_at call_site.t call_site.call stage)
        (Some (tower.answer (queue.Above (section_at call_site.t call_site.call stage)) x))).local
    by_block (block.Above x) kind = answers_keep call_site had others given coupled x
    by_block (block.Queue pending homes) kind = absurd kind
