-- One step of a CPU: each section that it ends is one that may occur, and every CPU stays in
-- agreement with the log.
use Rattle.std.proofs.Common.{◌≡◌, true, false, List, [], ◌∷◌, length, Option, Some, None, option_map, nat_lt, refl, sym, ap, ◌∙◌, subst, arith}
use Rattle.std.proofs.lemmas.Bool.{and_parts, false_from_ne_true}
use Rattle.layer_traits.{specs.Threads.{RunQueue.joins, Places.{is_home, is_thread, count_in}}, proofs.PlaceLemmas.{is_hand_true, is_home_true}}
use Rattle.cpu.proofs.Wakeups.{Agreement.{at_other, at_same, Agrees, IsSettled, runs_at_home, runs_within}, Lists.refuted, ThreadAtBuffer.woken_sleeps}
use Rattle.cpu.proofs.Wakeups.{BuffersAndThreads.{Good, moves_at, CallersAre, callers_are, is_the_caller, sleeps_not_home}, SectionsAgree.IsCalling}
use Rattle.cpu.proofs.Wakeups.SectionsAgree.{section_caller, agrees_call, agrees_pended, agrees_drained, agrees_yielded, agrees_foreign, drained_hand}
use Rattle.cpu.proofs.Wakeups.PostsAndVisits.{caller_in, post_pending, post, visit, is_local, IsCallers, MayComeBy, MayComeTo, MayComeAt, MayCome}
use Rattle.cpu.{proofs.ListFacts.ListReads.blocks_keep, specs.Table.{Blocks.{Block, OfBuffer, OfPending, Name, Pend, TakeAll}, Setups.{opening, SystemConfig}}}
use Rattle.cpu.specs.Table.{Setups.{Call, CpuLocal, thread_at, home_cpu, stands_at}, Edits.{edited, answer, answer_of_buffer}, Steps.after_reply, Choice.Ask}
use Rattle.cpu.specs.{Table.Choice.{at_pending, at_buffer, section_due, asked_by, asked_at, asked_in, asked, after_call}, Wakeups.Order.block_of}
use Rattle.event_log.specs.{declared.ids.{CpuId.CpuId, Tid.Tid, BufId.BufId, LockId.{LockId, TheVariants.{Pending, Buffer as AtBuffer}}}, History.same_cpu}
use Rattle.{event_log.specs.Sections.Section, guest.specs.State.after_yield, thread_blocks.proofs.Members.{same_tid_self, same_tid_true}}

-- The locks' blocks are of their kinds.

pub pending_there : (setup : SystemConfig) (d : CpuId) (past : List (Section Name))
    → (list : List Tid) × (block_of setup (Pending d) past ≡ Some (OfPending list))
pending_there setup d =
    blocks_keep (λ o. (list : List Tid) × (o ≡ Some (OfPending list))) edited (opening setup) (Pending d) ([], refl)
    (λ e o before. (_, ap (option_map (edited e)) before.1))

pub no_pending_at_buffer : (setup : SystemConfig) (b : BufId) (past : List (Section Name)) (list : List Tid)
    → block_of setup (AtBuffer b) past ≡ Some (OfPending list) → ⊥
no_pending_at_buffer setup b =
    blocks_keep (λ o. (list : List Tid) → o ≡ Some (OfPending list) → ⊥) edited (opening setup) (AtBuffer b)
    (λ list is. grind arith) (λ e o before list is. grind arith)

-- Another CPU's section.

module _ (setup : SystemConfig) (past : List (Section Name)) (good : Good setup past) (c e : CpuId) (off : same_cpu e c ≡ false)
    (p : CpuLocal) (agrees : Agrees setup c p (λ u. visit setup u past) (λ u. post setup u past)) where
  foreign_buffer : (d : BufId) (name : Name) → CallersAre setup past e d name
      → Agrees setup c p (λ u. visit setup u (record { cpu = e; lock = AtBuffer d; edit = name } ∷ past))
      (λ u. post setup u (record { cpu = e; lock = AtBuffer d; edit = name } ∷ past))
  foreign_buffer d name callers =
      agrees_foreign setup c p (λ u. visit setup u past) (λ u. visit setup u (record { cpu = e; lock = AtBuffer d; edit = name } ∷ past))
      (λ u. post setup u past) (λ u. post setup u (record { cpu = e; lock = AtBuffer d; edit = name } ∷ past)) agrees
      (λ u local_is. grind (arith, false_from_ne_true, and_parts, is_the_caller, local_is)) (λ u local_is. grind (
        arith,
        false_from_ne_true,
        sleeps_not_home,
        and_parts,
        is_the_caller,
        local_is,
        moves_at setup past good e d name callers u
            (block_of setup (AtBuffer d) past) refl,
      )) (λ u. grind (arith, moves_at setup past good e d name callers u (block_of setup (AtBuffer d) past) refl))

  pending_homes : (d : CpuId) (name : Name) → MayComeTo setup past e d name → (u : Tid) → is_local setup c u ≡ true
      → is_home (post_pending setup d u name (post setup u past)) ≡ is_home (post setup u past)
  pending_homes d (Pend s) may u local_is = grind (arith, same_tid_true)
  pending_homes d TakeAll may u local_is = grind (arith, false_from_ne_true)
  pending_homes d name may u local_is = absurd may

  foreign_at : (lock : LockId) (name : Name) → MayComeAt setup past e lock name
      → Agrees setup c p (λ u. visit setup u (record { cpu = e; lock = lock; edit = name } ∷ past))
      (λ u. post setup u (record { cpu = e; lock = lock; edit = name } ∷ past))
  foreign_at (AtBuffer d) name may = foreign_buffer d name (callers_are setup past e d name may)
  foreign_at (Pending d) name may =
      agrees_foreign setup c p (λ u. visit setup u past) (λ u. visit setup u past) (λ u. post setup u past)
      (λ u. post_pending setup d u name (post setup u past)) agrees
      (λ u local_is. refl) (λ u local_is. pending_homes d name may u local_is) (λ u. grind (arith, same_tid_true, drained_hand, may))

-- whatever section another CPU ends, this one stays in agreement
pub foreign_step : (setup : SystemConfig) (past : List (Section Name)) → Good setup past → (c : CpuId) (p : CpuLocal) (s : Section Name)
    → same_cpu s.cpu c ≡ false
    → MayCome setup past s → Agrees setup c p (λ u. visit setup u past) (λ u. post setup u past)
    → Agrees setup c p (λ u. visit setup u (s ∷ past)) (λ u. post setup u (s ∷ past))
foreign_step setup past good c p s off may agrees = foreign_at setup past good c s.cpu off p agrees s.lock s.edit may

-- The CPU's own section.

-- a section that a CPU ends may occur, and leaves the CPU in agreement
pub record GiveOk (setup : SystemConfig) (past : List (Section Name)) (c : CpuId) (p : CpuLocal) (lock : LockId) (name : Name) : Type 0 where
  pub may : MayComeAt setup past c lock name
  pub agrees : Agrees setup c (after_reply setup c p (option_map (answer name) (block_of setup lock past)))
      (λ u. visit setup u (record { cpu = c; lock = lock; edit = name } ∷ past)) (λ u. post setup u (record { cpu = c; lock = lock; edit = name } ∷ past))
  pub settled : IsSettled setup c (after_reply setup c p (option_map (answer name) (block_of setup lock past)))

module _ (setup : SystemConfig) (past : List (Section Name)) (good : Good setup past) (c : CpuId) (p : CpuLocal)
    (agrees : Agrees setup c p (λ u. visit setup u past) (λ u. post setup u past)) (settled_before : IsSettled setup c p) where
  give_pend : (s : Tid) → p.hand ≡ Some s → GiveOk setup past c p (Pending (home_cpu setup s)) (Pend s)
  give_pend s holds =
      let there = pending_there setup (home_cpu setup s) past in
      let held = is_hand_true c (post setup s past) (sym (agrees.hands s) ∙ ap (is_thread s) holds ∙ same_tid_self s) in
      let now = agrees_pended setup c p (λ u. visit setup u past) (λ u. post setup u past) agrees settled_before (home_cpu setup s) s holds in
      record { may = (held, refl); agrees = rw (there.1, holds) now.0; settled = rw (there.1, holds) now.1 }

  give_drain : p.hand ≡ None → p.current ≡ None → GiveOk setup past c p (Pending c) TakeAll
  give_drain empty idle =
      let there = pending_there setup c past in
      let now = agrees_drained setup c p _ _ agrees settled_before there.0 (λ u. good.pending c u there.0 there.1) good.known in
      record {
        may = refl;
        agrees = rw (there.1, empty, idle) (rw (empty, idle) at now);
        settled = rw (there.1, empty, idle) (rw (empty, idle) at settled_before);
      }

  give_yield : p.hand ≡ None → (t : Tid) → p.current ≡ Some t → (thread_at p t).call ≡ None → GiveOk setup past c p (Pending c) TakeAll
  give_yield empty t runs_now outside =
      let there = pending_there setup c past in
      let guest = after_yield (stands_at setup p t) (thread_at p t).guest in
      let drained_now = agrees_drained setup c p _ _ agrees settled_before there.0 (λ u. good.pending c u there.0 there.1) good.known in
      let now = agrees_yielded setup c (record p { ready = joins there.0 p.ready }) _ _ drained_now t runs_now guest in
      let known = runs_within setup c p _ _ agrees t runs_now in
      grind (arith, there.1, now, refuted, same_tid_true, at_same, at_other, known)

  give_call : p.hand ≡ None → (t : Tid) → p.current ≡ Some t → (call : Call) → (thread_at p t).call ≡ Some call
      → GiveOk setup past c p (AtBuffer call.buffer) (section_due t call call.stage)
  give_call empty t runs_now call is = by_block (block_of setup (AtBuffer call.buffer) past) refl
    where
      at : (is_local setup c t ≡ true) × (is_home (post setup t past) ≡ true) × ((thread_at p t).ended ≡ false) × (count_in t p.ready ≡ 0)
      at = runs_at_home setup c p (λ u. visit setup u past) (λ u. post setup u past) agrees t runs_now

      callers : IsCallers setup c call.buffer (section_due t call call.stage) t (post setup t past) (visit setup t past)
      callers = grind (arith, at, is_home_true, agrees, false_from_ne_true, refuted)

      may_come : MayComeBy setup past c call.buffer (section_due t call call.stage) (caller_in (section_due t call call.stage))
      may_come = subst (MayComeBy setup past c call.buffer (section_due t call call.stage)) (sym (section_caller t call call.stage)) callers

      by_block : (o : Option Block) → block_of setup (AtBuffer call.buffer) past ≡ o
          → GiveOk setup past c p (AtBuffer call.buffer) (section_due t call call.stage)
      by_block None block = record { may = may_come; agrees = rw block agrees; settled = rw block settled_before }
      by_block (Some (OfPending list)) block = absurd (no_pending_at_buffer setup call.buffer past list block)
      by_block (Some (OfBuffer k)) block =
          let asleep : (s : Tid) → (answer_of_buffer (section_due t call call.stage) k).woke ≡ Some s
          → (is_home (post setup s past) ≡ false) × (nat_lt s.0 (length setup.homes) ≡ true) =
          λ s woke.
          let pair = good.pairs call.buffer s k block in
          let sleeps = (woken_sleeps call.buffer s k _ _ _ pair (section_due t call call.stage) (ap (is_thread s) woke ∙ same_tid_self s)).1 in
          let off = sleeps_not_home call.buffer (post setup s past) sleeps in
          (off, good.known s off) in
          let calling : IsCalling setup c p (λ u. visit setup u past) (λ u. post setup u past) t call
          = assumption (agrees, settled_before, empty, runs_now, is) in
          let now = agrees_call setup c p (λ u. visit setup u past) (λ u. post setup u past) t call calling k asleep in
          let a = answer_of_buffer (section_due t call call.stage) k in
          let gives : after_reply setup c p (option_map (answer (section_due t call call.stage)) (Some (OfBuffer k))) ≡ after_call setup c p t call a =
          grind arith in
          record {
            may = may_come;
            agrees = grind arith;
            settled = rw block (subst (IsSettled setup c) (sym gives) now.1);
          }

  give_asked : (ask : Ask) → asked setup c p ≡ ask → GiveOk setup past c p ask.lock ask.name
      → GiveOk setup past c p (asked setup c p).lock (asked setup c p).name
  give_asked ask is ok = subst (λ x. GiveOk setup past c p x.lock x.name) (sym is) ok

  pub give_ok : GiveOk setup past c p (asked setup c p).lock (asked setup c p).name
  give_ok = by_hand p.hand refl
    where
      by_call : p.hand ≡ None → (t : Tid) → p.current ≡ Some t → (call : Option Call) → (thread_at p t).call ≡ call
          → GiveOk setup past c p (asked setup c p).lock (asked setup c p).name
      by_call empty t runs_now None is = grind (arith, give_asked, give_yield)
      by_call empty t runs_now (Some call) is =
          give_asked (at_buffer call.buffer (section_due t call call.stage)) (ap (asked_in setup c p) empty ∙ ap (asked_at c p) runs_now ∙ ap (asked_by c t) is)
          (give_call empty t runs_now call is)

      by_current : p.hand ≡ None → (current : Option Tid) → p.current ≡ current → GiveOk setup past c p (asked setup c p).lock (asked setup c p).name
      by_current empty None idle = give_asked (at_pending c TakeAll) (ap (asked_in setup c p) empty ∙ ap (asked_at c p) idle) (give_drain empty idle)
      by_current empty (Some t) runs_now = by_call empty t runs_now (thread_at p t).call refl

      by_hand : (hand : Option Tid) → p.hand ≡ hand → GiveOk setup past c p (asked setup c p).lock (asked setup c p).name
      by_hand None empty = by_current empty p.current refl
      by_hand (Some s) holds = give_asked (at_pending (home_cpu setup s) (Pend s)) (ap (asked_in setup c p) holds) (give_pend s holds)
