-- First come, first served: after each section the threads that entered a line are those that were
-- served, followed by those in the line.
use Rattle.std.proofs.Common.{◌≡◌, ℕ, ◌<◌, ◌≤◌, ◌%◌, ◌^◌, Bool, true, false, not, ◌&&◌, List, [], ◌∷◌, ◌++◌, length, Option, Some, None, option_map, nat_lt}
use Rattle.std.proofs.{Common.{if◌then◌else◌, refl, sym, ap, ◌∙◌, subst, arith, append_assoc}, lemmas.Bool.{and_left, and_from, lt-ltb, ltb-true}}
use Rattle.std.proofs.lemmas.List.{length-append}
use Rattle.event_log.specs.declared.ids.{Tid.Tid, BufId.BufId, CpuId.CpuId, LockId.{LockId, TheVariants.Buffer as AtBuffer}, TheConstants.THREADS}
use Rattle.event_log.specs.{History.same_lock, Sections.{Section, sections_in}, Actions.{Action, Take, Try, Give}, Messages.Message}
use Rattle.{event_log.proofs.Same.same_lock_true, thread_blocks.{specs.Queues.{rest, is_in}, proofs.Members.same_tid_true}}
use Rattle.layer_traits.specs.{declared.locked.Side.{Side, TheVariants.{Receivers, Senders}}, Blocks.BufferBlocks.{is_first, may_join}, Threads.Places.count_in}
use Rattle.{layer_traits.proofs.CountLemmas.not_counted, cpu.specs.Table.Blocks.{Buffer, Block, OfBuffer, Name, AcqQ, Enter, TryPut, TryTake, Shut, WaitOn}}
use Rattle.cpu.specs.Table.{Blocks.{SigRecv, SigSend, RelQ, Pend, TakeAll}, Setups.SystemConfig, Edits.{line_on, drawn_position, may_try, front_may_go, edited}}
use Rattle.cpu.specs.{Table.{Edits.{edited_buffer, acquired}, Steps.{SystemState, IsReached}}, Wakeups.{Order.block_of, Quiet.AreFew}}
use Rattle.cpu.{specs.Wakeups.Served.{SystemsServeInOrder, IsInTurn, entrant, served_now, followed_by, entrants, served_at}, proofs.Wakeups.Ordered.same_buffer}
use Rattle.cpu.proofs.Wakeups.{PostsAndVisits.{MayComeAt, visit, post, is_local, is_lined, caller_in}, ReachedStates.{IsFairLog, fair_good, reached_sound}}
use Rattle.cpu.proofs.Wakeups.{BuffersAndThreads.{Good, callers_are}, Agreement.known_of, ThreadAtBuffer.{Pair, line_count, marked_none}}

-- What one section makes of a line.

-- the first of a line, and those after it
first_in_line : (t : Tid) (line : List Tid) → is_first t line ≡ true → line ≡ t ∷ rest line
first_in_line t [] first = absurd cc
first_in_line t (u ∷ line) first = ap (λ x. x ∷ line) (sym (same_tid_true t u first))

joins : (t : Tid) (all before line : List Tid) → all ≡ before ++ line → all ++ t ∷ [] ≡ before ++ (line ++ t ∷ [])
joins t all before line is = ap (λ l. l ++ t ∷ []) is ∙ append_assoc before line (t ∷ [])

serves : (t : Tid) (all before line : List Tid) → all ≡ before ++ line → is_first t line ≡ true → all ≡ (before ++ t ∷ []) ++ rest line
serves t all before line is first = is ∙ ap (λ l. before ++ l) (first_in_line t line first) ∙ sym (append_assoc before (t ∷ []) (rest line))

abbrev Keeps : Side → Name → Buffer → List Tid → List Tid → Type 0
Keeps side name k all before =
    followed_by all (entrant side name) ≡ followed_by before (served_now side name (Some (OfBuffer k))) ++ line_on side (edited_buffer name k)

module _ (side : Side) (k : Buffer) (all before : List Tid) (is : all ≡ before ++ line_on side k) where
  acquired_line : (t : Tid) (o : Option Tid) → line_on side (acquired t o k) ≡ line_on side k
  acquired_line t o = grind arith

  keeps_put : (t : Tid) (m : Message) (may : Bool) → may_try Senders t k ≡ may → Keeps side (TryPut t m) k all before
  keeps_put t m may at = grind (arith, serves, and_left)

  keeps_take : (t : Tid) (may : Bool) → may_try Receivers t k ≡ may → Keeps side (TryTake t) k all before
  keeps_take t may at = grind (arith, serves, and_left)

  keeps_enter : (t : Tid) (at : Side) → may_join t (line_on at k) ≡ true → Keeps side (Enter t at) k all before
  keeps_enter t at may = grind (arith, joins)

  -- a thread enters a line only if it may join it
  abbrev MayEnter : Name → Type 0
  MayEnter name = (t : Tid) (at : Side) → name ≡ Enter t at → may_join t (line_on at k) ≡ true

  keeps_section : (name : Name) → MayEnter name → Keeps side name k all before
  keeps_section (AcqQ t) may = grind (arith, is, acquired_line)
  keeps_section (Enter t at) may = keeps_enter t at (may t at refl)
  keeps_section (TryPut t m) may = keeps_put t m (may_try Senders t k) refl
  keeps_section (TryTake t) may = keeps_take t (may_try Receivers t k) refl
  keeps_section name may = grind (arith, is)

  -- one more thread draws a position, or none
  abbrev Counts : List Tid → Buffer → Type 0
  Counts entrants x = drawn_position side x ≡ length entrants % 2 ^ 64

  counts_section : (name : Name) → MayEnter name → Counts all k → Counts (followed_by all (entrant side name)) (edited_buffer name k)
  counts_section (Enter t at) may counts = grind (arith, may, counts, length-append)
  counts_section name may counts = grind (arith, counts)

-- The sections of a log.

module _ (setup : SystemConfig) (few : AreFew setup) (side : Side) (b : BufId) where
  -- a thread that may enter is not in the line, and is one that a machine may have
  pub is_out : (past : List (Section Name)) (good : Good setup past) (c : CpuId) (k : Buffer) → block_of setup (AtBuffer b) past ≡ Some (OfBuffer k)
      → (t : Tid) (at : Side) → MayComeAt setup past c (AtBuffer b) (Enter t at) → count_in t (line_on at k) ≡ 0
  is_out past good c k is t at may =
      let caller = callers_are setup past c b (Enter t at) may t refl in
      let out : is_lined b at (visit setup t past) ≡ false = grind (arith, caller.due) in
      line_count b t k _ (visit setup t past) (post setup t past) (good.pairs b t k is) at ∙ marked_none t _ out

  pub may_enter : (past : List (Section Name)) (good : Good setup past) (c : CpuId) (k : Buffer) → block_of setup (AtBuffer b) past ≡ Some (OfBuffer k)
      → (t : Tid) (at : Side) → MayComeAt setup past c (AtBuffer b) (Enter t at) → may_join t (line_on at k) ≡ true
  may_enter past good c k is t at may =
      let known = known_of setup c t (callers_are setup past c b (Enter t at) may t refl).local_is in
      and_from (nat_lt t.0 THREADS) (not (is_in t (line_on at k))) (lt-ltb t.0 THREADS (omega (arith, known, few)))
      (ap not (not_counted t (line_on at k) (is_out past good c k is t at may)))

  abbrev AreServed : List (Section Name) → Buffer → Type 0
  AreServed sections k = IsInTurn setup side b sections k

  one_section : (past : List (Section Name)) (good : Good setup past) (s : Section Name) → MayComeAt setup past s.cpu s.lock s.edit
      → ((now : Buffer) → block_of setup (AtBuffer b) past ≡ Some (OfBuffer now) → AreServed past now)
      → (k : Buffer) → block_of setup (AtBuffer b) (s ∷ past) ≡ Some (OfBuffer k) → AreServed (s ∷ past) k
  one_section past good s may before k is = by_test (same_lock (AtBuffer b) s.lock) refl is
    where
      by_test : (here : Bool) → same_lock (AtBuffer b) s.lock ≡ here
          → (if here then option_map (edited s.edit) (block_of setup (AtBuffer b) past) else block_of setup (AtBuffer b) past) ≡ Some (OfBuffer k)
          → AreServed (s ∷ past) k
      by_test false other is = let was = before k is in record { order = rw other was.order; position = rw other was.position }
      by_test true here is = by_block (block_of setup (AtBuffer b) past) refl is
        where
          at : MayComeAt setup past s.cpu (AtBuffer b) s.edit
          at = subst (λ lock. MayComeAt setup past s.cpu lock s.edit) (sym (same_lock_true (AtBuffer b) s.lock here)) may

          by_block : (o : Option Block) → block_of setup (AtBuffer b) past ≡ o → option_map (edited s.edit) o ≡ Some (OfBuffer k) → AreServed (s ∷ past) k
          by_block (Some (OfBuffer now)) there edits =
              let may_join_it : (t : Tid) (into : Side) → s.edit ≡ Enter t into → may_join t (line_on into now) ≡ true
              = λ t into enters. may_enter past good s.cpu now there t into (subst (MayComeAt setup past s.cpu (AtBuffer b)) enters at) in
              let was = before now there in
              let one = same_buffer (edited_buffer s.edit now) k edits in
              let ordered = subst (λ x. followed_by (entrants side b past) (entrant side s.edit)
              ≡ followed_by (served_at setup side b past) (served_now side s.edit (Some (OfBuffer now))) ++ line_on side x) one
              (keeps_section side now (entrants side b past) (served_at setup side b past) was.order s.edit may_join_it) in
              let counted_so = subst (λ x. drawn_position side x ≡ length (followed_by (entrants side b past) (entrant side s.edit)) % 2 ^ 64) one
              (counts_section side now (entrants side b past) (served_at setup side b past) was.order s.edit may_join_it was.position) in
              record { order = rw (here, there) ordered; position = rw here counted_so }
          by_block o there edits = absurd (grind arith)

  served_all : (log : List (Action Name)) → IsFairLog setup log → (k : Buffer) → block_of setup (AtBuffer b) (sections_in log) ≡ Some (OfBuffer k)
      → AreServed (sections_in log) k
  served_all [] fair k is = grind (arith, same_buffer)
  served_all (Take cpu lock ∷ past) fair k is = served_all past fair.1 k is
  served_all (Try cpu lock hit ∷ past) fair k is = served_all past fair.1 k is
  served_all (Give cpu lock name ∷ past) fair k is =
      one_section (sections_in past) (fair_good setup past fair.1) (record { cpu = cpu; lock = lock; edit = name }) fair.0 (served_all past fair.1) k is

pub systems_serve_in_order : SystemsServeInOrder
systems_serve_in_order setup room s few reached side b k is = served_all setup few side b s.log (reached_sound setup room s reached).fair k is
