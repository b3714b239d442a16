-- What the steps of a key request of the table.
use Rattle.std.proofs.Common.{◌≡◌, ℕ, ◌+◌, ◌<◌, ◌≤◌, ◌%◌, ◌^◌, List, [], ◌∷◌, ◌++◌, Option, Some, IsSome, option_map, refl, ap, sym, ◌∙◌, arith, length}
use Rattle.{atomic_table.specs.{Seated.TableId, Table.{Me, step, Allows, rest}}, event_log.specs.declared.ids.{CpuId.CpuId, LockId.LockId, TheConstants.CPUS}}
use Rattle.event_log.specs.{declared.events.Event.Event, History.{Adds, Grows, IsLawful}, WordsLog.{cpu_of_event, lock_phase, LockPhase, Idle, Waiting}}
use Rattle.{event_log.specs.{WordsLog.Holding, Sections.block_after}, layer_traits.specs.{declared.edits.Mark.Mark, Protocols.Protocol.{Rules, StaysAllowed}}}
use Rattle.{layer_traits.specs.Protocols.{Protocol.section, WordsProtocol.{MayCome, sections}, OneLock.opened}, table_machine.specs.declared.views.Home.Home}
use Rattle.table_machine.specs.{declared.views.View.View, Kinds.{WordKind, IsWordKind, given_on}, Layout.{rank_of, word_at, word_count}, Views.mine}
use Rattle.table_machine.specs.{Views.IsThisCpu, Rule.TableInv, Plays.{Drew, LookedAtWord, Freed}, SeatViews.{TableView, SeatView, IsOf, Carries, IsKey}}
use Rattle.table_machine.{specs.SeatViews.Remembers, proofs.{Showing.within_table, Stepping.{draws_allowed, looks_allowed, frees_allowed}}}
use mathlib.Core.Option.{none}

abbrev pub seat_view_of : {E B : Type 0} → CpuId → TableId → Me (Home E B) (View E B) → SeatView E B
seat_view_of cpu table me = record { cpu = cpu; table = table; start = me.0.start; history = me.0.history }

abbrev pub table_view_of : {B : Type 0} → TableId → List (LockId × B) → ℕ → TableView B
table_view_of table start cpus = record { table = table; start = start; cpus = cpus }

-- the table of a seat view, seen from inside
pub one_table : {E B : Type 0} (table z : TableId) (start : List (LockId × B)) (n : ℕ) (cpu : CpuId) (me : Me (Home E B) (View E B)) (d : SeatView E B)
    (b : TableView B) → seat_view_of cpu table me ≡ d → table_view_of z start n ≡ b → IsOf b d → (table ≡ z) × (me.0.start ≡ start)
one_table table z start n cpu me d b d_is b_is of = rw (← d_is, ← b_is) at of

module _ {E B O : Type 0} (R : Rules E B O) where
  -- a token that sees the log for exactly one CPU is that of its key
  pub key_at : (cpu : CpuId) (ticket : ℕ) (start : List (LockId × B)) (w : Me (Home E B) (View E B)) (phase : LockPhase) → w.0 ≡ mine start cpu w.0.history
      → lock_phase cpu w.0.history ≡ phase → Carries start phase w.1 → Remembers ticket phase → IsLawful (MayCome (R.allowed (opened start))) w.0.history
      → IsKey R cpu ticket w
  key_at cpu ticket start w phase view stands carries remembers legal =
      let started : w.0.start ≡ start = ap (λ (u : View E B). u.start) view in
      record {
        view = view ∙ ap (λ (s : List (LockId × B)). mine s cpu w.0.history) (sym started);
        held = rw (started, stands) carries;
        remembers = rw stands remembers;
        legal = rw started legal;
      }

  -- a key and a word of a lock in a table: which table the key is of and which one serves the
  -- request, the blocks that the latter opened with, the token of the key
  module _ (K : WordKind) (law : IsWordKind K) (table z : TableId) (start : List (LockId × B)) (n id word : ℕ) (words_are : z.words ≡ word_count (length start))
      (cpu : CpuId) (kept : ℕ) (me : Me (Home E B) (View E B)) (key : IsKey R cpu kept me) (d : SeatView E B) (b : TableView B)
      (d_is : seat_view_of cpu table me ≡ d) (b_is : table_view_of z start n ≡ b) (of : IsOf b d) (lock : LockId) (exists : IsSome (opened d.start lock)) where
    here : (table ≡ z) × (me.0.start ≡ start)
    here = one_table table z start n cpu me d b d_is b_is of

    there : IsSome (opened start lock)
    there = rw (← d_is, here.1) at exists

    -- the token, at the opening blocks of its table
    me_is : me ≡ (mine start cpu me.0.history, me.1)
    me_is = ap (λ (v : View E B). (v, me.1)) (key.view ∙ ap (λ (s : List (LockId × B)). mine s cpu me.0.history) here.1)

    -- the word is within the table
    lies : (number : ℕ) → number ≤ CPUS → word ≡ word_at (rank_of b.start lock) number → (word ≡ word_at (rank_of start lock) number) × (word < z.words)
    lies number within is =
        let lands : word ≡ word_at (rank_of start lock) number = rw (← b_is) at is in
        (lands, rw (lands, words_are) (within_table K law R.edited start lock number there within))

    pub draw_asks : lock_phase d.cpu d.history ≡ Idle → word ≡ word_at (rank_of b.start lock) 0
        → (table ≡ z) × (word < z.words) × Allows (TableInv K R n start) z.slots id me word (λ m. (m + 1) % 2 ^ 64) (Drew R (step z.slots word 1 0 none) me)
    draw_asks outside is =
        let lands = lies 0 (omega arith) is in
        (here.0, lands.1, rw (me_is, lands.0) (draws_allowed K R n start law z.slots id cpu me.0.history me.1 lock there (rw (← d_is) at outside)))

    pub look_asks : (ticket : ℕ) → lock_phase d.cpu d.history ≡ Waiting lock ticket → word ≡ word_at (rank_of b.start lock) (K.looks_at ticket)
        → (table ≡ z) × (word < z.words) × Allows (TableInv K R n start) z.slots id me word (λ m. m) (LookedAtWord K R me)
    look_asks ticket waits is =
        let lands = lies (K.looks_at ticket) (law.looks_within ticket) is in
        let waiting : lock_phase cpu me.0.history ≡ Waiting lock ticket = rw (← d_is) at waits in
        let nothing : me.1 ≡ [] = rw waiting at key.held in
        (here.0, lands.1, rw (me_is, nothing, lands.0) (looks_allowed K R n start law z.slots id cpu me.0.history lock ticket there waiting))

    -- the request of a write that releases the lock: a store of a number, or an addition of 1
    pub free_asks : (ticket : ℕ) (block : B) (edit : E) → lock_phase d.cpu d.history ≡ Holding lock ticket
        → option_map (R.edited edit) (block_after R.edited (opened d.start) lock (sections d.history)) ≡ Some block
        → StaysAllowed (R.allowed (opened d.start)) (sections d.history) (section d.cpu lock edit) → (now : TableId) (v : Me (Home E B) (View E B))
        (stored : Option ℕ) → word ≡ word_at (rank_of b.start lock) (K.gives_at kept) → K.stores kept ≡ stored → now ≡ table
        → v ≡ (me.0, (rank_of b.start lock, record { block = Some block; edit = Some edit }) ∷ rest me.1)
        → (now ≡ z) × (word < z.words) × Allows (TableInv K R n start) z.slots id v word (given_on stored) (λ _. Freed R v)
    free_asks ticket block edit inside edited stays now v stored is stores now_is v_is =
        let x : Home E B = record { block = Some block; edit = Some edit } in
        let lands = lies (K.gives_at kept) (law.gives_within kept) is in
        let holding : lock_phase cpu me.0.history ≡ Holding lock ticket = rw (← d_is) at inside in
        let carries : (home : Home E B) × (me.1 ≡ (rank_of me.0.start lock, home) ∷ []) = rw holding at key.held in
        let ticket_is : kept ≡ ticket = rw holding at key.remembers in
        let v_at : v ≡ (mine start cpu me.0.history, (rank_of start lock, x) ∷ []) = rw (me_is, ap rest carries.1, ← b_is) at v_is in (
          now_is ∙ here.0,
          lands.1,
          rw (v_at, lands.0)
              (frees_allowed K R n start law z.slots id cpu me.0.history lock kept edit block x there (holding ∙ ap (Holding lock) (sym ticket_is))
              refl refl (rw (← d_is, here.1) at edited) (rw (← d_is, here.1) at stays) (given_on stored) (λ m. ap (λ o. given_on o m) (sym stores))),
        )

-- an event of the own CPU, for a holder that acts only for that CPU
pub seat_adds : {E B : Type 0} (k d : SeatView E B) (cpu : CpuId) (e : CpuId → Event (Mark E)) (P : Type 0) (new : List (Event (Mark E))) → k ≡ d → cpu ≡ d.cpu
    → Adds (IsThisCpu k.cpu) cpu_of_event (e k.cpu) k.history new → Adds (λ c. (c ≡ d.cpu) × P) cpu_of_event (e cpu) d.history new
seat_adds k d cpu e P new k_is same adds =
    let its = rw k_is at adds in record { others = its.others; foreign = λ c acts. its.foreign c acts.0; is = rw same its.is }

pub seat_grows : {E B : Type 0} (k d : SeatView E B) (new : List (Event (Mark E))) → k ≡ d → Grows (IsThisCpu k.cpu) cpu_of_event k.history new
    → Grows (IsThisCpu d.cpu) cpu_of_event d.history new
seat_grows k d new k_is grows = rw k_is at grows
