-- What the steps of a key return.
use Rattle.std.proofs.Common.{get_or, ◌≡◌, ℕ, inl, inr, true, false, List, [], ◌∷◌, ◌++◌, Some, IsSome, refl, ap, sym, ◌∙◌}
use Rattle.{atomic_table.specs.{Seated.TableId, Table.{Me, step, rest}}, event_log.specs.declared.{ids.{CpuId.CpuId, LockId.LockId}, events.Event.Event}}
use Rattle.event_log.specs.{declared.events.Event.TheVariants.{Draw, Look, Free}, History.Adds, WordsLog.{cpu_of_event, left_by, lock_phase, LockPhase, Idle}}
use Rattle.{event_log.specs.{WordsLog.{Waiting, Holding}, Sections.block_after}, layer_traits.specs.{declared.edits.Mark.Mark, Protocols.Protocol.Rules}}
use Rattle.layer_traits.{specs.Protocols.{WordsProtocol.{sections, mark_of}, OneLock.opened}, proofs.OneLockLemmas.lock_phase_own}
use Rattle.table_machine.specs.{declared.views.{Home.Home, View.View}, Kinds.WordKind, Layout.{rank_of, word_at}, Views.{mine, owner, IsThisCpu}, Plays.Moves}
use Rattle.table_machine.specs.{Plays.{Hits, MissesTicket, Drew, LookedAtWord, Freed}, SeatViews.{TableView, SeatView, IsOf, Carries, IsKey, Remembers}}
use Rattle.table_machine.proofs.{Asking.{key_at, seat_view_of}, Finding.rank_same, Showing.next_reads}
use mathlib.Core.Option.{none}

module _ {E B O : Type 0} (R : Rules E B O) where
  -- a step of a key: its token continues from its own event
  pub record Went (d : SeatView E B) (cpu : CpuId) (ticket : ℕ) (e : Event (Mark E)) (w : Me (Home E B) (View E B)) : Type 0 where
    pub start : d.start ≡ w.0.start
    pub adds : Adds (IsThisCpu d.cpu) cpu_of_event e d.history w.0.history
    pub key : IsKey R cpu ticket w

  went : (cpu : CpuId) (kept ticket : ℕ) (table : TableId) (v w : Me (Home E B) (View E B)) (d : SeatView E B) (e : CpuId → Event (Mark E)) (phase : LockPhase)
      → seat_view_of cpu table v ≡ d → IsKey R cpu kept v → Moves R v.0 w.0 (e (owner v.0.cpus)) → lock_phase cpu w.0.history ≡ phase
      → Carries v.0.start phase w.1 → Remembers ticket phase → Went d cpu ticket (e d.cpu) w
  went cpu kept ticket table v w d e phase d_is key moves stands carries remembers =
      let local : owner v.0.cpus ≡ cpu = ap (λ (u : View E B). owner u.cpus) key.view in
      let view : w.0 ≡ mine v.0.start cpu w.0.history = rw local at moves.view in
      record {
        start = rw (← d_is) (sym (ap (λ (u : View E B). u.start) view));
        adds = rw (← d_is, ← local) moves.adds;
        key = key_at R cpu ticket v.0.start w phase view stands carries remembers moves.legal;
      }

  -- the phase of a CPU after its own event
  stands_after : (cpu : CpuId) (e : Event (Mark E)) (v w : View E B) → cpu_of_event e ≡ cpu → Moves R v w e → lock_phase cpu w.history ≡ left_by e
  stands_after cpu e v w its moves = rw (← its) (ap (lock_phase (cpu_of_event e)) moves.adds.is ∙ lock_phase_own e (moves.adds.others ++ v.history))

  pub draw_reads : (cpu : CpuId) (kept : ℕ) (table : TableId) (v w : Me (Home E B) (View E B)) (slots word found : ℕ) (lock : LockId) (d : SeatView E B)
      (b : TableView B) → seat_view_of cpu table v ≡ d → IsKey R cpu kept v → IsOf b d → IsSome (opened d.start lock) → lock_phase d.cpu d.history ≡ Idle
      → word ≡ word_at (rank_of b.start lock) 0 → Drew R (step slots word 1 0 none) v found w
      → (d.start ≡ w.0.start) × Adds (IsThisCpu d.cpu) cpu_of_event (Draw d.cpu lock found) d.history w.0.history × IsKey R cpu found w
  draw_reads cpu kept table v w slots word found lock d b d_is key of exists outside word_is told =
      let local : owner v.0.cpus ≡ cpu = ap (λ (u : View E B). owner u.cpus) key.view in
      let started : v.0.start ≡ b.start = rw (← d_is) at of.1 in
      let out : lock_phase cpu v.0.history ≡ Idle = rw (← d_is) at outside in
      let nothing : v.1 ≡ [] = rw out at key.held in
      let next_same : word_at (rank_of v.0.start told.lock) 0 ≡ word_at (rank_of v.0.start lock) 0 = rw (← started) at (sym told.word ∙ word_is) in
      let lock_is : told.lock ≡ lock = rank_same v.0.start told.lock lock told.exists
      (next_reads (rank_of v.0.start told.lock) (rank_of v.0.start lock) next_same) in
      let moves = rw lock_is at told.moves in
      let done = went cpu kept found table v w d (λ c. Draw c lock found) (Waiting lock found) d_is key moves
      (stands_after cpu (Draw (owner v.0.cpus) lock found) v.0 w.0 local moves) (told.held ∙ nothing) refl in
      (done.start, done.adds, done.key)

  -- what a failed poll leaves
  pub record LookMissed (d : SeatView E B) (cpu : CpuId) (kept : ℕ) (lock : LockId) (ticket : ℕ) (w : Me (Home E B) (View E B)) : Type 0 where
    pub start : d.start ≡ w.0.start
    pub read : ℕ
    pub adds : Adds (IsThisCpu d.cpu) cpu_of_event (Look d.cpu lock ticket read) d.history w.0.history
    pub waits : lock_phase d.cpu w.0.history ≡ Waiting lock ticket
    pub key : IsKey R cpu kept w

  -- what a successful poll leaves
  pub record LookHit (d : SeatView E B) (cpu : CpuId) (kept : ℕ) (lock : LockId) (ticket rank : ℕ) (w : Me (Home E B) (View E B)) : Type 0 where
    pub start : d.start ≡ w.0.start
    pub read : ℕ
    pub adds : Adds (IsThisCpu d.cpu) cpu_of_event (Look d.cpu lock ticket read) d.history w.0.history
    pub inside : lock_phase d.cpu w.0.history ≡ Holding lock ticket
    pub home : Home E B
    pub block : B
    pub held : w.1 ≡ (rank, home) ∷ []
    pub is : home.block ≡ Some block
    pub folds : block_after R.edited (opened d.start) lock (sections w.0.history) ≡ Some block
    pub key : (x : Home E B) → IsKey R cpu kept (w.0, (rank, x) ∷ [])

  module _ (K : WordKind) (cpu : CpuId) (kept : ℕ) (table : TableId) (v w : Me (Home E B) (View E B)) (found : ℕ) (lock : LockId) (ticket : ℕ)
      (key : IsKey R cpu kept v) where
    local : owner v.0.cpus ≡ cpu
    local = ap (λ (u : View E B). owner u.cpus) key.view

    -- the poll is at the lock, and with the ticket, with which the CPU waits
    looked : (d : SeatView E B) → seat_view_of cpu table v ≡ d → lock_phase d.cpu d.history ≡ Waiting lock ticket → (told : LookedAtWord K R v found w)
        → (told.lock ≡ lock) × (told.ticket ≡ ticket) × (v.1 ≡ []) × (kept ≡ ticket)
    looked d d_is waits told =
        let waiting : lock_phase cpu v.0.history ≡ Waiting lock ticket = rw (← d_is) at waits in
        let both : Waiting told.lock told.ticket ≡ Waiting lock ticket = sym (rw local at told.waits) ∙ waiting in
        let lock_is : told.lock ≡ lock = cc in
        let ticket_is : told.ticket ≡ ticket = cc in
        (lock_is, ticket_is, (rw waiting at key.held), (rw waiting at key.remembers))

    pub look_missed : (d : SeatView E B) → seat_view_of cpu table v ≡ d → lock_phase d.cpu d.history ≡ Waiting lock ticket → K.serves ticket found ≡ false
        → LookedAtWord K R v found w → LookMissed d cpu kept lock ticket w
    look_missed d d_is waits other told =
        let its = looked d d_is waits told in
        let miss : MissesTicket K lock ticket v found w = elim (rw (its.0, its.1) at told.finds) [
          | inl miss ↦ miss
          | inr hit ↦ absurd (let same = hit.same in cc (other, same))
        ] in
        let done = went cpu kept kept table v w d (λ c. Look c lock ticket told.read) (Waiting lock ticket) d_is key (rw (its.0, its.1) at told.moves)
        (rw local at miss.waits) (miss.held ∙ its.2) its.3 in
        record { start = done.start; read = told.read; adds = done.adds; waits = rw (← d_is) (rw local at miss.waits); key = done.key }

    pub look_hit : (d : SeatView E B) (b : TableView B) (rank : ℕ) → seat_view_of cpu table v ≡ d → IsOf b d → lock_phase d.cpu d.history ≡ Waiting lock ticket
        → K.serves ticket found ≡ true → rank ≡ rank_of b.start lock → LookedAtWord K R v found w → LookHit d cpu kept lock ticket rank w
    look_hit d b rank d_is of waits same rank_is told =
        let its = looked d d_is waits told in
        let hit : Hits K R lock ticket v found w = elim (rw (its.0, its.1) at told.finds) [
          | inl miss ↦ absurd (let other = miss.other in cc (other, same))
          | inr hit ↦ hit
        ] in
        let started : v.0.start ≡ b.start = rw (← d_is) at of.1 in
        let rank_there : rank ≡ rank_of v.0.start lock = rw started rank_is in
        let done = λ (x : Home E B). went cpu kept kept table v (w.0, (rank, x) ∷ []) d (λ c. Look c lock ticket told.read) (Holding lock ticket) d_is key
        (rw (its.0, its.1) at told.moves) (rw local at hit.inside) (x, ap (λ (p : ℕ). (p, x) ∷ []) rank_there) its.3 in
        record {
          start = (done hit.home).start;
          read = told.read;
          adds = (done hit.home).adds;
          inside = rw (← d_is) (rw local at hit.inside);
          home = hit.home;
          block = hit.block;
          held = hit.held ∙ (ap (λ (l : List (ℕ × Home E B)). (rank_of v.0.start lock, hit.home) ∷ l) its.2
              ∙ ap (λ (p : ℕ). (p, hit.home) ∷ []) (sym rank_there));
          is = hit.is;
          folds = ap (λ (d : SeatView E B). block_after R.edited (opened d.start) lock (sections w.0.history)) (sym d_is) ∙ hit.folds;
          key = λ x. (done x).key;
        }

    -- the slot that a CPU inside a lock carries
    pub carried : (d : SeatView E B) (b : TableView B) (rank : ℕ) → seat_view_of cpu table v ≡ d → IsOf b d → lock_phase d.cpu d.history ≡ Holding lock ticket
        → rank ≡ rank_of b.start lock → (old : Home E B) × (v.1 ≡ (rank, old) ∷ rest v.1)
    carried d b rank d_is of inside rank_is =
        let holding : lock_phase cpu v.0.history ≡ Holding lock ticket = rw (← d_is) at inside in
        let carries : (home : Home E B) × (v.1 ≡ (rank_of v.0.start lock, home) ∷ []) = rw holding at key.held in
        let started : v.0.start ≡ b.start = rw (← d_is) at of.1 in
        let rank_there : rank ≡ rank_of v.0.start lock = rw started rank_is in (
          carries.0,
          carries.1 ∙ (ap (λ (p : ℕ). (p, carries.0) ∷ []) (sym rank_there)
              ∙ ap (λ (l : List (ℕ × Home E B)). (rank, carries.0) ∷ l) (sym (ap rest carries.1))),
        )

  -- the event is the free of the lock that the CPU was inside, if the slot that the seat carries
  -- was exchanged for one with this block and this edit
  module _ (cpu : CpuId) (kept : ℕ) (table : TableId) (me : Me (Home E B) (View E B)) (lock : LockId) (ticket : ℕ) (block : B) (edit : E) (d : SeatView E B)
      (d_is : seat_view_of cpu table me ≡ d) (key : IsKey R cpu kept me) (inside : lock_phase d.cpu d.history ≡ Holding lock ticket) where
    free_reads : (w : Me (Home E B) (View E B)) (rank : ℕ) (x : Home E B) → x ≡ record { block = Some block; edit = Some edit }
        → Freed R (me.0, (rank, x) ∷ rest me.1) w → Went d cpu kept (Free d.cpu lock (mark_of edit)) w
    free_reads w rank x x_is told =
        let mine_is : owner me.0.cpus ≡ cpu = ap (λ (u : View E B). owner u.cpus) key.view in
        let holding : lock_phase cpu me.0.history ≡ Holding lock ticket = rw (← d_is) at inside in
        let both : Holding told.lock told.ticket ≡ Holding lock ticket = sym (rw mine_is at told.inside) ∙ holding in
        let lock_is : told.lock ≡ lock = cc in
        let home_is : told.home ≡ x = ap (λ (l : List (ℕ × Home E B)). (get_or l 0 (rank, x)).1) (sym told.carried) in
        let edits : Some told.edit ≡ Some edit = sym told.is ∙ ap (λ (h : Home E B). h.edit) (home_is ∙ x_is) in
        let edit_is : told.edit ≡ edit = cc edits in
        let moves = rw (lock_is, edit_is) at told.moves in
        went cpu kept kept table me w d (λ c. Free c lock (mark_of edit)) Idle d_is key moves
        (stands_after cpu (Free (owner me.0.cpus) lock (mark_of edit)) me.0 w.0 mine_is moves) told.held tt

    pub free_adds : {w : Me (Home E B) (View E B)} {rank : ℕ} {x : Home E B} → x ≡ record { block = Some block; edit = Some edit }
        → Freed R (me.0, (rank, x) ∷ rest me.1) w → Adds (IsThisCpu d.cpu) cpu_of_event (Free d.cpu lock (mark_of edit)) d.history w.0.history
    free_adds {w} {rank} {x} x_is told = (free_reads w rank x x_is told).adds

    pub free_key : {w : Me (Home E B) (View E B)} {rank : ℕ} {x : Home E B} → x ≡ record { block = Some block; edit = Some edit }
        → Freed R (me.0, (rank, x) ∷ rest me.1) w → IsKey R cpu kept w
    free_key {w} {rank} {x} x_is told = (free_reads w rank x x_is told).key
