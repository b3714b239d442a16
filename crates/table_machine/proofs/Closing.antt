-- What is known once all keys are back.
use Rattle.std.proofs.Common.{◌≡◌, ℕ, ◌<◌, ◌≤◌, inl, inr, ⊎_elim, List, [], ◌∷◌, ◌++◌, length, map, slice_get, Some, IsSome, is_some, if◌then◌else◌, refl, ap}
use Rattle.std.proofs.Common.{sym, ◌∙◌, subst, append-nil, lt_of_not-le}
use Rattle.{atomic_table.{specs.{Seated.TableId, Table.{Me, step, Final, Seen}}, proofs.Lists.at_map}, event_log.specs.declared.ids.CpuId.CpuId}
use Rattle.event_log.specs.{declared.{ids.LockId.LockId, events.Event.Event}, History.{IsLawful, own_events}, WordsLog.{cpu_of_event, lock_phase, Idle}}
use Rattle.event_log.{specs.Sections.block_after, proofs.{Foreign.{lock_phase_others, own_none}, ListLemmas.there_is}}
use Rattle.layer_traits.specs.{declared.edits.Mark.Mark, Protocols.{Protocol.Rules, WordsProtocol.{MayCome, sections}, OneLock.{opened, AreDistinct}}}
use Rattle.{layer_traits.proofs.OneLockLemmas.all_home, table_machine.specs.{declared.views.{Home.Home, View.View}, Kinds.WordKind, Views.{caught_up, Has}}}
use Rattle.table_machine.specs.{Views.IsSince, Rule.{home_block, TableInv}, Plays.Met, SeatViews.{TableView, SeatView, IsKey, Gathered, Covers, IsIn}}
use Rattle.table_machine.{specs.SeatViews.ClosesTable, proofs.{Elements.{element_got, there_for}, Logs.{lock_phase_since, own_since, since_trans}}}
use Rattle.table_machine.proofs.{Finding.rank_at, Seeing.{all_end, joined}, Showing.home_of, Asking.{seat_view_of, table_view_of}}
use mathlib.Core.Option.{none, some}
use native.Mathlib.Decide.{dec_le}
use lib.ListN.{get_elem?, length-map}

-- the contents of the table after it is closed
pub record Settled {E B O : Type 0} (R : Rules E B O) (table_view : TableView B) (seat_views : List (SeatView E B)) (homes : List (Home E B)) : Type 0 where
  pub log : List (Event (Mark E))
  pub legal : IsLawful (MayCome (R.allowed (opened table_view.start))) log
  pub keys : (i : ℕ) (seat_view : SeatView E B) → slice_get seat_views i ≡ Some seat_view → IsIn log seat_view
  pub rest : (c : CpuId) → table_view.cpus ≤ c.0 → own_events cpu_of_event c log ≡ []
  pub blocks : (i : ℕ) (o : LockId × B) → slice_get table_view.start i ≡ Some o
      → (y : Home E B) × (b : B) × (get_elem? homes i ≡ some y) × (y.block ≡ Some b)
      × (block_after R.edited (opened table_view.start) o.0 (sections log) ≡ Some b)

module _ {E B O : Type 0} (R : Rules E B O) where
  -- if all keys are merged, no CPU is inside a lock, and each block is in its slot
  pub settles : (K : WordKind) (z : TableId) (start : List (LockId × B)) (n : ℕ) (table_view : TableView B) (v : View E B) (seat_views : List (SeatView E B))
      (id : ℕ) (words : List ℕ) (homes : List (Home E B)) → table_view_of z start n ≡ table_view → AreDistinct start → Gathered table_view.start v seat_views
      → Covers table_view.cpus seat_views → Final (Seen (TableInv K R n start) id v) words homes → Settled R table_view seat_views homes
  settles K z start n table_view v seat_views id words homes table_view_is distinct_there g covers final_there =
      let start_is : start ≡ table_view.start = ap (λ (b : TableView B). b.start) table_view_is in
      let distinct = rw start_is at distinct_there in
      let final = rw (start_is, ap (λ (b : TableView B). b.cpus) table_view_is) at final_there in
      let s = final.0 in
      let kept = final.1.0 in
      let coupled = kept.sees.coupled id v final.1.1 in
      let log = kept.log in
      let owned : (c : CpuId) → c.0 < table_view.cpus → Has c v.cpus = λ c below.
      let there = covers c below in rw there.3 at (g.keys there.0 there.1 there.2).0 in
      let outside : (c : CpuId) → lock_phase c log ≡ Idle = λ c. elim (dec_le table_view.cpus c.0) [
        | yes large ↦ rw append-nil at (lock_phase_others c log [] (kept.rest c large))
        | no small ↦ (let has = owned c (lt_of_not-le small) in lock_phase_since c log v.history (coupled.cpus c has) ∙ g.quiet c has)
      ] in
      record {
        log = log;
        legal = kept.legal;
        keys = λ i d at. (
            let known = g.keys i d at in
            let since = since_trans d.cpu log v.history d.history (coupled.cpus d.cpu known.0) known.1 in
            record { ends = record { more = since.more; is = since.is }; whole = own_since d.cpu log d.history since });
        rest = λ c large. own_none cpu_of_event c log (kept.rest c large);
        blocks = λ i o at. (
            let rank = rank_at table_view.start i o distinct (there_for table_view.start i o at) in
            let stands = kept.shows.each o.0 rank.1 in
            let found = home_of stands.home (all_home R.edited (opened table_view.start) o.0 log
            (λ c t inside. absurd (let out = outside c in cc (out, inside))) (home_block stands.home) stands.is) in
            let home_at = rw rank.0 at (stands.at ∙ ap some found.2) in
            (found.0, found.1, final.4 i found.0 home_at, found.3, (rw (ap home_block found.2 ∙ found.3) at stands.is).1));
      }

  -- a key is taken in: one seat view more
  pub absorb_reads : (start : List (LockId × B)) (cpu : CpuId) (ticket : ℕ) (table : TableId) (v o : Me (Home E B) (View E B)) (d : SeatView E B)
      → seat_view_of cpu table o ≡ d → IsKey R cpu ticket o → lock_phase d.cpu d.history ≡ Idle
      → {u w : Me (Home E B) (View E B)} {slots found : ℕ} → u ≡ (joined v.0 o.0, v.1) → Met R (step slots 0 0 0 none) u found w
      → {seat_views : List (SeatView E B)} → Gathered start v.0 seat_views → Gathered start w.0 (seat_views ++ d ∷ [])
  absorb_reads start cpu ticket table v o d d_is key over {u} {w} {slots} {found} u_is met_there {seat_views} g =
      let met = subst (λ (m : Me (Home E B) (View E B)). Met R (step slots 0 0 0 none) m found w)
      (u_is ∙ (ap (λ (l : List CpuId). (record { start = v.0.start; cpus = v.0.cpus; history = v.0.history; told = o.0.history; lent = l }, v.1))
      (ap (λ (x : View E B). x.cpus) key.view)
      ∙ ap (λ (e : SeatView E B). (record { start = v.0.start; cpus = v.0.cpus; history = v.0.history; told = e.history; lent = e.cpu ∷ [] }, v.1)) d_is))
      met_there in
      let cpus_are : w.0.cpus ≡ d.cpu ∷ v.0.cpus = ap (λ (u : View E B). u.cpus) met.view in
      record {
        view = met.view ∙ (ap (λ (l : List CpuId). caught_up v.0.start l w.0.history) (sym cpus_are)
            ∙ ap (λ (s : List (LockId × B)). caught_up s w.0.cpus w.0.history) (ap (λ (u : View E B). u.start) g.view));
        keys = λ i e there. all_end (λ i (e : SeatView E B). Has e.cpu w.0.cpus × IsSince w.0.history e.history e.cpu) seat_views d
            (rw cpus_are (inl refl), met.coupled.lent d.cpu (inl refl))
            (λ i e old. let known = g.keys i e (element_got seat_views i e old) in
            (rw cpus_are (inr known.0), since_trans e.cpu w.0.history v.0.history e.history (met.coupled.cpus e.cpu known.0) known.1))
            i e (there_for (seat_views ++ d ∷ []) i e there);
        quiet = λ c has. ⊎_elim
            (λ (same : c ≡ d.cpu). rw same (lock_phase_since d.cpu w.0.history d.history (met.coupled.lent d.cpu (inl refl)) ∙ over))
            (λ old. lock_phase_since c w.0.history v.0.history (met.coupled.cpus c old) ∙ g.quiet c old)
            (rw cpus_are at has);
      }

  -- a key whose CPU is outside carries no slot
  pub absorb_carries : (cpu : CpuId) (ticket : ℕ) (table : TableId) (o : Me (Home E B) (View E B)) (d : SeatView E B) → seat_view_of cpu table o ≡ d
      → IsKey R cpu ticket o → lock_phase d.cpu d.history ≡ Idle → o.1 ≡ []
  absorb_carries cpu ticket table o d d_is key over = rw (ap (λ (d : SeatView E B). lock_phase d.cpu d.history) d_is ∙ over) at key.held

  -- what `close` gives
  pub close_gives : (table_view : TableView B) (seat_views : List (SeatView E B)) (homes : List (Home E B)) (locks : List LockId) (blocks : List (LockId × B))
      → Settled R table_view seat_views homes → locks ≡ map (λ (o : LockId × B). o.0) table_view.start → length blocks ≡ length locks
      → ((i : ℕ) (lock : LockId) (y : Home E B) (b : B) → get_elem? locks i ≡ some lock → get_elem? homes i ≡ some y → y.block ≡ Some b
      → get_elem? blocks i ≡ some (lock, b))
      → ClosesTable R table_view seat_views blocks
  close_gives table_view seat_views homes locks blocks settled locks_are count given = record {
    log = settled.log;
    legal = settled.legal;
    keys = settled.keys;
    rest = settled.rest;
    count = count ∙ (ap length locks_are ∙ length-map table_view.start (λ (o : LockId × B). o.0));
    blocks_are = λ i o at. (
        let there = settled.blocks i o at in
        let lock_at : get_elem? locks i ≡ some o.0
        = ap (λ l. get_elem? l i) locks_are ∙ at_map (λ (o : LockId × B). o.0) table_view.start i o (there_for table_view.start i o at) in
        (there.1, element_got blocks i (o.0, there.1) (given i o.0 there.0 there.1 lock_at there.2 there.3), there.4));
  }

  -- each slot has a block
  pub all_blocks : (table_view : TableView B) (seat_views : List (SeatView E B)) (homes : List (Home E B)) (locks : List LockId)
      → Settled R table_view seat_views homes → locks ≡ map (λ (o : LockId × B). o.0) table_view.start → (i : ℕ) → i < length locks
      → (y : Home E B) × (get_elem? homes i ≡ some y) × IsSome y.block
  all_blocks table_view seat_views homes locks settled locks_are i below =
      let within : i < length table_view.start = subst (λ m. i < m) (ap length locks_are ∙ length-map table_view.start (λ (o : LockId × B). o.0)) below in
      let o = there_is table_view.start i within in
      let there = settled.blocks i o.0 o.1 in
      (there.0, there.2, ap is_some there.3)
