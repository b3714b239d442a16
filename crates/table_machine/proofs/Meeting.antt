-- What a meeting requests of the table, and what it returns.
use Rattle.std.proofs.Common.{◌≡◌, ℕ, ◌<◌, inl, List, [], ◌∷◌, ◌++◌, length, refl, ap, sym, ◌∙◌, arith}
use Rattle.{atomic_table.specs.{Seated.TableId, Table.{Me, step, Allows}}, event_log.specs.declared.{ids.{CpuId.CpuId, LockId.LockId}, events.Event.Event}}
use Rattle.{event_log.specs.{History.Grows, WordsLog.{cpu_of_event, lock_phase}}, layer_traits.specs.{declared.edits.Mark.Mark, Protocols.Protocol.Rules}}
use Rattle.table_machine.specs.{declared.views.{Home.Home, View.View}, Kinds.WordKind, Layout.{word_count, IsLaidOut}, Views.{mine, IsThisCpu, EndsWith}}
use Rattle.table_machine.{specs.{Views.IsSince, Rule.TableInv, Plays.Met, SeatViews.{SeatView, IsKey}}, proofs.{Logs.lock_phase_since, Seeing.joined}}
use Rattle.table_machine.proofs.{Stepping.meets_allowed, Asking.{key_at, seat_view_of}}
use mathlib.Core.Option.{none}

pub has_words : {B : Type 0} (start : List (LockId × B)) (words slots : ℕ) (ranks : List ℕ) (locks : List LockId) → IsLaidOut start words slots ranks locks
    → 0 < words
has_words start words slots ranks locks laid = let are : words ≡ word_count (length start) = laid.words_are in omega arith

module _ {E B O : Type 0} (R : Rules E B O) where
  -- what a meeting leaves
  pub record MeetDone (d : SeatView E B) (cpu : CpuId) (ticket : ℕ) (history : List (Event (Mark E))) (w : Me (Home E B) (View E B)) : Type 0 where
    pub start : d.start ≡ w.0.start
    pub begins : EndsWith w.0.history history
    pub grows : Grows (IsThisCpu d.cpu) cpu_of_event d.history w.0.history
    pub key : IsKey R cpu ticket w

  pub meet_reads : (cpu : CpuId) (ticket : ℕ) (table : TableId) (v u w : Me (Home E B) (View E B)) (o : View E B) (slots found : ℕ) (d : SeatView E B)
      → seat_view_of cpu table v ≡ d → IsKey R cpu ticket v → o.cpus ≡ [] → u ≡ (joined v.0 o, v.1) → Met R (step slots 0 0 0 none) u found w
      → MeetDone d cpu ticket o.history w
  meet_reads cpu ticket table v u w o slots found d d_is key nobody u_is told =
      let met = rw u_is at told in
      let cpu_is : v.0.cpus ≡ cpu ∷ [] = ap (λ (u : View E B). u.cpus) key.view in
      let view : w.0 ≡ mine v.0.start cpu w.0.history = rw (nobody, cpu_is) at met.view in
      let since : IsSince w.0.history v.0.history cpu = met.coupled.cpus cpu (rw cpu_is (inl refl)) in
      record {
        start = rw (← d_is) (sym (ap (λ (u : View E B). u.start) view));
        begins = met.coupled.told;
        grows = rw (← d_is) (record { others = since.more; foreign = λ c same. rw same since.others; is = since.is });
        key =
            key_at R cpu ticket v.0.start w (lock_phase cpu v.0.history) view (lock_phase_since cpu w.0.history v.0.history since) (rw met.held key.held)
            key.remembers
            met.legal;
      }

  -- a load of the word that is never written
  pub meet_asks : (K : WordKind) (table z : TableId) (start : List (LockId × B)) (n id : ℕ) (ranks : List ℕ) (locks : List LockId) (now : TableId)
      (v u : Me (Home E B) (View E B)) (o : View E B) → IsLaidOut start z.words z.slots ranks locks → (table ≡ z) × (v.0.start ≡ start) → now ≡ table
      → u ≡ (joined v.0 o, v.1) → (now ≡ z) × (0 < z.words) × Allows (TableInv K R n start) z.slots id u 0 (λ m. m) (Met R (step z.slots 0 0 0 none) u)
  meet_asks K table z start n id ranks locks now v u o laid of now_is u_is = (
    now_is ∙ of.0,
    has_words start z.words z.slots ranks locks laid,
    rw u_is (meets_allowed K R n start z.slots id (joined v.0 o) v.1 of.1),
  )

  -- a load of it by a seat of this table, whatever that seat received
  pub meets_here : (K : WordKind) (start : List (LockId × B)) (n slots id : ℕ) (u : Me (Home E B) (View E B)) → u.0.start ≡ start
      → Allows (TableInv K R n start) slots id u 0 (λ m. m) (Met R (step slots 0 0 0 none) u)
  meets_here K start n slots id u started = meets_allowed K R n start slots id u.0 u.1 started

-- a seat whose view is this one is of the table of which the view is
pub start_joined : {E B : Type 0} (start : List (LockId × B)) (u : Me (Home E B) (View E B)) (v : View E B) (held : List (ℕ × Home E B)) → u ≡ (v, held)
    → v.start ≡ start → u.0.start ≡ start
start_joined start u v held u_is started = ap (λ (m : Me (Home _ _) (View _ _)). m.0.start) u_is ∙ started
