-- The workers of a plan at one table of words: what each leaves there, and that the table may be
-- closed.
use Rattle.std.proofs.Common.{arith, ◌≡◌, ℕ, ◌+◌, ◌<◌, ◌≤◌, true, false, List, [], length, map, drop, get_or, Option, Some, None, refl, ap, sym, ◌∙◌, subst}
use Rattle.std.{proofs.lemmas.List.{length-map, drop_all}, specs.Prelude.{IfOk, Result, Ok, Err, slice_get}}
use Rattle.cpu_workers.{proofs.TableKeys.{Back, one_site, as_many, seat_views_at}, specs.declared.workers.{seating.Left.Left, gates.Go.Go, stops.Stop.Stop}}
use Rattle.{cpu_workers.specs.{Closing.{Key, tower_rules}, Seating.{AnyBlock, Edit, HasLeft, HaveLeft, IsReadySeat, tower_acts}}, boot.specs.Plan.BootPlan}
use Rattle.event_log.specs.{declared.{entries.Entry.Entry, ids.{CpuId.CpuId, LockId.LockId}}, Actions.{Action, Phase, Rests, acts_of, phase, renamed}}
use Rattle.event_log.{specs.{History.{IsLawful, same_lock}, Sections.sections_in, WordsLog.{Idle, lock_phase}}, proofs.Renaming.phase_renamed}
use Rattle.{event_log.proofs.ListLemmas.from_index, layer_traits.specs.{Protocols.{OneLock.opened, WordsProtocol.{MayCome, edit_of}}, Threads.OnePlace.cpu_at}}
use Rattle.{layer_traits.specs.{Polling.Plans.is_in_section, Views.Renaming.renamed_edit}, queuing_lock.specs.Nested.lock_call}
use Rattle.{sleep_wakeup.specs.Nested.slept_edit, spinlock.specs.Laws.LineLaws.rests_outside, table_machine.specs.SeatViews.{TableView, IsOver}}
use Rattle.{table_machine.specs.SeatViews.{new_seat_view, new_seat_views, site_of}, cpu.specs.Tower.{Composed.named, Views.{TowerName, name_of}}}
use Rattle.cpu.proofs.ListFacts.ListReads.{shows_at, there_is}

-- a new key is one for a CPU before its first action, however the machine represents its actions
-- and that a CPU is outside
pub ready_at : (Opens : (LockId → Option AnyBlock) → Type 0) (table_view : TableView AnyBlock) (n : ℕ) (IsOutside : Key → Type 0)
    (acts : Key → List (Action Edit)) {seats : List Key} → seats ≡ new_seat_views table_view n → (k : ℕ) (key : Key) → slice_get seats k ≡ Some key
    → IsOutside (new_seat_view table_view k) → acts (new_seat_view table_view k) ≡ [] → Opens (opened table_view.start)
    → IsReadySeat ((cpu_at k ≡ key.cpu) × IsLawful (MayCome (tower_rules.allowed (opened key.start))) key.history) (IsOutside key) (sections_in (acts key) ≡ [])
    (acts key ≡ []) (Opens (opened key.start))
ready_at Opens table_view n IsOutside acts new k key at outside none opens =
    rw (seat_views_at table_view n k key (subst (λ (l : List Key). slice_get l k ≡ Some key) new at))
    (record { acts = (refl, tt); rests = outside; unseen = ap sections_in none; idle = none; opens = opens })

-- What is left.

pub rests_so : (f : Phase) → is_in_section f ≡ false → f ≡ Rests
rests_so f none = grind arith

-- a CPU whose sections are over, according to the tower, is outside all locks
pub outside_now : (c : CpuId) (key : Key) → is_in_section (phase c (tower_acts (acts_of edit_of key.history))) ≡ false → lock_phase c key.history ≡ Idle
outside_now c key over =
    let acts = acts_of edit_of key.history in
    let once = map (renamed (renamed_edit slept_edit)) acts in
    (rests_outside key.history c).1 (rests_so (phase c acts)
    (ap is_in_section (sym (phase_renamed (renamed_edit lock_call) c once ∙ phase_renamed (renamed_edit slept_edit) c acts)) ∙ over))

-- so is a worker that has stopped
stopped : {plan : BootPlan} {May : CpuId → Go → ℕ → Type 0} {turns : ℕ} {c : CpuId} {acts : List (Action TowerName)} {machine_id : List ℕ} {trace : List Entry}
    {taken : ℕ} {stop : Stop} → HasLeft plan May turns c acts machine_id trace taken stop → is_in_section (phase c acts) ≡ false
stopped {c = c} {acts = acts} left =
    ap is_in_section (sym (phase_renamed name_of c acts)) ∙ ap (λ (l : List (Action TowerName)). is_in_section (phase c (named l))) left.apart.acts_are
    ∙ ap (λ (d : CpuId). is_in_section (phase d (named left.last.acts))) (sym (left.ran.same.cpu ∙ left.at_boot.cpu_is)) ∙ left.ran.rests

-- what a seat has seen is lawful, and therefore its actions are those of the words log, whatever
-- words it represents
abbrev pub SameActs : (Key → List (Action Edit)) → Type 0
SameActs acts = (key : Key) → IsLawful (MayCome (tower_rules.allowed (opened key.start))) key.history → acts key ≡ acts_of edit_of key.history

module _ {X : Type 0} (table_view : TableView AnyBlock) (left : List X) (machine : X → Key) (acts : Key → List (Action Edit)) (same : SameActs acts) where
  -- what was left at this seat of a new table: its key is the CPU's, and it is over if the CPU's
  -- sections are
  pub left_at : (n : ℕ) (seats : List Key) → seats ≡ new_seat_views table_view n → length left ≡ length seats
      → ((k : ℕ) (x : X) (m : Key) → slice_get left k ≡ Some x → slice_get seats k ≡ Some m → site_of (machine x).table ≡ site_of m.table)
      → ((k : ℕ) (x : X) → slice_get left k ≡ Some x
      → (cpu_at k ≡ (machine x).cpu) × IsLawful (MayCome (tower_rules.allowed (opened (machine x).start))) (machine x).history)
      → (k : ℕ) → k < n → (x : X) × (slice_get left k ≡ Some x) × ((machine x).cpu ≡ cpu_at k)
      × (acts (machine x) ≡ acts_of edit_of (machine x).history)
      × (is_in_section (phase (cpu_at k) (tower_acts (acts_of edit_of (machine x).history))) ≡ false → IsOver table_view (machine x))
  left_at n seats new count machine_id owns k below =
      let there = there_is left k (subst (λ m. k < m) (sym (count ∙ as_many table_view n new)) below) in
      let x = there.0 in
      let seat = there_is seats k (subst (λ m. k < m) (sym (as_many table_view n new)) below) in
      let is : seat.0 ≡ new_seat_view table_view k = seat_views_at table_view n k seat.0 (subst (λ (l : List Key). slice_get l k ≡ Some seat.0) new seat.1) in
      let local = owns k x there.1 in
      let cpu : (machine x).cpu ≡ cpu_at k = sym local.0 in (
        x,
        there.1,
        cpu,
        same (machine x) local.1,
        λ over. record {
          table = one_site (machine x).table table_view.table (machine_id k x seat.0 there.1 seat.1 ∙ ap (λ (d : Key). site_of d.table) is);
          outside = subst (λ (d : CpuId). lock_phase d (machine x).history ≡ Idle) (sym cpu) (outside_now (cpu_at k) (machine x) over);
        },
      )

module _ (plan : BootPlan) (May : CpuId → Go → ℕ → Type 0) (turns : ℕ) (table_view : TableView AnyBlock) (left : List (Left Key))
    (acts : Key → List (Action Edit))
    (same : SameActs acts) where
  -- the workers at the seats of a new table have left this
  pub have_left : (seats : List Key) → seats ≡ new_seat_views table_view plan.cpus → length left ≡ length seats
      → ((k : ℕ) (x : Left Key) (m : Key) → slice_get left k ≡ Some x → slice_get seats k ≡ Some m → site_of x.machine.table ≡ site_of m.table)
      → ((k : ℕ) (x : Left Key) → slice_get left k ≡ Some x
      → (cpu_at k ≡ x.machine.cpu) × IsLawful (MayCome (tower_rules.allowed (opened x.machine.start))) x.machine.history)
      → ((k : ℕ) (x : Left Key) → slice_get left k ≡ Some x
      → HasLeft plan May turns (cpu_at k) (tower_acts (acts x.machine)) (site_of x.machine.table) x.trace.items x.did.taken x.did.stop)
      → HaveLeft plan May turns table_view (map (λ x. x.machine) left) (map (λ x. x.trace.items) left) (map (λ x. x.did.taken) left)
      (map (λ x. x.did.stop) left)
  have_left seats new count machine_id owns has =
      let many : length left ≡ plan.cpus = count ∙ as_many table_view plan.cpus new in
      record {
        count = length-map left _ ∙ many;
        traces_count = length-map left _ ∙ many;
        taken_count = length-map left _ ∙ many;
        stops_count = length-map left _ ∙ many;
        each = λ c below.
            let one = left_at table_view left (λ y. y.machine) acts same plan.cpus seats new count machine_id owns c.0 below in
            let x = one.0 in
            let gone = subst
            (λ (l : List (Action Edit)). HasLeft plan May turns c (tower_acts l) (site_of x.machine.table) x.trace.items x.did.taken x.did.stop)
            one.3 (has c.0 x one.1) in (
              x.machine,
              x.trace.items,
              x.did.taken,
              x.did.stop,
              shows_at (λ y. y.machine) left c.0 x one.1,
              shows_at (λ y. y.trace.items) left c.0 x one.1,
              shows_at (λ y. y.did.taken) left c.0 x one.1,
              shows_at (λ y. y.did.stop) left c.0 x one.1,
              record { cpu_is = one.2; over = one.4 (stopped gone); left = gone },
            );
      }

-- Therefore their keys are those of all CPUs, and over.
pub workers_back : {plan : BootPlan} {May : CpuId → Go → ℕ → Type 0} {turns : ℕ} {table_view : TableView AnyBlock} {keys : List Key}
    {traces : List (List Entry)}
    {taken : List ℕ} {stops : List Stop} → HaveLeft plan May turns table_view keys traces taken stops → Back table_view plan.cpus keys
workers_back have = record {
  count = have.count;
  each = λ k below. let one = have.each (cpu_at k) below in (one.0, one.4, one.8.cpu_is, one.8.over);
}

-- what holds of a part that is known holds of it where it is given
pub ok_with : {R E S : Type 0} (of : R → S) (P : S → Type 0) (r : Result R E) (s : S) → IfOk r (λ x. of x ≡ s) → P s → IfOk r (λ x. P (of x))
ok_with of P (Ok x) s is holds = subst P (sym is) holds
ok_with of P (Err e) s is holds = tt

-- A list of locks with their blocks, from an index on.

module _ {B : Type 0} (lock : LockId) (blocks : List (LockId × B)) (i : ℕ) where
  pub opened_here : (o : LockId × B) → i < length blocks → o ≡ get_or blocks i o → same_lock o.0 lock ≡ true → opened (drop i blocks) lock ≡ Some o.1
  opened_here o within is same = grind (arith, from_index blocks i o within is)

  pub opened_later : (o : LockId × B) → i < length blocks → o ≡ get_or blocks i o → same_lock o.0 lock ≡ false
      → opened (drop i blocks) lock ≡ opened (drop (i + 1) blocks) lock
  opened_later o within is other = grind (arith, from_index blocks i o within is)

  pub opened_end : length blocks ≤ i → opened (drop i blocks) lock ≡ None
  opened_end past = ap (λ (l : List (LockId × B)). opened l lock) (drop_all i blocks past)
