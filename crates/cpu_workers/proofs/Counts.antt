-- Facts on what workers that count did.
use Rattle.std.proofs.{lemmas.{Bool.cases_eq, Option.get_or_from_slice_get}, Common.{◌≡◌, ◌≢◌, ℕ, zero, suc, ◌+◌, ◌*◌, ◌%◌, ◌^◌, ◌<◌, ◌≤◌, Bool, true, false}}
use Rattle.std.proofs.Common.{inl, inr, if◌then◌else◌, Option, None, Some, List, [], ◌∷◌, ◌++◌, length, get_or, slice_get, refl, ap, sym, ◌∙◌, subst, ne_eqb}
use Rattle.std.{proofs.Common.{zero-add, mod-eq_of_lt, arith}, specs.List.AllByRecursion}
use Rattle.cpu_workers.proofs.{TableKeys.{Back, one_site, came_at}, OneOrder.all_within, Joining.{both_more, both_length}}
use Rattle.cpu_workers.specs.{declared.counting.{AddOne.AddOne, TheConstants.NUMBER}, Counts.{counting, sections_at, made, HasMade, AllHaveMade}}
use Rattle.{cpu_workers.specs.Counts.IsNumberOfFrees, layer_traits.specs.{Threads.OnePlace.{total, cpu_at}, declared.edits.Mark.Mark, Protocols.OneLock.opened}}
use Rattle.layer_traits.{specs.{Protocols.WordsProtocol.{edit_of, sections}, Layers.BufferLaw.MayGoOn}, proofs.OnePlaceLemmas.{total_same, total_none}}
use Rattle.table_machine.{proofs.Fresh.length_new, specs.SeatViews.{TableView, SeatView, site_of, new_seat_view, new_seat_views, ClosesTable}}
use Rattle.event_log.{proofs.{Foreign.own_others, Same.{same_cpu_self, same_lock_self}}, specs.declared.ids.{TheConstants.CPUS, CpuId.CpuId, LockId.LockId}}
use Rattle.event_log.specs.{declared.events.Event.Event, History.{own_events, same_lock, AreOthers}, WordsLog.{Idle, cpu_of_event, frees, lock_phase}}
use Rattle.event_log.specs.Sections.{Section, block_after, cpu_of_section, sections_of}

-- as many sections as Frees
pub frees_are_sections : {M E : Type 0} (edit : M → E) (lock : LockId) (log : List (Event M)) → sections_at lock (sections_of edit log) ≡ frees lock log
frees_are_sections edit lock [] = refl
frees_are_sections edit lock (e ∷ log) = grind (arith, frees_are_sections edit lock log)

-- a number that was 0 is that of its lock's sections
pub number_is : (opening : LockId → Option ℕ) (lock : LockId) (past : List (Section AddOne)) → opening lock ≡ Some 0
    → block_after counting.edited opening lock past ≡ Some (sections_at lock past % 2 ^ 64)
number_is opening lock [] zeroth = zeroth
number_is opening lock (s ∷ past) zeroth = grind (arith, number_is opening lock past zeroth)

-- a poll of this section, after others' sections, adds it if and only if the poll returns
module _ {E : Type 0} (s : Section E) (others old new : List (Section E)) (answered : Bool)
    (is : new ≡ (if answered then s ∷ (others ++ old) else others ++ old)) (theirs : AreOthers cpu_of_section s.cpu others) where
  -- a poll that does not return adds no section of its CPU
  pub poll_waits : answered ≡ false → made s.cpu s.lock new ≡ made s.cpu s.lock old
  poll_waits waits = grind (arith, own_others cpu_of_section s.cpu others old theirs)

  -- a poll that returns adds its section
  pub poll_answers : answered ≡ true → made s.cpu s.lock new ≡ made s.cpu s.lock old + 1
  poll_answers answers = grind (arith, own_others cpu_of_section s.cpu others old theirs, same_cpu_self s.cpu, same_lock_self s.lock)

-- after a poll that does not return, the section that was polled is under way
pub goes_on : {S : Type 0} (under_way : Option S) (answered : Bool) (s t : S) → under_way ≡ (if answered then None else Some s)
    → answered ≡ false → s ≡ t → MayGoOn under_way t
goes_on under_way answered s t is waits same = grind arith

-- a key that was returned from a seat at its table
pub has_made : {E B : Type 0} (lock : LockId) (old new : SeatView E B) (cpu : CpuId) (times : ℕ) → cpu ≡ old.cpu → cpu ≡ new.cpu
    → site_of new.table ≡ site_of old.table → lock_phase cpu new.history ≡ Idle
    → made cpu lock (sections new.history) ≡ made cpu lock (sections old.history) + times → HasMade lock old new times
has_made lock old new cpu times of is table outside more = record {
  cpu = sym is ∙ of;
  table = one_site new.table old.table table;
  outside = subst (λ c. lock_phase c new.history ≡ Idle) is outside;
  more = subst (λ c. made c lock (sections new.history) ≡ made c lock (sections old.history) + times) of more;
}

-- Numbers of CPUs, added up.

total_each : (f : ℕ → ℕ) (n k : ℕ) → ((c : ℕ) → c < n → f c ≡ k) → total f n ≡ k * n
total_each f zero k same = omega arith
total_each f (suc n) k same = omega (arith, total_each f n k (λ c under. same c (omega arith)), same n (omega arith))

-- if one CPU's number rises, so does the sum
total_more : (f g : ℕ → ℕ) (n d b : ℕ) → d < n → g d ≡ f d + b → ((k : ℕ) → k ≢ d → g k ≡ f k) → total g n ≡ total f n + b
total_more f g zero d b within here other = absurd (omega arith)
total_more f g (suc n) d b within here other = elim (cases_eq n d) [
  | inl last ↦ omega (arith, total_same g f n (λ k under. other k (λ e. omega arith)), ap f last, ap g last)
  | inr before ↦ omega (arith, total_more f g n d b (omega arith) here other, other n before)
]

-- where all sections are of CPUs below n, their number is the sum of the CPUs' numbers
sections_add_up : {E : Type 0} (lock : LockId) (n : ℕ) (past : List (Section E)) → AllByRecursion (λ s. s.cpu.0 < n) past
    → sections_at lock past ≡ total (λ k. made (cpu_at k) lock past) n
sections_add_up lock n [] known = sym (total_none (λ k. 0) n (λ k within. refl))
sections_add_up lock n (s ∷ past) known =
    let b : ℕ = if same_lock lock s.lock then 1 else 0 in
    let here : made s.cpu lock (s ∷ past) ≡ made s.cpu lock past + b = grind (arith, same_cpu_self s.cpu) in
    let sum = total_more (λ k. made (cpu_at k) lock past) (λ k. made (cpu_at k) lock (s ∷ past)) n s.cpu.0 b known.0 here
    (λ k other. let apart = ne_eqb s.cpu.0 k (λ e. other (sym e)) in rw apart refl) in
    grind (arith, sections_add_up lock n past known.1, sum)

-- a CPU's sections are those of its events
own_sections : {E : Type 0} (c : CpuId) (log : List (Event (Mark E))) → own_events cpu_of_section c (sections log) ≡ sections (own_events cpu_of_event c log)
own_sections c [] = refl
own_sections c (e ∷ log) = grind (arith, own_sections c log)

-- the keys that were returned are those of all CPUs, and over
pub made_back : {B E : Type 0} (lock : LockId) (times : ℕ) {table_view : TableView B} {came : List (SeatView E B)}
    → AllHaveMade lock (new_seat_views table_view table_view.cpus) came times → Back table_view table_view.cpus came
made_back {E = E} lock times {table_view} {came} all = record {
  count = both_length (λ d e. HasMade lock d e times) (new_seat_views table_view table_view.cpus) came all ∙ length_new E table_view table_view.cpus;
  each = λ k below.
      let here = came_at table_view (λ d e. HasMade lock d e times) table_view.cpus came all k below in
      (here.0, here.1, here.2.cpu, record { table = here.2.table; outside = here.2.outside });
}

small_product : (a b most : ℕ) → a * most < 2 ^ 64 → b ≤ most → a * b < 2 ^ 64
small_product a b most small few = grind arith

module _ (times : ℕ) (table_view : TableView ℕ) (came : List (SeatView AddOne ℕ)) (blocks : List (LockId × ℕ))
    (all : AllHaveMade NUMBER (new_seat_views table_view table_view.cpus) came times) (closes : ClosesTable counting table_view came blocks) where
  -- the Frees of the log of the closed table: each CPU of the table has so many
  frees_are : frees NUMBER closes.log ≡ times * table_view.cpus
  frees_are =
      let secs = sections closes.log in
      let own_made : (k : ℕ) → k < table_view.cpus → made (cpu_at k) NUMBER secs ≡ times = λ k below. (
      let here = came_at table_view (λ d e. HasMade NUMBER d e times) table_view.cpus came all k below in
      let whole : own_events cpu_of_event (cpu_at k) closes.log ≡ own_events cpu_of_event (cpu_at k) here.0.history
      = subst (λ c. own_events cpu_of_event c closes.log ≡ own_events cpu_of_event c here.0.history) here.2.cpu (closes.keys k here.0 here.1).whole in
      ap (sections_at NUMBER) (own_sections (cpu_at k) closes.log ∙ (ap sections whole ∙ sym (own_sections (cpu_at k) here.0.history)))
      ∙ (here.2.more ∙ zero-add times)) in
      let known = all_within cpu_of_section table_view.cpus secs (λ c large. own_sections c closes.log ∙ ap sections (closes.rest c large)) in
      sym (frees_are_sections edit_of NUMBER closes.log)
      ∙ (sections_add_up NUMBER table_view.cpus secs known ∙ total_each (λ k. made (cpu_at k) NUMBER secs) table_view.cpus times own_made)

  -- a number that is so many is that of the Frees
  pub left_by_frees : (number : ℕ) → number ≡ times * table_view.cpus → IsNumberOfFrees counting NUMBER table_view came number
  left_by_frees number is = record { log = closes.log; legal = closes.legal; keys = closes.keys; rest = closes.rest; is = is ∙ sym frees_are }

  -- the number that the workers left
  pub number_is_left : table_view.start ≡ (NUMBER, 0) ∷ [] → table_view.cpus ≤ CPUS → times * CPUS < 2 ^ 64
      → (slice_get blocks 0 ≡ Some (NUMBER, times * table_view.cpus)) × (0 < length blocks)
  number_is_left start few most =
      let secs = sections closes.log in
      let first : slice_get table_view.start 0 ≡ Some (NUMBER, 0) = ap (λ l. slice_get l 0) start in
      let there = closes.blocks_are 0 (NUMBER, 0) first in
      let folded : Some (sections_at NUMBER secs % 2 ^ 64) ≡ Some there.0
      = sym (number_is (opened table_view.start) NUMBER secs (ap (λ l. opened l NUMBER) start)) ∙ there.2 in
      let number : sections_at NUMBER secs % 2 ^ 64 ≡ there.0 = cc in
      let sum : sections_at NUMBER secs ≡ times * table_view.cpus = frees_are_sections edit_of NUMBER closes.log ∙ frees_are in
      let small : times * table_view.cpus < 2 ^ 64 = small_product times table_view.cpus CPUS most few in
      let number_is_that : there.0 ≡ times * table_view.cpus = sym number ∙ (ap (λ n. n % 2 ^ 64) sum ∙ mod-eq_of_lt small) in
      let count : length blocks ≡ 1 = closes.count ∙ ap length start in
      (there.1 ∙ ap (λ (b : ℕ). Some (NUMBER, b)) number_is_that, omega arith)

pub number_read : (blocks : List (LockId × ℕ)) (n : ℕ) (o : LockId × ℕ) → slice_get blocks 0 ≡ Some (NUMBER, n) → o ≡ get_or blocks 0 o → o.1 ≡ n
number_read blocks n o at is = ap (λ (p : LockId × ℕ). p.1) (is ∙ get_or_from_slice_get blocks 0 (NUMBER, n) o at)

-- the keys of a new table have made no section
pub new_have_made_none : (E : Type 0) {B : Type 0} (lock : LockId) (table_view : TableView B) (n : ℕ)
    → AllHaveMade {E = E} lock (new_seat_views table_view n) (new_seat_views table_view n) 0
new_have_made_none E lock table_view zero = tt
new_have_made_none E lock table_view (suc n) =
    both_more (λ d e. HasMade {E = E} lock d e 0) (new_seat_views table_view n) (new_seat_views table_view n) (new_seat_view table_view n)
    (new_seat_view table_view n)
    (new_have_made_none E lock table_view n) (record { cpu = refl; table = refl; outside = refl; more = omega arith })
