-- The guests, the homes and the capacities of a plan open a system.
use Rattle.std.proofs.Common.{◌≡◌, ◌≢◌, ℕ, zero, suc, ◌+◌, ◌<◌, ◌==◌, Bool, true, false, List, [], ◌∷◌, ◌++◌, length, map, replicate, take, Option}
use Rattle.std.proofs.{Common.{Some, None, refl, ap, sym, ◌∙◌, subst, arith}, lemmas.{Bool.{cases_lt, eq-eqb, eqb-true, ne_eqb}, List.get_or_past}}
use Rattle.std.proofs.lemmas.{List.{length-map, map-append, take_more, Elements.{All-from_get_or, All-get_or, All-map}}, Option.get_or_from_slice_get}
use Rattle.std.{proofs.lemmas.Option.{slice_get_within, unwrap_or-slice_get}, specs.Prelude.{All, IsTrue, slice_get, slice_index_or, if◌then◌else◌}}
use Rattle.{event_log.specs.declared.ids.CpuId.CpuId, guest.specs.{declared.instructions.Instruction.Instruction, Instructions.names_below}}
use Rattle.{boot.specs.Plan.{IsPlan, IsTask, BootPlan, Task, plan_home_of, plan_program_of}, layer_traits.specs.Threads.OnePlace.cpu_at}
use Rattle.{layer_traits.specs.Views.Openings.AreOpenable, cpu.specs.{declared.guests.Guest.Guest, Guests.new_guest, Boots.{AreGuests, AreTables, guest_for}}}
use Rattle.cpu.{specs.{Boots.{guests_for, homes_for, tables_for}, Claims.listed, Cpus.{NamesBelow, guest_at}}, proofs.ListFacts.GuestLists.guest_within}
use Rattle.cpu.proofs.ListFacts.ListReads.{listed_length, listed_there, shown_at, shows_at, there_is}

-- a program that names none but the first buffers does so in each line
names_in_lines : (buffers : ℕ) (program : List Instruction) → All (λ i. IsTrue (names_below buffers i)) program → NamesBelow buffers program
names_in_lines buffers program all line = grind (arith, unwrap_or-slice_get, cases_lt, get_or_past)

module _ (cpus buffers : ℕ) (tasks : List Task) (all : All (IsTask cpus buffers) tasks) (c : ℕ) where
  -- a guest of CPU c is that of a thread with this home CPU
  pub record IsGuestOf (t : ℕ) (g : Guest) : Type 0 where
    pub task : Task
    pub there : slice_get tasks t ≡ Some task
    pub home : task.home ≡ c
    pub is : new_guest task.program ≡ g

  pub by_task : (t : ℕ) (g : Guest) → guest_at (map (guest_for c) tasks) t ≡ Some g → IsGuestOf t g
  by_task t g at =
      let there = there_is tasks t (omega (arith, guest_within (map (guest_for c) tasks) t g at, length-map tasks (guest_for c))) in
      let shows = get_or_from_slice_get (map (guest_for c) tasks) t (guest_for c there.0) None (shows_at (guest_for c) tasks t there.0 there.1) in
      go there.0 there.1 (there.0.home == c) refl (sym shows ∙ at)
    where
      go : (task : Task) → slice_get tasks t ≡ Some task → (b : Bool) → (task.home == c) ≡ b → guest_for c task ≡ Some g → IsGuestOf t g
      go task there b home is = grind (arith, eqb-true)

  pub are_guests : AreGuests (map (λ task. record { 0 = task.home }) tasks) buffers (cpu_at c) (map (guest_for c) tasks)
  are_guests = record {
    homed = λ t home. shown_at (λ (task : Task). cpu_at task.home) (λ k d. d ≡ cpu_at c → (g : Guest) × (guest_at (map (guest_for c) tasks) k ≡ Some g)) tasks
        (λ k task there same. (new_guest task.program, guest_there k task there (ap (λ (d : CpuId). d.0) same))) t.0 (cpu_at c) home refl;
    only = λ t g at. let of = by_task t.0 g at in
        shows_at (λ (task : Task). cpu_at task.home) tasks t.0 of.task of.there ∙ ap (λ (k : ℕ). Some (cpu_at k)) of.home;
    fresh = λ t g at. let of = by_task t.0 g at in subst (λ (x : Guest). x ≡ new_guest x.program) of.is refl;
    named = λ t g at. let of = by_task t.0 g at in
        subst (λ (x : Guest). NamesBelow buffers x.program) of.is (names_in_lines buffers of.task.program (task_is t.0 of.task of.there).known);
    size = length-map tasks (guest_for c) ∙ sym (length-map tasks (λ task. cpu_at task.home));
  }
    where
      guest_there : (k : ℕ) (task : Task) → slice_get tasks k ≡ Some task → task.home ≡ c → guest_at (map (guest_for c) tasks) k ≡ Some (new_guest task.program)
      guest_there k task there home =
          let same : (task.home == c) ≡ true = eq-eqb task.home c home in
          get_or_from_slice_get (map (guest_for c) tasks) k (guest_for c task) None (shows_at (guest_for c) tasks k task there) ∙ (rw same refl)

      task_is : (k : ℕ) (task : Task) → slice_get tasks k ≡ Some task → IsTask cpus buffers task
      task_is k task there = grind (arith, get_or_from_slice_get, slice_get_within)

-- what a plan opens is one that may be opened
pub are_openable : (plan : BootPlan) → IsPlan plan → AreOpenable plan.cpus plan.caps (homes_for plan)
are_openable plan is = record {
  some_cpus = is.some_cpus;
  most_cpus = is.most_cpus;
  buffers = is.caps.most;
  capacities = is.caps.each;
  threads = let count = length-map plan.tasks (λ task. cpu_at task.home) in let most = is.tasks.most in omega (arith, count, most);
  homes_exist = All-map (λ (h : CpuId). h.0 < plan.cpus) (λ (task : Task). cpu_at task.home) plan.tasks
      (All-from_get_or (λ (task : Task). task.home < plan.cpus) plan.tasks (record { home = 0; program = [] })
      (λ i within. (All-get_or (IsTask plan.cpus (length plan.caps)) plan.tasks i (record { home = 0; program = [] }) within is.tasks.each).home));
}

pub are_tables : (plan : BootPlan) → IsPlan plan → AreTables (homes_for plan) (length plan.caps) (tables_for plan)
are_tables plan is k guests at =
    let within = slice_get_within (tables_for plan) k guests at in
    let count = listed_length (guests_for plan) plan.cpus 0 in
    let same = sym (listed_there (guests_for plan) plan.cpus k [] (omega (arith, within, count))) ∙ get_or_from_slice_get (tables_for plan) k guests [] at in
    subst (λ (l : List (Option Guest)). AreGuests (homes_for plan) (length plan.caps) (cpu_at k) l) same
    (are_guests plan.cpus (length plan.caps) plan.tasks is.tasks.each k)

-- one value more is listed
pub listed_more : {X : Type 0} (f : ℕ → X) (n k : ℕ) → listed f k (suc n) ≡ listed f k n ++ f (k + n) ∷ []
listed_more f zero k = let same : k ≡ k + 0 = omega arith in ap (λ (j : ℕ). f j ∷ []) same
listed_more f (suc n) k =
    let same : (k + 1) + n ≡ k + suc n = omega arith in
    ap (λ l. f k ∷ l) (listed_more f n (k + 1) ∙ ap (λ (j : ℕ). listed f (k + 1) n ++ f j ∷ []) same)

-- one value again and again
pub one_each : {X : Type 0} (z : ℕ) (xs : List X) (n : ℕ) → length xs ≡ n → map (λ x. z) xs ≡ replicate n z
one_each z [] n count = ap (λ (k : ℕ). replicate k z) count
one_each z (x ∷ xs) n count = ap (λ l. z ∷ l) (one_each z xs (length xs) refl) ∙ ap (λ (k : ℕ). replicate k z) count

-- One thread more.

pub homes_more : (plan : BootPlan) (t : ℕ) (h : CpuId) (xs : List CpuId) → t < length plan.tasks → h.0 ≡ plan_home_of plan t → xs ≡ take t (homes_for plan)
    → xs ++ h ∷ [] ≡ take (t + 1) (homes_for plan)
homes_more plan t h xs within is before =
    let count = length-map plan.tasks (λ (task : Task). cpu_at task.home) in
    let there = there_is plan.tasks t within in
    let home : plan_home_of plan t ≡ there.0.home =
    get_or_from_slice_get (map (λ (task : Task). task.home) plan.tasks) t there.0.home 0 (shows_at (λ (task : Task). task.home) plan.tasks t there.0 there.1) in
    let shown = get_or_from_slice_get (homes_for plan) t (cpu_at there.0.home) h (shows_at (λ (task : Task). cpu_at task.home) plan.tasks t there.0 there.1) in
    let same : h ≡ slice_index_or (homes_for plan) t h = ap (λ (k : ℕ). cpu_at k) (is ∙ home) ∙ sym shown in
    grind (arith, same, take_more, count)

-- What a CPU has at the number of a thread.

guest_there : (plan : BootPlan) (c t : ℕ) → t < length plan.tasks → (b : Bool) → (plan_home_of plan t == c) ≡ b
    → slice_index_or (guests_for plan c) t None ≡ (if b then Some (new_guest (plan_program_of plan t)) else None)
guest_there plan c t within b is =
    let there = there_is plan.tasks t within in
    let home : plan_home_of plan t ≡ there.0.home =
    get_or_from_slice_get (map (λ (task : Task). task.home) plan.tasks) t there.0.home 0 (shows_at (λ (task : Task). task.home) plan.tasks t there.0 there.1) in
    let program = get_or_from_slice_get (map (λ (task : Task). task.program) plan.tasks) t there.0.program []
    (shows_at (λ (task : Task). task.program) plan.tasks t there.0 there.1) in
    let same : (there.0.home == c) ≡ b = ap (λ (k : ℕ). k == c) (sym home) ∙ is in
    get_or_from_slice_get (guests_for plan c) t (guest_for c there.0) None (shows_at (guest_for c) plan.tasks t there.0 there.1)
    ∙ ap (λ (d : Bool). if d then Some (new_guest there.0.program) else None) same
    ∙ ap (λ (p : List Instruction). if b then Some (new_guest p) else None) (sym program)

pub guest_home : (plan : BootPlan) (c t : ℕ) → t < length plan.tasks → plan_home_of plan t ≡ c
    → Some (new_guest (plan_program_of plan t)) ≡ slice_index_or (guests_for plan c) t None
guest_home plan c t within home = sym (guest_there plan c t within true (eq-eqb (plan_home_of plan t) c home))

pub guest_away : (plan : BootPlan) (c t : ℕ) → t < length plan.tasks → plan_home_of plan t ≢ c → None ≡ slice_index_or (guests_for plan c) t None
guest_away plan c t within other = sym (guest_there plan c t within false (ne_eqb (plan_home_of plan t) c other))

-- a table more
pub tables_more : {X : Type 0} (f : ℕ → List (Option Guest)) (items : X → List (Option Guest)) (xs : List X) (x : X) (n : ℕ) → map items xs ≡ listed f 0 n
    → items x ≡ f n → map items (xs ++ x ∷ []) ≡ listed f 0 (n + 1)
tables_more f items xs x n before is =
    let next : suc n ≡ n + 1 = omega arith in
    let zero_more : 0 + n ≡ n = omega arith in
    map-append items xs (x ∷ []) ∙ ap (λ l. l ++ items x ∷ []) before ∙ ap (λ l. listed f 0 n ++ l ∷ []) (is ∙ ap f (sym zero_more)) ∙ sym (listed_more f n 0)
    ∙ ap (λ (k : ℕ). listed f 0 k) next
