-- The ways of CPUs along one list, merged to one schedule.
use Rattle.std.proofs.Common.{◌≡◌, ◌≢◌, ℕ, zero, suc, ◌+◌, ◌<◌, ◌≤◌, ◌⊎◌, inl, inr, false, true, List, [], ◌∷◌, ◌++◌, if◌then◌else◌, refl, sym, ap, ◌∙◌, subst}
use Rattle.std.proofs.{Common.{arith, length, Some, slice_get, slice_set, zero-add}, lemmas.{Bool.{cases_eq, cases_lt, ne_eqb}, List.length-append}}
use Rattle.std.{proofs.lemmas.List.{length-set, Elements.All-append}, specs.List.All}
use Rattle.event_log.{specs.{declared.ids.CpuId.CpuId, History.{same_cpu, own_events}, Actions.{Action, cpu_of_action}}, proofs.Same.same_cpu_self}
use Rattle.{event_log.proofs.ListLemmas.set_else, layer_traits.specs.{declared.steps.Step.TheVariants.Stepped, Polling.Along.{starts, others, steps}}}
use Rattle.cpu.specs.{Sound.after_steps, Table.{Blocks.Name, Setups.{SystemConfig, CpuLocal, boot_of}, Steps.{SystemState, AlongTable, boots_from}}}
use Rattle.cpu.specs.{Table.Steps.{cpu_numbered, cpu_step, system_step, whole_at_boot}, Wakeups.{Lost.IsWorked, Merged.WorkIsARun}}
use Rattle.cpu.proofs.{StepTable.ReachedSystems.after_more, Wakeups.{Lists.{refuted, same_head, same_tail, set_here}, SystemInv.boots_length}}

-- ---- lists

booted : (setup : SystemConfig) (n k i : ℕ) → i < k → slice_get (boots_from setup n k) i ≡ Some (boot_of setup (cpu_numbered (n + i)))
booted setup n zero i below = absurd (omega (arith, below))
booted setup n (suc k) zero below = let same : n ≡ n + 0 = omega arith in ap (λ m. Some (boot_of setup (cpu_numbered m))) same
booted setup n (suc k) (suc i) below =
    let same : (n + 1) + i ≡ n + suc i = omega arith in
    booted setup (n + 1) k i (omega (arith, below)) ∙ ap (λ m. Some (boot_of setup (cpu_numbered m))) same

-- ---- one system

-- the private states and the list that the table's steps leave under a schedule
data Goes (setup : SystemConfig) : List CpuId → List CpuLocal → List (Action Name) → Type 0 where
  boots : Goes setup [] (boots_from setup 0 setup.cpus) []
  goes : {before : List CpuId} {ps : List CpuLocal} {log : List (Action Name)} (c : CpuId) (p : CpuLocal) → Goes setup before ps log → c.0 < setup.cpus
      → slice_get ps c.0 ≡ Some p → (cpu_step setup c p log).answer ≡ Stepped
      → Goes setup (before ++ c ∷ []) (slice_set ps c.0 (cpu_step setup c p log).next) ((cpu_step setup c p log).acts ++ log)

abbrev whole : List CpuLocal → List (Action Name) → ℕ → ℕ → SystemState
whole cpus log room taken = record { cpus = cpus; log = log; room = room; taken = taken }

one : (setup : SystemConfig) (c : CpuId) (ps : List CpuLocal) (log : List (Action Name)) (room taken : ℕ) (p : CpuLocal) → slice_get ps c.0 ≡ Some p
    → (cpu_step setup c p log).answer ≡ Stepped → taken < room
    → (system_step setup c (whole ps log room taken)).next
    ≡ whole (slice_set ps c.0 (cpu_step setup c p log).next) ((cpu_step setup c p log).acts ++ log) room (taken + 1)
one setup c ps log room taken p at stepped live = grind (arith, ne_eqb)

goes_whole : (setup : SystemConfig) (sched : List CpuId) (ps : List CpuLocal) (log : List (Action Name)) → Goes setup sched ps log → (room : ℕ)
    → length sched ≤ room
    → after_steps setup sched (whole_at_boot setup room) ≡ whole ps log room (length sched)
goes_whole setup sched ps log boots = λ room few. refl
goes_whole setup sched ps log (goes {before = before} {ps = qs} {log = past} c p way below at stepped) = λ room few.
    let long : length (before ++ c ∷ []) ≡ length before + 1 = length-append before (c ∷ []) in
    after_more setup before c (whole_at_boot setup room)
    ∙ ap (λ (w : SystemState). (system_step setup c w).next) (goes_whole setup before qs past way room (omega (arith, few, long)))
    ∙ one setup c qs past room (length before) p at stepped (omega (arith, few, long))
    ∙ ap (λ (n : ℕ). whole (slice_set qs c.0 (cpu_step setup c p past).next) ((cpu_step setup c p past).acts ++ past) room n) (sym long)

one_known : (setup : SystemConfig) (c : CpuId) → c.0 < setup.cpus → All (λ d. d.0 < setup.cpus) (c ∷ [])
one_known setup c below zero d within = below
one_known setup c below (suc k) d within = absurd (omega (arith, within))

goes_known : (setup : SystemConfig) (sched : List CpuId) (ps : List CpuLocal) (log : List (Action Name)) → Goes setup sched ps log
    → All (λ c. c.0 < setup.cpus) sched
goes_known setup sched ps log boots = λ k d below. absurd (omega (arith, below))
goes_known setup sched ps log (goes {before = before} {ps = qs} {log = past} c p way below at stepped) =
    All-append (λ (d : CpuId). d.0 < setup.cpus) before (c ∷ []) (goes_known setup before qs past way) (one_known setup c below)

goes_long : (setup : SystemConfig) (sched : List CpuId) (ps : List CpuLocal) (log : List (Action Name)) → Goes setup sched ps log → length ps ≡ setup.cpus
goes_long setup sched ps log boots = boots_length setup 0 setup.cpus
goes_long setup sched ps log (goes {before = before} {ps = qs} {log = past} c p way below at stepped) =
    length-set qs c.0 (cpu_step setup c p past).next ∙ goes_long setup before qs past way

-- ---- the steps of one CPU that do no action

pub data Way (setup : SystemConfig) (c : CpuId) (log : List (Action Name)) (from : CpuLocal) : CpuLocal → Type 0 where
  stays : Way setup c log from from
  alone : {p : CpuLocal} → Way setup c log from p → (cpu_step setup c p log).answer ≡ Stepped → (cpu_step setup c p log).acts ≡ []
      → Way setup c log from (cpu_step setup c p log).next

-- a step does one action of its CPU, or none
abbrev IsShort : CpuId → List (Action Name) → Type 0
IsShort c acts = (acts ≡ []) ⊎ ((a : Action Name) × (acts ≡ a ∷ []) × (same_cpu (cpu_of_action a) c ≡ true))

short : (setup : SystemConfig) (c : CpuId) (p : CpuLocal) (log : List (Action Name)) → IsShort c (cpu_step setup c p log).acts
short setup c p log = grind (arith, same_cpu_self c)

-- the steps of a CPU before the newest action, what that action made of it, and its steps after it
pub record Cut (setup : SystemConfig) (c : CpuId) (a : Action Name) (past : List (Action Name)) (p : CpuLocal) : Type 0 where
  pub before : CpuLocal
  pub count : ℕ
  pub along : AlongTable setup c count before past
  pub mid : CpuLocal
  pub next : ((same_cpu (cpu_of_action a) c ≡ false) × (mid ≡ before))
      ⊎ ((same_cpu (cpu_of_action a) c ≡ true) × ((cpu_step setup c before past).acts ≡ a ∷ []) × ((cpu_step setup c before past).answer ≡ Stepped)
      × (mid ≡ (cpu_step setup c before past).next))
  pub way : Way setup c (a ∷ past) mid p

-- one more step without an action
longer : (setup : SystemConfig) (c : CpuId) (from q : CpuLocal) (log log2 : List (Action Name)) → log ≡ log2 → Way setup c log2 from q
    → (cpu_step setup c q log).answer ≡ Stepped → (cpu_step setup c q log).acts ≡ [] → Way setup c log2 from (cpu_step setup c q log).next
longer setup c from q log log2 same way taken none =
    subst (λ l. Way setup c log2 from (cpu_step setup c q l).next) (sym same)
    (alone way (subst (λ l. (cpu_step setup c q l).answer ≡ Stepped) same taken) (subst (λ l. (cpu_step setup c q l).acts ≡ []) same none))

pub cut : (setup : SystemConfig) (c : CpuId) (n : ℕ) (p : CpuLocal) (log : List (Action Name)) → AlongTable setup c n p log
    → (a : Action Name) (past : List (Action Name)) → log ≡ a ∷ past → Cut setup c a past p
cut setup c n p log starts = λ a past is. absurd (cc is)
cut setup c n p log (others {n = m} {p = q} {log = before} b along off) = λ a past is. record {
  before = q;
  count = m;
  along = subst (AlongTable setup c m q) (same_tail b a before past is) along;
  mid = q;
  next = inl (subst (λ x. same_cpu (cpu_of_action x) c ≡ false) (same_head b a before past is) off, refl);
  way = stays;
}
cut setup c n p log (steps {n = m} {p = q} {log = before} along taken) =
    λ a past is. by_acts (short setup c q before) a past is (cut setup c m q before along)
  where
    by_acts : IsShort c (cpu_step setup c q before).acts → (a : Action Name) (past : List (Action Name)) → (cpu_step setup c q before).acts ++ before ≡ a ∷ past
        → ((a : Action Name) (past : List (Action Name)) → before ≡ a ∷ past → Cut setup c a past q) → Cut setup c a past (cpu_step setup c q before).next
    by_acts (inl none) a past is earlier =
        let same : before ≡ a ∷ past = ap (λ acts. acts ++ before) (sym none) ∙ is in
        let e = earlier a past same in
        record {
          before = e.before;
          count = e.count;
          along = e.along;
          mid = e.mid;
          next = e.next;
          way = longer setup c e.mid q before (a ∷ past) same e.way taken none;
        }
    by_acts (inr local) a past is earlier =
        let list : local.0 ∷ before ≡ a ∷ past = ap (λ acts. acts ++ before) (sym local.1) ∙ is in
        let same : before ≡ past = same_tail local.0 a before past list in
        let head : local.0 ≡ a = same_head local.0 a before past list in
        record {
          before = q;
          count = m;
          along = subst (AlongTable setup c m q) same along;
          mid = (cpu_step setup c q before).next;
          next = grind arith;
          way = stays;
        }

-- the steps of a CPU before any action
from_boot : (setup : SystemConfig) (c : CpuId) (n : ℕ) (p : CpuLocal) (log : List (Action Name)) → AlongTable setup c n p log → log ≡ []
    → Way setup c [] (boot_of setup c) p
from_boot setup c n p log starts = λ is. stays
from_boot setup c n p log (others {n = m} {p = q} {log = before} b along off) = λ is. absurd (cc is)
from_boot setup c n p log (steps {n = m} {p = q} {log = before} along taken) = λ is. by_acts (short setup c q before) is (from_boot setup c m q before along)
  where
    by_acts : IsShort c (cpu_step setup c q before).acts → (cpu_step setup c q before).acts ++ before ≡ []
        → (before ≡ [] → Way setup c [] (boot_of setup c) q) → Way setup c [] (boot_of setup c) (cpu_step setup c q before).next
    by_acts (inl none) is earlier =
        let same : before ≡ [] = ap (λ acts. acts ++ before) (sym none) ∙ is in
        longer setup c (boot_of setup c) q before [] same (earlier same) taken none
    by_acts (inr local) is earlier = grind arith

-- ---- all CPUs

-- a schedule after which this holds of the private state of each CPU
record Reached (setup : SystemConfig) (log : List (Action Name)) (R : ℕ → CpuLocal → Type 0) : Type 0 where
  sched : List CpuId
  ps : List CpuLocal
  way : Goes setup sched ps log
  all : (k : ℕ) → k < setup.cpus → (p : CpuLocal) × (slice_get ps k ≡ Some p) × R k p

-- one CPU has taken steps without an action, and no other has
record Moved (setup : SystemConfig) (log : List (Action Name)) (ps : List CpuLocal) (k : ℕ) (p : CpuLocal) : Type 0 where
  sched : List CpuId
  qs : List CpuLocal
  way : Goes setup sched qs log
  here : slice_get qs k ≡ Some p
  others : (i : ℕ) → i ≢ k → slice_get qs i ≡ slice_get ps i

move : (setup : SystemConfig) (log : List (Action Name)) (sched : List CpuId) (ps : List CpuLocal) (k : ℕ) (q p : CpuLocal) → k < setup.cpus
    → Goes setup sched ps log → slice_get ps k ≡ Some q → Way setup (cpu_numbered k) log q p → Moved setup log ps k p
move setup log sched ps k q p below at here stays = record { sched = sched; qs = ps; way = at; here = here; others = λ i off. refl }
move setup log sched ps k q p below at here (alone {p = r} way stepped none) =
    let m = move setup log sched ps k q r below at here way in
    record {
      sched = m.sched ++ cpu_numbered k ∷ [];
      qs = slice_set m.qs k (cpu_step setup (cpu_numbered k) r log).next;
      way = subst (λ acts. Goes setup (m.sched ++ cpu_numbered k ∷ []) (slice_set m.qs k (cpu_step setup (cpu_numbered k) r log).next) (acts ++ log)) none
          (goes (cpu_numbered k) r m.way below m.here stepped);
      here = set_here m.qs k r (cpu_step setup (cpu_numbered k) r log).next m.here;
      others = λ i off. set_else m.qs k i (cpu_step setup (cpu_numbered k) r log).next off ∙ m.others i off;
    }

-- the steps of a CPU from here to its last state
abbrev FromWay : SystemConfig → List (Action Name) → (ℕ → CpuLocal → Type 0) → ℕ → CpuLocal → Type 0
FromWay setup log R k q = (p : CpuLocal) × Way setup (cpu_numbered k) log q p × R k p

-- the first n CPUs have taken their steps
abbrev Half : SystemConfig → List (Action Name) → (ℕ → CpuLocal → Type 0) → ℕ → ℕ → CpuLocal → Type 0
Half setup log R n k q = (k < n → R k q) × (n ≤ k → FromWay setup log R k q)

-- CPU n has taken its steps too
gone : (setup : SystemConfig) (log : List (Action Name)) (R : ℕ → CpuLocal → Type 0) (n : ℕ) (ps : List CpuLocal) (p : CpuLocal) (m : Moved setup log ps n p)
    → R n p
    → (k : ℕ) → ((q : CpuLocal) × (slice_get ps k ≡ Some q) × Half setup log R n k q) → (k ≡ n) ⊎ (k ≡ n → ⊥)
    → (q : CpuLocal) × (slice_get m.qs k ≡ Some q) × Half setup log R (suc n) k q
gone setup log R n ps p m is k at x = grind (arith, m, is, at)

halfway : (setup : SystemConfig) (log : List (Action Name)) (R : ℕ → CpuLocal → Type 0) → Reached setup log (FromWay setup log R) → (n : ℕ) → n ≤ setup.cpus
    → Reached setup log (Half setup log R n)
halfway setup log R from zero few = record {
  sched = from.sched;
  ps = from.ps;
  way = from.way;
  all = λ k below. let x = from.all k below in (x.0, x.1, ((λ under. absurd (omega (arith, under))), (λ over. x.2)));
}
halfway setup log R from (suc n) few =
    let r = halfway setup log R from n (omega (arith, few)) in
    let below : n < setup.cpus = omega (arith, few) in
    let x = r.all n below in
    let on : FromWay setup log R n x.0 = x.2.1 (omega arith) in
    let m = move setup log r.sched r.ps n x.0 on.0 below r.way x.1 on.1 in
    record { sched = m.sched; ps = m.qs; way = m.way; all = λ k within. gone setup log R n r.ps on.0 m on.2 k (r.all k within) (cases_eq k n) }

ways : (setup : SystemConfig) (log : List (Action Name)) (R : ℕ → CpuLocal → Type 0) → Reached setup log (FromWay setup log R) → Reached setup log R
ways setup log R from =
    let r = halfway setup log R from setup.cpus (omega arith) in
    record { sched = r.sched; ps = r.ps; way = r.way; all = λ k below. let x = r.all k below in (x.0, x.1, x.2.0 below) }

-- ---- along the list

-- a CPU has reached its private state along the list, and this holds of it
abbrev Came : SystemConfig → List (Action Name) → (ℕ → CpuLocal → Type 0) → ℕ → Type 0
Came setup log R k = (n : ℕ) × (p : CpuLocal) × AlongTable setup (cpu_numbered k) n p log × R k p

-- what the newest action makes of a CPU's private state
abbrev Turn : SystemConfig → Action Name → List (Action Name) → ℕ → CpuLocal → CpuLocal → Type 0
Turn setup a past k r mid = ((same_cpu (cpu_of_action a) (cpu_numbered k) ≡ false) × (mid ≡ r))
    ⊎ ((same_cpu (cpu_of_action a) (cpu_numbered k) ≡ true) × ((cpu_step setup (cpu_numbered k) r past).acts ≡ a ∷ [])
    × ((cpu_step setup (cpu_numbered k) r past).answer ≡ Stepped) × (mid ≡ (cpu_step setup (cpu_numbered k) r past).next))

-- from here the newest action and the steps after it lead to the CPU's last state
abbrev Before : SystemConfig → Action Name → List (Action Name) → (ℕ → CpuLocal → Type 0) → ℕ → CpuLocal → Type 0
Before setup a past R k r = (mid : CpuLocal) × Turn setup a past k r mid × FromWay setup (a ∷ past) R k mid

-- a CPU that did not act is in the same state
idle : (setup : SystemConfig) (a : Action Name) (past : List (Action Name)) (R : ℕ → CpuLocal → Type 0) (k : ℕ) (r : CpuLocal) → (k ≡ (cpu_of_action a).0 → ⊥)
    → Before setup a past R k r → FromWay setup (a ∷ past) R k r
idle setup a past R k r off before = grind arith

-- the CPU that acts continues
acted : (setup : SystemConfig) (a : Action Name) (past : List (Action Name)) (R : ℕ → CpuLocal → Type 0) → (cpu_of_action a).0 < setup.cpus
    → Reached setup past (Before setup a past R) → Reached setup (a ∷ past) (FromWay setup (a ∷ past) R)
acted setup a past R within before = let x = before.all d within in by_turn x.0 x.1 x.2.0 x.2.1 x.2.2
  where
    d : ℕ
    d = (cpu_of_action a).0

    each : (r mid : CpuLocal) → mid ≡ (cpu_step setup (cpu_of_action a) r past).next → slice_get before.ps d ≡ Some r → FromWay setup (a ∷ past) R d mid
        → (k : ℕ) → k < setup.cpus → (k ≡ d) ⊎ (k ≡ d → ⊥)
        → (q : CpuLocal) × (slice_get (slice_set before.ps d (cpu_step setup (cpu_of_action a) r past).next) k ≡ Some q) × FromWay setup (a ∷ past) R k q
    each r mid is at on k below (inl same) = (
      mid,
      subst (λ i. slice_get (slice_set before.ps d (cpu_step setup (cpu_of_action a) r past).next) i ≡ Some mid) (sym same)
          (set_here before.ps d r (cpu_step setup (cpu_of_action a) r past).next at ∙ ap Some (sym is)),
      subst (λ i. FromWay setup (a ∷ past) R i mid) (sym same) on,
    )
    each r mid is at on k below (inr off) =
        let x = before.all k below in (
          x.0,
          set_else before.ps d k (cpu_step setup (cpu_of_action a) r past).next off ∙ x.1,
          idle setup a past R k x.0 off x.2,
        )

    by_turn : (r : CpuLocal) → slice_get before.ps d ≡ Some r → (mid : CpuLocal) → Turn setup a past d r mid → FromWay setup (a ∷ past) R d mid
        → Reached setup (a ∷ past) (FromWay setup (a ∷ past) R)
    by_turn r at mid (inl off) on = refuted off.0 (same_cpu_self (cpu_of_action a))
    by_turn r at mid (inr turn) on = record {
      sched = before.sched ++ cpu_of_action a ∷ [];
      ps = slice_set before.ps d (cpu_step setup (cpu_of_action a) r past).next;
      way = subst (λ acts. Goes setup (before.sched ++ cpu_of_action a ∷ [])
          (slice_set before.ps d (cpu_step setup (cpu_of_action a) r past).next) (acts ++ past))
          turn.1 (goes (cpu_of_action a) r before.way within at turn.2);
      all = λ k below. each r mid turn.3 at on k below (cases_eq k d);
    }

merged : (setup : SystemConfig) (log : List (Action Name)) → ((c : CpuId) → setup.cpus ≤ c.0 → own_events cpu_of_action c log ≡ [])
    → (R : ℕ → CpuLocal → Type 0) → ((k : ℕ) → k < setup.cpus → Came setup log R k) → Reached setup log R
merged setup [] rest R came = ways setup [] R (record {
  sched = [];
  ps = boots_from setup 0 setup.cpus;
  way = boots;
  all = λ k below. let x = came k below in (
    boot_of setup (cpu_numbered (0 + k)),
    booted setup 0 setup.cpus k below,
    (x.1, at_zero k x.1 (from_boot setup (cpu_numbered k) x.0 x.1 [] x.2 refl), x.3),
  );
})
  where
    at_zero : (k : ℕ) (p : CpuLocal) → Way setup (cpu_numbered k) [] (boot_of setup (cpu_numbered k)) p
        → Way setup (cpu_numbered k) [] (boot_of setup (cpu_numbered (0 + k))) p
    at_zero k p way = subst (λ n. Way setup (cpu_numbered k) [] (boot_of setup (cpu_numbered n)) p) (sym (zero-add k)) way
merged setup (a ∷ past) rest R came = by_cpu (merged setup past earlier (Before setup a past R) before) (cases_lt (cpu_of_action a).0 setup.cpus)
  where
    earlier : (c : CpuId) → setup.cpus ≤ c.0 → own_events cpu_of_action c past ≡ []
    earlier c beyond = grind (arith, rest c beyond)

    before : (k : ℕ) → k < setup.cpus → Came setup past (Before setup a past R) k
    before k below =
        let x = came k below in
        let e = cut setup (cpu_numbered k) x.0 x.1 (a ∷ past) x.2 a past refl in
        (e.count, e.before, e.along, (e.mid, e.next, (x.1, e.way, x.3)))

    by_cpu : Reached setup past (Before setup a past R) → ((cpu_of_action a).0 < setup.cpus) ⊎ (setup.cpus ≤ (cpu_of_action a).0) → Reached setup (a ∷ past) R
    by_cpu earlier_one (inl within) = ways setup (a ∷ past) R (acted setup a past R within earlier_one)
    by_cpu earlier_one (inr beyond) =
        absurd (cc (ap (λ b. if b then a ∷ own_events cpu_of_action (cpu_of_action a) past else own_events cpu_of_action (cpu_of_action a) past)
        (sym (same_cpu_self (cpu_of_action a))) ∙ rest (cpu_of_action a) beyond))

-- the state that each CPU reached along the list
abbrev Last : (setup : SystemConfig) (log : List (Action Name)) → IsWorked setup log → ℕ → CpuLocal → Type 0
Last setup log worked k p = (below : k < setup.cpus) × (p ≡ (worked.ran (cpu_numbered k) below).last)

pub work_is_a_run : WorkIsARun
work_is_a_run setup log worked =
    let r = merged setup log worked.rest (Last setup log worked) (λ k below.
    let ran = worked.ran (cpu_numbered k) below in (ran.count, ran.last, ran.steps, (below, refl))) in
    record {
      steps = r.sched;
      known = goes_known setup r.sched r.ps log r.way;
      log_is = λ room few. ap (λ (w : SystemState). w.log) (goes_whole setup r.sched r.ps log r.way room few);
      taken_is = λ room few. ap (λ (w : SystemState). w.taken) (goes_whole setup r.sched r.ps log r.way room few);
      many = λ room few. ap (λ (w : SystemState). length w.cpus) (goes_whole setup r.sched r.ps log r.way room few) ∙ goes_long setup r.sched r.ps log r.way;
      cpus_are = λ room few c below.
          let x = r.all c.0 below in
          (x.2.0, ap (λ (w : SystemState). slice_get w.cpus c.0) (goes_whole setup r.sched r.ps log r.way room few) ∙ x.1 ∙ ap Some x.2.1);
    }
