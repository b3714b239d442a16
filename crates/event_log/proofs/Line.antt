-- The queue at one lock: which CPUs are in it, with which ticket index, and why no CPU enters out
-- of turn.
use Rattle.std.proofs.Common.{◌≡◌, ℕ, zero, suc, ◌+◌, ◌<◌, ◌≤◌, ◌⊎◌, inl, inr, Bool, true, false, if◌then◌else◌, refl, sym, ◌∙◌, arith}
use Rattle.{std.proofs.lemmas.Bool.{eqb-true, cases_Bool, cases_eq}, event_log.specs.{declared.ids.{CpuId.CpuId, TheConstants.CPUS}, History.same_cpu}}
use Rattle.event_log.proofs.Same.{cpu_numbered, same_cpu_true}

-- of the CPUs below n, how many are there
unfoldable pub crowd : (CpuId → Bool) → ℕ → ℕ
crowd stands zero = 0
crowd stands (suc n) = if stands (cpu_numbered n) then crowd stands n + 1 else crowd stands n

pub crowd_within : (stands : CpuId → Bool) (n : ℕ) → crowd stands n ≤ n
unfolding crowd
crowd_within stands zero = omega arith
crowd_within stands (suc n) = grind (arith, crowd_within stands n)

-- if f and g agree below n, they count the same
crowd_same_below : (f g : CpuId → Bool) (n : ℕ) → ((c : CpuId) → c.0 < n → g c ≡ f c) → crowd g n ≡ crowd f n
unfolding crowd
crowd_same_below f g zero same = refl
crowd_same_below f g (suc n) same =
    let here = same (cpu_numbered n) (omega arith) in
    grind (arith, crowd_same_below f g n (λ c below. same c (omega arith)))

pub crowd_same : (f g : CpuId → Bool) (n : ℕ) → ((c : CpuId) → g c ≡ f c) → crowd g n ≡ crowd f n
crowd_same f g n same = crowd_same_below f g n (λ c below. same c)

pub crowd_none : (n : ℕ) → crowd (λ c. false) n ≡ 0
unfolding crowd
crowd_none zero = refl
crowd_none (suc n) = crowd_none n

pub crowd_absent : (stands : CpuId → Bool) (n : ℕ) → ((c : CpuId) → c.0 < n → stands c ≡ false) → crowd stands n ≡ 0
crowd_absent stands n absent = crowd_same_below (λ c. false) stands n absent ∙ crowd_none n

-- with one more CPU there, the crowd is one larger
pub crowd_more : (f g : CpuId → Bool) (n d : ℕ) → d < n → f (cpu_numbered d) ≡ false → g (cpu_numbered d) ≡ true
    → ((k : ℕ) → (d ≡ k → ⊥) → g (cpu_numbered k) ≡ f (cpu_numbered k)) → crowd g n ≡ crowd f n + 1
unfolding crowd
crowd_more f g zero d within absent present same = absurd (omega arith)
crowd_more f g (suc n) d within absent present same = elim (cases_eq d n) [
  | inl e ↦ let below = crowd_same_below f g n (λ c less. same c.0 (λ alike. omega arith)) in grind arith
  | inr other ↦
      let here = same n other in
      let below = crowd_more f g n d (omega arith) absent present same in
      grind arith
]

-- another number names another CPU
pub not_same : (d : CpuId) (k : ℕ) → (d.0 ≡ k → ⊥) → same_cpu d (cpu_numbered k) ≡ false
not_same d k differs = grind (arith, eqb-true)

-- The queue at a lock: of `taken` ticket indices `given` were served. Each CPU in the queue has one
-- of the others, no two have the same, and as many indices are left as there are CPUs. The CPU that
-- holds the lock has the ticket index that is served.
pub record Line (taken given : ℕ) (stands holds : CpuId → Bool) (ticket_index : CpuId → ℕ) : Type 0 where
  pub balance : taken ≡ given + crowd stands CPUS
  pub known : (c : CpuId) → stands c ≡ true → c.0 < CPUS
  pub ahead : (c : CpuId) → stands c ≡ true → given ≤ ticket_index c
  pub behind : (c : CpuId) → stands c ≡ true → ticket_index c < taken
  pub apart : (c d : CpuId) → stands c ≡ true → stands d ≡ true → ticket_index c ≡ ticket_index d → c ≡ d
  pub inside : (c : CpuId) → holds c ≡ true → stands c ≡ true
  pub first : (c : CpuId) → holds c ≡ true → ticket_index c ≡ given

module _ {taken given : ℕ} {stands holds stands' holds' : CpuId → Bool} {ticket_index ticket_index' : CpuId → ℕ}
    (line : Line taken given stands holds ticket_index) (d : CpuId)
    (others : (c : CpuId) → same_cpu d c ≡ false → (stands' c ≡ stands c) × (holds' c ≡ holds c) × (ticket_index' c ≡ ticket_index c)) where
  -- each CPU is d, or nothing changes for it
  d_or_same : (c : CpuId) → (d ≡ c) ⊎ ((stands' c ≡ stands c) × (holds' c ≡ holds c) × (ticket_index' c ≡ ticket_index c))
  d_or_same c = elim (cases_Bool (same_cpu d c)) [ inl same ↦ inl (same_cpu_true d c same) | inr other ↦ inr (others c other) ]

  -- no CPU joins or leaves; d may enter if its ticket index is served
  pub line_stays : stands' d ≡ stands d → (stands d ≡ true → ticket_index' d ≡ ticket_index d)
      → (holds' d ≡ true → (stands d ≡ true) × (ticket_index d ≡ given))
      → Line taken given stands' holds' ticket_index'
  line_stays same still entered =
      let alike = crowd_same stands' stands CPUS (λ c. grind (arith, d_or_same c)) in
      grind (arith, d_or_same, line.known, line.ahead, line.behind, line.apart, line.inside, line.first)

  -- d joins: it takes the ticket index after all others
  pub line_joined : d.0 < CPUS → stands d ≡ false → stands' d ≡ true → holds' d ≡ false → ticket_index' d ≡ taken
      → Line (taken + 1) given stands' holds' ticket_index'
  line_joined known was_not is not_yet last =
      let grown = crowd_more stands stands' CPUS d.0 known was_not is (λ k differs. (others (cpu_numbered k) (not_same d k differs)).0) in
      grind (arith, d_or_same, line.known, line.ahead, line.behind, line.apart, line.inside, line.first)

  -- d, which holds the lock, leaves
  pub line_left : holds d ≡ true → stands' d ≡ false → holds' d ≡ false → Line taken (given + 1) stands' holds' ticket_index'
  line_left held gone gives =
      let stood = line.inside d held in
      let served = line.first d held in
      let grown = crowd_more stands' stands CPUS d.0 (line.known d stood) gone stood (λ k differs. sym (others (cpu_numbered k) (not_same d k differs)).0) in
      grind (arith, d_or_same, line.known, line.ahead, line.behind, line.apart, line.inside, line.first)
