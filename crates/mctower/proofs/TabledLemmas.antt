-- What a run's system reports is what the step table's system of its plan and its steps has.
use Rattle.std.proofs.Common.{◌≡◌, ◌↔◌, ℕ, zero, suc, ◌+◌, ◌<◌, true, List, [], ◌∷◌, length, map, Some, refl, ap, sym, ◌∙◌, subst, arith}
use Rattle.std.{proofs.lemmas.{List.{ext_get_or, length-map}, Option.slice_get_within}, specs.Prelude.{slice_get, slice_index_or}}
use Rattle.event_log.specs.{declared.{entries.Entry.Entry, ids.{CpuId.CpuId, LockId.TheVariants.Buffer as AtBuffer}}, Traces.IsInterleaving}
use Rattle.{boot.specs.Plan.BootPlan, cpu.specs.{Claims.{CpuView, SystemView, buffer_at, listed, traces_of}, Sound.{IsSetupFor, setup_for}, Systems.halted_in}}
use Rattle.cpu.specs.{Systems.whole_of, Table.{Setups.{CpuLocal, SystemConfig}, Steps.{SystemState, block_at, boots_from, cpu_numbered}}}
use Rattle.cpu.{specs.{Observed.{IsPlaceByTable, ObservedByTable}, Wakeups.Quiet.IsQuietTable}, proofs.ListFacts.ListReads.{listed_length, listed_there}}
use Rattle.{cpu.proofs.ListFacts.ListReads.{map_twice, shows_at, there_is}, mctower.{proofs.OrderNumbers.contents_length, specs.Plans.table_run}}
use Rattle.mctower.specs.{Running.IsRunOf, State.{IsStateOf, places_in}, Texts.IsTextOf, declared.tell.state_lines.State.State, Tabled.IsStateOfRun}
use Rattle.mctower.specs.Tabled.{IsTextOfRun, NothingIsPrinted, contents_at, items_held, reason_at, traces_at}

-- what two functions make alike of each element
map_alike : {X Y : Type 0} (f g : X → Y) (xs : List X) → ((k : ℕ) (x : X) → slice_get xs k ≡ Some x → f x ≡ g x) → map f xs ≡ map g xs
map_alike f g [] each = refl
map_alike f g (x ∷ xs) each = cc (each 0 x refl, map_alike f g xs (λ k y at. each (suc k) y at))

-- a list whose elements are these values is the list of them
listed_is : {X : Type 0} (xs : List X) (f : ℕ → X) (n : ℕ) (d : X) → length xs ≡ n → ((b : ℕ) → b < n → slice_index_or xs b d ≡ f b) → xs ≡ listed f 0 n
listed_is xs f n d count each =
    ext_get_or d xs (listed f 0 n) (count ∙ sym (listed_length f n 0))
    (λ b within. let there : b < n = omega (arith, within, count) in each b there ∙ sym (listed_there f n b d there))

pub listed_alike : {X : Type 0} (f g : ℕ → X) (n : ℕ) → ((b : ℕ) → b < n → f b ≡ g b) → listed f 0 n ≡ listed g 0 n
listed_alike f g n each =
    listed_is (listed f 0 n) g n (f 0) (listed_length f n 0) (λ b within. listed_there f n b (f 0) within ∙ each b within)

module _ (IsStepwise : Type 0) (plan : BootPlan) (steps : List CpuId) (s : SystemView) (ran : IsRunOf IsStepwise plan steps s) (step : IsStepwise) where
  abbrev setup : SystemConfig
  setup = setup_for plan

  told : ObservedByTable s
  told = ran.told step

  planned : IsSetupFor (setup_for plan) s
  planned = ran.planned

  traces_are : traces_of s ≡ traces_at (whole_of s)
  traces_are =
      map_alike (λ (p : CpuView). p.trace) (λ (p : CpuView). p.cpu_local.trace) s.cpus (λ k p at. sym (told.cpus setup planned k p at).trace)
      ∙ sym (map_twice (λ (p : CpuView). p.cpu_local) (λ (q : CpuLocal). q.trace) s.cpus)

  caps_long : length s.caps ≡ length plan.caps
  caps_long = ap (λ (l : List ℕ). length l) ran.system.caps

  contents_wide : length s.contents ≡ length plan.caps
  contents_wide = contents_length s ran.linearization ∙ caps_long

  contents_are : s.contents ≡ contents_at setup (whole_of s)
  contents_are =
      listed_is s.contents (λ b. items_held (block_at setup (AtBuffer (buffer_at b)) s.log)) (length plan.caps) [] contents_wide
      (λ b within. let has = told.buffers setup planned b (omega (arith, within, caps_long)) in has.observed.items ∙ sym (ap items_held has.there))

  -- the text is the table's
  pub text_of_run : (text : List ℕ) → IsTextOf plan.caps (traces_of s) s.contents text → IsTextOfRun plan steps text
  text_of_run text is = rw (← ran.table step, ← contents_are, ← traces_are) is

  reason_is : (k : ℕ) → k < length s.cpus → halted_in (cpu_numbered k) s ≡ reason_at setup (whole_of s) k
  reason_is k within =
      let there = there_is s.cpus k within in
      let one = told.cpus setup planned k there.0 there.1 in
      rw (there.1, shows_at (λ (q : CpuView). q.cpu_local) s.cpus k there.0 there.1, one.inside, one.halted) refl

  -- and what is reported of the state is reported of the table's
  pub state_of_run : (state : State) → IsStateOf IsStepwise s state → IsStateOfRun plan steps state
  state_of_run state is = record {
    halted = is.halted
        ∙ listed_alike (λ k. halted_in (cpu_numbered k) s) (reason_at setup (whole_of s)) (length s.cpus) reason_is
        ∙ ap (λ n. listed (reason_at setup (whole_of s)) 0 n) ran.system.cpus
        ∙ ap (λ (w : SystemState). listed (reason_at setup w) 0 plan.cpus) (ran.table step);
    many = is.many ∙ ap (λ (l : List CpuId). length l) ran.system.homes ∙ length-map plan.tasks _;
    places = λ t at there.
        let long = is.many in
        let below = slice_get_within (places_in state) t at there in
        subst (λ (w : SystemState). IsPlaceByTable setup w (record { 0 = t }) at) (ran.table step)
        (told.places setup planned (record { 0 = t }) at (omega (arith, below, long)) (is.places t at there));
    quiet = subst (λ (w : SystemState). (state.is_quiet ≡ true) ↔ IsQuietTable setup w) (ran.table step) (is.table step setup planned);
  }

-- at boot no trace has an entry
boots_bare : (setup_is : SystemConfig) (n k j : ℕ) (trace : List Entry)
    → slice_get (traces_at (record { cpus = boots_from setup_is n k; log = []; room = 0; taken = 0 })) j
    ≡ Some trace → trace ≡ []
boots_bare setup_is n zero j trace at = absurd cc
boots_bare setup_is n (suc k) zero trace at = cc
boots_bare setup_is n (suc k) (suc j) trace at = boots_bare setup_is (n + 1) k j trace at

none_first : (traces : List (List Entry)) (order : List Entry) → ((j : ℕ) (trace : List Entry) → slice_get traces j ≡ Some trace → trace ≡ [])
    → IsInterleaving traces order → order ≡ []
none_first traces [] bare keeps = refl
none_first traces (e ∷ es) bare keeps = absurd (cc (bare keeps.0 (e ∷ keeps.1) keeps.2))

pub nothing_printed : NothingIsPrinted
nothing_printed plan text told =
    none_first (traces_at (table_run plan [])) told.order (λ j trace at. boots_bare (setup_for plan) 0 plan.cpus j trace at) told.keeps.0
