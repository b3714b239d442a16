-- What one action at the locks does to the stages of sections and to the history of sections.
use Rattle.std.proofs.Common.{◌≡◌, ◌≢◌, ℕ, ◌%◌, ◌^◌, Bool, true, false, List, [], ◌∷◌, ◌++◌, Option, Some, None, IsSome, MatchOption, option_map, refl, ap, sym}
use Rattle.std.proofs.Common.{◌∙◌, subst, if◌then◌else◌, ne_eqb}
use Rattle.event_log.specs.{declared.ids.{CpuId.CpuId, LockId.LockId}, History.{Adds, Grows, AreOthers, same_cpu, same_lock}, Sections.Section}
use Rattle.event_log.specs.{Sections.{cpu_of_section, block_after, sections_in}, Actions.{Action, Take, Try, Give, Phase, Rests, Waits, Holds, AreLegal}}
use Rattle.event_log.{specs.Actions.{action_in, cpu_of_action, phase, ticket_index_of}, proofs.{Exclusion.{one_holds, phase_own}, Foreign.phase_others}}
use Rattle.event_log.proofs.{Foreign.{spot_others, sections_in-append, others_sections_in}, Same.{same_cpu_self, same_lock_true}}
use Rattle.layer_traits.{proofs.Seen.stays_on, specs.Polling.{Looks.Tries, Plans.{Follows, table_of, at_give, section_plan, answered, is_in_section}}}
use Rattle.layer_traits.specs.{Polling.{Framed.{Framed, Stays}, Polls.PolledAtLock}, Protocols.Protocol.{Rules, StaysAllowed, section}}
use Rattle.spinlock.specs.{Stages.{StageFits, hit_by}, declared.stages.TicketPhase.{TicketPhase, TheVariants.{Out, Waiting, Holding}}}

cpu_differs : (a b : CpuId) → b ≢ a → same_cpu a b ≡ false
cpu_differs a b other = ne_eqb a.0 b.0 (λ e. other (ap (λ (k : ℕ). record { 0 = k }) (sym e)))

module _ {E B : Type 0} (edited : E → B → B) (opening : LockId → Option B) (cpu : CpuId) (lock : LockId) where
  -- while a CPU holds a lock, another CPU releases only another lock
  gives_elsewhere : (by : CpuId) (at : LockId) (edit : E) (past : List (Action E)) → AreLegal past → same_cpu by cpu ≡ false
      → phase by past ≡ Holds at → phase cpu past ≡ Holds lock → (b : Bool) → same_lock lock at ≡ b
      → (if b then option_map (edited edit) (block_after edited opening lock (sections_in past)) else block_after edited opening lock (sections_in past))
      ≡ block_after edited opening lock (sections_in past)
  gives_elsewhere by at edit past legal other there here false elsewhere = refl
  gives_elsewhere by at edit past legal other there here true same =
      let one : by ≡ cpu = one_holds past legal by cpu lock (rw (same_lock_true lock at same) there) here in
      let itself : same_cpu by cpu ≡ true = rw one (same_cpu_self cpu) in absurd (cc (other, itself))

  -- therefore no action of other CPUs changes the block that the sections leave there
  block_stays : (more acts : List (Action E)) → AreLegal (more ++ acts) → AreOthers cpu_of_action cpu more → phase cpu acts ≡ Holds lock
      → block_after edited opening lock (sections_in (more ++ acts)) ≡ block_after edited opening lock (sections_in acts)
  block_stays [] acts legal others holds = refl
  block_stays (Take by at ∷ more) acts legal others holds = block_stays more acts legal.1 others.1 holds
  block_stays (Try by at hit ∷ more) acts legal others holds = block_stays more acts legal.1 others.1 holds
  block_stays (Give by at edit ∷ more) acts legal others holds =
      gives_elsewhere by at edit (more ++ acts) legal.1 others.0 legal.0 (phase_others cpu more acts others.1 ∙ holds) (same_lock lock at) refl
      ∙ block_stays more acts legal.1 others.1 holds

module _ {E B O : Type 0} (protocol : Rules E B O) (opening : LockId → Option B) where
  -- a section stays allowed after actions of other CPUs
  allowed_stays : (s : Section E) (more acts : List (Action E)) → AreOthers cpu_of_action s.cpu more
      → StaysAllowed (protocol.allowed opening) (sections_in acts) s → StaysAllowed (protocol.allowed opening) (sections_in (more ++ acts)) s
  allowed_stays s more acts others stays = rw (sections_in-append more acts)
      (stays_on (protocol.allowed opening) (sections_in more) (sections_in acts) s (others_sections_in s.cpu more others) stays)

  -- a stage still fits if its CPU has its phase and its ticket index, may do what it could do, and
  -- finds the block that it holds
  pub stage_stays : (cpu : CpuId) (stage : TicketPhase E B) (old new : List (Action E)) → phase cpu new ≡ phase cpu old
      → ticket_index_of cpu new ≡ ticket_index_of cpu old
      → ((s : Section E) → s.cpu ≡ cpu → StaysAllowed (protocol.allowed opening) (sections_in old) s
      → StaysAllowed (protocol.allowed opening) (sections_in new) s)
      → ((lock : LockId) → phase cpu old ≡ Holds lock
      → block_after protocol.edited opening lock (sections_in new) ≡ block_after protocol.edited opening lock (sections_in old))
      → StageFits protocol opening old cpu stage → StageFits protocol opening new cpu stage
  stage_stays cpu Out old new at ticket_index may found coupled = at ∙ coupled
  stage_stays cpu (Waiting lock edit ticket) old new at ticket_index may found coupled =
      ((at ∙ coupled.0.0, coupled.0.1 ∙ ap (λ n. n % 2 ^ 64) (sym ticket_index)), may (section cpu lock edit) refl coupled.1, coupled.2)
  stage_stays cpu (Holding lock edit block) old new at ticket_index may found coupled =
      (at ∙ coupled.0, may (section cpu lock edit) refl coupled.1, found lock coupled.0 ∙ coupled.2)

-- an unchanged history has grown by nothing
pub grown_by_none : {E : Type 0} (ActsFor : CpuId → Type 0) (by : E → CpuId) (past : List E) → Grows ActsFor by past past
grown_by_none ActsFor by past = record { others = []; foreign = λ c acts. tt; is = refl }

-- what precedes legal actions is legal
grown : {E : Type 0} {ActsFor : CpuId → Type 0} {a : Action E} {old new : List (Action E)} (adds : Adds ActsFor cpu_of_action a old new) → AreLegal new
    → AreLegal (a ∷ (adds.others ++ old))
grown adds legal = rw adds.is at legal

-- a step in which one action of a CPU follows environment actions; the opening blocks are unchanged
module _ {E B O : Type 0} (protocol : Rules E B O) {opening opening' : LockId → Option B} (same : opening' ≡ opening) {ActsFor : CpuId → Type 0} {cpu : CpuId}
    {old new : List (Action E)} (legal : AreLegal new) where
  -- the parts of other CPUs still fit
  others_fit : (a : Action E) → cpu_of_action a ≡ cpu → Adds ActsFor cpu_of_action a old new → (q : CpuId) (stage : TicketPhase E B) → q ≢ cpu → ActsFor q
      → StageFits protocol opening old q stage → StageFits protocol opening' new q stage
  others_fit a acts adds q stage other acts_q coupled =
      let more = a ∷ adds.others in
      let others : AreOthers cpu_of_action q more = (rw acts (cpu_differs cpu q other), adds.foreign q acts_q) in
      rw (same, adds.is) (stage_stays protocol opening q stage old (more ++ old) (phase_others q more old others) (spot_others q more old others)
      (λ s its. allowed_stays protocol opening s more old (subst (λ c. AreOthers cpu_of_action c more) (sym its) others))
      (λ lock. block_stays protocol.edited opening q lock more old (grown adds legal) others) coupled)

  -- no other CPU begins to wait or to hold
  others_rest : (a : Action E) → cpu_of_action a ≡ cpu → Adds ActsFor cpu_of_action a old new → (q : CpuId) → q ≢ cpu → ActsFor q
      → is_in_section (phase q new) ≡ true → is_in_section (phase q old) ≡ true
  others_rest a acts adds q other acts_q inside =
      let others : AreOthers cpu_of_action q (a ∷ adds.others) = (rw acts (cpu_differs cpu q other), adds.foreign q acts_q) in
      ap is_in_section (sym (ap (phase q) adds.is ∙ phase_others q (a ∷ adds.others) old others)) ∙ inside

  -- what is allowed stays so after environment actions
  allowed_on : (lock : LockId) (edit : E) (a : Action E) (adds : Adds ActsFor cpu_of_action a old new) → ActsFor cpu
      → StaysAllowed (protocol.allowed opening) (sections_in old) (section cpu lock edit)
      → StaysAllowed (protocol.allowed opening') (sections_in (adds.others ++ old)) (section cpu lock edit)
  allowed_on lock edit a adds acts stays = rw same (allowed_stays protocol opening (section cpu lock edit) adds.others old (adds.foreign cpu acts) stays)

  -- a CPU that joined the queue waits with the ticket of its ticket index
  pub joined_fits : (lock : LockId) (edit : E) (ticket : ℕ) → Adds ActsFor cpu_of_action (Take cpu lock) old new → ticket ≡ ticket_index_of cpu new % 2 ^ 64
      → ActsFor cpu
      → StaysAllowed (protocol.allowed opening) (sections_in old) (section cpu lock edit) → IsSome (opening lock)
      → StageFits protocol opening' new cpu (Waiting lock edit ticket)
  joined_fits lock edit ticket adds has acts stays there = (
    (ap (phase cpu) adds.is ∙ phase_own (Take cpu lock) (adds.others ++ old), has),
    rw adds.is (allowed_on lock edit (Take cpu lock) adds acts stays),
    rw same there,
  )

  -- a CPU that tried still waits, or holds the lock with the block
  pub tried_fits : (lock : LockId) (edit : E) (ticket : ℕ) (hit : Bool) → Adds ActsFor cpu_of_action (Try cpu lock hit) old new
      → ticket ≡ ticket_index_of cpu old % 2 ^ 64
      → ActsFor cpu → StaysAllowed (protocol.allowed opening) (sections_in old) (section cpu lock edit) → IsSome (opening lock) → (found : Option B)
      → MatchOption found (phase cpu new ≡ Waits lock)
      (λ block. (phase cpu new ≡ Holds lock) × (block_after protocol.edited opening' lock (sections_in new) ≡ Some block))
      → (stage : TicketPhase E B) → stage ≡ hit_by found (Waiting lock edit ticket) → StageFits protocol opening' new cpu stage
  tried_fits lock edit ticket hit adds has acts stays there None waits stage is =
      let ticket_index = ap (ticket_index_of cpu) adds.is ∙ spot_others cpu adds.others old (adds.foreign cpu acts) in
      rw is ((waits, has ∙ ap (λ n. n % 2 ^ 64) (sym ticket_index)), rw adds.is (allowed_on lock edit (Try cpu lock hit) adds acts stays), rw same there)
  tried_fits lock edit ticket hit adds has acts stays there (Some block) holds stage is =
      rw is (holds.0, rw adds.is (allowed_on lock edit (Try cpu lock hit) adds acts stays), holds.1)

  -- a CPU that released its lock rests
  pub left_fits : (lock : LockId) (edit : E) → Adds ActsFor cpu_of_action (Give cpu lock edit) old new → StageFits protocol opening' new cpu Out
  left_fits lock edit adds = ap (phase cpu) adds.is ∙ phase_own (Give cpu lock edit) (adds.others ++ old)

  -- while a CPU holds a lock, environment actions leave its block unchanged
  found_still : (lock : LockId) (edit : E) (adds : Adds ActsFor cpu_of_action (Give cpu lock edit) old new) → ActsFor cpu → phase cpu old ≡ Holds lock
      → block_after protocol.edited opening lock (sections_in (adds.others ++ old)) ≡ block_after protocol.edited opening lock (sections_in old)
  found_still lock edit adds acts holds = block_stays protocol.edited opening cpu lock adds.others old (grown adds legal).1 (adds.foreign cpu acts) holds

  -- a Give ends its section, with the result of its edit on the block with which the CPU entered
  pub left_polled : (lock : LockId) (edit : E) (adds : Adds ActsFor cpu_of_action (Give cpu lock edit) old new) → ActsFor cpu → phase cpu old ≡ Holds lock
      → (block : B) → block_after protocol.edited opening lock (sections_in old) ≡ Some block → (out : O) → out ≡ protocol.answer edit block
      → PolledAtLock protocol opening ActsFor (section cpu lock edit) (Some out) (sections_in old) (sections_in new)
  left_polled lock edit adds acts holds block found out answers = record {
    others = sections_in adds.others;
    foreign = λ c acts. others_sections_in c adds.others (adds.foreign c acts);
    is = ap sections_in adds.is ∙ ap (λ l. section cpu lock edit ∷ l) (sections_in-append adds.others old);
    answers = rw (← (sections_in-append adds.others old), found_still lock edit adds acts holds ∙ found) (ap Some (sym answers));
  }

  -- the action was the one that was due
  follows : (lock : LockId) (edit : E) (a : Action E) (adds : Adds ActsFor cpu_of_action a old new) (result : Option O) (now : Phase)
      → phase cpu (adds.others ++ old) ≡ now → a ≡ action_in cpu lock edit (adds.others ++ old) now
      → result ≡ at_give now (option_map (protocol.answer edit) (block_after protocol.edited opening lock (sections_in (adds.others ++ old))))
      → Follows ActsFor (table_of protocol) opening cpu (section_plan lock edit) old new (answered result)
  follows lock edit a adds result now is due answers = record {
    past = adds.others ++ old;
    acted = record { others = adds.others; foreign = adds.foreign; joined = refl; grows = adds.is ∙ ap (λ x. x ∷ (adds.others ++ old)) (rw is due) };
    moves = ap answered (rw is answers);
  }

  pub joined_follows : (lock : LockId) (edit : E) → Adds ActsFor cpu_of_action (Take cpu lock) old new
      → Follows ActsFor (table_of protocol) opening cpu (section_plan lock edit) old new (answered None)
  joined_follows lock edit adds = follows lock edit (Take cpu lock) adds None Rests (grown adds legal).0.1 refl refl

  pub tried_follows : (lock : LockId) (edit : E) (hit : Bool) → Adds ActsFor cpu_of_action (Try cpu lock hit) old new
      → Follows ActsFor (table_of protocol) opening cpu (section_plan lock edit) old new (answered None)
  tried_follows lock edit hit adds =
      let may = (grown adds legal).0 in follows lock edit (Try cpu lock hit) adds None (Waits lock) may.0 (ap (Try cpu lock) may.1) refl

  pub left_follows : (lock : LockId) (edit : E) (adds : Adds ActsFor cpu_of_action (Give cpu lock edit) old new) → ActsFor cpu → phase cpu old ≡ Holds lock
      → (block : B) → block_after protocol.edited opening lock (sections_in old) ≡ Some block → (out : O) → out ≡ protocol.answer edit block
      → Follows ActsFor (table_of protocol) opening cpu (section_plan lock edit) old new (answered (Some out))
  left_follows lock edit adds acts holds block found out answers =
      follows lock edit (Give cpu lock edit) adds (Some out) (Holds lock) (grown adds legal).0 refl
      (rw (found_still lock edit adds acts holds ∙ found) (ap Some answers))

-- the frame of a call with one action of its CPU, after which its own part fits
pub acted_framed : {P M E B O : Type 0} (protocol : Rules E B O) (acts : M → List (Action E)) (stage_of : P → TicketPhase E B)
    {opening : M → LockId → Option B} {machine_id : M → List ℕ} {room : M → ℕ} {ActsFor : M → CpuId → Type 0} {cpu_of : P → CpuId} {p p' : P} {m n : M}
    → AreLegal (acts n) → Stays opening machine_id room ActsFor m n → ActsFor m (cpu_of p) → (a : Action E) → cpu_of_action a ≡ cpu_of p
    → Adds (ActsFor m) cpu_of_action a (acts m) (acts n) → cpu_of p' ≡ cpu_of p → StageFits protocol (opening n) (acts n) (cpu_of p') (stage_of p')
    → Framed (λ q k. ActsFor k (cpu_of q) × StageFits protocol (opening k) (acts k) (cpu_of q) (stage_of q)) cpu_of opening machine_id room ActsFor
    (λ k c. is_in_section (phase c (acts k)) ≡ true) p p' m n
acted_framed protocol acts stage_of {ActsFor = ActsFor} {cpu_of = cpu_of} {p = p} {n = n} legal stays local a its adds cpu coupled = record {
  coupled = (subst (λ c. ActsFor n c) (sym cpu) (stays.acts (cpu_of p) local), coupled);
  cpu = cpu;
  stays = stays;
  others =
      λ q other coupled. (
        stays.acts (cpu_of q) coupled.0,
        others_fit protocol stays.opening legal a its adds (cpu_of q) (stage_of q) other coupled.0
            coupled.1,
      );
  holders = others_rest protocol stays.opening legal a its adds;
}

-- an action that ends no section adds only environment sections
pub unended : {E : Type 0} {ActsFor : CpuId → Type 0} {old new : List (Action E)} (a : Action E)
    → ((past : List (Action E)) → sections_in (a ∷ past) ≡ sections_in past) → Adds ActsFor cpu_of_action a old new
    → Grows ActsFor cpu_of_section (sections_in old) (sections_in new)
unended {old = old} a ends adds = record {
  others = sections_in adds.others;
  foreign = λ c acts. others_sections_in c adds.others (adds.foreign c acts);
  is = ap sections_in adds.is ∙ (ends (adds.others ++ old) ∙ sections_in-append adds.others old);
}

-- therefore its poll has no result
pub poll_unanswered : {E B O : Type 0} (protocol : Rules E B O) (opening : LockId → Option B) {ActsFor : CpuId → Type 0} {old new : List (Section E)}
    (s : Section E)
    → Grows ActsFor cpu_of_section old new → PolledAtLock protocol opening ActsFor s None old new
poll_unanswered protocol opening s grows = record { others = grows.others; foreign = grows.foreign; is = grows.is; answers = tt }

-- a poll of the word is one more Try of a CPU that waits at its lock
pub tried_again : {E : Type 0} {ActsFor : CpuId → Type 0} {cpu : CpuId} {old new : List (Action E)} → AreLegal new → (lock : LockId) (hit : Bool)
    → Adds ActsFor cpu_of_action (Try cpu lock hit) old new → Tries ActsFor cpu old new
tried_again {cpu = cpu} {old = old} legal lock hit adds =
    let may = (grown adds legal).0 in
    record {
      others = adds.others;
      foreign = adds.foreign;
      past = adds.others ++ old;
      joined = refl;
      lock = lock;
      waits = may.0;
      grows = adds.is ∙ ap (λ h. Try cpu lock h ∷ (adds.others ++ old)) may.1;
    }
