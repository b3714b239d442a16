-- A worker's plan is its CPU's, and its threads follow their programs.
use Rattle.std.proofs.Common.{◌≡◌, ◌≢◌, ℕ, zero, suc, ◌+◌, Bool, true, false, not, ◌&&◌, ◌==◌, List, [], ◌∷◌, length, reverse, Option, Some, None, is_some}
use Rattle.std.{proofs.{Common.{option_map, slice_index_or, if◌then◌else◌, refl, ap, sym, ◌∙◌, subst, arith}, lemmas.List.reverse-reverse}, specs.List.list_all}
use Rattle.event_log.specs.{declared.{entries.Entry.Entry, ids.{CpuId.CpuId, Tid.Tid}}, Actions.Action}
use Rattle.guest.specs.{declared.instructions.Instruction.Instruction, Calls.{IsProgramsCalls, HasEnded}, State.{State, next_of}}
use Rattle.layer_traits.specs.declared.{calls.{Call.Call, Effect.Effect}, steps.{Reason.TheVariants.{AllEnded, TraceFull, StepsUsed}, Step.Step}}
use Rattle.layer_traits.specs.{Polling.Along.{Outcome, IsStep}, Layers.BufferLaw.{begun_of, call_state_of}, Threads.Places.Threads}
use Rattle.cpu.specs.{declared.guests.{Guest.Guest, GuestStage.{GuestStage, TheVariants.{Idle, Begun, Done, Ended}}}, Guests.{HasComeIn, state_after_effect}}
use Rattle.cpu.specs.{Guests.is_ended, Cpus.{IsOfHome, begins_call, begun_count, chosen, guest_at, cpu_halted_at, is_over, of_cpu, of_thread, programs_of}}
use Rattle.cpu.specs.{Table.Setups.{SystemConfig, Thread, thread_at}, Tables.{IsSetupOf, cpu_local}, Tower.Views.TowerName}
use Rattle.cpu.proofs.{ListFacts.{ListReads.all_reversed, GuestLists.guest_with}, WholeSystems.OneOrder.filter_reversed, CpuSteps.CpuStates.TabledCpu}
use Rattle.{cpu.proofs.StepTable.TableRows.guest_there, cpu_workers.specs.{Orders.{FollowsProgram, HasFollowed}, Working.IsPlanned}}

program_there : (guests : List (Option Guest)) (t : ℕ) (g : Guest) → guest_at guests t ≡ Some g → slice_index_or (programs_of guests) t None ≡ Some g.program
program_there [] t g at = absurd (cc at)
program_there (o ∷ guests) zero g at = ap (λ x. option_map (λ (y : Guest). y.program) x) at
program_there (o ∷ guests) (suc t) g at = program_there guests t g at

-- the step table of a plan is that of the CPU whose plan it is
pub table_planned : (setup : SystemConfig) (homes : List CpuId) (caps : List ℕ) (guests : List (Option Guest)) (limit : ℕ)
    → IsPlanned setup (record { homes = homes; caps = caps; programs = programs_of guests; limit = limit }) → IsSetupOf setup homes caps guests limit
table_planned setup homes caps guests limit of = record {
  homes_are = of.homes_are;
  caps_are = of.caps_are;
  room_is = of.room_is;
  programs_are = λ t g at. of.programs_are t g.program (program_there guests t.0 g at);
}

-- a CPU has no reason of a system's
pub own_reason : (local : Threads) (guests : List (Option Guest)) (trace : List Entry) (limit : ℕ) → cpu_halted_at local guests trace limit ≢ Some StepsUsed
own_reason local guests trace limit is =
    go (not (is_some local.hand) && list_all is_over guests) (begins_call (chosen local guests) guests && (length trace + begun_count guests == limit)) is
  where
    go : (a b : Bool) → (if a then Some AllEnded else (if b then Some TraceFull else None)) ≡ Some StepsUsed → ⊥
    go true b same = absurd (cc same)
    go false true same = absurd (cc same)
    go false false same = absurd (cc same)

-- a step after actions that are foreign to its holder is one after other CPUs' actions
pub step_behind : {P N : Type 0} (ActsFor : CpuId → Type 0) (cpu : CpuId) (table : P → List (Action N) → Outcome P N) (p q : P) (old new : List (Action N))
    (answer : Step) → ActsFor cpu → IsStep ActsFor table p q old new answer → IsStep (λ c. c ≡ cpu) table p q old new answer
step_behind ActsFor cpu table p q old new answer acts went = record {
  others = went.others;
  foreign = λ c is. went.foreign c (subst (λ (d : CpuId). ActsFor d) (sym is) acts);
  next = went.next;
  grows = went.grows;
  answers = went.answers;
}

-- Programs.

-- a guest has followed its program
follows_by : (g : Guest) (es : List Entry) (begun : Option Call) (effect : Option Effect) (over : Bool) → (over ≡ true → is_ended g.stage ≡ true)
    → HasComeIn g.stage g.program g.thread es begun effect → FollowsProgram g.program (reverse es) over
follows_by g es begun effect over ends come = go g.stage refl come
  where
    turned : (s : State) → IsProgramsCalls g.program es s → IsProgramsCalls g.program (reverse (reverse es)) s
    turned s calls = subst (λ (l : List Entry). IsProgramsCalls g.program l s) (sym (reverse-reverse es)) calls

    runs_on : (stage : GuestStage) (s : State) → g.stage ≡ stage → is_ended stage ≡ false → over ≡ true → HasEnded g.program s
    runs_on stage s at lives is = let same : is_ended g.stage ≡ is_ended stage = ap is_ended at in let now = ends is in absurd (cc (same, lives, now))

    go : (stage : GuestStage) → g.stage ≡ stage → HasComeIn stage g.program g.thread es begun effect → FollowsProgram g.program (reverse es) over
    go Idle at f = record { state = g.thread; calls = turned g.thread f.1; ends = runs_on Idle g.thread at refl }
    go Begun at f = record { state = g.thread; calls = turned g.thread f.4; ends = runs_on Begun g.thread at refl }
    go Done at f =
        let s = state_after_effect (next_of g.program g.thread) f.1 g.thread in
        record { state = s; calls = turned s f.6; ends = runs_on Done s at refl }
    go Ended at f = record { state = g.thread; calls = turned g.thread f.1; ends = λ is. f.2 }

-- the threads of a worker have followed their programs
module _ (told : TabledCpu) where
  open told use {homes, caps, history, local as part, number, guests, trace, limit, is}

  entries : (t : Tid) → of_thread t.0 trace ≡ reverse (of_thread t.0 (of_cpu number history))
  entries t = ap (λ (l : List Entry). of_thread t.0 l) is.kept ∙ filter_reversed (λ (e : Entry). e.thread.0 == t.0) (of_cpu number history)

  pub has_followed : (acts : List (Action TowerName)) (machine_id : List ℕ) → HasFollowed (record {
    cpu = number;
    plan = record { homes = homes; caps = caps; programs = programs_of guests; limit = limit };
    cpu_local = cpu_local part guests trace;
    acts = acts;
    machine_id = machine_id;
  })
  has_followed acts machine_id = record {
    room = let room = is.room in omega (arith, room);
    stays = rw is.kept (all_reversed (IsOfHome homes number) (of_cpu number history) is.stays);
    homed = λ t home. let there = is.homed t home in (there.0.program, program_there guests t.0 there.0 there.1);
    follows = λ t program at. let there = guest_with guests t.0 program at in
        subst (λ (l : List Instruction). FollowsProgram l (of_thread t.0 trace) (thread_at (cpu_local part guests trace) t).ended) there.2
        (subst (λ (l : List Entry). FollowsProgram there.0.program l (thread_at (cpu_local part guests trace) t).ended) (sym (entries t))
        (follows_by there.0 (of_thread t.0 (of_cpu number history)) (begun_of (call_state_of part.call_states t)) (call_state_of part.call_states t).effect
        (thread_at (cpu_local part guests trace) t).ended
        (λ over. is.over t (sym (ap (λ (x : Thread). x.ended) (guest_there part guests trace t there.0 there.1)) ∙ over) there.0 there.1)
        (is.follow t there.0 there.1).1));
  }
