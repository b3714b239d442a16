-- A system that is reached by the step table: at boot, after a step, and after a schedule.
use Rattle.std.proofs.Common.{◌≡◌, ℕ, zero, suc, ◌<◌, ◌≤◌, List, [], ◌∷◌, ◌++◌, length, map, replicate, Option, Some, None, option_map, refl, ap, sym, ◌∙◌}
use Rattle.std.{proofs.{Common.{subst, arith}, lemmas.Option.{slice_get_within, same_Some}}, specs.Prelude.{slice_get, slice_index_or}}
use Rattle.event_log.specs.{declared.{entries.Entry.Entry, ids.{BufId.BufId, CpuId.CpuId, TheConstants.THREADS, Tid.Tid}}, Actions.Action}
use Rattle.{layer_traits.specs.{declared.{moves.WaitList.WaitList, steps.Step.Step}, Threads.Places.Step as Moving}, cpu.specs.declared.guests.Guest.Guest}
use Rattle.cpu.specs.{Claims.{CpuView, SystemView, shown_of}, Cpus.{guest_at, programs_of}, Sound.{IsReachedByTable, IsSetupFor, RanByTable, ReturnsAlone}}
use Rattle.cpu.specs.{Sound.{SoundByTable, after_steps}, Systems.{GoesBy, SamePlan, SteppedByTable, whole_of}, Table.{Setups.SystemConfig, Steps.IsReached}}
use Rattle.cpu.specs.{Table.Steps.{SystemState, steps_once, steps_by, system_step}, Tower.Views.TowerName, Wakeups.Alone.{IsInCall, steps_to_return}}
use Rattle.cpu.proofs.{ListFacts.{GuestLists.at_programs, ListReads.{shows_at, there_is}}, Wakeups.ReachedStates.systems_lose_no_wake_up}
use Rattle.cpu.proofs.Wakeups.ReadyCalls.{calls_return_alone}

-- One setup for all states of a system.

-- what the elements at one index show, if the lists show the same
same_shown : {X Y : Type 0} (f : X → Y) (xs ys : List X) (k : ℕ) (x y : X) → map f xs ≡ map f ys → slice_get xs k ≡ Some x → slice_get ys k ≡ Some y → f x ≡ f y
same_shown f xs ys k x y same at there = same_Some (f x) (f y) (sym (shows_at f xs k x at) ∙ ap (λ l. slice_get l k) same ∙ shows_at f ys k y there)

-- a guest of a table that has the programs of another one
guest_as : (guests others : List (Option Guest)) (t : ℕ) (g : Guest) → programs_of guests ≡ programs_of others → guest_at guests t ≡ Some g
    → (x : Guest) × (guest_at others t ≡ Some x) × (x.program ≡ g.program)
guest_as guests others t g same at = grind (arith, shown, same_Some)
  where
    shown : option_map (λ x. x.program) (guest_at others t) ≡ Some g.program
    shown =
        sym (at_programs others t) ∙ ap (λ (l : List (Option (List _))). slice_index_or l t None) (sym same) ∙ at_programs guests t
        ∙ ap (λ (o : Option Guest). option_map (λ x. x.program) o) at

-- a setup of a system is that of each other state of it
pub goes_on : (setup : SystemConfig) {s r : SystemView} → SamePlan s r → GoesBy setup s → GoesBy setup r
goes_on setup {s = s} {r = r} same goes = record {
  each = λ k q at.
      let old = there_is s.cpus k (omega (arith, slice_get_within r.cpus k q at, same.count)) in
      let of = goes.each k old.0 old.1 in
      record {
        homes_are = of.homes_are ∙ sym same.homes;
        caps_are = of.caps_are ∙ sym same.caps;
        room_is = of.room_is ∙ same_shown (λ (p : CpuView). p.limit) s.cpus r.cpus k old.0 q (sym same.limits) old.1 at;
        programs_are = λ t g there.
            let before = guest_as q.guests old.0.guests t.0 g (same_shown (λ (p : CpuView). programs_of p.guests) r.cpus s.cpus k q old.0 same.programs
            at old.1) there in
            of.programs_are t before.0 before.1 ∙ before.2;
      };
}

pub setup_on : (setup : SystemConfig) {s r : SystemView} → SamePlan s r → IsSetupFor setup s → IsSetupFor setup r
setup_on setup same is = record { goes = goes_on setup same is.goes; count = is.count ∙ sym same.count }

-- A step.

-- after a step of the table a system is reached as before it
pub reached_on : (c : CpuId) (s r : SystemView) (answer : Step) → c.0 < length s.cpus → SamePlan s r → SteppedByTable c s r answer → IsReachedByTable s
    → IsReachedByTable r
reached_on c s r answer within same went reached setup is =
    let before = setup_on setup (grind (arith, same)) is in
    let next : (system_step setup c (whole_of s)).next ≡ whole_of r = ap (λ x. x.next) (sym (went setup before.goes)) in
    subst (λ (n : ℕ). IsReached setup n (whole_of r)) (sym same.room)
    (subst (λ (w : SystemState). IsReached setup s.room w) next (steps_once c (reached setup before) (omega (arith, before.count, within))))

-- what a machine reports
pub record Observed : Type 0 where
  pub caps : List ℕ
  pub homes : List CpuId
  pub history : List Entry
  pub wait_lists : BufId → WaitList → List Tid
  pub owner : BufId → Option Tid
  pub moves : List Moving
  pub acts : List (Action TowerName)

abbrev pub shown_in : Observed → List CpuView → ℕ → ℕ → SystemView
shown_in m cpus room taken = shown_of m.caps m.homes m.history m.wait_lists m.owner m.moves m.acts cpus room taken

-- A schedule.

pub after_more : (setup : SystemConfig) (cs : List CpuId) (c : CpuId) (s : SystemState)
    → after_steps setup (cs ++ c ∷ []) s ≡ (system_step setup c (after_steps setup cs s)).next
after_more setup [] c s = refl
after_more setup (d ∷ cs) c s = after_more setup cs c (system_step setup d s).next

-- so many steps of one CPU
pub steps_alone : (setup : SystemConfig) (c : CpuId) (n : ℕ) (s : SystemState) → after_steps setup (replicate n c) s ≡ steps_by setup c n s
steps_alone setup c zero s = refl
steps_alone setup c (suc n) s = steps_alone setup c n (system_step setup c s).next

-- What follows.

pub sound_of : (s : SystemView) → IsReachedByTable s → SoundByTable s
sound_of s reached = record { reached = reached; awake = λ setup is b k at. systems_lose_no_wake_up setup s.room (whole_of s) (reached setup is) b k at }

pub alone_of : (s : SystemView) → length s.homes ≤ THREADS → 0 < length s.cpus → IsReachedByTable s → ReturnsAlone s
alone_of s few some reached setup is c p t ready room =
    let first = there_is s.cpus 0 some in
    let homes = ap (λ (l : List CpuId). length l) (is.goes.each 0 first.0 first.1).homes_are in
    let alone = calls_return_alone setup s.room (whole_of s) c p t (omega (arith, homes, few)) (reached setup is) ready (omega (arith, room)) in (
      λ new ran. rw (← after (steps_to_return setup c ready.effect ready.block) new ran) alone.0,
      λ n before one_more ran. subst (λ (w : SystemState). IsInCall w c t) (after n before ran) (alone.1 n one_more),
      alone.2,
    )
  where
    after : (n : ℕ) (new : SystemView) → RanByTable s (replicate n c) new → steps_by setup c n (whole_of s) ≡ whole_of new
    after n new ran = sym (ran setup is.goes ∙ steps_alone setup c n (whole_of s))
