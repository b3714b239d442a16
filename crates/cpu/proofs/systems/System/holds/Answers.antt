use Rattle.std.{proofs.{Common.{◌≡◌, ◌<◌, length, map, refl, ap, sym, ◌∙◌, subst, arith}, lemmas.List.length-map}, specs.Prelude.{ℕ, Some, slice_get}}
use Rattle.layer_traits.specs.{Blocks.{Capacities.caps_in, QueueBlocks.homes_in}, Threads.{OnePlace.cpu_at, Places.pending_by}, Polling.Plans.is_in_section}
use Rattle.{event_log.{specs.{declared.ids.{CpuId.CpuId, LockId.TheVariants.Pending}, Actions.phase}, proofs.Renaming.phase_renamed}, cpu.specs.Claims.CpuView}
use Rattle.cpu.specs.{Claims.{IsRunState, MovesAgree, SystemView, HasUniquePlace, buffer_at}, Sound.{SoundByTable, IsSetupFor}, Table.Blocks.OfPending}
use Rattle.cpu.specs.{Table.{Setups.SystemConfig, Steps.block_at}, Observed.{CpuIsObserved, HasBuffer, ObservedByTable}, Tower.{Composed.named, Views.name_of}}
use Rattle.cpu.proofs.{ListFacts.ListReads.{there_is, shown_at, shows_at}, WholeSystems.{Moments.{MachineLaws, each_has, moment}, OnePlaceEach.once_of}}
use Rattle.cpu.proofs.{WholeSystems.{OneOrder.Has, PartsTold.acts_first}, StepTable.{ReachedSystems.{shown_in, sound_of}, TableRows.halted_same}}
use Rattle.cpu.proofs.{StepTable.{PlacesTold.{ended_is, place_read}, PartsOfTable.{has_buffer, pending_read}}, OverLayer.CpuOverLayer.{laws_of, layered}}
use Rattle.cpu.proofs.{OverLayer.{CpuOverLayer.tabled_cpu, SystemOverLayer.{shown_by, observed_by}}, systems.System.holds.{Given.Over, Goals.After-self}}
use Rattle.cpu.proofs.systems.System.holds.Goals as goal

pub returns-clause-sound : goal.returns-clause-sound
returns-clause-sound g c = λ step. subst (λ (s : SystemView). SoundByTable s) c.self.view_is (sound_of _ (c.self.invariant.sound.1 step))

laws : (g : Over) → MachineLaws g.I.CallLayer
laws g = grind arith

-- each CPU has its invariant
each : (g : Over) (c : After-self g) → let I = g.I.CallLayer in let m = c.self.inside.machine in
    (k : ℕ) (p : CpuView) → slice_get (map (shown_by I) c.self.inside.cpus.items) k ≡ Some p
    → Has (homes_in (I.opening m)) (length (caps_in (I.opening m))) (I.history m) (I.moves m) k p
each g c = each_has g.I.CallLayer (laws g) g.I.Owned.owner c.self.inside.threads c.self.inside.machine c.self.inside.cpus.items c.self.inside.room
    c.self.inside.taken c.self.invariant

-- and all are a moment of a run
now : (g : Over) (c : After-self g) → IsRunState c.args.self.now
now g c = subst (λ (s : SystemView). IsRunState s) c.self.view_is
    (moment g.I.CallLayer (laws g) g.I.Owned.owner c.self.inside.threads c.self.inside.machine c.self.inside.cpus.items c.self.inside.room
    c.self.inside.taken c.self.invariant)

-- and all agree with the moves
agree : (g : Over) (c : After-self g) → MovesAgree (shown_in (observed_by g.I.CallLayer g.I.Owned.owner c.self.inside.machine)
    (map (shown_by g.I.CallLayer) c.self.inside.cpus.items) c.self.inside.room c.self.inside.taken)
agree g c =
    let is = c.self.invariant in
    record {
      lawful = g.met.I.CallLayer.moves_legal c.self.inside.machine (record { 0 = 0 }) (acts_first is);
      stands = λ k p at. (each g c k p at).stands;
      within = λ t home at. let inside = is.within t home at in omega (arith, inside, length-map c.self.inside.cpus.items (shown_by g.I.CallLayer));
    }

pub returns-clause-agree : goal.returns-clause-agree
returns-clause-agree g c = subst (λ (s : SystemView). MovesAgree s) c.self.view_is (agree g c)

pub returns-clause-observed : goal.returns-clause-observed
returns-clause-observed g c = λ step.
    let I = g.I.CallLayer in
    let law = g.met.I.CallLayer in
    let m = c.self.inside.machine in
    let is = c.self.invariant in
    let items = c.self.inside.cpus.items in
    let zero : CpuId = cpu_at 0 in
    let acts = acts_first is in
    let shown = shown_by I in
    let are = law.moves_are step m zero acts in
    let first = there_is items 0 is.some in
    let one = (is.each 0 first.0 first.1).holds in
    let tabled = one.3 step in
    let machine = observed_by I g.I.Owned.owner m in
    let s = shown_in machine (map shown items) c.self.inside.room c.self.inside.taken in
    let caps : (setup : SystemConfig) → IsSetupFor setup s → setup.caps ≡ caps_in (I.opening m) =
    λ setup goes. (goes.goes.each 0 (shown first.0) (shows_at shown items 0 first.0 first.1)).caps_are in
    let sound : SoundByTable s = sound_of s (c.self.invariant.sound.1 step) in
    let homes : (setup : SystemConfig) → IsSetupFor setup s → setup.homes ≡ s.homes =
    λ setup goes. (goes.goes.each 0 (shown first.0) (shows_at shown items 0 first.0 first.1)).homes_are in
    let cpus_told : (setup : SystemConfig) → IsSetupFor setup s → (k : ℕ) (p : CpuView) → slice_get s.cpus k ≡ Some p → CpuIsObserved setup s k p =
    λ setup goes. shown_at shown (λ j q. CpuIsObserved setup s j q) items (λ j x there.
    let at = (is.each j x there).holds in
    let number = (is.each j x there).number_is in
    let cpu = layered (laws_of g.met.I.CallLayer) m x (record { coupled = at.0; number = at.1; is = at.2; table = at.3 }) in
    let halted = halted_same (tabled_cpu cpu step) setup (goes.goes.each j (shown x) (shows_at shown items j x there)) in
    let pending = pending_read setup machine x.number (I.opening m) (at.3 step).opens (caps setup goes) are in
    record {
      inside = ap is_in_section (phase_renamed name_of (cpu_at j) (I.acts m))
          ∙ ap (λ (d : CpuId). is_in_section (phase d (I.acts m))) (sym (at.1 ∙ number)) ∙ sym (law.busy x.part m at.0 step);
      halted = rw (← number) halted;
      current = refl;
      ready = refl;
      hand = refl;
      trace = refl;
      ended = λ t known.
          ended_is (I.local x.part) x.guests.items x.trace.items t (omega (arith, known, (at.3 step).size));
      pending = subst (λ (d : CpuId). block_at setup (Pending d) (named (I.acts m)) ≡ Some (OfPending (pending_by (I.moves m) d))) number pending;
    }) in
    let buffers_told : (setup : SystemConfig) → IsSetupFor setup s → (b : ℕ) → b < length s.caps → HasBuffer setup s b =
    λ setup goes b within. has_buffer setup machine first.0.number (I.opening m) tabled.opens (caps setup goes) are
    (map shown items) c.self.inside.room c.self.inside.taken sound goes (λ d. g.met.I.Owned.owner_is step m zero d acts) b within
    (g.met.I.Owned.items_are step m zero (buffer_at b) acts within) in
    subst (λ (x : SystemView). ObservedByTable x) c.self.view_is (record {
      some = let least = is.some in omega (arith, least, length-map items shown);
      few = let size = tabled.size in let few = one.2.few in omega (arith, size, few);
      cpus = cpus_told;
      buffers = buffers_told;
      places = λ setup goes. place_read s (agree g c) (I.wait_lists m) refl (law.lists first.0.part m one.0) setup (cpus_told setup goes)
          (buffers_told setup goes)
          (homes setup goes);
    })

pub returns-clause-linearization : goal.returns-clause-linearization
returns-clause-linearization g c = (now g c).linearization

pub returns-clause-follow : goal.returns-clause-follow
returns-clause-follow g c = (now g c).follow

pub returns-clause-stay : goal.returns-clause-stay
returns-clause-stay g c = (now g c).stay

pub returns-clause-once : goal.returns-clause-once
returns-clause-once g c =
    let I = g.I.CallLayer in
    let m = c.self.inside.machine in
    let first = there_is c.self.inside.cpus.items 0 c.self.invariant.some in
    let coupled = (c.self.invariant.each 0 first.0 first.1).holds.0 in
    let agreed = agree g c in
    subst (λ (s : SystemView). HasUniquePlace s) c.self.view_is
    (once_of (shown_in (observed_by I g.I.Owned.owner m) (map (shown_by I) c.self.inside.cpus.items) c.self.inside.room c.self.inside.taken)
    (length (caps_in (I.opening m))) (I.wait_lists m) refl (g.met.I.CallLayer.lists first.0.part m coupled) agreed.within agreed.lawful agreed.stands)
