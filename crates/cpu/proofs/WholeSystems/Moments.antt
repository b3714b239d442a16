-- At each moment of a system over a layer of message calls its calls have one order, which a step
-- extends.
use Rattle.std.proofs.{lemmas.{List.{append-nil, length-reverse, length-map, reverse-append}, Option.same_Some}, Common.{◌≡◌, ℕ, ◌<◌, ◌^◌, List, [], ◌++◌}}
use Rattle.std.{proofs.Common.{length, map, reverse, Option, Some, ap, sym, ◌∙◌, subst, arith}, specs.{Prelude.slice_get, List.AllByRecursion}}
use Rattle.layer_traits.specs.{Blocks.{Capacities.caps_in, BufferEffects.MayTakeEffect, QueueBlocks.homes_in}, declared.call_layers.CallLayer.Ghosts}
use Rattle.layer_traits.{specs.{Views.OwnParts.threads_in, Threads.Places.Stands}, proofs.EffectRunLemmas.effects_are_run}
use Rattle.event_log.specs.{declared.{entries.Entry.Entry, ids.{BufId.BufId, CpuId.CpuId, Tid.Tid, TheConstants.CPUS}}, Actions.AreLegal, History.IsLawful}
use Rattle.{event_log.proofs.Streams.taken_put, cpu.specs.{declared.cpus.Cpu.Cpu, Claims.{CpuView, HasLinearization, IsRunState, SystemView}, Cpus.SeenGrows}}
use Rattle.cpu.{specs.Linear.{CallsGoOn, OrderGrows}, proofs.WholeSystems.{InvariantOverSteps.{Holds, no_others}, OneOrder.Has}}
use Rattle.cpu.proofs.WholeSystems.{OneOrder.{closed_by_order, follow_programs, stay_home, traces_interleaved}, PartsTold.acts_first}
use Rattle.cpu.proofs.{ListFacts.ListReads.{all_left, all_reversed, all_right}, StepTable.ReachedSystems.shown_in, OverLayer.SystemOverLayer.cpus_have}
use Rattle.cpu.proofs.OverLayer.SystemOverLayer.{observed_by, shown_by, works_by}

-- what the laws of a layer say of a machine that a part agrees with
pub record MachineLaws {P L M : Type 0} (I : Ghosts P L M) : Type 0 where
  pub own_cpu : (part : P) (m : M) → I.Coupled part m → I.ActsFor m (I.cpu_of part)
  pub legal : (m : M) (c : CpuId) → I.ActsFor m c → AreLegal (I.acts m)
  pub known : (m : M) (c : CpuId) → I.ActsFor m c → AllByRecursion (λ e. e.cpu.0 < CPUS) (I.history m)
  pub lawful : (m : M) (c : CpuId) → I.ActsFor m c → IsLawful (MayTakeEffect (caps_in (I.opening m))) (I.history m)
  pub stands : (part : P) (m : M) → I.Coupled part m → Stands (homes_in (I.opening m)) (I.cpu_of part) (I.moves m) (threads_in (I.local part))

-- The order.

-- it stays as it is
pub order_stays : (c : CpuId) (old new : List Entry) → new ≡ old → OrderGrows c old new
order_stays c old new same = record { more = []; is = same ∙ sym (append-nil old); few = omega arith; local = tt }

-- no call begins, takes effect or returns
pub calls_stay : (c : CpuId) (old new : SystemView) → new.order ≡ old.order → new.cpus ≡ old.cpus → CallsGoOn c old new
calls_stay c old new order cpus = record {
  order = order_stays c old.order new.order order;
  local = grind (arith, same_Some);
  others = λ k other. ap (λ (l : List CpuView). slice_get l k) cpus;
}

-- effects that grow by at most one of this CPU, if the holder acts for each
pub order_grows : (ActsFor : CpuId → Type 0) (c : CpuId) (old new : List Entry) → ((d : CpuId) → d.0 < CPUS → ActsFor d)
    → AllByRecursion (λ e. e.cpu.0 < CPUS) new → SeenGrows ActsFor c old new → OrderGrows c (reverse old) (reverse new)
order_grows ActsFor c old new acts known grows = record {
  more = reverse grows.mine;
  is = ap reverse (grows.is ∙ ap (λ (l : List Entry). grows.mine ++ (l ++ old)) none) ∙ reverse-append grows.mine old;
  few = let few = grows.few in let same = length-reverse grows.mine in omega (arith, few, same);
  local = all_reversed (λ (e : Entry). e.cpu ≡ c) grows.mine grows.local;
}
  where
    none : grows.others ≡ []
    none = no_others ActsFor grows.others acts
        (all_left (λ (e : Entry). e.cpu.0 < CPUS) grows.others old
        (all_right (λ (e : Entry). e.cpu.0 < CPUS) grows.mine (grows.others ++ old)
        (subst (λ (l : List Entry). AllByRecursion (λ e. e.cpu.0 < CPUS) l) grows.is known)))
        grows.foreign

-- The moment.

module _ {P L M : Type 0} (I : Ghosts P L M) (laws : MachineLaws I) (owner : M → BufId → Option Tid) (threads : ℕ) (m : M) (cpus : List (Cpu P M))
    (room taken : ℕ) (is : Holds (works_by I owner threads) m cpus room taken) where
  -- each CPU has its invariant
  pub each_has : (k : ℕ) (p : CpuView) → slice_get (map (shown_by I) cpus) k ≡ Some p
      → Has (homes_in (I.opening m)) (length (caps_in (I.opening m))) (I.history m) (I.moves m) k p
  each_has = cpus_have I m cpus is.each (λ part coupled. laws.stands part m coupled)

  pub linearization : HasLinearization (shown_in (observed_by I owner m) (map (shown_by I) cpus) room taken)
  linearization =
      let count = length-map cpus (shown_by I) in
      let few : length (I.history m) < 2 ^ 64 = let short = is.short in let used = is.used in let small = is.small in omega (arith, short, used, small) in
      let run = effects_are_run (caps_in (I.opening m)) (I.history m) (laws.lawful m (record { 0 = 0 }) (acts_first is)) few in
      record {
        keeps = traces_interleaved _ _ (I.history m) _ _ each_has (subst (λ n. AllByRecursion (λ (e : Entry). e.cpu.0 < n) (I.history m)) (sym count) is.known);
        run = run;
        fifo = taken_put _ _ _ run;
        closed = λ b within. closed_by_order (I.history m) (length (caps_in (I.opening m))) b within;
        few = let short = is.short in let long = length-reverse (I.history m) in omega (arith, short, long);
      }

  pub moment : IsRunState (shown_in (observed_by I owner m) (map (shown_by I) cpus) room taken)
  moment = record {
    linearization = linearization;
    follow = λ k p t guest at there. follow_programs _ _ _ _ k p (each_has k p at) t guest there;
    stay = λ k p at. stay_home _ _ _ _ k p (each_has k p at);
  }
