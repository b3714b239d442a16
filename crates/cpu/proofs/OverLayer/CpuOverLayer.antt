-- A CPU over a layer of message calls, by what the layer's laws say of its part, as the lemmas
-- about its steps take it.
use Rattle.std.proofs.Common.{◌≡◌, ◌<◌, length, false, Some, None, ap, ◌∙◌, subst, refl, arith}
use Rattle.layer_traits.specs.{Blocks.{Capacities.caps_in, QueueBlocks.homes_in}, contracts.call_layers.CallLayer.TheBound.Met}
use Rattle.layer_traits.specs.{declared.call_layers.{CallLaw.Ghosts as LawGhosts, CallLayer.Ghosts}, Layers.BufferLaw.MovesGrow, Polling.Framed.Framed}
use Rattle.layer_traits.specs.{Polling.Plans.is_in_section, Threads.Places.{AreMoves, Stands, home_of}, Views.OwnParts.threads_in}
use Rattle.{layer_traits.proofs.PlaceLemmas.current_at, event_log.specs.{declared.ids.{CpuId.CpuId, Tid.Tid}, Actions.phase}, cpu.specs.declared.cpus.Cpu.Cpu}
use Rattle.cpu.specs.{Cpus.{ActsGrow, GuestsWent, SeenGrows, programs_of}, CpuSteps.{AgreesAt, IsCpuAt, IsTabledAt, Leaves}}
use Rattle.cpu.proofs.CpuSteps.{PassSteps.current_within, CpuStates.{Outset, TabledCpu, valid_cpu}, StepsBesideGuests.{none_grow, none_moved, none_seen}}
use Rattle.cpu.proofs.StepTable.TableCalls.{hand_known}
use borrow.Fn.World.{World}
use denote.RattleType.{RattleType}
use mir.Syntax.{Dict}

-- the invariant of a CPU whose part agrees with the machine; clauses on the whole state of a part
-- are about a layer whose polls are actions
pub record IsLayered {P L M : Type 0} (I : Ghosts P L M) (m : M) (p : Cpu P M) : Type 0 where
  pub number : I.cpu_of p.part ≡ p.number
  pub acts : I.ActsFor m (I.cpu_of p.part)
  pub stands : Stands (homes_in (I.opening m)) (I.cpu_of p.part) (I.moves m) (threads_in (I.local p.part))
  pub moves_legal : AreMoves (homes_in (I.opening m)) (I.moves m)
  pub is : IsCpuAt I m p
  pub idle : I.under_way p.part ≡ None → I.is_inside p.part ≡ false
  pub busy : I.IsStepwise → I.is_inside p.part ≡ is_in_section (phase (I.cpu_of p.part) (I.acts m))
  pub table : I.IsStepwise → IsTabledAt I m p

-- the laws of a layer that say so
pub record PartLaws {P L M : Type 0} (I : Ghosts P L M) : Type 0 where
  pub own_cpu : (p : P) (m : M) → I.Coupled p m → I.ActsFor m (I.cpu_of p)
  pub stands : (p : P) (m : M) → I.Coupled p m → Stands (homes_in (I.opening m)) (I.cpu_of p) (I.moves m) (threads_in (I.local p))
  pub moves_legal : (m : M) (c : CpuId) → I.ActsFor m c → AreMoves (homes_in (I.opening m)) (I.moves m)
  pub idle : (p : P) (m : M) → I.Coupled p m → I.under_way p ≡ None → I.is_inside p ≡ false
  pub busy : (p : P) (m : M) → I.Coupled p m → I.IsStepwise → I.is_inside p ≡ is_in_section (phase (I.cpu_of p) (I.acts m))

-- from all that a bound by the layer's trait gives
pub laws_of : {world : World} {Part Law Machine : RattleType} {I : Ghosts Part.Denot Law.Denot Machine.Denot} {dict : Dict} {calls : LawGhosts Law.Denot}
    {calls_dict : Dict} → Met {M = world.M} {𝓤 = world.𝓤} world.𝓛 world.𝓜 world.𝓡 world.𝓡.env Part Law Machine I dict calls calls_dict → PartLaws I
laws_of law = grind arith

-- a CPU whose part fits the machine
pub layered : {P L M : Type 0} {I : Ghosts P L M} (laws : PartLaws I) (m : M) (p : Cpu P M) → AgreesAt I m p → IsLayered I m p
layered {I} laws m p agrees = grind (arith, agrees)

module _ {P L M : Type 0} {I : Ghosts P L M} {m : M} {p : Cpu P M} (at : IsLayered I m p) where
  -- a running thread has this home CPU
  pub runs_home : (t : Tid) → (threads_in (I.local p.part)).current ≡ Some t → home_of (homes_in (I.opening m)) t ≡ Some p.number
  runs_home t runs = grind (arith, current_at)

  -- and has a place in the table of guests
  pub runs_within : (t : Tid) → (threads_in (I.local p.part)).current ≡ Some t → t.0 < length p.guests.items
  runs_within = current_within (valid_cpu at.is) runs_home

  -- the machine's holder acts for it
  pub acts_for : I.ActsFor m p.number
  acts_for = subst (λ (d : CpuId). I.ActsFor m d) at.number at.acts

  module _ (step : I.IsStepwise) where
    abbrev pub tabled_cpu : TabledCpu
    tabled_cpu = record {
      state = (valid_cpu at.is).state;
      caps = caps_in (I.opening m);
      local = I.local p.part;
      opening = I.opening m;
      is = at.is;
      tabled = at.table step;
      home = runs_home;
    }

    abbrev pub outset : Outset (λ d. I.ActsFor m d) tabled_cpu (I.acts m)
    outset = record {
      inside = I.is_inside p.part;
      acts = acts_for;
      idle = at.idle;
      busy = rw at.number at (at.busy step);
      known = hand_known (homes_in (I.opening m)) (I.cpu_of p.part) (I.moves m) (threads_in (I.local p.part)) at.stands at.moves_legal;
    }

-- a step that touches neither the machine nor the CPU's part
pub left_alone : {P L M : Type 0} (I : Ghosts P L M) (m : M) (p q : Cpu P M) → I.cpu_of p.part ≡ p.number → q.number ≡ p.number → q.limit ≡ p.limit
    → q.part ≡ p.part → programs_of q.guests.items ≡ programs_of p.guests.items
    → GuestsWent p.number p.guests.items p.trace.items q.guests.items q.trace.items → Leaves I m p m q
left_alone I m p q at number limit part programs guests = record {
  number = number;
  limit = limit;
  cpu = ap I.cpu_of part ∙ at;
  programs = programs;
  guests = guests;
  history = none_seen _ _ _ _ refl;
  moves = none_moved _ _ _ _ refl;
  grows = λ step. none_grow _ _ _ _ refl;
  opening = refl;
  machine_id = refl;
  room = omega arith;
  acts = λ c acts. acts;
  others = λ other apart coupled. coupled;
  holders = λ c apart acts holds. holds;
}

-- a step of the CPU's part
pub left_framed : {P L M : Type 0} (I : Ghosts P L M) (m n : M) (p q : Cpu P M) → I.cpu_of p.part ≡ p.number → q.number ≡ p.number → q.limit ≡ p.limit
    → Framed I.Coupled I.cpu_of I.opening I.machine_id I.room I.ActsFor I.MayHold p.part q.part m n → programs_of q.guests.items ≡ programs_of p.guests.items
    → GuestsWent p.number p.guests.items p.trace.items q.guests.items q.trace.items → SeenGrows (I.ActsFor m) p.number (I.history m) (I.history n)
    → MovesGrow (I.ActsFor m) p.number (I.moves m) (I.moves n) → (I.IsStepwise → ActsGrow (I.ActsFor m) p.number (I.acts m) (I.acts n)) → Leaves I m p n q
left_framed I m n p q at number limit framed programs guests history moves grows = record {
  number = number;
  limit = limit;
  cpu = framed.cpu ∙ at;
  programs = programs;
  guests = guests;
  history = history;
  moves = moves;
  grows = grows;
  opening = framed.stays.opening;
  machine_id = framed.stays.machine_id;
  room = framed.stays.room;
  acts = framed.stays.acts;
  others = λ part apart coupled. framed.others part (rw at apart) coupled;
  holders = λ d apart acts holds. framed.holders d (rw at apart) acts holds;
}
