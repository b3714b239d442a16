use Rattle.std.proofs.Common.{List, length, Option, refl, ap, sym, ◌∙◌, subst, vec_capacity}
use Rattle.layer_traits.specs.{Blocks.{Capacities.caps_in, QueueBlocks.homes_in}, Views.OwnParts.threads_in, declared.steps.Step.TheVariants.Stepped}
use Rattle.cpu.specs.{declared.guests.Guest.Guest, Cpus.{IsCpu, guest_computes, programs_of}, Tables.{IsTabled, WentByTable}}
use Rattle.cpu.proofs.{ListFacts.GuestLists.programs_with, CpuSteps.{PassSteps.noted_compute, CpuStates.valid_cpu}, StepTable.TablePasses.compute_steps}
use Rattle.cpu.proofs.{StepTable.TablePasses.compute_tabled, OverLayer.CpuOverLayer.{laws_of, layered, tabled_cpu, outset, left_alone}}
use Rattle.cpu.proofs.cpus.Cpu.compute.Goals as goal

pub returns : goal.returns
returns g c =
    let I = g.I.CallLayer in
    let m = c.args.m.now in
    let p = c.args.self.now in
    let goes = c.requires.goes in
    let cpu = layered (laws_of g.met.I.CallLayer) m p goes.agrees in
    let programs = ap programs_of c.note_compute.ensures ∙ programs_with p.guests.items c.args.thread.0 _ (λ x. refl) in
    record {
      live = goes.live;
      agrees = record {
        coupled = goes.agrees.coupled;
        number = goes.agrees.number;
        is = subst (λ (l : List (Option Guest)). IsCpu (homes_in (I.opening m)) (length (caps_in (I.opening m))) (I.history m) (threads_in (I.local p.part))
            (I.local p.part).call_states (I.under_way p.part) p.number l p.trace.items p.limit (vec_capacity p.trace)) (sym c.note_compute.ensures)
            (noted_compute (valid_cpu cpu.is) c.args.thread c.requires.chosen);
        table = λ step.
            subst (λ (l : List (Option Guest)). IsTabled (homes_in (I.opening m)) (caps_in (I.opening m)) p.number (I.local p.part) (I.under_way p.part) l
            (I.opening m)) (sym c.note_compute.ensures) (compute_tabled (tabled_cpu cpu step) c.args.thread c.requires.chosen);
      };
      leaves = left_alone I m p _ goes.agrees.number refl refl refl programs (guest_computes c.args.thread c.note_compute.ensures refl);
      steps = λ step.
          subst (λ (l : List (Option Guest)). WentByTable (λ d. I.ActsFor m d) (homes_in (I.opening m)) (caps_in (I.opening m)) p.number p.limit
          (I.local p.part)
          (I.local p.part) p.guests.items l p.trace.items p.trace.items (I.acts m) (I.acts m) Stepped) (sym c.note_compute.ensures)
          (λ setup of. compute_steps (tabled_cpu cpu step) c.args.thread c.requires.chosen _ _ (outset cpu step) goes.live setup of);
    }
