use Rattle.std.proofs.Common.{rules, ◌≡◌, true, false, ◌++◌, List, Option, Some, None, is_some, ap, sym, refl, ◌∙◌, arith}
use Rattle.layer_traits.specs.{Views.OwnParts.threads_in, declared.passes.Pass.Pass, Threads.Places.pending_by, Blocks.QueueBlocks.homes_in}
use Rattle.cpu.proofs.{ListFacts.GuestLists.programs_with, CpuSteps.StepsBesideGuests.{follows_grow, others_same, passed_grows, others_grow}}
use Rattle.cpu.proofs.{CpuSteps.{PassSteps.{current_within, may_pass, noted_done, noted_wait}, CpuStates.valid_cpu}, StepTable.TableCalls.hand_preserved}
use Rattle.cpu.proofs.{StepTable.TablePasses.{TabledPass, pass_steps, pass_tabled, passed_if}, OverLayer.CpuOverLayer.{acts_for, laws_of, IsLayered, layered}}
use Rattle.cpu.proofs.{OverLayer.CpuOverLayer.{left_framed, runs_home, tabled_cpu, outset}, cpus.Cpu.pass.{Given.Over, Goals.{Start, After-pass-done}}}
use Rattle.cpu.specs.{Cpus.{GuestsWent, guest_passes, guests_rest, passed_by, programs_of}, declared.guests.Guest.Guest}
use Rattle.event_log.specs.declared.{entries.Entry.Entry, ids.{CpuId.CpuId, Tid.Tid}}
use Rattle.cpu.proofs.cpus.Cpu.pass.Goals as goal

-- the CPU over its layers
abbrev cpu : (g : Over) (c : Start g) → IsLayered g.I.CallLayer c.args.m.now c.args.self.now
cpu g c = layered (laws_of g.met.I.CallLayer) c.args.m.now c.args.self.now c.requires.goes.agrees

-- a pass that ended changed the guest of the thread that ran, if one did
passed_so : {number : CpuId} {trace : List Entry} (runs : Option Tid) (guests guests2 : List (Option Guest)) (pass : Pass)
    → guests2 ≡ passed_by runs guests pass → GuestsWent number guests trace guests2 trace
passed_so None guests guests2 pass is = guests_rest is refl
passed_so (Some t) guests guests2 pass is = guest_passes t pass is refl

pub pass-done-requires-clause-may : goal.pass-done-requires-clause-may
pass-done-requires-clause-may g c =
    may_pass (valid_cpu c.requires.goes.agrees.is) c.args.pass (runs_home (cpu g (goal.at.pass-done-requires-clause-may g c).Start)) c.requires.chosen

pub note_pass-requires : goal.note_pass-requires
note_pass-requires g c = λ t runs.
    current_within (valid_cpu c.requires.goes.agrees.is) (runs_home (cpu g (goal.at.note_pass-requires g c).Start)) t (sym c.current-runs.ensures ∙ runs)

-- what the poll leaves of the CPU over the tower, with these guests
abbrev tabled : (g : Over) (c : After-pass-done g) (step : g.I.CallLayer.IsStepwise) (guests : List (Option Guest))
    → guests ≡ passed_if (threads_in (g.I.CallLayer.local c.args.self.now.part)).current c.args.self.now.guests.items c.args.pass c.pass-done.result
    → TabledPass (λ d. g.I.CallLayer.ActsFor c.args.m.now d)
    (tabled_cpu (cpu g (goal.at.pass-done-requires-clause-may g c.before).Start) step) c.args.pass (g.I.CallLayer.acts c.args.m.now)
tabled g c step guests is =
    let I = g.I.CallLayer in
    let law = g.met.I.CallLayer in
    let m = c.args.m.now in
    let q = c.pass-done.new.self in
    let n = c.pass-done.new.m in
    let told = c.pass-done.ensures.passed in
    record {
      local = I.local q;
      under_way = I.under_way q;
      guests = guests;
      new = I.acts n;
      result = c.pass-done.result;
      queue = pending_by (told.others ++ I.moves m) (I.cpu_of c.args.self.now.part);
      known = hand_preserved (homes_in (I.opening m)) (homes_in (I.opening n)) (I.cpu_of q) (I.moves n) (threads_in (I.local q))
          (ap homes_in c.pass-done.ensures.framed.stays.opening)
          (law.stands q n c.pass-done.ensures.framed.coupled) (law.moves_legal n (I.cpu_of q) (law.own_cpu q n c.pass-done.ensures.framed.coupled));
      follows = rw c.requires.goes.agrees.number at (c.pass-done.ensures.follows step);
      threads_are = grind (arith, told.after);
      under_way_is = c.pass-done.ensures.under_way;
      at_once = told.at_once;
      guests_are = is;
    }

-- the pass ended
pub returns-then-is_some : goal.returns-then-is_some
returns-then-is_some g c =
    let I = g.I.CallLayer in
    let m = c.args.m.now in
    let p = c.args.self.now in
    let at = (goal.at.returns-then-is_some g c).After-pass-done in
    let cpu = cpu g (goal.at.returns-then-is_some g c).Start in
    let some : is_some c.pass-done.result ≡ true = search rules in
    let e = c.pass-done.ensures in
    let told = e.passed in
    let goes = c.requires.goes in
    let number = goes.agrees.number in
    record {
      live = goes.live;
      agrees = record {
        coupled = e.framed.coupled;
        number = e.framed.cpu ∙ number;
        is = rw (e.framed.stays.opening, e.call_states)
            (noted_done (valid_cpu cpu.is) c.args.pass (pending_by (told.others ++ I.moves m) (I.cpu_of p.part)) (I.history c.pass-done.new.m)
            (threads_in (I.local c.pass-done.new.self)) (I.under_way c.pass-done.new.self) c.note_pass.new.self.items (runs_home cpu) c.requires.chosen
            (others_same (λ d. I.ActsFor m d) p.number (I.history m) (I.history c.pass-done.new.m) e.history (acts_for cpu)) (rw some at told.after)
            (e.under_way ∙ (grind (arith, some)))
            (c.note_pass.ensures ∙ ap (λ (o : Option Tid). passed_by o p.guests.items c.args.pass) c.current-runs.ensures));
        table = λ step. rw e.framed.stays.opening
            (pass_tabled (tabled_cpu cpu step) c.args.pass c.requires.chosen _ _ (tabled g at step c.note_pass.new.self.items (grind arith)));
      };
      leaves = left_framed I m c.pass-done.new.m p _ number refl refl e.framed (ap programs_of c.note_pass.ensures ∙ (grind (arith, programs_with)))
          (passed_so c.current-runs.result _ _ c.args.pass c.note_pass.ensures) (others_grow _ _ _ _ e.history)
          (rw (← number) (passed_grows _ _ _ _ _ _ _ _ _ e.passed)) (λ step. rw (← number) (follows_grow _ _ _ _ _ _ _ _ (e.follows step)));
      steps = λ step setup of. pass_steps (tabled_cpu cpu step) c.args.pass c.requires.chosen _ _
          (tabled g at step c.note_pass.new.self.items (grind arith)) setup of (outset cpu step) goes.live;
    }

-- it has yet to
pub returns-else-is_some : goal.returns-else-is_some
returns-else-is_some g c =
    let I = g.I.CallLayer in
    let m = c.args.m.now in
    let p = c.args.self.now in
    let at = (goal.at.returns-else-is_some g c).After-pass-done in
    let cpu = cpu g (goal.at.returns-else-is_some g c).Start in
    let none : is_some c.pass-done.result ≡ false = search rules in
    let e = c.pass-done.ensures in
    let goes = c.requires.goes in
    let number = goes.agrees.number in
    record {
      live = goes.live;
      agrees = record {
        coupled = e.framed.coupled;
        number = e.framed.cpu ∙ number;
        is = rw (e.framed.stays.opening, e.call_states)
            (noted_wait (valid_cpu cpu.is) c.args.pass (I.history c.pass-done.new.m) (threads_in (I.local c.pass-done.new.self))
            (I.under_way c.pass-done.new.self) c.requires.chosen
            (others_same (λ d. I.ActsFor m d) p.number (I.history m) (I.history c.pass-done.new.m) e.history (acts_for cpu)) (rw none at e.passed.after)
            (e.under_way ∙ (grind (arith, none))));
        table = λ step. rw e.framed.stays.opening
            (pass_tabled (tabled_cpu cpu step) c.args.pass c.requires.chosen _ _ (tabled g at step p.guests.items (grind arith)));
      };
      leaves = left_framed I m c.pass-done.new.m p _ number refl refl e.framed refl (guests_rest refl refl) (others_grow _ _ _ _ e.history)
          (rw (← number) (passed_grows _ _ _ _ _ _ _ _ _ e.passed)) (λ step. rw (← number) (follows_grow _ _ _ _ _ _ _ _ (e.follows step)));
      steps = λ step setup of. pass_steps (tabled_cpu cpu step) c.args.pass c.requires.chosen _ _
          (tabled g at step p.guests.items (grind arith)) setup of (outset cpu step) goes.live;
    }
