use Rattle.std.proofs.{Common.{◌≡◌, true, length, ap, sym, ◌∙◌, arith}, lemmas.List.length-map}
use Rattle.{layer_traits.specs.Views.OwnParts.threads_in, cpu.specs.{declared.cpus.Cpu.Cpu, Quiescent.quiescent_in, Claims.{SystemView, cpu_shown}}}
use Rattle.cpu.proofs.WholeSystems.NobodyPending.{true_is_not_false, up_more}
use Rattle.cpu.proofs.systems.System.are_quiescent.Goals as goal

pub returns-then-not-is_quiescent : goal.returns-then-not-is_quiescent
returns-then-not-is_quiescent g c =
    let I = g.I.CallLayer in
    let count = length-map c.self.inside.cpus.items (λ (x : Cpu g.row.I.Denot g.row.I-Machine.Denot).
    cpu_shown (threads_in (I.local x.part)) x.guests.items x.trace.items x.limit (I.is_inside x.part) (I.local x.part)) in
    let shown = ap (λ (s : SystemView). length s.cpus) c.self.view_is in
    let end = c.len-number-end.ensures in (
      (λ is. absurd (cc is)),
      (λ all. true_is_not_false c.is_quiescent.result (c.is_quiescent.ensures ∙ all (record { 0 = c.loop-number.number }) (omega (
        arith,
        count,
        shown,
        c.loop-number-test.true,
        end,
      ))) c.if-not-is_quiescent.true),
    )

pub loop-number-preserved : goal.loop-number-preserved
loop-number-preserved g c =
    up_more (λ k. quiescent_in (record { 0 = k }) c.args.self.now ≡ true) c.loop-number.number c.loop-number.invariant (sym c.is_quiescent.ensures
    ∙ c.if-not-is_quiescent.false)
