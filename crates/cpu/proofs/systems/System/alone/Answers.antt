use Rattle.{layer_traits.specs.Views.OwnParts.threads_in, std.proofs.{Common.{subst, arith}, lemmas.List.length-map}, cpu.specs.declared.cpus.Cpu.Cpu}
use Rattle.cpu.{specs.{Claims.{SystemView, cpu_shown}, Sound.ReturnsAlone}, proofs.{ListFacts.ListReads.there_is, StepTable.ReachedSystems.alone_of}}
use Rattle.cpu.proofs.systems.System.alone.Goals as goal

pub returns : goal.returns
returns g c = λ step.
    let I = g.I.CallLayer in
    let is = c.self.invariant in
    let items = c.self.inside.cpus.items in
    let count = length-map items (λ (x : Cpu g.row.I.Denot g.row.I-Machine.Denot).
    cpu_shown (threads_in (I.local x.part)) x.guests.items x.trace.items x.limit (I.is_inside x.part) (I.local x.part)) in
    let some = is.some in
    let first = there_is items 0 some in
    let one = (is.each 0 first.0 first.1).holds in
    let size = (one.3 step).size in
    subst (λ (s : SystemView). ReturnsAlone s) c.self.view_is (alone_of _ (omega (arith, size, one.2.few)) (omega (arith, some, count)) (is.sound.1 step))
