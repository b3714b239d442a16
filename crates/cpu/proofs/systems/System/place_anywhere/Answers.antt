use Rattle.std.proofs.Common.{arith, ◌∙◌}
use Rattle.{layer_traits.specs.Blocks.QueueBlocks.homes_in, cpu.proofs.{ListFacts.ListReads.{shows_at, there_is}, WholeSystems.PartsTold.{acts_first, item_at}}}
use Rattle.cpu.proofs.{WholeSystems.PartsTold.{wait_channel_here, up_to, up_to_end}, OverLayer.SystemOverLayer.shown_by}
use Rattle.cpu.proofs.systems.System.place_anywhere.Goals as goal

pub returns-in-Some : goal.returns-in-Some
returns-in-Some g c =
    let items = c.self.inside.cpus.items in
    let shown = shown_by g.I.CallLayer in
    let x = c.at-item.result in
    let at = item_at items c.deref-at-items.result.now c.loop-at.at-index x c.deref-at-items.ensures.value c.loop-at-test.true c.at-item.is in
    let is = c.self.invariant.each c.loop-at.at-index x at in
    rw (← c.self.view_is)
    (grind (arith, shows_at shown items c.loop-at.at-index x at, is.holds.1 ∙ is.number_is, c.place_at.ensures.observed c.in-Some.place c.in-Some.is))

pub loop-at-preserved : goal.loop-at-preserved
loop-at-preserved g c =
    up_to (λ x. g.I.Owned.IsSilent x.part c.self.inside.machine c.args.thread) c.deref-at-items.result.now c.loop-at.at-index c.at-item.result
    c.loop-at-test.true c.at-item.is (c.place_at.ensures.silent c.in_default.is) c.loop-at.invariant

pub returns : goal.returns
returns g c =
    let I = g.I.CallLayer in
    let m = c.self.inside.machine in
    let is = c.self.invariant in
    let items = c.self.inside.cpus.items in
    let first = there_is items 0 is.some in
    let observed = g.met.I.Owned.place first.0.part m c.args.thread (is.each 0 first.0 first.1).holds.0 (rw (← c.self.view_is) at c.requires) in
    absurd (wait_channel_here I m items is.each is.holders (λ p. g.I.Owned.IsSilent p m c.args.thread) (homes_in (I.opening m)) (I.moves m) c.args.thread
    (g.met.I.CallLayer.moves_legal m (record { 0 = 0 }) (acts_first is)) is.within observed
    (up_to_end (λ x. g.I.Owned.IsSilent x.part m c.args.thread) items c.deref-at-items.result.now c.loop-at.at-index c.deref-at-items.ensures.value
    c.loop-at-test.false c.loop-at.invariant))
