use Rattle.std.proofs.Common.{arith, ◌≡◌, None, length, sym, ◌∙◌}
use Rattle.{layer_traits.specs.Blocks.Capacities.caps_in, cpu.{specs.Claims.buffer_at, proofs.ListFacts.ListReads.listed_there}}
use Rattle.cpu.proofs.WholeSystems.PartsTold.{acts_first, told_here, told_somewhere, up_to}
use Rattle.cpu.proofs.systems.System.busy.Goals as goal

pub busy_in-requires-clause-acts : goal.busy_in-requires-clause-acts
busy_in-requires-clause-acts g c = (record { 0 = 0 }, acts_first c.self.invariant)

pub returns-in-Some : goal.returns-in-Some
returns-in-Some g c =
    let m = c.self.inside.machine in
    let told = g.met.I.Owned.owners m (record { 0 = 0 }) c.args.buffer (acts_first c.self.invariant) (rw (← c.self.view_is) at c.requires) in
    let within = rw (← c.self.view_is) at c.requires in
    grind (arith, told, listed_there, m, within)

pub returns-in-Some-busy_here : goal.returns-in-Some-busy_here
returns-in-Some-busy_here g c =
    let is = c.self.invariant in
    let told = g.met.I.Owned.owners c.self.inside.machine (record { 0 = 0 }) c.args.buffer (acts_first is) (rw (← c.self.view_is) at c.requires) in
    rw (← c.self.view_is) (told_here g.I.CallLayer c.self.inside.machine c.self.inside.cpus.items is.each is.holders told c.deref-at-items.result.now
    c.loop-at.at-index c.deref-at-items.ensures.value c.at-item.result c.in-Some-busy_here.owner c.loop-at-test.true
    c.at-item.is (sym c.busy_here.ensures ∙ c.in-Some-busy_here.is)
    ∙ sym (listed_there (λ b. g.I.Owned.owner c.self.inside.machine (buffer_at b)) (length (caps_in (g.I.CallLayer.opening c.self.inside.machine)))
    c.args.buffer.0 None (rw (← c.self.view_is) at c.requires)))

pub loop-at-preserved : goal.loop-at-preserved
loop-at-preserved g c =
    up_to (λ x. g.I.Owned.owner_here x.part c.args.buffer ≡ None) c.deref-at-items.result.now c.loop-at.at-index c.at-item.result c.loop-at-test.true
    c.at-item.is (sym c.busy_here.ensures ∙ c.in_default-busy_here.is) c.loop-at.invariant

pub returns : goal.returns
returns g c =
    let is = c.self.invariant in
    let told = g.met.I.Owned.owners c.self.inside.machine (record { 0 = 0 }) c.args.buffer (acts_first is) (rw (← c.self.view_is) at c.requires) in
    absurd (told_somewhere g.I.CallLayer c.self.inside.machine c.self.inside.cpus.items is.each is.holders told c.deref-at-items.result.now c.loop-at.at-index
    c.deref-at-items.ensures.value (sym c.busy_in.ensures ∙ c.in_default.is) c.loop-at-test.false c.loop-at.invariant)
