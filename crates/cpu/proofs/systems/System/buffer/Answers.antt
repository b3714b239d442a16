use Rattle.std.proofs.Common.{◌≡◌, None, ap, sym, ◌∙◌, option_map}
use Rattle.cpu.proofs.WholeSystems.PartsTold.{acts_first, told_here, told_somewhere, up_to}
use Rattle.cpu.proofs.systems.System.buffer.Goals as goal

pub buffer_in-requires-clause-acts : goal.buffer_in-requires-clause-acts
buffer_in-requires-clause-acts g c = (record { 0 = 0 }, acts_first c.self.invariant)

pub returns-in-Some : goal.returns-in-Some
returns-in-Some g c =
    let is = c.self.invariant in
    let told = g.met.I.Owned.items c.self.inside.machine (record { 0 = 0 }) c.args.buffer (acts_first is) (rw (← c.self.view_is) at c.requires) in
    rw (← c.self.view_is) (told.by_machine c.in-Some.items.items (sym c.buffer_in.ensures ∙ ap (λ o. option_map (λ x. x.items) o) c.in-Some.is))

pub returns-in-Some-buffer_here : goal.returns-in-Some-buffer_here
returns-in-Some-buffer_here g c =
    let is = c.self.invariant in
    let told = g.met.I.Owned.items c.self.inside.machine (record { 0 = 0 }) c.args.buffer (acts_first is) (rw (← c.self.view_is) at c.requires) in
    rw (← c.self.view_is) (told_here g.I.CallLayer c.self.inside.machine c.self.inside.cpus.items is.each is.holders told c.deref-at-items.result.now
    c.loop-at.at-index c.deref-at-items.ensures.value c.at-item.result c.in-Some-buffer_here.items.items c.loop-at-test.true
    c.at-item.is (sym c.buffer_here.ensures ∙ ap (λ o. option_map (λ y. y.items) o) c.in-Some-buffer_here.is))

pub loop-at-preserved : goal.loop-at-preserved
loop-at-preserved g c =
    up_to (λ x. g.I.Owned.items_here x.part c.args.buffer ≡ None) c.deref-at-items.result.now c.loop-at.at-index c.at-item.result c.loop-at-test.true
    c.at-item.is (sym c.buffer_here.ensures ∙ ap (λ o. option_map (λ y. y.items) o) c.in_default-buffer_here.is) c.loop-at.invariant

pub returns : goal.returns
returns g c =
    let is = c.self.invariant in
    let told = g.met.I.Owned.items c.self.inside.machine (record { 0 = 0 }) c.args.buffer (acts_first is) (rw (← c.self.view_is) at c.requires) in
    absurd (told_somewhere g.I.CallLayer c.self.inside.machine c.self.inside.cpus.items is.each is.holders told c.deref-at-items.result.now c.loop-at.at-index
    c.deref-at-items.ensures.value (sym c.buffer_in.ensures ∙ ap (λ o. option_map (λ y. y.items) o) c.in_default.is) c.loop-at-test.false c.loop-at.invariant)
