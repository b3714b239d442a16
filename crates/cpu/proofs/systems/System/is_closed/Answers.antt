use Rattle.std.proofs.Common.{arith, ◌≡◌, false, length, None, sym, ◌∙◌}
use Rattle.{layer_traits.specs.Blocks.Capacities.caps_in, event_log.specs.Runs.is_closed, cpu.proofs.ListFacts.ListReads.listed_there}
use Rattle.cpu.proofs.WholeSystems.PartsTold.{acts_first, told_here, told_somewhere, up_to}
use Rattle.cpu.proofs.systems.System.is_closed.Goals as goal

pub closed_at_home-requires-clause-acts : goal.closed_at_home-requires-clause-acts
closed_at_home-requires-clause-acts g c = (record { 0 = 0 }, acts_first c.self.invariant)

pub returns-in-Some : goal.returns-in-Some
returns-in-Some g c =
    let I = g.I.CallLayer in
    let m = c.self.inside.machine in
    let within = rw (← c.self.view_is) at c.requires in
    let told = g.met.I.Owned.closed m (record { 0 = 0 }) c.args.buffer (acts_first c.self.invariant) within in
    grind (arith, told, listed_there, I, m, within)

pub returns-in-Some-closed_in_hands : goal.returns-in-Some-closed_in_hands
returns-in-Some-closed_in_hands g c =
    let is = c.self.invariant in
    let told = g.met.I.Owned.closed c.self.inside.machine (record { 0 = 0 }) c.args.buffer (acts_first is) (rw (← c.self.view_is) at c.requires) in
    rw (← c.self.view_is) (told_here g.I.CallLayer c.self.inside.machine c.self.inside.cpus.items is.each is.holders told c.deref-at-items.result.now
    c.loop-at.at-index c.deref-at-items.ensures.value c.at-item.result c.in-Some-closed_in_hands.closed c.loop-at-test.true
    c.at-item.is (sym c.closed_in_hands.ensures ∙ c.in-Some-closed_in_hands.is)
    ∙ sym (listed_there (is_closed (g.I.CallLayer.history c.self.inside.machine)) (length (caps_in (g.I.CallLayer.opening c.self.inside.machine)))
    c.args.buffer.0 false (rw (← c.self.view_is) at c.requires)))

pub loop-at-preserved : goal.loop-at-preserved
loop-at-preserved g c =
    up_to (λ x. g.I.Owned.closed_here x.part c.args.buffer ≡ None) c.deref-at-items.result.now c.loop-at.at-index c.at-item.result c.loop-at-test.true
    c.at-item.is (sym c.closed_in_hands.ensures ∙ c.in_default-closed_in_hands.is) c.loop-at.invariant

pub returns : goal.returns
returns g c =
    let is = c.self.invariant in
    let told = g.met.I.Owned.closed c.self.inside.machine (record { 0 = 0 }) c.args.buffer (acts_first is) (rw (← c.self.view_is) at c.requires) in
    absurd (told_somewhere g.I.CallLayer c.self.inside.machine c.self.inside.cpus.items is.each is.holders told c.deref-at-items.result.now c.loop-at.at-index
    c.deref-at-items.ensures.value (sym c.closed_at_home.ensures ∙ c.in_default.is) c.loop-at-test.false c.loop-at.invariant)
