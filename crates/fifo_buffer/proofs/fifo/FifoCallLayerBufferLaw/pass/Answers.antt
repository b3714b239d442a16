use Rattle.std.proofs.Common.{◌++◌, is_some, refl}
use Rattle.fifo_buffer.proofs.Parts.{framed_over, lawful_before, part_passed, pass_events, pass_grown, pass_moved, pass_seen, passed_own}
use Rattle.{fifo_buffer.specs.SectionPolls.BufferOutcome, layer_traits.specs.{Blocks.QueueBlocks.homes_in, Layers.SleepLaw.done_if}}
use Rattle.fifo_buffer.proofs.fifo.FifoCallLayerBufferLaw.pass.Goals as goal

pub returns-clause-history : goal.returns-clause-history
returns-clause-history g c =
    let C = g.C.ThreadLayer in
    let m = c.args.m.now in
    rw c.pass.ensures.framed.stays.opening (pass_seen (C.opening m) c.args.call c.pass.result c.pass.ensures.history _ (λ d both. both.0))

pub returns-clause-passed : goal.returns-clause-passed
returns-clause-passed g c =
    let C = g.C.ThreadLayer in
    let m = c.args.m.now in
    rw c.pass.ensures.framed.stays.opening (pass_moved (C.opening m) c.args.call c.pass.result c.pass.ensures.history _ (λ d both. both.0))

pub returns-clause-framed : goal.returns-clause-framed
returns-clause-framed g c =
    let C = g.C.ThreadLayer in
    let law = g.met.C.ThreadLayer in
    let m = c.args.m.now in
    let p = c.args.self.now in
    let cpu = C.cpu_of p.lower in
    let framed = c.pass.ensures.framed in
    let acts = law.own_cpu p.lower m c.requires.coupled.0 in
    let polled = c.pass.ensures.history in
    let grown = pass_grown (C.opening m) c.args.call c.pass.result polled in
    let before = lawful_before (C.opening m) (pass_events (homes_in (C.opening m)) cpu c.args.call
    (is_some (done_if {O = BufferOutcome} c.pass.result))) (polled.others ++ C.history m) (C.history c.pass.new.m) grown
    (rw framed.stays.opening at (law.lawful c.pass.new.m cpu (framed.stays.acts cpu acts))) in
    let on = part_passed (C.opening m) c.args.call c.pass.result polled cpu (polled.foreign cpu acts) before c.requires.coupled.1 in
    framed_over _ framed refl refl (rw (framed.stays.opening, framed.cpu, c.pass.ensures.call)
    (passed_own (C.opening m) cpu (C.history c.pass.new.m) (C.local p.lower) (C.local c.pass.new.self) p.call_states.call_states (C.under_way p.lower) p.calling
    c.args.call (is_some c.pass.result) c.requires.goes_on c.pass.ensures.rest on)) (λ q other coupled part. rw framed.stays.opening (part_passed (C.opening m)
    c.args.call c.pass.result polled (C.cpu_of q.lower) (polled.foreign (C.cpu_of q.lower) (law.own_cpu q.lower m coupled)) before part))
