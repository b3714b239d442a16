use Rattle.{std.proofs.Common.{[], refl, rules}, layer_traits.specs.Blocks.QueueBlocks.inner, fifo_buffer.proofs.Parts.{framed_over, moves_grown}}
use Rattle.fifo_buffer.proofs.Parts.{part_grown, seen_grown}
use Rattle.fifo_buffer.proofs.fifo.FifoCallLayerBufferLaw.look.Goals as goal

pub returns : goal.returns
returns g c =
    let C = g.C.ThreadLayer in
    let law = g.met.C.ThreadLayer in
    let m = c.args.m.now in
    let n = c.look.new.m in
    let p = c.args.self.now in
    let cpu = C.cpu_of p.lower in
    let framed = c.look.ensures.framed in
    let grown = c.look.ensures.history in
    let acts = law.own_cpu p.lower m c.requires.coupled.0 in
    let lawful = rw framed.stays.opening at (law.lawful n cpu (framed.stays.acts cpu acts)) in
    record {
      still = search rules;
      waits = search rules;
      framed = framed_over _ framed refl refl
          (rw (framed.stays.opening, framed.cpu, c.look.ensures.local, c.look.ensures.call)
          (part_grown (C.opening m) cpu grown.others (C.history m) (C.history n) (grown.foreign cpu acts) lawful grown.is c.requires.coupled.1))
          (λ q other coupled part. rw framed.stays.opening (part_grown (C.opening m) (C.cpu_of q.lower) grown.others (C.history m) (C.history n)
          (grown.foreign (C.cpu_of q.lower) (law.own_cpu q.lower m coupled)) lawful grown.is part));
      local = search rules;
      inside = search rules;
      under_way = search rules;
      history = rw framed.stays.opening
          (seen_grown (λ d. C.ActsFor m d) _ (inner (C.opening m)) grown.others (C.history m) (C.history n) (λ d both. both.0) grown.foreign grown.is);
      moves = rw framed.stays.opening
          (moves_grown (C.opening m) (λ d. C.ActsFor m d) _ cpu [] grown.others (C.history m) (C.history n) (λ d both. both.0) grown.foreign tt grown.is);
      tries = search rules;
    }
