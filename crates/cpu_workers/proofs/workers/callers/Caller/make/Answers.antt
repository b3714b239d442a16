use Rattle.std.proofs.{Common.{◌∷◌, [], List, length, reverse, ap, ◌∙◌, subst, arith}, lemmas.List.reverse-append}
use Rattle.{layer_traits.specs.{Blocks.Capacities.caps_in, Layers.BufferLaw.{buffer_of, entry_of}}, event_log.specs.declared.entries.Entry.Entry}
use Rattle.{event_log.specs.declared.ids.CpuId.CpuId, cpu.specs.Cpus.of_cpu, cpu_workers.{specs.Calls.Returned, proofs.Making.newest_carries}}
use Rattle.cpu_workers.proofs.workers.callers.Caller.make.Goals as goal

pub invariant_of-self : goal.invariant_of-self
invariant_of-self g c =
    let I = g.I.CallLayer in
    let x = c.self.inside in
    let is = c.self.invariant in
    let e = c.call-reply.ensures in
    let back = subst (λ (d : CpuId). Returned d x.thread c.args.call.now c.call-reply.result (I.history x.machine) (I.history c.call-reply.new.m))
    is.coupled.1 e.returned in
    let one = ap (λ (l : List Entry). length l) back.went.local in
    record {
      coupled = (e.coupled, e.cpu ∙ is.coupled.1);
      room = is.room;
      nothing = e.under_way;
      rests = e.idle;
      opens = rw e.opening is.opens;
      counted = omega (arith, one, is.counted);
      few = omega (arith, c.if-self-lt-MOST_CALLS.true);
    }

pub returns-then-self-lt-MOST_CALLS : goal.returns-then-self-lt-MOST_CALLS
returns-then-self-lt-MOST_CALLS g c =
    let I = g.I.CallLayer in
    let law = g.met.I.CallLayer in
    let x = c.self.inside in
    let n = c.call-reply.new.m in
    let is = c.self.invariant in
    let e = c.call-reply.ensures in
    let back = subst (λ (d : CpuId). Returned d x.thread c.args.call.now c.call-reply.result (I.history x.machine) (I.history n)) is.coupled.1 e.returned in
    let its = entry_of x.cpu x.thread (buffer_of c.args.call.now) back.effect in
    let calls = ap (λ (l : List Entry). reverse l) back.went.local ∙ reverse-append (its ∷ []) (of_cpu x.cpu (I.history x.machine)) in
    rw (← c.self.view_is) (record {
      effect = back.effect;
      is = back.is;
      carries = newest_carries (caps_in (I.opening n)) x.cpu (I.history n) its _
          (law.lawful n (I.cpu_of c.call-reply.new.part) (law.own_cpu c.call-reply.new.part n e.coupled))
          back.went.local;
      replies = back.replies;
      grows = λ i. record { cpu = x.cpu; thread = x.thread; caps = caps_in (e.opening i); machine_id = e.machine_id i; calls = calls i };
    })
