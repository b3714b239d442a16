use Rattle.std.proofs.Common.{◌≡◌, ◌+◌, is_some, true, false, ap, subst, ◌∙◌}
use Rattle.{layer_traits.{proofs.ToldLemmas.told_some, specs.{Blocks.Payloads.abstract_result, Protocols.Protocol.section}}, cpu_workers.specs.Counts.made}
use Rattle.cpu_workers.proofs.Counts.{poll_waits, poll_answers, goes_on}
use Rattle.cpu_workers.proofs.counting.sections.add_one.Goals as goal

pub returns-then-is_some-clause-made : goal.returns-then-is_some-clause-made
returns-then-is_some-clause-made g c =
    let L = g.L.Layer in
    let polled = c.poll.ensures.history in
    let told = abstract_result (λ out payload. out) c.poll.result c.poll.new.payload in
    let some : is_some c.poll.result ≡ true = cc in
    let answers : is_some told ≡ true = told_some (λ out payload. out) c.poll.result c.poll.new.payload ∙ some in
    let more = poll_answers (section (L.cpu_of c.loop.part) c.args.lock (record {})) polled.others (L.history c.loop.machine) (L.history c.poll.new.m)
    (is_some told) polled.is (polled.foreign (L.cpu_of c.loop.part) (g.met.L.Layer.own_cpu c.loop.part c.loop.machine c.loop.invariant.coupled)) answers in
    subst (λ cpu. made cpu c.args.lock (L.history c.poll.new.m) ≡ made cpu c.args.lock (L.history c.loop.machine) + 1) c.loop.invariant.cpu more
    ∙ ap (λ n. n + 1) c.loop.invariant.made

pub loop-preserved : goal.loop-preserved
loop-preserved g c =
    let L = g.L.Layer in
    let polled = c.poll.ensures.history in
    let told = abstract_result (λ out payload. out) c.poll.result c.poll.new.payload in
    let waits : is_some c.poll.result ≡ false = cc in
    let still : is_some told ≡ false = told_some (λ out payload. out) c.poll.result c.poll.new.payload ∙ waits in
    let same = poll_waits (section (L.cpu_of c.loop.part) c.args.lock (record {})) polled.others (L.history c.loop.machine) (L.history c.poll.new.m)
    (is_some told) polled.is (polled.foreign (L.cpu_of c.loop.part) (g.met.L.Layer.own_cpu c.loop.part c.loop.machine c.loop.invariant.coupled)) still in
    record {
      coupled = c.poll.ensures.framed.coupled;
      cpu = c.poll.ensures.framed.cpu ∙ c.loop.invariant.cpu;
      opening = c.poll.ensures.framed.stays.opening ∙ c.loop.invariant.opening;
      machine_id = c.poll.ensures.framed.stays.machine_id ∙ c.loop.invariant.machine_id;
      acts = λ cpu had. c.poll.ensures.framed.stays.acts cpu (c.loop.invariant.acts cpu had);
      call = goes_on (L.under_way c.poll.new.self) (is_some c.poll.result) _ _ c.poll.ensures.call waits
          (ap (λ cpu. section cpu c.args.lock (record {})) c.loop.invariant.cpu);
      made = subst (λ cpu. made cpu c.args.lock (L.history c.poll.new.m) ≡ made cpu c.args.lock (L.history c.loop.machine)) c.loop.invariant.cpu same
          ∙ c.loop.invariant.made;
    }
