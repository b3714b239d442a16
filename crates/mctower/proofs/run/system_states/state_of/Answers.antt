use Rattle.std.proofs.{Common.{ap, ◌∙◌, subst, arith}, lemmas.List.length-take-le}
use Rattle.{cpu.specs.{Claims.{IsPlaceOf, listed}, Systems.halted_in}, mctower.proofs.ReadingLemmas.read_front}
use Rattle.mctower.proofs.run.system_states.state_of.Goals as goal

pub returns : goal.returns
returns g c =
    let threads = c.threads-threads.result in
    let count = c.threads-threads.ensures.threads in
    record {
      halted = c.halted_of-halted.ensures ∙ ap (λ n. listed (λ k. halted_in (record { 0 = k }) c.args.system.now) 0 n) c.cpus.ensures.cpus;
      count = count;
      many = length-take-le threads c.places_of-places.result (omega (arith, c.places_of-places.ensures.count, c.threads-threads.ensures.few)) ∙ count;
      places = λ t place at.
          let read = read_front c.places_of-places.result threads t place at in
          subst (λ x. IsPlaceOf c.args.system.now (record { 0 = t }) x) read.1 (c.places_of-places.ensures.read t place read.0);
      quiet = c.is_quiet-is_quiet.ensures.is;
      table = c.is_quiet-is_quiet.ensures.table;
      still = c.is_quiet-is_quiet.ensures.still;
    }
