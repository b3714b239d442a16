use Rattle.std.proofs.{Common.{◌∙◌, arith}, lemmas.List.length-set}
use Rattle.{cpu.specs.Claims.IsPlaceOf, mctower.proofs.ReadingLemmas.read_more}
use Rattle.mctower.proofs.run.system_states.places_of.Goals as goal

pub loop-t-preserved : goal.loop-t-preserved
loop-t-preserved g c = record {
  many = length-set c.loop-t.places c.loop-t.t c.place.result ∙ c.loop-t.invariant.many;
  read = read_more (λ k place. IsPlaceOf c.args.system.now (record { 0 = k }) place) c.loop-t.places c.loop-t.t c.place.result
      (omega (arith, c.loop-t.invariant.many, c.loop-t-test.true, c.requires.few)) c.loop-t.invariant.read c.place.ensures;
}

pub returns-clause-read : goal.returns-clause-read
returns-clause-read g c t d lt = c.loop-t.invariant.read t d (omega (arith, lt, c.loop-t-test.false))
