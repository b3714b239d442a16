-- Effects that may follow one another are a run.
use Rattle.std.proofs.Common.{◌≡◌, ℕ, ◌+◌, ◌<◌, ◌%◌, ◌^◌, Bool, ◌&&◌, ◌==◌, List, [], ◌∷◌, ◌++◌, length, reverse, if◌then◌else◌, refl, ap, sym, ◌∙◌, subst}
use Rattle.std.proofs.{Common.{arith, count_by, add_comm}, lemmas.List.{reverse-append, Sums.{count_by-le-length, sum_by-cons, sum_by_push}}}
use Rattle.std.specs.Prelude.{nat_lt, slice_index}
use Rattle.event_log.specs.{declared.entries.{Entry.Entry, Kind.TheVariants.Close}, Buffers.{IsAllowedEffect, items_of}, Runs.{IsNext, IsLegalHistory}}
use Rattle.{event_log.{specs.Runs.{after_entry, kind_eq}, proofs.RunLemmas.{run_more, run_none}}, layer_traits.specs.Blocks.BufferEffects.contents_of}
use Rattle.layer_traits.specs.Blocks.EffectRuns.{EffectsAreRun}

turned : {E : Type 0} (e : E) (es : List E) → reverse (e ∷ es) ≡ reverse es ++ e ∷ []
turned e es = reverse-append (e ∷ []) es

-- how many a test picks does not depend on the order
pub count_reversed : {E : Type 0} (picks : E → Bool) (es : List E) → count_by picks (reverse es) ≡ count_by picks es
count_reversed picks [] = refl
count_reversed {E} picks (e ∷ es) =
    let one = λ (x : E). if picks x then 1 else 0 in
    ap (count_by picks) (turned e es) ∙ sum_by_push one (reverse es) e ∙ ap (λ n. n + one e) (count_reversed picks es)
    ∙ add_comm (count_by picks es) (one e) ∙ sym (sum_by-cons one e es)

-- a number that is small enough is not changed by the width of a counter
counted_exactly : {E : Type 0} (picks : E → Bool) (es : List E) (n : ℕ) → length es < 2 ^ 64 → n ≡ count_by picks es % 2 ^ 64 → n ≡ count_by picks (reverse es)
counted_exactly picks es n few is = grind (arith, count_by-le-length, count_reversed)

pub effects_are_run : EffectsAreRun
effects_are_run caps [] lawful few = run_none caps
effects_are_run caps (e ∷ es) lawful few =
    let fewer : length es < 2 ^ 64 = omega (arith, few) in
    let next : IsNext caps (reverse es) (contents_of caps es) e = record {
      known = lawful.0.known;
      allowed = subst (λ closed. IsAllowedEffect e.kind closed (slice_index caps e.buffer.0) (items_of (contents_of caps es) e.buffer.0) e.value)
          (ap (nat_lt 0) (sym (count_reversed (λ (x : Entry). (x.buffer.0 == e.buffer.0) && kind_eq x.kind Close) es))) lawful.0.allowed;
      op = counted_exactly (λ (x : Entry). x.buffer.0 == e.buffer.0) es e.op fewer lawful.0.op;
      pos = counted_exactly (λ (x : Entry). (x.buffer.0 == e.buffer.0) && kind_eq x.kind e.kind) es e.pos fewer lawful.0.pos;
    } in
    subst (λ order. IsLegalHistory caps order (after_entry (contents_of caps es) e)) (sym (turned e es))
    (run_more caps (reverse es) (contents_of caps es) e (effects_are_run caps es lawful.1 fewer) next)
