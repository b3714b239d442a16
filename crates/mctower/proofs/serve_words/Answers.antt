use Rattle.{std.proofs.Common.{Option, Some, None, List, ℕ, Err, inl, refl, map, string_bytes}, clap.specs.Walk.Text, event_log.specs.declared.ids.CpuId.CpuId}
use Rattle.mctower.specs.{Line.{Ghost, order_of, run}, Output.{IsUntouched, Output, between}, Serve.{RunsAsked, Serves, ServesPlan, steps_asked}}
use Rattle.mctower.specs.Refusals.{lacks_memory}
use Rattle.mctower.proofs.serve_words.Goals as goal

-- a run may fail because memory ran out
run_refused : (steps : Option (List CpuId)) (input : Option (List ℕ)) (out : Output) → IsUntouched out → RunsAsked ServesPlan steps input (Err lacks_memory) out
run_refused (Some steps) input out untouched = inl (refl, untouched)
run_refused None input out untouched = inl (refl, untouched)

-- and so may any order
order_refused : (words : List Text) (abstract_call : Option Ghost) (input : Option (List ℕ)) (out : Output) → IsUntouched out
    → Serves words abstract_call input (Err lacks_memory) out
order_refused words (Some (run schedule)) input out untouched = run_refused (steps_asked schedule) input out untouched
order_refused words other input out untouched = inl (refl, untouched)

pub returns : goal.returns
returns g c =
    let words = map string_bytes c.in-Ok.words.items in
    let out = between g.O.Write.contents c.args.out.now c.args.out.now in
    rw c.in-Ok.is (record {
      ends = record {
        answer = Err lacks_memory;
        ends = c.refused-in-Err-texts_of.ensures.status;
        served = order_refused words (order_of words) (g.R.Read.remaining c.args.input.now) out (c.requires.out, refl);
        told = c.refused-in-Err-texts_of.ensures.told;
      };
      unread = λ _. refl;
    })
