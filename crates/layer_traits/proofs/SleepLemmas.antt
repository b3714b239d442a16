-- A poll of a sleeping layer is one poll of the scheduler's call that is due.
use Rattle.std.proofs.Common.{◌≡◌, List, ◌++◌, Option, Some, None, IsSome, is_some, option_map, refl, ap, sym, ◌∙◌, subst, arith}
use Rattle.{event_log.specs.declared.ids.{BufId.BufId, CpuId.CpuId, Tid.Tid}, layer_traits.specs.declared.queues.QueueEvent.QueueEvent}
use Rattle.layer_traits.specs.{declared.{scheds.SchedAnswer.{SchedAnswer, TheVariants.{Done, Answer}}, sleeps.Outcome.Outcome}, Threads.Places.Threads}
use Rattle.layer_traits.specs.Layers.{Queues.{Kernel, out_at}, Scheds.{SchedPolled, own_answered}, SleepLaw.{Sleeping, SleepPolled, WaitsStill, Does}}
use Rattle.layer_traits.specs.Layers.SleepLaw.{SendsHome, due, done_if, left_done, left_reported}

-- an outcome is deferred exactly while a thread is in the hand
abbrev pub HandDefers : {O : Type 0} → Option Tid → Option (Outcome O) → Type 0
HandDefers None None = Unit {0}
HandDefers (Some t) (Some outcome) = Unit {0}
HandDefers None (Some outcome) = ⊥
HandDefers (Some t) None = ⊥

module _ {E B O : Type 0} (k : Kernel E B (Outcome O)) (b : BufId) (e : E) where
  answer_is : (past : List (QueueEvent E)) (outcome : Outcome O) → option_map Answer (out_at k past b e) ≡ Some (Answer outcome)
      → out_at k past b e ≡ Some outcome
  answer_is past outcome answers = grind (arith, answers)

  no_answer : (past : List (QueueEvent E)) → option_map Answer (out_at k past b e) ≡ Some Done → ⊥
  no_answer past answers = grind (arith, answers)

  -- what the scheduler's poll did is a poll here, and leaves what its result means
  pub sleep_polled : (ActsFor : CpuId → Type 0) (c : CpuId) (old new : List (QueueEvent E)) (local : Sleeping O) (local' : Threads) (hand : Option Tid)
      (deferred : Option (Outcome O)) (answer : Option (SchedAnswer (Outcome O))) → local.threads.hand ≡ hand → local.deferred ≡ deferred
      → HandDefers hand deferred
      → SchedPolled k ActsFor c (due hand b e) answer old new local.threads local'
      → SleepPolled k ActsFor c b e old new local (left_reported deferred local' answer)
  sleep_polled ActsFor c old new local local' hand deferred None in_hand is_deferred coupled polled = record {
    others = polled.others;
    foreign = polled.foreign;
    poll_result = WaitsStill;
    may = tt;
    is = polled.is;
    leaves = λ i. record { local = record { threads = polled.after i; deferred = sym is_deferred i }; answer = None };
  }
  sleep_polled ActsFor c old new local local' None None (Some Done) in_hand is_deferred coupled polled =
      absurd (no_answer (polled.others ++ old) polled.answers)
  sleep_polled ActsFor c old new local local' None None (Some (Answer outcome)) in_hand is_deferred coupled polled =
      let out : out_at k (polled.others ++ old) b e ≡ Some outcome = answer_is (polled.others ++ old) outcome polled.answers in
      record {
        others = polled.others;
        foreign = polled.foreign;
        poll_result = Does outcome;
        may = (is_deferred, out);
        is = polled.is;
        leaves = ap (left_done outcome) (polled.after ∙ ap (λ o. own_answered k.moves k.homes c o local.threads) out);
      }
  sleep_polled ActsFor c old new local local' (Some t) (Some outcome) (Some Done) in_hand is_deferred coupled polled = record {
    others = polled.others;
    foreign = polled.foreign;
    poll_result = SendsHome t;
    may = (subst (λ o. IsSome o) (sym is_deferred) refl, in_hand);
    is = polled.is;
    leaves = λ i. record { local = record { threads = polled.after i; deferred = None }; answer = sym is_deferred i };
  }
  sleep_polled ActsFor c old new local local' (Some t) (Some outcome) (Some (Answer out)) in_hand is_deferred coupled polled = let other =
      polled.answers in absurd cc
  sleep_polled ActsFor c old new local local' hand deferred (Some answer) in_hand is_deferred coupled polled = absurd coupled

-- whether a pass is done, as a result of the scheduler
pub done_same : (O : Type 0) (result : Option (Unit {0})) → is_some (done_if {O = O} result) ≡ is_some result
done_same O result = grind arith
