-- A layer that wraps its edits in those of a lower sleeping layer. A poll and a plan there are a
-- poll and a plan here, under the layer's own names.
use Rattle.std.proofs.Common.{◌≡◌, List, ◌++◌, Option, ap, ◌∙◌, subst, arith}
use Rattle.{event_log.specs.declared.ids.{BufId.BufId, CpuId.CpuId, Tid.Tid}, layer_traits.specs.declared.{passes.Pass.Pass, queues.QueueEvent.QueueEvent}}
use Rattle.layer_traits.specs.{declared.sleeps.Outcome.Outcome, Polling.Plans.Left, Layers.{Queues.Kernel, SleepLaw.{PollResult, MayDo, SleepPolled, Sleeping}}}
use Rattle.layer_traits.specs.{Layers.SleepLaw.{WaitsStill, Does, SendsHome, due, left_with, pass_plan, seen_with, sleep_plan}, Views.Renaming.plan_named}
use Rattle.layer_traits.{specs.Views.Renaming.{renamed_edit, renamed_events, renamed_sched}, proofs.KernelRenaming.{Wraps, answered_renamed, events_append}}
use Rattle.layer_traits.proofs.KernelRenaming.{events_others, named_raised, out_renamed, plan_renamed}

module _ {D E A B O : Type 0} (k : Kernel D A (Outcome O)) (j : Kernel E B (Outcome O)) (name : D → E) (view : A → B) (wraps : Wraps k j name view) where
  may_renamed : (c : CpuId) (b : BufId) (d : D) (poll_result : PollResult O) (past : List (QueueEvent D)) (local : Sleeping O)
      → MayDo k c b d poll_result past local → MayDo j c b (name d) poll_result (renamed_events name past) local
  may_renamed c b d WaitsStill past local may = tt
  may_renamed c b d (Does outcome) past local may = (may.0, out_renamed k j name view wraps past b d ∙ may.1)
  may_renamed c b d (SendsHome t) past local may = may

  seen_renamed : (c : CpuId) (b : BufId) (d : D) (poll_result : PollResult O) (past : List (QueueEvent D))
      → renamed_events name (seen_with k c b d poll_result past) ≡ seen_with j c b (name d) poll_result (renamed_events name past)
  seen_renamed c b d poll_result past = grind arith

  left_renamed : (c : CpuId) (b : BufId) (d : D) (poll_result : PollResult O) (local : Sleeping O)
      → left_with k c b d poll_result local ≡ left_with j c b (name d) poll_result local
  left_renamed c b d poll_result local = grind (arith, answered_renamed)

  -- a poll of the lower layer is a poll here
  pub sleeps_renamed : (ActsFor : CpuId → Type 0) (c : CpuId) (b : BufId) (d : D) (old new : List (QueueEvent D)) (local : Sleeping O)
      (got : Left (Sleeping O) (Outcome O))
      → SleepPolled k ActsFor c b d old new local got → SleepPolled j ActsFor c b (name d) (renamed_events name old) (renamed_events name new) local got
  sleeps_renamed ActsFor c b d old new local got polled =
      let here : renamed_events name (polled.others ++ old)
      ≡ renamed_events name polled.others ++ renamed_events name old = events_append name polled.others old in
      record {
        others = renamed_events name polled.others;
        foreign = λ e acts. events_others name e polled.others (polled.foreign e acts);
        poll_result = polled.poll_result;
        may = subst (λ p. MayDo j c b (name d) polled.poll_result p local) here (may_renamed c b d polled.poll_result (polled.others ++ old) local polled.may);
        is = ap (renamed_events name) polled.is ∙ (seen_renamed c b d polled.poll_result (polled.others ++ old)
            ∙ ap (seen_with j c b (name d) polled.poll_result) here);
        leaves = polled.leaves ∙ left_renamed c b d polled.poll_result local;
      }

  due_renamed : (hand : Option Tid) (b : BufId) (d : D) → renamed_sched name (due hand b d) ≡ due hand b (name d)
  due_renamed hand b d = grind arith

  -- the plan of the lower layer is the plan here
  pub sleep_plan_renamed : (h : List CpuId) (c : CpuId) (b : BufId) (d : D) (local : Sleeping O)
      → plan_named (renamed_edit name) (sleep_plan k.moves h c b d local) ≡ sleep_plan j.moves h c b (name d) local
  sleep_plan_renamed h c b d local = grind (arith, named_raised, plan_renamed, due_renamed)

  pub pass_plan_renamed : (h : List CpuId) (c : CpuId) (p : Pass) (local : Sleeping O)
      → plan_named (renamed_edit name) (pass_plan k.moves h c p local) ≡ pass_plan j.moves h c p local
  pass_plan_renamed h c p local = grind (arith, named_raised, plan_renamed)
