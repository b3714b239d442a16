-- A run is linearizable with respect to its steps, and the order at each of its moments is a prefix
-- of the later ones.
use Rattle.std.proofs.{Common.{◌≡◌, ◌+◌, List, [], ◌∷◌, ◌++◌, ap, sym, ◌∙◌, subst, append_assoc, arith}, lemmas.List.{append-nil, length-append}}
use Rattle.std.{proofs.lemmas.{List.{get_or_append_left, get_or-append-add}, Option.slice_get-get_or}, specs.Prelude.Contains}
use Rattle.{event_log.specs.declared.{entries.Entry.Entry, ids.CpuId.CpuId}, cpu.specs.{Claims.{IsRunState, SystemView}, Linear.{ComesBefore, IsLinearizable}}}
use Rattle.cpu.specs.{Linear.{LinearRunsKeepRealTime, begins, takes_none, takes_step}, Systems.{Ran, WentOn, goes, took_none, stayed, took}}

-- Steps that were taken or not are moments of a run.

linear_went : {IsStepwise : Type 0} {old s : SystemView} {steps : List CpuId} (c : CpuId) (r : SystemView) → IsLinearizable old steps s
    → WentOn IsStepwise c s r
    → IsLinearizable old (steps ++ c ∷ []) r
linear_went c r before (took live counted grows now step) = takes_step c r before grows now
linear_went {old = old} {steps = steps} c r before (stayed reason is same) =
    subst (λ (t : SystemView). IsLinearizable old (steps ++ c ∷ []) t) (sym same) (takes_none c before)

pub linear_ran : {IsStepwise : Type 0} {old r : SystemView} {steps : List CpuId} → Ran IsStepwise old steps r → IsLinearizable old steps r
linear_ran took_none = begins
linear_ran (goes c r before went) = linear_went c r (linear_ran before) went

-- Its moments.

order_after : {old r : SystemView} {steps : List CpuId} → IsLinearizable old steps r → (more : List Entry) × (r.order ≡ old.order ++ more)
order_after {old = old} begins = ([], sym (append-nil old.order))
order_after (takes_none c before) = order_after before
order_after {old = old} (takes_step c r before grows now) =
    let first = order_after before in (
      first.0 ++ grows.order.more,
      grows.order.is ∙ ap (λ (l : List Entry). l ++ grows.order.more) first.1 ∙ append_assoc old.order first.0 grows.order.more,
    )

moment_after : {old r : SystemView} {steps : List CpuId} → IsLinearizable old steps r → IsRunState old → IsRunState r
moment_after begins first = first
moment_after (takes_none c before) first = moment_after before first
moment_after (takes_step c r before grows now) first = now

pub comes_before_more : (first later more : List Entry) → later ≡ first ++ more → (a b : Entry) → Contains first a → Contains more b → ComesBefore later a b
comes_before_more first later more is a b has has_more = grind (arith, length-append, slice_get-get_or, get_or_append_left, get_or-append-add)

pub real_time : LinearRunsKeepRealTime
real_time first later steps now linear =
    let after = order_after linear in
    record {
      at_first = now;
      at_later = moment_after linear now;
      more = after.0;
      goes_on = after.1;
      before = comes_before_more first.order later.order after.0 after.1;
    }
