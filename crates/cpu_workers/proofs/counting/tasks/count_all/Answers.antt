use denote.Param.Send.{sendable}
use Rattle.std.proofs.{Crossing.crosses, Common.{◌≡◌, IsSome, length, map, ap, ◌∙◌, arith}}
use Rattle.{layer_traits.specs.Protocols.OneLock.opened, cpu_workers.specs.{declared.counting.TheConstants.NUMBER, Counts.{HasMade, IsFresh}}}
use Rattle.{cpu_workers.proofs.{CountCrossing.counting_send, Joining.{both_all, both_length, both_map, both_then}}, table_machine.proofs.Crossing.key_send}
use Rattle.cpu_workers.proofs.counting.tasks.count_all.Goals as goal

pub run_all-requires-send-T : goal.run_all-requires-send-T
run_all-requires-send-T g c κs within = search (sendable, crosses, counting_send) depth 12

pub run_all-requires-send-T-Done : goal.run_all-requires-send-T-Done
run_all-requires-send-T-Done g c κs within = search (sendable, crosses, key_send) depth 12

pub run_all-requires-after_bounds : goal.run_all-requires-after_bounds
run_all-requires-after_bounds g c κs within =
    both_all (λ k t. (t.key ≡ k) × (t.shared.now ≡ c.args.shared.now) × (t.times ≡ c.args.times)) (IsFresh c.args.shared.now)
    (λ t. IsFresh t.shared.now t.key × IsSome (opened t.shared.now.start NUMBER))
    (λ k t is fresh. (rw (is.1, is.0) fresh, rw is.1 c.requires.lock)) c.args.keys.items c.all_counting-tasks.result.items c.all_counting-tasks.ensures
    c.requires.fresh

pub returns-in-Ok-run_all-clause-came : goal.returns-in-Ok-run_all-clause-came
returns-in-Ok-run_all-clause-came g c =
    both_then (λ k t. (t.key ≡ k) × (t.shared.now ≡ c.args.shared.now) × (t.times ≡ c.args.times)) (λ t k. HasMade NUMBER t.key k t.times)
    (λ d k. HasMade NUMBER d k c.args.times)
    (λ d t k is made. rw (← is.0, ← is.2) made) c.args.keys.items c.all_counting-tasks.result.items c.in-Ok-run_all.came.done.items
    c.all_counting-tasks.ensures c.in-Ok-run_all.ensures.ran

pub keys_of-back-requires-clause-room : goal.keys_of-back-requires-clause-room
keys_of-back-requires-clause-room g c =
    let back = ap (λ b. length b.items) c.in-Err-run_all.back-is in
    let same = both_length _ c.args.keys.items c.all_counting-tasks.result.items c.all_counting-tasks.ensures in
    omega (arith, back, ap length c.in-Err-run_all.ensures.refused, same, c.in-Ok.ensures.keys.1, c.len.ensures, c.args.keys.ok.0)

pub returns-in-Err-run_all-clause-refused : goal.returns-in-Err-run_all-clause-refused
returns-in-Err-run_all-clause-refused g c =
    let keys = both_map (λ k t. (t.key ≡ k) × (t.shared.now ≡ c.args.shared.now) × (t.times ≡ c.args.times)) (λ t. t.key) (λ k t is. is.0)
    c.args.keys.items c.all_counting-tasks.result.items c.all_counting-tasks.ensures in
    c.keys_of-back.ensures ∙ (ap (map (λ t. t.key)) c.in-Err-run_all.ensures.refused ∙ keys)
