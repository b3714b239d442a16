use Rattle.std.proofs.Common.{◌≢◌, arith}
use Rattle.{event_log.specs.declared.ids.CpuId.CpuId, layer_traits.specs.Threads.Places.{IsPending, where_is}}
use Rattle.cpu.proofs.WholeSystems.NobodyPending.{true_is_not_false, empty_of, nobody_of, up_more}
use Rattle.cpu.proofs.systems.System.nobody_pends.Goals as goal

pub returns-then-pends : goal.returns-then-pends
returns-then-pends g c = grind (arith, nobody_of)

pub loop-number-preserved : goal.loop-number-preserved
loop-number-preserved g c =
    let s = c.args.self.now in
    up_more (λ k. (d : CpuId) → where_is s.homes s.moves (record { 0 = k }) ≢ IsPending d) c.loop-number.number c.loop-number.invariant
    (λ d is. true_is_not_false c.pends.result (c.pends.ensures.1 (d, is)) c.if-pends.false)

pub returns : goal.returns
returns g c =
    let count = c.threads-threads.ensures.threads in
    let test = c.loop-number-test.false in grind (arith, empty_of, count, test)
