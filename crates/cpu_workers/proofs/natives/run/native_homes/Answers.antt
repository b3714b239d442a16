use Rattle.std.proofs.Common.{◌≡◌, ◌<◌, suc, ◌+◌, List, length, ap, ◌∙◌, arith}
use Rattle.{event_log.specs.declared.ids.{CpuId.CpuId, TheConstants.CPUS}, layer_traits.specs.Threads.OnePlace.cpu_at}
use Rattle.{cpu.proofs.ListFacts.ListReads.listed_length, cpu_workers.proofs.NativeLists.homes_more}
use Rattle.cpu_workers.proofs.natives.run.native_homes.Goals as goal

pub push-requires : goal.push-requires
push-requires c =
    let long = ap (λ (l : List CpuId). length l) c.loop-number.invariant ∙ listed_length cpu_at c.loop-number.number 0 in
    let test = c.loop-number-test.true in
    let few = c.requires in
    let within : length c.loop-number.homes.items < CPUS = omega (arith, long, test, few) in
    (omega arith, within)

pub loop-number-preserved : goal.loop-number-preserved
loop-number-preserved c =
    let next : c.loop-number.number + 1 ≡ suc c.loop-number.number = omega arith in
    c.push.ensures.items ∙ homes_more c.loop-number.number (c.loop-number.number + 1) c.loop-number.homes.items c.loop-number.invariant next
