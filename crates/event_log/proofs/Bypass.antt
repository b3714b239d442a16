-- Bounded bypass: a CPU that waits at a lock keeps its ticket index, and the lock is not released
-- past that index, so that few sections precede its own.
use Rattle.std.proofs.Common.{◌≡◌, suc, ◌+◌, ◌<◌, false, List, [], ◌∷◌, ◌++◌, refl, sym, ne_eqb, arith, zero-add}
use Rattle.event_log.specs.{declared.ids.{CpuId.CpuId, LockId.LockId, TheConstants.CPUS}, History.{same_cpu, own_events}, Laws.OnlyTries, Actions.Action}
use Rattle.event_log.{specs.Actions.{Take, cpu_of_action, gives, MayAct, AreLegal}, proofs.{Same.cpu_numbered, Exclusion.spot_is_near, Foreign.lawful_before}}
use Rattle.event_log.proofs.OneFree.{meanwhile}

gives_of_both : {N : Type 0} (lock : LockId) (newer older : List (Action N)) → gives lock (newer ++ older) ≡ gives lock newer + gives lock older
gives_of_both lock [] older = sym (zero-add (gives lock older))
gives_of_both lock (a ∷ newer) older = grind (arith, gives_of_both lock newer older)

pub few_pass : {N : Type 0} (past between : List (Action N)) (cpu : CpuId) (lock : LockId) → AreLegal (between ++ (Take cpu lock ∷ past))
    → OnlyTries (own_events cpu_of_action cpu between) → gives lock between < CPUS
few_pass past between cpu lock legal tries =
    let taken = Take cpu lock ∷ past in
    let other = cpu_numbered (suc cpu.0) in
    let differ : same_cpu cpu other ≡ false = ne_eqb cpu.0 (suc cpu.0) (λ h. omega (arith, h)) in
    let now = meanwhile past between cpu other lock differ legal tries in
    let legal_then : AreLegal taken = lawful_before MayAct between taken legal in
    let at_first = meanwhile past [] cpu other lock differ legal_then tt in
    let was = spot_is_near taken legal_then cpu lock at_first.stands in
    let is = spot_is_near (between ++ taken) legal cpu lock now.stands in
    let sum : gives lock (between ++ taken) ≡ gives lock between + gives lock past = gives_of_both lock between taken in
    let before : gives lock taken ≡ gives lock past = refl in
    omega (arith, was.1, is.0, sum, before, now.ticket_index, at_first.ticket_index)
