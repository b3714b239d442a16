use Rattle.{std.proofs.lemmas.Result.IfOk-weaker, ipc_calls.proofs.Opened.both_ok}
use Rattle.ipc_calls.proofs.ipc.IpcOwned.open.Goals as goal

-- nothing was done in a machine that was opened, and it has these homes
pub returns-clause-fresh : goal.returns-clause-fresh
returns-clause-fresh g c =
    let r = c.open.result in
    IfOk-weaker r _ _ (λ m it d within. (it.1 d within, it.0.homes_are)) (both_ok r _ _ c.open.ensures.opened c.open.ensures.fresh)
