use Rattle.std.proofs.Common.{◌∙◌, sym}
use Rattle.ipc_calls.proofs.ipc.IpcCallLayerIpcLaw.part.Goals as goal

-- the part below agrees with a machine in which nothing was done, and the plan is that machine's
pub returns-clause-coupled : goal.returns-clause-coupled
returns-clause-coupled g c m fresh count = (
  c.part.ensures.coupled m fresh.0 tt,
  record { number_is = c.part.ensures.cpu; homes_are = c.kept_homes.ensures ∙ sym fresh.1; count_is = count },
)
