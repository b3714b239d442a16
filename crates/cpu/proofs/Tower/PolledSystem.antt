-- A poll of a CPU: the system in which it is a step, the log before and after it, and its row of
-- the table.
use Rattle.std.proofs.Common.{◌≡◌, List, Option}
use Rattle.{event_log.specs.{declared.ids.{CpuId.CpuId, LockId.LockId}, Actions.{Action, phase}}, layer_traits.specs.Layers.BufferLaw.Buffering}
use Rattle.{layer_traits.specs.Polling.Plans.{Left, Plan}, cpu.specs.Table.{Setups.{SystemConfig, CpuLocal}, Steps.{acting, cpu_step}}}
use Rattle.cpu.specs.Tower.{Views.{TowerAnswer, TowerBlock, TowerName}, Composed.{IsLine, OpensAs, named}}

-- the poll is CPU c's, in a system with this setup whose locks open with these blocks
pub record Polled : Type 1 where
  pub ActsFor : CpuId → Type 0
  pub setup : SystemConfig
  pub opening : LockId → Option TowerBlock
  pub c : CpuId
  pub acts : ActsFor c
  pub opens : OpensAs setup c opening
  pub old : List (Action TowerName)
  pub new : List (Action TowerName)

-- from p the CPU's step continues as from q, and from there the poll's plan is a row of the table
pub record Way (A : Type 0) (polled : Polled) : Type 0 where
  pub p : CpuLocal
  pub q : CpuLocal
  pub plan : Plan TowerName TowerAnswer Buffering A
  pub after : Left Buffering A → CpuLocal
  pub line : IsLine polled.setup polled.c q plan after
  pub goes : (past : List (Action TowerName)) → phase polled.c past ≡ phase polled.c polled.old
      → cpu_step polled.setup polled.c p (named past) ≡ acting polled.setup polled.c q (named past)
