-- The report of a plan's workers, and the words log in which they acted.
use Rattle.std.specs.Prelude.{◌≡◌, ℕ, reverse, Option}
use Rattle.{boot.specs.Plan.BootPlan, event_log.specs.declared.ids.{CpuId.CpuId, LockId.LockId}}
use Rattle.{event_log.specs.History.IsLawful, layer_traits.specs.Protocols.WordsProtocol.MayCome}
use Rattle.cpu.specs.{Sound.setup_for, Table.Setups.SystemConfig, Tower.Composed.named}
use Rattle.cpu_workers.specs.{declared.workers.gates.Go.Go, Closing.{WordsOfTower, acts_in}}
use Rattle.cpu_workers.specs.{Closing.tower_rules, Prefixes.AreLinearizable, Lawful.IsLawfulReport}
use Rattle.cpu_workers.specs.{Lawful.ReportView, Orders.effects_of, Seating.{AnyBlock, OpensPlan}}

-- a lawful report of this words log: the list along which each CPU went by the step table is
-- that of the log's actions. The order of the traces is that of the effects of the log's releases.
-- In the order of these actions the calls are linearizable.
pub record IsReportOfWords (setup : SystemConfig) (May : CpuId → Go → ℕ → Type 0) (turns : ℕ)
    (words : WordsOfTower) (r : ReportView) : Type 0 where
  pub report : IsLawfulReport setup May turns r
  pub log_is : report.log ≡ named (acts_in words)
  pub order_is : report.report.order ≡ reverse (effects_of setup.caps (acts_in words))
  pub linear : AreLinearizable setup (acts_in words)

-- the report of a plan's workers is that of one words log, which is legal over the locks as the
-- plan opens them
pub record HasWords (plan : BootPlan) (May : CpuId → Go → ℕ → Type 0) (turns : ℕ)
    (r : ReportView) : Type 0 where
  pub opening : LockId → Option AnyBlock
  pub opens : OpensPlan plan opening
  pub words : WordsOfTower
  pub legal : IsLawful (MayCome (tower_rules.allowed opening)) words
  pub tells : IsReportOfWords (setup_for plan) May turns words r
