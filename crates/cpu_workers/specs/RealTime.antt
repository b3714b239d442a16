-- Real time, as Herlihy and Wing define it. At each moment, a call that has returned is in the
-- order before each call that has not begun.
use Rattle.std.specs.Prelude.{◌≡◌, ℕ, ◌<◌, ◌≤◌, List, ◌++◌, reverse}
use Rattle.event_log.specs.{declared.ids.{CpuId.CpuId, Tid.Tid}, Actions.Action}
use Rattle.cpu.specs.{Table.Setups.SystemConfig, TableOrder.{StandsAt, calls_begun, calls_returned}}
use Rattle.{cpu.specs.Tower.Views.TowerName, cpu_workers.specs.Prefixes.AreLinearizable}
use Rattle.cpu_workers.specs.Orders.{effects_of}

-- The theorem, at each prefix of linearizable actions. If call i of one thread has returned and
-- call j of another has not begun, then i is before j in the order of all calls.
abbrev pub ReturnedComeFirst : Type 0
ReturnedComeFirst =
    (setup : SystemConfig) (acts later earlier : List (Action TowerName))
    → (linear : AreLinearizable setup acts) → (is : acts ≡ later ++ earlier)
    → (c d : CpuId) (here : c.0 < setup.cpus) (there : d.0 < setup.cpus) (t u : Tid) (i j p q : ℕ)
    → i < calls_returned ((linear later earlier is).worked.ran c here).last t
    → calls_begun ((linear later earlier is).worked.ran d there).last u ≤ j
    → StandsAt c t i (reverse (effects_of setup.caps acts)) p
    → StandsAt d u j (reverse (effects_of setup.caps acts)) q → p < q
