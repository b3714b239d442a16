-- A CPU of a system that takes no step: the table's system takes none, and reports the same.
use Rattle.std.proofs.Common.{◌≡◌, ◌<◌, ◌==◌, Bool, length, Option, Some, None, if◌then◌else◌, sym, ◌∙◌, arith}
use Rattle.{event_log.specs.declared.ids.CpuId.CpuId, layer_traits.specs.declared.steps.{Reason.{Reason, TheVariants.StepsUsed}, Step.TheVariants.Halted}}
use Rattle.cpu.specs.{Claims.{CpuView, SystemView}, Systems.{HaltsByTable, SteppedByTable, halted_in, reason_of, reason_or}}
use Rattle.cpu.proofs.ListFacts.ListReads.{shows_at, there_is}

-- why a CPU takes no step: its own reason, or the room for steps is used
abbrev pub reason_by : Option Reason → Bool → Option Reason
reason_by None full = if full then Some StepsUsed else None
reason_by (Some reason) full = Some reason

or_by : (local : Option Reason) (s : SystemView) → reason_or local s ≡ reason_by local (s.taken == s.room)
or_by local s = grind arith

-- a system with a reason to take no step of a CPU does as the table
pub reasons_step : (c : CpuId) (s : SystemView) → c.0 < length s.cpus → HaltsByTable c s (halted_in c s) → (reason : Reason) → reason_of c s ≡ Some reason
    → SteppedByTable c s s (Halted reason)
reasons_step c s within halts reason why setup goes =
    let p = there_is s.cpus c.0 within in
    grind (arith, shows_at (λ (q : CpuView). q.cpu_local) s.cpus c.0 p.0 p.1, halts setup goes p.0 p.1, sym (or_by (halted_in c s) s) ∙ why)

pub halted_same : (a b : Reason) → Halted a ≡ Halted b → a ≡ b
halted_same a b is = cc is
