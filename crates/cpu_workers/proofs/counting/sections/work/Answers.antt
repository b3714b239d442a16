use Rattle.std.proofs.Common.{◌+◌, ℕ, ap, subst, sym, ◌∙◌}
use Rattle.{layer_traits.{proofs.PlanLemmas.sections_acts, specs.Protocols.WordsProtocol.sections}, table_machine.specs.SeatViews.SeatView}
use Rattle.cpu_workers.{specs.{declared.counting.{AddOne.AddOne, TheConstants.NUMBER}, Counts.{HasMade, made}}, proofs.Counts.has_made}
use Rattle.cpu_workers.proofs.counting.sections.work.Goals as goal

pub returns : goal.returns
returns g c =
    let cpu = c.cpu-cpu.result in
    let times = c.args.times in
    let more = ap (made cpu NUMBER) (sections_acts c.work_at.new.seat.history)
    ∙ (c.work_at.ensures.made ∙ (ap (λ l. made cpu NUMBER l + times) (sym (sections_acts c.seat-seat.result.history))
    ∙ ap (λ (d : SeatView AddOne ℕ). made cpu NUMBER (sections d.history) + times) c.seat-seat.ensures.seat)) in
    subst (λ (d : SeatView AddOne ℕ). HasMade NUMBER c.args.key d times) (sym c.back.ensures)
    (has_made NUMBER c.args.key c.work_at.new.seat cpu times (cc) (cc) (cc) (cc) more)
