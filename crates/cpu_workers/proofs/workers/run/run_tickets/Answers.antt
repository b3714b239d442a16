use Rattle.std.proofs.Common.{◌≡◌, refl, sym, ◌∙◌, subst, arith}
use Rattle.{event_log.specs.{Actions.acts_of, WordsLog.{Idle, lock_phase}}, layer_traits.specs.{Threads.OnePlace.cpu_at, Protocols.WordsProtocol.edit_of}}
use Rattle.cpu_workers.{specs.Seating.{HaveLeft, OpensPlan}, proofs.{Crossing.{tower_seat_send, turn_send}, SeatViews.{have_left, ready_at}}}
use Rattle.cpu_workers.proofs.TableKeys.{left_fit, seat_views_are_of}
use denote.Param.Send.{param_send, arg_send}
use Rattle.cpu_workers.proofs.workers.run.run_tickets.Lts as lts
use Rattle.cpu_workers.proofs.workers.run.run_tickets.Goals as goal

pub seats_at-requires : goal.seats_at-requires
seats_at-requires g c = rw c.requires.keys (seat_views_are_of c.args.shared.now c.args.boot.now.cpus)

pub run_over-requires-clause-plan : goal.run_over-requires-clause-plan
run_over-requires-clause-plan g c = λ κs within. c.cpus.ensures.within

pub run_over-requires-clause-count : goal.run_over-requires-clause-count
run_over-requires-clause-count g c = λ κs within.
    left_fit c.args.shared.now c.args.boot.now.cpus (c.in_ok-seats.ensures ∙ c.requires.keys) refl refl c.args.boot.now.cpus (omega arith)

pub run_over-requires-clause-few : goal.run_over-requires-clause-few
run_over-requires-clause-few g c = λ κs within.
    left_fit c.args.shared.now c.args.boot.now.cpus (c.in_ok-seats.ensures ∙ c.requires.keys) refl refl _ c.cpus.ensures.within.most_cpus

pub run_over-requires-clause-ready : goal.run_over-requires-clause-ready
run_over-requires-clause-ready g c = λ κs within k m at.
    ready_at (OpensPlan c.args.boot.now) c.args.shared.now c.args.boot.now.cpus (λ x. lock_phase (cpu_at k) x.history ≡ Idle)
    (λ x. acts_of edit_of x.history) (c.in_ok-seats.ensures ∙ c.requires.keys) k m at refl refl c.requires.opens

pub parted-requires : goal.parted-requires
parted-requires g c =
    let e = c.in_ok-back.ensures in
    let coupled = left_fit c.args.shared.now c.args.boot.now.cpus (c.in_ok-seats.ensures ∙ c.requires.keys) c.in_ok-left.ensures.count c.cpus.ensures.cpus in
    record {
      keys = (e.keys.0, coupled _ e.keys.1);
      traces = (e.traces.0, coupled _ e.traces.1);
      stops = (e.stops.0, coupled _ e.stops.1);
      taken = (e.taken.0, coupled _ e.taken.1);
    }

pub returns : goal.returns
returns g c =
    let e = c.parted.ensures in
    let its = c.in_ok-left.ensures in
    let plan = c.args.boot.now in
    subst (λ x. x) (λ i. HaveLeft plan (g.G.Gate.MayAnswer c.args.gate.now) c.args.turns c.args.shared.now (sym e.keys i) (sym e.traces i) (sym e.taken i)
    (sym e.stops i)) (have_left plan (g.G.Gate.MayAnswer c.args.gate.now) c.args.turns c.args.shared.now c.in_ok-left.left.items
    (λ x. acts_of edit_of x.history)
    (λ x lawful. refl) c.in_ok-seats.seats.items (c.in_ok-seats.ensures ∙ c.requires.keys) its.count its.machine_id its.owns its.left)

pub run_over-requires-send-L : goal.run_over-requires-send-L
run_over-requires-send-L g c = λ κs within.
    param_send _ (lts.arg-14-0 g.row.K g.row.G g.row.R g.K.laws g.G.laws g.R.laws g.K.PlanWords g.K.PlanWords-dict g.K.TableWords g.K.TableWords-dict g.G.Gate
    g.G.Gate-dict g.R.Threads g.R.Threads-dict g.R.Wait g.R.Wait-dict g.K.Destruct-dict κs) (search (arg_send, turn_send))

pub run_over-requires-send-L-Machine : goal.run_over-requires-send-L-Machine
run_over-requires-send-L-Machine g c = λ κs within.
    param_send _ (lts.arg-14-3 g.row.K g.row.G g.row.R g.K.laws g.G.laws g.R.laws g.K.PlanWords g.K.PlanWords-dict g.K.TableWords g.K.TableWords-dict g.G.Gate
    g.G.Gate-dict g.R.Threads g.R.Threads-dict g.R.Wait g.R.Wait-dict g.K.Destruct-dict κs) (search (arg_send, tower_seat_send))
