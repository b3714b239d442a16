use Rattle.std.proofs.Common.{◌≡◌, length, refl, sym, ◌∙◌, subst}
use Rattle.{event_log.specs.{Actions.acts_of, WordsLog.{Idle, lock_phase}}, layer_traits.specs.Protocols.{OneLock.opened, WordsProtocol.edit_of}}
use Rattle.{layer_traits.specs.Threads.OnePlace.cpu_at, cpu_workers.{specs.Natives.{HaveLeftKeys, OpensWith}, proofs.Crossing.{tower_seat_send, turn_send}}}
use Rattle.cpu_workers.proofs.{NativeKeys.have_left, SeatViews.ready_at, TableKeys.{as_many, left_fit, seat_views_are_of}}
use denote.Param.Send.{param_send, arg_send}
use Rattle.cpu_workers.proofs.natives.run.call_tickets.Lts as lts
use Rattle.cpu_workers.proofs.natives.run.call_tickets.Goals as goal

pub seats_at-requires : goal.seats_at-requires
seats_at-requires g c = rw c.requires.keys (seat_views_are_of c.args.shared.now (length c.args.natives.items))

pub call_over-requires-clause-few : goal.call_over-requires-clause-few
call_over-requires-clause-few g c = λ κs within.
    left_fit c.args.shared.now (length c.args.natives.items) (c.in_ok-seats.ensures ∙ c.requires.keys) refl refl _ c.requires.few

pub call_over-requires-clause-count : goal.call_over-requires-clause-count
call_over-requires-clause-count g c = λ κs within. sym (as_many c.args.shared.now (length c.args.natives.items) (c.in_ok-seats.ensures ∙ c.requires.keys))

pub call_over-requires-clause-ready : goal.call_over-requires-clause-ready
call_over-requires-clause-ready g c = λ κs within k m at.
    let n = length c.args.natives.items in
    ready_at (λ opening. OpensWith (length c.in_ok-seats.seats.items) c.args.caps.now c.args.homes.now opening) c.args.shared.now n
    (λ x. lock_phase (cpu_at k) x.history ≡ Idle) (λ x. acts_of edit_of x.history) (c.in_ok-seats.ensures ∙ c.requires.keys) k m at refl refl
    (subst (λ j. OpensWith j c.args.caps.now c.args.homes.now (opened c.args.shared.now.start))
    (sym (as_many c.args.shared.now n (c.in_ok-seats.ensures ∙ c.requires.keys))) c.requires.opens)

pub parted-requires : goal.parted-requires
parted-requires g c =
    let e = c.in_ok-back.ensures in
    let coupled = left_fit c.args.shared.now (length c.args.natives.items) (c.in_ok-seats.ensures ∙ c.requires.keys) c.in_ok-left.ensures.count
    (c.len.ensures ∙ c.args.natives.ok.0) in
    record { keys = (e.keys.0, coupled _ e.keys.1); natives = (e.natives.0, coupled _ e.natives.1) }

pub returns : goal.returns
returns g c =
    let e = c.parted.ensures in
    let its = c.in_ok-left.ensures in
    let caps = c.args.caps.now in
    let natives = c.args.natives.items in
    subst (λ x. x) (λ i. HaveLeftKeys g.N.Native.Kept caps c.args.shared.now natives (sym e.natives i) (sym e.keys i))
    (have_left g.N.Native.Kept caps c.args.shared.now natives c.in_ok-left.left.items (λ x. x.machine) (λ x. x.native) (λ x. acts_of edit_of x.history)
    (λ x lawful. refl) c.in_ok-seats.seats.items (c.in_ok-seats.ensures ∙ c.requires.keys) its.count its.machine_id its.owns its.left)

pub call_over-requires-send-L : goal.call_over-requires-send-L
call_over-requires-send-L g c = λ κs within.
    param_send _ (lts.arg-12-0 g.row.N g.row.R g.N.laws g.R.laws g.N.Native-dict g.R.Threads-dict g.R.Wait-dict g.N.Destruct-dict κs)
    (search (arg_send, turn_send))

pub call_over-requires-send-L-Machine : goal.call_over-requires-send-L-Machine
call_over-requires-send-L-Machine g c = λ κs within.
    param_send _ (lts.arg-12-3 g.row.N g.row.R g.N.laws g.R.laws g.N.Native-dict g.R.Threads-dict g.R.Wait-dict g.N.Destruct-dict κs)
    (search (arg_send, tower_seat_send))
