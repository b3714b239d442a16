use Rattle.guest.{specs.Calls.{sends, receives, closes, offers, asks_in_vain}, proofs.CallsLemmas.{calls-local_is, calls-yield}}
use Rattle.guest.proofs.laws.steps_keep_calls.Goals as goal

pub returns : goal.returns
returns c = record {
  at_local = calls-local_is;
  at_yield = calls-yield;
  at_send = λ program es s b from k e calls at kind buffer value. rw at (sends b from k e calls at kind buffer value);
  at_recv = λ program es s b into k e calls at kind buffer. rw at (receives b into k e calls at kind buffer);
  at_close = λ program es s b e calls at kind buffer. rw at (closes b e calls at kind buffer);
  at_offer = λ program es s b from k e calls at kind buffer value. rw at (offers b from k e calls at kind buffer value);
  at_ask = λ program es s b into k e calls at kind buffer. rw at (asks_in_vain b into k e calls at kind buffer);
}
