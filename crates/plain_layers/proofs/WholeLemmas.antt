-- The polls of a whole section: the first does it, and returns the result unless the woken thread
-- is yet to be forwarded to its home CPU; the second forwards it.
use Rattle.std.proofs.Common.{arith, ◌≡◌, ◌<◌, true, false, List, [], ◌∷◌, ◌++◌, Option, Some, None, IsSome, refl}
use Rattle.event_log.{specs.{declared.ids.{CpuId.CpuId, Tid.Tid, TheConstants.CPUS}, History.{AreForeign, IsLawful, same_cpu}}, proofs.Same.same_cpu_self}
use Rattle.layer_traits.specs.declared.{queues.{QueueCall.TheVariants.{Push, OnBuffer}, QueueEvent.QueueEvent}, sleeps.Outcome.Outcome}
use Rattle.layer_traits.specs.{Threads.{Passes.{passed_on, queue_for}, Places.Threads}, Polling.Plans.Left, Layers.Queues.{IsKnownEvent, event}}
use Rattle.layer_traits.specs.Layers.{Queues.{cpu_of_queue_event, out_at}, Scheds.own_answered, SleepLaw.{PollResult, Does, MayDo, SendsHome, SleepPolled}}
use Rattle.{layer_traits.specs.Layers.SleepLaw.{Sleeping, WaitsStill, left_with, must_send, seen_with}, plain_layers.specs.Wholes.{Asked, DoneAlone}}
use Rattle.plain_layers.specs.Wholes.{DoneSending}

-- a holder that acts for every CPU sees no environment event
pub no_foreign_events : {E : Type 0} (ActsFor : CpuId → Type 0) → ((c : CpuId) → c.0 < CPUS → ActsFor c) → (others old : List (QueueEvent E))
    → IsLawful IsKnownEvent (others ++ old) → AreForeign ActsFor cpu_of_queue_event others → others ≡ []
no_foreign_events ActsFor all [] old known foreign = refl
no_foreign_events ActsFor all (e ∷ others) old known foreign =
    let other : same_cpu e.cpu e.cpu ≡ false = (foreign e.cpu (all e.cpu known.0)).0 in
    let itself : same_cpu e.cpu e.cpu ≡ true = same_cpu_self e.cpu in
    absurd (cc (other, itself))

-- what the first poll of a section leaves if it returns no result: the section is done, and its
-- outcome is kept
pub record Begun {E B O : Type 0} (s : Asked E B O) (old new : List (QueueEvent E)) (local : Threads) (outcome : Outcome O) (left : Sleeping O) : Type 0 where
  pub out : out_at s.kernel old s.buffer s.edit ≡ Some outcome
  pub sends : must_send outcome (own_answered s.kernel.moves s.kernel.homes s.cpu (Some outcome) local) ≡ true
  pub history : new ≡ event s.cpu (OnBuffer s.buffer s.edit) ∷ old
  pub leaves : left ≡ record { threads = own_answered s.kernel.moves s.kernel.homes s.cpu (Some outcome) local; deferred = Some outcome }

module _ {E B O : Type 0} (s : Asked E B O) (ActsFor : CpuId → Type 0) (all : (c : CpuId) → c.0 < CPUS → ActsFor c) (old new : List (QueueEvent E)) where
  -- a poll result after no event of another
  record Alone (local : Sleeping O) (got : Left (Sleeping O) (Outcome O)) : Type 0 where
    poll_result : PollResult O
    may : MayDo s.kernel s.cpu s.buffer s.edit poll_result old local
    is : new ≡ seen_with s.kernel s.cpu s.buffer s.edit poll_result old
    leaves : got ≡ left_with s.kernel s.cpu s.buffer s.edit poll_result local

  older : (poll_result : PollResult O) (past : List (QueueEvent E)) → new ≡ seen_with s.kernel s.cpu s.buffer s.edit poll_result past
      → IsLawful IsKnownEvent new → IsLawful IsKnownEvent past
  older poll_result past is known = grind arith

  alone : (local : Sleeping O) (got : Left (Sleeping O) (Outcome O)) → IsLawful IsKnownEvent new
      → SleepPolled s.kernel ActsFor s.cpu s.buffer s.edit old new local got → Alone local got
  alone local got known polled =
      let none = no_foreign_events ActsFor all polled.others old (older polled.poll_result (polled.others ++ old) polled.is known) polled.foreign in
      record { poll_result = polled.poll_result; may = rw none at polled.may; is = rw none at polled.is; leaves = polled.leaves }

  -- what a poll leaves
  abbrev got : Sleeping O → Option (Outcome O) → Left (Sleeping O) (Outcome O)
  got left answer = record { local = left; answer = answer }

  -- the first poll returns a result: the section is done
  pub first_answers : (local left : Sleeping O) (outcome : Outcome O) → local.deferred ≡ None → IsLawful IsKnownEvent new
      → SleepPolled s.kernel ActsFor s.cpu s.buffer s.edit old new local (got left (Some outcome)) → DoneAlone s old new local.threads left outcome
  first_answers local left outcome deferred known polled =
      let was : Alone local (got left (Some outcome)) = alone local (got left (Some outcome)) known polled in grind arith

  begins : (local left : Sleeping O) (abstract_answer : Outcome O) → MayDo s.kernel s.cpu s.buffer s.edit (Does abstract_answer) old local
      → new ≡ seen_with s.kernel s.cpu s.buffer s.edit (Does abstract_answer) old
      → got left None ≡ left_with s.kernel s.cpu s.buffer s.edit (Does abstract_answer) local
      → Begun s old new local.threads abstract_answer left
  begins local left abstract_answer may is leaves = grind arith

  -- the first poll returns no result: the section is done, and the thread that it woke is yet to be
  -- forwarded
  pub first_sends : (local left : Sleeping O) → local.deferred ≡ None → IsSome left.deferred → IsLawful IsKnownEvent new
      → SleepPolled s.kernel ActsFor s.cpu s.buffer s.edit old new local (got left None) → (outcome : Outcome O) × Begun s old new local.threads outcome left
  first_sends local left deferred keeps known polled = go was.poll_result was.may was.is was.leaves
    where
      was : Alone local (got left None)
      was = alone local (got left None) known polled

      go : (poll_result : PollResult O) → MayDo s.kernel s.cpu s.buffer s.edit poll_result old local
          → new ≡ seen_with s.kernel s.cpu s.buffer s.edit poll_result old
          → got left None ≡ left_with s.kernel s.cpu s.buffer s.edit poll_result local → (outcome : Outcome O) × Begun s old new local.threads outcome left
      go WaitsStill may is leaves = absurd (grind arith)
      go (SendsHome t) may is leaves = absurd (grind arith)
      go (Does abstract_answer) may is leaves = (abstract_answer, begins local left abstract_answer may is leaves)

  -- the second poll forwards the thread to its home CPU, and returns the outcome of the section
  pub second_sends : (local left : Sleeping O) (deferred outcome : Outcome O) → local.deferred ≡ Some deferred → IsLawful IsKnownEvent new
      → SleepPolled s.kernel ActsFor s.cpu s.buffer s.edit old new local (got left (Some outcome))
      → (t : Tid) × (local.threads.hand ≡ Some t) × (outcome ≡ deferred) × (new ≡ event s.cpu (Push (queue_for s.kernel.homes s.cpu t) t) ∷ old)
      × (left ≡ record { threads = passed_on local.threads; deferred = None })
  second_sends local left deferred outcome keeps known polled =
      let was : Alone local (got left (Some outcome)) = alone local (got left (Some outcome)) known polled in grind arith

-- the two polls together
pub both_polls : {E B O : Type 0} (s : Asked E B O) (old between new : List (QueueEvent E)) (local : Threads)
    (waits left : Sleeping O) (deferred outcome : Outcome O) → Begun s old between local deferred waits
    → (t : Tid) × (waits.threads.hand ≡ Some t) × (outcome ≡ deferred) × (new ≡ event s.cpu (Push (queue_for s.kernel.homes s.cpu t) t) ∷ between)
    × (left ≡ record { threads = passed_on waits.threads; deferred = None })
    → DoneSending s old new local left outcome
both_polls s old between new local waits left deferred outcome begun sent = grind arith
