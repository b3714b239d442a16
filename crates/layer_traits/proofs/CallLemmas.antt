-- Calls at shared queues: their steps are lawful moves, calls of others are moves of others, and
-- what a poll of a pass means in moves.
use Rattle.std.proofs.Common.{◌≡◌, Bool, true, List, [], ◌∷◌, ◌++◌, Option, Some, None, is_some, if◌then◌else◌, refl, ap, sym, ◌∙◌, arith}
use Rattle.event_log.specs.{declared.ids.{BufId.BufId, CpuId.CpuId, LockId.{LockId, TheVariants.Buffer}, Tid.Tid}, History.{AreOthers, IsLawful}}
use Rattle.{event_log.specs.Actions.Action, thread_blocks.proofs.Members.same_tid_true, layer_traits.specs.declared.queues.QueueCall.TheVariants.OnBuffer}
use Rattle.layer_traits.specs.{declared.{queues.QueueEvent.QueueEvent, scheds.SchedAnswer.SchedAnswer, passes.Pass.Pass}, Threads.MoveRules.WakesSleepers}
use Rattle.layer_traits.specs.Threads.{MoveRules.{section_moves, asleep_after, asleep_by}, Passes.{PassPolled, pass_after, pass_steps}, Places.AreMoves}
use Rattle.layer_traits.specs.Threads.Places.{MayMove, Move, Step, Threads, Where, is_asleep, is_wait_channel, pending_by, wait_channel_of, step_with}
use Rattle.layer_traits.specs.{Threads.Places.{cpu_of_step, where_after, where_is, where_taken, where_woken}, Polling.Plans.{Follows, Left, Plan, Table}}
use Rattle.layer_traits.specs.{Polling.Plans.raised, Layers.Queues.{CallAllowed, Kernel, QueueAllowed, buffer_sections, call_move, cpu_of_queue_event}}
use Rattle.layer_traits.specs.Layers.{Queues.{moves_in, out_at}, Scheds.{SchedPolled, events_of, pass_call}}
use Rattle.layer_traits.specs.declared.scheds.SchedCall.TheVariants as call

-- Where a thread sleeps does not depend on its home.

taken_wait_channel : (d : CpuId) (w : Where) → wait_channel_of (where_taken d w) ≡ wait_channel_of w
taken_wait_channel d w = grind arith

woken_wait_channel : (c : CpuId) (home : Option CpuId) → wait_channel_of (where_woken c home) ≡ None
woken_wait_channel c home = grind arith

module _ (homes : List CpuId) where
  wait_channel_after : (past : List Step) (c : CpuId) (move : Move) (t : Tid) → MayMove homes past c move
      → wait_channel_of (where_is homes past t) ≡ asleep_by past t
      → wait_channel_of (where_after homes c move t (where_is homes past t)) ≡ asleep_after move t (asleep_by past t)
  wait_channel_after past c move t may is = grind (arith, same_tid_true, taken_wait_channel, woken_wait_channel)

  -- where a thread sleeps according to its place is where it sleeps according to the moves only
  pub asleep_wait_channel : (moves : List Step) (t : Tid) → AreMoves homes moves → wait_channel_of (where_is homes moves t) ≡ asleep_by moves t
  asleep_wait_channel [] t legal = refl
  asleep_wait_channel (s ∷ past) t legal = wait_channel_after past s.cpu s.move t legal.0 (asleep_wait_channel past t legal.1)

module _ {E B O : Type 0} (k : Kernel E B O) where
  -- The steps of calls.

  -- the steps of newer calls, after these older ones
  abbrev pub moves_over : List (QueueEvent E) → List (QueueEvent E) → List Step
  moves_over [] past = []
  moves_over (e ∷ more) past = step_with e.cpu (call_move k (more ++ past) e.call) ∷ moves_over more past

  pub moves_append : (more past : List (QueueEvent E)) → moves_in k (more ++ past) ≡ moves_over more past ++ moves_in k past
  moves_append [] past = refl
  moves_append (e ∷ more) past = ap (λ l. step_with e.cpu (call_move k (more ++ past) e.call) ∷ l) (moves_append more past)

  -- calls of others are moves of others
  pub moves_others : (c : CpuId) (more past : List (QueueEvent E)) → AreOthers cpu_of_queue_event c more → AreOthers cpu_of_step c (moves_over more past)
  moves_others c [] past others = tt
  moves_others c (e ∷ more) past others = (others.0, moves_others c more past others.1)

  -- the sections of the layer above are allowed if the calls are
  pub upper_lawful : (log : List (QueueEvent E)) → IsLawful (QueueAllowed k) log → IsLawful (k.protocol.allowed k.opening) (buffer_sections log)
  upper_lawful [] lawful = tt
  upper_lawful (e ∷ past) lawful = grind (arith, upper_lawful past lawful.1)

  -- pushes and takings put no thread to sleep and wake none
  pub sections_asleep : (past : List (QueueEvent E)) (u : Tid) → asleep_by (section_moves k.protocol k.moves k.opening (buffer_sections past)) u
      ≡ asleep_by (moves_in k past) u
  sections_asleep [] u = refl
  sections_asleep (e ∷ past) u = grind (arith, sections_asleep past u)

  module _ (wakes : WakesSleepers k.protocol k.moves) where
    sleeps : (past : List (QueueEvent E)) → IsLawful (QueueAllowed k) past → AreMoves k.homes (moves_in k past) → (c : CpuId) (b : BufId) (e : E)
        → CallAllowed k past c (OnBuffer b e) → (o : O) → out_at k past b e ≡ Some o → (u : Tid) → k.moves.woke o ≡ Some u
        → is_asleep (where_is k.homes (moves_in k past) u) ≡ true
    sleeps past lawful moves c b e allowed o answers u woke =
        ap is_wait_channel (asleep_wait_channel k.homes (moves_in k past) u moves ∙ sym (sections_asleep past u))
        ∙ wakes k.opening (buffer_sections past) (record { cpu = c; lock = Buffer b; edit = e }) o u (upper_lawful past lawful) allowed.upper answers woke

    -- the steps of allowed calls are moves that may be made
    pub moves_lawful : (log : List (QueueEvent E)) → IsLawful (QueueAllowed k) log → AreMoves k.homes (moves_in k log)
    moves_lawful [] lawful = tt
    moves_lawful (e ∷ past) lawful = grind (arith, moves_lawful past lawful.1, sleeps)

    -- a thread that an allowed edit wakes is asleep
    pub woken_sleeps : (past : List (QueueEvent E)) → IsLawful (QueueAllowed k) past → (c : CpuId) (b : BufId) (e : E) → CallAllowed k past c (OnBuffer b e)
        → (o : O) → out_at k past b e ≡ Some o → (u : Tid) → k.moves.woke o ≡ Some u → is_asleep (where_is k.homes (moves_in k past) u) ≡ true
    woken_sleeps past lawful = sleeps past lawful (moves_lawful past lawful)

  -- A pass in moves.

  pass_moves : (c : CpuId) (p : Pass) (past : List (QueueEvent E))
      → moves_in k (events_of c (pass_call k.homes c p) ++ past) ≡ pass_steps k.homes c p ++ moves_in k past
  pass_moves c p past = grind arith

  -- a poll of a pass, only in moves
  pub pass_polled : (ActsFor : CpuId → Type 0) (c : CpuId) (p : Pass) (result : Option (SchedAnswer O)) (old new : List (QueueEvent E)) (local local' : Threads)
      → SchedPolled k ActsFor c (call.Pass p) result old new local local' → PassPolled k.homes ActsFor c p result (moves_in k old) (moves_in k new) local local'
  pass_polled ActsFor c p result old new local local' polled = record {
    others = moves_over polled.others old;
    foreign = λ d acts. moves_others d polled.others old (polled.foreign d acts);
    is = ap (moves_in k) polled.is ∙ by_answer (is_some result);
    after = polled.after ∙ ap (λ moves. if is_some result then pass_after p (pending_by moves c) local else local) (moves_append polled.others old);
    at_once = polled.at_once;
  }
    where
      by_answer : (b : Bool) → moves_in k (if b then events_of c (pass_call k.homes c p) ++ (polled.others ++ old) else polled.others ++ old)
          ≡ (if b then pass_steps k.homes c p ++ (moves_over polled.others old ++ moves_in k old) else moves_over polled.others old ++ moves_in k old)
      by_answer b = grind (arith, pass_moves, moves_append)

-- a poll that followed a plan followed the raised plan, with what is made of what it left
pub follows_raised : {N B R S T A Q : Type 0} (ActsFor : CpuId → Type 0) (table : Table N B R) (opening : LockId → Option B) (cpu : CpuId)
    (f : Left S A → Left T Q) (plan : Plan N R S A) (old new : List (Action N)) (got : Left S A) → Follows ActsFor table opening cpu plan old new got
    → Follows ActsFor table opening cpu (raised f plan) old new (f got)
follows_raised ActsFor table opening cpu f plan old new got follows = grind arith
