use Rattle.std.{proofs.Common.arith, specs.Prelude.{◌≡◌, Bool, true, false, List, [], is_some, if◌then◌else◌}}
use Rattle.{event_log.specs.declared.ids.Tid.Tid, thread_blocks.specs.Queues.first, layer_traits.specs.declared.locked.Side.Side}
use Rattle.{layer_traits.specs.declared.sleeps.Wake.TheVariants.Nobody, plain_layers.specs.{declared.attempts.Ask.Ask, Attempts.{PlainState, allows, far_side}}}
use Rattle.plain_layers.specs.Attempts.{leaving_side, waiting_on}
use Rattle.plain_layers.proofs.attempts.closed_buffers_let_all_go.Goals as goal

goes : (ask : Ask) (x : PlainState) → x.closed ≡ true → allows ask x ≡ true
goes ask x closed = grind arith

pub returns-clause-goes : goal.returns-clause-goes
returns-clause-goes c = goes

-- no thread of a side is woken only if none waits there
nobody_first : (side : Side) (queue : List Tid) → leaving_side side (first queue) ≡ Nobody → queue ≡ []
nobody_first side queue given = grind arith

nobody_there : (queue : List Tid) → is_some (first queue) ≡ false → queue ≡ []
nobody_there queue given = grind arith

-- of a closed buffer's two sides, the own one is woken as long as a thread waits there, and
-- otherwise the other
last_gone : (local : Side) (x : PlainState) (v : Bool) → is_some (first (waiting_on local x)) ≡ v
    → leaving_side (if v then local else far_side local) (first (waiting_on (if v then local else far_side local) x)) ≡ Nobody
    → (x.receivers ≡ []) × (x.senders ≡ [])
last_gone local x v is given = grind (arith, nobody_first, nobody_there)

pub returns-clause-wakes : goal.returns-clause-wakes
returns-clause-wakes c = grind (arith, last_gone)
