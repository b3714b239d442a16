-- Queues, each in one table of nodes that are doubly linked. A node is a thread, or the end: the
-- node before the first thread and after the last.
use Rattle.std.specs.Prelude.{◌≡◌, ◌≢◌, ℕ, zero, suc, ◌<◌, Bool, false, List, [], ◌∷◌, length}
use Rattle.std.specs.Prelude.{Option, Some, None, slice_index_or}
use Rattle.event_log.specs.declared.ids.{Tid.Tid, TheConstants.THREADS}
use Rattle.thread_blocks.specs.{Queues.{is_in, IsQueue}, declared.nodes.{Node.Node, Nodes.Nodes}}

-- a node as the table begins: it leads to the end both ways, and is no member
abbrev pub untouched : Node
untouched = record { next = None; prev = None; is_member = false }

-- what the table says of a node
abbrev pub at : Nodes → Option Tid → Node
at nodes None = nodes.end
at nodes (Some t) = slice_index_or nodes.cells t.0 untouched

-- what a node leads to, what it leads back to, and whether it is a member
abbrev pub next_node : Nodes → Option Tid → Option Tid
next_node nodes node = (at nodes node).next

abbrev pub prev_of : Nodes → Option Tid → Option Tid
prev_of nodes node = (at nodes node).prev

abbrev pub member_of : Nodes → Option Tid → Bool
member_of nodes node = (at nodes node).is_member

-- the threads that are met from a node on, at most so many
abbrev pub walk : (Option Tid → Option Tid) → Option Tid → ℕ → List Tid
walk next None n = []
walk next (Some t) zero = []
walk next (Some t) (suc n) = t ∷ walk next (next (Some t)) n

-- the threads of the table: those that are met from the end on, as many as it counts
abbrev pub threads_of : Nodes → List Tid
threads_of nodes = walk (next_node nodes) nodes.end.next nodes.count

-- from this node through these threads to the end, each node leads to the next one, and each next
-- one back
abbrev pub AreLinked : (Option Tid → Option Tid) → (Option Tid → Option Tid) → Option Tid → List Tid
    → Type 0
AreLinked next prev node [] = (next node ≡ None) × (prev None ≡ node)
AreLinked next prev node (t ∷ queue) =
    (next node ≡ Some t) × (prev (Some t) ≡ node) × AreLinked next prev (Some t) queue

-- one node has this value now, and each other node the value that it had
pub record Changed {A : Type 0} (old new : Option Tid → A) (node : Option Tid) (value : A) : Type
    0 where
  pub here : new node ≡ value
  pub there : (other : Option Tid) → other ≢ node → new other ≡ old other

-- the table holds this queue: its threads are doubly linked, only they are members, and they are
-- counted
pub record Hold (nodes : Nodes) (queue : List Tid) : Type 0 where
  pub fits : length nodes.cells ≡ THREADS
  pub counted : length queue ≡ nodes.count
  pub queue_is : IsQueue queue
  pub linked : AreLinked (next_node nodes) (prev_of nodes) None queue
  pub members_are : (t : Tid) → t.0 < THREADS → member_of nodes (Some t) ≡ is_in t queue
