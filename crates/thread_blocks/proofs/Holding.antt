-- What each step on the table makes of the queue that it holds.
use Rattle.std.proofs.Common.{◌≡◌, ℕ, ◌+◌, ◌-◌, ◌<◌, Bool, true, false, List, [], ◌∷◌, ◌++◌, length, refl, sym, ap, ◌∙◌, subst, arith, Option, Some, None}
use Rattle.std.proofs.{Common.{IfSome, slice_index_or, length-append}}
use Rattle.{event_log.specs.declared.ids.{Tid.Tid, TheConstants.THREADS}, thread_blocks.specs.{declared.nodes.{Node.Node, Nodes.Nodes}, Queues.same_tid}}
use Rattle.thread_blocks.specs.{Queues.{is_in, rest, without, IsQueue}, Links.{untouched, at, next_node, prev_of, member_of, threads_of, Changed, Hold}}
use Rattle.thread_blocks.proofs.{Members.{same_tid_self, same_tid_true}, Distinct.{queue_of_none, has_room, queue_pushed, taken_out, without_parted}}
use Rattle.thread_blocks.proofs.Distinct.{taken_absent, others_stay, pushed_in, distinct_parts, is_off_absent, all_off_end, all_distinct, all_below}
use Rattle.thread_blocks.proofs.Linking.{AreBelow, walk_is, before_below, after_below, last_below, below_at, below_behind, linked_from, no_end, other_node}
use Rattle.thread_blocks.proofs.Linking.{same_node, unlinked_between, linked_behind}

-- the table shows the queue that it holds
pub walk_held : {nodes : Nodes} {queue : List Tid} → Hold nodes queue → threads_of nodes ≡ queue
walk_held {nodes} {queue} hold = grind (arith, walk_is)

pub held_walk : {nodes : Nodes} {queue : List Tid} → Hold nodes queue → Hold nodes (threads_of nodes)
held_walk {nodes} {queue} hold = subst (Hold nodes) (sym (walk_held hold)) hold

-- the parts of a node
abbrev next : Node → Option Tid
next node = node.next

abbrev prev : Node → Option Tid
prev node = node.prev

abbrev is_member : Node → Bool
is_member node = node.is_member

-- an untouched table holds the empty queue
pub empty_held : (nodes : Nodes) → nodes.end ≡ untouched → nodes.count ≡ 0 → length nodes.cells ≡ THREADS
    → ((i : ℕ) → i < THREADS → slice_index_or nodes.cells i untouched ≡ untouched) → Hold nodes []
empty_held nodes end count fits each = grind (arith, queue_of_none)

-- where a node is changed, so is each part of it
part_changed : {A : Type 0} (part : Node → A) {old new : Option Tid → Node} {node : Option Tid} {value : Node} → Changed old new node value
    → Changed (λ n. part (old n)) (λ n. part (new n)) node (part value)
part_changed part changed = record { here = ap part changed.here; there = λ other differ. ap part (changed.there other differ) }

-- a part that the node keeps is kept everywhere
part_kept : {A : Type 0} (part : Node → A) {old new : Option Tid → Node} {node : Option Tid} {value : Node} → Changed old new node value
    → part value ≡ part (old node) → (other : Option Tid) → part (new other) ≡ part (old other)
part_kept part {node = node} changed same other = grind (arith, same_node other node)

-- what stays before and after a change leaves that change
changed_within : {A : Type 0} {old old' new new' : Option Tid → A} {node : Option Tid} {value : A} → ((n : Option Tid) → old' n ≡ old n)
    → Changed old' new' node value → ((n : Option Tid) → new n ≡ new' n) → Changed old new node value
changed_within {node = node} before changed behind = record {
  here = behind node ∙ changed.here;
  there = λ other differ. behind other ∙ changed.there other differ ∙ before other;
}

changed_at : {old new : Option Tid → Option Tid} {node node' value value' : Option Tid} → node ≡ node' → value ≡ value'
    → Changed old new node value → Changed old new node' value'
changed_at {old} {new} {node} {node'} {value} {value'} is goes changed = grind arith

-- the count is no part of a node
at_counted : (nodes : Nodes) (count : ℕ) (node : Option Tid) → at (record nodes { count = count }) node ≡ at nodes node
at_counted nodes count node = grind arith

-- only the end's node is changed
end_changed : (nodes : Nodes) (end : Node) (count : ℕ) → Changed (at nodes) (at (record nodes { end = end; count = count })) None end
end_changed nodes end count = record { here = refl; there = λ other differ. grind arith }

-- which threads are members after one is added or removed
members_after : {old new : Option Tid → Bool} {b : Bool} (t : Tid) (before after : List Tid) → Changed old new (Some t) b
    → ((u : Tid) → u.0 < THREADS → old (Some u) ≡ is_in u before) → is_in t after ≡ b → ((u : Tid) → same_tid u t ≡ false → is_in u after ≡ is_in u before)
    → (u : Tid) → u.0 < THREADS → new (Some u) ≡ is_in u after
members_after t before after changed are here others u below = grind (arith, same_tid_true, other_node, changed.there (Some u), are u, others u)

module _ {nodes : Nodes} where
  are_below : (queue : List Tid) → Hold nodes queue → AreBelow THREADS queue
  are_below queue hold = all_below THREADS queue hold.queue_is.1

  -- a thread of the queue, the node before it and the one after it have a place in the table
  pub known_there : (before : List Tid) (t : Tid) (after : List Tid) → Hold nodes (before ++ t ∷ after) → t.0 < THREADS
  known_there before t after hold = below_at THREADS before t after (are_below _ hold)

  pub before_there : (before : List Tid) (t : Tid) (after : List Tid) → Hold nodes (before ++ t ∷ after) → IfSome (prev_of nodes (Some t)) (λ u. u.0 < THREADS)
  before_there before t after hold = before_below (next_node nodes) (prev_of nodes) THREADS None before t after hold.linked tt (are_below _ hold)

  pub after_there : (before : List Tid) (t : Tid) (after : List Tid) → Hold nodes (before ++ t ∷ after) → IfSome (next_node nodes (Some t)) (λ u. u.0 < THREADS)
  after_there before t after hold = after_below (next_node nodes) (prev_of nodes) THREADS (Some t) after
      (linked_from (next_node nodes) (prev_of nodes) None before t after hold.linked) (below_behind THREADS before t after (are_below _ hold))

  -- so has the last thread
  pub last_there : (queue : List Tid) → Hold nodes queue → IfSome (prev_of nodes None) (λ u. u.0 < THREADS)
  last_there queue hold = last_below (next_node nodes) (prev_of nodes) THREADS None queue hold.linked tt (are_below queue hold)

  -- a queue that lacks a thread is not full
  pub room_there : (queue : List Tid) (t : Tid) → Hold nodes queue → t.0 < THREADS → is_in t queue ≡ false → nodes.count < THREADS
  room_there queue t hold known new = subst (λ n. n < THREADS) hold.counted (has_room queue t hold.queue_is known new)

  -- the queue begins with the thread that the end leads to
  pub front_held : (queue : List Tid) (t : Tid) → Hold nodes queue → nodes.end.next ≡ Some t → queue ≡ t ∷ rest queue
  front_held queue t hold leads = grind arith

  -- t is removed from between the others
  pub taken_held : (nodes1 nodes2 nodes3 : Nodes) {out ahead back : Node} (before : List Tid) (t : Tid) (after : List Tid) → out ≡ at nodes (Some t)
      → Changed (at nodes) (at nodes1) (Some t) (record out { is_member = false }) → ahead ≡ at nodes1 out.prev
      → Changed (at nodes1) (at nodes2) out.prev (record ahead { next = out.next }) → back ≡ at nodes2 out.next
      → Changed (at nodes2) (at nodes3) out.next (record back { prev = out.prev }) → length nodes3.cells ≡ THREADS → nodes3.count ≡ nodes.count
      → Hold nodes (before ++ t ∷ after) → Hold (record nodes3 { count = nodes3.count - 1 }) (before ++ after)
  taken_held nodes1 nodes2 nodes3 {out} {ahead} {back} before t after out_is one ahead_is two back_is three fits count hold =
      let queue : List Tid = before ++ t ∷ after in
      let apart = distinct_parts t before after hold.queue_is.0 in
      let left : without t queue ≡ before ++ after = without_parted t before after apart.0 apart.1 in
      let nodes' : Nodes = record nodes3 { count = nodes3.count - 1 } in
      let last : Changed (at nodes2) (at nodes') out.next (record back { prev = out.prev }) =
      changed_within (λ n. refl) three (at_counted nodes3 (nodes3.count - 1)) in
      let nexts : Changed (next_node nodes) (next_node nodes') out.prev out.next = changed_within
      (part_kept next one (ap next out_is)) (part_changed next two) (part_kept next last (ap next back_is)) in
      let prevs : Changed (prev_of nodes) (prev_of nodes') out.next out.prev = changed_within
      (λ n. part_kept prev two (ap prev ahead_is) n ∙ part_kept prev one (ap prev out_is) n) (part_changed prev last) (λ n. refl) in
      let members : Changed (member_of nodes) (member_of nodes') (Some t) false = changed_within
      (λ n. refl) (part_changed is_member one) (λ n. part_kept is_member last (ap is_member back_is) n ∙ part_kept is_member two (ap is_member ahead_is) n) in
      record {
        fits = fits;
        counted = omega (arith, length-append before after, length-append before (t ∷ after), hold.counted, count);
        queue_is = subst IsQueue left (taken_out t queue hold.queue_is);
        linked = unlinked_between (next_node nodes) (prev_of nodes) t
            (changed_at (ap prev out_is) (ap next out_is) nexts) (changed_at (ap next out_is) (ap prev out_is) prevs)
            None before after (all_off_end queue) (all_distinct queue hold.queue_is.0) hold.linked;
        members_are = members_after t queue (before ++ after) members hold.members_are
            (subst (λ (q : List Tid). is_in t q ≡ false) left (taken_absent t queue))
            (λ x other. subst (λ (q : List Tid). is_in x q ≡ is_in x queue) left (others_stay x t queue other));
      }

  -- t is appended to the others
  pub behind_held : (nodes1 nodes2 : Nodes) {before : Node} (t : Tid) (queue : List Tid) → t.0 < THREADS → before ≡ at nodes nodes.end.prev
      → Changed (at nodes) (at nodes1) nodes.end.prev (record before { next = Some t })
      → Changed (at nodes1) (at nodes2) (Some t) (record { next = None; prev = nodes.end.prev; is_member = true })
      → length nodes2.cells ≡ THREADS → nodes2.count ≡ nodes.count → Hold nodes queue → is_in t queue ≡ false
      → Hold (record nodes2 { end = record nodes2.end { prev = Some t }; count = nodes2.count + 1 }) (queue ++ t ∷ [])
  behind_held nodes1 nodes2 {before} t queue known before_is one two fits count hold new =
      let nodes' : Nodes = record nodes2 { end = record nodes2.end { prev = Some t }; count = nodes2.count + 1 } in
      let end : Changed (at nodes2) (at nodes') None (record nodes2.end { prev = Some t }) = end_changed nodes2 _ (nodes2.count + 1) in
      let new_to_end : Changed (next_node nodes1) (next_node nodes') (Some t) None = changed_within
      (λ n. refl) (part_changed next two) (part_kept next end refl) in
      let new_back : Changed (prev_of nodes) (prev_of nodes2) (Some t) nodes.end.prev = changed_within
      (part_kept prev one (ap prev before_is)) (part_changed prev two) (λ n. refl) in
      let members : Changed (member_of nodes) (member_of nodes') (Some t) true = changed_within
      (part_kept is_member one (ap is_member before_is)) (part_changed is_member two) (part_kept is_member end refl) in
      record {
        fits = fits;
        counted = omega (arith, length-append queue (t ∷ []), hold.counted, count);
        queue_is = queue_pushed queue t hold.queue_is known new;
        linked = linked_behind (next_node nodes) (prev_of nodes) t
            (part_changed next one) new_to_end new_back (part_changed prev end)
            None queue no_end (is_off_absent t queue new) (all_off_end queue) (all_distinct queue hold.queue_is.0) hold.linked;
        members_are = members_after t queue (queue ++ t ∷ []) members hold.members_are
            (grind (arith, pushed_in, same_tid_self))
            (λ x other. grind (arith, pushed_in));
      }
