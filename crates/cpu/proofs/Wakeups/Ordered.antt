-- Sections in the order of their calls lose no wake-up.
use Rattle.std.proofs.Common.{◌≡◌, Bool, true, false, List, [], ◌∷◌, length, slice_get, Some, option_map, nat_lt, if◌then◌else◌, refl, sym, subst, arith}
use Rattle.std.proofs.lemmas.Bool.{and_from, lt-ltb, or_right}
use Rattle.event_log.specs.{declared.{ids.{BufId.BufId, LockId.TheVariants.Buffer as AtBuffer}, entries.Kind.Kind}, Messages.Message, Runs.{Sends, Receives}}
use Rattle.{event_log.{specs.{Runs.group_of, History.same_lock, Sections.Section}, proofs.Same.same_lock_true}, cpu.specs.Table.Blocks.{Buffer, OfBuffer, Name}}
use Rattle.cpu.specs.{Table.{Edits.{edited, front_may_go, is_due, on_side}, Setups.SystemConfig}, Wakeups.Order.{Progress, progress, progress_by, block_of}}
use Rattle.cpu.{specs.Wakeups.{Order.{KeepsOrderAt, IsInOrder}, Lost.{Allows, NoWakeUpIsLost, OrderLosesNoWakeUp}}, proofs.Wakeups.Lists.refuted}
use Rattle.{cpu.proofs.Wakeups.Awake.{Coupled, IsAwake, stays_awake, IsQuiescent}, layer_traits.specs.declared.locked.Side.Side}

pub same_buffer : (k now : Buffer) → Some (OfBuffer k) ≡ Some (OfBuffer now) → k ≡ now
same_buffer k now is = cc

-- after sections in their order each buffer is awake
pub buffer_awake : (setup : SystemConfig) (sections : List (Section Name)) → IsInOrder setup sections → (b : BufId) (k : Buffer)
    → block_of setup (AtBuffer b) sections ≡ Some (OfBuffer k) → IsAwake k (progress setup (AtBuffer b) sections)
buffer_awake setup [] order b k is = grind (arith, same_buffer, is)
buffer_awake setup (s ∷ past) order b k is = by_test (same_lock (AtBuffer b) s.lock) refl is (buffer_awake setup past order.1 b)
  where
    by_test : (here : Bool) → same_lock (AtBuffer b) s.lock ≡ here
        → (if here then option_map (edited s.edit) (block_of setup (AtBuffer b) past) else block_of setup (AtBuffer b) past) ≡ Some (OfBuffer k)
        → ((now : Buffer) → block_of setup (AtBuffer b) past ≡ Some (OfBuffer now) → IsAwake now (progress setup (AtBuffer b) past))
        → IsAwake k (if here then progress_by s.edit (block_of setup (AtBuffer b) past)
        (progress setup (AtBuffer b) past) else progress setup (AtBuffer b) past)
    by_test true here now before =
        let may = subst (λ lock. KeepsOrderAt setup lock s.edit past) (sym (same_lock_true (AtBuffer b) s.lock here)) order.0 in
        grind (arith, same_buffer, stays_awake, may, now)
    by_test false here now before = before k now

some_items : (items : List Message) (m : Message) → slice_get items 0 ≡ Some m → nat_lt 0 (length items) ≡ true
some_items [] m is = absurd (cc is)
some_items (x ∷ items) m is = lt-ltb 0 (length (x ∷ items)) (omega arith)

-- all that an allowed effect says of the buffer
pub allowed_goes : (side : Side) (k : Buffer) (e : Kind) (m : Message) → group_of e ≡ on_side side Receives Sends → Allows k e m → front_may_go side k ≡ true
allowed_goes side k e m given allowed = grind (arith, or_right, lt-ltb, some_items)

-- no thread is due on a side of a quiescent buffer
pub quiescent_on : (k : Buffer) → IsQuiescent k → (side : Side) → is_due side k ≡ false
quiescent_on k quiescent side = grind arith

-- a buffer that is awake, with a free lock, has lost no wake-up
pub quiescent_loses_nothing : (k : Buffer) (g : Progress) → IsAwake k g → NoWakeUpIsLost k
quiescent_loses_nothing k g awake = record {
  on = λ side free t m is there e asks allowed.
      refuted (quiescent_on k (subst (Coupled k) (awake.idle free).0 awake.coupled) side)
      (and_from _ (front_may_go side k) (grind (arith, is, there)) (allowed_goes side k e m asks allowed));
}

pub order_loses_no_wake_up : OrderLosesNoWakeUp
order_loses_no_wake_up setup sections order b k is = quiescent_loses_nothing k (progress setup (AtBuffer b) sections) (buffer_awake setup sections order b k is)
