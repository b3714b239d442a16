-- Only the buffers of the capacities have locks; therefore a thread that sleeps at a lock sleeps at
-- one of them.
use Rattle.std.proofs.Common.{◌≡◌, ℕ, ◌<◌, List, [], ◌∷◌, length, Option, Some, None, option_map}
use Rattle.std.proofs.Common.{slice_get, refl, ap, sym, ◌∙◌, arith}
use Rattle.std.proofs.lemmas.Option.{slice_get_within}
use Rattle.event_log.specs.declared.ids.{BufId.BufId, CpuId.CpuId, LockId.LockId}
use Rattle.event_log.specs.declared.ids.{LockId.TheVariants.{Pending, Buffer}, Tid.Tid}
use Rattle.event_log.specs.Sections.{Section, block_after}
use Rattle.layer_traits.specs.{declared.moves.WaitList.WaitList, Layers.IpcLaw.WaitListsAgree}
use Rattle.layer_traits.specs.Threads.{ListsAgree.is_at, Places.{Asleep, At, Step, count_in}}
use Rattle.layer_traits.specs.Threads.Places.{one_if, wait_channel_of, where_is}
use Rattle.layer_traits.proofs.ListsLemmas.{wait_channel_here}

-- a lock that was not there at the start is not there after some sections
none_stays : {E B : Type 0} (edited : E → B → B) (O : LockId → Option B) (lock : LockId)
    (past : List (Section E)) → O lock ≡ None
    → block_after edited O lock past ≡ None
none_stays {B = B} edited O lock [] none = none
none_stays {B = B} edited O lock (s ∷ past) none = grind (arith, none_stays edited O lock past none)

-- lists that agree with the places lock by lock agree with them buffer by buffer
pub lists_agree : {E B : Type 0} (edited : E → B → B) (O : LockId → Option B)
    (past : List (Section E)) (fresh : ℕ → B) (caps : List ℕ)
    (list_in : WaitList → Option B → List Tid) (homes : List CpuId) (moves : List Step)
    → ((d : CpuId) → O (Pending d) ≡ None)
    → ((b : BufId) → O (Buffer b) ≡ option_map fresh (slice_get caps b.0))
    → ((line : WaitList) → list_in line None ≡ [])
    → ((lock : LockId) (line : WaitList) (t : Tid)
    → count_in t (list_in line (block_after edited O lock past))
    ≡ one_if (is_at lock line (wait_channel_of (where_is homes moves t))))
    → WaitListsAgree (length caps) homes moves
    (λ b line. list_in line (block_after edited O (Buffer b) past))
lists_agree edited O past fresh caps list_in homes moves pending opens empty agree = record {
  once = λ b line t there. agree (Buffer b) line t;
  known = λ t lock line is. go t lock line is;
}
  where
    nobody : (t : Tid) (lock : LockId) (line : WaitList)
        → where_is homes moves t ≡ Asleep (At lock line) → O lock ≡ None → ⊥
    nobody t lock line is none =
        let count : 0 ≡ 1
        = sym (ap (λ x. count_in t (list_in line x)) (none_stays edited O lock past none)
        ∙ ap (count_in t) (empty line))
        ∙ agree lock line t ∙ ap (λ w. one_if (is_at lock line (wait_channel_of w))) is
        ∙ ap one_if (wait_channel_here lock line) in
        absurd (omega (arith, count))

    go : (t : Tid) (lock : LockId) (line : WaitList)
        → where_is homes moves t ≡ Asleep (At lock line)
        → (b : BufId) × (lock ≡ Buffer b) × (b.0 < length caps)
    go t (Pending d) line is = absurd (nobody t (Pending d) line is (pending d))
    go t (Buffer b) line is = at (slice_get caps b.0) refl
      where
        at : (o : Option ℕ) → slice_get caps b.0 ≡ o
            → (d : BufId) × (Buffer b ≡ Buffer d) × (d.0 < length caps)
        at None none = absurd (nobody t (Buffer b) line is (opens b ∙ ap (option_map fresh) none))
        at (Some n) some = (b, refl, slice_get_within caps b.0 n some)
