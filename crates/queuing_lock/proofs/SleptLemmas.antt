-- A thread that slept for a lock owns it or still sleeps for it, whatever is called.
use Rattle.std.proofs.Common.{◌≡◌, ◌⊎◌, inl, inr, ℕ, zero, suc, List, [], ◌∷◌, ◌++◌, Option, Some, None, slice_index_or, slice_set, replicate, refl, ap, sym}
use Rattle.std.proofs.{Common.{◌∙◌, subst}, Math.Path.transport, lemmas.Option.same_Some}
use Rattle.event_log.specs.{declared.ids.{BufId.BufId, CpuId.CpuId, LockId.{LockId, TheVariants.Buffer}, Tid.Tid}, History.{AreOthers, IsLawful}}
use Rattle.layer_traits.specs.declared.{locked.{QLockCall.QLockCall, QLockReply.QLockReply}, queue_edits.QueueBlock.QueueBlock, queues.QueueEvent.QueueEvent}
use Rattle.layer_traits.specs.Layers.{QLocking.{LockRules, LockState, lock_caller}, QLockLaw.{HasOrAwaits, lock_kernel, slept_for}, Queues.QueueAllowed}
use Rattle.layer_traits.specs.Layers.{Queues.cpu_of_queue_event, SleepLaw.{PollResult, WaitsStill, Does, SendsHome, seen_with}}
use Rattle.queuing_lock.specs.{Laws.Steady.{keeps_awaits, preserved_by, preserved_by_others}, Parts.{SleptFits, SleptOne}}

-- an entry of a list in which one entry was set is the set one, or was there before
pub set_reads : {A : Type 0} (xs : List (Option A)) (i j : ℕ) (v : Option A) (a : A) → slice_index_or (slice_set xs i v) j None ≡ Some a
    → ((i ≡ j) × (v ≡ Some a)) ⊎ (slice_index_or xs j None ≡ Some a)
set_reads [] i j v a is = inr is
set_reads (x ∷ xs) zero zero v a is = inl (refl, is)
set_reads (x ∷ xs) zero (suc j) v a is = inr is
set_reads (x ∷ xs) (suc i) zero v a is = inr is
set_reads (x ∷ xs) (suc i) (suc j) v a is = elim (set_reads xs i j v a is) [ inl both ↦ inl (ap suc both.0, both.1) | inr was ↦ inr was ]

-- a list of nothing has nothing at each index
pub none_at : {A : Type 0} (n j : ℕ) (x : Option A) → x ≡ None → slice_index_or (replicate n x) j None ≡ None
none_at zero j x is = refl
none_at (suc n) zero x is = is
none_at (suc n) (suc j) x is = none_at n j x is

module _ {F R B O : Type 0} (protocol : LockRules F R B O) (opening : LockId → Option (QueueBlock (LockState B))) (c : CpuId) where
  -- others call
  pub slept_others : (more past : List (QueueEvent (QLockCall F R))) → AreOthers cpu_of_queue_event c more
      → IsLawful (QueueAllowed (lock_kernel protocol opening)) (more ++ past)
      → (slept : List (Option BufId)) → SleptFits protocol opening c past slept → SleptFits protocol opening c (more ++ past) slept
  slept_others more past others lawful slept coupled t b is = record {
    here = (coupled t b is).here;
    awaits = preserved_by_others protocol opening
        (record { t = t; P = HasOrAwaits t; keeps = keeps_awaits protocol t; c = c; at_home = (coupled t b is).here; lock = Buffer b })
        more past others lawful (coupled t b is).awaits;
  }

  -- the history grew by calls of other CPUs
  pub slept_goes : (more past new : List (QueueEvent (QLockCall F R))) → AreOthers cpu_of_queue_event c more → new ≡ more ++ past
      → IsLawful (QueueAllowed (lock_kernel protocol opening)) new
      → (slept : List (Option BufId)) → SleptFits protocol opening c past slept → SleptFits protocol opening c new slept
  slept_goes more past new others is lawful slept coupled = subst (λ l. SleptFits protocol opening c l slept) (sym is)
      (slept_others more past others (subst (λ l. IsLawful (QueueAllowed (lock_kernel protocol opening)) l) is lawful) slept coupled)

  apart : (slept : List (Option BufId)) (u t : Tid) (b : BufId) → slept_for slept u ≡ None → slept_for slept t ≡ Some b → u ≡ t → ⊥
  apart slept u t b none some is = let one = subst (λ x. slept_for slept x ≡ None) is none in absurd cc

  -- a thread that slept for no lock calls
  pub slept_result : (b : BufId) (e : QLockCall F R) (poll_result : PollResult (QLockReply O)) (past : List (QueueEvent (QLockCall F R)))
      (slept : List (Option BufId))
      → IsLawful (QueueAllowed (lock_kernel protocol opening)) (seen_with (lock_kernel protocol opening) c b e poll_result past)
      → slept_for slept (lock_caller protocol e) ≡ None
      → SleptFits protocol opening c past slept → SleptFits protocol opening c (seen_with (lock_kernel protocol opening) c b e poll_result past) slept
  slept_result b e WaitsStill past slept lawful none coupled = coupled
  slept_result b e (Does outcome) past slept lawful none coupled = λ t at is. record {
    here = (coupled t at is).here;
    awaits = preserved_by protocol opening
        (record { t = t; P = HasOrAwaits t; keeps = keeps_awaits protocol t; c = c; at_home = (coupled t at is).here; lock = Buffer at })
        past c b e lawful.0.upper.owners
        (apart slept (lock_caller protocol e) t at none is) (coupled t at is).awaits;
  }
  slept_result b e (SendsHome u) past slept lawful none coupled = λ t at is. record { here = (coupled t at is).here; awaits = (coupled t at is).awaits }

  -- a thread whose call was handed its lock has slept
  pub slept_less : (t : Tid) (past : List (QueueEvent (QLockCall F R))) (slept : List (Option BufId)) → SleptFits protocol opening c past slept
      → SleptFits protocol opening c past (slice_set slept t.0 None)
  slept_less t past slept coupled u b is =
      elim (set_reads slept t.0 u.0 None b is) [ inl both ↦ (let none = both.1 in absurd cc) | inr was ↦ coupled u b was ]

  -- a thread that is queued now sleeps
  pub slept_more : (t : Tid) (b : BufId) (past : List (QueueEvent (QLockCall F R))) (slept : List (Option BufId)) → SleptOne protocol opening c past t b
      → SleptFits protocol opening c past slept → SleptFits protocol opening c past (slice_set slept t.0 (Some b))
  slept_more t b past slept one coupled u at is = elim (set_reads slept t.0 u.0 (Some b) at is) [
    | inl both ↦ transport (λ i. SleptOne protocol opening c past (record { 0 = both.0 i }) (same_Some b at both.1 i)) one
    | inr was ↦ coupled u at was
  ]

  -- at boot no thread has slept
  pub slept_none : (past : List (QueueEvent (QLockCall F R))) (slept : List (Option BufId)) (n : ℕ) → slept ≡ replicate n None
      → SleptFits protocol opening c past slept
  slept_none past slept n is t b some =
      let none : slept_for slept t ≡ None = ap (λ l. slept_for l t) is ∙ none_at n t.0 None refl in
      absurd cc
