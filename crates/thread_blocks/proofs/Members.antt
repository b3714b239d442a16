-- Which threads are in a list.
use Rattle.std.proofs.{Common.{◌≡◌, ℕ, true, refl, ap}, lemmas.Bool.{eq-eqb, eqb-true}}
use Rattle.{event_log.specs.declared.ids.Tid.Tid, thread_blocks.specs.Queues.same_tid}

abbrev pub tid_numbered : ℕ → Tid
tid_numbered n = record { 0 = n }

pub same_tid_self : (a : Tid) → same_tid a a ≡ true
same_tid_self a = eq-eqb a.0 a.0 refl

pub same_tid_true : (a b : Tid) → same_tid a b ≡ true → a ≡ b
same_tid_true a b same = ap tid_numbered (eqb-true a.0 b.0 same)
