-- What has returned is before what has not begun: the order at a prefix is a prefix of the whole
-- order.
use Rattle.std.proofs.Common.{◌≡◌, ℕ, ◌<◌, ◌≤◌, ◌==◌, List, ◌++◌, length, reverse, ap, sym, ◌∙◌, subst, arith}
use Rattle.{event_log.specs.{declared.{entries.Entry.Entry, ids.{CpuId.CpuId, Tid.Tid}}, Actions.Action}, cpu.specs.Cpus.{of_cpu, of_thread}}
use Rattle.cpu.specs.{Table.Setups.{SystemConfig, thread_at}, TableOrder.{StandsAt, calls_begun, calls_returned, thread_entries}, Tower.Views.TowerName}
use Rattle.cpu.proofs.{WholeSystems.OneOrder.filter_reversed, TableOrder.RealTime.{begun_many, first_before, returned_few}}
use Rattle.cpu_workers.specs.{Prefixes.{AreLinearizable, IsActionPrefix}, Orders.effects_of, RealTime.ReturnedComeFirst}

-- At a front the order of all calls begins with the order so far.
module _ (setup : SystemConfig) (acts later earlier : List (Action TowerName)) (linear : AreLinearizable setup acts) (is : acts ≡ later ++ earlier) where
  abbrev front : IsActionPrefix setup later earlier
  front = linear later earlier is

  abbrev pre : List Entry
  pre = reverse (effects_of setup.caps earlier)

  whole : reverse (effects_of setup.caps acts) ≡ pre ++ front.goes_on.more
  whole = ap (λ (l : List (Action TowerName)). reverse (effects_of setup.caps l)) is ∙ front.goes_on.is

  entries : (e : CpuId) (below : e.0 < setup.cpus) (v : Tid) → of_thread v.0 (front.worked.ran e below).last.trace ≡ thread_entries e v pre
  entries e below v =
      ap (of_thread v.0) (front.keeps e below)
      ∙ ap (of_thread v.0) (sym (filter_reversed (λ (x : Entry). x.cpu.0 == e.0) (effects_of setup.caps earlier)))

  first_at : (c d : CpuId) (here : c.0 < setup.cpus) (there : d.0 < setup.cpus) (t u : Tid) (i j p q : ℕ)
      → i < calls_returned (front.worked.ran c here).last t → calls_begun (front.worked.ran d there).last u ≤ j
      → StandsAt c t i (reverse (effects_of setup.caps acts)) p → StandsAt d u j (reverse (effects_of setup.caps acts)) q → p < q
  first_at c d here there t u i j p q returned begun one other =
      let some = returned_few (thread_at (front.worked.ran c here).last t).call (length (of_thread t.0 (front.worked.ran c here).last.trace)) in
      let many = begun_many (thread_at (front.worked.ran d there).last u).call (length (of_thread u.0 (front.worked.ran d there).last.trace)) in
      let mine = ap (λ (l : List Entry). length l) (entries c here t) in
      let its = ap (λ (l : List Entry). length l) (entries d there u) in
      first_before c d t u pre front.goes_on.more i j p q (omega (arith, returned, some, mine)) (omega (arith, begun, many, its))
      (subst (λ (l : List Entry). StandsAt c t i l p) whole one) (subst (λ (l : List Entry). StandsAt d u j l q) whole other)

pub returned_come_first : ReturnedComeFirst
returned_come_first = first_at
