-- How a table begins, and how its keys are dealt.
use Rattle.std.proofs.Common.{◌≡◌, ◌≢◌, ℕ, zero, suc, ◌+◌, ◌<◌, ◌≤◌, inl, inr, ⊎_elim, List, [], ◌∷◌, length, set, map, refl, ap, sym, ◌∙◌, arith}
use Rattle.{atomic_table.specs.Table.{Splits, opening}, event_log.specs.declared.ids.{TheConstants.CPUS, CpuId.CpuId, LockId.LockId}}
use Rattle.{layer_traits.specs.Protocols.Protocol.Rules, table_machine.specs.{declared.views.{Home.Home, View.View}, Kinds.{WordKind, IsWordKind}}}
use Rattle.table_machine.{specs.{Layout.AreFirst, Views.{caught_up, mine, cpus_from, Has, Owns}, Rule.{TableInv, fresh_home}}, proofs.Logs.ends_nil}
use Rattle.table_machine.proofs.Seeing.{all_end, all_set, each_sees, fits_at, fits_of, fits_viewed, FitsAt, owns_viewed, sees_dealt, sees_set}
use Rattle.table_machine.proofs.{Showing.shows_opening, Stepping.same_log}
use mathlib.Core.Option.{some-ne-none}

pub has_from : (c : CpuId) (k m : ℕ) → Has c (cpus_from k m) → (k ≤ c.0) × (c.0 < k + m)
has_from c k zero h = absurd h
has_from c k (suc m) (inl e) = let same : c.0 ≡ k = ap (λ (d : CpuId). d.0) e in (omega arith, omega arith)
has_from c k (suc m) (inr h) = let more = has_from c (k + 1) m h in (omega arith, omega arith)

module _ (K : WordKind) {E B O : Type 0} (R : Rules E B O) (n : ℕ) (start : List (LockId × B)) where
  -- the first CPU of the dealer's seat moves to a new seat
  pub deals_split : (id k m : ℕ) → Splits (TableInv K R n start) id (caught_up start (cpus_from k (suc m)) []) (caught_up start (cpus_from (k + 1) m) [])
      (mine start (record { 0 = k }) [])
  deals_split id k m s kept at =
      let first : CpuId = record { 0 = k } in
      let left : View E B = caught_up start (cpus_from (k + 1) m) [] in
      let old = fits_at n s.views kept.log kept.sees id (caught_up start (cpus_from k (suc m)) []) at in
      let its = old.1 first (inl (inl refl)) in
      let apart : (c : CpuId) → Owns c left → c.0 ≢ k = λ c o same.
      let low : k + 1 ≤ c.0 = (has_from c (k + 1) m (owns_viewed {E = E} {B = B} start (cpus_from (k + 1) m) [] c o)).0 in omega arith in
      same_log K R n start s _ kept kept.shows (sees_dealt n (set s.views id left) kept.log
      (sees_set n s.views kept.log kept.sees id (caught_up start (cpus_from k (suc m)) []) at [] (λ c away. tt) left
      (fits_of start (cpus_from (k + 1) m) kept.log [] (ends_nil kept.log) (λ c has. old.0.cpus c (inr has)))
      (λ c o. inl (inr (owns_viewed {E = E} {B = B} start (cpus_from (k + 1) m) [] c o))))
      (mine start first []) (fits_of start (first ∷ []) kept.log [] (ends_nil kept.log) (λ c has. old.0.cpus c (⊎_elim inl (λ no. absurd no) has)))
      k (λ c o. ⊎_elim (λ e. ap (λ (d : CpuId). d.0) e) (λ no. absurd no) (owns_viewed {E = E} {B = B} start (first ∷ []) [] c o)) its.1
      (all_set (λ i u. (c : CpuId) → Owns c u → c.0 ≢ k) s.views id left apart
      (λ i u away there c o same. away (kept.sees.apart i u c there o ∙ (ap kept.sees.seat_of same ∙ sym its.0)))))

  -- the table that `open` makes
  pub opening_inv : IsWordKind K → (words : List ℕ) (homes : List (Home E B)) → n ≤ CPUS → AreFirst K.opens (length start) (length start) words
      → homes ≡ map (λ (o : LockId × B). fresh_home o.1) start → TableInv K R n start (opening words homes (caught_up start (cpus_from 0 n) []))
  opening_inv law words homes few first are =
      let v : View E B = caught_up start (cpus_from 0 n) [] in
      record {
        few = few;
        log = [];
        legal = tt;
        shows = shows_opening K law R.edited start words homes first are;
        sees = each_sees n (v ∷ []) [] (λ m. 0) (all_end (FitsAt n [] (λ m. 0)) [] v (
          fits_viewed start (cpus_from 0 n) [],
          λ c o.
              let range = has_from c 0 n (owns_viewed {E = E} {B = B} start (cpus_from 0 n) [] c o) in
              let high : c.0 < 0 + n = range.1 in (refl, omega arith),
        ) (λ i u there. absurd (some-ne-none u (sym there))));
        rest = λ c large. tt;
      }
