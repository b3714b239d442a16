-- The keys of a table at which nothing has happened.
use Rattle.std.proofs.Common.{Some, slice_get, ◌≡◌, ◌≢◌, ℕ, zero, suc, ◌<◌, List, [], ◌∷◌, length, All, refl, ◌∙◌, length-append, arith}
use Rattle.std.proofs.lemmas.Option.{get_or_from_slice_get}
use Rattle.table_machine.{specs.SeatViews.{TableView, new_seat_view, new_seat_views, Covers, IsOver}, proofs.Elements.{last_got, longer_got}}
use mathlib.Core.Logic.{dite}
use native.Mathlib.Decide.{ℕ_discrete}

pub length_new : (E : Type 0) {B : Type 0} (table_view : TableView B) (n : ℕ) → length (new_seat_views {E = E} table_view n) ≡ n
length_new E table_view zero = refl
length_new E table_view (suc n)
    = length-append (new_seat_views {E = E} table_view n) (new_seat_view table_view n ∷ []) ∙ omega (arith, length_new E table_view n)

new_at : {E B : Type 0} (table_view : TableView B) (n k : ℕ) → k < n → slice_get (new_seat_views {E = E} table_view n) k ≡ Some (new_seat_view table_view k)
new_at table_view zero k below = absurd (omega arith)
new_at {E = E} table_view (suc n) k below = dite (ℕ_discrete k n)
    (λ (e : k ≡ n). rw e (last_got (new_seat_views table_view n) (new_seat_view table_view n) n (length_new E table_view n)))
    (λ (ne : k ≢ n). longer_got (new_seat_views table_view n) (new_seat_view table_view n ∷ []) k (new_seat_view table_view k)
    (new_at table_view n k (omega arith)))
