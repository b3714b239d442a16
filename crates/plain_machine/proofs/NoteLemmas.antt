-- What notes of repeated events represent.
use Rattle.std.proofs.Common.{◌≡◌, ℕ, zero, suc, ◌+◌, ◌*◌, List, [], ◌∷◌, ◌++◌, replicate, reverse, refl, ap, sym, ◌∙◌, arith, append_assoc}
use Rattle.std.proofs.lemmas.{Grind.replicate_next, List.{reverse-append, replicate-append-replicate}}
use Rattle.{event_log.specs.declared.events.Event.Event, plain_machine.specs.{declared.notes.Note.{Note, TheVariants.Again}, Stored.{repeated, told}}}

-- copies are the same in reverse
reverse_copies : {A : Type 0} (copies : ℕ) (x : A) → reverse (replicate copies x) ≡ replicate copies x
reverse_copies zero x = refl
reverse_copies (suc copies) x = reverse-append (x ∷ []) (replicate copies x) ∙ (ap (λ xs. xs ++ x ∷ []) (reverse_copies copies x) ∙ next)
  where
    next : replicate copies x ++ x ∷ [] ≡ replicate (suc copies) x
    next = let e : copies + 1 ≡ suc copies = omega arith in sym (replicate_next copies x) ∙ ap (λ n. replicate n x) e

-- one event, and so many times more
pub one_and_more : {A : Type 0} (more : ℕ) (x : A) (past : List A) → replicate more x ++ x ∷ past ≡ replicate (more + 1) x ++ past
one_and_more more x past = sym (append_assoc (replicate more x) (x ∷ []) past) ∙ ap (λ xs. xs ++ past) (sym (replicate_next more x))

module _ {M : Type 0} where
  -- so many times more, and so many again
  pub repeated_more : (more times : ℕ) (past : List (Event M)) → repeated more (repeated times past) ≡ repeated (more + times) past
  repeated_more more times [] = refl
  repeated_more more zero (newest ∷ past) = let e : more + 0 ≡ more = omega arith in ap (λ n. repeated n (newest ∷ past)) (sym e)
  repeated_more more (suc times) (newest ∷ past) =
      one_and_more more newest (replicate times newest ++ newest ∷ past)
      ∙ (sym (append_assoc (replicate (more + 1) newest) (replicate times newest) (newest ∷ past))
      ∙ (ap (λ xs. xs ++ newest ∷ past) (replicate-append-replicate (more + 1) times newest)
      ∙ (let e : (more + 1) + times ≡ more + suc times = omega arith in ap (λ n. replicate n newest ++ newest ∷ past) e)))

  -- copies of a note of times, in front of these notes
  in_front : (times copies : ℕ) (notes : List Note) (marks : List M) → told (replicate copies (Again times) ++ notes) marks
      ≡ repeated (copies * times) (told notes marks)
  in_front times zero notes marks = none (told notes marks) ∙ (let e : 0 ≡ 0 * times = omega arith in ap (λ n. repeated n (told notes marks)) e)
    where
      none : (past : List (Event M)) → past ≡ repeated 0 past
      none [] = refl
      none (newest ∷ past) = refl
  in_front times (suc copies) notes marks =
      ap (repeated times) (in_front times copies notes marks) ∙ (repeated_more times (copies * times) (told notes marks)
      ∙ (let e : times + copies * times ≡ suc copies * times = omega arith in ap (λ n. repeated n (told notes marks)) e))

  -- copies of a note of times, noted after these notes
  pub told_again : (times copies : ℕ) (notes : List Note) (marks : List M) → told (reverse (notes ++ replicate copies (Again times))) marks
      ≡ repeated (copies * times) (told (reverse notes) marks)
  told_again times copies notes marks =
      ap (λ all. told all marks) (reverse-append notes (replicate copies (Again times)) ∙ ap (λ xs. xs ++ reverse notes) (reverse_copies copies (Again times)))
      ∙ in_front times copies (reverse notes) marks
