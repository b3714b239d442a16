-- A text that is read and judged in parts has the verdict of the whole.
use Rattle.std.proofs.Common.{◌≡◌, ℕ, ◌+◌, ◌-◌, ◌<◌, ◌≤◌, List, [], ◌∷◌, ◌++◌, length, take, drop, Option, Some, None, Result, Ok, Err, refl, sym, ap, ◌∙◌}
use Rattle.std.proofs.{Common.{append_assoc, append-nil, eq-eqb, arith, length-append, subst}, lemmas.List.{drop-take, length-drop, length-take}}
use Rattle.std.{proofs.lemmas.List.{nil_from_length, take-append-drop, Edits.take-paste, Splits.slice_split_at}, specs.Io.KnownBytes.{Consumes, IsAtEnd}}
use Rattle.tracer.specs.{declared.{checking.TextJudge.TextJudge, verdicts.{Reason.Reason, Verdict.{Verdict, TheVariants.Yes}}}, Judging.TextProgress}
use Rattle.tracer.specs.{Judging.{lines_in, step, verdict_from, verdict_of}, Inputs.IsReadBehind, Lines.IsFirstLine, Steps.{EndsInLine, StepsOver}}
use Rattle.tracer.{specs.{Parts.verdict_behind, Tallies.{progress_of, StepsTo}, Verdicts.{IsTraceOfRun, IsVerdictOn}}, proofs.VerdictLemmas.line_taken}
use Rattle.tracer.proofs.{VerdictLemmas.line_refused, CommonLemmas.ends_behind_line}
use lib.Seq.{paste, take-add}

-- ---- the bytes of a reader

pub read_then : (old mid new : List ℕ) (from between now : Option (List ℕ)) → IsReadBehind old mid from between → IsReadBehind mid new between now
    → IsReadBehind old new from now
read_then old mid new from between now first second =
    record { more = first.more ++ second.more; read = grind (arith, append_assoc); grown = grind (arith, append_assoc) }

-- one read after the first `at` bytes, which stay
pub read_more : (xs ys : List ℕ) (at n : ℕ) (mid now : Option (List ℕ)) → take at ys ≡ take at xs → Consumes mid now (take n (drop at ys))
    → IsReadBehind (take at xs) (take (at + n) ys) mid now
read_more xs ys at n mid now front read = record { more = take n (drop at ys); read = read; grown = grind (arith, take-add at n ys) }

-- the bytes after the first `count` are moved to the front
pub bytes_moved : (xs : List ℕ) (filled count : ℕ) → count ≤ length (take filled xs) → filled ≤ length xs
    → take (filled - count) (paste xs 0 (drop count xs) (filled - count)) ≡ drop count (take filled xs)
bytes_moved xs filled count few inside =
    grind (arith, length-take filled xs, length-drop count xs, take-paste xs 0 (drop count xs) (filled - count), drop-take count (filled - count) xs)

-- ---- the lines of a part

-- a judge that found no fault
live_verdict : (judge : TextJudge) (text : List ℕ) → judge.fault ≡ None → verdict_behind judge text
    ≡ verdict_from (progress_of judge.judge) judge.line (lines_in text)
live_verdict judge text none = rw none refl

first_line : (text line behind more : List ℕ) → IsFirstLine text line behind → lines_in (text ++ more) ≡ line ∷ lines_in (behind ++ more)
first_line text line behind more is = grind (arith, append_assoc, slice_split_at, eq-eqb)

-- the rest of the part is still to be judged, by a judge that found no fault
pub record IsTakenTo (old : TextJudge) (part : List ℕ) (now : TextJudge) (rest : List ℕ) : Type 0 where
  pub front : List ℕ
  pub whole : part ≡ front ++ rest
  pub judged : (more : List ℕ) → verdict_behind old (part ++ more) ≡ verdict_behind now (rest ++ more)
  pub live : now.fault ≡ None
  pub counted : now.line + length rest ≤ old.line + length part

-- one line more
one_taken : (old : TextJudge) (part : List ℕ) (now new : TextJudge) (rest line behind : List ℕ) → IsTakenTo old part now rest → IsFirstLine rest line behind
    → step (progress_of now.judge) line ≡ Ok (progress_of new.judge) → new.line ≡ now.line + 1 → new.fault ≡ now.fault → IsTakenTo old part new behind
one_taken old part now new rest line behind taken is stepped next fault = record {
  front = taken.front ++ (line ++ 10 ∷ []);
  whole = grind (arith, append_assoc);
  judged = λ more. grind (arith, taken.judged more, first_line rest line behind more is, line_taken);
  live = fault ∙ taken.live;
  counted = grind (arith, length-append);
}

-- the lines of a part are judged as far as here, where it ends in a line feed
pub record AreTakenTo (old : TextJudge) (part : List ℕ) (now : TextJudge) (rest : List ℕ) : Type 0 where
  pub taken : IsTakenTo old part now rest
  pub ends : 0 < length rest → EndsInLine rest

pub none_taken : (old : TextJudge) (part : List ℕ) (end : ℕ) → old.fault ≡ None → (0 < end → EndsInLine (take end part)) → end ≤ length part
    → AreTakenTo old (take end part) old (take end part)
none_taken old part end live ends inside = record {
  taken = record { front = []; whole = refl; judged = λ more. refl; live = live; counted = omega arith };
  ends = λ some. ends (omega (arith, length-take end part));
}

pub steps_shorter : (s : TextProgress) (text : List ℕ) (judged : Result (Unit {0}) Reason) (now : TextProgress) (behind : List ℕ)
    → StepsOver s text judged now behind → length behind < length text
steps_shorter s text judged now behind over =
    let long : length text ≡ length over.line + length (10 ∷ behind) = ap length over.is.whole ∙ length-append over.line (10 ∷ behind) in omega arith

pub line_over : (old : TextJudge) (part : List ℕ) (now new : TextJudge) (rest : List ℕ) (judged : Result (Unit {0}) Reason) (behind : List ℕ) → 0 < length rest
    → AreTakenTo old part now rest → StepsOver (progress_of now.judge) rest judged (progress_of new.judge) behind → judged ≡ Ok tt → new.line ≡ now.line + 1
    → new.fault ≡ now.fault → AreTakenTo old part new behind
line_over old part now new rest judged behind some so_far over ok next fault =
    let steps = subst (λ (r : Result (Unit {0}) Reason). StepsTo (step (progress_of now.judge) over.line) r (progress_of new.judge)) ok over.steps in
    record {
      taken = one_taken old part now new rest over.line behind so_far.taken over.is steps next fault;
      ends = ends_behind_line rest over.line behind (so_far.ends some) over.is;
    }

-- a line with a fault
pub faulty_line_over : (old : TextJudge) (part : List ℕ) (end : ℕ) (now new : TextJudge) (rest : List ℕ) (judged : Result (Unit {0}) Reason)
    (after : TextProgress) (behind : List ℕ) (reason : Reason) → AreTakenTo old (take end part) now rest
    → StepsOver (progress_of now.judge) rest judged after behind → judged ≡ Err reason → new.line ≡ now.line → new.fault ≡ Some reason
    → (more any : List ℕ) → verdict_behind old (part ++ more) ≡ verdict_behind new any
faulty_line_over old part end now new rest judged after behind reason so_far over bad same fault more any =
    let steps = subst (λ (r : Result (Unit {0}) Reason). StepsTo (step (progress_of now.judge) over.line) r after) bad over.steps in
    let whole : part ++ more ≡ take end part ++ (drop end part ++ more) =
    ap (λ (t : List ℕ). t ++ more) (sym (take-append-drop end part)) ∙ append_assoc (take end part) (drop end part) more in
    ap (verdict_behind old) whole ∙ so_far.taken.judged (drop end part ++ more) ∙ live_verdict now (rest ++ (drop end part ++ more)) so_far.taken.live
    ∙ line_refused (progress_of now.judge) now.line (rest ++ (drop end part ++ more)) over.line (behind ++ (drop end part ++ more)) reason
    (first_line rest over.line behind (drop end part ++ more) over.is) steps
    ∙ sym (rw (fault, same) refl)

-- all lines of the part are judged
pub all_taken : (old : TextJudge) (part : List ℕ) (end : ℕ) (now : TextJudge) (rest : List ℕ) → AreTakenTo old (take end part) now rest → length rest ≡ 0
    → (more : List ℕ) → verdict_behind old (part ++ more) ≡ verdict_behind now (drop end part ++ more)
all_taken old part end now rest so_far none more =
    let whole : part ++ more ≡ take end part ++ (drop end part ++ more) =
    ap (λ (t : List ℕ). t ++ more) (sym (take-append-drop end part)) ∙ append_assoc (take end part) (drop end part) more in
    let nothing : rest ≡ [] = nil_from_length rest none in
    ap (verdict_behind old) whole ∙ so_far.taken.judged (drop end part ++ more) ∙ ap (λ (t : List ℕ). verdict_behind now (t ++ (drop end part ++ more))) nothing

-- ---- an input that is judged as far as it was read

pub record IsJudgedTo (from now : Option (List ℕ)) (judge : TextJudge) (held : List ℕ) : Type 0 where
  pub history : List ℕ
  pub read : Consumes from now history
  pub judged : (more : List ℕ) → verdict_of (history ++ more) ≡ verdict_behind judge (held ++ more)

-- one part more: it is read, its lines are judged, and what is left is kept
pub judged_part : (from mid now : Option (List ℕ)) (old new : TextJudge) (held longer part rest : List ℕ) (taken : ℕ) → IsJudgedTo from mid old held
    → IsReadBehind held longer mid now → part ≡ longer → ((more : List ℕ) → verdict_behind old (part ++ more) ≡ verdict_behind new (drop taken part ++ more))
    → rest ≡ drop taken longer → IsJudgedTo from now new rest
judged_part from mid now old new held longer part rest taken before read same lines left = record {
  history = before.history ++ read.more;
  read = grind (arith, append_assoc);
  judged = λ more. grind (arith, append_assoc, before.judged (read.more ++ more), lines more);
}

pub judged_all : (from now : Option (List ℕ)) (judge : TextJudge) (held : List ℕ) (verdict : Verdict) → IsJudgedTo from now judge held → IsAtEnd now
    → verdict ≡ verdict_behind judge held → ((text : List ℕ) → verdict_of text ≡ Yes → IsTraceOfRun text) → IsVerdictOn from verdict
judged_all from now judge held verdict before end is sound =
    let same : verdict ≡ verdict_of before.history = grind (arith, append-nil, before.judged []) in
    record { text = before.history; whole = grind (arith, append-nil); judged = same; run = λ yes. sound before.history (sym same ∙ yes) }
