-- A layer that wraps its edits in those of the lower layer: its blocks and replies are views of the
-- lower ones, under the layer's own names.
use Rattle.std.proofs.Common.{◌≡◌, List, [], ◌∷◌, Option, option_map, map, refl, ap, sym, ◌∙◌, arith}
use Rattle.event_log.specs.{declared.ids.{CpuId.CpuId, LockId.LockId}, Actions.{Action, Phase, phase, renamed}, Sections.{Section, renamed_section}}
use Rattle.{event_log.{specs.Sections.{sections_in, block_after}, proofs.Renaming.{phase_renamed, sections_in_renamed}}, layer_traits.specs.Polling.Plans.Table}
use Rattle.layer_traits.specs.Polling.Plans.{at_give, reply}
pub use Rattle.std.proofs.lemmas.List.{map-append}

-- A table is over a lower one: its names, blocks and results are made of the lower ones, and edits
-- and results agree. M, A and Q are the names, blocks and results of the lower table, and N, B and
-- R those of the layer.
pub record StandsOn {M N A B Q R : Type 0} (low : Table M A Q) (high : Table N B R) : Type 0 where
  pub name : M → N
  pub view : A → B
  pub abstract_answer : Q → R
  pub edits : (m : M) (block : A) → view (low.edited m block) ≡ high.edited (name m) (view block)
  pub answers : (m : M) (block : A) → abstract_answer (low.answer m block) ≡ high.answer (name m) (view block)

-- the same of its parts
pub stands_of_parts : {M N A B Q R : Type 0} {low : Table M A Q} {high : Table N B R} (name : M → N) (view : A → B) (answer : Q → R)
    → ((m : M) (block : A) → view (low.edited m block) ≡ high.edited (name m) (view block))
    → ((m : M) (block : A) → answer (low.answer m block) ≡ high.answer (name m) (view block)) → StandsOn low high
stands_of_parts name view answer edits answers = record { name = name; view = view; abstract_answer = answer; edits = edits; answers = answers }

module _ {M N A B Q R : Type 0} (low : Table M A Q) (high : Table N B R) (stands : StandsOn low high) (opening : LockId → Option A) where
  open stands use {name, view, abstract_answer, edits, answers}

  viewed_answer : (m : M) (block : Option A)
      → option_map abstract_answer (option_map (low.answer m) block) ≡ option_map (high.answer (name m)) (option_map view block)
  viewed_answer m block = grind (arith, answers)

  -- the layer's block is its view of the lower layer's block
  pub block_viewed : (lock : LockId) (past : List (Section M))
      → block_after high.edited (λ l. option_map view (opening l)) lock (map (renamed_section name) past)
      ≡ option_map view (block_after low.edited opening lock past)
  block_viewed lock [] = refl
  block_viewed lock (s ∷ past) = grind (arith, block_viewed lock past, edits s.edit)

  at_give_mapped : (p : Phase) (answer : Option Q) → option_map abstract_answer (at_give p answer) ≡ at_give p (option_map abstract_answer answer)
  at_give_mapped p answer = grind arith

  -- and its reply is what the lower reply means
  pub reply_viewed : (cpu : CpuId) (lock : LockId) (m : M) (past : List (Action M))
      → option_map abstract_answer (reply low opening cpu lock m past)
      ≡ reply high (λ l. option_map view (opening l)) cpu lock (name m) (map (renamed name) past)
  reply_viewed cpu lock m past =
      let block : Option A = block_after low.edited opening lock (sections_in past) in
      let answer : List (Section N) → Option R
      = λ l. option_map (high.answer (name m)) (block_after high.edited (λ k. option_map view (opening k)) lock l) in
      at_give_mapped (phase cpu past) (option_map (low.answer m) block)
      ∙ (ap (at_give (phase cpu past)) (viewed_answer m block)
      ∙ (ap (λ b. at_give (phase cpu past) (option_map (high.answer (name m)) b)) (sym (block_viewed lock (sections_in past)))
      ∙ (ap (λ l. at_give (phase cpu past) (answer l)) (sym (sections_in_renamed name past))
      ∙ ap (λ p. at_give p (answer (sections_in (map (renamed name) past)))) (sym (phase_renamed name cpu past)))))
