-- What environment events leave unchanged.
use Rattle.std.proofs.Common.{◌≡◌, ℕ, Bool, true, false, if◌then◌else◌, List, [], ◌∷◌, ◌++◌, Option, refl, ap, sym, ◌∙◌, append_assoc, append-nil, eq-eqb}
use Rattle.event_log.specs.{declared.{ids.{CpuId.CpuId, LockId.LockId}, events.Event.{Event, TheVariants.{Draw, Look, Free}}}, History.{same_cpu, same_lock}}
use Rattle.event_log.specs.{History.{AreOthers, own_events}, WordsLog.{cpu_of_event, lock_phase, IsLegalWords, Holding}, Sections.block_after}
use Rattle.event_log.proofs.{Same.same_lock_true, Foreign.{others_both, lock_phase_others, own_others}, Tickets.mutual_exclusion}
use Rattle.{layer_traits.specs.{declared.edits.Mark.Mark, Protocols.WordsProtocol.sections}, table_machine.specs.Views.{EndsWith, IsSince}}

module _ {M : Type 0} where
  pub since_trans : (c : CpuId) (a b d : List (Event M)) → IsSince a b c → IsSince b d c → IsSince a d c
  since_trans c a b d s t = record {
    more = s.more ++ t.more;
    is = s.is ∙ (ap (λ l. s.more ++ l) t.is ∙ sym (append_assoc s.more t.more d));
    others = others_both cpu_of_event c s.more t.more s.others t.others;
  }

  -- environment events appended to what was added since
  pub since_more : (c : CpuId) (es log history : List (Event M)) → AreOthers cpu_of_event c es → IsSince log history c → IsSince (es ++ log) history c
  since_more c es log history h s = since_trans c (es ++ log) log history (record { more = es; is = refl; others = h }) s

  pub since_all : (c : CpuId) (log : List (Event M)) → IsSince log log c
  since_all c log = record { more = []; is = refl; others = tt }

  pub lock_phase_since : (c : CpuId) (log history : List (Event M)) → IsSince log history c → lock_phase c log ≡ lock_phase c history
  lock_phase_since c log history s = ap (lock_phase c) s.is ∙ lock_phase_others c s.more history s.others

  pub own_since : (c : CpuId) (log history : List (Event M)) → IsSince log history c → own_events cpu_of_event c log ≡ own_events cpu_of_event c history
  own_since c log history s = ap (own_events cpu_of_event c) s.is ∙ own_others cpu_of_event c s.more history s.others

  -- every log extends the empty one
  pub ends_nil : (log : List (Event M)) → EndsWith log []
  ends_nil log = record { more = log; is = sym (append-nil log) }

  pub ends_more : (es log history : List (Event M)) → EndsWith log history → EndsWith (es ++ log) history
  ends_more es log history s = record { more = es ++ s.more; is = ap (λ l. es ++ l) s.is ∙ sym (append_assoc es s.more history) }

  pub ends_all : (log : List (Event M)) → EndsWith log log
  ends_all log = record { more = []; is = refl }

module _ {E B : Type 0} (edited : E → B → B) (opening : LockId → Option B) where
  -- what a Free by another CPU does to a lock that this CPU is inside: nothing, since it is not of
  -- that lock
  inside_step : (c d : CpuId) (lock at : LockId) (mark : Mark E) (s t : ℕ) (log : List (Event (Mark E))) → IsLegalWords log
      → lock_phase d log ≡ Holding at s → lock_phase c log ≡ Holding lock t → same_cpu d c ≡ false
      → block_after edited opening lock (sections (Free d at mark ∷ log)) ≡ block_after edited opening lock (sections log)
  inside_step c d lock at mark s t log legal di ci other = go (same_lock lock at) refl
    where
      go : (b : Bool) → same_lock lock at ≡ b → block_after edited opening lock (sections (Free d at mark ∷ log))
          ≡ block_after edited opening lock (sections log)
      go true same = absurd (
          let here : lock_phase d log ≡ Holding lock s = rw (same_lock_true lock at same) di in
          let one : same_cpu d c ≡ true = eq-eqb d.0 c.0 (ap (λ x. x.0) (mutual_exclusion log legal d c lock s t here ci)) in cc)
      go false same = rw same refl

  -- while a CPU is inside, no other CPU edits the block
  pub inside_keeps : (c : CpuId) (lock : LockId) (t : ℕ) (more log : List (Event (Mark E))) → IsLegalWords (more ++ log) → AreOthers cpu_of_event c more
      → lock_phase c log ≡ Holding lock t → block_after edited opening lock (sections (more ++ log)) ≡ block_after edited opening lock (sections log)
  inside_keeps c lock t [] log legal h ci = refl
  inside_keeps c lock t (Draw d l k ∷ more) log legal h ci = inside_keeps c lock t more log legal.1 h.1 ci
  inside_keeps c lock t (Look d l k r ∷ more) log legal h ci = inside_keeps c lock t more log legal.1 h.1 ci
  inside_keeps c lock t (Free d l m ∷ more) log legal h ci =
      inside_step c d lock l m legal.0.0 t (more ++ log) legal.1 legal.0.1 (lock_phase_others c more log h.1 ∙ ci) h.0
      ∙ inside_keeps c lock t more log legal.1 h.1 ci
