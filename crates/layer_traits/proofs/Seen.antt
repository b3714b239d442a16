-- What a CPU knows of a history that environment events lengthen: where it is, its block, and that
-- its section stays allowed.
use Rattle.std.proofs.Common.{◌≡◌, List, [], ◌∷◌, ◌++◌, sym, subst, append_assoc}
use Rattle.event_log.specs.{declared.{ids.CpuId.CpuId, events.Event.{Event, TheVariants.{Draw, Look, Free}}}, History.{IsLawful, AreOthers}}
use Rattle.event_log.{specs.{WordsLog.cpu_of_event, Sections.{Section, cpu_of_section}}, proofs.Foreign.{sections_of-append, others_sections_of}}
use Rattle.layer_traits.specs.{declared.edits.Mark.Mark, Protocols.{Protocol.StaysAllowed, WordsProtocol.{MayCome, edit_of, sections}}}
pub use Rattle.{event_log.proofs.Foreign.{lawful_before as lawful_rest, lock_phase_others}, layer_traits.specs.Protocols.WordsProtocol.words_legal}

pub sections-append : {E : Type 0} (more log : List (Event (Mark E))) → sections (more ++ log) ≡ sections more ++ sections log
sections-append more log = sections_of-append edit_of more log

-- the sections of others' events are others' sections
pub others_sections : {E : Type 0} (cpu : CpuId) (more : List (Event (Mark E))) → AreOthers cpu_of_event cpu more → AreOthers cpu_of_section cpu (sections more)
others_sections cpu more others = others_sections_of edit_of cpu more others

module _ {E : Type 0} (Allowed : List (Section E) → Section E → Type 0) where
  -- the sections of a log that keeps the protocol are each allowed
  pub sections_allowed : (log : List (Event (Mark E))) → IsLawful (MayCome Allowed) log → IsLawful Allowed (sections log)
  sections_allowed [] h = tt
  sections_allowed (Draw cpu lock ticket ∷ past) h = sections_allowed past h.1
  sections_allowed (Look cpu lock ticket read ∷ past) h = sections_allowed past h.1
  sections_allowed (Free cpu lock mark ∷ past) h = (h.0.1, sections_allowed past h.1)

  -- a section that stays allowed does so after sections of others
  pub stays_on : (more past : List (Section E)) (s : Section E) → AreOthers cpu_of_section s.cpu more
      → StaysAllowed Allowed past s → StaysAllowed Allowed (more ++ past) s
  stays_on more past s others stays = λ later theirs lawful.
      let joined : (later ++ more) ++ past ≡ later ++ (more ++ past) = append_assoc later more past in
      subst (λ l. Allowed l s) joined (stays (later ++ more) (both later theirs) (subst (λ l. IsLawful Allowed l) (sym joined) lawful))
    where
      both : (later : List (Section E)) → AreOthers cpu_of_section s.cpu later → AreOthers cpu_of_section s.cpu (later ++ more)
      both [] theirs = others
      both (x ∷ later) theirs = (theirs.0, both later theirs.1)
