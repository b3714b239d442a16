-- The sections of a words log are those of its actions.
use Rattle.std.proofs.Common.{◌≡◌, List, sym}
use Rattle.event_log.{specs.{declared.events.Event.Event, Actions.acts_of, Sections.sections_in}, proofs.Foreign.sections_acts as acts_sections}
use Rattle.layer_traits.specs.{declared.edits.Mark.Mark, Protocols.WordsProtocol.{edit_of, sections}}

pub sections_acts : {E : Type 0} (log : List (Event (Mark E))) → sections log ≡ sections_in (acts_of edit_of log)
sections_acts log = sym (acts_sections edit_of log)
