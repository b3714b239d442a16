-- A worked run of messages of several words, a fact by computation.
use Rattle.std.specs.Prelude.{◌≡◌, true, [], ◌∷◌, Some, None}
use Rattle.event_log.specs.declared.entries.Kind.TheVariants.{Send as SendKind, Recv as RecvKind}
use Rattle.layer_traits.specs.declared.steps.Reason.TheVariants.{AllEnded}
use Rattle.guest.specs.declared.instructions.{Target.TheVariants.All, Register.TheVariants.Reg0}
use Rattle.guest.specs.declared.instructions.Register.TheVariants.{Reg1, Reg2}
use Rattle.guest.specs.declared.instructions.{Source.TheVariants.First, Instruction.TheVariants.Set}
use Rattle.guest.specs.declared.instructions.Instruction.TheVariants.{Send, Recv}
use Rattle.cpu.specs.Table.{Setups.SystemConfig, Worked.{buffer_numbered, of, reached, traces}}
use Rattle.cpu.specs.Table.Worked.{endings, reason, at_buffer_0, leaves, as_entry, setup_of}
use Rattle.cpu.specs.Table.Worked.{send_from}

-- one thread that sends its first two registers, receives the message into all of them, and sends
-- the third
abbrev pub words_alone : SystemConfig
words_alone = setup_of 1 (0 ∷ [])
    ((Set Reg0 1 ∷ Set Reg1 2 ∷ Send (buffer_numbered 0) (First 2) None ∷ Set Reg2 9
    ∷ Recv (buffer_numbered 0) All None ∷ send_from Reg2 ∷ []) ∷ [])
    (1 ∷ []) 4

pub record RunsOfWords : Type 0 where
  -- a message of two words is received whole, and the registers after its words are 0 then:
  -- therefore the number of the third register is lost
  pub served : (traces (reached words_alone (of 0 59 ∷ []))
      ≡ (as_entry 0 0 SendKind 0 (1 ∷ 2 ∷ []) 0 0 ∷ as_entry 0 0 RecvKind 0 (1 ∷ 2 ∷ []) 1 0
      ∷ as_entry 0 0 SendKind 0 (0 ∷ []) 2 1 ∷ []) ∷ [])
      × (at_buffer_0 words_alone (reached words_alone (of 0 59 ∷ [])) ≡ leaves ((0 ∷ []) ∷ []))
      × (endings (reached words_alone (of 0 59 ∷ [])) ≡ (true ∷ []) ∷ [])
      × (reason words_alone 0 (reached words_alone (of 0 59 ∷ [])) ≡ Some AllEnded)
