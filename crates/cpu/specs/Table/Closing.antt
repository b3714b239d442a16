-- Worked runs of systems whose buffer is closed, each a fact by computation.
use Rattle.std.specs.Prelude.{◌≡◌, true, false, List, [], ◌∷◌, Some}
use Rattle.event_log.specs.declared.entries.Kind.TheVariants.{Send as SendKind, Recv as RecvKind}
use Rattle.event_log.specs.declared.entries.Kind.TheVariants.{Close as CloseKind, SendClosed}
use Rattle.event_log.specs.{declared.entries.Kind.TheVariants.RecvClosed, Messages.no_message}
use Rattle.layer_traits.specs.declared.steps.Reason.TheVariants.{AllEnded}
use Rattle.guest.specs.declared.instructions.Instruction.{Instruction, TheVariants.{Set, Recv}}
use Rattle.guest.specs.declared.instructions.Instruction.TheVariants.{Close}
use Rattle.guest.specs.declared.instructions.Target.TheVariants.{One as ToOne}
use Rattle.guest.specs.declared.instructions.Register.TheVariants.{Reg0, Reg1}
use Rattle.cpu.specs.Table.{Setups.SystemConfig, Worked.{buffer_numbered, Burst, of, reached}}
use Rattle.cpu.specs.Table.Worked.{traces, endings, reason, at_buffer_0, leaves, as_entry, setup_of}
use Rattle.cpu.specs.Table.Worked.{send_from, receive_into, receives_one}

abbrev pub closes_one : List Instruction
closes_one = Close (buffer_numbered 0) ∷ []

-- a receiver on CPU 0, and on CPU 1 a thread that closes the buffer
abbrev pub closed_apart : SystemConfig
closed_apart = setup_of 2 (0 ∷ 1 ∷ []) (receives_one ∷ closes_one ∷ []) (1 ∷ []) 4

-- one thread that sends, closes, sends again, and receives twice
abbrev pub closed_alone : SystemConfig
closed_alone = setup_of 1 (0 ∷ [])
    ((Set Reg0 7 ∷ send_from Reg0 ∷ Close (buffer_numbered 0) ∷ send_from Reg0 ∷ receive_into Reg1
    ∷ receive_into Reg1 ∷ []) ∷ []) (1 ∷ []) 8

-- two receivers on one CPU, and a thread that closes their buffer
abbrev pub closed_on_two : SystemConfig
closed_on_two =
    setup_of 1 (0 ∷ 0 ∷ 0 ∷ []) (receives_one ∷ receives_one ∷ closes_one ∷ []) (1 ∷ []) 8

-- one thread that closes a buffer, and whose receive continues at a send two lines below
abbrev pub closed_aside : SystemConfig
closed_aside = setup_of 1 (0 ∷ [])
    ((Set Reg0 7 ∷ Close (buffer_numbered 0) ∷ Recv (buffer_numbered 0) (ToOne Reg0) (Some 4)
    ∷ Set Reg0 9 ∷ send_from Reg0 ∷ []) ∷ [])
    (1 ∷ []) 8

abbrev pub apart : List Burst
apart = of 0 13 ∷ of 1 20 ∷ of 0 20 ∷ []

pub record ClosingRuns : Type 0 where
  -- the close wakes the receiver, which finds the buffer closed and empty
  pub woken : (traces (reached closed_apart apart)
      ≡ (as_entry 0 0 RecvClosed 0 no_message 1 0 ∷ [])
      ∷ (as_entry 1 1 CloseKind 0 no_message 0 0 ∷ []) ∷ [])
      × (at_buffer_0 closed_apart (reached closed_apart apart) ≡ leaves [])
      × (endings (reached closed_apart apart) ≡ (true ∷ false ∷ []) ∷ (false ∷ true ∷ []) ∷ [])
  -- a send finds the buffer closed; a receive takes the message that is left; the next one finds it
  -- closed and empty
  pub served : (traces (reached closed_alone (of 0 90 ∷ []))
      ≡ (as_entry 0 0 SendKind 0 (7 ∷ []) 0 0 ∷ as_entry 0 0 CloseKind 0 no_message 1 0
      ∷ as_entry 0 0 SendClosed 0 (7 ∷ []) 2 1
      ∷ as_entry 0 0 RecvKind 0 (7 ∷ []) 3 0 ∷ as_entry 0 0 RecvClosed 0 no_message 4 1 ∷ []) ∷ [])
      × (at_buffer_0 closed_alone (reached closed_alone (of 0 90 ∷ [])) ≡ leaves [])
      × (endings (reached closed_alone (of 0 90 ∷ [])) ≡ (true ∷ []) ∷ [])
  -- the first receiver, whom the close woke, wakes the second
  pub both_woken : (traces (reached closed_on_two (of 0 77 ∷ []))
      ≡ (as_entry 0 2 CloseKind 0 no_message 0 0 ∷ as_entry 0 0 RecvClosed 0 no_message 1 0
      ∷ as_entry 0 1 RecvClosed 0 no_message 2 1 ∷ []) ∷ [])
      × (at_buffer_0 closed_on_two (reached closed_on_two (of 0 77 ∷ [])) ≡ leaves [])
      × (endings (reached closed_on_two (of 0 77 ∷ [])) ≡ (true ∷ true ∷ true ∷ []) ∷ [])
      × (reason closed_on_two 0 (reached closed_on_two (of 0 77 ∷ [])) ≡ Some AllEnded)
  -- a call that finds its buffer closed continues at its target, and its registers stay
  pub aside : (traces (reached closed_aside (of 0 60 ∷ []))
      ≡ (as_entry 0 0 CloseKind 0 no_message 0 0 ∷ as_entry 0 0 RecvClosed 0 no_message 1 0
      ∷ as_entry 0 0 SendClosed 0 (7 ∷ []) 2 0 ∷ []) ∷ [])
      × (endings (reached closed_aside (of 0 60 ∷ [])) ≡ (true ∷ []) ∷ [])
