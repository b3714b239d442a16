-- The wake-up that is lost if a call signals only the other side: a concrete history.
use Rattle.std.specs.Prelude.{◌≡◌, ℕ, List, [], ◌∷◌, Some}
use Rattle.event_log.specs.{declared.ids.LockId.TheVariants.Buffer as AtBuffer, Messages.Message}
use Rattle.event_log.specs.Sections.{Section}
use Rattle.layer_traits.specs.declared.locked.Side.TheVariants.{Receivers, Senders}
use Rattle.cpu.specs.Table.Blocks.{Buffer, OfBuffer, Name, AcqQ, Enter, TryPut, TryTake, Shut}
use Rattle.cpu.specs.Table.{Blocks.{WaitOn, SigRecv, SigSend, RelQ}, Setups.SystemConfig}
use Rattle.cpu.specs.Table.{Steps.cpu_numbered, Worked.{thread, buffer_numbered, setup_of}}
use Rattle.cpu.specs.Wakeups.{Order.block_of, Lost.NoWakeUpIsLost}

-- three threads, the home of each the CPU of its number, and one buffer for two messages
abbrev pub three_threads : SystemConfig
three_threads = setup_of 3 (0 ∷ 1 ∷ 2 ∷ []) [] (2 ∷ []) 4

-- a section of a thread on the buffer
abbrev pub by : ℕ → Name → Section Name
by t name = record { cpu = cpu_numbered t; lock = AtBuffer (buffer_numbered 0); edit = name }

-- thread t finds nothing and waits; thread 2 sends a message; newest first
abbrev pub waiting_sections : ℕ → List (Section Name)
waiting_sections t =
    by t (WaitOn (thread t) Receivers) ∷ by t (TryTake (thread t))
    ∷ by t (Enter (thread t) Receivers) ∷ by t (AcqQ (thread t)) ∷ []

abbrev pub sender_sends : Message → List (Section Name)
sender_sends m =
    by 2 (RelQ (thread 2))
    ∷ by 2 (SigSend (thread 2))
    ∷ by 2 (SigRecv (thread 2))
    ∷ by 2 (TryPut (thread 2) m)
    ∷ by 2 (Enter (thread 2) Senders)
    ∷ by 2 (AcqQ (thread 2))
    ∷ []

-- the first receiver was woken, takes its message, and signals only the senders
abbrev pub receiver_signals_senders : List (Section Name)
receiver_signals_senders =
    by 0 (RelQ (thread 0)) ∷ by 0 (SigSend (thread 0)) ∷ by 0 (TryTake (thread 0))
    ∷ by 0 (AcqQ (thread 0)) ∷ []

abbrev pub in_visit : List (Section Name) → List (Section Name) → List (Section Name)
in_visit [] past = past
in_visit (s ∷ later) past = s ∷ in_visit later past

-- two receivers wait, two messages are sent, and the first receiver, the only one that was woken,
-- takes one of them
abbrev pub one_signal_log : List (Section Name)
one_signal_log =
    in_visit receiver_signals_senders
    (in_visit (sender_sends (8 ∷ []))
    (in_visit (sender_sends (7 ∷ [])) (in_visit (waiting_sections 1) (waiting_sections 0))))

-- then a message is left, no thread owns the lock, and the second receiver, the first of its line,
-- sleeps beside it
abbrev pub OneSignalLosesAWakeUp : Type 0
OneSignalLosesAWakeUp =
    (k : Buffer) × (block_of three_threads (AtBuffer (buffer_numbered 0)) one_signal_log
    ≡ Some (OfBuffer k)) × (NoWakeUpIsLost k → ⊥)

-- thread 2 closes the buffer
abbrev pub closer_closes : List (Section Name)
closer_closes =
    by 2 (RelQ (thread 2)) ∷ by 2 (SigSend (thread 2)) ∷ by 2 (SigRecv (thread 2))
    ∷ by 2 (Shut (thread 2)) ∷ by 2 (AcqQ (thread 2)) ∷ []

-- the first receiver was woken, finds the buffer closed, and signals no thread
abbrev pub receiver_signals_nobody : List (Section Name)
receiver_signals_nobody =
    by 0 (RelQ (thread 0)) ∷ by 0 (TryTake (thread 0)) ∷ by 0 (AcqQ (thread 0)) ∷ []

-- two receivers wait, the buffer is closed, and the first receiver, the only one that was woken,
-- reports that
abbrev pub silent_log : List (Section Name)
silent_log =
    in_visit receiver_signals_nobody
    (in_visit closer_closes (in_visit (waiting_sections 1) (waiting_sections 0)))

-- then no thread owns the lock, and the second receiver, the first of its line, sleeps beside a
-- closed buffer
abbrev pub SilentAnswerLosesAWakeUp : Type 0
SilentAnswerLosesAWakeUp =
    (k : Buffer) × (block_of three_threads (AtBuffer (buffer_numbered 0)) silent_log
    ≡ Some (OfBuffer k)) × (NoWakeUpIsLost k → ⊥)
