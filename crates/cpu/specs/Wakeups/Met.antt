-- The premises of the laws on quiescent systems and on uncontended calls are met, by states of the
-- worked runs.
use Rattle.std.specs.Prelude.{◌≡◌, ◌+◌, ◌≤◌, [], ◌∷◌, Some, None, option_map}
use Rattle.layer_traits.specs.declared.call_states.Stage.TheVariants.{Releases}
use Rattle.cpu.specs.Table.{Setups.CpuLocal, Steps.{SystemState, IsReached, cpu_numbered}}
use Rattle.cpu.specs.Table.{Closing.{closed_apart, closed_aside}, Worked.{thread, of, reached}}
use Rattle.cpu.specs.{Table.Worked.{one_sender, two_sends, two_cpus, call_of}, Wakeups.Quiet.AreFew}
use Rattle.cpu.specs.Wakeups.{Quiet.{HomesExist, IsQuietTable}, Alone.IsReady}

-- one thread that waits to send into a full buffer; its quiescent state
abbrev pub waiting_sender : SystemState
waiting_sender = reached two_sends (of 0 32 ∷ [])

-- one thread that is at its send
abbrev pub at_send : SystemState
at_send = reached one_sender (of 0 2 ∷ [])

pub record PremisesAreMet : Type 0 where
  -- a quiescent state is reached
  pub quiet : HomesExist two_sends × IsReached two_sends 1000 waiting_sender
      × IsQuietTable two_sends waiting_sender
  -- a state is reached at which a call is ready, with room for it
  pub ready : AreFew one_sender × IsReached one_sender 1000 at_send
      × ((p : CpuLocal) × IsReady one_sender (cpu_numbered 0) at_send p (thread 0))
      × (at_send.taken + 21 ≤ at_send.room)
  -- that call is under way after 17 steps and has returned after 18
  pub after_18 : (option_map (λ call. call.stage) (call_of 0 0 (reached one_sender (of 0 19 ∷ [])))
      ≡ Some Releases)
      × (call_of 0 0 (reached one_sender (of 0 20 ∷ [])) ≡ None)
  -- one that wakes a thread of another CPU is under way after 20 steps and has returned after 21
  pub after_21 : (option_map (λ call. call.stage)
      (call_of 1 1 (reached two_cpus (of 0 13 ∷ of 1 22 ∷ []))) ≡ Some Releases)
      × (call_of 1 1 (reached two_cpus (of 0 13 ∷ of 1 23 ∷ [])) ≡ None)
  -- a close is under way after 14 steps and has returned after 15; one that wakes a thread of
  -- another CPU after 17, and after 18
  pub after_15 : (option_map (λ call. call.stage)
      (call_of 1 1 (reached closed_apart (of 1 15 ∷ []))) ≡ Some Releases)
      × (call_of 1 1 (reached closed_apart (of 1 16 ∷ [])) ≡ None)
  pub close_after_18 : (option_map (λ call. call.stage)
      (call_of 1 1 (reached closed_apart (of 0 13 ∷ of 1 18 ∷ []))) ≡ Some Releases)
      × (call_of 1 1 (reached closed_apart (of 0 13 ∷ of 1 19 ∷ [])) ≡ None)
  -- a receive that finds its buffer closed is under way after 17 steps and has returned after 18
  pub closed_after_18 : (option_map (λ call. call.stage)
      (call_of 0 0 (reached closed_aside (of 0 34 ∷ []))) ≡ Some Releases)
      × (call_of 0 0 (reached closed_aside (of 0 35 ∷ [])) ≡ None)
