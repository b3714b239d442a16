-- A whole section of a whole machine: the section itself and, if it woke a thread of another CPU
-- while its caller continues, the forwarding of that thread to its home CPU.
use Rattle.std.specs.Prelude.{◌≡◌, ◌⊎◌, true, false, List, ◌∷◌, Some, None}
use Rattle.event_log.specs.declared.ids.{BufId.BufId, CpuId.CpuId, Tid.Tid}
use Rattle.layer_traits.specs.declared.queues.QueueCall.TheVariants.{Push, OnBuffer}
use Rattle.layer_traits.specs.declared.{queues.QueueEvent.QueueEvent, sleeps.Outcome.Outcome}
use Rattle.layer_traits.specs.Threads.{Passes.{passed_on, queue_for}, Places.Threads}
use Rattle.layer_traits.specs.Layers.{Queues.{Kernel, event, out_at}, Scheds.own_answered}
use Rattle.layer_traits.specs.Layers.SleepLaw.{Sleeping, must_send}

-- a machine of which one poll is one call, and not one action
abbrev pub IsCoarse : Type 0 → Type 0 → Type 0
IsCoarse IsWhole IsStepwise = IsWhole × (IsStepwise → ⊥)

-- a section that is requested of a machine: on what, by which CPU, at which buffer, and the edit
pub record Asked (E B O : Type 0) : Type 1 where
  pub kernel : Kernel E B (Outcome O)
  pub cpu : CpuId
  pub buffer : BufId
  pub edit : E

abbrev pub asked_edit : {E B O : Type 0} → Kernel E B (Outcome O) → CpuId → BufId → E → Asked E B O
asked_edit kernel cpu buffer edit =
    record { kernel = kernel; cpu = cpu; buffer = buffer; edit = edit }

module _ {E B O : Type 0} (s : Asked E B O) (old new : List (QueueEvent E)) (local : Threads)
    (left : Sleeping O) (outcome : Outcome O) where
  -- the CPU's scheduling state after the section
  abbrev pub own_done : Threads
  own_done = own_answered s.kernel.moves s.kernel.homes s.cpu (Some outcome) local

  -- the section was done, and no thread had to be forwarded
  pub record DoneAlone : Type 0 where
    pub out : out_at s.kernel old s.buffer s.edit ≡ Some outcome
    pub stays : must_send outcome own_done ≡ false
    pub history : new ≡ event s.cpu (OnBuffer s.buffer s.edit) ∷ old
    pub leaves : left ≡ record { threads = own_done; deferred = None }

  -- the section was done, and then the thread that it woke was forwarded to its home CPU
  pub record DoneSending : Type 0 where
    pub out : out_at s.kernel old s.buffer s.edit ≡ Some outcome
    pub sends : must_send outcome own_done ≡ true
    pub woken : Tid
    pub hand : own_done.hand ≡ Some woken
    pub history : new ≡ event s.cpu (Push (queue_for s.kernel.homes s.cpu woken) woken)
        ∷ event s.cpu (OnBuffer s.buffer s.edit) ∷ old
    pub leaves : left ≡ record { threads = passed_on own_done; deferred = None }

  -- one of the two
  abbrev pub IsDoneWhole : Type 0
  IsDoneWhole = DoneAlone ⊎ DoneSending
