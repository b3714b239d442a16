-- The worked runs meet the premises of the laws.
use Rattle.std.proofs.Common.{◌≡◌, ℕ, zero, suc, ◌<◌, ◌≤◌, false, List, [], ◌∷◌, slice_get, Some, None, refl, subst, arith}
use Rattle.event_log.specs.declared.{ids.{CpuId.CpuId, Tid.Tid, LockId.TheVariants.Pending, TheConstants.THREADS}, entries.Kind.TheVariants.Send as SendKind}
use Rattle.{event_log.specs.{Runs.Sends, Actions.phase}, layer_traits.specs.Polling.Plans.is_in_section, cpu.specs.Table.Blocks.OfPending}
use Rattle.cpu.specs.Table.{Setups.{SystemConfig, CpuLocal, home_cpu}, Worked.{thread, buffer_numbered, one_sender, two_sends}, Steps.{SystemState, IsReached}}
use Rattle.cpu.specs.{Table.Steps.{boots, steps_once, steps_by, system_step, cpu_numbered, whole_at_boot, block_at, halted_at}, Wakeups.Quiet.IsQuietBy}
use Rattle.cpu.specs.Wakeups.{Quiet.IsQuietTable, Met.{waiting_sender, at_send, PremisesAreMet}}

-- steps from a reached state
steps_reached : (setup : SystemConfig) (room : ℕ) (c : CpuId) → c.0 < setup.cpus → (n : ℕ) (s : SystemState)
    → IsReached setup room s → IsReached setup room (steps_by setup c n s)
steps_reached setup room c known zero s reached = reached
steps_reached setup room c known (suc n) s reached = steps_reached setup room c known n (system_step setup c s).next (steps_once c reached known)

only_cpu : (P : CpuId → Type 0) → P (cpu_numbered 0) → (c : CpuId) → c.0 < 1 → P c
only_cpu P first c below = let none : 0 ≡ c.0 = omega (arith, below) in subst (λ n. P (cpu_numbered n)) none first

abbrev first_of : List CpuLocal → CpuLocal
first_of [] = record { current = None; ready = []; hand = None; threads = []; trace = [] }
first_of (p ∷ cpus) = p

-- what holds of each CPU by its number
abbrev AllBy : (ℕ → CpuLocal → Type 0) → List CpuLocal → Type 0
AllBy P [] = Unit {0}
AllBy P (p ∷ cpus) = P 0 p × AllBy (λ n. P (suc n)) cpus

all_by : (P : ℕ → CpuLocal → Type 0) (cpus : List CpuLocal) → AllBy P cpus → (n : ℕ) (p : CpuLocal) → slice_get cpus n ≡ Some p → P n p
all_by P [] all n p is = absurd (cc is)
all_by P (q ∷ cpus) all zero p is = let same : q ≡ p = cc is in subst (P 0) same all.0
all_by P (q ∷ cpus) all (suc n) p is = all_by (λ m. P (suc m)) cpus all.1 n p is

quiet_cpu : (n : ℕ) (p : CpuLocal) → slice_get waiting_sender.cpus n ≡ Some p → IsQuietBy two_sends (cpu_numbered n) p (halted_at two_sends (cpu_numbered n) p)
quiet_cpu = all_by (λ n p. IsQuietBy two_sends (cpu_numbered n) p (halted_at two_sends (cpu_numbered n) p)) waiting_sender.cpus ((refl, refl, refl), tt)

is_quiet : IsQuietTable two_sends waiting_sender
is_quiet = record {
  outside = only_cpu (λ c. is_in_section (phase c waiting_sender.log) ≡ false) refl;
  cpus = λ c p is. quiet_cpu c.0 p is;
  pending = only_cpu (λ c. block_at two_sends (Pending c) waiting_sender.log ≡ Some (OfPending [])) refl;
}

one_home : (t : Tid) → t.0 < 1 → (home_cpu two_sends t).0 < 1
one_home t below = let none : 0 ≡ t.0 = omega (arith, below) in subst (λ n. (home_cpu two_sends (thread n)).0 < 1) none (omega arith)

few : 1 ≤ THREADS
few = omega arith

pub premises_are_met : PremisesAreMet
premises_are_met = record {
  quiet = (
    (few, one_home),
    steps_reached two_sends 1000 (cpu_numbered 0) (omega arith) 32 (whole_at_boot two_sends 1000) boots,
    is_quiet,
  );
  ready = (
    few,
    steps_reached one_sender 1000 (cpu_numbered 0) (omega arith) 2 (whole_at_boot one_sender 1000) boots,
    (
      first_of at_send.cpus,
      record {
        free = λ lock. refl;
        rests = refl;
        here = refl;
        runs = refl;
        outside = refl;
        goes = refl;
        asks = Sends;
        buffer = buffer_numbered 0;
        at_call = refl;
        block = _;
        is = refl;
        unowned = refl;
        effect = SendKind;
        of_call = refl;
        message = 7 ∷ [];
        allowed = (refl, omega arith);
        empty_line = refl;
      },
    ),
    omega arith,
  );
  after_18 = (refl, refl);
  after_21 = (refl, refl);
  after_15 = (refl, refl);
  close_after_18 = (refl, refl);
  closed_after_18 = (refl, refl);
}
