-- Facts of the private states only: a thread that has ended is inside no call, and a call that has
-- not taken effect is what its thread asks for next.
use Rattle.std.proofs.Common.{◌≡◌, ℕ, ◌<◌, ◌≤◌, Bool, true, false, List, ◌∷◌, length, map, get_or, ◌⊎◌, inl, inr, suc, Option, Some, None, refl, sym, subst}
use Rattle.std.proofs.{Common.arith, lemmas.{Bool.cases_lt, List.set_past}}
use Rattle.event_log.specs.{declared.ids.{CpuId.CpuId, Tid.Tid}, Actions.Action, Runs.{Group, Closes}}
use Rattle.{guest.specs.{declared.instructions.Instruction.Instruction, State.{State, next_of}}, thread_blocks.proofs.Members.same_tid_true}
use Rattle.layer_traits.specs.declared.call_states.Stage.{Stage, TheVariants.{Idle, Tries, Waits, AcquiresAgain, Signals, SignalsOwn, Releases}}
use Rattle.cpu.specs.Table.{Blocks.{Name, Answer}, Steps.acting, Setups.{SystemConfig, Call, Thread, CpuLocal, new_thread, thread_at, with_thread, program_of}}
use Rattle.cpu.specs.Table.{Setups.{stands_at, boot_of}, Choice.{Choice, with_call, begin_or_halt, at_instruction, choice, with_told, slept_if, woken, settled}}
use Rattle.cpu.{specs.{Table.Choice.{after_by, after_at, after_in, after_section}, Wakeups.Quiet.IsNextEffect}, proofs.Wakeups.Lists.refuted}
use Rattle.cpu.proofs.Wakeups.{Agreement.{at_same, at_other}, ChosenSteps.OfChoice}

abbrev pub is_before : Stage → Bool
is_before Signals = false
is_before SignalsOwn = false
is_before Releases = false
is_before Idle = false
is_before stage = true

-- what a call that has a line asks for
abbrev pub HasLine : Group → Type 0
HasLine Closes = ⊥
HasLine asks = Unit {0}

-- only a call that has a line tries and waits
abbrev pub FitsGroup : Group → Stage → Type 0
FitsGroup asks Tries = HasLine asks
FitsGroup asks Waits = HasLine asks
FitsGroup asks AcquiresAgain = HasLine asks
FitsGroup asks stage = Unit {0}

-- what a call says before its effect
abbrev pub SaysCall : List Instruction → State → Call → Type 0
SaysCall program guest call = is_before call.stage ≡ true
    → (call.effect ≡ None) × IsNextEffect (next_of program guest) guest call.asks call.buffer call.message × FitsGroup call.asks call.stage

abbrev pub Says : List Instruction → State → Option Call → Type 0
Says program guest None = Unit {0}
Says program guest (Some call) = SaysCall program guest call

pub record Fine (setup : SystemConfig) (u : Tid) (x : Thread) : Type 0 where
  pub quits : x.ended ≡ true → x.call ≡ None
  pub says : Says (program_of setup u) x.guest x.call

abbrev pub AllFine : SystemConfig → CpuLocal → Type 0
AllFine setup p = (u : Tid) → Fine setup u (thread_at p u)

pub all_new : {A : Type 0} (homes : List A) (i : ℕ) → get_or (map (λ home. new_thread) homes) i new_thread ≡ new_thread
all_new (home ∷ homes) (suc i) = all_new homes i
all_new homes i = refl

pub fine_at_boot : (setup : SystemConfig) (c : CpuId) → AllFine setup (boot_of setup c)
fine_at_boot setup c u = subst (Fine setup u) (sym (all_new setup.homes u.0)) (record { quits = λ e. refl; says = tt })

fine_with : (setup : SystemConfig) (p : CpuLocal) (t : Tid) (x : Thread) → t.0 < length p.threads → AllFine setup p → Fine setup t x
    → AllFine setup (with_thread p t x)
fine_with setup p t x known fine now u = grind (arith, same_tid_true, at_same, at_other)

module _ (setup : SystemConfig) (c : CpuId) where
  -- a thread inside a call, and what its call becomes
  fine_call : (p : CpuLocal) (t : Tid) (call now : Call) → t.0 < length p.threads → AllFine setup p → (thread_at p t).call ≡ Some call
      → (SaysCall (program_of setup t) (thread_at p t).guest call → SaysCall (program_of setup t) (thread_at p t).guest now)
      → AllFine setup (with_call p t (Some now))
  fine_call p t call now known fine is says =
      fine_with setup p t (record (thread_at p t) { call = Some now }) known fine (record {
        quits = λ e. absurd (cc (is, (fine t).quits e));
        says = says (subst (Says (program_of setup t) (thread_at p t).guest) is (fine t).says);
      })

  fine_slept : (slept : Bool) (p : CpuLocal) → AllFine setup p → AllFine setup (slept_if slept p)
  fine_slept slept p fine = grind arith

  -- if a thread's number is past the list, nothing is set
  fine_set : (p : CpuLocal) (t : Tid) (x : Thread) → AllFine setup p → Fine setup t x → AllFine setup (with_thread p t x)
  fine_set p t x fine now = by_place (cases_lt t.0 (length p.threads))
    where
      by_place : (t.0 < length p.threads) ⊎ (length p.threads ≤ t.0) → AllFine setup (with_thread p t x)
      by_place (inl known) = fine_with setup p t x known fine now
      by_place (inr beyond) = λ u. subst (λ threads. Fine setup u (get_or threads u.0 new_thread)) (sym (set_past p.threads t.0 x beyond)) (fine u)

  fine_settled : (p : CpuLocal) → AllFine setup p → AllFine setup (settled setup p)
  fine_settled p fine = grind (arith, fine_set)

  -- after a section; the running thread is one of this list
  fine_section : (p : CpuLocal) → AllFine setup p → ((t : Tid) → p.current ≡ Some t → t.0 < length p.threads)
      → (a : Answer) → AllFine setup (after_section setup c p a)
  fine_section p fine known a = by_hand p.hand
    where
      by_call : (t : Tid) → p.current ≡ Some t → (call : Option Call) → (thread_at p t).call ≡ call → AllFine setup (after_by setup c p t call a)
      by_call t runs_now None is = grind (arith, fine_set)
      by_call t runs_now (Some call) is =
          fine_settled (woken setup c a.woke (slept_if a.slept (with_told c p t call call.stage a.told)))
          (grind (arith, fine_slept a.slept (with_told c p t call call.stage a.told) (grind (arith, fine_call, known t runs_now, fine, is))))

      by_current : (current : Option Tid) → p.current ≡ current → AllFine setup (after_at setup c p current a)
      by_current current idle = grind (arith, by_call)

      by_hand : (hand : Option Tid) → AllFine setup (after_in setup c p hand a)
      by_hand (Some s) = fine_settled (record p { hand = None }) fine
      by_hand None = by_current p.current refl

  -- The choice.

  abbrev pub FineChoice : Choice → Type 0
  FineChoice = OfChoice (AllFine setup)

  module _ (p : CpuLocal) (fine : AllFine setup p) (alive : (t : Tid) → p.current ≡ Some t → (thread_at p t).ended ≡ false) where
    fine_begins : (t : Tid) → p.current ≡ Some t → (call : Call) → call.effect ≡ None
        → IsNextEffect (stands_at setup p t) (thread_at p t).guest call.asks call.buffer call.message → FitsGroup call.asks call.stage
        → FineChoice (begin_or_halt setup c p t call)
    fine_begins t runs_now call new next coupled = grind (arith, fine_set, alive, refuted)

    fine_instruction : (t : Tid) → p.current ≡ Some t → (thread_at p t).call ≡ None → (line : Instruction)
        → stands_at setup p t ≡ line → FineChoice (at_instruction setup c p t line)
    fine_instruction t runs_now outside line at = grind (arith, fine_begins, fine_set, outside)

    pub fine_choice : FineChoice (choice setup c p)
    fine_choice = grind (arith, fine_instruction)

  pub fine_acting : (p : CpuLocal) → AllFine setup p → ((t : Tid) → p.current ≡ Some t → t.0 < length p.threads)
      → (log : List (Action Name)) → AllFine setup (acting setup c p log).next
  fine_acting p fine known log = grind (arith, fine_section)
