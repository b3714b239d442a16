-- What a CPU chooses to do leaves it in agreement.
use Rattle.std.proofs.{Common.{◌≡◌, ◌<◌, List, length, Some, None, refl, arith}, lemmas.{Bool.and_right, List.length-set}}
use Rattle.{event_log.specs.declared.ids.{CpuId.CpuId, Tid.Tid}, guest.specs.declared.instructions.Instruction.{Instruction, TheVariants.{Send, Recv, Close}}}
use Rattle.{guest.specs.{declared.instructions.Instruction.TheVariants.{Yield as YieldLine, Exit}, State.State}, thread_blocks.proofs.Members.same_tid_true}
use Rattle.layer_traits.{specs.{declared.call_states.Stage.TheVariants.Acquires, Threads.Places.Where}, proofs.CountLemmas.same_tid_sym}
use Rattle.cpu.specs.Table.{Setups.{SystemConfig, Call, CpuLocal, thread_at}, Choice.{Choice, Halts, Alone, Goes, new_call, with_call, with_state}}
use Rattle.cpu.{specs.Table.Choice.{begin_or_halt, at_instruction, at_ready, choice}, proofs.Wakeups.{Lists.refuted, PostsAndVisits.Visit, Agreement.Agrees}}
use Rattle.cpu.proofs.Wakeups.Agreement.{IsSettled, at_same, at_other, same_with, agrees_same, runs_at_home, local_within}

-- the state that is chosen is so
abbrev pub OfChoice : (CpuLocal → Type 0) → Choice → Type 0
OfChoice Q (Halts reason) = Unit {0}
OfChoice Q (Alone q) = Q q
OfChoice Q (Goes q) = Q q

-- it agrees
abbrev pub ChoiceOk : SystemConfig → CpuId → (Tid → Visit) → (Tid → Where) → Choice → Type 0
ChoiceOk setup c T P = OfChoice (λ q. Agrees setup c q T P × IsSettled setup c q)

module _ (setup : SystemConfig) (c : CpuId) (p : CpuLocal) (T : Tid → Visit) (P : Tid → Where)
    (agrees : Agrees setup c p T P) (settled_before : IsSettled setup c p) where
  switches : (list : List Tid) → p.ready ≡ list → p.current ≡ None → p.hand ≡ None → ChoiceOk setup c T P (at_ready p list)
  switches list is idle empty = grind (arith, same_tid_sym, refuted)

  module _ (t : Tid) (empty : p.hand ≡ None) (runs_now : p.current ≡ Some t) (outside : (thread_at p t).call ≡ None) where
    known : t.0 < length p.threads
    known = local_within setup c p T P agrees t (runs_at_home setup c p T P agrees t runs_now).0

    computes : (guest : State) → Agrees setup c (with_state p t guest) T P × IsSettled setup c (with_state p t guest)
    computes guest = grind (arith, agrees_same, same_with, known, runs_at_home, at_same, refuted, same_tid_true, at_other)

    calls_now : (call : Call) → call.stage ≡ Acquires → Agrees setup c (with_call p t (Some call)) T P × IsSettled setup c (with_call p t (Some call))
    calls_now call first = grind (arith, agrees_same, same_with, known, runs_at_home, at_same, same_tid_true, refuted, at_other)

    begun : (call : Call) → call.stage ≡ Acquires → ChoiceOk setup c T P (begin_or_halt setup c p t call)
    begun call first = grind (arith, calls_now call first)

    instructed : (line : Instruction) → ChoiceOk setup c T P (at_instruction setup c p t line)
    instructed (Send b r k) = begun (new_call _ b _) refl
    instructed (Recv b r k) = begun (new_call _ b _) refl
    instructed (Close b) = begun (new_call _ b _) refl
    instructed YieldLine = (agrees, settled_before)
    instructed Exit = grind (arith, length-set, runs_at_home, same_tid_true, at_same, known, at_other, and_right)
    instructed line = computes _

  pub choice_ok : ChoiceOk setup c T P (choice setup c p)
  choice_ok = grind (arith, switches, instructed)
