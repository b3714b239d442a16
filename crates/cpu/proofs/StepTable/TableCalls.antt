-- The clauses of a CPU's calls on the table, from those of the layer: its part reports its threads
-- and its call states.
use Rattle.std.proofs.{Common.{◌≡◌, ◌<◌, ℕ, false, List, slice_get, Option, Some, None, IsSome, option_map, ap, sym, ◌∙◌, subst, arith}, lemmas.Bool.lt-ltb}
use Rattle.cpu.proofs.{Tower.{Polls.{halts_exactly, look_is_step}, KeptByPasses.boots_part}, CpuSteps.CpuStates.{TabledCpu, Outset}}
use Rattle.cpu.{proofs.StepTable.TableRows.halted_same, specs.{declared.guests.Guest.Guest, Guests.is_ended, Cpus.{cpu_halted_at, reason_in, step_answer}}}
use Rattle.cpu.specs.{Boots.AreGuests, Table.{Setups.SystemConfig, Steps.cpu_step}, Tower.Views.{TowerBlock, TowerName, name_of, tower, view}}
use Rattle.cpu.specs.{Tower.Composed.{OpensAs, named}, Tables.{IsSetupOf, IsTabled, WentByTable, bare, cpu_local}}
use Rattle.layer_traits.specs.{Views.OwnParts.threads_in, declared.{calls.{Call.Call, Reply.Reply}, steps.Step.TheVariants.Stepped}, Polling.Looks.Tries}
use Rattle.layer_traits.specs.{Polling.Plans.{Follows, is_in_section}, Layers.{BufferLaw.{Buffering, buffer_of, buffering_at_start, fifo_plan}, IpcLaw.OpensSo}}
use Rattle.layer_traits.{specs.{Layers.IpcLaw.ipc_plan, Threads.Places.{AreMoves, Stands, Step, Threads}}, proofs.PlaceLemmas.away_known}
use Rattle.event_log.specs.declared.{entries.Entry.Entry, ids.{CpuId.CpuId, LockId.{LockId, TheVariants.{Pending, Buffer as AtBuffer}}, Tid.Tid}}
use Rattle.{event_log.{specs.Actions.Action, proofs.Renaming.phase_renamed}, thread_blocks.proofs.Members.same_tid_self}

-- a thread in the hand has a home
pub hand_known : (homes : List CpuId) (c : CpuId) (moves : List Step) (local : Threads) → Stands homes c moves local → AreMoves homes moves
    → (u : Tid) → local.hand ≡ Some u → IsSome (slice_get homes u.0)
hand_known homes c moves local stands lawful u has = grind (arith, away_known, same_tid_self)

-- also if another machine has the same homes
pub hand_preserved : (homes now : List CpuId) (c : CpuId) (moves : List Step) (local : Threads) → now ≡ homes → Stands now c moves local → AreMoves now moves
    → (u : Tid) → local.hand ≡ Some u → IsSome (slice_get homes u.0)
hand_preserved homes now c moves local same stands lawful u has = subst (λ h. IsSome (slice_get h u.0)) same (hand_known now c moves local stands lawful u has)

-- a poll of a call that found its buffer does what the layer of buffers does
pub fifo_follows : (ActsFor : CpuId → Type 0) (opening : LockId → Option TowerBlock) (homes : List CpuId) (buffers : ℕ) (part_of number : CpuId) (t : Tid)
    (c : Call) (local own2 : Buffering) (old new : List (Action TowerName)) (result : Option Reply) → part_of ≡ number → (buffer_of c).0 < buffers
    → Follows ActsFor tower opening part_of (ipc_plan buffers homes part_of t c local) old new (record { local = own2; answer = result })
    → Follows ActsFor tower opening number (fifo_plan homes number t c local) old new (record { local = own2; answer = result })
fifo_follows ActsFor opening homes buffers part_of number t c local own2 old new result same within follows = grind (arith, lt-ltb)

-- the result of the table's step, given the CPU's reason to take none
pub answers_step : (cpu : TabledCpu) (ActsFor : CpuId → Type 0) (old : List (Action TowerName)) (outset : Outset ActsFor cpu old) (setup : SystemConfig)
    → IsSetupOf setup cpu.homes cpu.caps cpu.guests cpu.limit
    → (cpu_step setup cpu.number (cpu_local cpu.local cpu.guests cpu.trace) (named old)).answer
    ≡ step_answer (reason_in outset.inside (cpu_halted_at (threads_in cpu.local) cpu.guests cpu.trace cpu.limit))
answers_step cpu ActsFor old outset setup of =
    grind (arith, outset.busy ∙ sym (ap is_in_section (phase_renamed name_of cpu.number old)), halted_same cpu setup of, halts_exactly)

-- a poll of a lock
pub looked_steps : (ActsFor : CpuId → Type 0) (homes : List CpuId) (caps : List ℕ) (cpu number : CpuId) (limit : ℕ) (local own2 : Buffering)
    (guests : List (Option Guest)) (trace : List Entry) (old new : List (Action TowerName)) → cpu ≡ number → own2 ≡ local → Tries ActsFor cpu old new
    → WentByTable ActsFor homes caps number limit local own2 guests guests trace trace old new Stepped
looked_steps ActsFor homes caps cpu number limit local own2 guests trace old new cpu_is same tries setup of =
    rw same (look_is_step ActsFor setup number (cpu_local local guests trace) old new (subst (λ d. Tries ActsFor d old new) cpu_is tries))

-- At boot.

pub opens_so : (homes : List CpuId) (caps : List ℕ) (number : CpuId) (opening : LockId → Option TowerBlock) → OpensSo caps homes number opening
    → OpensAs (bare homes caps) number opening
opens_so homes caps number opening opens (AtBuffer b) asked = ap (option_map view) (opens.buffers b) ∙ (grind arith)
opens_so homes caps number opening opens (Pending d) asked = ap (option_map view) (opens.queues d asked).1

pub boots_tabled : (homes : List CpuId) (caps : List ℕ) (number : CpuId) (guests : List (Option Guest)) (buffers : ℕ) (opening : LockId → Option TowerBlock)
    → AreGuests homes buffers number guests → OpensSo caps homes number opening
    → IsTabled homes caps number (buffering_at_start homes number) None guests opening
boots_tabled homes caps number guests buffers opening are opens = record {
  part = boots_part homes number;
  opens = opens_so homes caps number opening opens;
  only = are.only;
  ends = λ t g at over. let new : is_ended g.stage ≡ false = ap (λ (x : Guest). is_ended x.stage) (are.fresh t g at) in absurd (cc (over, new));
  size = are.size;
  quick = λ p does local_is. absurd (cc does);
}
