-- The states of all threads in a part stay allowed under the passes (scheduling operations), and
-- are so at boot.
use Rattle.std.proofs.{Common.{◌≡◌, ℕ, zero, suc, List, length, replicate, Option, Some, None, refl, sym, ◌∙◌, arith}, lemmas.Bool.{cases_eq, ne_eqb}}
use Rattle.layer_traits.specs.{Views.OwnParts.threads_in, declared.{calls.Effect.Effect, passes.Pass.Pass, call_states.Stage.Stage}, Threads.Passes.pass_after}
use Rattle.{layer_traits.specs.{Threads.Places.Threads, Layers.BufferLaw.{Buffering, buffering_at_start, no_call}}, event_log.specs.declared.ids.BufId.BufId}
use Rattle.{event_log.{specs.declared.ids.{CpuId.CpuId, Tid.Tid, TheConstants.THREADS}, proofs.ListLemmas.alike_at}, cpu.specs.Tower.Views.TowerReply}
use Rattle.cpu.specs.Tower.{Positions.{IsPart, MayStand, outside}, Composed.{CallStands, waits}}
use Rattle.layer_traits.specs.declared.passes.Pass.TheVariants as pass
use Rattle.layer_traits.specs.declared.call_states.Stage.TheVariants as at

-- the part with other threads
abbrev pub with_threads : Buffering → Threads → Buffering
with_threads local threads = record {
  cv = record {
    lock = record { sleep = record { threads = threads; deferred = local.cv.lock.sleep.deferred }; slept = local.cv.lock.slept };
    waits = local.cv.waits;
  };
  call_states = local.call_states;
}

-- A thread has no kept result while the hand is empty.

pub deferred_none : (stage : Stage) (hand : Option Tid) (deferred : Option TowerReply) (s w : Option BufId) (effect : Option Effect)
    → MayStand stage hand deferred s w effect → hand ≡ None → deferred ≡ None
deferred_none stage hand deferred s w effect given is = grind arith

stands_calls : (stage : Stage) (hand : Option Tid) (deferred : Option TowerReply) (s w : Option BufId) (effect : Option Effect)
    → CallStands stage hand deferred s w effect → stage ≡ at.Idle → ⊥
stands_calls stage hand deferred s w effect given is = grind arith

-- a thread in no call neither sleeps nor waits, and the hand is empty
pub record AtRest (h : Option Tid) (k : Option TowerReply) (s w : Option BufId) : Type 0 where
  pub hand : h ≡ None
  pub deferred : k ≡ None
  pub slept : s ≡ None
  pub waits : w ≡ None

pub at_rest : (stage : Stage) (hand : Option Tid) (deferred : Option TowerReply) (s w : Option BufId) (effect : Option Effect)
    → MayStand stage hand deferred s w effect → stage ≡ at.Idle → AtRest hand deferred s w
at_rest stage hand deferred s w effect given is = grind (arith, stands_calls)

-- The passes.

-- when a pass may occur: no thread runs, or a thread runs and the hand is empty
abbrev pub ComesTo : Pass → Threads → Type 0
ComesTo pass.Switch local = (local.current ≡ None) × (local.hand ≡ None)
ComesTo pass.YieldNow local = (t : Tid) × (local.current ≡ Some t) × (local.hand ≡ None)
ComesTo pass.End local = (t : Tid) × (local.current ≡ Some t) × (local.hand ≡ None)
ComesTo given local = local.current ≡ None

module _ (local : Buffering) (part : IsPart local) where
  -- a thread ran that runs no longer
  stopped_part : (t : Tid) (threads : Threads) → (threads_in local).current ≡ Some t → (threads_in local).hand ≡ None → threads.current ≡ None
      → IsPart (with_threads local threads)
  stopped_part t threads runs empty none = record {
    mine = λ u now. let no : Some u ≡ None = sym now ∙ none in absurd (cc no);
    other = λ u off. grind (arith, ne_eqb, cases_eq u.0 t.0, deferred);
    idle = λ idle. deferred;
    coupled = part.coupled;
    call_states = part.call_states;
    slept = part.slept;
    waits = part.waits;
  }
    where
      deferred : local.cv.lock.sleep.deferred ≡ None
      deferred = deferred_none _ _ _ _ _ _ (part.mine t runs) empty

  pub passed_part : (p : Pass) (queue : List Tid) → ComesTo p (threads_in local) → IsPart (with_threads local (pass_after p queue (threads_in local)))
  passed_part pass.Switch queue comes = grind (arith, waits, comes.0, comes.1)
  passed_part pass.Drain queue comes = grind (arith, waits, comes)
  passed_part (pass.MakeReady u) queue comes = grind (arith, waits, comes)
  passed_part p queue comes = stopped_part comes.0 _ comes.1 comes.2 refl

-- At boot.

pub alike_long : {X : Type 0} (n : ℕ) (x : X) → length (replicate n x) ≡ n
alike_long zero x = refl
alike_long (suc n) x = let rec = alike_long n x in omega (arith, rec)

abbrev pub no_buffer : Option BufId
no_buffer = None

pub boots_part : (homes : List CpuId) (c : CpuId) → IsPart (buffering_at_start homes c)
boots_part homes c = record {
  mine = λ t runs. absurd (cc runs);
  other = λ t off. rw (alike_at THREADS t.0 no_call, alike_at THREADS t.0 no_buffer) (outside None);
  idle = λ nobody. refl;
  coupled = λ t. rw (alike_at THREADS t.0 no_call) tt;
  call_states = alike_long THREADS no_call;
  slept = alike_long THREADS no_buffer;
  waits = alike_long THREADS no_buffer;
}
