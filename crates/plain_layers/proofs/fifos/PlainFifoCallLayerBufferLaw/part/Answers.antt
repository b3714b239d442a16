use Rattle.std.proofs.{Common.{◌≡◌, ◌≢◌, ◌∙◌, List, None, ap, length, subst, sym}, lemmas.List.length-replicate}
use Rattle.{event_log.specs.declared.ids.{Tid.Tid, TheConstants.THREADS}, layer_traits.specs.declared.call_states.{CallState.CallState, Stage.TheVariants.Idle}}
use Rattle.layer_traits.{specs.Layers.{BufferLaw.{call_state_of, no_call}, SleepLaw.{Sleeping, sleep_kernel}}, proofs.KernelRenaming.homes_viewed}
use Rattle.plain_layers.{specs.{declared.attempts.Tried.Tried, Attempts.attempts, Fifos.plain_shown}, proofs.FifoLemmas.{no_events, nobody_waits}}
use Rattle.plain_layers.proofs.FifoLemmas.{no_call_waits}
use Rattle.plain_layers.proofs.fifos.PlainFifoCallLayerBufferLaw.part.Goals as goal

pub returns-clause-coupled : goal.returns-clause-coupled
returns-clause-coupled g c m fresh count =
    let S = g.S.ThreadLayer in (
      c.part.ensures.coupled m fresh.0.0 fresh.1 (
        no_events (sleep_kernel attempts (S.opening m)) (S.history m) fresh.3,
        sym (homes_viewed plain_shown (S.opening m)) ∙ fresh.4,
        fresh.5,
        nobody_waits _ _ fresh.0.2.fresh,
      ),
      fresh.0.1,
      fresh.0.2,
      record {
        none = c.part.ensures.call;
        deferred = ap (λ (s : Sleeping Tried). s.deferred) c.part.ensures.local;
        waits = subst (λ (l : List CallState). (t : Tid) → (call_state_of l t).stage ≢ Idle → (call_state_of l t).effect ≡ None) (sym c.no_calls.ensures)
            no_call_waits;
        slots = ap (λ (l : List CallState). length l) c.no_calls.ensures ∙ length-replicate THREADS no_call;
      },
    )
