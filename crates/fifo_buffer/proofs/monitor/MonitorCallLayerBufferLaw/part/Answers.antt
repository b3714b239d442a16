use Rattle.std.proofs.{Common.{◌∙◌, List, ap, length, subst, sym}, lemmas.List.length-replicate}
use Rattle.{event_log.specs.declared.ids.{Tid.Tid, TheConstants.THREADS}, layer_traits.specs.declared.call_states.CallState.CallState}
use Rattle.layer_traits.{specs.Layers.{BufferLaw.{call_state_of, no_call}, SleepLaw.{Sleeping, sleep_kernel}}, proofs.KernelRenaming.homes_viewed}
use Rattle.fifo_buffer.specs.{declared.monitor_blocks.MonitorReply.MonitorReply, MonitorParts.{AgreesWithStage, monitor_shown}, Monitors.monitor_rules}
use Rattle.fifo_buffer.proofs.MonitorPasses.{no_events_before, no_stage_yet, nobody_sleeps_yet}
use Rattle.fifo_buffer.proofs.monitor.MonitorCallLayerBufferLaw.part.Goals as goal

pub returns-clause-coupled : goal.returns-clause-coupled
returns-clause-coupled g c m fresh count =
    let S = g.S.ThreadLayer in (
      c.part.ensures.coupled m fresh.0.0 fresh.1 (
        no_events_before (sleep_kernel monitor_rules (S.opening m)) (S.history m) fresh.3,
        sym (homes_viewed monitor_shown (S.opening m)) ∙ fresh.4,
        fresh.5,
        nobody_sleeps_yet _ _ fresh.0.1,
      ),
      record {
        fresh = fresh.0.1;
        slots = ap (λ (l : List CallState). length l) c.new.ensures ∙ length-replicate THREADS no_call;
        stages = subst (λ (l : List CallState). (t : Tid) → AgreesWithStage (call_state_of l t).stage (call_state_of l t).effect)
            (sym c.new.ensures) no_stage_yet;
        calls = rw (c.part.ensures.call, c.of.ensures) (tt, ap (λ (s : Sleeping MonitorReply). s.deferred) c.part.ensures.local);
      },
    )
