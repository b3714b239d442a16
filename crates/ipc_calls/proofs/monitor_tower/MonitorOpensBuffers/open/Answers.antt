use Rattle.std.proofs.{Common.{◌≤◌, length, refl, rules, ◌∙◌, arith}, lemmas.Result.IfOk-weaker}
use Rattle.{event_log.specs.declared.ids.LockId.TheVariants.Pending, fifo_buffer.specs.MonitorParts.monitor_shown}
use Rattle.layer_traits.proofs.KernelRenaming.{homes_viewed, viewed_there}
use Rattle.ipc_calls.proofs.{Opened.both_ok, Towers.{boots_shown, monitor_caps, monitors_at_boot, opens_fresh}}
use Rattle.ipc_calls.proofs.monitor_tower.MonitorOpensBuffers.open.Goals as goal

-- the machine has the capacities and homes of the plan, nothing was done in it, its locks show
-- those of empty buffers, each CPU finds in it what its part needs, and may act on it
pub returns : goal.returns
returns g c =
    let S = g.S.ThreadLayer in
    let r = c.open.result in
    let opens = c.open.ensures in
    let caps = c.args.caps.now in
    let most = c.requires.buffers in
    let few : length caps ≤ 256 = omega (arith, most) in
    let cpus = c.requires.most_cpus in
    let locks = IfOk-weaker r _ _ (λ m boots. boots ∙ monitors_at_boot caps) opens.locks in
    record {
      opened = IfOk-weaker r _ _ (λ m it. record {
        caps_are = monitor_caps (S.opening m) caps it.0.0 few;
        homes_are = homes_viewed monitor_shown (S.opening m) ∙ it.0.1;
        none_seen = rw it.1.0 refl;
        none_moved = rw it.1.0 refl;
        room_is = it.1.1;
      }) (both_ok r _ _ (both_ok r _ _ locks opens.homes) (both_ok r _ _ opens.history opens.room));
      boot = IfOk-weaker r _ _ (λ m fresh. boots_shown (S.opening m) caps fresh few) locks;
      queues = IfOk-weaker r _ _ (λ m there d within. viewed_there monitor_shown (S.opening m) (Pending d) (there d within)) opens.queues;
      fresh = IfOk-weaker r _ _
          (λ m it d within. (
            (it.1.0 d (omega (arith, within, cpus)), opens_fresh (S.opening m) caps it.0.0.0 few),
            it.1.1 d,
            rw it.0.1.0 refl,
            rw it.0.1.0 refl,
            homes_viewed monitor_shown (S.opening m) ∙ it.0.0.1,
            it.0.1.1 d within,
          ))
          (both_ok r _ _ (both_ok r _ _ (both_ok r _ _ locks opens.homes) (both_ok r _ _ opens.history opens.queues))
          (both_ok r _ _ opens.acts opens.outside));
      acts = IfOk-weaker r _ _ (λ m it d within. (it.0 d within, opens_fresh (S.opening m) caps it.1 few))
          (both_ok r _ _ opens.acts locks);
      none = search rules;
      holders = search rules;
    }
