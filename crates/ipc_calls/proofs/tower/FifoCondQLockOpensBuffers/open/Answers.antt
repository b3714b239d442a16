use Rattle.std.proofs.{Common.{◌≤◌, length, refl, rules, ◌∙◌, arith}, lemmas.Result.IfOk-weaker}
use Rattle.{event_log.specs.declared.ids.LockId.TheVariants.Pending, fifo_buffer.proofs.Opening.{boots_well, caps_are}}
use Rattle.{layer_traits.{specs.Views.Renaming.viewed, proofs.KernelRenaming.{homes_viewed, viewed_there}}, queuing_lock.specs.Nested.nested_lock_of}
use Rattle.ipc_calls.proofs.{Opened.both_ok, Towers.tower_locks}
use Rattle.ipc_calls.proofs.tower.FifoCondQLockOpensBuffers.open.Goals as goal

-- the machine has the capacities and homes of the plan, nothing was done in it, its locks are those
-- of the capacities that it reports, each CPU finds in it what its part needs, and may act on it
pub returns : goal.returns
returns g c =
    let S = g.S.ThreadLayer in
    let r = c.open.result in
    let opens = c.open.ensures in
    let caps = c.args.caps.now in
    let most = c.requires.buffers in
    let few : length caps ≤ 256 = omega (arith, most) in
    let cpus = c.requires.most_cpus in
    let locks = IfOk-weaker r _ _ (λ m boots. tower_locks (S.opening m) caps boots) opens.locks in
    record {
      opened = IfOk-weaker r _ _ (λ m it. record {
        caps_are = caps_are (viewed nested_lock_of (S.opening m)) caps it.0.0 few;
        homes_are = homes_viewed nested_lock_of (S.opening m) ∙ it.0.1;
        none_seen = rw it.1.0 refl;
        none_moved = rw it.1.0 refl;
        room_is = it.1.1;
      }) (both_ok r _ _ (both_ok r _ _ locks opens.homes) (both_ok r _ _ opens.history opens.room));
      boot = IfOk-weaker r _ _ (λ m is. boots_well (viewed nested_lock_of (S.opening m)) caps is few) locks;
      queues = search rules;
      fresh = IfOk-weaker r _ _
          (λ m it d within. let boots = boots_well (viewed nested_lock_of (S.opening m)) caps it.0.0.0 few in (
            (it.1.0 d (omega (arith, within, cpus)), boots),
            it.1.1 d,
            rw it.0.1.0 refl,
            rw it.0.1.0 refl,
            homes_viewed nested_lock_of (S.opening m) ∙ it.0.0.1,
            viewed_there nested_lock_of (S.opening m) (Pending d) (it.0.1.1 d within),
            boots,
          ))
          (both_ok r _ _ (both_ok r _ _ (both_ok r _ _ locks opens.homes) (both_ok r _ _ opens.history opens.queues))
          (both_ok r _ _ opens.acts opens.outside));
      acts = IfOk-weaker r _ _ (λ m it d within. (it.0 d within, boots_well (viewed nested_lock_of (S.opening m)) caps it.1 few))
          (both_ok r _ _ opens.acts locks);
      none = search rules;
      holders = search rules;
    }
