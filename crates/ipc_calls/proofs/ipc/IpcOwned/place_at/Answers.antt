use Rattle.std.proofs.{Common.{◌≡◌, false, length, Some, option_map, inr, refl, ap, sym, ◌∙◌, subst}, lemmas.Option.same_Some}
use Rattle.layer_traits.specs.{Blocks.{Capacities.caps_in, QueueBlocks.homes_in}, Threads.Places.{Asleep, At, IsPending, home_of, where_is}}
use Rattle.layer_traits.{specs.Views.{Owned.lists_shown, Observed.queue_place}, proofs.OwnedLemmas.lists_as}
use Rattle.{event_log.specs.declared.ids.LockId.TheVariants.Buffer, ipc_calls.specs.{Laws.PlaceLaws.{sleeps_there, read_pends, read_sleeps}, Parts.pends_read}}
use Rattle.ipc_calls.proofs.ipc.IpcOwned.place_at.Goals as goal

-- the queue that is read is that of the thread's home
pub pends-requires-clause-queue : goal.pends-requires-clause-queue
pends-requires-clause-queue g c =
    let law = g.met.B.CallLayer in
    let m = c.args.m.now in
    let acts = law.own_cpu c.args.self.now.lower m c.requires.coupled.0 in
    (law.starts m (g.B.CallLayer.cpu_of c.args.self.now.lower) acts).queues c.args.t c.home-home.result
    (subst (λ homes. home_of homes c.args.t ≡ Some c.home-home.result) c.requires.coupled.1.homes_are c.home-home.ensures)

-- a thread that is reported in the pending queue of its home CPU is in it
pub returns-then-pends-clause-observed : goal.returns-then-pends-clause-observed
returns-then-pends-clause-observed g c x is =
    let B = g.B.CallLayer in
    let O = g.B.OwnedBuffers in
    let law = g.met.B.CallLayer in
    let m = c.args.m.now in
    let p = c.args.self.now.lower in
    let coupled = c.requires.coupled in
    let acts = law.own_cpu p m coupled.0 in
    let home = c.home-home.result in
    let pends : where_is (homes_in (B.opening m)) (B.moves m) c.args.t ≡ IsPending home
    = read_pends (λ q. B.Coupled q m) (λ q. B.cpu_of q) (B.MayHold m) (homes_in (B.opening m)) (B.moves m)
    c.args.t home p (λ q. O.queue_with q home) (O.queue_at m home) (law.moves_legal m (B.cpu_of p) acts) coupled.0
    (g.met.B.OwnedBuffers.queues m (B.cpu_of p) home acts ((law.starts m (B.cpu_of p) acts).queues c.args.t home
    (subst (λ homes. home_of homes c.args.t ≡ Some home) coupled.1.homes_are c.home-home.ensures)))
    (sym c.pends.ensures ∙ c.if-pends.true) in
    inr (ap queue_place pends ∙ is)

-- a part that finds nothing is silent
pub returns-in_err-buffer-clause-silent : goal.returns-in_err-buffer-clause-silent
returns-in_err-buffer-clause-silent g c none =
    let O = g.B.OwnedBuffers in
    let m = c.args.m.now in
    let p = c.args.self.now.lower in
    let home = c.home-home.result in
    let home_is = subst (λ homes. home_of homes c.args.t ≡ Some home) c.requires.coupled.1.homes_are c.home-home.ensures in
    record {
      away = c.in_default.ensures.away refl;
      pends = λ d at. subst (λ e. pends_read c.args.t (O.queue_at m e) (O.queue_with p e) ≡ false) (same_Some home d (sym home_is ∙ at))
          (sym c.pends.ensures ∙ c.if-pends.false);
      wait_lists = c.in_err-buffer.ensures.none refl;
    }

-- a thread that is reported in a wait list of a buffer sleeps there
pub returns-clause-observed : goal.returns-clause-observed
returns-clause-observed g c x is =
    let B = g.B.CallLayer in
    let O = g.B.OwnedBuffers in
    let law = g.met.B.CallLayer in
    let m = c.args.m.now in
    let p = c.args.self.now.lower in
    let coupled = c.requires.coupled.0 in
    let buffer = c.in_ok-buffer.buffer in
    let line = c.in_ok-buffer.wait_list in
    let within = c.in_ok-buffer.ensures.within (buffer, line) refl in
    let sleeps : where_is (homes_in (B.opening m)) (B.moves m) c.args.t ≡ Asleep (At (Buffer buffer) line)
    = read_sleeps (λ q. B.Coupled q m) (λ q. B.cpu_of q) (B.MayHold m) (homes_in (B.opening m)) (B.moves m)
    (length (caps_in (B.opening m))) (B.wait_lists m) (law.lists p m coupled) buffer within c.args.t line p
    (λ q. option_map lists_shown (O.buffer_with q buffer))
    (option_map lists_shown (O.buffer_at m buffer)) coupled
    (lists_as (λ q. B.Coupled q m) (λ q. B.cpu_of q) (B.MayHold m) (λ q. O.buffer_with q buffer) (O.buffer_at m buffer) _ _ _ (B.wait_lists m buffer)
    (g.met.B.OwnedBuffers.shown m (B.cpu_of p) buffer (law.own_cpu p m coupled) within)) (c.in_ok-buffer.ensures.found (buffer, line) refl) in
    inr (ap queue_place sleeps ∙ (sleeps_there buffer line ∙ (ap Some (sym c.waiters_of.ensures) ∙ is)))
