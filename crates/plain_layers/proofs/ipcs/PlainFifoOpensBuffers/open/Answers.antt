use Rattle.std.proofs.{lemmas.Result.{IfOk-at_ok, IfOk-weaker}, Common.{◌≡◌, ◌∙◌, ◌≤◌, length, refl, rules, arith}}
use Rattle.plain_layers.{proofs.{OpeningLemmas.where_ok, PlainOpenings.{boots_shown, caps_observed, fresh_read, half_room}}, specs.Fifos.fresh_buffers}
use Rattle.{plain_layers.specs.Fifos.plain_shown, layer_traits.{specs.Blocks.QueueBlocks.inner, proofs.KernelRenaming.homes_viewed}}
use Rattle.plain_layers.proofs.ipcs.PlainFifoOpensBuffers.open.Goals as goal

-- the machine has the capacities and homes of the plan, nothing was done in it, its locks are those
-- of the capacities that it reports, each CPU finds in it what its part needs, and may act on it
pub returns : goal.returns
returns g c =
    let S = g.S.ThreadLayer in
    let r = c.open.result in
    let opens = c.open.ensures in
    let caps = c.args.caps.now in
    let most = c.requires.buffers in
    let few : length caps ≤ 256 = omega (arith, most) in
    let cpus = c.requires.most_cpus in
    record {
      opened = where_ok r _ (λ m is. record {
        caps_are = caps_observed (S.opening m) caps (IfOk-at_ok _ is opens.buffers) few;
        homes_are = homes_viewed plain_shown (S.opening m) ∙ IfOk-at_ok _ is opens.homes;
        none_seen = rw (IfOk-at_ok _ is opens.history) refl;
        none_moved = rw (IfOk-at_ok _ is opens.history) refl;
        room_is = half_room c.args.room (S.room m) (IfOk-at_ok _ is opens.room);
      });
      boot = IfOk-weaker r (λ m. inner (S.opening m) ≡ fresh_buffers caps) _ (λ m fresh. boots_shown (S.opening m) caps fresh few) opens.buffers;
      queues = search rules;
      fresh = where_ok r _ (λ m is d within.
          let acts = IfOk-at_ok _ is opens.acts in
          let none = IfOk-at_ok _ is opens.history in
          let fresh = fresh_read (S.opening m) caps (IfOk-at_ok _ is opens.buffers) few in (
            (acts d (omega (arith, within, cpus)), g.met.S.OpensAttempts.whole.0, record { all = acts; fresh = fresh }),
            IfOk-at_ok _ is opens.outside d,
            rw none refl,
            rw none refl,
            homes_viewed plain_shown (S.opening m) ∙ IfOk-at_ok _ is opens.homes,
            IfOk-at_ok _ is opens.queues d within,
          ));
      acts = where_ok r _ (λ m is d within.
          let acts = IfOk-at_ok _ is opens.acts in
          let fresh = fresh_read (S.opening m) caps (IfOk-at_ok _ is opens.buffers) few in
          (acts d within, g.met.S.OpensAttempts.whole.0, record { all = acts; fresh = fresh }));
      none = search rules;
      holders = search rules;
    }
