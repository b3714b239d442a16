use Rattle.std.proofs.{Common.{◌≡◌, ◌≢◌, ◌<◌, ap, arith, rules, List, Option, None, length, option_map, slice_set, subst, sym, ◌∙◌}, Math.ListN.length-set}
use Rattle.{event_log.specs.declared.ids.{CpuId.CpuId, Tid.Tid, TheConstants.THREADS}, layer_traits.specs.Layers.BufferLaw.{answer_in, call_state_of}}
use Rattle.layer_traits.specs.{Layers.BufferLaw.reply_with, Views.Renaming.viewed, declared.{calls.Effect.Effect, call_states.Stage.TheVariants.Idle}}
use Rattle.{layer_traits.specs.declared.call_states.CallState.CallState, plain_layers.specs.{Attempts.effect_in, Fifos.{IsOwned, reply_to, call_state_after}}}
use Rattle.plain_layers.{specs.{Fifos.plain_shown, Laws.FifoOwned.buffer_there}, proofs.FifoLemmas.{done_called, done_deferred, done_moves, done_refused}}
use Rattle.plain_layers.proofs.FifoLemmas.{done_sleeps, owned_after, reply_left, reply_none, runs_small, set_waits}
use Rattle.plain_layers.proofs.fifos.PlainFifoCallLayerBufferLaw.poll_kind.{Given.Over, Goals.After-from}
use Rattle.plain_layers.proofs.fifos.PlainFifoCallLayerBufferLaw.poll_kind.Goals as goal

pub whole-outcome-requires-clause-buffer : goal.whole-outcome-requires-clause-buffer
whole-outcome-requires-clause-buffer g c =
    buffer_there (g.S.ThreadLayer.opening c.args.m.now) c.requires.coupled.2.fresh c.buffer.result (rw c.buffer.ensures c.requires.there)

-- the thread that runs is one of the table
module _ (g : Over) (c : After-from g) where
  small : c.from.result < THREADS
  small = grind (arith, runs_small)

pub offset_bounds-self-from : goal.offset_bounds-self-from
offset_bounds-self-from g c = let few = small g (goal.at.offset_bounds-self-from g c).After-from in omega (arith, few)

pub listed : goal.listed
listed g c = subst (λ n. c.from.result < n) (sym c.requires.coupled.3.slots) (small g (goal.at.listed g c).After-from)

-- what the whole section did
pub returns : goal.returns
returns g c =
    let S = g.S.ThreadLayer in
    let m = c.args.m.now in
    let n = c.whole-outcome.new.m in
    let lower = c.args.self.now.lower in
    let coupled = c.requires.coupled in
    let said = c.whole-outcome.ensures in
    let call = c.args.call.now in
    let effect = effect_in c.whole-outcome.result.out in
    let Acts = λ (d : CpuId). S.ActsFor m d × S.IsWhole × IsOwned (λ e. S.ActsFor m e) (S.opening m) in
    let small = small g (goal.at.returns g c).After-from in
    let after : c.next.result ≡ call_state_after call effect
    = subst (λ (f : Option Effect). c.next.result ≡ call_state_after call f) c.effect-effect.ensures c.next.ensures in
    let before = c.args.self.now.call_states in
    let states = slice_set before c.from.result c.next.result in
    let set : states ≡ slice_set before c.args.t.0 (call_state_after call effect) = λ i. slice_set before (c.from.ensures i) (after i) in
    let within : c.args.t.0 < length before = rw (← c.from.ensures, coupled.3.slots) small in
    let abstract_answer = subst (λ (f : Option Effect). option_map (λ kind. reply_with kind f) c.reply.result ≡ reply_to call f) c.effect-effect.ensures
    c.reply.ensures in
    let answer = answer_in states c.args.t c.reply.result in
    let answered : answer ≡ reply_to call effect
    = ap (λ l. answer_in l c.args.t c.reply.result) set ∙ reply_left before c.args.t call effect c.reply.result within abstract_answer in
    let owned = owned_after (λ e. S.ActsFor m e) (λ e. S.ActsFor n e) (S.opening m) (S.opening n) said.opening said.acts in
    record {
      nothing = λ none. let there = c.requires.there in absurd (omega (arith, none, there));
      called = λ there. rw said.opening (done_called (S.opening m) (S.cpu_of lower) c.buffer.result c.attempt_in.result (S.history m) (S.history n)
          (S.local lower).threads (S.local c.whole-outcome.new.part) c.whole-outcome.result said.done Acts c.args.t call before states
          c.attempt_in.ensures c.buffer.ensures within c.requires.same coupled.3.waits set answer answered);
      runs = search rules;
      under_way = search rules;
      moves = rw said.opening (done_moves (S.opening m) (S.cpu_of lower) c.buffer.result c.attempt_in.result (S.history m) (S.history n)
          (S.local lower).threads (S.local c.whole-outcome.new.part) c.whole-outcome.result said.done Acts);
      prompt = λ whole none.
          let nothing = reply_none call effect (sym answered ∙ none) in (
            rw said.opening (done_refused (S.opening m) (S.cpu_of lower) c.buffer.result c.attempt_in.result (S.history m) (S.history n) (S.local lower).threads
                (S.local c.whole-outcome.new.part) c.whole-outcome.result said.done c.args.t call c.attempt_in.ensures c.buffer.ensures coupled.2.fresh
                nothing),
            done_sleeps (S.opening m) (S.cpu_of lower) c.buffer.result c.attempt_in.result (S.history m) (S.history n) (S.local lower).threads
                (S.local c.whole-outcome.new.part) c.whole-outcome.result said.done nothing,
          );
      framed = record {
        coupled = (
          said.coupled,
          coupled.1,
          owned coupled.2,
          record {
            none = said.none;
            deferred = done_deferred (S.opening m) (S.cpu_of lower) c.buffer.result c.attempt_in.result (S.history m) (S.history n) (S.local lower).threads
                (S.local c.whole-outcome.new.part) c.whole-outcome.result said.done;
            waits = subst (λ (l : List CallState). (u : Tid) → (call_state_of l u).stage ≢ Idle → (call_state_of l u).effect ≡ None) (sym set)
                (set_waits before c.args.t call effect within coupled.3.waits);
            slots = length-set before c.from.result c.next.result ∙ coupled.3.slots;
          },
        );
        cpu = said.cpu;
        stays = record {
          opening = ap (viewed plain_shown) said.opening;
          machine_id = said.machine_id;
          room = (let less = said.room in omega arith);
          acts = λ d acts. (said.acts d acts.0, acts.1, owned acts.2);
        };
        others = λ p other theirs. (said.others p.lower other theirs.0, theirs.1, owned theirs.2, theirs.3);
        holders = λ d other acts held. said.holders d other acts.0 held;
      };
      follows = λ step. absurd step;
    }
