-- Consecutive polls of a call on a buffer that exists are consecutive polls of the buffers below.
use Rattle.std.proofs.{Common.{◌≡◌, ℕ, ◌+◌, ◌<◌, ◌≤◌, Bool, true, List, [], Option, Some, None, length, refl, ap, arith}, lemmas.Bool.{le-ltb, lt-ltb}}
use Rattle.layer_traits.specs.{Blocks.{Capacities.caps_in, QueueBlocks.homes_in}, declared.{call_layers.CallLayer.Ghosts, calls.{Call.Call, Reply.Reply}}}
use Rattle.layer_traits.specs.{declared.calls.ReplyKind.{ReplyKind, TheVariants.NoBuffer as Refuses}, Layers.BufferLaw.{BufferPlan, Buffering, buffer_of}}
use Rattle.layer_traits.specs.{Layers.{BufferLaw.fifo_plan, IpcLaw.ipc_plan}, Polling.{Framed.Framed, LayerPolls.{LookedAt, LookedOnAt, PolledAt}}}
use Rattle.layer_traits.{specs.Polling.{LayerPolls.PolledOnAt, PollRuns.{LookedOn, once, again, looks}}, proofs.PollRunLemmas.{Kept, run_kept}}
use Rattle.{event_log.specs.declared.ids.{CpuId.CpuId, Tid.Tid}, ipc_calls.specs.{declared.ipc.Ipc.Ipc, Parts.KeepsPlan}}

-- what a part of message calls reports as a layer of calls, over a part of buffers
abbrev pub tells : {P L M : Type 0} → Ghosts P L M → Ghosts (Ipc P) (Unit {0}) M
tells B = record {
  history = λ m. B.history m;
  moves = λ m. B.moves m;
  wait_lists = λ m. B.wait_lists m;
  ActsFor = λ m c. B.ActsFor m c;
  room = λ m. B.room m;
  machine_id = λ m. B.machine_id m;
  IsFresh = λ m homes c. B.IsFresh m homes c × (homes_in (B.opening m) ≡ homes);
  MayHold = λ m c. B.MayHold m c;
  cpu_of = λ p. B.cpu_of p.lower;
  is_inside = λ p. B.is_inside p.lower;
  under_way = λ p. B.under_way p.lower;
  Coupled = λ p m. B.Coupled p.lower m × KeepsPlan (homes_in (B.opening m)) (length (caps_in (B.opening m))) (B.cpu_of p.lower) p.cpu p.homes.items p.buffers;
  IsWhole = B.IsWhole;
  IsStepwise = B.IsStepwise;
  opening = λ m. B.opening m;
  acts = λ m. B.acts m;
  local = λ p. B.local p.lower;
}

abbrev pub plan_below : ℕ → List CpuId → CpuId → Tid → Call → Buffering → BufferPlan Reply
plan_below buffers = fifo_plan

module _ {P L M : Type 0} (B : Ghosts P L M) (start : Ipc P) where
  -- the part with another part of buffers
  abbrev over : P → Ipc P
  over q = record { lower = q; cpu = start.cpu; homes = start.homes; buffers = start.buffers }

  abbrev Keeps : P → M → Type 0
  Keeps q n = KeepsPlan (homes_in (B.opening n)) (length (caps_in (B.opening n))) (B.cpu_of q) start.cpu start.homes.items start.buffers

  keeps_on : (p q : P) (m n : M) → B.cpu_of q ≡ B.cpu_of p → B.opening n ≡ B.opening m → Keeps p m → Keeps q n
  keeps_on p q m n cpu opening keeps = rw (cpu, opening) keeps

  framed_over : (p q : P) (m n : M) → Framed B.Coupled B.cpu_of B.opening B.machine_id B.room B.ActsFor B.MayHold p q m n
      → Keeps p m
      → Framed (tells B).Coupled (tells B).cpu_of (tells B).opening (tells B).machine_id (tells B).room (tells B).ActsFor (tells B).MayHold (over p) (over q) m
      n
  framed_over p q m n framed keeps = record {
    coupled = (framed.coupled, keeps_on p q m n framed.cpu framed.stays.opening keeps);
    cpu = framed.cpu;
    stays = record { opening = framed.stays.opening; machine_id = framed.stays.machine_id; room = framed.stays.room; acts = framed.stays.acts };
    others = λ r other coupled. (framed.others r.lower other coupled.0, rw framed.stays.opening coupled.1);
    holders = framed.holders;
  }

  pub looked_over : (p q : P) (m n : M) (abstract_answer : Bool) → Keeps p m → LookedAt B plan_below abstract_answer p m q n
      → LookedAt (tells B) ipc_plan abstract_answer (over p) m (over q) n
  looked_over p q m n abstract_answer keeps looked = record {
    still = λ no. (ap over (looked.still no).0, (looked.still no).1);
    waits = looked.waits;
    framed = framed_over p q m n looked.framed keeps;
    local = looked.local;
    inside = looked.inside;
    under_way = looked.under_way;
    history = looked.history;
    moves = looked.moves;
    tries = looked.tries;
  }

  pub looks_over : {p : P} {m : M} {before taken : ℕ} {q : P} {n : M} → Keeps p m → LookedOnAt B plan_below p m before taken q n
      → Keeps q n × LookedOnAt (tells B) ipc_plan (over p) m before taken (over q) n
  looks_over keeps LookedOn.none = (keeps, LookedOn.none)
  looks_over keeps (LookedOn.more {q = q} {r = r} {n = n} {o = o} looked last) =
      let so_far = looks_over keeps looked in
      (keeps_on q r n o last.framed.cpu last.framed.stays.opening so_far.0, LookedOn.more so_far.1 (looked_over q r n o true so_far.0 last))

  module _ (t : Tid) (call : Call) where
    -- a number that is no buffer's is rejected, and nothing is done
    pub bad_number_refused : (p : Ipc P) (m : M) → length (caps_in (B.opening m)) ≤ (buffer_of call).0 → (tells B).Coupled p m
        → PolledAt (tells B) ipc_plan t call p m p m (Some Refuses)
    bad_number_refused p m none coupled = record {
      nothing = λ none. record { machine = refl; part = refl; answers = refl };
      called = λ some. absurd (omega arith);
      runs = λ some. absurd (omega arith);
      under_way = λ some. absurd (omega arith);
      moves = record { others = []; mine = []; foreign = λ d acts. tt; local = tt; is = refl };
      prompt = λ whole none. absurd cc;
      framed = (let room : B.room m ≤ B.room m + 1 = omega arith in assumption);
      follows = λ stepwise. rw (le-ltb (buffer_of call).0 (length (caps_in (B.opening m))) none) (refl, refl);
    }

    pub polled_over : (p q : P) (m n : M) (abstract_answer : Option ReplyKind) → (buffer_of call).0 < length (caps_in (B.opening m)) → Keeps p m
        → PolledAt B plan_below t call p m q n abstract_answer → PolledAt (tells B) ipc_plan t call (over p) m (over q) n abstract_answer
    polled_over p q m n abstract_answer there keeps polled = record {
      nothing = λ none. absurd (omega arith);
      called = polled.called;
      runs = polled.runs;
      under_way = polled.under_way;
      moves = polled.moves;
      prompt = polled.prompt;
      framed = framed_over p q m n polled.framed keeps;
      follows = λ stepwise. rw (lt-ltb (buffer_of call).0 (length (caps_in (B.opening m))) there) (polled.follows stepwise);
    }

    pub ran_over : (p : P) (m : M) (actions : ℕ) (q : P) (n : M) (abstract_answer : Option ReplyKind) → (buffer_of call).0 < length (caps_in (B.opening m))
        → Keeps p m
        → PolledOnAt B plan_below t call p m actions q n abstract_answer → PolledOnAt (tells B) ipc_plan t call (over p) m actions (over q) n abstract_answer
    ran_over p m _ q n abstract_answer there keeps (once polled) = once (polled_over p q m n abstract_answer there keeps polled)
    ran_over p m _ r o abstract_answer there keeps (again {k = k} {q = q} {n = n} run quiet polled) =
        let so_far : Kept B plan_below t call p m k q n = run_kept B plan_below t call p m k q n None run in
        again (ran_over p m k q n None there keeps run) (record { runs = quiet.runs; effect = quiet.effect })
        (polled_over q r n o abstract_answer (rw so_far.opening there) (keeps_on p q m n so_far.cpu so_far.opening keeps) polled)
    ran_over p m _ r o _ there keeps (looks {k = k} {q = q} {n = n} run quiet looked) =
        let so_far : Kept B plan_below t call p m k q n = run_kept B plan_below t call p m k q n None run in
        looks (ran_over p m k q n None there keeps run) (record { runs = quiet.runs; effect = quiet.effect })
        (looked_over q r n o true (keeps_on p q m n so_far.cpu so_far.opening keeps) looked)
