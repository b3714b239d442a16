-- A CPU that steps without the others: three steps of it are one section, and a call of it
-- continues section by section.
use Rattle.std.proofs.Common.{◌≡◌, ℕ, zero, suc, ◌+◌, ◌<◌, ◌≤◌, true, false, ◌&&◌, List, [], ◌∷◌, length, slice_get, slice_set, Some, None, option_map, refl}
use Rattle.std.proofs.{Common.{sym, ap, ◌∙◌, subst, arith}, lemmas.Bool.ne_eqb}
use Rattle.event_log.specs.{declared.{ids.{CpuId.CpuId, Tid.Tid, BufId.BufId, LockId.TheVariants.Buffer as AtBuffer}, entries.Entry.Entry}, Sections.Section}
use Rattle.event_log.{specs.{Sections.sections_in, Actions.{Action, Take, Try, Give, Phase, Rests, Waits, Holds, phase, AreFree}}, proofs.Alone.first_action}
use Rattle.event_log.proofs.{Alone.{second_action, third_action, free_again}, Exclusion.phase_own, Same.same_lock_self}
use Rattle.layer_traits.specs.{declared.steps.Step.TheVariants.Stepped, Polling.{Plans.{is_in_section, at_give}, Along.Outcome}}
use Rattle.cpu.specs.Table.{Blocks.{Buffer, OfBuffer, Name, Answer}, Edits.{edited_buffer, answer}, Setups.{SystemConfig, Call, CpuLocal, thread_at}}
use Rattle.cpu.specs.Table.{Setups.{home_threads, have_ended}, Steps.{after_reply, acting, step_in, cpu_step, SystemState, whole_after, system_step, steps_by}}
use Rattle.cpu.specs.Table.Choice.{Ask, at_buffer, section_due, asked_by, asked_at, asked_in, asked, Goes, choice, with_call, returned_at, settled, after_call}
use Rattle.cpu.{specs.{Table.Choice.after_section, Wakeups.Order.block_of}, proofs.Wakeups.{Agreement.{at_same, Same, same_with}, Lists.set_here}}

-- Steps one after the other.

pub steps_more : (setup : SystemConfig) (c : CpuId) (n m : ℕ) (s : SystemState) → steps_by setup c (n + m) s ≡ steps_by setup c m (steps_by setup c n s)
steps_more setup c zero m s = let same : 0 + m ≡ m = omega arith in ap (λ k. steps_by setup c k s) same
steps_more setup c (suc n) m s =
    let same : suc n + m ≡ suc (n + m) = omega arith in
    ap (λ k. steps_by setup c k s) same ∙ steps_more setup c n m (system_step setup c s).next

-- a section's name
abbrev pub section_of : CpuId → Ask → Section Name
section_of c ask = record { cpu = c; lock = ask.lock; edit = ask.name }

-- CPU c rests with this private state, after these sections, while every lock is free; there is
-- room for so many steps more
pub record Stands (setup : SystemConfig) (c : CpuId) (s : SystemState) (p : CpuLocal) (past : List (Section Name)) (left : ℕ) : Type 0 where
  pub here : slice_get s.cpus c.0 ≡ Some p
  pub did : sections_in s.log ≡ past
  pub free : AreFree s.log
  pub rests : phase c s.log ≡ Rests
  pub room : s.taken + left ≤ s.room

module _ (setup : SystemConfig) (c : CpuId) where
  -- a step for which there is room
  one_step : (s : SystemState) (p : CpuLocal) (o : Outcome CpuLocal Name) → slice_get s.cpus c.0 ≡ Some p → cpu_step setup c p s.log ≡ o → o.answer ≡ Stepped
      → s.taken < s.room → (system_step setup c s).next ≡ whole_after c s o
  one_step s p o here is stepped room = grind (arith, ne_eqb)

  -- what one action leaves
  abbrev acted : CpuLocal → List (Action Name) → Phase → Action Name → Outcome CpuLocal Name
  acted q log now a = record {
    next = after_reply setup c q (at_give now (option_map (answer (asked setup c q).name) (block_of setup (asked setup c q).lock (sections_in log))));
    acts = a ∷ [];
    answer = Stepped;
  }

  within : (p : CpuLocal) (log : List (Action Name)) (now : Phase) → phase c log ≡ now → is_in_section now ≡ true
      → cpu_step setup c p log ≡ acting setup c p log
  within p log now at inside = ap (λ x. step_in setup c p log (is_in_section x)) at ∙ ap (step_in setup c p log) inside

  -- the system after the first two actions of a section, and after all three
  abbrev pub after_two : SystemState → CpuLocal → SystemState
  after_two s q =
      let lock = (asked setup c q).lock in
      let one = whole_after c s (record { next = q; acts = Take c lock ∷ []; answer = Stepped }) in
      whole_after c one (record { next = q; acts = Try c lock true ∷ []; answer = Stepped })

  abbrev pub after_three : SystemState → CpuLocal → Answer → SystemState
  after_three s q a =
      whole_after c (after_two s q)
      (record { next = after_section setup c q a; acts = Give c (asked setup c q).lock (asked setup c q).name ∷ []; answer = Stepped })

  -- after two steps the section is under way
  pub two_steps : (s : SystemState) (p q : CpuLocal) (past : List (Section Name)) (left : ℕ)
      → Stands setup c s p past (left + 3) → choice setup c p ≡ Goes q → steps_by setup c 2 s ≡ after_two s q
  two_steps s p q past left at goes = ap (λ x. (system_step setup c x).next) first ∙ second
    where
      first : (system_step setup c s).next ≡ whole_after c s (record { next = q; acts = Take c (asked setup c q).lock ∷ []; answer = Stepped })
      first = grind (arith, one_step, first_action)

      second : (system_step setup c (whole_after c s (record { next = q; acts = Take c (asked setup c q).lock ∷ []; answer = Stepped }))).next
          ≡ after_two s q
      second =
          let log = Take c (asked setup c q).lock ∷ s.log in
          let now = phase_own (Take c (asked setup c q).lock) s.log in
          one_step _ q _ (set_here s.cpus c.0 p q at.here) (within q log (Waits (asked setup c q).lock) now refl
          ∙ (λ i. acted q log (now i) ((second_action c (asked setup c q).lock (asked setup c q).name s.log (at.free (asked setup c q).lock)) i))) refl
          (omega (arith, at.room))

  pub here_two : (s : SystemState) (p q : CpuLocal) → slice_get s.cpus c.0 ≡ Some p → slice_get (after_two s q).cpus c.0 ≡ Some q
  here_two s p q at = set_here (slice_set s.cpus c.0 q) c.0 q q (set_here s.cpus c.0 p q at)

  -- three steps are one section
  pub three_steps : (s : SystemState) (p q : CpuLocal) (past : List (Section Name)) (left : ℕ) (a : Answer)
      → Stands setup c s p past (left + 3) → choice setup c p ≡ Goes q
      → option_map (answer (asked setup c q).name) (block_of setup (asked setup c q).lock past) ≡ Some a → steps_by setup c 3 s ≡ after_three s q a
  three_steps s p q past left a at goes told = ap (λ x. (system_step setup c x).next) (two_steps s p q past left at goes) ∙ third
    where
      third : (system_step setup c (after_two s q)).next ≡ after_three s q a
      third =
          let log = Try c (asked setup c q).lock true ∷ Take c (asked setup c q).lock ∷ s.log in
          let now = phase_own (Try c (asked setup c q).lock true) (Take c (asked setup c q).lock ∷ s.log) in
          let gives = ap (λ r. record { next = after_reply setup c q r; acts = Give c (asked setup c q).lock (asked setup c q).name ∷ []; answer = Stepped })
          (ap (λ x. option_map (answer (asked setup c q).name) (block_of setup (asked setup c q).lock x)) at.did ∙ told) in
          one_step _ q _ (here_two s p q at.here) (within q log (Holds (asked setup c q).lock) now refl
          ∙ (λ i. acted q log (now i) ((third_action c (asked setup c q).lock (asked setup c q).name (Take c (asked setup c q).lock ∷ s.log)) i)) ∙ gives) refl
          (omega (arith, at.room))

  pub stands_after : (s : SystemState) (p q : CpuLocal) (past : List (Section Name)) (left : ℕ) (a : Answer) → Stands setup c s p past (left + 3)
      → Stands setup c (after_three s q a) (after_section setup c q a) (section_of c (asked setup c q) ∷ past) left
  stands_after s p q past left a at = record {
    here = set_here (slice_set (slice_set s.cpus c.0 q) c.0 q) c.0 q (after_section setup c q a) (here_two s p q at.here);
    did = ap (λ x. section_of c (asked setup c q) ∷ x) at.did;
    free = free_again c (asked setup c q).lock (asked setup c q).name true s.log at.free;
    rests = phase_own (Give c (asked setup c q).lock (asked setup c q).name) (Try c (asked setup c q).lock true ∷ Take c (asked setup c q).lock ∷ s.log);
    room = let room = at.room in omega (arith, room);
  }

  -- Inside a call.

  -- the CPU's hand is empty, and its thread t is inside this call; the trace
  pub record InCall (p : CpuLocal) (t : Tid) (call : Call) (traced : List Entry) : Type 0 where
    pub hand : p.hand ≡ None
    pub current : p.current ≡ Some t
    pub calls : (thread_at p t).call ≡ Some call
    pub known : t.0 < length p.threads
    pub live : have_ended p (home_threads setup c) ≡ false
    pub trace : p.trace ≡ traced

  have_same : (p q : CpuLocal) (t : Tid) → Same p q t → (ts : List Tid) → have_ended q ts ≡ have_ended p ts
  have_same p q t same [] = refl
  have_same p q t same (u ∷ ts) = λ i. same.ended u i && have_same p q t same ts i

  -- the call continues as another
  pub with_new : (p : CpuLocal) (t : Tid) (call : Call) (traced : List Entry) → p.hand ≡ None → p.current ≡ Some t → t.0 < length p.threads
      → have_ended p (home_threads setup c) ≡ false → p.trace ≡ traced → InCall (with_call p t (Some call)) t call traced
  with_new p t call traced hand current known live trace =
      let same = same_with p t (record (thread_at p t) { call = Some call }) known refl in
      record {
        hand = hand;
        current = current;
        calls = ap (λ y. y.call) (at_same p t (record (thread_at p t) { call = Some call }) known);
        known = subst (λ n. t.0 < n) (sym same.size) known;
        live = have_same p (with_call p t (Some call)) t same (home_threads setup c) ∙ live;
        trace = trace;
      }

  pub goes_on : (p : CpuLocal) (t : Tid) (call : Call) (traced : List Entry) → InCall p t call traced → choice setup c p ≡ Goes p
  goes_on p t call traced at = grind arith

  pub asks_for : (p : CpuLocal) (t : Tid) (call : Call) (traced : List Entry) → InCall p t call traced
      → asked setup c p ≡ at_buffer call.buffer (section_due t call call.stage)
  asks_for p t call traced at = ap (asked_in setup c p) at.hand ∙ ap (asked_at c p) at.current ∙ ap (asked_by c t) at.calls

  pub after_is : (p : CpuLocal) (t : Tid) (call : Call) (traced : List Entry) (a : Answer) → InCall p t call traced
      → after_section setup c p a ≡ after_call setup c p t call a
  after_is p t call traced a at = grind arith

  pub settled_is : (q : CpuLocal) (t : Tid) (call : Call) (traced : List Entry) → InCall q t call traced
      → settled setup q ≡ returned_at setup q t call call.stage
  settled_is q t call traced at = grind arith

-- the block of a buffer after a section on it
pub block_next : (setup : SystemConfig) (c : CpuId) (b : BufId) (name : Name) (past : List (Section Name)) (k : Buffer)
    → block_of setup (AtBuffer b) past ≡ Some (OfBuffer k)
    → block_of setup (AtBuffer b) (record { cpu = c; lock = AtBuffer b; edit = name } ∷ past) ≡ Some (OfBuffer (edited_buffer name k))
block_next setup c b name past k is = grind (arith, same_lock_self)
