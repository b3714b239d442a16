-- What has returned is before what has not begun: the order at a moment is a prefix of the whole
-- order.
use Rattle.std.proofs.Common.{◌≡◌, ℕ, zero, suc, ◌+◌, ◌-◌, ◌<◌, ◌≤◌, ◌==◌, Bool, true, false, List, [], ◌∷◌, ◌++◌, All, drop, length, take, reverse, Option}
use Rattle.std.proofs.{Common.{Some, None, if◌then◌else◌, refl, ap, sym, ◌∙◌, subst, arith, append_assoc, inl, inr}, lemmas.Bool.{cases_lt, eq-eqb}}
use Rattle.std.specs.Prelude.{filter, slice_get}
use Rattle.{event_log.specs.declared.{entries.Entry.Entry, ids.{CpuId.CpuId, Tid.Tid}}, cpu.specs.{Cpus.{of_cpu, of_thread}, Sound.after_steps}}
use Rattle.cpu.specs.Table.{Setups.{Call, CpuLocal, SystemConfig, has_none, thread_at}, Steps.{SystemState, boots, system_step, whole_at_boot}}
use Rattle.cpu.specs.TableOrder.{StandsAt, TableKeepsRealTime, begun_with, calls_begun, calls_returned, order_by_steps, returned_with, thread_entries, trace_at}
use Rattle.cpu.{specs.TableOrder.trace_in, proofs.TableOrder.OneOrder.kept_traces}

-- one entry more in front
calls_first : (c : CpuId) (t : Tid) (e : Entry) (es : List Entry)
    → thread_entries c t (e ∷ es)
    ≡ (if e.cpu.0 == c.0 then (if e.thread.0 == t.0 then e ∷ thread_entries c t es else thread_entries c t es) else thread_entries c t es)
calls_first c t e es = go (e.cpu.0 == c.0) refl
  where
    thread_first : (b : Bool) → (e.thread.0 == t.0) ≡ b → of_thread t.0 (e ∷ of_cpu c es) ≡ (if b then e ∷ thread_entries c t es else thread_entries c t es)
    thread_first true is = rw is refl
    thread_first false is = rw is refl

    go : (b : Bool) → (e.cpu.0 == c.0) ≡ b
        → thread_entries c t (e ∷ es) ≡ (if b then (if e.thread.0 == t.0 then e ∷ thread_entries c t es else thread_entries c t es) else thread_entries c t es)
    go true is = rw is (thread_first (e.thread.0 == t.0) refl)
    go false is = rw is refl

-- so many calls more: one where the entry is the thread's, else none
calls_more : (c : CpuId) (t : Tid) (e : Entry) (es : List Entry)
    → length (thread_entries c t (e ∷ es)) ≡ (if e.cpu.0 == c.0 then (if e.thread.0 == t.0 then 1 else 0) else 0) + length (thread_entries c t es)
calls_more c t e es = ap length (calls_first c t e es) ∙ go (e.cpu.0 == c.0) (e.thread.0 == t.0)
  where
    go : (b d : Bool) → length (if b then (if d then e ∷ thread_entries c t es else thread_entries c t es) else thread_entries c t es)
        ≡ (if b then (if d then 1 else 0) else 0) + length (thread_entries c t es)
    go true true = omega arith
    go true false = omega arith
    go false d = omega arith

-- one more where it is the thread's
calls_hit : (c : CpuId) (t : Tid) (e : Entry) (es : List Entry) → (e.cpu.0 == c.0) ≡ true → (e.thread.0 == t.0) ≡ true
    → length (thread_entries c t (e ∷ es)) ≡ 1 + length (thread_entries c t es)
calls_hit c t e es here its =
    calls_more c t e es
    ∙ ap (λ (b : Bool). (if b then (if e.thread.0 == t.0 then 1 else 0) else 0) + length (thread_entries c t es)) here
    ∙ ap (λ (b : Bool). (if b then 1 else 0) + length (thread_entries c t es)) its

-- a prefix that contains a list has at least its calls
calls_kept : (c : CpuId) (t : Tid) (pre more : List Entry) (p : ℕ) → length pre ≤ p
    → length (thread_entries c t pre) ≤ length (thread_entries c t (take p (pre ++ more)))
calls_kept c t [] more p long = omega arith
calls_kept c t (e ∷ pre) more zero long = absurd (omega arith)
calls_kept c t (e ∷ pre) more (suc p) long =
    omega (arith, calls_more c t e pre, calls_more c t e (take p (pre ++ more)), calls_kept c t pre more p (omega arith))

-- a call in a list is one more than those before it
calls_within : (c : CpuId) (t : Tid) (pre more : List Entry) (q : ℕ) (e : Entry) → q < length pre → slice_get (pre ++ more) q ≡ Some e → e.cpu.0 ≡ c.0
    → e.thread.0 ≡ t.0 → length (thread_entries c t (take q (pre ++ more))) < length (thread_entries c t pre)
calls_within c t [] more q e within at cpu thread = absurd (omega arith)
calls_within c t (x ∷ pre) more zero e within at cpu thread =
    let same : x ≡ e = cc at in
    let here : (x.cpu.0 == c.0) ≡ true = eq-eqb x.cpu.0 c.0 (ap (λ (y : Entry). y.cpu.0) same ∙ cpu) in
    let its : (x.thread.0 == t.0) ≡ true = eq-eqb x.thread.0 t.0 (ap (λ (y : Entry). y.thread.0) same ∙ thread) in
    let one = calls_hit c t x pre here its in
    omega (arith, one)
calls_within c t (x ∷ pre) more (suc q) e within at cpu thread =
    omega (arith, calls_more c t x pre, calls_more c t x (take q (pre ++ more)), calls_within c t pre more q e (omega arith) at cpu thread)

-- what is in the prefix is before what is not
pub first_before : (c d : CpuId) (t u : Tid) (pre more : List Entry) (i j p q : ℕ) → i < length (thread_entries c t pre) → length (thread_entries d u pre) ≤ j
    → StandsAt c t i (pre ++ more) p → StandsAt d u j (pre ++ more) q → p < q
first_before c d t u pre more i j p q returned begun one other = omega (arith, early, late)
  where
    early : p < length pre
    early = elim (cases_lt p (length pre)) [
      | inl within ↦ within
      | inr beyond ↦ absurd (omega (arith, one.before, returned, calls_kept c t pre more p beyond))
    ]

    late : length pre ≤ q
    late = elim (cases_lt q (length pre)) [
      | inl within ↦ absurd (omega (arith, other.before, begun, calls_within d u pre more q other.entry within other.there other.cpu other.thread))
      | inr beyond ↦ beyond
    ]

pub returned_few : (o : Option Call) (n : ℕ) → returned_with o n ≤ n
returned_few None n = omega arith
returned_few (Some call) n = by_effect (has_none call.effect)
  where
    by_effect : (b : Bool) → (if b then n else n - 1) ≤ n
    by_effect true = omega arith
    by_effect false = omega arith

pub begun_many : (o : Option Call) (n : ℕ) → n ≤ begun_with o n
begun_many None n = omega arith
begun_many (Some call) n = by_effect (has_none call.effect)
  where
    by_effect : (b : Bool) → n ≤ (if b then n + 1 else n)
    by_effect true = omega arith
    by_effect false = omega arith

-- the steps of a schedule, cut in two
orders_append : (setup : SystemConfig) (earlier later : List CpuId) (s : SystemState)
    → order_by_steps setup (earlier ++ later) s ≡ order_by_steps setup earlier s ++ order_by_steps setup later (after_steps setup earlier s)
orders_append setup [] later s = refl
orders_append setup (c ∷ earlier) later s =
    let next : SystemState = (system_step setup c s).next in
    let written : List Entry = drop (length (trace_at c s)) (trace_at c next) in
    ap (λ l. written ++ l) (orders_append setup earlier later next)
    ∙ sym (append_assoc written (order_by_steps setup earlier next) (order_by_steps setup later (after_steps setup earlier next)))

pub table_keeps_real_time : TableKeepsRealTime
table_keeps_real_time setup room earlier later known c d p q here there t u i j m n returned begun one other =
    let boot : SystemState = whole_at_boot setup room in
    let pre : List Entry = order_by_steps setup earlier boot in
    let more : List Entry = order_by_steps setup later (after_steps setup earlier boot) in
    let mine : p.trace ≡ of_cpu c pre = kept_traces setup room earlier known c p here in
    let its : q.trace ≡ of_cpu d pre = kept_traces setup room earlier known d q there in
    let some = returned_few (thread_at p t).call (length (of_thread t.0 p.trace)) in
    let many = begun_many (thread_at q u).call (length (of_thread u.0 q.trace)) in
    let mine_long : length (of_thread t.0 p.trace) ≡ length (thread_entries c t pre) = ap (λ l. length (of_thread t.0 l)) mine in
    let its_long : length (of_thread u.0 q.trace) ≡ length (thread_entries d u pre) = ap (λ l. length (of_thread u.0 l)) its in
    first_before c d t u pre more i j m n (omega (arith, returned, some, mine_long)) (omega (arith, begun, many, its_long))
    (subst (λ (l : List Entry). StandsAt c t i l m) (orders_append setup earlier later boot) one)
    (subst (λ (l : List Entry). StandsAt d u j l n) (orders_append setup earlier later boot) other)
