-- Threads in lists, by count.
use Rattle.std.proofs.Common.{◌≡◌, ◌+◌, ◌<◌, true, false, List, [], ◌∷◌, ◌++◌, Option, Some, option_to_list, ap, sym, ◌∙◌, arith, add_assoc, zero-add}
use Rattle.event_log.{specs.{declared.ids.{CpuId.CpuId, Tid.Tid}, History.same_cpu}, proofs.Same.{same_cpu_self, same_cpu_true}}
use Rattle.{thread_blocks.{specs.Queues.{same_tid, is_in, first, rest}, proofs.Members.same_tid_self}, layer_traits.specs.Threads.RunQueue.joins}
use Rattle.layer_traits.specs.Threads.Places.{is_cpu, is_thread, one_if, count_in}

pub same_tid_sym : (t u : Tid) → same_tid t u ≡ same_tid u t
same_tid_sym t u = grind arith

pub same_cpu_sym : (c d : CpuId) → same_cpu c d ≡ same_cpu d c
same_cpu_sym c d = grind arith

pub is_cpu_true : (c : CpuId) (home : Option CpuId) → is_cpu c home ≡ true → home ≡ Some c
is_cpu_true c home is = grind (arith, same_cpu_true)

pub is_cpu_of : (c : CpuId) (home : Option CpuId) → home ≡ Some c → is_cpu c home ≡ true
is_cpu_of c home is = ap (is_cpu c) is ∙ same_cpu_self c

-- a thread's home is only one CPU
pub is_cpu_other : (c d : CpuId) (home : Option CpuId) → same_cpu c d ≡ false → is_cpu c home ≡ true → is_cpu d home ≡ false
is_cpu_other c d home other is = ap (is_cpu d) (is_cpu_true c home is) ∙ (same_cpu_sym d c ∙ other)

pub is_thread_self : (t : Tid) (o : Option Tid) → o ≡ Some t → is_thread t o ≡ true
is_thread_self t o is = ap (is_thread t) is ∙ same_tid_self t

pub count_append : (t : Tid) (p q : List Tid) → count_in t (p ++ q) ≡ count_in t p + count_in t q
count_append t [] q = sym (zero-add (count_in t q))
count_append t (x ∷ p) q = ap (λ n. one_if (same_tid t x) + n) (count_append t p q) ∙ sym (add_assoc (one_if (same_tid t x)) (count_in t p) (count_in t q))

-- how often a thread is in a list that another one joined
pub count_other : (t u : Tid) → same_tid u t ≡ false → one_if (same_tid t u) ≡ 0
count_other t u other = ap one_if (same_tid_sym t u ∙ other)

pub count_behind : (t u : Tid) (q : List Tid) → same_tid u t ≡ false → count_in t (q ++ u ∷ []) ≡ count_in t q
count_behind t u q other = omega (arith, count_other t u other, count_append t q (u ∷ []))

pub count_as_list : (t : Tid) (o : Option Tid) → count_in t (option_to_list o) ≡ one_if (is_thread t o)
count_as_list t o = grind (arith, same_tid_sym)

-- the head and the rest are the whole
pub count_front : (t : Tid) (q : List Tid) → one_if (is_thread t (first q)) + count_in t (rest q) ≡ count_in t q
count_front t q = grind (arith, same_tid_sym)

-- what joins the run queue is counted in it
pub count_joins : (t : Tid) (threads ready : List Tid) → count_in t (joins threads ready) ≡ count_in t ready + count_in t threads
count_joins t threads ready = count_append t ready threads

-- a thread in a list is counted, and the converse
pub in_counted : (t : Tid) (q : List Tid) → is_in t q ≡ true → 0 < count_in t q
in_counted t [] is = absurd cc
in_counted t (x ∷ q) is = grind (arith, in_counted t q)

pub not_counted : (t : Tid) (q : List Tid) → count_in t q ≡ 0 → is_in t q ≡ false
not_counted t q none = grind (arith, in_counted t q)
