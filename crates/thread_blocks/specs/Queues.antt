-- Queues of threads: lists of distinct threads, the first one first.
use Rattle.std.specs.Prelude.{◌≡◌, ◌<◌, ◌==◌, Bool, true, false, List, [], ◌∷◌, Option, Some, None}
use Rattle.std.specs.{Prelude.if◌then◌else◌, List.{list_any, IsDistinct}}
use Rattle.event_log.specs.declared.ids.{Tid.Tid, TheConstants.THREADS}

-- whether two threads are one
abbrev pub same_tid : Tid → Tid → Bool
same_tid a b = a.0 == b.0

-- whether the thread is in the queue
abbrev pub is_in : Tid → List Tid → Bool
is_in t queue = list_any (same_tid t) queue

-- the thread at the front
abbrev pub first : List Tid → Option Tid
first [] = None
first (t ∷ queue) = Some t

-- the threads after the first
abbrev pub rest : List Tid → List Tid
rest [] = []
rest (t ∷ queue) = queue

-- the queue without the thread, wherever the thread was
abbrev pub without : Tid → List Tid → List Tid
without t [] = []
without t (x ∷ queue) = if same_tid t x then without t queue else x ∷ without t queue

-- no thread is in it twice, and each is one of the machine's
abbrev pub IsQueue : List Tid → Type 0
IsQueue queue = IsDistinct same_tid queue × ((t : Tid) → is_in t queue ≡ true → t.0 < THREADS)

-- no thread is in both
abbrev pub AreApart : List Tid → List Tid → Type 0
AreApart one other = (t : Tid) → is_in t one ≡ true → is_in t other ≡ false
