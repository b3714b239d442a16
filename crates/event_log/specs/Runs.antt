-- Runs: legal sequential histories of first-in first-out buffers, in which a send, a receive or a
-- close is a single step.
use Rattle.std.specs.Prelude.{◌≡◌, ℕ, ◌<◌, Bool, true, false, ◌&&◌, ◌==◌, List, [], ◌∷◌, ◌++◌}
use Rattle.std.specs.Prelude.{length, nat_lt, count_by, slice_index, slice_set}
use Rattle.event_log.specs.declared.entries.Kind.{Kind, TheVariants.{Send, Recv, Close, SendClosed}}
use Rattle.event_log.specs.declared.entries.{Kind.TheVariants.RecvClosed, Entry.Entry}
use Rattle.event_log.specs.{Messages.Message, Buffers.{items_of, empty_buffers, IsAllowedEffect}}
use Rattle.event_log.specs.Buffers.{after_effect}

-- the effects that are counted together: a send that found its buffer closed is a send, and a
-- receive that did is a receive
pub data Group : Type 0 where
  Sends : Group
  Receives : Group
  Closes : Group

abbrev pub group_of : Kind → Group
group_of Send = Sends
group_of SendClosed = Sends
group_of Recv = Receives
group_of RecvClosed = Receives
group_of Close = Closes

abbrev pub same_group : Group → Group → Bool
same_group Sends Sends = true
same_group Receives Receives = true
same_group Closes Closes = true
same_group Sends Receives = false
same_group Sends Closes = false
same_group Receives Sends = false
same_group Receives Closes = false
same_group Closes Sends = false
same_group Closes Receives = false

-- whether effects of two kinds are counted together
abbrev pub kind_eq : Kind → Kind → Bool
kind_eq a b = same_group (group_of a) (group_of b)

-- how many of the entries are of buffer b
abbrev pub count_of : List Entry → ℕ → ℕ
count_of entries b = count_by (λ e. e.buffer.0 == b) entries

-- how many of the entries are of buffer b and are counted with this kind
abbrev pub count_of_kind : List Entry → ℕ → Kind → ℕ
count_of_kind entries b kind = count_by (λ e. (e.buffer.0 == b) && kind_eq e.kind kind) entries

-- whether the entries have closed buffer b
abbrev pub is_closed : List Entry → ℕ → Bool
is_closed entries b = nat_lt 0 (count_of_kind entries b Close)

-- after the earlier entries, with these contents, e may follow. Its effect is allowed, its op is
-- the number of earlier entries of its buffer. Its pos is the number of those of its buffer that
-- are counted with it
pub record IsNext (caps : List ℕ) (earlier : List Entry) (contents : List (List Message))
    (e : Entry) : Type 0 where
  pub known : e.buffer.0 < length caps
  pub allowed : IsAllowedEffect e.kind (is_closed earlier e.buffer.0) (slice_index caps e.buffer.0)
      (items_of contents e.buffer.0) e.value
  pub op : e.op ≡ count_of earlier e.buffer.0
  pub pos : e.pos ≡ count_of_kind earlier e.buffer.0 e.kind

-- the contents after an entry
abbrev pub after_entry : List (List Message) → Entry → List (List Message)
after_entry contents e =
    slice_set contents e.buffer.0 (after_effect e.kind (items_of contents e.buffer.0) e.value)

-- the contents after entries, from these on
abbrev pub contents_from : List (List Message) → List Entry → List (List Message)
contents_from contents [] = contents
contents_from contents (e ∷ es) = contents_from (after_entry contents e) es

-- the contents after entries, from empty buffers on
abbrev pub contents_after : List ℕ → List Entry → List (List Message)
contents_after caps es = contents_from (empty_buffers caps) es

-- after the earlier entries, with these contents, the entries are legal one after the other, and
-- leave what is left
abbrev pub IsRunFrom : List ℕ → List Entry → List (List Message) → List Entry → List (List Message)
    → Type 0
IsRunFrom caps earlier contents [] left = contents ≡ left
IsRunFrom caps earlier contents (e ∷ es) left =
    IsNext caps earlier contents e
    × IsRunFrom caps (earlier ++ e ∷ []) (after_entry contents e) es left

-- the entries are a legal sequential history from empty buffers on, which ends in what is left
abbrev pub IsLegalHistory : List ℕ → List Entry → List (List Message) → Type 0
IsLegalHistory caps es left = IsRunFrom caps [] (empty_buffers caps) es left
