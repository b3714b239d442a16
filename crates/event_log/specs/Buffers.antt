-- What first-in first-out buffers hold, and what one send, receive or close does to one of them.
-- Capacities are a list by buffer number; contents are a list by buffer number of lists of
-- messages, front first.
use Rattle.std.specs.Prelude.{◌≡◌, ℕ, ◌<◌, Bool, true, false, ◌≤◌, List, [], ◌∷◌, ◌++◌, length, map}
use Rattle.std.specs.Prelude.{drop, Some, slice_get, slice_index_or}
use Rattle.event_log.specs.declared.{ids.TheConstants.CAPACITY, entries.Kind.Kind}
use Rattle.event_log.specs.declared.entries.Kind.TheVariants.{Send, Recv, Close, SendClosed}
use Rattle.event_log.specs.{declared.entries.Kind.TheVariants.RecvClosed, Messages.Message}
use Rattle.event_log.specs.Messages.{no_message}

-- a buffer holds at most `capacity` messages, which is from 1 to CAPACITY
abbrev pub IsCapacity : ℕ → Type 0
IsCapacity capacity = (1 ≤ capacity) × (capacity ≤ CAPACITY)

-- what buffer b holds
abbrev pub items_of : List (List Message) → ℕ → List Message
items_of contents b = slice_index_or contents b []

-- at the start every buffer is empty
abbrev pub empty_buffers : List ℕ → List (List Message)
empty_buffers caps = map (λ _. []) caps

-- When each effect is allowed. A send requires a buffer that is open and has room; a receive of a
-- message requires that message at the front, closed or not. A close is always allowed. A send that
-- returns closed requires a closed buffer; a receive that returns closed requires a closed and
-- empty one.
abbrev pub IsAllowedEffect : Kind → Bool → ℕ → List Message → Message → Type 0
IsAllowedEffect Send closed capacity items message = (closed ≡ false) × (length items < capacity)
IsAllowedEffect Recv closed capacity items message = slice_get items 0 ≡ Some message
IsAllowedEffect Close closed capacity items message = message ≡ no_message
IsAllowedEffect SendClosed closed capacity items message = closed ≡ true
IsAllowedEffect RecvClosed closed capacity items message =
    (closed ≡ true) × (items ≡ []) × (message ≡ no_message)

-- a send puts the message after the others; a receive removes the first; each other effect leaves
-- the items
abbrev pub after_effect : Kind → List Message → Message → List Message
after_effect Send items message = items ++ message ∷ []
after_effect Recv items message = drop 1 items
after_effect Close items message = items
after_effect SendClosed items message = items
after_effect RecvClosed items message = items
