-- First in, first out, as seen by a user: what was received from each buffer is, in order, what was
-- sent to it, and the rest is left.
use Rattle.std.specs.Prelude.{◌≡◌, ℕ, ◌==◌, List, [], ◌∷◌, ◌++◌, if◌then◌else◌}
use Rattle.event_log.specs.declared.entries.Kind.{Kind, TheVariants.{Send, Recv, Close, SendClosed}}
use Rattle.event_log.specs.declared.entries.{Kind.TheVariants.RecvClosed, Entry.Entry}
use Rattle.event_log.specs.{Messages.Message, Buffers.items_of, Runs.IsLegalHistory}

-- what an effect puts before the messages that are put later: a send its message, each other effect
-- none
abbrev pub put_by : Kind → Message → List Message → List Message
put_by Send value more = value ∷ more
put_by Recv value more = more
put_by Close value more = more
put_by SendClosed value more = more
put_by RecvClosed value more = more

-- what an effect puts before the messages that are taken later: a receive its message, each other
-- effect none
abbrev pub taken_by : Kind → Message → List Message → List Message
taken_by Send value more = more
taken_by Recv value more = value ∷ more
taken_by Close value more = more
taken_by SendClosed value more = more
taken_by RecvClosed value more = more

-- the messages that entries put into buffer b, in order
abbrev pub sent_to : ℕ → List Entry → List Message
sent_to b [] = []
sent_to b (e ∷ es) = if e.buffer.0 == b then put_by e.kind e.value (sent_to b es) else sent_to b es

-- the messages that entries took from buffer b, in order
abbrev pub taken_from : ℕ → List Entry → List Message
taken_from b [] = []
taken_from b (e ∷ es) =
    if e.buffer.0 == b then taken_by e.kind e.value (taken_from b es) else taken_from b es

-- in each buffer: the messages sent are, in order, those received, followed by those left
abbrev pub IsFirstInFirstOut : List Entry → List (List Message) → Type 0
IsFirstInFirstOut es left = (b : ℕ) → sent_to b es ≡ taken_from b es ++ items_of left b

-- this holds of every legal sequential history
abbrev pub ReceivedWasSent : Type 0
ReceivedWasSent =
    (caps : List ℕ) (es : List Entry) (left : List (List Message)) → IsLegalHistory caps es left
    → IsFirstInFirstOut es left
