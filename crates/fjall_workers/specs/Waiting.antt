-- Messages that wait for workers.
use Rattle.std.specs.Prelude.{ℕ, Bool, List, [], ◌∷◌, ◌++◌, Option, Some, true, false, not, ◌&&◌, ◌||◌, if◌then◌else◌, nat_eq, nat_lt, ◌≤◌, length, drop, slice_get, count_by}
use Rattle.std.specs.List.{list_any}
use Rattle.fjall_workers.specs.declared.message.WorkerMessage.{WorkerMessage}
use Rattle.fjall_workers.specs.declared.message.WorkerMessage.TheVariants.{RotateMemtable, Close}

-- what waits, the oldest message first, and whether the workers are to end
pub record Waiting : Type 0 where
  pub messages : List WorkerMessage
  pub closed : Bool

-- whether a message seals the memtable of this keyspace
abbrev pub seals : ℕ → WorkerMessage → Bool
seals id (RotateMemtable other) = nat_eq id other
seals id _ = false

-- no memtable waits to be sealed twice
pub record EachSealedOnce (messages : List WorkerMessage) : Type 0 where
  pub seals_of : (id : ℕ) → count_by (seals id) messages ≤ 1

-- whether what a message asks waits already: the sealing of a memtable alone isn't asked twice
abbrev pub is_asked : WorkerMessage → List WorkerMessage → Bool
is_asked (RotateMemtable id) messages = list_any (seals id) messages
is_asked _ messages = false

-- whether there is room for one more message
abbrev pub has_room : List WorkerMessage → Bool
has_room messages = nat_lt (length messages) 1000

-- whether a message waits once it is sent
abbrev pub waits_then : WorkerMessage → Waiting → Bool
waits_then Close w = true
waits_then message w = not w.closed && (is_asked message w.messages || has_room w.messages)

-- what waits once a message is sent: a close takes the place of all, and any other stands behind all, where it stands at all
abbrev pub with_message : WorkerMessage → Waiting → Waiting
with_message Close w = record { messages = []; closed = true }
with_message message w =
    if not w.closed && not (is_asked message w.messages) && has_room w.messages then record w { messages = w.messages ++ message ∷ [] } else w

-- the message that is taken next
abbrev pub message_taken : Waiting → Option WorkerMessage
message_taken w = if w.closed then Some Close else slice_get w.messages 0

-- what waits then
abbrev pub rest_of : Waiting → Waiting
rest_of w = if w.closed then w else record w { messages = drop 1 w.messages }
