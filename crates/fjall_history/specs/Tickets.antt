-- The tickets of snapshots: which are open, at which instants, and below which number none of them reads.
use Rattle.std.specs.Prelude.{◌≡◌, ℕ, ◌+◌, ◌-◌, ◌<◌, ◌≤◌, ◌==◌, ◌^◌, Bool, max, min, if◌then◌else◌, List, [], ◌∷◌, length, nat_eq, Option, None, Some}
use Rattle.std.specs.Coded.{Coded, coded_ℕ}
use Rattle.std.specs.List.{count_by}
use Rattle.std.specs.Ordering.{nat_cmp}
use Rattle.std.specs.FinMap.{FinMap, code, contains_key, empty, get, insert, len, remove, values}
use Rattle.fjall_base.specs.declared.error.Error.{Error}
use Rattle.fjall_base.specs.declared.error.Error.TheVariants.{NumbersUsedUp, OutOfMemory, SnapshotClosed}
use Rattle.fjall_history.specs.Trackers.{IsSoundTracker, Tracker}

-- The open tickets by their ids, each with the instant at which it reads; the id of the next one, so that none is given
-- twice; the watermark, below which no open ticket reads; and how many were closed since the last ten-thousandth closing.
pub record Tickets : Type 0 where
  pub instants : FinMap nat_cmp ℕ
  pub next : ℕ
  pub watermark : ℕ
  pub closings : ℕ

-- none was given out yet
abbrev pub no_tickets : Tickets
no_tickets = record { instants = empty; next = 0; watermark = 0; closings = 0 }

-- whether the ticket of this id is open
abbrev pub is_open : Tickets → ℕ → Bool
is_open t id = contains_key t.instants id

-- the least of a number and these instants
abbrev pub least : ℕ → List ℕ → ℕ
least number [] = number
least number (instant ∷ instants) = min instant (least number instants)

-- The watermark rises to one below the least open instant or, with none open, the visible number: to 0 where that is 0. It
-- never falls.
abbrev pub collected : ℕ → Tickets → Tickets
collected visible t = record t { watermark = max t.watermark (least visible (values t.instants) - 1) }

-- a ticket more is open, at this instant
abbrev pub opened : ℕ → Tickets → Tickets
opened instant t = record t { instants = insert t.instants t.next instant; next = t.next + 1 }

-- a closing is counted, and the ten-thousandth collects
abbrev pub counted : ℕ → Tickets → Tickets
counted visible t = if t.closings + 1 == 10000 then collected visible (record t { closings = 0 }) else record t { closings = t.closings + 1 }

-- the ticket of this id, which was open, is closed
abbrev pub closed : ℕ → ℕ → Tickets → Tickets
closed visible id t = counted visible (record t { instants = remove t.instants id })

-- ids end at the greatest u64, which is given to none
abbrev pub ids_used_up : Tickets → Bool
ids_used_up t = t.next == 2 ^ 64 - 1

-- ---- refusals

-- why no ticket is opened
abbrev pub opening_refusal : Tickets → Option Error
opening_refusal t = if ids_used_up t then Some NumbersUsedUp else None

-- why none is opened where the ticket of this id reads
abbrev pub cloning_refusal : ℕ → Tickets → Option Error
cloning_refusal id t = if is_open t id then opening_refusal t else Some SnapshotClosed

-- why the ticket of this id isn't closed
abbrev pub closing_refusal : ℕ → Tickets → Option Error
closing_refusal id t = if is_open t id then None else Some SnapshotClosed

-- the refusal is the one that is due and, where none is, memory ran out
abbrev pub IsDueOrMemory : Option Error → Error → Type 0
IsDueOrMemory (Some first) error = error ≡ first
IsDueOrMemory None error = error ≡ OutOfMemory

-- ---- the tracker of their instants

-- the visible number, and the tickets that read up to it
pub record Tracked : Type 0 where
  pub visible : ℕ
  pub tickets : Tickets

-- how maps from ids to instants are told apart
abbrev pub instants_code : Coded (FinMap nat_cmp ℕ)
instants_code = code coded_ℕ coded_ℕ

-- how often an instant is among these
abbrev pub times_among : List ℕ → ℕ → ℕ
times_among instants instant = count_by (nat_eq instant) instants

-- the tickets with these instants, where a tracker has the watermark and counts the closings
abbrev pub tickets_of : Tracker → FinMap nat_cmp ℕ → ℕ → Tickets
tickets_of tracker instants next = record { instants = instants; next = next; watermark = tracker.watermark; closings = tracker.closings }

abbrev pub tracked : Tracker → FinMap nat_cmp ℕ → ℕ → Tracked
tracked tracker instants next = record { visible = tracker.visible; tickets = tickets_of tracker instants next }

-- The tracker has the instants of the open tickets, each as often as tickets read there. Ids were given out below the next one.
pub record AreTracked (tracker : Tracker) (instants : FinMap nat_cmp ℕ) (next : ℕ) : Type 0 where
  pub sound : IsSoundTracker tracker
  pub same : (instant : ℕ) → times_among tracker.instants instant ≡ times_among (values instants) instant
  pub as_many : length tracker.instants ≡ len instants
  pub given : (id instant : ℕ) → get instants id ≡ Some instant → id < next
  pub few : len instants ≤ next
