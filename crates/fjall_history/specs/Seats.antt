-- What a seat at the word knows.
use Rattle.std.specs.Prelude.{ℕ, []}
use Rattle.std.specs.FinMap.{empty}
use Rattle.atomic_table.specs.Seated.{TableId}
use Rattle.fjall_history.specs.Histories.{History}

-- a seat's table, and the history that it knows
pub record Place : Type 0 where
  pub table : TableId
  pub list : History

-- What a seat is: the first one, before a history is known; the core's; a caller's; or spent.
pub data Kind : Type 0 where
  Fresh : Kind
  Leads : Kind
  Follows : Kind
  Gone : Kind

-- what a seat knows: a history, and beside it one that another seat knew
pub record Known : Type 0 where
  pub kind : Kind
  pub list : History
  pub aside : History

-- nothing was accepted yet, and this is the visible number
abbrev pub unwritten : ℕ → History
unwritten n = record { opened = record { names = empty; maps = empty; options = empty; next = 0 }; base = n; accepted = [] }

-- the first seat, which knows the visible number alone
abbrev pub newcomer : ℕ → Known
newcomer n = record { kind = Fresh; list = unwritten n; aside = unwritten n }

-- the core's seat, beside another history
abbrev pub leading : History → History → Known
leading h g = record { kind = Leads; list = h; aside = g }

-- the core's seat
abbrev pub leader : History → Known
leader h = leading h h

-- a caller's seat, beside another history
abbrev pub following : History → History → Known
following h g = record { kind = Follows; list = h; aside = g }

-- a caller's seat
abbrev pub follower : History → Known
follower h = following h h

-- a seat that was joined into another
abbrev pub gone : Known
gone = record { kind = Gone; list = unwritten 0; aside = unwritten 0 }

-- a caller's seat that has seen what this one knows
abbrev pub seen_of : Known → Known
seen_of v = follower v.list

-- this seat, beside what another knew
abbrev pub beside : Known → Known → Known
beside v w = record v { aside = w.list }
