-- A database from its files on to its closing, as contracts see it.
use Rattle.std.specs.Prelude.{List, Option, Some, None}
use Rattle.fjall_base.specs.Disk.{Meaning}
use Rattle.fjall_disk_memory.specs.MemoryDisk.{meaning_in}
use Rattle.fjall_core.specs.Holding.{Held}
use Rattle.fjall_core.specs.Transactions.{Kept, Tx}
use Rattle.fjall_c.specs.declared.session.Session.{Session}
use Rattle.fjall_c.specs.declared.session.opened.Opened.{Opened}
use Rattle.fjall_c.specs.declared.session.place.Place.{Place}
use Rattle.fjall_c.specs.declared.session.place.Place.TheVariants.{Files, Open}

-- What a database has that is open: its engine, what is kept of the transactions that committed, and those that its caller began and
-- hasn't ended.
pub record Live : Type 0 where
  pub engine : Held
  pub kept : Kept
  pub going : List Tx

abbrev pub live : Opened → Live
live opened = record { engine = opened.core.engine; kept = opened.core.transactions; going = opened.going.items }

abbrev pub live_in : Place → Option Live
live_in (Open opened) = Some (live opened.value)
live_in place = None

-- what a session's database has, where it is open
abbrev pub live_of : Session → Option Live
live_of session = live_in session.place

abbrev pub files_in : Place → Option Meaning
files_in (Files files) = Some (meaning_in files)
files_in place = None

-- what a session's disk holds that it was told of, where its database wasn't opened yet
abbrev pub files_of : Session → Option Meaning
files_of session = files_in session.place
