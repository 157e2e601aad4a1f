-- A handle through which its session is lent.
use base.Fml.{Fml}
use denote.Ref.{MutBor}
use denote.Follow.{follows}
use Rattle.fjall_c.specs.contracts.session.Session.{the_row as session_row}
use Rattle.fjall_c.specs.declared.session.Session.{Session}
use Rattle.fjall_c.specs.declared.handle.Database.{Database}
use Rattle.fjall_c.specs.contracts.handle.Database.{the_row}

-- the handle with another session behind it
abbrev pub with_session : Database → Session → Database
with_session database session = record database { session = session }

-- once the borrow ends, the session behind the handle is the last one written through it
abbrev pub LendsSession : MutBor Database → MutBor Session → Fml
LendsSession database lent = follows the_row session_row database.ghost_name lent.ghost_name (with_session database.now)
