use Rattle.std.proofs.Common.{sym, subst}
use Rattle.std.specs.Prelude.{IfOk}
use Rattle.fjall_history.specs.Histories.{latest}
use Rattle.fjall_history.specs.Seats.{Place}
use Rattle.fjall_seen.specs.Told.{HasName}
use Rattle.fjall_seen.proofs.Seeing.{named_now}
use Rattle.fjall_seen.proofs.named.Named.keyspace_as.Goals as goal

pub returns-clause-named : goal.returns-clause-named
returns-clause-named g c honest =
    subst (λ (p : Place). IfOk c.keyspace-result.result (HasName (latest p.list) c.args.name.now)) (sym c.show.ensures.shown)
    (named_now g.D.Disk.honest _ _ c.args.name.now c.args.options c.keyspace-result.result honest c.keyspace-result.ensures)
