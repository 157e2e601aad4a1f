use Rattle.std.proofs.Common.{◌≡◌, sym, subst}
use Rattle.std.specs.Prelude.{IfErr, IfOk}
use Rattle.fjall_base.specs.Pairs.{lookup}
use Rattle.fjall_base.specs.Store.{map_at}
use Rattle.fjall_history.specs.Histories.{latest}
use Rattle.fjall_history.specs.Seats.{Place}
use Rattle.fjall_seen.specs.Told.{IsReadCause}
use Rattle.fjall_seen.proofs.Seeing.{get_cause, read_now}
use Rattle.fjall_seen.proofs.named.Named.get_as.Goals as goal

pub returns-clause-value : goal.returns-clause-value
returns-clause-value g c honest =
    subst (λ (p : Place). IfOk c.get_at-result.result (λ found. found ≡ lookup (map_at (latest p.list).maps c.args.id) c.args.key.now)) (sym c.show.ensures.shown)
    (read_now g.D.Disk.honest _ _ c.args.id c.args.key.now c.get_at-result.result honest c.get_at-result.ensures)

pub returns-clause-cause : goal.returns-clause-cause
returns-clause-cause g c honest =
    subst (λ (p : Place). IfErr c.get_at-result.result (IsReadCause (latest p.list) c.args.id)) (sym c.show.ensures.shown)
    (get_cause g.D.Disk.honest _ _ c.args.id c.args.key.now c.get_at-result.result honest c.get_at-result.ensures)
