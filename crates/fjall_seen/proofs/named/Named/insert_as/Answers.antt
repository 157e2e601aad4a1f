use Rattle.std.proofs.Common.{sym, subst, [], ◌∷◌}
use Rattle.std.specs.Prelude.{IfErr, OnOk}
use Rattle.fjall_journal.specs.declared.op.Op.TheVariants.{Put}
use Rattle.fjall_history.specs.Histories.{latest}
use Rattle.fjall_history.specs.Seats.{Place}
use Rattle.fjall_seen.specs.Told.{EndsWithWrite, IsChangeCause}
use Rattle.fjall_seen.proofs.Seeing.{write_cause, wrote}
use Rattle.fjall_seen.proofs.named.Named.insert_as.Goals as goal

pub returns-clause-last : goal.returns-clause-last
returns-clause-last g c =
    subst (λ (p : Place). OnOk c.insert-result.result (EndsWithWrite p.list (c.args.id, c.args.key.now, Put c.args.value.now))) (sym c.show.ensures.shown)
    (wrote (c.args.id, c.args.key.now, Put c.args.value.now) c.insert-result.result _ _ c.insert-result.ensures.makes.list)

pub returns-clause-cause : goal.returns-clause-cause
returns-clause-cause g c honest =
    subst (λ (p : Place). IfErr c.insert-result.result (IsChangeCause (latest p.list) ((c.args.id, c.args.key.now, Put c.args.value.now) ∷ []))) (sym c.show.ensures.shown)
    (write_cause g.D.Disk.honest _ _ (c.args.id, c.args.key.now, Put c.args.value.now) c.insert-result.result honest c.insert-result.ensures)
