use Rattle.std.proofs.Common.{List, ◌∙◌, refl, sym, subst}
use Rattle.fjall_base.specs.Disk.{state_in}
use Rattle.fjall_files.specs.Lists.{AreIds, IsTableIn}
use Rattle.fjall_files.specs.Names.{keyspace_folder}
use Rattle.fjall_repair.proofs.Tables.{tables_ok}
use Rattle.fjall_repair.proofs.plan.list_tables.Goals as goal

pub returns-clause-found : goal.returns-clause-found
returns-clause-found g c honest =
    tables_ok (state_in (g.D.Disk.meaning c.args.disk.now)) c.args.id c.args.named.now c.in_ok-folder.folder.entries.items c.deref.result.now c.deref-2.result.now (keyspace_folder c.args.id) c.other_names.result
    (c.in_ok-folder.ensures.found honest) refl (c.deref.ensures.value ∙ c.in_ok-files.ensures.files)
    (subst (λ (l : List _). AreIds (IsTableIn (keyspace_folder c.args.id)) c.deref.result.now l) (sym c.deref-2.ensures.value) c.in_ok-ids.ensures.ids) c.other_names.ensures.names
