use Rattle.std.proofs.Common.{◌≡◌, ◌∙◌, subst, IfOk}
use Rattle.fjall_base.specs.Disk.{Name}
use Rattle.fjall_files.specs.Lists.{AreIds, IsTableIn}
use Rattle.fjall_files.specs.Names.{keyspace_folder}
use Rattle.fjall_files.proofs.lists.tables.Goals as goal

pub returns-clause-ids : goal.returns-clause-ids
returns-clause-ids c =
    let named : c.as_str.result.now ≡ keyspace_folder c.args.id = c.as_str.ensures.value ∙ c.in_ok-folder.ensures.name in
    subst (λ (folder : Name). IfOk c.ids_of.result (λ tables. AreIds (IsTableIn folder) c.args.listed.now tables.items)) named c.ids_of.ensures.ids
