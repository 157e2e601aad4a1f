use Rattle.std.proofs.Common.{◌++◌, map, subst, sym, take}
use Rattle.fjall_table.specs.Writing.{FollowsEntries}
use Rattle.fjall_meta.specs.declared.living.LivingKeyspace.{LivingKeyspace}
use Rattle.fjall_meta.specs.Entries.{name_entry}
use Rattle.fjall_manifest.specs.Catalog.{table_entry}
use Rattle.fjall_manifest.proofs.Written.{next_follows}
use Rattle.fjall_manifest.proofs.table.write_all_names.Goals as goal

pub write_name-requires : goal.write_name-requires
write_name-requires c =
    let old = c.args.writer.now in
    let keyspaces = c.args.keyspaces.now in
    let i = c.loop-keyspace.keyspace-index in
    rw c.loop-keyspace.invariant (subst (λ (k : LivingKeyspace). FollowsEntries (old ++ map table_entry (map name_entry (take i keyspaces))) (table_entry (name_entry k))) (sym c.keyspace-item.is)
    (next_follows old name_entry keyspaces i c.keyspace-item.result c.loop-keyspace-test.true c.requires))
