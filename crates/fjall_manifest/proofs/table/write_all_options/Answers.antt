use Rattle.std.proofs.Common.{◌≡◌, ◌++◌, Err, map, rules, subst, sym, take}
use Rattle.std.specs.List.{flat_map}
use Rattle.fjall_table.specs.Blocks.{IsOrdered}
use Rattle.fjall_meta.specs.declared.living.LivingKeyspace.{LivingKeyspace}
use Rattle.fjall_meta.specs.Entries.{option_entries}
use Rattle.fjall_manifest.specs.Catalog.{table_entry}
use Rattle.fjall_manifest.specs.Updates.{IsWritingRefusal}
use Rattle.fjall_manifest.proofs.Written.{list_refused, next_ordered}
use Rattle.fjall_manifest.proofs.table.write_all_options.Goals as goal

pub write_options-requires : goal.write_options-requires
write_options-requires c =
    let old = c.args.writer.now in
    let keyspaces = c.args.keyspaces.now in
    let i = c.loop-keyspace.keyspace-index in
    rw c.loop-keyspace.invariant (subst (λ (k : LivingKeyspace). IsOrdered ((old ++ map table_entry (flat_map option_entries (take i keyspaces))) ++ map table_entry (option_entries k))) (sym c.keyspace-item.is)
    (next_ordered old option_entries keyspaces i c.keyspace-item.result c.loop-keyspace-test.true c.requires))

pub returns-in_err-write_options-clause-cause : goal.returns-in_err-write_options-clause-cause
returns-in_err-write_options-clause-cause c =
    let e = c.in_err-write_options.field-0.0 in
    let is : c.from_residual.result ≡ Err e = search rules in
    rw is (list_refused option_entries c.args.keyspaces.now c.loop-keyspace.keyspace-index c.keyspace-item.result c.loop-keyspace-test.true e
    (subst (λ (k : LivingKeyspace). IsWritingRefusal (option_entries k) e) c.keyspace-item.is c.in_err-write_options.ensures.cause))
