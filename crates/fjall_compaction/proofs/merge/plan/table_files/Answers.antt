use Rattle.std.proofs.Common.{◌++◌, ◌∷◌, [], ap, ◌∙◌, map, string_bytes, sym, take_all}
use Rattle.std.proofs.lemmas.List.{map_more, map_push}
use Rattle.fjall_files.specs.Names.{table_name}
use Rattle.fjall_table.specs.declared.table_info.TableInfo.{TableInfo}
use Rattle.fjall_compaction.proofs.merge.plan.table_files.Goals as goal

pub loop-table-init : goal.loop-table-init
loop-table-init c = ap (map string_bytes) c.new-files.ensures.items

pub loop-table-preserved : goal.loop-table-preserved
loop-table-preserved c =
    ap (map string_bytes) c.in_ok-push.ensures.items
    ∙ map_push string_bytes c.loop-table.files.items c.in_ok-table_name.field-0
    ∙ (λ k. c.loop-table.invariant k ++ c.in_ok-table_name.ensures.name k ∷ [])
    ∙ sym (map_more (λ (t : TableInfo). table_name c.args.id t.id) c.args.tables.now c.loop-table.table-index _ c.loop-table-test.true)

pub returns-clause-named : goal.returns-clause-named
returns-clause-named c = c.loop-table.invariant ∙ ap (map (λ (t : TableInfo). table_name c.args.id t.id)) (take_all c.loop-table.table-index c.args.tables.now c.loop-table-test.false)
