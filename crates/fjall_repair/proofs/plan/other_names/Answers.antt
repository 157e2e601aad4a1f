use Rattle.std.proofs.Common.{map, ◌∷◌, [], ◌∙◌, ap, sym}
use Rattle.std.specs.Prelude.{string_bytes}
use Rattle.std.proofs.lemmas.List.{map-append}
use Rattle.fjall_repair.proofs.Tables.{one_other, the_named}
use Rattle.fjall_repair.proofs.plan.other_names.Goals as goal
use Rattle.fjall_repair.proofs.plan.other_names.Goals.{then-not-names_table+in_ok-table_name+in_ok-push, else-not-names_table}

pub loop-table-preserved : goal.loop-table-preserved
loop-table-preserved c = elim c.if-not-names_table.branch [
  | then-not-names_table+in_ok-table_name+in_ok-push w ↦
      one_other c.args.id c.args.named.now c.args.ids.now c.loop-table.table-index _ c.loop-table-test.true (map string_bytes c.loop-table.names.items) (map string_bytes c.if-not-names_table.names.items) (string_bytes w.in_ok-table_name.field-0) c.loop-table.invariant
      (ap (λ v. map string_bytes v.items) w.names-is ∙ ap (λ l. map string_bytes l) w.in_ok-push.ensures.items ∙ map-append string_bytes c.loop-table.names.items (w.in_ok-table_name.field-0 ∷ [])) w.in_ok-table_name.ensures.name (sym c.names_table.ensures ∙ w.if-not-names_table.true)
  | else-not-names_table w ↦
      ap (λ v. map string_bytes v.items) w.names-is
      ∙ the_named c.args.id c.args.named.now c.args.ids.now c.loop-table.table-index _ c.loop-table-test.true (map string_bytes c.loop-table.names.items) c.loop-table.invariant (sym c.names_table.ensures ∙ w.if-not-names_table.false)
]
