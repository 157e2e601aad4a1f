use Rattle.std.proofs.Common.{◌≡◌, ◌∙◌, ◌++◌, ◌∷◌, [], List, MatchOption, ap, subst}
use Rattle.fjall_jobs.specs.declared.made_table.MadeTable.{MadeTable}
use Rattle.fjall_table.specs.Tables.{IsTable}
use Rattle.fjall_compaction.proofs.Tables.{no_table, one_table}
use Rattle.fjall_compaction.proofs.ingestion.table.make_tables.Goals as goal

pub returns-in_default-clause-made : goal.returns-in_default-clause-made
returns-in_default-clause-made c =
    no_table c.new.result.items c.args.number c.args.items.now c.in_ok-writer.writer c.new.ensures.items
    (subst (λ o. MatchOption o (c.in_ok-writer.writer ≡ []) (λ bytes. IsTable bytes.items c.in_ok-writer.writer)) c.in_default.is c.in_ok-bytes.ensures.table)
    c.in_ok-writer.ensures.written

pub returns-clause-made : goal.returns-clause-made
returns-clause-made c =
    let table : MadeTable = record { bytes = c.in-Some.bytes; entry_count = c.entry_count-entry_count.result } in
    one_table c.push.new.self.items table c.args.number c.args.items.now c.in_ok-writer.writer
    (c.in_ok-push.ensures.items ∙ ap (λ (l : List MadeTable). l ++ table ∷ []) c.new-tables.ensures.items)
    (subst (λ o. MatchOption o (c.in_ok-writer.writer ≡ []) (λ bytes. IsTable bytes.items c.in_ok-writer.writer)) c.in-Some.is c.in_ok-bytes.ensures.table)
    c.entry_count-entry_count.ensures c.in_ok-writer.ensures.written
