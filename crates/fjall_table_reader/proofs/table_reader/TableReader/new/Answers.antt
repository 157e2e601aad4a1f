use Rattle.std.proofs.Common.{ap, map, sym, subst, ◌∙◌}
use Rattle.std.specs.Option.{option_map}
use Rattle.fjall_table_reader.specs.Files.{handles_in, name_of}
use Rattle.fjall_table.proofs.Indexes.{is_index}
use Rattle.fjall_table_reader.specs.Readers.{IsCountedReader, Reader}
use Rattle.fjall_table_reader.proofs.Readers.{none_is, reads_new, unread_counted}
use Rattle.fjall_table_reader.proofs.table_reader.TableReader.new.Goals as goal

pub returns-clause-ok : goal.returns-clause-ok
returns-clause-ok c =
    let f = c.args.file in
    let recent = ap (map (option_map (λ b. b.value))) c.in_ok-recent.ensures.none ∙ none_is (λ b. b.value) (handles_in f) c.block_count.result c.block_count.ensures in
    let older = ap (map (option_map (λ b. b.value))) c.in_ok-older.ensures.none ∙ none_is (λ b. b.value) (handles_in f) c.block_count-2.result c.block_count-2.ensures in
    λ i. record { name = name_of f; info = f.info; handles = handles_in f; recent = recent i; older = older i }

pub invariant_of-result : goal.invariant_of-result
invariant_of-result c =
    let f = c.args.file in
    subst (λ (t : Reader). IsCountedReader 0 0 t) (sym (returns-clause-ok c)) (unread_counted (name_of f) f.info (handles_in f) (is_index (handles_in f) f.index.data_len f.index.covers).ascend)

pub returns-clause-reads : goal.returns-clause-reads
returns-clause-reads c disk entries holds is = reads_new disk _ entries (returns-clause-ok c) holds is
