use Rattle.std.proofs.Common.{◌≡◌, ◌∙◌, ◌++◌, ◌∷◌, List, ℕ, [], ap, rules, subst, sym}
use Rattle.fjall_base.specs.Disk.{IsFile, Meaning}
use Rattle.fjall_base.specs.declared.error.Error.TheVariants.{OutOfMemory}
use Rattle.fjall_table_reader.specs.Readers.{Reader, Reads}
use Rattle.fjall_jobs.specs.Sequences.{IsMadeTable}
use Rattle.fjall_table.specs.Blocks.{Entry}
use Rattle.fjall_table_reader.specs.Files.{bytes_in, entry_at}
use Rattle.fjall_compaction.specs.FlushPlans.{AreReadersOf, IsNamed}
use Rattle.fjall_compaction.proofs.FlushReading.{first_made, one_reader}
use Rattle.fjall_compaction.proofs.readers.table_readers.Goals as goal

pub returns-in_err-reader-clause-only : goal.returns-in_err-reader-clause-only
returns-in_err-reader-clause-only c lists made =
    let there = first_made c.args.tables.now lists c.in-Some-first.table.now made c.in-Some-first.ensures.value in
    let only : c.in_err-reader.field-0.0 ≡ OutOfMemory = c.in_err-reader.ensures.only there.0 there.1 in
    search rules

pub returns-clause-readers : goal.returns-clause-readers
returns-clause-readers c = λ id named.
    let tables = c.args.tables.now in
    let table = c.in-Some-first.table.now in
    let reader = c.in_ok-reader.field-0 in
    let items = c.in_ok-push.ensures.items ∙ ap (λ (l : List Reader). l ++ reader ∷ []) c.new-readers.ensures.items in
    let reads =
    subst (λ (n : List ℕ). (disk : Meaning) (entries : List Entry) → IsMadeTable table entries → IsFile (entry_at disk n) → bytes_in (entry_at disk n) ≡ table.bytes.items → Reads disk reader entries)
    c.as_str.ensures.value c.in_ok-reader.ensures.reads in
    subst (AreReadersOf id c.args.next tables) (sym items)
    (one_reader id c.args.next tables c.in-Some.name table reader (subst (IsNamed id c.args.next tables) c.in-Some.is named) c.in-Some-first.ensures.value
    (c.in_ok-reader.ensures.name ∙ c.as_str.ensures.value) c.in_ok-reader.ensures.info reads)
