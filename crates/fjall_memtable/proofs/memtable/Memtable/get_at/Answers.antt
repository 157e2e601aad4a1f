use Rattle.std.proofs.Common.{ℕ, ap, sym, ◌∙◌, List, slice_get}
use Rattle.fjall_table.specs.Blocks.{Entry}
use Rattle.fjall_table.specs.Tables.{versions_at}
use Rattle.fjall_memtable.specs.Entries.{entries_kept}
use Rattle.fjall_memtable.proofs.Finds.{none_at_zero}
use Rattle.fjall_memtable.proofs.memtable.Memtable.get_at.Goals as goal

pub returns-then-is_empty : goal.returns-then-is_empty
returns-then-is_empty c = sym (ap (λ (es : List Entry). slice_get (versions_at c.args.key.now c.args.instant es) 0) (c.is_empty.ensures.0 c.if-is_empty.true))

pub returns-then-instant-eq0 : goal.returns-then-instant-eq0
returns-then-instant-eq0 c =
    let es = entries_kept c.args.self.now in
    sym (ap (λ (n : ℕ). slice_get (versions_at c.args.key.now n es) 0) c.if-instant-eq0.true ∙ ap (λ (xs : List Entry). slice_get xs 0) (none_at_zero c.args.key.now es))
