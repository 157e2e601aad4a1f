use Rattle.std.proofs.Common.{◌≡◌, Option, sym, subst}
use Rattle.std.specs.Option.{option_map}
use Rattle.std.specs.Result.{IfOk}
use Rattle.fjall_table.specs.Blocks.{Entry, seen}
use Rattle.fjall_memtable.specs.Entries.{entries_kept}
use Rattle.fjall_memtable.proofs.SortedRanges.{newest_first}
use Rattle.fjall_memtable.proofs.part.Part.newest.Goals as goal

pub returns : goal.returns
returns c =
    let m = c.args.self.now in
    subst (λ (o : Option Entry). IfOk c.get_at.result (λ found. option_map seen found ≡ o)) (sym (newest_first c.args.key.now c.args.instant (entries_kept m.versions) m.held.ordered)) c.get_at.ensures
