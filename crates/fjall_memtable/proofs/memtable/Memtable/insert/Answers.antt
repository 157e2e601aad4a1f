use Rattle.std.proofs.Common.{ap, ◌∙◌, not, Ok}
use Rattle.fjall_memtable.specs.Entries.{entries_kept}
use Rattle.fjall_memtable.proofs.Absents.{absent_told}
use Rattle.fjall_memtable.proofs.memtable.Memtable.insert.Goals as goal

pub returns-clause-ok : goal.returns-clause-ok
returns-clause-ok c =
    let is_new = c.in_ok-insert_once.ensures.told ∙ ap not (absent_told c.args.key.now c.args.number (entries_kept c.args.self.now) c.requires.absent) in
    c.in_ok-insert_once.ensures.new (ap Ok is_new)
