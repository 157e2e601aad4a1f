use Rattle.std.proofs.Common.{rules}
use Rattle.std.proofs.lemmas.Slice.Eq.{slice_eq-Decides}
use Rattle.fjall_meta.proofs.Entries.{entry_eq}
use Rattle.fjall_meta.proofs.reading.are_equal.Goals as goal

pub returns : goal.returns
returns c =
    let decides = slice_eq-Decides entry_eq c.args.entries.now c.args.others.now c.eq.result c.eq.ensures in
    search (rules, decides)
