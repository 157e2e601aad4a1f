use Rattle.std.proofs.Common.{map, lit<, ap, ◌∙◌}
use Rattle.std.proofs.lemmas.Iterator.Consumers.{map_from_collect}
use Rattle.std.proofs.lemmas.Iterator.Splits.{YieldsList-from_str_split}
use Rattle.fjall_lines.proofs.Spellings.{reads_line, reads_none}
use Rattle.fjall_lines.proofs.parsing.parse.Goals as goal

pub returns-in_default : goal.returns-in_default
returns-in_default c = reads_none c.args.line.now c.in_default.ensures.cases.0

pub returns : goal.returns
returns c =
    let all = map_from_collect _ c.collect.ensures.ran (YieldsList-from_str_split 32 c.in-Ok.text.now (lit< tt) c.split.ensures.text c.split.ensures.has_more c.split.ensures.pattern) in
    let cut = rw c.in_ok-words.was at all in
    reads_line c.args.line.now c.in-Ok.text.now _ c.command.result c.in-Ok.ensures.cases.0 (ap (map (λ word. word.now)) c.as_slice.ensures.value ∙ cut) c.command.ensures
