use Rattle.std.proofs.Common.{sym, ◌∙◌}
use Rattle.fjall_lines.proofs.Cuts.{line_found, line_alone}
use Rattle.fjall_lines.proofs.script.first_line.Goals as goal

pub returns-in-Some-clause-line : goal.returns-in-Some-clause-line
returns-in-Some-clause-line c = line_found c.args.text.now c.in-Some.end (sym c.in-Some.is ∙ c.line_end.ensures)

pub returns-in-None-clause-line : goal.returns-in-None-clause-line
returns-in-None-clause-line c = line_alone c.args.text.now c.requires (sym c.in-None.is ∙ c.line_end.ensures)
