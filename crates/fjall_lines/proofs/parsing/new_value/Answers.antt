use Rattle.std.proofs.Common.{sym, ◌∙◌, codes}
use Rattle.std.proofs.lemmas.Slice.Eq.{bytes_eq-Decides}
use Rattle.fjall_lines.proofs.Batches.{tilde_is}
use Rattle.fjall_lines.proofs.parsing.new_value.Goals as goal

pub returns-then-eq-clause-all_found : goal.returns-then-eq-clause-all_found
returns-then-eq-clause-all_found c value are is =
    tilde_is c.args.word.now value ((bytes_eq-Decides c.args.word.now (codes "~")).0 (sym c.eq.ensures ∙ c.if-eq.true)) are is
