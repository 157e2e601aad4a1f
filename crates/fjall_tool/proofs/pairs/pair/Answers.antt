use Rattle.std.proofs.Common.{rules, ◌≡◌, Some, List, sym, ap, ◌∙◌}
use Rattle.fjall_lines.specs.declared.command.Command.TheVariants.{Ask}
use Rattle.fjall_lines.specs.declared.command.Request.TheVariants.{Batch}
use Rattle.fjall_lines.specs.Lines.{Write}
use Rattle.fjall_tool.proofs.Spellings.{batch_line, none_found, pair_found}
use Rattle.fjall_tool.proofs.pairs.pair.Goals as goal

pub returns-in-Some : goal.returns-in-Some
returns-in-Some c =
    let same : c.as_slice.result.now ≡ batch_line c.args.line.now = search rules in
    let batch = c.in-Some.ensures.some ∙ ap (λ (writes : List Write). Some (Ask (Batch writes))) (sym c.as_slice-in-Some.ensures) in
    pair_found _ _ _ _ c.only_pair.result same c.in_ok-parse.ensures batch c.only_pair.ensures

pub returns : goal.returns
returns c =
    let same : c.as_slice.result.now ≡ batch_line c.args.line.now = search rules in
    none_found _ _ _ same c.in_ok-parse.ensures (search rules)
