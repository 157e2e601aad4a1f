use Rattle.std.proofs.Common.{sym, ap, ◌∙◌}
use Rattle.std.specs.Option.{option_copied}
use Rattle.fjall_table.specs.Blocks.{seen}
use Rattle.fjall_table.proofs.TableScans.{goes_on_is}
use Rattle.fjall_table.proofs.table.goes_on.Goals as goal

pub returns-in-Some-Some : goal.returns-in-Some-Some
returns-in-Some-Some c =
    let w = c.in-Some-Some in
    let is = goes_on_is seen seen c.args.versions.now c.args.block.now w.last.now w.first.now (sym (ap option_copied w.is-0) ∙ c.last.ensures.value) (sym (ap option_copied w.is-1) ∙ c.first.ensures.value) c.requires.before c.requires.block in
    (λ t. is.0 (c.is_before.ensures.0 t), λ up. c.is_before.ensures.1 (is.1 up))
