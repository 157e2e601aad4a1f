use Rattle.std.proofs.Common.{List, ℕ, subst}
use Rattle.fjall_script.specs.Outputs.{AppendsFront}
use Rattle.fjall_script.proofs.Writing.{front_of_both}
use Rattle.fjall_script.proofs.program.usage.Goals as goal

pub returns-clause-line : goal.returns-clause-line
returns-clause-line g c =
    subst (λ (text : List ℕ). AppendsFront (g.E.Write.contents c.args.errors.now) (g.E.Write.contents c.write_text.new.output) text) c.as_bytes.ensures.value
    (front_of_both c.write_text.result _ _ _ c.write_text.ensures.ok c.write_text.ensures.err)
