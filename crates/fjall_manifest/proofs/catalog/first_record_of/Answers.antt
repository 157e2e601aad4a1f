use Rattle.std.proofs.Common.{◌≡◌, length, Some, refl, rules, arith, ap, ◌∙◌}
use Rattle.std.proofs.lemmas.Result.{IfOk-weaker}
use Rattle.fjall_manifest.specs.Records.{record_text}
use Rattle.fjall_manifest.specs.Catalog.{fields, first_of}
use Rattle.fjall_manifest.proofs.Shapes.{first_fits, first_len}
use Rattle.fjall_manifest.proofs.catalog.first_record_of.Goals as goal

pub returns-clause-len : goal.returns-clause-len
returns-clause-len c = IfOk-weaker c.encode.result (λ bytes. bytes.items ≡ record_text (fields (first_of c.args.number))) (λ bytes. length bytes.items ≡ 55) (λ bytes text. ap length text ∙ first_len (first_of c.args.number) refl) (search rules)

pub returns-clause-is : goal.returns-clause-is
returns-clause-is c small = first_fits (Some c.args.number) 0 small (omega arith)
