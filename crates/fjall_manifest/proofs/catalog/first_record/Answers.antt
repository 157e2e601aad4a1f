use Rattle.std.proofs.Common.{◌≡◌, length, None, refl, rules, arith, ap, ◌∙◌}
use Rattle.std.proofs.lemmas.Result.{IfOk-weaker}
use Rattle.fjall_manifest.specs.Records.{record_text}
use Rattle.fjall_manifest.specs.Catalog.{fields, first_catalog}
use Rattle.fjall_manifest.proofs.Shapes.{first_fits, first_len}
use Rattle.fjall_manifest.proofs.catalog.first_record.Goals as goal

pub returns-clause-len : goal.returns-clause-len
returns-clause-len c = IfOk-weaker c.encode.result (λ bytes. bytes.items ≡ record_text (fields first_catalog)) (λ bytes. length bytes.items ≡ 55) (λ bytes text. ap length text ∙ first_len first_catalog refl) (search rules)

pub returns-clause-is : goal.returns-clause-is
returns-clause-is c = first_fits None 1 tt (omega arith)
