use Rattle.std.proofs.Common.{◌≡◌, ◌<◌, ◌^◌, length, Err, rules}
use Rattle.fjall_manifest.specs.Records.{body, view}
use Rattle.fjall_manifest.proofs.Shapes.{short_body}
use Rattle.fjall_manifest.proofs.catalog.Catalog.encode.Goals as goal

pub returns-in_err-encode_into-clause-only : goal.returns-in_err-encode_into-clause-only
returns-in_err-encode_into-clause-only c =
    let is : c.from_residual-in_err-encode_into.result ≡ Err c.in_err-encode_into.field-0.0 = search rules in
    let short : length (body (view c.in_ok-record.record)) < 2 ^ 32 = rw c.in_ok-record.ensures.says (short_body c.args.self.now) in
    rw is (c.in_err-encode_into.ensures.cause short)
