use Rattle.std.proofs.Common.{arith}
use Rattle.fjall_manifest.specs.Records.{view}
use Rattle.fjall_manifest.proofs.Records.{length_body}
use Rattle.fjall_manifest.proofs.record.Record.encode_into.Goals as goal

pub returns-in_default-clause-cause : goal.returns-in_default-clause-cause
returns-in_default-clause-cause c = λ h. absurd (omega (arith, length_body (view c.args.self.now), c.in_default.ensures.none))

pub returns-in-Err-clause-too_long : goal.returns-in-Err-clause-too_long
returns-in-Err-clause-too_long c = λ h. absurd (omega (arith, length_body (view c.args.self.now), c.in-Some.ensures.some))

pub returns-clause-fits : goal.returns-clause-fits
returns-clause-fits c = record { room = c.in_default-put_text.ensures.fits; len = omega (arith, length_body (view c.args.self.now), c.in-Some.ensures.some) }

pub returns-clause-too_long : goal.returns-clause-too_long
returns-clause-too_long c = λ h. absurd (omega (arith, length_body (view c.args.self.now), c.in-Some.ensures.some))
