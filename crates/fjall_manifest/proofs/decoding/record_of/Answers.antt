use Rattle.std.proofs.Common.{refl, arith}
use Rattle.std.proofs.lemmas.Result.{err_from_is_err_and}
use Rattle.fjall_base.specs.declared.error.StorageError.TheVariants.{RecordDamaged}
use Rattle.fjall_manifest.specs.Records.{view, body_of, IsNoBody}
use Rattle.fjall_table.proofs.Damages.{from_fails}
use Rattle.fjall_manifest.proofs.Currents.{is_record, no_body, not_agreeing}
use Rattle.fjall_manifest.proofs.decoding.record_of.Goals as goal

pub returns-in_err-record-clause-damaged : goal.returns-in_err-record-clause-damaged
returns-in_err-record-clause-damaged c =
    let p = err_from_is_err_and c.from_residual.result c.from_residual.ensures.1 in
    rw (p.1, p.2) (from_fails RecordDamaged c.in_err-record.field-0.0 (body_of c.args.payload.now) (IsNoBody c.args.payload.now) c.in_err-record.ensures (no_body c.args.payload.now))

pub returns-then-not-branch-clause-damaged : goal.returns-then-not-branch-clause-damaged
returns-then-not-branch-clause-damaged c =
    (refl, not_agreeing c.args.payload.now (view c.in_ok-record.record) c.in_ok-record.ensures (λ h. let yes = c.in_ok-is_consistent.ensures.gives.1 h in let no = c.if-not-branch.true in absurd cc))

pub returns-clause-is : goal.returns-clause-is
returns-clause-is c = λ len. is_record c.args.payload.now (view c.in_ok-record.record) (λ i. omega (arith, c.type_inv.payload i)) c.in_ok-record.ensures (c.in_ok-is_consistent.ensures.gives.0 c.if-not-branch.false) len
