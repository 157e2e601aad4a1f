use Rattle.std.proofs.Common.{ap, sym, ◌∙◌, arith, refl}
use Rattle.std.specs.Option.{option_map}
use Rattle.std.proofs.lemmas.Result.{err_from_is_err_and}
use Rattle.fjall_base.specs.declared.error.StorageError.TheVariants.{RecordDamaged}
use Rattle.fjall_manifest.specs.Records.{view, IsNoBody, HasContradiction}
use Rattle.fjall_base.specs.Lists.{last_of}
use Rattle.fjall_table.proofs.Damages.{passed_on}
use Rattle.fjall_manifest.proofs.Currents.{frame_takes, rest_fits, one_more, contradiction, finished, one_reading, no_frame}
use Rattle.fjall_manifest.proofs.current.read_current.Goals as goal

pub returns-in_err-record_of-clause-damaged : goal.returns-in_err-record_of-clause-damaged
returns-in_err-record_of-clause-damaged c =
    let p = err_from_is_err_and c.from_residual.result c.from_residual.ensures.1 in
    let last = option_map view c.loop-payload.record in
    let fits = rest_fits c.args.bytes.now last c.loop-payload.rest.now (λ i. omega (arith, c.type_inv.bytes i)) c.loop-payload.invariant in
    let frame = frame_takes c.loop-payload.rest.now c.in-Some.payload.now c.in-Some.after.now fits c.in-Some.ensures in
    rw (p.1, p.2) (passed_on RecordDamaged c.in_err-record_of.field-0.0 (IsNoBody c.in-Some.payload.now) (HasContradiction c.args.bytes.now) c.in_err-record_of.ensures.damaged
    (λ none. contradiction c.args.bytes.now last c.loop-payload.rest.now c.in-Some.payload.now c.in-Some.after.now c.loop-payload.invariant frame none))

pub loop-payload-smaller : goal.loop-payload-smaller
loop-payload-smaller c =
    let fits = rest_fits c.args.bytes.now (option_map view c.loop-payload.record) c.loop-payload.rest.now (λ i. omega (arith, c.type_inv.bytes i)) c.loop-payload.invariant in
    (frame_takes c.loop-payload.rest.now c.in-Some.payload.now c.in-Some.after.now fits c.in-Some.ensures).shorter

pub loop-payload-preserved : goal.loop-payload-preserved
loop-payload-preserved c =
    let last = option_map view c.loop-payload.record in
    let fits = rest_fits c.args.bytes.now last c.loop-payload.rest.now (λ i. omega (arith, c.type_inv.bytes i)) c.loop-payload.invariant in
    let frame = frame_takes c.loop-payload.rest.now c.in-Some.payload.now c.in-Some.after.now fits c.in-Some.ensures in
    let is = c.in_ok-record_of.ensures.is frame.fits in
    one_more c.args.bytes.now last c.loop-payload.rest.now c.in-Some.payload.now c.in-Some.after.now (view c.in_ok-record_of.field-0) c.loop-payload.invariant frame is.0 is.1

pub returns-clause-whole : goal.returns-clause-whole
returns-clause-whole c = finished c.args.bytes.now (option_map view c.loop-payload.record) c.loop-payload.rest.now _ c.loop-payload.invariant (no_frame c.loop-payload.rest.now c.in_default.ensures) refl

pub returns-clause-only : goal.returns-clause-only
returns-clause-only c = λ rs end other.
    let here = finished c.args.bytes.now (option_map view c.loop-payload.record) c.loop-payload.rest.now _ c.loop-payload.invariant (no_frame c.loop-payload.rest.now c.in_default.ensures) refl in
    let one = one_reading c.args.bytes.now rs here.0 end _ other here.1 in
    (ap last_of one.0 ∙ sym here.2, one.1)
