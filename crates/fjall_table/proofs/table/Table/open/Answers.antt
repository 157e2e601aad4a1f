use Rattle.std.proofs.Common.{refl, arith}
use Rattle.std.proofs.lemmas.Result.{err_from_is_err_and}
use Rattle.fjall_base.specs.declared.error.StorageError.TheVariants.{TableDamaged}
use Rattle.fjall_table.specs.TableReading.{IsNoIndex, HasNoIndex}
use Rattle.fjall_table.proofs.Damages.{passed_on}
use Rattle.fjall_table.proofs.TableReading.{too_short, no_end, same_footer, offset_within, len_told, no_index, told}
use Rattle.fjall_table.proofs.table.Table.open.Goals as goal
use Rattle.fjall_table.proofs.table.Table.open.Goals.{then-bytes-info-via-then-bytes-info, then-bytes-info-via-else-bytes-info+then-bytes-lt-FOOTER_LEN}

pub returns-then-bytes-info-clause-damaged : goal.returns-then-bytes-info-clause-damaged
returns-then-bytes-info-clause-damaged c = (
  refl,
  λ hs len h. elim c.then-bytes-info.branch [
    | then-bytes-info-via-then-bytes-info w ↦ w.if-bytes-info.true len
    | then-bytes-info-via-else-bytes-info+then-bytes-lt-FOOTER_LEN w ↦ too_short c.args.bytes.now hs c.args.info.entry_count w.if-bytes-lt-FOOTER_LEN.true h
  ],
)

pub returns-in_err-footer-clause-damaged : goal.returns-in_err-footer-clause-damaged
returns-in_err-footer-clause-damaged c =
    let p = err_from_is_err_and c.from_residual.result c.from_residual.ensures.1 in
    let d = c.in_err-footer.ensures.damaged in
    rw (p.1, p.2) (told c.in_err-footer.field-0.0 (HasNoIndex c.args.bytes.now c.args.info) d.0 (λ hs len h. no_end c.args.bytes.now c.split_at.result.0.now c.split_at.result.1.now hs c.args.info.entry_count c.split_at.ensures.by_index.0 (omega (arith, c.split_at.ensures.back_len)) d.1 h))

pub returns-then-footer-info-clause-damaged : goal.returns-then-footer-info-clause-damaged
returns-then-footer-info-clause-damaged c = (
  refl,
  λ hs len h.
      let f = c.in_ok-footer.footer in
      let s = same_footer c.args.bytes.now c.split_at.result.0.now c.split_at.result.1.now hs c.args.info.entry_count f.index_offset f.index_len f.entry_count c.split_at.ensures.by_index.0 (omega (arith, c.split_at.ensures.back_len)) c.in_ok-footer.ensures.footer (omega arith) (omega arith) (omega arith) h in
      c.if-footer-info.true s.count,
)

pub returns-then-footer-front-clause-damaged : goal.returns-then-footer-front-clause-damaged
returns-then-footer-front-clause-damaged c = (
  refl,
  λ hs len h.
      let f = c.in_ok-footer.footer in
      let s = offset_within c.args.bytes.now c.split_at.result.0.now c.split_at.result.1.now hs c.args.info.entry_count f.index_offset f.index_len f.entry_count c.split_at.ensures.by_index.0 (omega (arith, c.split_at.ensures.back_len)) c.in_ok-footer.ensures.footer (omega arith) (omega arith) (omega arith) h in
      omega (arith, s, c.if-footer-front.true),
)

pub returns-then-framed-footer-clause-damaged : goal.returns-then-framed-footer-clause-damaged
returns-then-framed-footer-clause-damaged c = (
  refl,
  λ hs len h.
      let f = c.in_ok-footer.footer in
      c.if-framed-footer.true (len_told c.args.bytes.now c.split_at.result.0.now c.split_at.result.1.now c.split_at-2.result.0.now c.split_at-2.result.1.now hs c.args.info.entry_count f.index_offset f.index_len f.entry_count c.split_at.ensures.by_index.0 (omega (arith, c.split_at.ensures.back_len)) c.in_ok-footer.ensures.footer (omega arith) (omega arith) (omega arith) c.split_at-2.ensures.by_index.0 c.split_at-2.ensures.front_len h),
)

pub returns-in_err-index-clause-damaged : goal.returns-in_err-index-clause-damaged
returns-in_err-index-clause-damaged c =
    let p = err_from_is_err_and c.from_residual-in_err-index.result c.from_residual-in_err-index.ensures.1 in
    let f = c.in_ok-footer.footer in
    rw (p.1, p.2) (passed_on TableDamaged c.in_err-index.field-0.0 (IsNoIndex c.split_at-2.result.1.now f.index_offset) (HasNoIndex c.args.bytes.now c.args.info) c.in_err-index.ensures.damaged
    (λ none hs len h. no_index c.args.bytes.now c.split_at.result.0.now c.split_at.result.1.now c.split_at-2.result.0.now c.split_at-2.result.1.now hs c.args.info.entry_count f.index_offset f.index_len f.entry_count c.split_at.ensures.by_index.0 (omega (arith, c.split_at.ensures.back_len)) c.in_ok-footer.ensures.footer (omega arith) (omega arith) (omega arith) c.split_at-2.ensures.by_index.0 c.split_at-2.ensures.front_len none h))
