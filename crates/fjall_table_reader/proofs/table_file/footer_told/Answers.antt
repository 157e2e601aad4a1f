use Rattle.std.proofs.Common.{refl, arith}
use Rattle.std.proofs.lemmas.Result.{err_from_is_err_and}
use Rattle.fjall_table_reader.specs.Files.{EndsNoTable}
use Rattle.fjall_table_reader.proofs.TableFiles.{beyond, ends_elsewhere, no_footer_told, other_count}
use Rattle.fjall_table.proofs.TableReading.{told}
use Rattle.fjall_table_reader.proofs.table_file.footer_told.Goals as goal

pub returns-in_err-footer-clause-damaged : goal.returns-in_err-footer-clause-damaged
returns-in_err-footer-clause-damaged c =
    let p = err_from_is_err_and c.from_residual.result c.from_residual.ensures.1 in
    let d = c.in_err-footer.ensures.damaged in
    rw (p.1, p.2) (told c.in_err-footer.field-0.0 (EndsNoTable c.args.end.now c.args.index_end c.args.entry_count) d.0 (no_footer_told c.args.end.now c.args.index_end c.args.entry_count d.1))

pub returns-then-footer-entry_count-clause-damaged : goal.returns-then-footer-entry_count-clause-damaged
returns-then-footer-entry_count-clause-damaged c =
    let f = c.in_ok-footer.footer in
    (refl, other_count c.args.end.now c.args.index_end c.args.entry_count f.index_offset f.index_len f.entry_count c.in_ok-footer.ensures.footer (omega arith) (omega arith) (omega arith) c.if-footer-entry_count.true)

pub returns-then-footer-index_end-clause-damaged : goal.returns-then-footer-index_end-clause-damaged
returns-then-footer-index_end-clause-damaged c =
    let f = c.in_ok-footer.footer in
    (refl, beyond c.args.end.now c.args.index_end c.args.entry_count f.index_offset f.index_len f.entry_count c.in_ok-footer.ensures.footer (omega arith) (omega arith) (omega arith) c.if-footer-index_end.true)

pub returns-then-footer-index_end-2-clause-damaged : goal.returns-then-footer-index_end-2-clause-damaged
returns-then-footer-index_end-2-clause-damaged c =
    let f = c.in_ok-footer.footer in
    (refl, ends_elsewhere c.args.end.now c.args.index_end c.args.entry_count f.index_offset f.index_len f.entry_count c.in_ok-footer.ensures.footer (omega arith) (omega arith) (omega arith) (λ sum. c.if-footer-index_end-2.true (omega (arith, sum))))
