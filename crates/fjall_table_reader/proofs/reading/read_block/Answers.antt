use Rattle.std.proofs.Common.{◌≡◌, Err, IfSome, Option, arith, rules, subst}
use Rattle.fjall_table_reader.specs.Files.{HasNoPart, file_of, handles_in}
use Rattle.fjall_table.specs.Tables.{Handle}
use Rattle.fjall_table.proofs.TableBlocks.{some_at}
use Rattle.fjall_table_reader.proofs.TableFiles.{refused_later, within_table}
use Rattle.fjall_table_reader.proofs.reading.read_block.Goals as goal

pub returns-in_err-framed-clause-refused : goal.returns-in_err-framed-clause-refused
returns-in_err-framed-clause-refused g c honest holds =
    let is : c.from_residual.result ≡ Err c.in_err-framed.field-0.0 = search rules in
    let h = some_at (handles_in c.args.file.now) c.args.at c.requires in
    rw is (refused_later _ _ _ _ _ c.in_err-framed.field-0.0 (omega arith) c.in_err-framed.ensures.later
    (λ none. absurd (within_table (file_of (g.D.Disk.meaning c.args.disk.now) c.args.file.now) c.args.file.now.info (handles_in c.args.file.now) c.args.at h.0 holds h.1 (subst (λ (o : Option Handle). IfSome o (λ h. HasNoPart (file_of (g.D.Disk.meaning c.args.disk.now) c.args.file.now) h.offset h.len)) h.1 none))) (c.in_err-framed.ensures.refused honest))
