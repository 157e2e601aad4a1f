use Rattle.std.proofs.Common.{◌≡◌, Err, map, rules, subst, sym}
use Rattle.fjall_base.specs.Disk.{DiskState}
use Rattle.fjall_table_reader.specs.Files.{HasFooter, HoldsNoTable, HoldsTable}
use Rattle.fjall_table.specs.Owned.{owned_handle}
use Rattle.fjall_table_reader.proofs.TableFiles.{refused_later}
use Rattle.fjall_table_reader.proofs.table_file.TableFile.open.Goals as goal

pub returns-in_err-index-clause-refused : goal.returns-in_err-index-clause-refused
returns-in_err-index-clause-refused g c honest =
    let is : c.from_residual-in_err-index.result ≡ Err c.in_err-index.field-0.0 = search rules in
    let still = (c.in_ok-footer.ensures.same honest).state in
    let has = subst (λ (s : DiskState). HasFooter (s c.args.name.now).now c.args.info c.in_ok-footer.footer) (sym still) (c.in_ok-footer.ensures.footer honest) in
    rw is (refused_later _ _ _ _ _ c.in_err-index.field-0.0 c.in_ok-footer.ensures.later c.in_err-index.ensures.later
    (λ none. subst (λ (s : DiskState). HoldsNoTable (s c.args.name.now).now c.args.info) still none) (c.in_err-index.ensures.refused honest c.args.info has))

pub returns-clause-table : goal.returns-clause-table
returns-clause-table g c honest =
    let still = (c.in_ok-footer.ensures.same honest).state in
    let has = subst (λ (s : DiskState). HasFooter (s c.args.name.now).now c.args.info c.in_ok-footer.footer) (sym still) (c.in_ok-footer.ensures.footer honest) in
    subst (λ (s : DiskState). HoldsTable (s c.args.name.now).now c.args.info (map owned_handle c.in_ok-index.index.handles.items)) still (c.in_ok-index.ensures.index honest c.args.info has)
