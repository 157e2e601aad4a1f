use Rattle.std.proofs.Common.{◌≡◌, ◌+◌, ◌-◌, Err, List, ℕ, arith, refl, rules, subst, sym}
use Rattle.fjall_base.specs.Disk.{DiskEntry, DiskState, state_in}
use Rattle.fjall_table_reader.specs.Files.{HasNoPart, HasPart}
use Rattle.fjall_table_reader.proofs.TableFiles.{footer_read, no_room, no_table_told, refused_if, refused_later, shorter}
use Rattle.fjall_table_reader.proofs.table_file.read_footer.Goals as goal

pub returns-then-info-clause-refused : goal.returns-then-info-clause-refused
returns-then-info-clause-refused g c honest = (refl, no_room _ c.args.info c.if-info.true)

pub returns-in_err-end-clause-refused : goal.returns-in_err-end-clause-refused
returns-in_err-end-clause-refused g c honest =
    let is : c.from_residual-in_err-end.result ≡ Err c.in_err-end.field-0.0 = search rules in
    let still = (c.in_ok-check_end.ensures.same honest).state in
    let at = c.args.info.file_len - 36 in
    let sum : at + 36 ≡ c.args.info.file_len = omega (arith, c.if-info.false) in
    rw is (refused_later _ _ _ _ _ c.in_err-end.field-0.0 c.in_ok-check_end.ensures.later c.in_err-end.ensures.later
    (λ none. shorter _ c.args.info at 36 sum (subst (λ (s : DiskState). HasNoPart (s c.args.name.now).now at 36) still none)) (c.in_err-end.ensures.refused honest))

pub returns-clause-footer : goal.returns-clause-footer
returns-clause-footer g c honest =
    let still = (c.in_ok-check_end.ensures.same honest).state in
    let at = c.args.info.file_len - 36 in
    let sum : at + 36 ≡ c.args.info.file_len = omega (arith, c.if-info.false) in
    let entry : DiskEntry = (state_in (g.D.Disk.meaning c.args.disk.now) c.args.name.now).now in
    let part = subst (λ (l : List ℕ). HasPart entry at 36 l) (sym c.deref.ensures.value) (subst (λ (s : DiskState). HasPart (s c.args.name.now).now at 36 c.in_ok-end.end.items) still (c.in_ok-end.ensures.part honest)) in
    footer_read _ c.args.info c.deref.result.now at sum (omega arith) part (c.in_ok-check_end.ensures.end honest) c.footer_told.result c.footer_told.ensures.footer c.footer_told.ensures.whole c.footer_told.ensures.count

pub returns-clause-refused : goal.returns-clause-refused
returns-clause-refused g c honest =
    let still = (c.in_ok-check_end.ensures.same honest).state in
    let at = c.args.info.file_len - 36 in
    let sum : at + 36 ≡ c.args.info.file_len = omega (arith, c.if-info.false) in
    let entry : DiskEntry = (state_in (g.D.Disk.meaning c.args.disk.now) c.args.name.now).now in
    let part = subst (λ (l : List ℕ). HasPart entry at 36 l) (sym c.deref.ensures.value) (subst (λ (s : DiskState). HasPart (s c.args.name.now).now at 36 c.in_ok-end.end.items) still (c.in_ok-end.ensures.part honest)) in
    refused_if c.footer_told.result _ _ _ _ (no_table_told _ c.args.info c.deref.result.now at sum (omega arith) part (c.in_ok-check_end.ensures.end honest)) c.footer_told.ensures.damaged
