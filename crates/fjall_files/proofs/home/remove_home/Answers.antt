use Rattle.std.proofs.Common.{◌≡◌, ◌∙◌, List, map, ap, arith, subst}
use Rattle.std.proofs.lemmas.List.{drop_all}
use Rattle.std.specs.Prelude.{string_bytes}
use Rattle.fjall_base.specs.Disk.{Meaning, Name, folder_of, removing, state_in}
use Rattle.fjall_files.specs.Regions.{HoldsOnly}
use Rattle.fjall_files.proofs.Made.{gone, one_removed, removed_within, within_both}
use Rattle.fjall_files.proofs.Removed.{emptied, next_kind, next_removed}
use Rattle.fjall_files.proofs.Tidying.{removing_tidy, stays_both, stays_by, stays_none, stays_removing}
use Rattle.fjall_files.proofs.home.remove_home.Goals as goal

pub loop-file-preserved : goal.loop-file-preserved
loop-file-preserved g c =
    let m : _ → Meaning = g.D.Disk.meaning in
    let faults = c.loop-file.invariant.later in let more = c.in_ok-remove.ensures.cause.later in record {
      within = λ honest all some.
          let at : folder_of (string_bytes c.file-item.result) ≡ c.args.folder.now = ap (λ f. folder_of (string_bytes f)) c.file-item.is ∙ all c.loop-file.file-index _ c.loop-file-test.true in
          let inside : folder_of c.as_str.result.now ≡ c.args.folder.now = ap (λ (n : Name). folder_of n) c.as_str.ensures.value ∙ at in
          one_removed c.args.folder.now c.as_str.result.now (m c.args.disk.now) (m c.loop-file.disk) (m c.remove.new.self) some inside (c.loop-file.invariant.within honest all some) (c.in_ok-remove.ensures.ok honest);
      served = λ honest holds.
          let so_far = c.loop-file.invariant.served honest holds in
          let can = next_kind string_bytes c.args.folder.now c.as_str.result.now c.args.files.now c.loop-file.file-index c.file-item.result (state_in (m c.loop-file.disk)) c.loop-file-test.true c.file-item.is c.as_str.ensures.value so_far.1 in (
            (c.in_ok-remove.ensures.judged honest).served can ∙ so_far.0,
            next_removed string_bytes c.args.folder.now c.as_str.result.now c.args.files.now c.loop-file.file-index c.file-item.result (m c.loop-file.disk) (m c.remove.new.self) c.loop-file-test.true c.file-item.is c.as_str.ensures.value (c.in_ok-remove.ensures.ok honest) so_far.1,
          );
      later = omega (arith, faults, more);
      kinds = λ honest. stays_both (m c.args.disk.now) (m c.loop-file.disk) (m c.remove.new.self) (c.loop-file.invariant.kinds honest)
          (stays_by _ _ (removing c.as_str.result.now _) (c.in_ok-remove.ensures.ok honest) (removing_tidy c.as_str.result.now _));
    }

pub returns-in_err-remove-clause-served : goal.returns-in_err-remove-clause-served
returns-in_err-remove-clause-served g c honest holds =
    let m : _ → Meaning = g.D.Disk.meaning in
    let so_far = c.loop-file.invariant.served honest holds in
    let can = next_kind string_bytes c.args.folder.now c.as_str.result.now c.args.files.now c.loop-file.file-index c.file-item.result (state_in (m c.loop-file.disk)) c.loop-file-test.true c.file-item.is c.as_str.ensures.value so_far.1 in
    (c.in_err-remove.ensures.judged honest).served can ∙ so_far.0

pub returns-clause-served : goal.returns-clause-served
returns-clause-served g c honest holds =
    let m : _ → Meaning = g.D.Disk.meaning in
    let so_far = c.loop-file.invariant.served honest holds in
    let none = ap (λ l. map string_bytes l) (drop_all c.loop-file.file-index c.args.files.now c.loop-file-test.false) in
    (c.remove_folder.ensures.judged honest).served (emptied (state_in (m c.loop-file.disk)) c.args.folder.now (subst (λ (l : List Name). HoldsOnly (state_in (m c.loop-file.disk)) c.args.folder.now l) none so_far.1)) ∙ so_far.0

pub returns-clause-gone : goal.returns-clause-gone
returns-clause-gone g c honest = gone c.args.folder.now _ _ c.remove_folder.result (c.remove_folder.ensures.kind honest) (c.remove_folder.ensures.ok honest)

pub returns-clause-within : goal.returns-clause-within
returns-clause-within g c honest all some =
    let m : _ → Meaning = g.D.Disk.meaning in
    within_both c.args.folder.now (m c.args.disk.now) (m c.loop-file.disk) (m c.remove_folder.new.self) (c.loop-file.invariant.within honest all some)
    (removed_within c.args.folder.now _ _ c.remove_folder.result (c.remove_folder.ensures.ok honest) (c.remove_folder.ensures.err honest))

pub returns-in_err-remove-clause-kinds : goal.returns-in_err-remove-clause-kinds
returns-in_err-remove-clause-kinds g c honest =
    let m : _ → Meaning = g.D.Disk.meaning in
    stays_both (m c.args.disk.now) (m c.loop-file.disk) (m c.remove.new.self) (c.loop-file.invariant.kinds honest) (stays_none _ _ (c.in_err-remove.ensures.err honest))

pub returns-clause-kinds : goal.returns-clause-kinds
returns-clause-kinds g c honest =
    let m : _ → Meaning = g.D.Disk.meaning in
    stays_both (m c.args.disk.now) (m c.loop-file.disk) (m c.remove_folder.new.self) (c.loop-file.invariant.kinds honest)
    (stays_removing _ _ c.args.folder.now _ c.remove_folder.result (c.remove_folder.ensures.ok honest) (c.remove_folder.ensures.err honest))
