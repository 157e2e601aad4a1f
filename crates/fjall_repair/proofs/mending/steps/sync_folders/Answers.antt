use Rattle.std.proofs.Common.{◌≡◌, [], All, arith, ap, subst, sym, ◌∙◌, string_bytes, Ok}
use Rattle.std.proofs.lemmas.List.{take_all}
use Rattle.fjall_base.specs.Disk.{DiskState, IsThere, Meaning, Name, folder_of, standing, state_in}
use Rattle.fjall_files.proofs.Tidying.{stays_both, stays_none, stays_settling}
use Rattle.fjall_repair.proofs.Items.{all_more, all_to, item_has}
use Rattle.fjall_repair.proofs.Narrowing.{folder_moment, folder_same, folder_still, folder_empty}
use Rattle.fjall_repair.proofs.MendServed.{still_there}
use Rattle.fjall_repair.proofs.mending.steps.sync_folders.Goals as goal

pub returns-in_err-sync_folder-clause-same : goal.returns-in_err-sync_folder-clause-same
returns-in_err-sync_folder-clause-same g c honest q = ap (λ (s : DiskState). (s q).now) (c.in_err-sync_folder.ensures.err honest).state ∙ c.loop-folder.invariant.same honest q

pub returns-in_err-sync_folder-clause-still : goal.returns-in_err-sync_folder-clause-still
returns-in_err-sync_folder-clause-still g c honest q older = ap (λ (s : DiskState). (s q).older) (c.in_err-sync_folder.ensures.err honest).state ∙ c.loop-folder.invariant.still honest q older

pub loop-folder-preserved : goal.loop-folder-preserved
loop-folder-preserved g c =
    let m : _ → Meaning = g.D.Disk.meaning in
    let old = m c.args.disk.now in
    let mid = m c.loop-folder.disk in
    let new = m c.sync_folder.new.self in
    let inv = c.loop-folder.invariant in
    let one = c.in_ok-sync_folder.ensures in
    let faults = inv.later in let more = one.cause.later in
    let folders = c.args.folders.now in
    let i = c.loop-folder.folder-index in
    let x = c.folder-item.result in
    let at = c.folder-item.is in
    let lt = c.loop-folder-test.true in
    let name = c.as_str.result.now in
    let is = c.as_str.ensures.value in
    record {
      moments = λ honest. folder_moment old mid new name (inv.moments honest) (one.ok honest);
      same = λ honest q. folder_same old mid new name (one.ok honest) q ∙ inv.same honest q;
      still = λ honest q older. folder_still old mid new name (one.ok honest) q (inv.still honest q older);
      settled = λ honest. all_more (λ folder. (q : Name) → folder_of q ≡ string_bytes folder → (state_in new q).older ≡ []) folders i x at lt
          (all_to (λ folder. (q : Name) → folder_of q ≡ string_bytes folder → (state_in mid q).older ≡ []) (λ folder. (q : Name) → folder_of q ≡ string_bytes folder → (state_in new q).older ≡ []) _
          (λ folder was q inside. folder_still old mid new name (one.ok honest) q (was q inside)) (inv.settled honest))
          (λ q inside. folder_empty old mid new name (one.ok honest) q (inside ∙ sym is));
      kinds = λ honest. stays_both old mid new (inv.kinds honest) (stays_settling mid new name (Ok tt) (one.ok honest) tt);
      served = λ honest there. (one.judged honest).served (still_there (state_in old) (state_in mid) name (inv.same honest)
          (subst (IsThere (standing (state_in old))) (sym is) (item_has (λ folder. IsThere (standing (state_in old)) (string_bytes folder)) folders i x at lt there))) ∙ inv.served honest there;
      later = omega (arith, faults, more);
    }

pub returns-clause-settled : goal.returns-clause-settled
returns-clause-settled g c honest =
    subst (All (λ folder. (q : Name) → folder_of q ≡ string_bytes folder → (state_in (g.D.Disk.meaning c.loop-folder.disk) q).older ≡ [])) (take_all c.loop-folder.folder-index c.args.folders.now (omega (arith, c.loop-folder-test.false)))
    (c.loop-folder.invariant.settled honest)

pub returns-in_err-sync_folder-clause-kinds : goal.returns-in_err-sync_folder-clause-kinds
returns-in_err-sync_folder-clause-kinds g c honest =
    let m : _ → Meaning = g.D.Disk.meaning in
    stays_both (m c.args.disk.now) (m c.loop-folder.disk) (m c.sync_folder.new.self) (c.loop-folder.invariant.kinds honest) (stays_none _ _ (c.in_err-sync_folder.ensures.err honest))

pub returns-in_err-sync_folder-clause-served : goal.returns-in_err-sync_folder-clause-served
returns-in_err-sync_folder-clause-served g c honest there =
    let old = state_in (g.D.Disk.meaning c.args.disk.now) in
    (c.in_err-sync_folder.ensures.judged honest).served (still_there old (state_in (g.D.Disk.meaning c.loop-folder.disk)) c.as_str.result.now (c.loop-folder.invariant.same honest)
    (subst (IsThere (standing old)) (sym c.as_str.ensures.value) (item_has (λ folder. IsThere (standing old) (string_bytes folder)) c.args.folders.now c.loop-folder.folder-index c.folder-item.result c.folder-item.is c.loop-folder-test.true there)))
    ∙ c.loop-folder.invariant.served honest there
