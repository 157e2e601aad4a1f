use Rattle.std.proofs.Common.{◌≢◌, inr, All, Ok, arith, subst, sym, ◌∙◌, string_bytes}
use Rattle.std.proofs.lemmas.List.{take_all}
use Rattle.fjall_base.specs.Disk.{IsFile, Meaning, Name, Sync, state_in}
use Rattle.fjall_files.proofs.Tidying.{stays_both, stays_perhaps, stays_syncing}
use Rattle.fjall_repair.specs.Steps.{IsSynced}
use Rattle.fjall_repair.proofs.Items.{all_more, all_to, item_has}
use Rattle.fjall_repair.proofs.Narrowing.{file_moment, file_same, file_elsewhere, file_is_synced, same_then, synced_still}
use Rattle.fjall_repair.proofs.MendServed.{still_file}
use Rattle.fjall_repair.proofs.mending.steps.sync_files.Goals as goal

pub returns-in_err-sync-clause-any_moment : goal.returns-in_err-sync-clause-any_moment
returns-in_err-sync-clause-any_moment g c honest =
    let m : _ → Meaning = g.D.Disk.meaning in
    file_moment (m c.args.disk.now) (m c.loop-file.disk) (m c.sync.new.self) c.as_str.result.now (c.loop-file.invariant.moments honest) (c.in_err-sync.ensures.err honest)

pub returns-in_err-sync-clause-elsewhere : goal.returns-in_err-sync-clause-elsewhere
returns-in_err-sync-clause-elsewhere g c honest q apart =
    let m : _ → Meaning = g.D.Disk.meaning in
    let not = item_has (λ file. q ≢ string_bytes file) c.args.files.now c.loop-file.file-index c.file-item.result c.file-item.is c.loop-file-test.true apart in
    file_elsewhere (m c.args.disk.now) (m c.loop-file.disk) (m c.sync.new.self) c.as_str.result.now (c.in_err-sync.ensures.err honest) q (λ same. not (same ∙ c.as_str.ensures.value)) ∙ c.loop-file.invariant.elsewhere honest q apart

pub returns-in_err-sync-clause-same : goal.returns-in_err-sync-clause-same
returns-in_err-sync-clause-same g c honest q =
    let m : _ → Meaning = g.D.Disk.meaning in
    same_then _ _ _ (c.loop-file.invariant.same honest q) (file_same (m c.args.disk.now) (m c.loop-file.disk) (m c.sync.new.self) c.as_str.result.now (c.in_err-sync.ensures.err honest) q)

pub loop-file-preserved : goal.loop-file-preserved
loop-file-preserved g c =
    let m : _ → Meaning = g.D.Disk.meaning in
    let old = m c.args.disk.now in
    let mid = m c.loop-file.disk in
    let new = m c.sync.new.self in
    let inv = c.loop-file.invariant in
    let one = c.in_ok-sync.ensures in
    let faults = inv.later in let more = one.cause.later in
    let files = c.args.files.now in
    let i = c.loop-file.file-index in
    let x = c.file-item.result in
    let at = c.file-item.is in
    let lt = c.loop-file-test.true in
    let name = c.as_str.result.now in
    let is = c.as_str.ensures.value in
    record {
      moments = λ honest. file_moment old mid new name (inv.moments honest) (inr (one.ok honest));
      elsewhere = λ honest q apart.
          let not = item_has (λ file. q ≢ string_bytes file) files i x at lt apart in
          file_elsewhere old mid new name (inr (one.ok honest)) q (λ same. not (same ∙ is)) ∙ inv.elsewhere honest q apart;
      same = λ honest q. same_then (state_in old q) (state_in mid q) (state_in new q) (inv.same honest q) (file_same old mid new name (inr (one.ok honest)) q);
      synced = λ honest. all_more (λ file. IsSynced (state_in new (string_bytes file)).now) files i x at lt
          (all_to (λ file. IsSynced (state_in mid (string_bytes file)).now) (λ file. IsSynced (state_in new (string_bytes file)).now) _
          (λ file was. synced_still (state_in mid (string_bytes file)) (state_in new (string_bytes file)) (file_same old mid new name (inr (one.ok honest)) (string_bytes file)) was) (inv.synced honest))
          (subst (λ (n : Name). IsSynced (state_in new n).now) is (file_is_synced old mid new name (one.ok honest) (one.file honest)));
      kinds = λ honest. stays_both old mid new (inv.kinds honest) (stays_syncing mid new name (Ok tt) (one.ok honest) tt);
      served = λ honest there. (one.judged honest).served (subst (λ (n : Name). IsFile (state_in mid n).now) (sym is) (still_file (state_in old (string_bytes x)) (state_in mid (string_bytes x)) (inv.same honest (string_bytes x))
          (item_has (λ file. IsFile (state_in old (string_bytes file)).now) files i x at lt there))) ∙ inv.served honest there;
      later = omega (arith, faults, more);
    }

pub returns-clause-synced : goal.returns-clause-synced
returns-clause-synced g c honest =
    subst (All (λ file. IsSynced (state_in (g.D.Disk.meaning c.loop-file.disk) (string_bytes file)).now)) (take_all c.loop-file.file-index c.args.files.now (omega (arith, c.loop-file-test.false)))
    (c.loop-file.invariant.synced honest)

pub returns-in_err-sync-clause-kinds : goal.returns-in_err-sync-clause-kinds
returns-in_err-sync-clause-kinds g c honest =
    let m : _ → Meaning = g.D.Disk.meaning in
    stays_both (m c.args.disk.now) (m c.loop-file.disk) (m c.sync.new.self) (c.loop-file.invariant.kinds honest) (stays_perhaps _ _ (Sync c.as_str.result.now) tt (c.in_err-sync.ensures.err honest))

pub returns-in_err-sync-clause-served : goal.returns-in_err-sync-clause-served
returns-in_err-sync-clause-served g c honest there =
    let old = state_in (g.D.Disk.meaning c.args.disk.now) in
    let mid = state_in (g.D.Disk.meaning c.loop-file.disk) in
    let x = c.file-item.result in
    (c.in_err-sync.ensures.judged honest).served (subst (λ (n : Name). IsFile (mid n).now) (sym c.as_str.ensures.value) (still_file (old (string_bytes x)) (mid (string_bytes x)) (c.loop-file.invariant.same honest (string_bytes x))
    (item_has (λ file. IsFile (old (string_bytes file)).now) c.args.files.now c.loop-file.file-index x c.file-item.is c.loop-file-test.true there)))
    ∙ c.loop-file.invariant.served honest there
