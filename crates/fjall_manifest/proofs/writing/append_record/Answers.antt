use Rattle.std.proofs.Common.{[], ◌∷◌, List, ℕ, OnOk, OnErr, sym, ◌∙◌, subst}
use Rattle.fjall_base.specs.Disk.{Name, Meaning, Took, TookOrNot, TookPart, Append, IsFile, Sync, state_in}
use Rattle.fjall_base.proofs.Served.{file_stays}
use Rattle.fjall_files.proofs.Made.{appended_within, both_took, part_within, synced_within, within_both}
use Rattle.fjall_files.proofs.Tidying.{stays_appending, stays_both, stays_part, stays_syncing}
use Rattle.fjall_manifest.specs.Records.{record_text}
use Rattle.fjall_manifest.proofs.Commits as Commits
use Rattle.fjall_manifest.proofs.NoFolders.{both_kind, part_kind}
use Rattle.fjall_manifest.proofs.writing.append_record.Goals as goal

pub returns-clause-took : goal.returns-clause-took
returns-clause-took g c honest = both_took c.args.file.now _ _ _ c.args.text.now c.sync.result (c.in_ok-append.ensures.ok honest) (c.sync.ensures.ok honest)

pub returns-in_err-append-clause-within : goal.returns-in_err-append-clause-within
returns-in_err-append-clause-within g c honest folder under = part_within folder c.args.file.now _ _ c.args.text.now under (c.in_err-append.ensures.err honest)

pub returns-clause-within : goal.returns-clause-within
returns-clause-within g c honest folder under =
    let m : _ → Meaning = g.D.Disk.meaning in
    within_both folder (m c.args.disk.now) (m c.append.new.self) (m c.sync.new.self) (appended_within folder c.args.file.now _ _ c.args.text.now under (c.in_ok-append.ensures.ok honest))
    (synced_within folder c.args.file.now _ _ c.sync.result under (c.sync.ensures.ok honest) (c.sync.ensures.err honest))

pub returns-in_err-append-clause-any_moment : goal.returns-in_err-append-clause-any_moment
returns-in_err-append-clause-any_moment g c honest id records h next at is_record text written =
    let m : _ → Meaning = g.D.Disk.meaning in
    Commits.in_part id at.0 records h next is_record (m c.args.disk.now) written.rests written.tables (m c.append.new.self)
    (subst (λ (n : Name). TookPart (m c.args.disk.now) (m c.append.new.self) n (record_text next.last)) at.1
    (subst (λ (l : List ℕ). TookPart (m c.args.disk.now) (m c.append.new.self) c.args.file.now l) text (c.in_err-append.ensures.err honest)))

pub returns-clause-any_moment : goal.returns-clause-any_moment
returns-clause-any_moment g c honest id records h next at is_record text written =
    let m : _ → Meaning = g.D.Disk.meaning in
    Commits.committing id at.0 records h next is_record (m c.args.disk.now) written.rests written.tables (m c.append.new.self) (m c.sync.new.self) c.sync.result
    (subst (λ (n : Name). Took (m c.args.disk.now) (m c.append.new.self) (Append n (record_text next.last) ∷ [])) at.1
    (subst (λ (l : List ℕ). Took (m c.args.disk.now) (m c.append.new.self) (Append c.args.file.now l ∷ [])) text (c.in_ok-append.ensures.ok honest)))
    (subst (λ (n : Name). OnOk c.sync.result (Took (m c.append.new.self) (m c.sync.new.self) (Sync n ∷ []))) at.1 (c.sync.ensures.ok honest))
    (subst (λ (n : Name). OnErr c.sync.result (TookOrNot (m c.append.new.self) (m c.sync.new.self) (Sync n ∷ []))) at.1 (c.sync.ensures.err honest))

pub returns-clause-ok : goal.returns-clause-ok
returns-clause-ok g c honest id records h next at is_record text written =
    let m : _ → Meaning = g.D.Disk.meaning in
    Commits.committed id at.0 records h next is_record (m c.args.disk.now) (m c.append.new.self) (m c.sync.new.self) c.sync.result written
    (subst (λ (n : Name). Took (m c.args.disk.now) (m c.append.new.self) (Append n (record_text next.last) ∷ [])) at.1
    (subst (λ (l : List ℕ). Took (m c.args.disk.now) (m c.append.new.self) (Append c.args.file.now l ∷ [])) text (c.in_ok-append.ensures.ok honest)))
    (subst (λ (n : Name). OnOk c.sync.result (Took (m c.append.new.self) (m c.sync.new.self) (Sync n ∷ []))) at.1 (c.sync.ensures.ok honest))

pub returns-in_err-append-clause-no_folder : goal.returns-in_err-append-clause-no_folder
returns-in_err-append-clause-no_folder g c honest q is = part_kind _ _ c.args.file.now q _ (c.in_err-append.ensures.err honest) is

pub returns-clause-no_folder : goal.returns-clause-no_folder
returns-clause-no_folder g c honest q is =
    let m : _ → Meaning = g.D.Disk.meaning in
    both_kind (m c.args.disk.now) (m c.append.new.self) (m c.sync.new.self) c.args.file.now q _ c.sync.result (c.in_ok-append.ensures.ok honest) (c.sync.ensures.ok honest) (c.sync.ensures.err honest) is

pub returns-in_err-append-clause-served : goal.returns-in_err-append-clause-served
returns-in_err-append-clause-served g c honest id records h at rests =
    let state = state_in (g.D.Disk.meaning c.args.disk.now) in
    (c.in_err-append.ensures.judged honest).served (subst (λ (n : Name). IsFile (state n).now) (sym at.1) (Commits.current_there state id records h rests))

pub returns-clause-served : goal.returns-clause-served
returns-clause-served g c honest id records h at rests =
    let m : _ → Meaning = g.D.Disk.meaning in
    let state = state_in (m c.args.disk.now) in
    let file = subst (λ (n : Name). IsFile (state n).now) (sym at.1) (Commits.current_there state id records h rests) in
    (c.sync.ensures.judged honest).served (file_stays (m c.args.disk.now) (m c.append.new.self) c.args.file.now _ (c.in_ok-append.ensures.ok honest) file) ∙ (c.in_ok-append.ensures.judged honest).served file

pub returns-in_err-append-clause-kinds : goal.returns-in_err-append-clause-kinds
returns-in_err-append-clause-kinds g c honest = stays_part _ _ c.args.file.now _ (c.in_err-append.ensures.err honest)

pub returns-clause-kinds : goal.returns-clause-kinds
returns-clause-kinds g c honest =
    let m : _ → Meaning = g.D.Disk.meaning in
    stays_both (m c.args.disk.now) (m c.append.new.self) (m c.sync.new.self) (stays_appending _ _ c.args.file.now _ (c.in_ok-append.ensures.ok honest))
    (stays_syncing _ _ c.args.file.now c.sync.result (c.sync.ensures.ok honest) (c.sync.ensures.err honest))
