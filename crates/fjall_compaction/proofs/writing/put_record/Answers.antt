use Rattle.std.proofs.Common.{◌≡◌, [], ◌∷◌, List, ℕ, OnOk, OnErr, true, sym, ◌∙◌, ap, subst}
use Rattle.fjall_base.specs.Disk.{Append, DiskStep, IsFile, Meaning, Name, Sync, Took, TookOrNot, TookPart, state_in}
use Rattle.fjall_base.proofs.Served.{file_stays}
use Rattle.fjall_files.specs.Names.{current_name, keyspace_folder}
use Rattle.fjall_files.specs.Regions.{is_under}
use Rattle.fjall_files.proofs.Made.{appended_within, part_within, synced_within, within_both}
use Rattle.fjall_files.proofs.Tidying.{stays_appending, stays_both, stays_part, stays_syncing}
use Rattle.fjall_files.proofs.Under.{under_self}
use Rattle.fjall_manifest.proofs.Commits as Commits
use Rattle.fjall_manifest.proofs.Naming.{current_under}
use Rattle.fjall_compaction.proofs.writing.put_record.Goals as goal

-- ---- the record wasn't appended whole

pub returns-in_err-append-clause-within : goal.returns-in_err-append-clause-within
returns-in_err-append-clause-within g c honest id at =
    let under : is_under (keyspace_folder id) c.args.file.now ≡ true = ap (λ (q : Name). is_under (keyspace_folder id) q) at.1 ∙ current_under id in
    part_within (keyspace_folder id) c.args.file.now _ _ c.args.text.now under (c.in_err-append.ensures.err honest)

pub returns-in_err-append-clause-any_moment : goal.returns-in_err-append-clause-any_moment
returns-in_err-append-clause-any_moment g c honest id records h next at is_record text put =
    let m : _ → Meaning = g.D.Disk.meaning in
    let part = subst (λ (n : Name). TookPart (m c.args.disk.now) (m c.append.new.self) n c.args.text.now) at.1 (c.in_err-append.ensures.err honest) in
    Commits.in_part id at.0 records h next is_record (m c.args.disk.now) put.rests put.tables (m c.append.new.self)
    (subst (λ (l : List ℕ). TookPart (m c.args.disk.now) (m c.append.new.self) (current_name id) l) text part)

pub returns-in_err-append-clause-served : goal.returns-in_err-append-clause-served
returns-in_err-append-clause-served g c honest id records h at rests =
    let state = state_in (g.D.Disk.meaning c.args.disk.now) in
    (c.in_err-append.ensures.judged honest).served (subst (λ (n : Name). IsFile (state n).now) (sym at.1) (Commits.current_there state id records h rests))

pub returns-in_err-append-clause-kinds : goal.returns-in_err-append-clause-kinds
returns-in_err-append-clause-kinds g c honest = stays_part _ _ c.args.file.now _ (c.in_err-append.ensures.err honest)

pub returns-in_err-append-clause-beside : goal.returns-in_err-append-clause-beside
returns-in_err-append-clause-beside g c honest id at =
    let under : is_under (current_name id) c.args.file.now ≡ true = ap (λ (q : Name). is_under (current_name id) q) at.1 ∙ under_self (current_name id) in
    part_within (current_name id) c.args.file.now _ _ c.args.text.now under (c.in_err-append.ensures.err honest)

-- ---- the whole call

pub returns-clause-within : goal.returns-clause-within
returns-clause-within g c honest id at =
    let under : is_under (keyspace_folder id) c.args.file.now ≡ true = ap (λ (q : Name). is_under (keyspace_folder id) q) at.1 ∙ current_under id in
    within_both (keyspace_folder id) _ _ _ (appended_within (keyspace_folder id) c.args.file.now _ _ c.args.text.now under (c.in_ok-append.ensures.ok honest))
    (synced_within (keyspace_folder id) c.args.file.now _ _ c.sync.result under (c.sync.ensures.ok honest) (c.sync.ensures.err honest))

pub returns-clause-any_moment : goal.returns-clause-any_moment
returns-clause-any_moment g c honest id records h next at is_record text put =
    let m : _ → Meaning = g.D.Disk.meaning in
    Commits.committing id at.0 records h next is_record (m c.args.disk.now) put.rests put.tables (m c.append.new.self) (m c.sync.new.self) c.sync.result
    (subst (λ (s : DiskStep). Took (m c.args.disk.now) (m c.append.new.self) (s ∷ [])) (λ i. Append (at.1 i) (text i)) (c.in_ok-append.ensures.ok honest))
    (subst (λ (n : Name). OnOk c.sync.result (Took (m c.append.new.self) (m c.sync.new.self) (Sync n ∷ []))) at.1 (c.sync.ensures.ok honest))
    (subst (λ (n : Name). OnErr c.sync.result (TookOrNot (m c.append.new.self) (m c.sync.new.self) (Sync n ∷ []))) at.1 (c.sync.ensures.err honest))

pub returns-clause-ok : goal.returns-clause-ok
returns-clause-ok g c honest id records h next at is_record text put =
    let m : _ → Meaning = g.D.Disk.meaning in
    Commits.rested id at.0 records h next is_record (m c.args.disk.now) (m c.append.new.self) (m c.sync.new.self) c.sync.result put.rests put.tables
    (subst (λ (s : DiskStep). Took (m c.args.disk.now) (m c.append.new.self) (s ∷ [])) (λ i. Append (at.1 i) (text i)) (c.in_ok-append.ensures.ok honest))
    (subst (λ (n : Name). OnOk c.sync.result (Took (m c.append.new.self) (m c.sync.new.self) (Sync n ∷ []))) at.1 (c.sync.ensures.ok honest))

pub returns-clause-served : goal.returns-clause-served
returns-clause-served g c honest id records h at rests =
    let m : _ → Meaning = g.D.Disk.meaning in
    let file = subst (λ (n : Name). IsFile (state_in (m c.args.disk.now) n).now) (sym at.1) (Commits.current_there (state_in (m c.args.disk.now)) id records h rests) in
    (c.sync.ensures.judged honest).served (file_stays (m c.args.disk.now) (m c.append.new.self) c.args.file.now _ (c.in_ok-append.ensures.ok honest) file)
    ∙ (c.in_ok-append.ensures.judged honest).served file

pub returns-clause-kinds : goal.returns-clause-kinds
returns-clause-kinds g c honest =
    stays_both _ _ _ (stays_appending _ _ c.args.file.now _ (c.in_ok-append.ensures.ok honest)) (stays_syncing _ _ c.args.file.now c.sync.result (c.sync.ensures.ok honest) (c.sync.ensures.err honest))

pub returns-clause-beside : goal.returns-clause-beside
returns-clause-beside g c honest id at =
    let under : is_under (current_name id) c.args.file.now ≡ true = ap (λ (q : Name). is_under (current_name id) q) at.1 ∙ under_self (current_name id) in
    within_both (current_name id) _ _ _ (appended_within (current_name id) c.args.file.now _ _ c.args.text.now under (c.in_ok-append.ensures.ok honest))
    (synced_within (current_name id) c.args.file.now _ _ c.sync.result under (c.sync.ensures.ok honest) (c.sync.ensures.err honest))
