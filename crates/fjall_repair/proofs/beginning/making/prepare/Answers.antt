use Rattle.std.proofs.Common.{◌≡◌, ◌∷◌, ◌++◌, [], ◌∙◌, ap, false, inl, refl, map}
use Rattle.std.specs.Prelude.{string_bytes}
use Rattle.fjall_base.specs.Disk.{Meaning, Place, SyncFolder, Took}
use Rattle.fjall_files.specs.Names.{current_name, journal_name}
use Rattle.fjall_repair.specs.Making.{MakingGoesOn}
use Rattle.fjall_repair.proofs.Awaiting.{awaits, marker_stays}
use Rattle.fjall_repair.proofs.Moments.{goes_both, goes_settled}
use Rattle.fjall_repair.proofs.Trees.{on_ok_as}
use Rattle.fjall_files.proofs.Tidying.{stays_both as tidy_both, stays_settling, tidy_on}
use Rattle.fjall_repair.proofs.BeginServed.{homes_settled, journals_no_home}
use Rattle.fjall_repair.proofs.beginning.making.prepare.Goals as goal

pub returns-in_err-empty_journals-clause-goes : goal.returns-in_err-empty_journals-clause-goes
returns-in_err-empty_journals-clause-goes g c honest fits =
    let m : _ → Meaning = g.D.Disk.meaning in
    let names : map string_bytes c.deref-2.result.now ≡ map journal_name (c.args.plan.now.sealed.items ++ c.args.plan.now.active ∷ []) = ap (λ l. map string_bytes l) c.deref-2.ensures.value ∙ fits.names in
    goes_both false (m c.args.disk.now) (m c.make_tree.new.disk) (m c.empty_journals.new.disk)
    (c.in_ok-make_tree.ensures.goes honest (c.deref.ensures.value ∙ fits.first_is) fits.records)
    (c.in_err-empty_journals.ensures.goes honest (c.args.plan.now.sealed.items ++ c.args.plan.now.active ∷ []) fits.to_be.fit names)

pub returns-clause-goes : goal.returns-clause-goes
returns-clause-goes g c honest fits =
    let m : _ → Meaning = g.D.Disk.meaning in
    let names : map string_bytes c.deref-2.result.now ≡ map journal_name (c.args.plan.now.sealed.items ++ c.args.plan.now.active ∷ []) = ap (λ l. map string_bytes l) c.deref-2.ensures.value ∙ fits.names in
    goes_both false (m c.args.disk.now) (m c.empty_journals.new.disk) (m c.sync_folder.new.self)
    (goes_both false (m c.args.disk.now) (m c.make_tree.new.disk) (m c.empty_journals.new.disk)
    (c.in_ok-make_tree.ensures.goes honest (c.deref.ensures.value ∙ fits.first_is) fits.records)
    (c.in_ok-empty_journals.ensures.goes honest (c.args.plan.now.sealed.items ++ c.args.plan.now.active ∷ []) fits.to_be.fit names))
    (goes_settled false _ _ [] c.sync_folder.result (c.sync_folder.ensures.ok honest) (c.sync_folder.ensures.err honest))

pub returns-clause-awaits : goal.returns-clause-awaits
returns-clause-awaits g c honest fits making =
    let m : _ → Meaning = g.D.Disk.meaning in
    let names : map string_bytes c.deref-2.result.now ≡ map journal_name (c.args.plan.now.sealed.items ++ c.args.plan.now.active ∷ []) = ap (λ l. map string_bytes l) c.deref-2.ensures.value ∙ fits.names in
    let goes : MakingGoesOn false (m c.args.disk.now) (m c.sync_folder.new.self) = returns-clause-goes g c honest fits in
    on_ok_as c.sync_folder.result (Took (m c.empty_journals.new.disk) (m c.sync_folder.new.self) (SyncFolder [] ∷ [])) _
    (λ took. awaits string_bytes (m c.args.disk.now) (m c.make_tree.new.disk) (m c.empty_journals.new.disk) (m c.sync_folder.new.self) c.deref-2.result.now c.args.plan.now.sealed.items c.args.plan.now.active names fits.to_be
    (goes.now making) (c.in_ok-make_tree.ensures.made honest (c.deref.ensures.value ∙ fits.first_is) fits.records) (c.in_ok-make_tree.ensures.within honest)
    (c.in_ok-empty_journals.ensures.elsewhere honest) (c.in_ok-empty_journals.ensures.emptied honest) took)
    (c.sync_folder.ensures.ok honest)

pub returns-clause-marker : goal.returns-clause-marker
returns-clause-marker g c honest fits =
    let m : _ → Meaning = g.D.Disk.meaning in
    let names : map string_bytes c.deref-2.result.now ≡ map journal_name (c.args.plan.now.sealed.items ++ c.args.plan.now.active ∷ []) = ap (λ l. map string_bytes l) c.deref-2.ensures.value ∙ fits.names in
    on_ok_as c.sync_folder.result (Took (m c.empty_journals.new.disk) (m c.sync_folder.new.self) (SyncFolder [] ∷ [])) _
    (λ took. marker_stays string_bytes (m c.args.disk.now) (m c.make_tree.new.disk) (m c.empty_journals.new.disk) (m c.sync_folder.new.self) c.deref-2.result.now (c.args.plan.now.sealed.items ++ c.args.plan.now.active ∷ []) names
    (c.in_ok-make_tree.ensures.within honest) (c.in_ok-empty_journals.ensures.elsewhere honest) took)
    (c.sync_folder.ensures.ok honest)

pub returns-in_err-make_tree-clause-served : goal.returns-in_err-make_tree-clause-served
returns-in_err-make_tree-clause-served g c honest tidy fits = c.in_err-make_tree.ensures.served honest tidy (c.deref.ensures.value ∙ fits.first_is) fits.records

pub returns-in_err-empty_journals-clause-kinds : goal.returns-in_err-empty_journals-clause-kinds
returns-in_err-empty_journals-clause-kinds g c honest fits =
    let m : _ → Meaning = g.D.Disk.meaning in
    let names : map string_bytes c.deref-2.result.now ≡ map journal_name (c.args.plan.now.sealed.items ++ c.args.plan.now.active ∷ []) = ap (λ l. map string_bytes l) c.deref-2.ensures.value ∙ fits.names in
    tidy_both (m c.args.disk.now) (m c.make_tree.new.disk) (m c.empty_journals.new.disk) (c.in_ok-make_tree.ensures.kinds honest) (c.in_err-empty_journals.ensures.kinds honest (c.args.plan.now.sealed.items ++ c.args.plan.now.active ∷ []) fits.to_be.fit names)

pub returns-in_err-empty_journals-clause-homes : goal.returns-in_err-empty_journals-clause-homes
returns-in_err-empty_journals-clause-homes g c honest fits id some small =
    let names : map string_bytes c.deref-2.result.now ≡ map journal_name (c.args.plan.now.sealed.items ++ c.args.plan.now.active ∷ []) = ap (λ l. map string_bytes l) c.deref-2.ensures.value ∙ fits.names in
    ap (λ (p : Place). p.now) (c.in_err-empty_journals.ensures.elsewhere honest (current_name id) (journals_no_home string_bytes c.deref-2.result.now (c.args.plan.now.sealed.items ++ c.args.plan.now.active ∷ []) names fits.to_be.fit id some small))
    ∙ c.in_ok-make_tree.ensures.homes honest id some small

pub returns-in_err-empty_journals-clause-served : goal.returns-in_err-empty_journals-clause-served
returns-in_err-empty_journals-clause-served g c honest tidy fits =
    let m : _ → Meaning = g.D.Disk.meaning in
    let names : map string_bytes c.deref-2.result.now ≡ map journal_name (c.args.plan.now.sealed.items ++ c.args.plan.now.active ∷ []) = ap (λ l. map string_bytes l) c.deref-2.ensures.value ∙ fits.names in
    c.in_err-empty_journals.ensures.served honest (tidy_on (m c.args.disk.now) (m c.make_tree.new.disk) (c.in_ok-make_tree.ensures.kinds honest) tidy) (c.args.plan.now.sealed.items ++ c.args.plan.now.active ∷ []) fits.to_be.fit names
    ∙ c.in_ok-make_tree.ensures.served honest tidy (c.deref.ensures.value ∙ fits.first_is) fits.records

pub returns-clause-kinds : goal.returns-clause-kinds
returns-clause-kinds g c honest fits =
    let m : _ → Meaning = g.D.Disk.meaning in
    let names : map string_bytes c.deref-2.result.now ≡ map journal_name (c.args.plan.now.sealed.items ++ c.args.plan.now.active ∷ []) = ap (λ l. map string_bytes l) c.deref-2.ensures.value ∙ fits.names in
    tidy_both (m c.args.disk.now) (m c.empty_journals.new.disk) (m c.sync_folder.new.self)
    (tidy_both (m c.args.disk.now) (m c.make_tree.new.disk) (m c.empty_journals.new.disk) (c.in_ok-make_tree.ensures.kinds honest) (c.in_ok-empty_journals.ensures.kinds honest (c.args.plan.now.sealed.items ++ c.args.plan.now.active ∷ []) fits.to_be.fit names))
    (stays_settling _ _ [] c.sync_folder.result (c.sync_folder.ensures.ok honest) (c.sync_folder.ensures.err honest))

pub returns-clause-homes : goal.returns-clause-homes
returns-clause-homes g c honest fits id some small =
    let m : _ → Meaning = g.D.Disk.meaning in
    let names : map string_bytes c.deref-2.result.now ≡ map journal_name (c.args.plan.now.sealed.items ++ c.args.plan.now.active ∷ []) = ap (λ l. map string_bytes l) c.deref-2.ensures.value ∙ fits.names in
    homes_settled [] (m c.empty_journals.new.disk) (m c.sync_folder.new.self) c.sync_folder.result (c.sync_folder.ensures.ok honest) (c.sync_folder.ensures.err honest) id some small
    ∙ ap (λ (p : Place). p.now) (c.in_ok-empty_journals.ensures.elsewhere honest (current_name id) (journals_no_home string_bytes c.deref-2.result.now (c.args.plan.now.sealed.items ++ c.args.plan.now.active ∷ []) names fits.to_be.fit id some small))
    ∙ c.in_ok-make_tree.ensures.homes honest id some small

pub returns-clause-served : goal.returns-clause-served
returns-clause-served g c honest tidy fits =
    let m : _ → Meaning = g.D.Disk.meaning in
    let names : map string_bytes c.deref-2.result.now ≡ map journal_name (c.args.plan.now.sealed.items ++ c.args.plan.now.active ∷ []) = ap (λ l. map string_bytes l) c.deref-2.ensures.value ∙ fits.names in
    (c.sync_folder.ensures.judged honest).served (inl refl)
    ∙ c.in_ok-empty_journals.ensures.served honest (tidy_on (m c.args.disk.now) (m c.make_tree.new.disk) (c.in_ok-make_tree.ensures.kinds honest) tidy) (c.args.plan.now.sealed.items ++ c.args.plan.now.active ∷ []) fits.to_be.fit names
    ∙ c.in_ok-make_tree.ensures.served honest tidy (c.deref.ensures.value ∙ fits.first_is) fits.records
