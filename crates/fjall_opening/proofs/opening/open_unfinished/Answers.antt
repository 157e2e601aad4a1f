use Rattle.std.proofs.Common.{◌≡◌, ℕ, ◌<◌, ◌^◌, [], ◌∷◌, None, length, length-append, map, refl, sym, subst, ap, All, ◌∙◌, arith}
use Rattle.std.proofs.Math.Seq.{get_or-append_seam}
use Rattle.fjall_journal.specs.Writer.{Journal}
use Rattle.std.specs.List.{Contains}
use Rattle.std.specs.Prelude.{string_bytes}
use Rattle.std.proofs.lemmas.Result.{err_from_is_err_and}
use Rattle.fjall_base.specs.Disk.{DiskState, Meaning, standing, state_in}
use Rattle.fjall_base.proofs.Moments.{stays}
use Rattle.fjall_files.specs.Names.{journal_name}
use Rattle.fjall_meta.specs.Keyspaces.{AreKeyspaces, Keyspaces, no_keyspaces}
use Rattle.fjall_manifest.specs.declared.catalog.Catalog.{Catalog}
use Rattle.fjall_manifest.specs.Catalog.{first_catalog}
use Rattle.fjall_repair.specs.Making.{ComesBackUnfinished}
use Rattle.fjall_repair.specs.Plans.{IsBeginPlan as IsMakingOf, journals_begun}
use Rattle.fjall_opening.specs.Opened.{nothing}
use Rattle.fjall_repair.specs.Sweeps.{BringsNoTable, FindsTables, IsSwept, HasAll, no_names}
use Rattle.fjall_repair.proofs.Planned.{is_swept, lives_small}
use Rattle.fjall_opening.proofs.Openings.{held_early, holds_on, opens_of, run_on, stands_now}
use Rattle.fjall_opening.proofs.OpenedTrees.{makes_nothing, no_trees}
use Rattle.fjall_trees.specs.Views.{forest_of}
use Rattle.fjall_files.specs.Tidy.{IsTidy}
use Rattle.fjall_files.proofs.Tidying.{stays_both, stays_none as tidy_none}
use Rattle.fjall_opening.proofs.Amid.{amid_now, amid_on}
use Rattle.fjall_recovery.specs.Folders.{IsUnfinished}
use Rattle.fjall_opening.proofs.Counting.{active_begun, none_begun}
use Rattle.fjall_files.specs.Places.{told}
use Rattle.fjall_opening.proofs.opening.open_unfinished.Goals as goal

pub returns-in_err-opened-clause-any_moment : goal.returns-in_err-opened-clause-any_moment
returns-in_err-opened-clause-any_moment g c honest holds back =
    let m : _ → Meaning = g.D.Disk.meaning in
    stays (m c.args.disk.now) (m c.args.disk.now) (m c.ready_to_begin.new.disk) _ (stands_now (m c.args.disk.now) None holds) (c.in_err-opened.ensures.same honest)

pub returns-in_err-opened-clause-due : goal.returns-in_err-opened-clause-due
returns-in_err-opened-clause-due g c honest unfinished =
    let m : _ → Meaning = g.D.Disk.meaning in
    let p = err_from_is_err_and c.from_residual.result c.from_residual.ensures.1 in
    rw (p.1, p.2) (held_early (m c.args.disk.now) (m c.ready_to_begin.new.disk) c.in_err-opened.field-0.0 (c.in_err-opened.ensures.due honest unfinished) (c.in_err-opened.ensures.same honest))

pub returns-in_err-begin_and_sweep-clause-any_moment : goal.returns-in_err-begin_and_sweep-clause-any_moment
returns-in_err-begin_and_sweep-clause-any_moment g c honest holds back =
    let m : _ → Meaning = g.D.Disk.meaning in
    let ready = c.in_ok-opened.field-0 in
    let same = c.in_ok-opened.ensures.same honest in
    run_on (m c.args.disk.now) (m c.ready_to_begin.new.disk) same (m c.begin_and_sweep.new.disk) _
    (c.in_err-begin_and_sweep.ensures.any_moment honest (holds_on (m c.args.disk.now) (m c.ready_to_begin.new.disk) same None holds) (subst ComesBackUnfinished (sym same.state) back)
    (subst (λ (s : DiskState). IsMakingOf (standing s) ready.making) (sym same.state) (c.in_ok-opened.ensures.making honest)) (c.in_ok-opened.ensures.sweep honest))

pub returns-clause-opened : goal.returns-clause-opened
returns-clause-opened g c honest holds =
    let m : _ → Meaning = g.D.Disk.meaning in
    let ready = c.in_ok-opened.field-0 in
    let same = c.in_ok-opened.ensures.same honest in
    let repaired = c.in_ok-begin_and_sweep.ensures.ok honest (holds_on (m c.args.disk.now) (m c.ready_to_begin.new.disk) same None holds)
    (subst (λ (s : DiskState). IsMakingOf (standing s) ready.making) (sym same.state) (c.in_ok-opened.ensures.making honest)) (c.in_ok-opened.ensures.sweep honest)
    (subst (λ (s : DiskState). FindsTables s no_names (map string_bytes ready.sweep.tables.items)) (sym same.state) (c.in_ok-opened.ensures.finds honest).2.tables) in
    opens_of (m c.begin_and_sweep.new.disk) nothing (journals_begun ready.making) (journal_name ready.making.active) 0 repaired None [] ready.opened c.in_ok-opened.ensures.opened c.in_ok-opened.ensures.journals
    (c.in_ok-opened.ensures.active ∙ active_begun ready.making)
    (makes_nothing (m c.begin_and_sweep.new.disk) (journal_name ready.making.active) ready.opened c.in_ok-opened.ensures.opened) refl c.in_ok-opened.ensures.number refl

-- its writer goes on in the journal that was made last
pub returns-clause-writes : goal.returns-clause-writes
returns-clause-writes g c honest =
    let making = c.in_ok-opened.field-0.making in
    let sealed = making.sealed.items in
    let fits = (c.in_ok-opened.ensures.making honest).to_be.fit (length sealed) 0 (omega (arith, length-append sealed (making.active ∷ []))) in
    (making.active, subst (λ (n : ℕ). n < 2 ^ 64) (get_or-append_seam sealed making.active [] 0) fits, ap (λ (w : Journal). w.name) c.in_ok-opened.ensures.opened.journal)

-- no table is named where none are
none_has : (n : ℕ) → Contains [] n → ⊥
none_has n has = let lt = has.1 in omega (arith, lt)

pub returns-clause-swept : goal.returns-clause-swept
returns-clause-swept g c honest =
    let m : _ → Meaning = g.D.Disk.meaning in
    let ready = c.in_ok-opened.field-0 in
    let old : DiskState = state_in (m c.args.disk.now) in
    let new : DiskState = state_in (m c.begin_and_sweep.new.disk) in
    let finds = c.in_ok-opened.ensures.finds honest in
    let mid : DiskState = state_in (m c.ready_to_begin.new.disk) in
    let same : mid ≡ old = (c.in_ok-opened.ensures.same honest).state in
    let making = subst (λ (s : DiskState). IsMakingOf (standing s) ready.making) (sym same) (c.in_ok-opened.ensures.making honest) in
    let brings = subst (λ (s : DiskState). BringsNoTable s new) same (c.in_ok-begin_and_sweep.ensures.tables honest making) in
    let keyspaces = c.in_ok-opened.ensures.opened.keyspaces in
    let are = subst AreKeyspaces keyspaces c.in_ok-opened.ensures.lawful.keyspaces in
    subst (λ (s : Keyspaces). IsSwept old new ready.opened.catalog s.living) (sym keyspaces)
    (subst (λ (last : Catalog). IsSwept old new last []) (sym c.in_ok-opened.ensures.opened.last_is)
    (is_swept old new first_catalog [] no_names finds.0 ready.sweep finds.2 finds.1 (c.in_ok-begin_and_sweep.ensures.gone honest) (lives_small no_keyspaces are) brings
    (λ n has. absurd (none_has n has)) (λ id n lives has. absurd (none_has n has))))

pub returns-clause-trees : goal.returns-clause-trees
returns-clause-trees g c = no_trees (forest_of c.in_ok-opened.field-0.opened.trees) c.in_ok-opened.ensures.opened.rest

pub returns-clause-any_moment : goal.returns-clause-any_moment
returns-clause-any_moment g c honest holds back =
    let m : _ → Meaning = g.D.Disk.meaning in
    let ready = c.in_ok-opened.field-0 in
    let same = c.in_ok-opened.ensures.same honest in
    run_on (m c.args.disk.now) (m c.ready_to_begin.new.disk) same (m c.begin_and_sweep.new.disk) _
    (c.in_ok-begin_and_sweep.ensures.any_moment honest (holds_on (m c.args.disk.now) (m c.ready_to_begin.new.disk) same None holds) (subst ComesBackUnfinished (sym same.state) back)
    (subst (λ (s : DiskState). IsMakingOf (standing s) ready.making) (sym same.state) (c.in_ok-opened.ensures.making honest)) (c.in_ok-opened.ensures.sweep honest))

pub returns-in_err-opened-clause-kinds : goal.returns-in_err-opened-clause-kinds
returns-in_err-opened-clause-kinds g c honest = tidy_none _ _ (c.in_err-opened.ensures.same honest)

pub returns-in_err-begin_and_sweep-clause-kinds : goal.returns-in_err-begin_and_sweep-clause-kinds
returns-in_err-begin_and_sweep-clause-kinds g c honest =
    let m : _ → Meaning = g.D.Disk.meaning in
    let ready = c.in_ok-opened.field-0 in
    let same = c.in_ok-opened.ensures.same honest in
    stays_both (m c.args.disk.now) (m c.ready_to_begin.new.disk) (m c.begin_and_sweep.new.disk) (tidy_none _ _ same)
    (c.in_err-begin_and_sweep.ensures.kinds honest (subst (λ (s : DiskState). IsMakingOf (standing s) ready.making) (sym same.state) (c.in_ok-opened.ensures.making honest)))

pub returns-in_err-begin_and_sweep-clause-served : goal.returns-in_err-begin_and_sweep-clause-served
returns-in_err-begin_and_sweep-clause-served g c honest tidy =
    let ready = c.in_ok-opened.field-0 in
    let same = c.in_ok-opened.ensures.same honest in
    c.in_err-begin_and_sweep.ensures.served honest (subst IsTidy (sym same.state) tidy) (subst (λ (s : DiskState). IsMakingOf (standing s) ready.making) (sym same.state) (c.in_ok-opened.ensures.making honest))
    (c.in_ok-opened.ensures.sweep honest)
    (subst (λ (s : DiskState). All (HasAll s) ready.sweep.homes.items) (sym same.state) (c.in_ok-opened.ensures.finds honest).2.each)
    ∙ c.in_ok-opened.ensures.served honest

pub returns-clause-kinds : goal.returns-clause-kinds
returns-clause-kinds g c honest =
    let m : _ → Meaning = g.D.Disk.meaning in
    let ready = c.in_ok-opened.field-0 in
    let same = c.in_ok-opened.ensures.same honest in
    stays_both (m c.args.disk.now) (m c.ready_to_begin.new.disk) (m c.begin_and_sweep.new.disk) (tidy_none _ _ same)
    (c.in_ok-begin_and_sweep.ensures.kinds honest (subst (λ (s : DiskState). IsMakingOf (standing s) ready.making) (sym same.state) (c.in_ok-opened.ensures.making honest)))

pub returns-clause-served : goal.returns-clause-served
returns-clause-served g c honest tidy =
    let ready = c.in_ok-opened.field-0 in
    let same = c.in_ok-opened.ensures.same honest in
    c.in_ok-begin_and_sweep.ensures.served honest (subst IsTidy (sym same.state) tidy) (subst (λ (s : DiskState). IsMakingOf (standing s) ready.making) (sym same.state) (c.in_ok-opened.ensures.making honest))
    (c.in_ok-opened.ensures.sweep honest)
    (subst (λ (s : DiskState). All (HasAll s) ready.sweep.homes.items) (sym same.state) (c.in_ok-opened.ensures.finds honest).2.each)
    ∙ c.in_ok-opened.ensures.served honest

pub returns-in_err-opened-clause-amid : goal.returns-in_err-opened-clause-amid
returns-in_err-opened-clause-amid g c honest unfinished base pending holds =
    let m : _ → Meaning = g.D.Disk.meaning in
    stays (m c.args.disk.now) (m c.args.disk.now) (m c.ready_to_begin.new.disk) _ (amid_now (m c.args.disk.now) base pending holds) (c.in_err-opened.ensures.same honest)

pub returns-in_err-begin_and_sweep-clause-amid : goal.returns-in_err-begin_and_sweep-clause-amid
returns-in_err-begin_and_sweep-clause-amid g c honest unfinished base pending holds =
    let m : _ → Meaning = g.D.Disk.meaning in
    let ready = c.in_ok-opened.field-0 in
    let same = c.in_ok-opened.ensures.same honest in
    run_on (m c.args.disk.now) (m c.ready_to_begin.new.disk) same (m c.begin_and_sweep.new.disk) _
    (c.in_err-begin_and_sweep.ensures.amid honest (subst (λ (s : DiskState). IsUnfinished (standing s)) (sym same.state) unfinished)
    (subst (λ (s : DiskState). IsMakingOf (standing s) ready.making) (sym same.state) (c.in_ok-opened.ensures.making honest)) (c.in_ok-opened.ensures.sweep honest) base pending
    (amid_on (m c.args.disk.now) (m c.ready_to_begin.new.disk) same base pending holds))

pub returns-clause-amid : goal.returns-clause-amid
returns-clause-amid g c honest unfinished base pending holds =
    let m : _ → Meaning = g.D.Disk.meaning in
    let ready = c.in_ok-opened.field-0 in
    let same = c.in_ok-opened.ensures.same honest in
    run_on (m c.args.disk.now) (m c.ready_to_begin.new.disk) same (m c.begin_and_sweep.new.disk) _
    (c.in_ok-begin_and_sweep.ensures.amid honest (subst (λ (s : DiskState). IsUnfinished (standing s)) (sym same.state) unfinished)
    (subst (λ (s : DiskState). IsMakingOf (standing s) ready.making) (sym same.state) (c.in_ok-opened.ensures.making honest)) (c.in_ok-opened.ensures.sweep honest) base pending
    (amid_on (m c.args.disk.now) (m c.ready_to_begin.new.disk) same base pending holds))

pub returns-clause-opens : goal.returns-clause-opens
returns-clause-opens g c honest unfinished =
    let m : _ → Meaning = g.D.Disk.meaning in
    let ready = c.in_ok-opened.field-0 in
    let same = c.in_ok-opened.ensures.same honest in
    let repaired = c.in_ok-begin_and_sweep.ensures.repaired honest (subst (λ (s : DiskState). IsUnfinished (standing s)) (sym same.state) unfinished)
    (subst (λ (s : DiskState). IsMakingOf (standing s) ready.making) (sym same.state) (c.in_ok-opened.ensures.making honest)) (c.in_ok-opened.ensures.sweep honest)
    (subst (λ (s : DiskState). FindsTables s no_names (map string_bytes ready.sweep.tables.items)) (sym same.state) (c.in_ok-opened.ensures.finds honest).2.tables) in
    opens_of (m c.begin_and_sweep.new.disk) nothing (journals_begun ready.making) (journal_name ready.making.active) 0 repaired None [] ready.opened c.in_ok-opened.ensures.opened c.in_ok-opened.ensures.journals
    (c.in_ok-opened.ensures.active ∙ active_begun ready.making)
    (makes_nothing (m c.begin_and_sweep.new.disk) (journal_name ready.making.active) ready.opened c.in_ok-opened.ensures.opened) refl c.in_ok-opened.ensures.number refl

pub returns-in_err-opened-clause-held : goal.returns-in_err-opened-clause-held
returns-in_err-opened-clause-held g c honest unfinished base pending holds = amid_on _ _ (c.in_err-opened.ensures.same honest) base pending holds

pub returns-in_err-begin_and_sweep-clause-held : goal.returns-in_err-begin_and_sweep-clause-held
returns-in_err-begin_and_sweep-clause-held g c honest unfinished base pending holds =
    let m : _ → Meaning = g.D.Disk.meaning in
    let ready = c.in_ok-opened.field-0 in
    let same = c.in_ok-opened.ensures.same honest in
    c.in_err-begin_and_sweep.ensures.held honest (subst (λ (s : DiskState). IsUnfinished (standing s)) (sym same.state) unfinished)
    (subst (λ (s : DiskState). IsMakingOf (standing s) ready.making) (sym same.state) (c.in_ok-opened.ensures.making honest)) (c.in_ok-opened.ensures.sweep honest) base pending
    (amid_on (m c.args.disk.now) (m c.ready_to_begin.new.disk) same base pending holds)

pub returns-clause-held : goal.returns-clause-held
returns-clause-held g c honest unfinished base pending holds =
    let m : _ → Meaning = g.D.Disk.meaning in
    let ready = c.in_ok-opened.field-0 in
    let same = c.in_ok-opened.ensures.same honest in
    c.in_ok-begin_and_sweep.ensures.held honest (subst (λ (s : DiskState). IsUnfinished (standing s)) (sym same.state) unfinished)
    (subst (λ (s : DiskState). IsMakingOf (standing s) ready.making) (sym same.state) (c.in_ok-opened.ensures.making honest)) (c.in_ok-opened.ensures.sweep honest) base pending
    (amid_on (m c.args.disk.now) (m c.ready_to_begin.new.disk) same base pending holds)

pub returns-clause-fresh : goal.returns-clause-fresh
returns-clause-fresh g c honest none =
    let ready = c.in_ok-opened.field-0 in
    none_begun (standing (state_in (g.D.Disk.meaning c.args.disk.now))) ready.making ready.opened.sealed (told ready.opened.watermarks) (c.in_ok-opened.ensures.making honest) none c.in_ok-opened.ensures.journals
