use Rattle.std.proofs.Common.{Option, refl, subst, sym, ◌∙◌}
use Rattle.std.specs.Prelude.{IsSome}
use Rattle.fjall_base.specs.Disk.{Meaning}
use Rattle.fjall_files.specs.declared.own.OwnFiles.{OwnFiles}
use Rattle.fjall_files.proofs.Made.{within_none}
use Rattle.fjall_files.proofs.Tidying.{stays_both, stays_none, stays_settling}
use Rattle.fjall_manifest.proofs.Outside.{within_keyspaces}
use Rattle.fjall_changes.proofs.ServableCreations.{keyspaces_there}
use Rattle.fjall_changes.proofs.UnnamedHomes as Building
use Rattle.fjall_changes.proofs.removal.remove_keyspace.Goals as goal

-- ---- the folder wasn't listed

pub returns-in_err-own-clause-within : goal.returns-in_err-own-clause-within
returns-in_err-own-clause-within g c honest = within_none _ _ _ (c.in_err-own.ensures.same honest)

pub returns-in_err-own-clause-others : goal.returns-in_err-own-clause-others
returns-in_err-own-clause-others g c honest q out = Building.others_stay c.args.id _ _ (within_none _ _ _ (c.in_err-own.ensures.same honest)) q out

pub returns-in_err-own-clause-any_moment : goal.returns-in_err-own-clause-any_moment
returns-in_err-own-clause-any_moment g c honest records t unused lies = (Building.first_on c.args.id records t unused _ _ lies (within_none _ _ _ (c.in_err-own.ensures.same honest))).run

pub returns-in_err-own-clause-kinds : goal.returns-in_err-own-clause-kinds
returns-in_err-own-clause-kinds g c honest = stays_none _ _ (c.in_err-own.ensures.same honest)

-- ---- it holds something else

pub returns-in_default-clause-within : goal.returns-in_default-clause-within
returns-in_default-clause-within g c honest = within_none _ _ _ (c.in_ok-own.ensures.same honest)

pub returns-in_default-clause-others : goal.returns-in_default-clause-others
returns-in_default-clause-others g c honest q out = Building.others_stay c.args.id _ _ (within_none _ _ _ (c.in_ok-own.ensures.same honest)) q out

pub returns-in_default-clause-any_moment : goal.returns-in_default-clause-any_moment
returns-in_default-clause-any_moment g c honest records t unused lies = (Building.first_on c.args.id records t unused _ _ lies (within_none _ _ _ (c.in_ok-own.ensures.same honest))).run

pub returns-in_default-clause-kinds : goal.returns-in_default-clause-kinds
returns-in_default-clause-kinds g c honest = stays_none _ _ (c.in_ok-own.ensures.same honest)

-- ---- some of it wasn't removed

pub returns-in_err-remove_home-clause-within : goal.returns-in_err-remove_home-clause-within
returns-in_err-remove_home-clause-within g c honest =
    let m : _ → Meaning = g.D.Disk.meaning in
    let run = Building.own_within c.args.id (m c.args.disk.now) (m c.list_own_files.new.disk) (c.in_ok-own.ensures.same honest) _ c.in-Some.own c.in-Some.is (c.in_ok-own.ensures.own honest)
    c.deref.result.now c.deref-2.result.now c.deref.ensures c.deref-2.ensures.value (m c.remove_home.new.disk) (c.in_err-remove_home.ensures.within honest) in
    within_keyspaces c.args.id _ _ run

pub returns-in_err-remove_home-clause-others : goal.returns-in_err-remove_home-clause-others
returns-in_err-remove_home-clause-others g c honest q out =
    let m : _ → Meaning = g.D.Disk.meaning in
    let run = Building.own_within c.args.id (m c.args.disk.now) (m c.list_own_files.new.disk) (c.in_ok-own.ensures.same honest) _ c.in-Some.own c.in-Some.is (c.in_ok-own.ensures.own honest)
    c.deref.result.now c.deref-2.result.now c.deref.ensures c.deref-2.ensures.value (m c.remove_home.new.disk) (c.in_err-remove_home.ensures.within honest) in
    Building.others_stay c.args.id _ _ run q out

pub returns-in_err-remove_home-clause-any_moment : goal.returns-in_err-remove_home-clause-any_moment
returns-in_err-remove_home-clause-any_moment g c honest records t unused lies =
    let m : _ → Meaning = g.D.Disk.meaning in
    let run = Building.own_within c.args.id (m c.args.disk.now) (m c.list_own_files.new.disk) (c.in_ok-own.ensures.same honest) _ c.in-Some.own c.in-Some.is (c.in_ok-own.ensures.own honest)
    c.deref.result.now c.deref-2.result.now c.deref.ensures c.deref-2.ensures.value (m c.remove_home.new.disk) (c.in_err-remove_home.ensures.within honest) in
    (Building.first_on c.args.id records t unused _ _ lies run).run

pub returns-in_err-remove_home-clause-lies : goal.returns-in_err-remove_home-clause-lies
returns-in_err-remove_home-clause-lies g c honest records t unused lies =
    let m : _ → Meaning = g.D.Disk.meaning in
    let run = Building.own_within c.args.id (m c.args.disk.now) (m c.list_own_files.new.disk) (c.in_ok-own.ensures.same honest) _ c.in-Some.own c.in-Some.is (c.in_ok-own.ensures.own honest)
    c.deref.result.now c.deref-2.result.now c.deref.ensures c.deref-2.ensures.value (m c.remove_home.new.disk) (c.in_err-remove_home.ensures.within honest) in
    (Building.first_on c.args.id records t unused _ _ lies run).lies

pub returns-in_err-remove_home-clause-left : goal.returns-in_err-remove_home-clause-left
returns-in_err-remove_home-clause-left g c honest other =
    absurd (other ((c.in_ok-own.ensures.exact honest).0 (subst (λ (o : Option OwnFiles). IsSome o) (sym c.in-Some.is) refl)))

pub returns-in_err-remove_home-clause-served : goal.returns-in_err-remove_home-clause-served
returns-in_err-remove_home-clause-served g c honest records t lies kind =
    let m : _ → Meaning = g.D.Disk.meaning in
    let holds = Building.own_held c.args.id (m c.args.disk.now) (m c.list_own_files.new.disk) (c.in_ok-own.ensures.same honest) _ c.in-Some.own c.in-Some.is (c.in_ok-own.ensures.own honest)
    c.deref.result.now c.deref-2.result.now c.deref.ensures c.deref-2.ensures.value ((c.in_ok-own.ensures.exact honest).0 (subst (λ (o : Option OwnFiles). IsSome o) (sym c.in-Some.is) refl)) kind in
    c.in_err-remove_home.ensures.served honest holds ∙ c.in_ok-own.ensures.served honest

pub returns-in_err-remove_home-clause-kinds : goal.returns-in_err-remove_home-clause-kinds
returns-in_err-remove_home-clause-kinds g c honest =
    stays_both _ _ _ (stays_none _ _ (c.in_ok-own.ensures.same honest)) (c.in_err-remove_home.ensures.kinds honest)

-- ---- the whole call

pub returns-clause-within : goal.returns-clause-within
returns-clause-within g c honest =
    let m : _ → Meaning = g.D.Disk.meaning in
    let run = Building.own_within c.args.id (m c.args.disk.now) (m c.list_own_files.new.disk) (c.in_ok-own.ensures.same honest) _ c.in-Some.own c.in-Some.is (c.in_ok-own.ensures.own honest)
    c.deref.result.now c.deref-2.result.now c.deref.ensures c.deref-2.ensures.value (m c.remove_home.new.disk) (c.in_ok-remove_home.ensures.within honest) in
    Building.settled_in_keyspaces c.args.id _ _ _ c.sync_folder.result run (c.sync_folder.ensures.ok honest) (c.sync_folder.ensures.err honest)

pub returns-clause-others : goal.returns-clause-others
returns-clause-others g c honest q out =
    let m : _ → Meaning = g.D.Disk.meaning in
    let run = Building.own_within c.args.id (m c.args.disk.now) (m c.list_own_files.new.disk) (c.in_ok-own.ensures.same honest) _ c.in-Some.own c.in-Some.is (c.in_ok-own.ensures.own honest)
    c.deref.result.now c.deref-2.result.now c.deref.ensures c.deref-2.ensures.value (m c.remove_home.new.disk) (c.in_ok-remove_home.ensures.within honest) in
    Building.others_stay_settled c.args.id _ _ _ c.sync_folder.result run (c.sync_folder.ensures.ok honest) (c.sync_folder.ensures.err honest) q out

pub returns-clause-any_moment : goal.returns-clause-any_moment
returns-clause-any_moment g c honest records t unused lies =
    let m : _ → Meaning = g.D.Disk.meaning in
    let run = Building.own_within c.args.id (m c.args.disk.now) (m c.list_own_files.new.disk) (c.in_ok-own.ensures.same honest) _ c.in-Some.own c.in-Some.is (c.in_ok-own.ensures.own honest)
    c.deref.result.now c.deref-2.result.now c.deref.ensures c.deref-2.ensures.value (m c.remove_home.new.disk) (c.in_ok-remove_home.ensures.within honest) in
    (Building.emptied c.args.id records t unused _ _ _ c.sync_folder.result lies run (c.sync_folder.ensures.ok honest) (c.sync_folder.ensures.err honest)).run

pub returns-clause-lies : goal.returns-clause-lies
returns-clause-lies g c honest records t unused lies =
    let m : _ → Meaning = g.D.Disk.meaning in
    let run = Building.own_within c.args.id (m c.args.disk.now) (m c.list_own_files.new.disk) (c.in_ok-own.ensures.same honest) _ c.in-Some.own c.in-Some.is (c.in_ok-own.ensures.own honest)
    c.deref.result.now c.deref-2.result.now c.deref.ensures c.deref-2.ensures.value (m c.remove_home.new.disk) (c.in_ok-remove_home.ensures.within honest) in
    (Building.emptied c.args.id records t unused _ _ _ c.sync_folder.result lies run (c.sync_folder.ensures.ok honest) (c.sync_folder.ensures.err honest)).lies

pub returns-clause-removed : goal.returns-clause-removed
returns-clause-removed g c honest =
    let m : _ → Meaning = g.D.Disk.meaning in
    let gone = Building.own_gone c.args.id (m c.args.disk.now) (m c.list_own_files.new.disk) (c.in_ok-own.ensures.same honest) _ c.in-Some.own c.in-Some.is (c.in_ok-own.ensures.own honest)
    c.deref.result.now c.deref-2.result.now c.deref.ensures c.deref-2.ensures.value (m c.remove_home.new.disk) (c.in_ok-remove_home.ensures.gone honest) in
    Building.removes_own c.args.id c.in_ok-own.ensures.fits (m c.args.disk.now) (m c.remove_home.new.disk) (m c.sync_folder.new.self) c.sync_folder.result (g.met.D.Disk.housed c.sync_folder.new.self honest)
    ((c.in_ok-own.ensures.exact honest).0 (subst (λ (o : Option OwnFiles). IsSome o) (sym c.in-Some.is) refl)) gone (c.sync_folder.ensures.ok honest)

pub returns-clause-left : goal.returns-clause-left
returns-clause-left g c honest other =
    absurd (other ((c.in_ok-own.ensures.exact honest).0 (subst (λ (o : Option OwnFiles). IsSome o) (sym c.in-Some.is) refl)))

pub returns-clause-served : goal.returns-clause-served
returns-clause-served g c honest records t lies kind =
    let m : _ → Meaning = g.D.Disk.meaning in
    let run = Building.own_within c.args.id (m c.args.disk.now) (m c.list_own_files.new.disk) (c.in_ok-own.ensures.same honest) _ c.in-Some.own c.in-Some.is (c.in_ok-own.ensures.own honest)
    c.deref.result.now c.deref-2.result.now c.deref.ensures c.deref-2.ensures.value (m c.remove_home.new.disk) (c.in_ok-remove_home.ensures.within honest) in
    let holds = Building.own_held c.args.id (m c.args.disk.now) (m c.list_own_files.new.disk) (c.in_ok-own.ensures.same honest) _ c.in-Some.own c.in-Some.is (c.in_ok-own.ensures.own honest)
    c.deref.result.now c.deref-2.result.now c.deref.ensures c.deref-2.ensures.value ((c.in_ok-own.ensures.exact honest).0 (subst (λ (o : Option OwnFiles). IsSome o) (sym c.in-Some.is) refl)) kind in
    (c.sync_folder.ensures.judged honest).served (keyspaces_there c.args.id _ _ records t lies run) ∙ c.in_ok-remove_home.ensures.served honest holds ∙ c.in_ok-own.ensures.served honest

pub returns-clause-kinds : goal.returns-clause-kinds
returns-clause-kinds g c honest =
    let m : _ → Meaning = g.D.Disk.meaning in
    stays_both _ _ _ (stays_both (m c.args.disk.now) (m c.list_own_files.new.disk) (m c.remove_home.new.disk) (stays_none _ _ (c.in_ok-own.ensures.same honest)) (c.in_ok-remove_home.ensures.kinds honest))
    (stays_settling _ _ _ c.sync_folder.result (c.sync_folder.ensures.ok honest) (c.sync_folder.ensures.err honest))
