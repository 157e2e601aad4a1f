use Rattle.std.proofs.Common.{codes, inl, refl, ◌∙◌}
use Rattle.fjall_base.specs.Disk.{Meaning, state_in}
use Rattle.fjall_base.proofs.Moments.{runs_on, weaken}
use Rattle.fjall_files.proofs.Made.{within_both}
use Rattle.fjall_recovery.specs.Halves.{HasTree}
use Rattle.fjall_changes.specs.Changes.{HasEither, with_home}
use Rattle.fjall_manifest.proofs.Outside.{within_keyspaces}
use Rattle.fjall_changes.proofs.KeptHomes.{others_both, tree_others}
use Rattle.fjall_changes.proofs.NextKeyspaces.{next_unused, with_housed}
use Rattle.fjall_files.proofs.Tidying.{stays_both}
use Rattle.fjall_changes.proofs.creation.create_keyspace.Goals as goal

pub returns-clause-within : goal.returns-clause-within
returns-clause-within g c honest old s id number is =
    let m : _ → Meaning = g.D.Disk.meaning in
    within_both (codes "keyspaces") (m c.args.disk.now) (m c.build_home.new.disk) (m c.change_tree.new.disk) (c.in_ok-build_home.ensures.within honest old s id number is)
    (within_keyspaces 0 _ _ (c.change_tree.ensures.within honest old s number is.update))

pub returns-in_err-build_home-clause-any_moment : goal.returns-in_err-build_home-clause-any_moment
returns-in_err-build_home-clause-any_moment g c honest records t name options number lies is are later fits =
    let m : _ → Meaning = g.D.Disk.meaning in
    let next = with_home name options number c.args.creation.now.update.catalog t in
    let unused = next_unused (state_in (m c.args.disk.now)) records t lies fits in
    weaken (m c.args.disk.now) (m c.build_home.new.disk) (λ image. HasTree image t) (HasEither t next) (c.in_err-build_home.ensures.any_moment honest records t t.last next.keyspaces t.keyspaces.next number lies unused is) (λ image has. inl has)

pub returns-clause-any_moment : goal.returns-clause-any_moment
returns-clause-any_moment g c honest records t name options number lies is are later fits =
    let m : _ → Meaning = g.D.Disk.meaning in
    let next = with_home name options number c.args.creation.now.update.catalog t in
    let unused = next_unused (state_in (m c.args.disk.now)) records t lies fits in
    let built = c.in_ok-build_home.ensures.any_moment honest records t t.last next.keyspaces t.keyspaces.next number lies unused is in
    let still = c.in_ok-build_home.ensures.lies honest records t t.last next.keyspaces t.keyspaces.next number lies unused is in
    let home = c.in_ok-build_home.ensures.home honest t.last next.keyspaces t.keyspaces.next number fits is in
    let housed = with_housed (state_in (m c.build_home.new.disk)) records t still number later name options c.args.creation.now.update is.update are (home still.rests.catalog.home.keyspaces_folder) in
    runs_on (m c.args.disk.now) (m c.build_home.new.disk) (m c.change_tree.new.disk) (HasEither t next)
    (weaken (m c.args.disk.now) (m c.build_home.new.disk) (λ image. HasTree image t) (HasEither t next) built (λ image has. inl has))
    (c.change_tree.ensures.any_moment honest records t next number still housed refl is.update)

pub returns-clause-ok : goal.returns-clause-ok
returns-clause-ok g c honest records t name options number lies is are later fits =
    let m : _ → Meaning = g.D.Disk.meaning in
    let next = with_home name options number c.args.creation.now.update.catalog t in
    let unused = next_unused (state_in (m c.args.disk.now)) records t lies fits in
    let still = c.in_ok-build_home.ensures.lies honest records t t.last next.keyspaces t.keyspaces.next number lies unused is in
    let home = c.in_ok-build_home.ensures.home honest t.last next.keyspaces t.keyspaces.next number fits is in
    let housed = with_housed (state_in (m c.build_home.new.disk)) records t still number later name options c.args.creation.now.update is.update are (home still.rests.catalog.home.keyspaces_folder) in
    c.change_tree.ensures.ok honest records t next number still housed refl is.update

pub returns-in_err-build_home-clause-served : goal.returns-in_err-build_home-clause-served
returns-in_err-build_home-clause-served g c honest records t name options number lies is are later fits room =
    let next = with_home name options number c.args.creation.now.update.catalog t in
    c.in_err-build_home.ensures.served honest records t t.last next.keyspaces t.keyspaces.next number fits lies is room

pub returns-clause-served : goal.returns-clause-served
returns-clause-served g c honest records t name options number lies is are later fits room =
    let m : _ → Meaning = g.D.Disk.meaning in
    let next = with_home name options number c.args.creation.now.update.catalog t in
    let unused = next_unused (state_in (m c.args.disk.now)) records t lies fits in
    let still = c.in_ok-build_home.ensures.lies honest records t t.last next.keyspaces t.keyspaces.next number lies unused is in
    let home = c.in_ok-build_home.ensures.home honest t.last next.keyspaces t.keyspaces.next number fits is in
    let housed = with_housed (state_in (m c.build_home.new.disk)) records t still number later name options c.args.creation.now.update is.update are (home still.rests.catalog.home.keyspaces_folder) in
    c.change_tree.ensures.served honest records t next number still housed refl is.update ∙ c.in_ok-build_home.ensures.served honest records t t.last next.keyspaces t.keyspaces.next number fits lies is room

pub returns-clause-gone : goal.returns-clause-gone
returns-clause-gone g c honest old s id number is = c.change_tree.ensures.gone honest old s number is.update

pub returns-in_err-build_home-clause-kinds : goal.returns-in_err-build_home-clause-kinds
returns-in_err-build_home-clause-kinds g c honest old s id number small is = c.in_err-build_home.ensures.kinds honest old s id number small is

pub returns-clause-kinds : goal.returns-clause-kinds
returns-clause-kinds g c honest old s id number small is =
    let m : _ → Meaning = g.D.Disk.meaning in
    stays_both (m c.args.disk.now) (m c.build_home.new.disk) (m c.change_tree.new.disk) (c.in_ok-build_home.ensures.kinds honest old s id number small is) (c.change_tree.ensures.kinds honest old s number is.update)

pub returns-in_err-build_home-clause-others : goal.returns-in_err-build_home-clause-others
returns-in_err-build_home-clause-others g c honest old s id number small is = c.in_err-build_home.ensures.others honest old s id number small is

pub returns-clause-others : goal.returns-clause-others
returns-clause-others g c honest old s id number small is =
    let m : _ → Meaning = g.D.Disk.meaning in
    others_both id (m c.args.disk.now) (m c.build_home.new.disk) (m c.change_tree.new.disk) (c.in_ok-build_home.ensures.others honest old s id number small is)
    (tree_others id (m c.build_home.new.disk) (m c.change_tree.new.disk) (c.change_tree.ensures.within honest old s number is.update))
