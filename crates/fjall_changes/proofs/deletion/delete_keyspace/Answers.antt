use Rattle.std.proofs.Common.{refl}
use Rattle.fjall_base.specs.Disk.{Meaning, state_in}
use Rattle.fjall_changes.specs.Changes.{without_home}
use Rattle.fjall_manifest.proofs.Outside.{within_keyspaces}
use Rattle.fjall_changes.proofs.KeptHomes.{tree_others}
use Rattle.fjall_changes.proofs.NextKeyspaces.{without_housed}
use Rattle.fjall_changes.proofs.deletion.delete_keyspace.Goals as goal

pub returns-clause-within : goal.returns-clause-within
returns-clause-within g c honest old s number update = within_keyspaces 0 _ _ (c.change_tree.ensures.within honest old s number update)

pub returns-clause-any_moment : goal.returns-clause-any_moment
returns-clause-any_moment g c honest records t id number lies update later =
    let m : _ → Meaning = g.D.Disk.meaning in
    let u = c.args.update.now in
    c.change_tree.ensures.any_moment honest records t (without_home id u.catalog t) number lies (without_housed (state_in (m c.args.disk.now)) records t lies number later id u update) refl update

pub returns-clause-ok : goal.returns-clause-ok
returns-clause-ok g c honest records t id number lies update later =
    let m : _ → Meaning = g.D.Disk.meaning in
    let u = c.args.update.now in
    c.change_tree.ensures.ok honest records t (without_home id u.catalog t) number lies (without_housed (state_in (m c.args.disk.now)) records t lies number later id u update) refl update

pub returns-clause-served : goal.returns-clause-served
returns-clause-served g c honest records t id number lies update later =
    let u = c.args.update.now in
    c.change_tree.ensures.served honest records t (without_home id u.catalog t) number lies (without_housed (state_in (g.D.Disk.meaning c.args.disk.now)) records t lies number later id u update) refl update

pub returns-clause-gone : goal.returns-clause-gone
returns-clause-gone g c honest old s number update = c.change_tree.ensures.gone honest old s number update

pub returns-clause-others : goal.returns-clause-others
returns-clause-others g c honest old s number update = tree_others 0 _ _ (c.change_tree.ensures.within honest old s number update)
