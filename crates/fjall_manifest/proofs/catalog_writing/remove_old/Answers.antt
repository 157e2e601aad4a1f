use Rattle.std.proofs.Common.{◌≡◌, arith}
use Rattle.fjall_base.specs.Disk.{IsNoFolder, Meaning, Missing, state_in}
use Rattle.fjall_meta.specs.Entries.{entries_of}
use Rattle.fjall_manifest.specs.Catalog.{home_of}
use Rattle.fjall_manifest.proofs.Changes as Changes
use Rattle.fjall_manifest.proofs.CatalogRuns as Runs
use Rattle.fjall_manifest.proofs.catalog_writing.remove_old.Goals as goal

pub returns-in_default-clause-any_moment : goal.returns-in_default-clause-any_moment
returns-in_default-clause-any_moment g c honest records old t number update is ready =
    let m : _ → Meaning = g.D.Disk.meaning in
    let still = Runs.start records c.args.update.now.catalog t (m c.args.disk.now) ready.rests in
    Runs.said_on records c.args.update.now.catalog t (m c.args.disk.now) (m c.args.disk.now) still.rests still.run

pub returns-clause-within : goal.returns-clause-within
returns-clause-within g c honest old t number update =
    c.remove_tables.ensures.within honest 0 (Changes.ids_of old) (Changes.removed old t number c.args.update.now update c.in-Some.name c.in-Some.is c.from_ref.result.now c.from_ref.ensures.value)

pub returns-clause-any_moment : goal.returns-clause-any_moment
returns-clause-any_moment g c honest records old t number update is ready =
    let m : _ → Meaning = g.D.Disk.meaning in
    let next = c.args.update.now.catalog in
    let names = Changes.removed old t number c.args.update.now update c.in-Some.name c.in-Some.is c.from_ref.result.now c.from_ref.ensures.value in
    let none = Changes.unnamed old next ready.rests.texts (entries_of t.living) c.args.update.now.table update.table is in
    Runs.said_on records next t (m c.args.disk.now) (m c.remove_tables.new.disk) ready.rests
    (c.remove_tables.ensures.any_moment honest 0 records (home_of next ready.rests.texts) (Changes.ids_of old) (omega arith) names none (Changes.home_ready _ records next t ready))

pub returns-clause-ready : goal.returns-clause-ready
returns-clause-ready g c honest records old t number update is ready =
    let m : _ → Meaning = g.D.Disk.meaning in
    let next = c.args.update.now.catalog in
    let names = Changes.removed old t number c.args.update.now update c.in-Some.name c.in-Some.is c.from_ref.result.now c.from_ref.ensures.value in
    let none = Changes.unnamed old next ready.rests.texts (entries_of t.living) c.args.update.now.table update.table is in
    Changes.still_ready (state_in (m c.args.disk.now)) (state_in (m c.remove_tables.new.disk)) records next t ready.rests
    (c.remove_tables.ensures.ready honest 0 records (home_of next ready.rests.texts) (Changes.ids_of old) (omega arith) names none (Changes.home_ready _ records next t ready))

pub returns-clause-served : goal.returns-clause-served
returns-clause-served g c honest old t number update kind =
    let names = Changes.removed old t number c.args.update.now update c.in-Some.name c.in-Some.is c.from_ref.result.now c.from_ref.ensures.value in
    c.remove_tables.ensures.served honest 0 (Changes.ids_of old) names (Changes.each_old (λ q. IsNoFolder (state_in (g.D.Disk.meaning c.args.disk.now) q).now) old kind)

pub returns-in_default-clause-gone : goal.returns-in_default-clause-gone
returns-in_default-clause-gone g c honest old t number update = Changes.none_gone (state_in (g.D.Disk.meaning c.args.disk.now)) old t number c.args.update.now update c.in_default.not-Some

pub returns-clause-gone : goal.returns-clause-gone
returns-clause-gone g c honest old t number update =
    let names = Changes.removed old t number c.args.update.now update c.in-Some.name c.in-Some.is c.from_ref.result.now c.from_ref.ensures.value in
    Changes.old_each (λ q. (state_in (g.D.Disk.meaning c.remove_tables.new.disk) q).now ≡ Missing) old c.remove_tables.result (c.remove_tables.ensures.gone honest 0 (Changes.ids_of old) names)
