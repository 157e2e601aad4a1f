use Rattle.std.proofs.Common.{arith, codes, sym}
use Rattle.fjall_base.specs.Disk.{Meaning, state_in}
use Rattle.fjall_files.specs.Names.{IsNameOf, keyspace_folder}
use Rattle.fjall_meta.specs.Entries.{entries_of}
use Rattle.fjall_manifest.specs.Catalog.{home_of, listed}
use Rattle.fjall_manifest.proofs.CatalogNaming.{folder_zero}
use Rattle.fjall_manifest.proofs.Changes as Changes
use Rattle.fjall_manifest.proofs.CatalogRuns as Runs
use Rattle.fjall_manifest.proofs.catalog_writing.write_table.Goals as goal

pub returns-in_default-clause-any_moment : goal.returns-in_default-clause-any_moment
returns-in_default-clause-any_moment g c honest records old s t number ready update =
    let still = Runs.start records old s (g.D.Disk.meaning c.args.disk.now) ready.rests in
    Runs.said_on records old s (g.D.Disk.meaning c.args.disk.now) (g.D.Disk.meaning c.args.disk.now) still.rests still.run

-- tree 0's folder
at : IsNameOf keyspace_folder (codes "keyspaces/0") 0
at = (omega arith, sym folder_zero)

pub returns-clause-within : goal.returns-clause-within
returns-clause-within g c honest old t number update =
    let u = c.args.update.now in
    c.put_tables.ensures.within honest 0 old.next_table_id (listed u.catalog.table) (Changes.texts_of u.table) at
    (Changes.tables old t number u update c.in-Some.table c.in-Some.is c.from_ref.result.now c.from_ref.ensures.value)

pub returns-clause-any_moment : goal.returns-clause-any_moment
returns-clause-any_moment g c honest records old s t number ready update =
    let m : _ → Meaning = g.D.Disk.meaning in
    let u = c.args.update.now in
    let new = Changes.tables old t number u update c.in-Some.table c.in-Some.is c.from_ref.result.now c.from_ref.ensures.value in
    Runs.said_on records old s (m c.args.disk.now) (m c.put_tables.new.disk) ready.rests
    (c.put_tables.ensures.any_moment honest 0 records (home_of old ready.rests.texts) (listed u.catalog.table) (Changes.texts_of u.table) at (Changes.home_ready _ records old s ready) new)

pub returns-clause-ok : goal.returns-clause-ok
returns-clause-ok g c honest records old s t number ready update =
    let m : _ → Meaning = g.D.Disk.meaning in
    let u = c.args.update.now in
    let texts = Changes.texts_of u.table in
    let new = Changes.tables old t number u update c.in-Some.table c.in-Some.is c.from_ref.result.now c.from_ref.ensures.value in
    let next = Changes.next_home old u.catalog ready.rests.texts (entries_of t.living) u.table update.table in
    let pairs = Changes.new_pairs old.next_table_id u.catalog.next_table_id (entries_of t.living) u.catalog.table u.table update.table in
    Changes.put records old s u.catalog t (state_in (m c.args.disk.now)) (state_in (m c.put_tables.new.disk)) ready.rests texts c.put_tables.result pairs
    (c.put_tables.ensures.ok honest 0 records (home_of old ready.rests.texts) (home_of u.catalog texts) (listed u.catalog.table) texts at (Changes.home_ready _ records old s ready) new next)

pub returns-clause-served : goal.returns-clause-served
returns-clause-served g c honest records old s t number ready update =
    let u = c.args.update.now in
    let new = Changes.tables old t number u update c.in-Some.table c.in-Some.is c.from_ref.result.now c.from_ref.ensures.value in
    c.put_tables.ensures.served honest 0 records (home_of old ready.rests.texts) (listed u.catalog.table) (Changes.texts_of u.table) at (Changes.home_ready _ records old s ready) new

pub returns-clause-kinds : goal.returns-clause-kinds
returns-clause-kinds g c honest old t number update =
    c.put_tables.ensures.kinds honest (Changes.fits old t number c.args.update.now update c.in-Some.table c.in-Some.is c.from_ref.result.now c.from_ref.ensures.value)
