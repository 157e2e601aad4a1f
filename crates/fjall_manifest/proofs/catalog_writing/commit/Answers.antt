use Rattle.std.proofs.Common.{◌≡◌, ◌∙◌, true, ap, arith, codes, sym}
use Rattle.fjall_base.specs.Disk.{Meaning, Name, state_in}
use Rattle.fjall_files.specs.Names.{IsNameOf, current_name, keyspace_folder}
use Rattle.fjall_files.specs.Regions.{is_under}
use Rattle.fjall_manifest.proofs.Naming as homes
use Rattle.fjall_manifest.specs.Catalog.{home_of}
use Rattle.fjall_manifest.proofs.CatalogNaming.{current_zero}
use Rattle.fjall_manifest.proofs.Changes as Changes
use Rattle.fjall_manifest.proofs.catalog_writing.commit.Goals as goal

-- the file of tree 0's records
at : IsNameOf current_name (codes "keyspaces/0/current") 0
at = (omega arith, sym current_zero)

under : is_under (keyspace_folder 0) (codes "keyspaces/0/current") ≡ true
under = ap (λ (q : Name). is_under (keyspace_folder 0) q) (sym current_zero) ∙ homes.current_under 0

pub returns-clause-within : goal.returns-clause-within
returns-clause-within g c honest = c.append_record.ensures.within honest (keyspace_folder 0) under

pub returns-clause-any_moment : goal.returns-clause-any_moment
returns-clause-any_moment g c honest records old s t number are update written =
    let m : _ → Meaning = g.D.Disk.meaning in
    let next = c.args.update.now.catalog in
    Changes.said_either records old s next t (state_in (m c.args.disk.now)) written (sym update.next_keyspace_id) are (m c.args.disk.now) (m c.append_record.new.disk)
    (c.append_record.ensures.any_moment honest 0 records (home_of old written.rests.texts) (home_of next written.texts) at update.is_record (c.deref.ensures.value ∙ update.text)
    (Changes.home_written records old s next t (state_in (m c.args.disk.now)) written))

pub returns-clause-ok : goal.returns-clause-ok
returns-clause-ok g c honest records old s t number are update written =
    let m : _ → Meaning = g.D.Disk.meaning in
    let next = c.args.update.now.catalog in
    Changes.committed records old s next t (state_in (m c.args.disk.now)) written (sym update.next_keyspace_id) are (state_in (m c.append_record.new.disk)) c.append_record.result
    (c.append_record.ensures.ok honest 0 records (home_of old written.rests.texts) (home_of next written.texts) at update.is_record (c.deref.ensures.value ∙ update.text)
    (Changes.home_written records old s next t (state_in (m c.args.disk.now)) written))

pub returns-clause-served : goal.returns-clause-served
returns-clause-served g c honest records old next s t written = c.append_record.ensures.served honest 0 records (home_of old written.rests.texts) at written.rests.home
