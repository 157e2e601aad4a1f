use Rattle.std.proofs.Common.{◌≡◌, ◌∙◌, ℕ, Err, List, ap, codes, rules, subst, sym}
use Rattle.fjall_base.specs.Disk.{DiskState, Image, Meaning, Name, standing, state_in}
use Rattle.fjall_manifest.specs.Records.{IsRecords}
use Rattle.fjall_meta.specs.declared.entry.MetaEntry.{MetaEntry}
use Rattle.fjall_meta.specs.Entries.{entries_of}
use Rattle.fjall_manifest.specs.declared.catalog.Catalog.{Catalog}
use Rattle.fjall_manifest.specs.Catalog.{HoldsEntries, records_in}
use Rattle.fjall_manifest.specs.Refusals.{HasLast, IsTableRefused}
use Rattle.fjall_manifest.proofs.CatalogNaming.{current_zero}
use Rattle.fjall_manifest.proofs.Readings as Readings
use Rattle.fjall_manifest.proofs.catalog_reading.read_catalog.Goals as goal

abbrev at : Name
at = codes "keyspaces/0/current"

pub returns-in_default-clause-refused : goal.returns-in_default-clause-refused
returns-in_default-clause-refused g c honest =
    Readings.current_none (standing (state_in (g.D.Disk.meaning c.args.disk.now))) c.in_ok-bytes.field-0 at (sym current_zero) c.in_default.not-Some (c.in_ok-bytes.ensures.found honest)

pub returns-in_default-clause-all : goal.returns-in_default-clause-all
returns-in_default-clause-all g c honest records last s says =
    let image : Image = standing (state_in (g.D.Disk.meaning c.args.disk.now)) in
    Readings.current_none image c.in_ok-bytes.field-0 at (sym current_zero) c.in_default.not-Some (c.in_ok-bytes.ensures.found honest) last (Readings.says_last image records last s says)

pub returns-in_err-catalog-clause-refused : goal.returns-in_err-catalog-clause-refused
returns-in_err-catalog-clause-refused g c honest =
    let image : Image = standing (state_in (g.D.Disk.meaning c.args.disk.now)) in
    let is : c.from_residual-in_err-catalog.result ≡ Err c.in_err-catalog.field-0.0 = search rules in
    let read = Readings.current_some image c.in_ok-bytes.field-0 c.in-Some.bytes at (sym current_zero) c.in-Some.is (c.in_ok-bytes.ensures.found honest) in
    rw is (Readings.records_refused image _ _ c.deref.result.now c.in_err-catalog.field-0.0 (c.deref.ensures.value ∙ read.is) c.in_err-catalog.ensures.damaged)

pub returns-in_err-catalog-clause-all : goal.returns-in_err-catalog-clause-all
returns-in_err-catalog-clause-all g c honest records last s says =
    let image : Image = standing (state_in (g.D.Disk.meaning c.args.disk.now)) in
    let is : c.from_residual-in_err-catalog.result ≡ Err c.in_err-catalog.field-0.0 = search rules in
    let read = Readings.current_some image c.in_ok-bytes.field-0 c.in-Some.bytes at (sym current_zero) c.in-Some.is (c.in_ok-bytes.ensures.found honest) in
    rw is (Readings.record_is_read image last _ _ c.deref.result.now c.in_err-catalog.field-0.0 (Readings.says_last image records last s says) (c.deref.ensures.value ∙ read.is) c.in_err-catalog.ensures.damaged)

pub returns-in_err-entries-clause-refused : goal.returns-in_err-entries-clause-refused
returns-in_err-entries-clause-refused g c honest =
    let m : _ → Meaning = g.D.Disk.meaning in
    let image : Image = standing (state_in (m c.args.disk.now)) in
    let d : Catalog = c.in_ok-catalog.field-0.catalog in
    let e = c.in_err-entries.field-0.0 in
    let is : c.from_residual-in_err-entries.result ≡ Err c.in_err-entries.field-0.0 = search rules in
    let read = Readings.current_some image c.in_ok-bytes.field-0 c.in-Some.bytes at (sym current_zero) c.in-Some.is (c.in_ok-bytes.ensures.found honest) in
    let has : HasLast (records_in image) d = subst (λ (l : List ℕ). HasLast l d) (c.deref.ensures.value ∙ read.is) c.in_ok-catalog.ensures.last in
    let still = (c.in_ok-bytes.ensures.same honest).state in
    let refused : IsTableRefused image d.table (m c.read.new.self).faults (m c.read_entries.new.disk).faults c.in_err-entries.field-0.0 =
    subst (λ (state : DiskState). IsTableRefused (standing state) d.table (m c.read.new.self).faults (m c.read_entries.new.disk).faults c.in_err-entries.field-0.0) still (c.in_err-entries.ensures.refused honest) in
    rw is (Readings.table_refuses image d _ (m c.read.new.self).faults _ c.in_err-entries.field-0.0 has c.in_ok-bytes.ensures.cause.later c.in_err-entries.ensures.later refused)

pub returns-in_err-entries-clause-all : goal.returns-in_err-entries-clause-all
returns-in_err-entries-clause-all g c honest records last s says =
    let m : _ → Meaning = g.D.Disk.meaning in
    let image : Image = standing (state_in (m c.args.disk.now)) in
    let d : Catalog = c.in_ok-catalog.field-0.catalog in
    let is : c.from_residual-in_err-entries.result ≡ Err c.in_err-entries.field-0.0 = search rules in
    let read = Readings.current_some image c.in_ok-bytes.field-0 c.in-Some.bytes at (sym current_zero) c.in-Some.is (c.in_ok-bytes.ensures.found honest) in
    let has : HasLast (records_in image) d = subst (λ (l : List ℕ). HasLast l d) (c.deref.ensures.value ∙ read.is) c.in_ok-catalog.ensures.last in
    let same : d ≡ last = Readings.same_catalog image records d last s has says in
    let still = (c.in_ok-bytes.ensures.same honest).state in
    let refused : IsTableRefused image d.table (m c.read.new.self).faults (m c.read_entries.new.disk).faults c.in_err-entries.field-0.0 =
    subst (λ (state : DiskState). IsTableRefused (standing state) d.table (m c.read.new.self).faults (m c.read_entries.new.disk).faults c.in_err-entries.field-0.0) still (c.in_err-entries.ensures.refused honest) in
    rw is (Readings.table_is_read image d.table (entries_of s.living) _ (m c.read.new.self).faults _ c.in_err-entries.field-0.0 (subst (λ (e : Catalog). HoldsEntries image e.table (entries_of s.living)) (sym same) (Readings.says_entries image records last s says))
    c.in_ok-bytes.ensures.cause.later c.in_err-entries.ensures.later refused)

pub returns-in_err-keyspaces-clause-refused : goal.returns-in_err-keyspaces-clause-refused
returns-in_err-keyspaces-clause-refused g c honest =
    let m : _ → Meaning = g.D.Disk.meaning in
    let image : Image = standing (state_in (m c.args.disk.now)) in
    let d : Catalog = c.in_ok-catalog.field-0.catalog in
    let is : c.from_residual-in_err-keyspaces.result ≡ Err c.in_err-keyspaces.field-0.0 = search rules in
    let read = Readings.current_some image c.in_ok-bytes.field-0 c.in-Some.bytes at (sym current_zero) c.in-Some.is (c.in_ok-bytes.ensures.found honest) in
    let has : HasLast (records_in image) d = subst (λ (l : List ℕ). HasLast l d) (c.deref.ensures.value ∙ read.is) c.in_ok-catalog.ensures.last in
    let holds : HoldsEntries image d.table c.in_ok-entries.entries.items = subst (λ (state : DiskState). HoldsEntries (standing state) d.table c.in_ok-entries.entries.items) (c.in_ok-bytes.ensures.same honest).state (c.in_ok-entries.ensures.ok honest) in
    rw is (Readings.pairs_refused image d c.deref-2.result.now _ _ c.in_err-keyspaces.field-0.0 has (subst (λ (l : List MetaEntry). HoldsEntries image d.table l) (sym c.deref-2.ensures.value) holds) c.in_err-keyspaces.ensures.cause)

pub returns-in_err-keyspaces-clause-all : goal.returns-in_err-keyspaces-clause-all
returns-in_err-keyspaces-clause-all g c honest records last s says =
    let m : _ → Meaning = g.D.Disk.meaning in
    let image : Image = standing (state_in (m c.args.disk.now)) in
    let d : Catalog = c.in_ok-catalog.field-0.catalog in
    let is : c.from_residual-in_err-keyspaces.result ≡ Err c.in_err-keyspaces.field-0.0 = search rules in
    let read = Readings.current_some image c.in_ok-bytes.field-0 c.in-Some.bytes at (sym current_zero) c.in-Some.is (c.in_ok-bytes.ensures.found honest) in
    let has : HasLast (records_in image) d = subst (λ (l : List ℕ). HasLast l d) (c.deref.ensures.value ∙ read.is) c.in_ok-catalog.ensures.last in
    let holds : HoldsEntries image d.table c.in_ok-entries.entries.items = subst (λ (state : DiskState). HoldsEntries (standing state) d.table c.in_ok-entries.entries.items) (c.in_ok-bytes.ensures.same honest).state (c.in_ok-entries.ensures.ok honest) in
    let same : d ≡ last = Readings.same_catalog image records d last s has says in
    let pairs : entries_of s.living ≡ c.deref-2.result.now = Readings.same_pairs image records d last s c.in_ok-entries.entries.items same holds says ∙ sym c.deref-2.ensures.value in
    rw is (Readings.memory_alone _ _ c.in_err-keyspaces.field-0.0 (c.in_err-keyspaces.ensures.whole s says.are (says.next ∙ ap (λ (e : Catalog). e.next_keyspace_id) (sym same)) pairs))

pub returns-clause-all : goal.returns-clause-all
returns-clause-all g c honest records last s says =
    let m : _ → Meaning = g.D.Disk.meaning in
    let image : Image = standing (state_in (m c.args.disk.now)) in
    let d : Catalog = c.in_ok-catalog.field-0.catalog in
    let read = Readings.current_some image c.in_ok-bytes.field-0 c.in-Some.bytes at (sym current_zero) c.in-Some.is (c.in_ok-bytes.ensures.found honest) in
    let has : HasLast (records_in image) d = subst (λ (l : List ℕ). HasLast l d) (c.deref.ensures.value ∙ read.is) c.in_ok-catalog.ensures.last in
    let holds : HoldsEntries image d.table c.in_ok-entries.entries.items = subst (λ (state : DiskState). HoldsEntries (standing state) d.table c.in_ok-entries.entries.items) (c.in_ok-bytes.ensures.same honest).state (c.in_ok-entries.ensures.ok honest) in
    let same : d ≡ last = Readings.same_catalog image records d last s has says in
    let pairs : entries_of s.living ≡ c.deref-2.result.now = Readings.same_pairs image records d last s c.in_ok-entries.entries.items same holds says ∙ sym c.deref-2.ensures.value in
    (same, c.in_ok-keyspaces.ensures.whole s says.are (says.next ∙ ap (λ (e : Catalog). e.next_keyspace_id) (sym same)) pairs)

pub returns-clause-says : goal.returns-clause-says
returns-clause-says g c honest =
    let m : _ → Meaning = g.D.Disk.meaning in
    let image : Image = standing (state_in (m c.args.disk.now)) in
    let d : Catalog = c.in_ok-catalog.field-0.catalog in
    let read = Readings.current_some image c.in_ok-bytes.field-0 c.in-Some.bytes at (sym current_zero) c.in-Some.is (c.in_ok-bytes.ensures.found honest) in
    let has : HasLast (records_in image) d = subst (λ (l : List ℕ). HasLast l d) (c.deref.ensures.value ∙ read.is) c.in_ok-catalog.ensures.last in
    let holds : HoldsEntries image d.table c.in_ok-entries.entries.items = subst (λ (state : DiskState). HoldsEntries (standing state) d.table c.in_ok-entries.entries.items) (c.in_ok-bytes.ensures.same honest).state (c.in_ok-entries.ensures.ok honest) in
    let pairs : c.in_ok-entries.entries.items ≡ entries_of c.in_ok-keyspaces.keyspaces.living = sym c.deref-2.ensures.value ∙ sym c.in_ok-keyspaces.ensures.ok in
    (has.records, Readings.said image d c.in_ok-keyspaces.keyspaces read.file has (subst (λ (l : List MetaEntry). HoldsEntries image d.table l) pairs holds) c.in_ok-keyspaces.ensures.next c.in_ok-keyspaces.ensures.lawful)

pub returns-clause-end : goal.returns-clause-end
returns-clause-end g c honest =
    let image : Image = standing (state_in (g.D.Disk.meaning c.args.disk.now)) in
    let read = Readings.current_some image c.in_ok-bytes.field-0 c.in-Some.bytes at (sym current_zero) c.in-Some.is (c.in_ok-bytes.ensures.found honest) in
    let found = c.in_ok-catalog.ensures.end in
    (found.0, subst (λ (l : List ℕ). IsRecords l found.0 c.in_ok-catalog.field-0.end) (c.deref.ensures.value ∙ read.is) found.1)

pub returns-clause-torn : goal.returns-clause-torn
returns-clause-torn g c honest =
    let image : Image = standing (state_in (g.D.Disk.meaning c.args.disk.now)) in
    let read = Readings.current_some image c.in_ok-bytes.field-0 c.in-Some.bytes at (sym current_zero) c.in-Some.is (c.in_ok-bytes.ensures.found honest) in
    let text : c.deref.result.now ≡ records_in image = c.deref.ensures.value ∙ read.is in
    rw (← text) c.in_ok-catalog.ensures.torn
