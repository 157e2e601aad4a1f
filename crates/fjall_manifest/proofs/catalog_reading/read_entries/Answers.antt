use Rattle.std.proofs.Common.{◌≡◌, ◌∙◌, List, ℕ, subst}
use Rattle.std.proofs.lemmas.Result.{IfOk-weaker}
use Rattle.fjall_base.specs.Disk.{Image, standing, state_in}
use Rattle.fjall_files.specs.Names.{table_name}
use Rattle.fjall_manifest.specs.Catalog.{IsCatalogTable}
use Rattle.fjall_manifest.proofs.Readings as Readings
use Rattle.fjall_manifest.proofs.catalog_reading.read_entries.Goals as goal

pub returns-clause-ok : goal.returns-clause-ok
returns-clause-ok g c honest =
    let image : Image = standing (state_in (g.D.Disk.meaning c.args.disk.now)) in
    let t = c.in-Some.info in
    let at : c.as_str.result.now ≡ table_name 0 t.id = c.as_str.ensures.value ∙ c.in_ok-name.ensures.name in
    let read = Readings.file_some image c.in_ok-bytes.field-0 c.in-Some-2.bytes c.as_str.result.now (table_name 0 t.id) at c.in-Some-2.is (c.in_ok-bytes.ensures.found honest) in
    rw c.in-Some.is (IfOk-weaker c.decode_entries.result _ _ (λ entries is.
    Readings.holds_table image t entries.items c.in-Some-2.bytes.items read (subst (λ (l : List ℕ). IsCatalogTable t l entries.items) c.deref.ensures.value is)) c.decode_entries.ensures.ok)
