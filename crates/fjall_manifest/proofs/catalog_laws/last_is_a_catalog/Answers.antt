use Rattle.fjall_manifest.proofs.CatalogResting as Resting
use Rattle.fjall_manifest.proofs.catalog_laws.last_is_a_catalog.Goals as goal

pub returns : goal.returns
returns c = Resting.last_record
