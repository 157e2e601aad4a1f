use Rattle.fjall_manifest.proofs.CatalogMeanings as Meanings
use Rattle.fjall_manifest.proofs.catalog_laws.one_catalog.Goals as goal

pub returns : goal.returns
returns c image records others last other s t one two = Meanings.one_catalog image records others last other s t one two
