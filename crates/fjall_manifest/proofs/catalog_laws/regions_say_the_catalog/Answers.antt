use Rattle.fjall_manifest.proofs.CatalogMeanings as Meanings
use Rattle.fjall_manifest.proofs.catalog_laws.regions_say_the_catalog.Goals as goal

pub returns : goal.returns
returns c region state image records last s more rests is = Meanings.regions_say region state image records last s more rests is
