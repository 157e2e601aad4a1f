use Rattle.fjall_manifest.proofs.CatalogMeanings as Meanings
use Rattle.fjall_manifest.proofs.catalog_laws.says_alike.Goals as goal

pub returns : goal.returns
returns c image other records last s agree says = Meanings.alike image other records last s agree says
