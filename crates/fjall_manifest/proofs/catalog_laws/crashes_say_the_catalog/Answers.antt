use Rattle.fjall_manifest.proofs.CatalogResting as Resting
use Rattle.fjall_manifest.proofs.catalog_laws.crashes_say_the_catalog.Goals as goal

pub returns : goal.returns
returns c state image records last s rests is = Resting.crash_says state image records last s rests is
