use Rattle.fjall_manifest.proofs.Openings as Openings
use Rattle.fjall_manifest.proofs.home_laws.right_tables_are_indexed.Goals as goal

pub returns : goal.returns
returns c = Openings.right_is_indexed
