use Rattle.fjall_manifest.proofs.Meanings as Meanings
use Rattle.fjall_manifest.proofs.home_laws.one_home.Goals as goal

pub returns : goal.returns
returns c image id records others h other one two = Meanings.one_home image id records others h other one two
