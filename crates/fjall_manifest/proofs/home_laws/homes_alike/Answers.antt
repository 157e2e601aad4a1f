use Rattle.fjall_manifest.proofs.Meanings as Meanings
use Rattle.fjall_manifest.proofs.home_laws.homes_alike.Goals as goal

pub returns-clause-files : goal.returns-clause-files
returns-clause-files c image other id records h agree has = Meanings.files_alike image other id agree records h has

pub returns-clause-folder : goal.returns-clause-folder
returns-clause-folder c image other id records h agree has = Meanings.home_alike image other id agree records h has
