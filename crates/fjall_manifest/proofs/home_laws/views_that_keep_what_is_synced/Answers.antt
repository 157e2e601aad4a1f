use Rattle.fjall_manifest.proofs.Views as Views
use Rattle.fjall_manifest.proofs.home_laws.views_that_keep_what_is_synced.Goals as goal

pub returns-clause-usual : goal.returns-clause-usual
returns-clause-usual c = Views.usual

pub returns-clause-widest : goal.returns-clause-widest
returns-clause-widest c = Views.widest
