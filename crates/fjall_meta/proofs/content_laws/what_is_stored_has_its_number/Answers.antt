use Rattle.fjall_meta.proofs.Beyond as Beyond
use Rattle.fjall_meta.proofs.content_laws.what_is_stored_has_its_number.Goals as goal

pub returns-clause-up_to : goal.returns-clause-up_to
returns-clause-up_to c = Beyond.stored_up_to

pub returns-clause-nothing : goal.returns-clause-nothing
returns-clause-nothing c = Beyond.nothing_stored_yet
