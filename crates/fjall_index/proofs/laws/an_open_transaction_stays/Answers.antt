use Rattle.fjall_index.proofs.Keeping.{stays_tx}
use Rattle.fjall_index.proofs.laws.an_open_transaction_stays.Goals as goal

pub returns : goal.returns
returns c = λ field main index since core before old new d tx all moves is. stays_tx field main index old new tx moves all.stands.sound is
