use Rattle.fjall_recovery.proofs.Alone as Alone
use Rattle.fjall_recovery.proofs.laws.one_contents.Goals as goal

pub returns-clause-sound : goal.returns-clause-sound
returns-clause-sound c = Alone.one_contents

pub returns-clause-openable : goal.returns-clause-openable
returns-clause-openable c = Alone.one_openable
