use Rattle.fjall_meta.proofs.Writes as Writes
use Rattle.fjall_meta.proofs.replay_laws.a_clear_is_a_command.Goals as goal

pub returns-clause-command : goal.returns-clause-command
returns-clause-command c = Writes.clear_command
