use Rattle.std.proofs.Common.{◌∙◌}
use Rattle.fjall_machine.proofs.MergeSettings as MergeSettings
use Rattle.fjall_machine.proofs.Standing.{living_agree}
use Rattle.fjall_machine.proofs.merge_laws.merges_agree.Goals as goal

pub returns-clause-begins : goal.returns-clause-begins
returns-clause-begins c m table s stands kind id lives = MergeSettings.merges_begin m table s stands kind id (living_agree m table s stands id ∙ lives)

pub returns-clause-out : goal.returns-clause-out
returns-clause-out c = MergeSettings.merges_are_out

pub returns-clause-count : goal.returns-clause-count
returns-clause-count c = MergeSettings.merges_counted

pub returns-clause-options : goal.returns-clause-options
returns-clause-options c m table s stands id lives = MergeSettings.settings_agree m table s stands id (living_agree m table s stands id ∙ lives)
