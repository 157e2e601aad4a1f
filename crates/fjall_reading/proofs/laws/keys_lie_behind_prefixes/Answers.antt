use Rattle.fjall_reading.proofs.Prefixing.{within_behind, within_joined, within_prefix}
use Rattle.fjall_reading.proofs.laws.keys_lie_behind_prefixes.Goals as goal

pub returns : goal.returns
returns c = record { prefix = within_prefix; behind = λ prefix key range. within_behind prefix range key; joined = λ prefix key range. within_joined prefix range key }
