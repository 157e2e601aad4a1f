use Rattle.fjall_replay.proofs.LeftCounts.{one_for_each}
use Rattle.fjall_replay.proofs.replay_laws.a_sealed_journal_leaves_one_memtable.Goals as goal

pub returns : goal.returns
returns c = one_for_each
