use Rattle.fjall_compaction.proofs.MergeSameStore as SameStore
use Rattle.fjall_compaction.proofs.merge.laws.a_merge_keeps_the_store.Goals as goal

pub returns-clause-store : goal.returns-clause-store
returns-clause-store c = SameStore.same_store

pub returns-clause-number : goal.returns-clause-number
returns-clause-number c = SameStore.same_number

pub returns-clause-pending : goal.returns-clause-pending
returns-clause-pending c = SameStore.same_pending
