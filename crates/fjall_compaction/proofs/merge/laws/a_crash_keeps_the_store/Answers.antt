use Rattle.fjall_compaction.proofs.MergeSameStore as SameStore
use Rattle.fjall_compaction.proofs.merge.laws.a_crash_keeps_the_store.Goals as goal

pub returns-clause-image : goal.returns-clause-image
returns-clause-image c = SameStore.crash_stands

pub returns-clause-run : goal.returns-clause-run
returns-clause-run c = SameStore.run_stands
