use Rattle.fjall_compaction.proofs.SameNumber.{between_numbers, number_after}
use Rattle.fjall_compaction.proofs.FlushSameStore.{same_memory, same_pending, same_store}
use Rattle.fjall_compaction.proofs.flush.laws.a_flush_keeps_the_store.Goals as goal

pub returns-clause-store : goal.returns-clause-store
returns-clause-store c j t id f lists h versions behind rest may is = same_store j t id f lists h versions may behind rest is

pub returns-clause-number : goal.returns-clause-number
returns-clause-number c j t id f lists h versions behind rest may is lives = number_after j t id f lists h versions may behind lives

pub returns-clause-bounds : goal.returns-clause-bounds
returns-clause-bounds c j t id f lists h versions behind rest may is = between_numbers j t id f lists h versions may behind

pub returns-clause-pending : goal.returns-clause-pending
returns-clause-pending c = same_pending

pub returns-clause-memory : goal.returns-clause-memory
returns-clause-memory c = same_memory
