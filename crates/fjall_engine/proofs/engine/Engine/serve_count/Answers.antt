use Rattle.std.proofs.Common.{◌≡◌, ap, refl, subst}
use Rattle.fjall_history.specs.declared.reply.Reply.TheVariants.{Flag, Number}
use Rattle.fjall_machine.specs.declared.call.Call.{Call}
use Rattle.fjall_machine.specs.declared.call.Call.TheVariants as calls
use Rattle.fjall_machine.specs.declared.call.Call.TheVariants.{ActiveCompactions, ApproximateLen, CompactionsCompleted, JournalCount, JournalDiskSpace, KeyspaceCount, KeyspaceExists, KeyspacesToFlush, L0TableCount, ListKeyspaceNames, OpenSnapshots, OutstandingFlushes, SealedMemtableCount, Seqno, TableCount, VisibleSeqno, WriteBufferSize}
use Rattle.fjall_machine.specs.Shapes.{DiskSpace, Entries, Flushes, JournalSpace, Journals, Keyspaces, MergesDone, MergesOut, Next, OpenTickets, SealedMemtables, Tables, TablesL0, Visible, WantsRotation, WriteBuffer, shape_of}
use Rattle.fjall_engine.specs.Jobs.{IsCount}
use Rattle.fjall_engine.proofs.CallsInMemory.{flag_owes, flag_serves, number_owes, number_serves}
use Rattle.fjall_engine.proofs.engine.Engine.serve_count.Goals as goal

pub returns-in-KeyspaceCount-clause-serves : goal.returns-in-KeyspaceCount-clause-serves
returns-in-KeyspaceCount-clause-serves g c = λ _. number_serves c.args.self.now (shape_of c.args.call) Keyspaces c.keyspace_count.result (ap shape_of c.in-KeyspaceCount.is) (ap Number c.keyspace_count.ensures.held)

pub returns-in-KeyspaceCount-clause-owes : goal.returns-in-KeyspaceCount-clause-owes
returns-in-KeyspaceCount-clause-owes g c = number_owes c.args.self.now (shape_of c.args.call) Keyspaces c.keyspace_count.result (ap shape_of c.in-KeyspaceCount.is) (ap Number c.keyspace_count.ensures.held)

pub returns-in-Seqno-clause-serves : goal.returns-in-Seqno-clause-serves
returns-in-Seqno-clause-serves g c = λ _. number_serves c.args.self.now (shape_of c.args.call) Next c.seqno.result (ap shape_of c.in-Seqno.is) (ap Number c.seqno.ensures.held)

pub returns-in-Seqno-clause-owes : goal.returns-in-Seqno-clause-owes
returns-in-Seqno-clause-owes g c = number_owes c.args.self.now (shape_of c.args.call) Next c.seqno.result (ap shape_of c.in-Seqno.is) (ap Number c.seqno.ensures.held)

pub returns-in-VisibleSeqno-clause-serves : goal.returns-in-VisibleSeqno-clause-serves
returns-in-VisibleSeqno-clause-serves g c = λ _. number_serves c.args.self.now (shape_of c.args.call) Visible c.visible_seqno.result (ap shape_of c.in-VisibleSeqno.is) (ap Number c.visible_seqno.ensures.held)

pub returns-in-VisibleSeqno-clause-owes : goal.returns-in-VisibleSeqno-clause-owes
returns-in-VisibleSeqno-clause-owes g c = number_owes c.args.self.now (shape_of c.args.call) Visible c.visible_seqno.result (ap shape_of c.in-VisibleSeqno.is) (ap Number c.visible_seqno.ensures.held)

pub returns-in-JournalDiskSpace-clause-serves : goal.returns-in-JournalDiskSpace-clause-serves
returns-in-JournalDiskSpace-clause-serves g c = λ _. number_serves c.args.self.now (shape_of c.args.call) JournalSpace c.journal_disk_space.result (ap shape_of c.in-JournalDiskSpace.is) (ap Number c.journal_disk_space.ensures.held)

pub returns-in-JournalDiskSpace-clause-owes : goal.returns-in-JournalDiskSpace-clause-owes
returns-in-JournalDiskSpace-clause-owes g c = number_owes c.args.self.now (shape_of c.args.call) JournalSpace c.journal_disk_space.result (ap shape_of c.in-JournalDiskSpace.is) (ap Number c.journal_disk_space.ensures.held)

pub returns-in-OpenSnapshots-clause-serves : goal.returns-in-OpenSnapshots-clause-serves
returns-in-OpenSnapshots-clause-serves g c = λ _. number_serves c.args.self.now (shape_of c.args.call) OpenTickets c.open_snapshots.result (ap shape_of c.in-OpenSnapshots.is) (ap Number c.open_snapshots.ensures.held)

pub returns-in-OpenSnapshots-clause-owes : goal.returns-in-OpenSnapshots-clause-owes
returns-in-OpenSnapshots-clause-owes g c = number_owes c.args.self.now (shape_of c.args.call) OpenTickets c.open_snapshots.result (ap shape_of c.in-OpenSnapshots.is) (ap Number c.open_snapshots.ensures.held)

pub returns-in-ApproximateLen-clause-serves : goal.returns-in-ApproximateLen-clause-serves
returns-in-ApproximateLen-clause-serves g c = λ _. number_serves c.args.self.now (shape_of c.args.call) (Entries c.in-ApproximateLen.id) c.approximate_len.result (ap shape_of c.in-ApproximateLen.is) (ap Number c.approximate_len.ensures.held)

pub returns-in-ApproximateLen-clause-owes : goal.returns-in-ApproximateLen-clause-owes
returns-in-ApproximateLen-clause-owes g c = number_owes c.args.self.now (shape_of c.args.call) (Entries c.in-ApproximateLen.id) c.approximate_len.result (ap shape_of c.in-ApproximateLen.is) (ap Number c.approximate_len.ensures.held)

pub returns-in-SealedMemtableCount-clause-serves : goal.returns-in-SealedMemtableCount-clause-serves
returns-in-SealedMemtableCount-clause-serves g c = λ _. number_serves c.args.self.now (shape_of c.args.call) (SealedMemtables c.in-SealedMemtableCount.id) c.sealed_memtable_count.result (ap shape_of c.in-SealedMemtableCount.is) (ap Number c.sealed_memtable_count.ensures.held)

pub returns-in-SealedMemtableCount-clause-owes : goal.returns-in-SealedMemtableCount-clause-owes
returns-in-SealedMemtableCount-clause-owes g c = number_owes c.args.self.now (shape_of c.args.call) (SealedMemtables c.in-SealedMemtableCount.id) c.sealed_memtable_count.result (ap shape_of c.in-SealedMemtableCount.is) (ap Number c.sealed_memtable_count.ensures.held)

pub returns-in-WriteBufferSize-clause-serves : goal.returns-in-WriteBufferSize-clause-serves
returns-in-WriteBufferSize-clause-serves g c = λ _. number_serves c.args.self.now (shape_of c.args.call) WriteBuffer c.write_buffer_size.result (ap shape_of c.in-WriteBufferSize.is) (ap Number c.write_buffer_size.ensures.held)

pub returns-in-WriteBufferSize-clause-owes : goal.returns-in-WriteBufferSize-clause-owes
returns-in-WriteBufferSize-clause-owes g c = number_owes c.args.self.now (shape_of c.args.call) WriteBuffer c.write_buffer_size.result (ap shape_of c.in-WriteBufferSize.is) (ap Number c.write_buffer_size.ensures.held)

pub returns-in-WantsRotation-clause-serves : goal.returns-in-WantsRotation-clause-serves
returns-in-WantsRotation-clause-serves g c = λ _. flag_serves c.args.self.now (shape_of c.args.call) (WantsRotation c.in-WantsRotation.id) c.wants_rotation.result (ap shape_of c.in-WantsRotation.is) (ap Flag c.wants_rotation.ensures.held)

pub returns-in-WantsRotation-clause-owes : goal.returns-in-WantsRotation-clause-owes
returns-in-WantsRotation-clause-owes g c = flag_owes c.args.self.now (shape_of c.args.call) (WantsRotation c.in-WantsRotation.id) c.wants_rotation.result (ap shape_of c.in-WantsRotation.is) (ap Flag c.wants_rotation.ensures.held)

pub returns-in-JournalCount-clause-serves : goal.returns-in-JournalCount-clause-serves
returns-in-JournalCount-clause-serves g c = λ _. number_serves c.args.self.now (shape_of c.args.call) Journals c.journal_count.result (ap shape_of c.in-JournalCount.is) (ap Number c.journal_count.ensures.held)

pub returns-in-JournalCount-clause-owes : goal.returns-in-JournalCount-clause-owes
returns-in-JournalCount-clause-owes g c = number_owes c.args.self.now (shape_of c.args.call) Journals c.journal_count.result (ap shape_of c.in-JournalCount.is) (ap Number c.journal_count.ensures.held)

pub returns-in-TableCount-clause-serves : goal.returns-in-TableCount-clause-serves
returns-in-TableCount-clause-serves g c = λ _. number_serves c.args.self.now (shape_of c.args.call) (Tables c.in-TableCount.id) c.table_count.result (ap shape_of c.in-TableCount.is) (ap Number c.table_count.ensures.held)

pub returns-in-TableCount-clause-owes : goal.returns-in-TableCount-clause-owes
returns-in-TableCount-clause-owes g c = number_owes c.args.self.now (shape_of c.args.call) (Tables c.in-TableCount.id) c.table_count.result (ap shape_of c.in-TableCount.is) (ap Number c.table_count.ensures.held)

pub returns-in-L0TableCount-clause-serves : goal.returns-in-L0TableCount-clause-serves
returns-in-L0TableCount-clause-serves g c = λ _. number_serves c.args.self.now (shape_of c.args.call) (TablesL0 c.in-L0TableCount.id) c.l0_table_count.result (ap shape_of c.in-L0TableCount.is) (ap Number c.l0_table_count.ensures.held)

pub returns-in-L0TableCount-clause-owes : goal.returns-in-L0TableCount-clause-owes
returns-in-L0TableCount-clause-owes g c = number_owes c.args.self.now (shape_of c.args.call) (TablesL0 c.in-L0TableCount.id) c.l0_table_count.result (ap shape_of c.in-L0TableCount.is) (ap Number c.l0_table_count.ensures.held)

pub returns-in-DiskSpace-clause-serves : goal.returns-in-DiskSpace-clause-serves
returns-in-DiskSpace-clause-serves g c = λ _. number_serves c.args.self.now (shape_of c.args.call) (DiskSpace c.in-DiskSpace.id) c.disk_space.result (ap shape_of c.in-DiskSpace.is) (ap Number c.disk_space.ensures.held)

pub returns-in-DiskSpace-clause-owes : goal.returns-in-DiskSpace-clause-owes
returns-in-DiskSpace-clause-owes g c = number_owes c.args.self.now (shape_of c.args.call) (DiskSpace c.in-DiskSpace.id) c.disk_space.result (ap shape_of c.in-DiskSpace.is) (ap Number c.disk_space.ensures.held)

pub returns-in-OutstandingFlushes-clause-serves : goal.returns-in-OutstandingFlushes-clause-serves
returns-in-OutstandingFlushes-clause-serves g c = λ _. number_serves c.args.self.now (shape_of c.args.call) Flushes c.outstanding_flushes.result (ap shape_of c.in-OutstandingFlushes.is) (ap Number c.outstanding_flushes.ensures.held)

pub returns-in-OutstandingFlushes-clause-owes : goal.returns-in-OutstandingFlushes-clause-owes
returns-in-OutstandingFlushes-clause-owes g c = number_owes c.args.self.now (shape_of c.args.call) Flushes c.outstanding_flushes.result (ap shape_of c.in-OutstandingFlushes.is) (ap Number c.outstanding_flushes.ensures.held)

pub returns-in-ActiveCompactions-clause-serves : goal.returns-in-ActiveCompactions-clause-serves
returns-in-ActiveCompactions-clause-serves g c = λ _. number_serves c.args.self.now (shape_of c.args.call) MergesOut c.active_compactions.result (ap shape_of c.in-ActiveCompactions.is) (ap Number c.active_compactions.ensures.held)

pub returns-in-ActiveCompactions-clause-owes : goal.returns-in-ActiveCompactions-clause-owes
returns-in-ActiveCompactions-clause-owes g c = number_owes c.args.self.now (shape_of c.args.call) MergesOut c.active_compactions.result (ap shape_of c.in-ActiveCompactions.is) (ap Number c.active_compactions.ensures.held)

pub returns-in-CompactionsCompleted-clause-serves : goal.returns-in-CompactionsCompleted-clause-serves
returns-in-CompactionsCompleted-clause-serves g c = λ _. number_serves c.args.self.now (shape_of c.args.call) MergesDone c.compactions_completed.result (ap shape_of c.in-CompactionsCompleted.is) (ap Number c.compactions_completed.ensures.held)

pub returns-in-CompactionsCompleted-clause-owes : goal.returns-in-CompactionsCompleted-clause-owes
returns-in-CompactionsCompleted-clause-owes g c = number_owes c.args.self.now (shape_of c.args.call) MergesDone c.compactions_completed.result (ap shape_of c.in-CompactionsCompleted.is) (ap Number c.compactions_completed.ensures.held)

pub unreachable-requires : goal.unreachable-requires
unreachable-requires g c = by c.args.call refl
  where
    by : (call : Call) → c.args.call ≡ call → ⊥
    by KeyspaceCount is = absurd (c.in_default.not-KeyspaceCount is)
    by ListKeyspaceNames is = absurd (c.in_default.not-ListKeyspaceNames is)
    by (KeyspaceExists name) is = absurd (c.in_default.not-KeyspaceExists name is)
    by Seqno is = absurd (c.in_default.not-Seqno is)
    by VisibleSeqno is = absurd (c.in_default.not-VisibleSeqno is)
    by JournalCount is = absurd (c.in_default.not-JournalCount is)
    by JournalDiskSpace is = absurd (c.in_default.not-JournalDiskSpace is)
    by OpenSnapshots is = absurd (c.in_default.not-OpenSnapshots is)
    by (ApproximateLen id) is = absurd (c.in_default.not-ApproximateLen id is)
    by (SealedMemtableCount id) is = absurd (c.in_default.not-SealedMemtableCount id is)
    by WriteBufferSize is = absurd (c.in_default.not-WriteBufferSize is)
    by (calls.WantsRotation id) is = absurd (c.in_default.not-WantsRotation id is)
    by (TableCount id) is = absurd (c.in_default.not-TableCount id is)
    by (L0TableCount id) is = absurd (c.in_default.not-L0TableCount id is)
    by (calls.DiskSpace id) is = absurd (c.in_default.not-DiskSpace id is)
    by OutstandingFlushes is = absurd (c.in_default.not-OutstandingFlushes is)
    by ActiveCompactions is = absurd (c.in_default.not-ActiveCompactions is)
    by CompactionsCompleted is = absurd (c.in_default.not-CompactionsCompleted is)
    by KeyspacesToFlush is = absurd (c.in_default.not-KeyspacesToFlush is)
    by call is = subst (λ (call : Call). IsCount (shape_of call)) is c.requires
